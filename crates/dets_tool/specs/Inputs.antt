-- What both kinds of inputs have in common.
use Rattle.std.proofs.Common.{ℕ, false, [], inl, refl, arith}
use Rattle.feed_model.specs.Meaning.{goes_on, no_term}
use Rattle.etf_model.specs.declared.fault.EtfFault.{EtfFault}
use Rattle.etf_model.specs.declared.fault.EtfFault.TheVariants.{Memory}
use Rattle.etf_model.specs.SpellingExact.{spelling-exact}
use Rattle.etf_model.specs.SpellingFeed.{stands as spelling_stands}
use Rattle.text_model.specs.declared.fault.TextFault.{TextFault}
use Rattle.text_model.specs.declared.fault.TextFault.TheVariants.{Syntax, Memory as TextMemory}
use Rattle.text_model.specs.TextFeed.{stands as text_stands}
use Rattle.text_model.proofs.ScriptFronts.{nothing_fed}
use Rattle.dets_tool.specs.Status.{status_of_text, status_of_spelling, IsRefusal}

-- a fault refuses the input, or is want of memory
pub text_refusal : (fault : TextFault) (fed : ℕ) → IsRefusal (status_of_text fault fed)
text_refusal (Syntax at why) fed = tt
text_refusal TextMemory fed = tt

pub spelling_refusal : (fault : EtfFault) (fed : ℕ) → IsRefusal (status_of_spelling fault fed)
spelling_refusal Memory fed = tt
spelling_refusal fault fed = tt

-- where nothing was fed yet the input goes on
pub no_spelling : spelling_stands false 0 [] (no_term goes_on)
no_spelling = (refl, omega arith, spelling-exact.read_part 0 (record { offset = 0; left = [] }) refl)

pub no_text : text_stands false 0 [] (no_term goes_on)
no_text = (refl, inl nothing_fed)
