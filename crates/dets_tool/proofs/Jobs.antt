-- What a run of each job comes to.
use Rattle.std.proofs.Common.{◌≡◌, false, List, ℕ, Option, Some, ◌∙◌, ap}
use Rattle.host_model.specs.Source.{Stream}
use Rattle.etf_model.specs.SpellingFeed.{spellings}
use Rattle.etf_model.specs.SteadySpellings.{steady-spellings}
use Rattle.text_model.specs.TextFeed.{texts}
use Rattle.text_model.proofs.SteadyTexts.{steady-texts}
use Rattle.dets_tool.specs.declared.job.Job.{Job}
use Rattle.dets_tool.specs.declared.job.Job.TheVariants.{Run, Check, Show, Encode, Decode}
use Rattle.dets_tool.specs.declared.status.Status.{Status}
use Rattle.dets_tool.specs.declared.status.Status.TheVariants.{Memory}
use Rattle.dets_tool.specs.Inputs.{text_refusal, spelling_refusal}
use Rattle.dets_tool.specs.Service.{serving, printing, encoding}
use Rattle.dets_tool.specs.Status.{status_of_text, status_of_spelling}
use Rattle.dets_tool.specs.Job.{RanJob, IsWholeInput}
use Rattle.dets_tool.specs.Run.{IsServed}
use Rattle.dets_tool.proofs.InputRuns.{no_input}
use Rattle.dets_tool.proofs.WholeInputs.{whole_is_served}

-- nothing is taken of a stream that goes on
kept : (stream : Stream) → stream.ended ≡ false → stream ≡ record { left = stream.left; ended = false }
kept stream e = ap (λ ended. record { left = stream.left; ended = ended }) e

-- where there is no memory for the words
pub no_words_kept : (job : Job) (stream : Stream) (now : Option Stream) (said : Option (List ℕ)) → now ≡ Some stream → stream.ended ≡ false
    → RanJob job Memory stream.left now said said
no_words_kept (Run file) stream now said told ended = no_input texts status_of_text serving steady-texts text_refusal stream now said told ended
no_words_kept (Check file) stream now said told ended = told ∙ ap Some (kept stream ended)
no_words_kept Show stream now said told ended = no_input texts status_of_text printing steady-texts text_refusal stream now said told ended
no_words_kept Encode stream now said told ended = no_input texts status_of_text encoding steady-texts text_refusal stream now said told ended
no_words_kept Decode stream now said told ended =
    no_input spellings status_of_spelling printing steady-spellings spelling_refusal stream now said told ended

-- a whole input is served, unless a device or the memory fails
pub whole_job_is_served : (job : Job) (input : List ℕ) → IsWholeInput job input → (status : Status) (after : Option Stream) (said now : Option (List ℕ))
    → RanJob job status input after said now → IsServed status
whole_job_is_served (Run file) input whole status after said now r =
    whole_is_served texts steady-texts status_of_text serving input whole status after said now r
whole_job_is_served (Check file) input whole status after said now r = absurd whole
whole_job_is_served Show input whole status after said now r =
    whole_is_served texts steady-texts status_of_text printing input whole status after said now r
whole_job_is_served Encode input whole status after said now r =
    whole_is_served texts steady-texts status_of_text encoding input whole status after said now r
whole_job_is_served Decode input whole status after said now r =
    whole_is_served spellings steady-spellings status_of_spelling printing input whole status after said now r
