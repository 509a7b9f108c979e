use Rattle.std.proofs.Common.{ap, ◌∙◌, arith, Ok}
use Rattle.std.specs.Prelude.{flat_map}
use Rattle.dets_term.specs.TermValue.{bits}
use Rattle.dets_term.specs.BitString.{byte_bits}
use Rattle.text_nest.proofs.Closings.{made_term, bits_made}
use Rattle.text_nest.proofs.LastBits.{bits_of-whole}
use Rattle.text_nest.proofs.closing.whole_bits.Goals as goal

pub returns : goal.returns
returns c = made_term c.bits.result c.within_limits.result (bits (flat_map byte_bits c.args.bytes))
    (c.bits.ensures ∙ bits_made c.args.bytes 8 (omega (arith, c.requires)) ∙ ap (λ bs. Ok (bits bs)) (bits_of-whole c.args.bytes)) c.within_limits.ensures.ok
