use Rattle.std.proofs.Common.{◌∷◌, [], ◌++◌, ap, ◌∙◌, arith, Ok, take, length-append}
use Rattle.std.specs.Prelude.{flat_map}
use Rattle.dets_term.specs.TermValue.{bits}
use Rattle.dets_term.specs.BitString.{byte_bits}
use Rattle.dets_term.specs.IsTerm.{bits_built}
use Rattle.text_nest.proofs.Closings.{made_term, bits_made}
use Rattle.text_nest.proofs.LastBits.{bits_of-push}
use Rattle.text_nest.proofs.closing.bits_with.Goals as goal

pub returns : goal.returns
returns c =
    let pushed = c.args.bytes ++ c.args.byte ∷ [] in
    made_term c.bits.result c.within_limits.result (bits (flat_map byte_bits c.args.bytes ++ take c.args.count (byte_bits c.args.byte)))
    (c.bits.ensures ∙ ap (λ bs. bits_built bs c.args.count) c.in_ok-push.ensures.ok
    ∙ bits_made pushed c.args.count (omega (arith, length-append c.args.bytes (c.args.byte ∷ []), c.requires.bytes))
    ∙ ap (λ bs. Ok (bits bs)) (bits_of-push c.args.bytes c.args.byte c.args.count)) c.within_limits.ensures.ok
