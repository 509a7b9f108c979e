use Rattle.std.specs.Int.{w128}
use Rattle.std.proofs.lemmas.Int.{to_z-of_z}
use Rattle.std.proofs.lemmas.Result.{OkIff-at_err}
use Rattle.etf_codec.proofs.CanonicalParts.{integer_spelling-big}
use Rattle.etf_codec.proofs.encoding.encode_integer.Goals as goal

pub returns : goal.returns
returns c =
    let same = to_z-of_z w128 c.args.value c.ranges.value in
    rw (integer_spelling-big c.args.value (λ fits. OkIff-at_err c.try_from-2.result _ _ _ c.try_from-2.ensures c.in_default-try_from.is (rw same fits)))
    (rw (c.from.ensures, c.unsigned_abs.ensures.value, same) at c.encode_big.ensures)
