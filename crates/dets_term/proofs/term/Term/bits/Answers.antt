use Rattle.std.proofs.Common.{sym, arith}
use Rattle.dets_term.proofs.Limited.{limited_ok}
use Rattle.dets_term.proofs.Chains.{length-bits_of}
use Rattle.dets_term.proofs.term.Term.bits.Goals as goal

pub invariant_of-result : goal.invariant_of-result
invariant_of-result c =
    let limits = limited_ok c.len.result 1 1 c.in_ok-level_above.field-0 (sym c.in_ok-level_above.ensures) in
    let size = length-bits_of c.clear_unused.new.self c.args.used in
    (record { shallow = omega arith; bounded = omega (arith, c.clear_unused.ensures.len, limits.0) }, c.clear_unused.ensures.padded)
