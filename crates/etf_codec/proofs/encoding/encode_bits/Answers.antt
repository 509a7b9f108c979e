use Rattle.std.proofs.Common.{arith, append_assoc}
use Rattle.etf_codec.proofs.Packing.{bits_spelling-whole, bits_spelling-padded}
use Rattle.etf_codec.proofs.encoding.encode_bits.Goals as goal

pub returns-then-used-eq8 : goal.returns-then-used-eq8
returns-then-used-eq8 c =
    rw (bits_spelling-whole c.args.bytes.now c.args.used c.if-used-eq8.true (λ i. let h = c.type_inv.bytes i in omega arith) c.requires.padded)
    (simp append_assoc at (rw c.in_ok-encode_head.ensures at c.extend_from_slice.ensures.ok))

pub returns : goal.returns
returns c =
    rw (bits_spelling-padded c.args.bytes.now c.args.used (omega arith) (λ i. let h = c.type_inv.bytes i in omega arith) c.requires.padded)
    (simp append_assoc at (rw (c.in_ok-push.ensures.ok, c.in_ok-encode_head-2.ensures) at c.extend_from_slice-2.ensures.ok))
