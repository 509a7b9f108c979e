use Rattle.std.proofs.Common.{◌∙◌, ◌++◌, ◌∷◌, [], sym, ap, refl, arith, map, append_assoc}
use Rattle.std.proofs.lemmas.Bool.{and_parts, cond-true}
use Rattle.etf_model.specs.Canonical.{byte_value}
use Rattle.etf_codec.proofs.CanonicalParts.{written-more, written-all, looked-at, byte-some, all_bytes-at}
use Rattle.etf_codec.proofs.encoding.encode_string.Goals.{in-Some+in_ok-push-2, in_default}
use Rattle.etf_codec.proofs.encoding.encode_string.Goals as goal

pub loop-index-preserved : goal.loop-index-preserved
loop-index-preserved c =
    let seen = looked-at c.args.parts.now c.loop-index.index c.get.result c.and_then.result c.get.ensures (omega arith) c.and_then.ensures in
    let all = (and_parts _ _ c.requires).1 in
    let byte = all_bytes-at c.args.parts.now c.loop-index.index seen.term all seen.here in
    elim c.match-and_then.branch [
      | in-Some+in_ok-push-2 w ↦
          let value = byte-some seen.term w.in-Some.byte (sym w.in-Some.is ∙ seen.value) in
          written-more (map byte_value) (λ t. byte_value t ∷ []) (λ t ts. refl) c.loop-index.out _ _ c.args.parts.now c.loop-index.index seen.term seen.here
          c.loop-index.invariant (w.out-is ∙ w.in_ok-push-2.ensures.ok ∙ ap (λ x. c.loop-index.out ++ x ∷ []) value.1)
      | in_default w ↦ absurd (w.in_default.not-Some (byte_value seen.term) (seen.value ∙ cond-true _ _ _ byte))
    ]

pub returns : goal.returns
returns c =
    simp append_assoc at (rw (c.in_ok-extend_from_slice.ensures.ok, c.to_be_bytes.ensures, c.len.ensures, c.in_ok-push.ensures.ok) at
    (written-all (map byte_value) refl c.loop-index.out _ c.args.parts.now c.loop-index.index (omega arith) c.loop-index.invariant))
