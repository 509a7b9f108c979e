use Rattle.std.proofs.Common.{◌∙◌, ◌+◌, ◌&&◌, sym, ap, arith, length, drop}
use Rattle.std.specs.List.{list_all}
use Rattle.std.proofs.lemmas.Bool.{and_from, and_left, and_right, le-leb}
use Rattle.etf_model.specs.Canonical.{is_byte}
use Rattle.etf_codec.proofs.CanonicalParts.{drop-get, drop-end, looked-at, byte-is_some}
use Rattle.etf_codec.proofs.encoding.are_bytes.Goals as goal

pub returns-then-is_none : goal.returns-then-is_none
returns-then-is_none c =
    let seen = looked-at c.args.parts.now c.loop-index.index c.get.result c.and_then.result c.get.ensures (omega arith) c.and_then.ensures in
    let here = drop-get c.args.parts.now c.loop-index.index seen.term seen.here in
    let other = sym (byte-is_some seen.term c.and_then.result seen.value) ∙ c.if-is_none.ensures in
    sym (and_right _ _ (sym c.loop-index.invariant ∙ ap (list_all is_byte) here ∙ and_left _ _ other))

pub loop-index-preserved : goal.loop-index-preserved
loop-index-preserved c =
    let seen = looked-at c.args.parts.now c.loop-index.index c.get.result c.and_then.result c.get.ensures (omega arith) c.and_then.ensures in
    let here = drop-get c.args.parts.now c.loop-index.index seen.term seen.here in
    let byte = sym (byte-is_some seen.term c.and_then.result seen.value) ∙ c.if-is_none.ensures in
    sym (ap (list_all is_byte) here ∙ ap (λ b. b && list_all is_byte (drop (c.loop-index.index + 1) c.args.parts.now)) byte) ∙ c.loop-index.invariant

pub returns : goal.returns
returns c =
    let left = drop-end c.args.parts.now c.loop-index.index (omega arith) in
    sym (and_from _ _ (le-leb (length c.args.parts.now) 65535 (omega arith)) (sym c.loop-index.invariant ∙ ap (list_all is_byte) left))
