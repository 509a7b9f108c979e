use Rattle.std.proofs.Common.{◌≡◌, ◌∙◌, ◌++◌, sym, ap, refl, subst, arith, append_assoc}
use Rattle.std.specs.List.{flat_map}
use Rattle.std.specs.Option.{option_copied}
use Rattle.dets_term.specs.TermValue.{depth}
use Rattle.dets_term.specs.Node.{shown, IsSound}
use Rattle.dets_term.specs.Parts.{deepest_bounds}
use Rattle.etf_model.specs.Canonical.{canonical}
use Rattle.etf_model.specs.CanonicalWholes.{canonical-tuple, canonical-map}
use Rattle.etf_codec.proofs.CanonicalParts.{written-more, written-all, element_within}
use Rattle.etf_codec.proofs.CanonicalLists.{canonical-string, canonical-list, canonical-improper, tuple-fits, list-fits, improper-fits, map-fits, bits-fit}
use Rattle.etf_codec.proofs.CanonicalLists.{tuple-falls, list-falls, map-falls, improper-falls, pair-falls}
use Rattle.etf_codec.proofs.encoding.+encode.Goals.{encode_each-in-Some+in_ok-encode_term, encode_each-in_default}
use Rattle.etf_codec.proofs.encoding.+encode.Goals.{encode_pairs-in-Some+in_ok-encode_term+in_ok-encode_term-2, encode_pairs-in_default}
use Rattle.etf_codec.proofs.encoding.+encode.Goals as goal

pub encode_each-encode_term-requires : goal.encode_each-encode_term-requires
encode_each-encode_term-requires t c =
    let less = deepest_bounds c.args.parts.now c.loop-index.index c.in-Some.part.now (sym c.get.ensures ∙ ap option_copied c.in-Some.is) in
    (omega arith, tt)

pub encode_each-loop-index-preserved : goal.encode_each-loop-index-preserved
encode_each-loop-index-preserved t c =
    elim c.match-get.branch [
      | encode_each-in-Some+in_ok-encode_term w ↦
          written-more (flat_map canonical) canonical (λ t ts. refl) c.loop-index.out _ _ c.args.parts.now c.loop-index.index w.in-Some.part.now
          (sym c.get.ensures ∙ ap option_copied w.in-Some.is) c.loop-index.invariant (w.out-is ∙ w.in_ok-encode_term.ensures)
      | encode_each-in_default w ↦
          absurd (element_within c.args.parts.now c.loop-index.index (omega arith) (sym c.get.ensures ∙ ap option_copied w.in_default.is))
    ]

pub encode_each-returns : goal.encode_each-returns
encode_each-returns t c =
    written-all (flat_map canonical) refl c.loop-index.out _ c.args.parts.now c.loop-index.index (omega arith) c.loop-index.invariant

pub encode_list-returns-then-are_bytes : goal.encode_list-returns-then-are_bytes
encode_list-returns-then-are_bytes t c =
    rw (canonical-string c.args.parts.now (omega arith) (sym c.are_bytes.ensures ∙ c.if-are_bytes.true)) c.encode_string.ensures

pub encode_list-returns : goal.encode_list-returns
encode_list-returns t c =
    rw (canonical-list c.args.parts.now (omega arith) (sym c.are_bytes.ensures ∙ c.if-are_bytes.false))
    (simp append_assoc at (rw (c.in_ok-encode_each.ensures, c.in_ok-encode_head.ensures, c.len-2.ensures) at c.push-2.ensures.ok))

pub encode_pairs-encode_term-requires : goal.encode_pairs-encode_term-requires
encode_pairs-encode_term-requires t c =
    let less = pair-falls c.args.pairs.now c.loop-index.index c.in-Some.pair.now (sym c.get.ensures ∙ ap option_copied c.in-Some.is) in
    (omega arith, tt)

pub encode_pairs-encode_term-requires-in-Some : goal.encode_pairs-encode_term-requires-in-Some
encode_pairs-encode_term-requires-in-Some t c =
    let less = pair-falls c.args.pairs.now c.loop-index.index c.in-Some.pair.now (sym c.get.ensures ∙ ap option_copied c.in-Some.is) in
    (omega arith, tt)

pub encode_pairs-loop-index-preserved : goal.encode_pairs-loop-index-preserved
encode_pairs-loop-index-preserved t c =
    elim c.match-get.branch [
      | encode_pairs-in-Some+in_ok-encode_term+in_ok-encode_term-2 w ↦
          written-more (flat_map (λ p. canonical p.0 ++ canonical p.1)) (λ p. canonical p.0 ++ canonical p.1)
          (λ p ps. refl) c.loop-index.out _ _ c.args.pairs.now
          c.loop-index.index w.in-Some.pair.now (sym c.get.ensures ∙ ap option_copied w.in-Some.is) c.loop-index.invariant
          (w.out-is ∙ w.in_ok-encode_term-2.ensures ∙ ap (λ bytes. bytes ++ canonical w.in-Some.pair.now.1) w.in_ok-encode_term.ensures
          ∙ append_assoc c.loop-index.out (canonical w.in-Some.pair.now.0) (canonical w.in-Some.pair.now.1))
      | encode_pairs-in_default w ↦
          absurd (element_within c.args.pairs.now c.loop-index.index (omega arith) (sym c.get.ensures ∙ ap option_copied w.in_default.is))
    ]

pub encode_pairs-returns : goal.encode_pairs-returns
encode_pairs-returns t c =
    written-all (flat_map (λ p. canonical p.0 ++ canonical p.1)) refl c.loop-index.out _ c.args.pairs.now c.loop-index.index
    (omega arith) c.loop-index.invariant

pub encode_term-encode_arity-requires : goal.encode_term-encode_arity-requires
encode_term-encode_arity-requires t c =
    omega (arith, tuple-fits c.args.term.now c.in-Tuple.parts (sym c.node.ensures.value ∙ ap shown c.in-Tuple.is) c.depth-levels.ensures.term)

pub encode_term-encode_each-requires : goal.encode_term-encode_each-requires
encode_term-encode_each-requires t c =
    let falls = tuple-falls c.args.term.now c.in-Tuple.parts (sym c.node.ensures.value ∙ ap shown c.in-Tuple.is) in (omega arith, tt)

pub encode_term-encode_head-requires : goal.encode_term-encode_head-requires
encode_term-encode_head-requires t c =
    omega (arith, map-fits c.args.term.now c.in-Map.pairs (sym c.node.ensures.value ∙ ap shown c.in-Map.is) c.depth-levels.ensures.term)

pub encode_term-encode_pairs-requires : goal.encode_term-encode_pairs-requires
encode_term-encode_pairs-requires t c =
    let falls = map-falls c.args.term.now c.in-Map.pairs (sym c.node.ensures.value ∙ ap shown c.in-Map.is) in (omega arith, tt)

pub encode_term-encode_list-requires : goal.encode_term-encode_list-requires
encode_term-encode_list-requires t c =
    let e = sym c.node.ensures.value ∙ ap shown c.in-List.is in
    let falls = list-falls c.args.term.now c.in-List.parts e in
    (omega arith, list-fits c.args.term.now c.in-List.parts e c.depth-levels.ensures.term)

pub encode_term-encode_head-requires-in-Improper : goal.encode_term-encode_head-requires-in-Improper
encode_term-encode_head-requires-in-Improper t c =
    let sound = subst IsSound c.in-Improper.is c.node.ensures.sound in
    omega (
      arith,
      improper-fits c.args.term.now c.in-Improper.parts c.in-Improper.tail.value sound.1
          (sym c.node.ensures.value ∙ ap shown c.in-Improper.is) c.depth-levels.ensures.term,
    )

pub encode_term-encode_each-requires-in-Improper : goal.encode_term-encode_each-requires-in-Improper
encode_term-encode_each-requires-in-Improper t c =
    let sound = subst IsSound c.in-Improper.is c.node.ensures.sound in
    let falls =
    improper-falls c.args.term.now c.in-Improper.parts c.in-Improper.tail.value sound.0 sound.1 (sym c.node.ensures.value ∙ ap shown c.in-Improper.is) in
    (omega arith, tt)

pub encode_term-encode_term-requires : goal.encode_term-encode_term-requires
encode_term-encode_term-requires t c =
    let sound = subst IsSound c.in-Improper.is c.node.ensures.sound in
    let falls =
    improper-falls c.args.term.now c.in-Improper.parts c.in-Improper.tail.value sound.0 sound.1 (sym c.node.ensures.value ∙ ap shown c.in-Improper.is) in
    let same : depth c.deref.result.now ≡ depth c.in-Improper.tail.value = ap depth c.deref.ensures in
    (omega arith, tt)

pub encode_term-encode_bits-requires-clause-short : goal.encode_term-encode_bits-requires-clause-short
encode_term-encode_bits-requires-clause-short t c =
    let sound = subst IsSound c.in-Bits.is c.node.ensures.sound in
    rw c.as_slice.ensures (bits-fit c.args.term.now c.in-Bits.bytes c.in-Bits.used sound.used
    (sym c.node.ensures.value ∙ ap shown c.in-Bits.is) c.depth-levels.ensures.term)

pub encode_term-returns-in_ok-encode_arity-in-Tuple : goal.encode_term-returns-in_ok-encode_arity-in-Tuple
encode_term-returns-in_ok-encode_arity-in-Tuple t c =
    let value = ap canonical (sym (ap shown c.in-Tuple.is) ∙ c.node.ensures.value) in
    rw (sym value ∙ canonical-tuple c.in-Tuple.parts)
    (simp append_assoc at (rw (c.in_ok-encode_arity-in-Tuple.ensures, c.len.ensures) at c.encode_each.ensures))

pub encode_term-returns-in_ok-encode_head-in-Map : goal.encode_term-returns-in_ok-encode_head-in-Map
encode_term-returns-in_ok-encode_head-in-Map t c =
    let value = ap canonical (sym (ap shown c.in-Map.is) ∙ c.node.ensures.value) in
    rw (sym value ∙ canonical-map c.in-Map.pairs)
    (simp append_assoc at (rw (c.in_ok-encode_head-in-Map.ensures, c.len-in-Map.ensures) at c.encode_pairs.ensures))

pub encode_term-returns-in_ok-encode_each-in-Improper : goal.encode_term-returns-in_ok-encode_each-in-Improper
encode_term-returns-in_ok-encode_each-in-Improper t c =
    let sound = subst IsSound c.in-Improper.is c.node.ensures.sound in
    let value = ap canonical (sym (ap shown c.in-Improper.is) ∙ c.node.ensures.value) in
    rw (sym value ∙ canonical-improper c.in-Improper.parts c.in-Improper.tail.value sound.0 sound.1)
    (simp append_assoc at (rw (c.deref.ensures, c.in_ok-encode_each-in-Improper.ensures, c.in_ok-encode_head-in-Improper.ensures, c.len-in-Improper.ensures) at
    c.encode_term.ensures))
