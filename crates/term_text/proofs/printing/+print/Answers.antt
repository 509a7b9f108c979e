use Rattle.std.proofs.Common.{◌≡◌, ◌∷◌, ◌++◌, [], ap, sym, ◌∙◌, subst, arith, append_assoc, append-nil}
use Rattle.std.specs.List.{join_by}
use Rattle.std.specs.Option.{option_copied}
use Rattle.dets_term.specs.TermValue.{parts_depth, depth}
use Rattle.dets_term.specs.Node.{shown, IsSound}
use Rattle.dets_term.specs.Parts.{deepest_bounds}
use Rattle.text_model.specs.Printed.{printed}
use Rattle.term_text.proofs.Elements.{left_from-end, first_printed, next_printed, element_within, elements_fall, printed-list, printed-improper}
use Rattle.term_text.proofs.Elements.{improper_falls, printed_entry, printed-map, entry_printed, map_falls, pair_falls}
use Rattle.term_text.proofs.Joined.{left_of-end, first_part, next_part}
use Rattle.term_text.proofs.printing.+print.Goals as goal
use Rattle.term_text.proofs.printing.+print.Goals.{print_elements-then-place-gt0+in_ok-push, print_elements-else-place-gt0}
use Rattle.term_text.proofs.printing.+print.Goals.{print_elements-in-Some+in_ok-print_term, print_elements-in_default}
use Rattle.term_text.proofs.printing.+print.Goals.{print_map-then-place-gt0+in_ok-push, print_map-else-place-gt0}
use Rattle.term_text.proofs.printing.+print.Goals.{print_map-in-Some+in_ok-print_term+in_ok-extend_from_slice-2+in_ok-print_term-2}
use Rattle.term_text.proofs.printing.+print.Goals.{print_map-in_default}

pub print_term-print_elements-requires : goal.print_term-print_elements-requires
print_term-print_elements-requires t c =
    let less = elements_fall c.args.term.now c.in-Tuple.parts (ap parts_depth (sym c.node.ensures.value ∙ ap shown c.in-Tuple.is)) in (omega arith, tt)

pub print_term-print_elements-requires-in-List : goal.print_term-print_elements-requires-in-List
print_term-print_elements-requires-in-List t c =
    let less = elements_fall c.args.term.now c.in-List.parts (ap parts_depth (sym c.node.ensures.value ∙ ap shown c.in-List.is)) in (omega arith, tt)

pub print_elements-print_term-requires : goal.print_elements-print_term-requires
print_elements-print_term-requires t c =
    let less = deepest_bounds c.args.parts.now c.loop-place.place c.in-Some.part.now (sym c.get.ensures ∙ ap option_copied c.in-Some.is) in
    (omega arith, tt)

pub print_elements-loop-place-preserved : goal.print_elements-loop-place-preserved
print_elements-loop-place-preserved t c =
    elim c.match-get.branch [
      | print_elements-in-Some+in_ok-print_term w ↦
          let element = sym c.get.ensures ∙ ap option_copied w.in-Some.is in
          elim c.if-place-gt0.branch [
            | print_elements-then-place-gt0+in_ok-push v ↦
                next_printed _ _ _ _ c.loop-place.place c.args.parts.now _ v.if-place-gt0.true element (v.out-is ∙ v.in_ok-push.ensures.ok)
                (w.out-is ∙ w.in_ok-print_term.ensures)
                ∙ c.loop-place.invariant
            | print_elements-else-place-gt0 v ↦
                first_printed _ _ _ _ c.loop-place.place c.args.parts.now _ (omega arith) element v.out-is (w.out-is ∙ w.in_ok-print_term.ensures)
                ∙ c.loop-place.invariant
          ]
      | print_elements-in_default w ↦
          absurd (element_within c.args.parts.now c.loop-place.place (omega arith) (sym c.get.ensures ∙ ap option_copied w.in_default.is))
    ]

pub print_elements-returns : goal.print_elements-returns
print_elements-returns t c =
    let ended = left_from-end (c.args.closing ∷ []) c.loop-place.place c.args.parts.now (omega arith) in
    rw (sym (ap (λ left. c.loop-place.out ++ left) ended) ∙ c.loop-place.invariant) at c.push-2.ensures.ok

pub print_term-returns-in_ok-push-in-List : goal.print_term-returns-in_ok-push-in-List
print_term-returns-in_ok-push-in-List t c =
    let value = ap printed (sym (ap shown c.in-List.is) ∙ c.node.ensures.value) in
    rw (sym value ∙ printed-list c.in-List.parts) (simp append_assoc at (rw c.in_ok-push-in-List.ensures.ok at c.print_elements-in-List.ensures))

pub print_term-print_map-requires : goal.print_term-print_map-requires
print_term-print_map-requires t c =
    let less = map_falls c.args.term.now c.in-Map.pairs (sym c.node.ensures.value ∙ ap shown c.in-Map.is) in (omega arith, tt)

pub print_map-print_term-requires : goal.print_map-print_term-requires
print_map-print_term-requires t c =
    let less = pair_falls c.args.pairs.now c.loop-place.place c.in-Some.pair.now (sym c.get.ensures ∙ ap option_copied c.in-Some.is) in
    (omega arith, tt)

pub print_map-print_term-requires-in-Some : goal.print_map-print_term-requires-in-Some
print_map-print_term-requires-in-Some t c =
    let less = pair_falls c.args.pairs.now c.loop-place.place c.in-Some.pair.now (sym c.get.ensures ∙ ap option_copied c.in-Some.is) in
    (omega arith, tt)

pub print_map-loop-place-preserved : goal.print_map-loop-place-preserved
print_map-loop-place-preserved t c =
    elim c.match-get.branch [
      | print_map-in-Some+in_ok-print_term+in_ok-extend_from_slice-2+in_ok-print_term-2 w ↦
          let pair = sym c.get.ensures ∙ ap option_copied w.in-Some.is in
          let printed_here = w.out-is ∙ entry_printed c.if-place-gt0.out _ _ _ w.in-Some.pair.now w.in_ok-print_term.ensures
          w.in_ok-extend_from_slice-2.ensures.ok w.in_ok-print_term-2.ensures in
          elim c.if-place-gt0.branch [
            | print_map-then-place-gt0+in_ok-push v ↦
                next_part printed_entry _ _ _ c.loop-place.place c.args.pairs.now _ v.if-place-gt0.true pair (v.out-is ∙ v.in_ok-push.ensures.ok) printed_here
                ∙ c.loop-place.invariant
            | print_map-else-place-gt0 v ↦
                first_part printed_entry _ _ _ c.loop-place.place c.args.pairs.now _ (omega arith) pair v.out-is printed_here
                ∙ c.loop-place.invariant
          ]
      | print_map-in_default w ↦
          absurd (element_within c.args.pairs.now c.loop-place.place (omega arith) (sym c.get.ensures ∙ ap option_copied w.in_default.is))
    ]

pub print_map-returns : goal.print_map-returns
print_map-returns t c =
    let ended = left_of-end printed_entry c.loop-place.place c.args.pairs.now (omega arith) in
    let inside : c.loop-place.out ≡ c.extend_from_slice.new.self ++ join_by printed_entry (44 ∷ []) c.args.pairs.now
    = sym (append-nil c.loop-place.out) ∙ sym (ap (λ left. c.loop-place.out ++ left) ended) ∙ c.loop-place.invariant in
    rw (printed-map c.args.pairs.now) (simp append_assoc at (rw (inside, c.in_ok-extend_from_slice.ensures.ok) at c.push-2.ensures.ok))

pub print_term-print_elements-requires-in-Improper : goal.print_term-print_elements-requires-in-Improper
print_term-print_elements-requires-in-Improper t c =
    let sound = subst IsSound c.in-Improper.is c.node.ensures.sound in
    let less = improper_falls c.args.term.now c.in-Improper.parts c.in-Improper.tail.value
    (sym c.node.ensures.value ∙ ap shown c.in-Improper.is) sound.0 sound.1 in
    (omega arith, tt)

pub print_term-print_term-requires : goal.print_term-print_term-requires
print_term-print_term-requires t c =
    let sound = subst IsSound c.in-Improper.is c.node.ensures.sound in
    let less = improper_falls c.args.term.now c.in-Improper.parts c.in-Improper.tail.value
    (sym c.node.ensures.value ∙ ap shown c.in-Improper.is) sound.0 sound.1 in
    let same : depth c.deref.result.now ≡ depth c.in-Improper.tail.value = ap depth c.deref.ensures in
    (omega arith, tt)

pub print_term-returns-in_ok-print_term-in-Improper : goal.print_term-returns-in_ok-print_term-in-Improper
print_term-returns-in_ok-print_term-in-Improper t c =
    let sound = subst IsSound c.in-Improper.is c.node.ensures.sound in
    let value = ap printed (sym c.node.ensures.value ∙ ap shown c.in-Improper.is) in
    rw (value ∙ printed-improper c.in-Improper.parts c.in-Improper.tail.value sound.0 sound.1)
    (simp append_assoc at (rw (
      c.in_ok-print_term-in-Improper.ensures,
      c.in_ok-print_elements-in-Improper.ensures,
      c.in_ok-push-in-Improper.ensures.ok,
      c.deref.ensures,
    ) at c.push-in-Improper-2.ensures.ok))
