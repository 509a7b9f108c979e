use Rattle.std.proofs.Common.{◌≡◌, ◌∙◌, ap, sym, subst, arith, length, get_or}
use Rattle.std.specs.Ordering.{ordering_then, nat_cmp, bool_cmp, is_eq}
use Rattle.std.specs.Cmp.Lexicographic.{slice_cmp}
use Rattle.term_model.specs.BitString.{bits_of, IsPadded}
use Rattle.dets_term.specs.declared.term.Node.{Node}
use Rattle.term_model.specs.TermValue.{TermValue, chain}
use Rattle.term_model.specs.Order.{order, rank}
use Rattle.dets_term.specs.Fronts.{front_order, ends_order, values}
use Rattle.dets_term.specs.Node.{shown, IsSound}
use Rattle.term_model.specs.Orderings.{decided, undecided}
use Rattle.dets_term.proofs.Fronts.{by_size_alone, past_size, order-proper, order-proper-improper, order-improper-proper, order-improper_ends}
use Rattle.dets_term.proofs.Fronts.{order-improper_longer, order-improper_fronts, order-tuples, order-tuples_differ, order-maps_by_fronts, front_decided}
use Rattle.dets_term.proofs.Fronts.{front_goes_on, front_all, mapped_decided, mapped_goes_on, mapped_all}
use Rattle.dets_term.proofs.NodeKinds.{kind, order-kinds, not_int, not_atom, not_tuple, not_map, not_list, not_bits}
use Rattle.dets_term.proofs.order.+compare.Goals as goal
use Rattle.dets_term.proofs.order.+compare.Goals.{cmp-in_default-via-in-Int+in_default, cmp-in_default-via-in-Atom+in_default}
use Rattle.dets_term.proofs.order.+compare.Goals.{cmp-in_default-via-in-Tuple+in_default, cmp-in_default-via-in-Map+in_default}
use Rattle.dets_term.proofs.order.+compare.Goals.{cmp-in_default-via-in-List+in_default, cmp-in_default-via-in-Improper+in_default}
use Rattle.dets_term.proofs.order.+compare.Goals.{cmp-in_default-via-in-Bits+in_default, cmp-else-is_eq-via-then-is_eq+else-len-2}
use Rattle.dets_term.proofs.order.+compare.Goals.{cmp-else-is_eq-via-else-is_eq}

-- what two nodes show is ordered as their terms are
terms : {a b : TermValue} {m n : Node} (x y : Node) → shown m ≡ a → shown n ≡ b → m ≡ x → n ≡ y → order (shown x) (shown y) ≡ order a b
terms x y va vb em en i = order ((ap shown (sym em) ∙ va) i) ((ap shown (sym en) ∙ vb) i)

pub cmp-returns-then-len : goal.cmp-returns-then-len
cmp-returns-then-len t c =
    c.cmp_fronts.ensures
    ∙ sym (order-tuples c.in-Tuple-Tuple.parts c.in-Tuple-Tuple.others (sym c.len.ensures ∙ c.if-len.true ∙ c.len-in-Tuple-Tuple.ensures))
    ∙ terms _ _ c.a.view_is c.b.view_is c.in-Tuple-Tuple.is-0 c.in-Tuple-Tuple.is-1

pub cmp-returns-else-len : goal.cmp-returns-else-len
cmp-returns-else-len t c =
    c.cmp-else-len.ensures ∙ (λ i. nat_cmp (c.len-else-len.ensures i) (c.len-else-len-2.ensures i))
    ∙ sym (order-tuples_differ c.in-Tuple-Tuple.parts c.in-Tuple-Tuple.others
    (let d = c.if-len.false in λ e. d (c.len.ensures ∙ e ∙ sym c.len-in-Tuple-Tuple.ensures)))
    ∙ terms _ _ c.a.view_is c.b.view_is c.in-Tuple-Tuple.is-0 c.in-Tuple-Tuple.is-1

pub cmp-returns-then-is_ne : goal.cmp-returns-then-is_ne
cmp-returns-then-is_ne t c =
    sym (decided c.cmp_keys-by_keys.result _ (sym c.is_ne.ensures ∙ c.if-is_ne.true))
    ∙ ap (λ o. ordering_then o (front_order (values c.in-Map-Map.pairs) (values c.in-Map-Map.others))) c.cmp_keys-by_keys.ensures
    ∙ sym (order-maps_by_fronts c.in-Map-Map.pairs c.in-Map-Map.others)
    ∙ terms _ _ c.a.view_is c.b.view_is c.in-Map-Map.is-0 c.in-Map-Map.is-1

pub cmp-returns-else-is_ne : goal.cmp-returns-else-is_ne
cmp-returns-else-is_ne t c =
    c.cmp_values.ensures
    ∙ sym (undecided c.cmp_keys-by_keys.result _ (sym c.is_ne.ensures ∙ c.if-is_ne.false))
    ∙ ap (λ o. ordering_then o (front_order (values c.in-Map-Map.pairs) (values c.in-Map-Map.others))) c.cmp_keys-by_keys.ensures
    ∙ sym (order-maps_by_fronts c.in-Map-Map.pairs c.in-Map-Map.others)
    ∙ terms _ _ c.a.view_is c.b.view_is c.in-Map-Map.is-0 c.in-Map-Map.is-1

pub cmp-returns-in-List-List : goal.cmp-returns-in-List-List
cmp-returns-in-List-List t c =
    c.then.ensures ∙ (λ i. ordering_then (c.cmp_fronts-in-List-List.ensures i) (c.cmp_ends.ensures i))
    ∙ sym (order-proper c.in-List-List.parts c.in-List-List.others)
    ∙ terms _ _ c.a.view_is c.b.view_is c.in-List-List.is-0 c.in-List-List.is-1

pub cmp-returns-in-List-Improper : goal.cmp-returns-in-List-Improper
cmp-returns-in-List-Improper t c =
    let sound = subst IsSound c.in-List-Improper.is-1 c.b.invariant.1 in
    c.then-in-List-Improper.ensures
    ∙ (λ i. ordering_then (c.cmp_fronts-in-List-Improper.ensures i)
    ((c.cmp_ends-in-List-Improper.ensures ∙ ap (λ r. ends_order (length c.in-List-Improper.parts) 4 (length c.in-List-Improper.others) r)
    (c.rank.ensures ∙ ap rank c.deref.ensures)) i))
    ∙ sym (order-proper-improper c.in-List-Improper.parts c.in-List-Improper.others c.in-List-Improper.tail.value sound.1)
    ∙ terms _ _ c.a.view_is c.b.view_is c.in-List-Improper.is-0 c.in-List-Improper.is-1

pub cmp-returns-in-Improper-List : goal.cmp-returns-in-Improper-List
cmp-returns-in-Improper-List t c =
    let sound = subst IsSound c.in-Improper-List.is-0 c.a.invariant.1 in
    c.then-in-Improper-List.ensures
    ∙ (λ i. ordering_then (c.cmp_fronts-in-Improper-List.ensures i)
    ((c.cmp_ends-in-Improper-List.ensures ∙ ap (λ r. ends_order (length c.in-Improper-List.parts) r (length c.in-Improper-List.others) 4)
    (c.rank-in-Improper-List.ensures ∙ ap rank c.deref-in-Improper-List.ensures)) i))
    ∙ sym (order-improper-proper c.in-Improper-List.parts c.in-Improper-List.others c.in-Improper-List.tail.value sound.1)
    ∙ terms _ _ c.a.view_is c.b.view_is c.in-Improper-List.is-0 c.in-Improper-List.is-1

pub cmp-returns-then-len-2 : goal.cmp-returns-then-len-2
cmp-returns-then-len-2 t c =
    let first = subst IsSound c.in-Improper-Improper.is-0 c.a.invariant.1 in
    let second = subst IsSound c.in-Improper-Improper.is-1 c.b.invariant.1 in
    c.cmp-then-len-2.ensures ∙ (λ i. order (c.deref-then-len-2.ensures i) (c.deref-then-len-2-2.ensures i))
    ∙ sym (order-improper_ends c.in-Improper-Improper.parts c.in-Improper-Improper.others c.in-Improper-Improper.tail.value
    c.in-Improper-Improper.other_tail.value first.1 second.1
    (sym c.len-then-is_eq.ensures ∙ c.if-len-2.true ∙ c.len-then-is_eq-2.ensures)
    (ap is_eq (sym c.cmp_fronts-by_fronts.ensures) ∙ sym c.is_eq.ensures ∙ c.if-is_eq.true))
    ∙ terms _ _ c.a.view_is c.b.view_is c.in-Improper-Improper.is-0 c.in-Improper-Improper.is-1

pub cmp-returns-else-is_eq : goal.cmp-returns-else-is_eq
cmp-returns-else-is_eq t c =
    let first = subst IsSound c.in-Improper-Improper.is-0 c.a.invariant.1 in
    let second = subst IsSound c.in-Improper-Improper.is-1 c.b.invariant.1 in
    let x = c.in-Improper-Improper.tail.value in
    let y = c.in-Improper-Improper.other_tail.value in
    let whole : order (chain c.in-Improper-Improper.parts x) (chain c.in-Improper-Improper.others y)
    ≡ ordering_then (front_order c.in-Improper-Improper.parts c.in-Improper-Improper.others)
    (ends_order (length c.in-Improper-Improper.parts) (rank x) (length c.in-Improper-Improper.others) (rank y)) =
    elim c.else-is_eq.branch [
      | cmp-else-is_eq-via-then-is_eq+else-len-2 w ↦
          order-improper_longer c.in-Improper-Improper.parts c.in-Improper-Improper.others x y first.1 second.1
          (let d = w.if-len-2.false in λ e. d (w.len-then-is_eq.ensures ∙ e ∙ sym w.len-then-is_eq-2.ensures))
      | cmp-else-is_eq-via-else-is_eq w ↦
          order-improper_fronts c.in-Improper-Improper.parts c.in-Improper-Improper.others x y first.1 second.1
          (ap is_eq (sym c.cmp_fronts-by_fronts.ensures) ∙ sym c.is_eq.ensures ∙ w.if-is_eq.false)
    ] in
    c.then-else-is_eq.ensures
    ∙ (λ i. ordering_then (c.cmp_fronts-by_fronts.ensures i)
    ((c.cmp_ends-else-is_eq.ensures ∙ (λ j. ends_order (length c.in-Improper-Improper.parts)
    ((c.rank-else-is_eq.ensures ∙ ap rank c.deref-else-is_eq.ensures) j) (length c.in-Improper-Improper.others)
    ((c.rank-else-is_eq-2.ensures ∙ ap rank c.deref-else-is_eq-2.ensures) j))) i))
    ∙ sym whole
    ∙ terms _ _ c.a.view_is c.b.view_is c.in-Improper-Improper.is-0 c.in-Improper-Improper.is-1

pub cmp-returns-in-Bits-Bits : goal.cmp-returns-in-Bits-Bits
cmp-returns-in-Bits-Bits t c =
    let first = subst IsSound c.in-Bits-Bits.is-0 c.a.invariant.1 in
    let second = subst IsSound c.in-Bits-Bits.is-1 c.b.invariant.1 in
    let mine = c.as_slice.ensures in
    let other = c.as_slice-in-Bits-Bits.ensures in
    c.then-in-Bits-Bits.ensures
    ∙ ap (ordering_then c.cmp_bytes.result) c.cmp-in-Bits-Bits.ensures
    ∙ c.cmp_bytes.ensures c.in-Bits-Bits.used c.in-Bits-Bits.other_used (subst (λ bs. IsPadded bs c.in-Bits-Bits.used) (sym mine) first)
    (subst (λ bs. IsPadded bs c.in-Bits-Bits.other_used) (sym other) second)
    ∙ (λ i. slice_cmp bool_cmp (bits_of (mine i) c.in-Bits-Bits.used) (bits_of (other i) c.in-Bits-Bits.other_used))
    ∙ terms _ _ c.a.view_is c.b.view_is c.in-Bits-Bits.is-0 c.in-Bits-Bits.is-1

pub cmp-returns-in_default : goal.cmp-returns-in_default
cmp-returns-in_default t c =
    c.cmp-in_default.ensures ∙ (λ i. nat_cmp (c.rank-in_default.ensures i) (c.rank-in_default-2.ensures i))
    ∙ order-kinds c.a.inside.node c.b.inside.node c.a.view_is c.b.view_is c.a.invariant.1 c.b.invariant.1 (elim c.in_default.branch [
      | cmp-in_default-via-in-Int+in_default w ↦ not_int c.b.inside.node w.in_default.is-0 w.in_default.not-Int-1
      | cmp-in_default-via-in-Atom+in_default w ↦ not_atom c.b.inside.node w.in_default.is-0 w.in_default.not-Atom-1
      | cmp-in_default-via-in-Tuple+in_default w ↦ not_tuple c.b.inside.node w.in_default.is-0 w.in_default.not-Tuple-1
      | cmp-in_default-via-in-Map+in_default w ↦ not_map c.b.inside.node w.in_default.is-0 w.in_default.not-Map-1
      | cmp-in_default-via-in-List+in_default w ↦ not_list c.a.inside.node c.b.inside.node (ap kind w.in_default.is-0) w.in_default.not-List-1
          w.in_default.not-Improper-1
      | cmp-in_default-via-in-Improper+in_default w ↦ not_list c.a.inside.node c.b.inside.node (ap kind w.in_default.is-0) w.in_default.not-List-1
          w.in_default.not-Improper-1
      | cmp-in_default-via-in-Bits+in_default w ↦ not_bits c.b.inside.node w.in_default.is-0 w.in_default.not-Bits-1
    ])

pub cmp_fronts-returns-then-is_ne : goal.cmp_fronts-returns-then-is_ne
cmp_fronts-returns-then-is_ne t c =
    sym (c.loop-place.invariant ∙ front_decided c.args.parts.now c.args.others.now c.loop-place.place c.index.result.now
    c.index-in-loop-place.result.now c.cmp-here.result (omega arith) (omega arith)
    (c.index.ensures ∙ ap (λ xs. get_or xs c.loop-place.place c.index.result.now) c.parts.view_is)
    (c.index-in-loop-place.ensures ∙ ap (λ xs. get_or xs c.loop-place.place c.index-in-loop-place.result.now) c.others.view_is)
    c.cmp-here.ensures (sym c.is_ne.ensures ∙ c.if-is_ne.true))

pub cmp_fronts-loop-place-preserved : goal.cmp_fronts-loop-place-preserved
cmp_fronts-loop-place-preserved t c =
    c.loop-place.invariant ∙ front_goes_on c.args.parts.now c.args.others.now c.loop-place.place c.index.result.now c.index-in-loop-place.result.now
    c.cmp-here.result (omega arith) (omega arith)
    (c.index.ensures ∙ ap (λ xs. get_or xs c.loop-place.place c.index.result.now) c.parts.view_is)
    (c.index-in-loop-place.ensures ∙ ap (λ xs. get_or xs c.loop-place.place c.index-in-loop-place.result.now) c.others.view_is)
    c.cmp-here.ensures (sym c.is_ne.ensures ∙ c.if-is_ne.false)

pub cmp_fronts-returns : goal.cmp_fronts-returns
cmp_fronts-returns t c = sym (c.loop-place.invariant ∙ front_all c.args.parts.now c.args.others.now c.loop-place.place (omega arith))

pub cmp_keys-returns-then-len : goal.cmp_keys-returns-then-len
cmp_keys-returns-then-len t c =
    let d = c.if-len.true in
    by_size_alone (length c.args.pairs.now) (length c.args.others.now) c.cmp.result _
    (c.cmp.ensures ∙ (λ i. nat_cmp (c.len-then-len.ensures i) (c.len-then-len-2.ensures i)))
    (λ e. d (c.len.ensures ∙ e ∙ sym c.len-2.ensures))

pub cmp_keys-returns-then-is_ne : goal.cmp_keys-returns-then-is_ne
cmp_keys-returns-then-is_ne t c =
    sym (c.loop-place.invariant ∙ mapped_decided (λ p. p.0) c.args.pairs.now c.args.others.now c.loop-place.place c.index.result.now
    c.index-in-loop-place.result.now c.cmp-here.result (omega arith) (omega arith)
    (c.index.ensures ∙ ap (λ xs. get_or xs c.loop-place.place c.index.result.now) c.pairs.view_is)
    (c.index-in-loop-place.ensures ∙ ap (λ xs. get_or xs c.loop-place.place c.index-in-loop-place.result.now) c.others.view_is)
    c.cmp-here.ensures (sym c.is_ne.ensures ∙ c.if-is_ne.true))
    ∙ past_size (length c.args.pairs.now) (length c.args.others.now) _ (sym c.len.ensures ∙ c.if-len.false ∙ c.len-2.ensures)

pub cmp_keys-loop-place-preserved : goal.cmp_keys-loop-place-preserved
cmp_keys-loop-place-preserved t c =
    c.loop-place.invariant ∙ mapped_goes_on (λ p. p.0) c.args.pairs.now c.args.others.now c.loop-place.place c.index.result.now
    c.index-in-loop-place.result.now c.cmp-here.result (omega arith) (omega arith)
    (c.index.ensures ∙ ap (λ xs. get_or xs c.loop-place.place c.index.result.now) c.pairs.view_is)
    (c.index-in-loop-place.ensures ∙ ap (λ xs. get_or xs c.loop-place.place c.index-in-loop-place.result.now) c.others.view_is)
    c.cmp-here.ensures (sym c.is_ne.ensures ∙ c.if-is_ne.false)

pub cmp_keys-returns : goal.cmp_keys-returns
cmp_keys-returns t c =
    sym (c.loop-place.invariant ∙ mapped_all (λ p. p.0) c.args.pairs.now c.args.others.now c.loop-place.place (omega arith))
    ∙ past_size (length c.args.pairs.now) (length c.args.others.now) _ (sym c.len.ensures ∙ c.if-len.false ∙ c.len-2.ensures)

pub cmp_values-returns-then-is_ne : goal.cmp_values-returns-then-is_ne
cmp_values-returns-then-is_ne t c =
    sym (c.loop-place.invariant ∙ mapped_decided (λ p. p.1) c.args.pairs.now c.args.others.now c.loop-place.place c.index.result.now
    c.index-in-loop-place.result.now c.cmp-here.result (omega arith) (omega arith)
    (c.index.ensures ∙ ap (λ xs. get_or xs c.loop-place.place c.index.result.now) c.pairs.view_is)
    (c.index-in-loop-place.ensures ∙ ap (λ xs. get_or xs c.loop-place.place c.index-in-loop-place.result.now) c.others.view_is)
    c.cmp-here.ensures (sym c.is_ne.ensures ∙ c.if-is_ne.true))

pub cmp_values-loop-place-preserved : goal.cmp_values-loop-place-preserved
cmp_values-loop-place-preserved t c =
    c.loop-place.invariant ∙ mapped_goes_on (λ p. p.1) c.args.pairs.now c.args.others.now c.loop-place.place c.index.result.now
    c.index-in-loop-place.result.now c.cmp-here.result (omega arith) (omega arith)
    (c.index.ensures ∙ ap (λ xs. get_or xs c.loop-place.place c.index.result.now) c.pairs.view_is)
    (c.index-in-loop-place.ensures ∙ ap (λ xs. get_or xs c.loop-place.place c.index-in-loop-place.result.now) c.others.view_is)
    c.cmp-here.ensures (sym c.is_ne.ensures ∙ c.if-is_ne.false)

pub cmp_values-returns : goal.cmp_values-returns
cmp_values-returns t c = sym (c.loop-place.invariant ∙ mapped_all (λ p. p.1) c.args.pairs.now c.args.others.now c.loop-place.place (omega arith))
