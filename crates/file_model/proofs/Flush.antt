-- A flush that is stopped at any moment.
use Rattle.std.proofs.Common.{◌≡◌, ◌≤◌, ◌<◌, inl, inr, ⊎_elim, ℕ, Bool, true, false, ◌&&◌, ◌||◌, ◌==◌, List, [], ◌∷◌, length, Ok, refl, sym, ap, ◌∙◌}
use Rattle.std.proofs.Common.{subst, arith}
use Rattle.std.specs.Prelude.{not}
use Rattle.std.specs.List.{AllByRecursion}
use Rattle.std.proofs.lemmas.Bool.{both_ways, or_cases, or_left, or_right, and_from, not_from_false, false_from_ne_true, eq-eqb, cases_order}
use Rattle.host_model.specs.Disk.{DiffersIn}
use Rattle.host_model.specs.Writes.{ranges_of}
use Rattle.host_model.specs.WritesLaws.{DiffersIn-writes}
use Rattle.term_model.specs.TermValue.{TermValue}
use Rattle.table_model.specs.Table.{Table, objects_of}
use Rattle.file_model.specs.declared.head.Head.{Head}
use Rattle.file_model.specs.Layout.{page_size, segment_end, open_byte, closed_byte}
use Rattle.file_model.specs.Header.{located}
use Rattle.file_model.specs.Block.{Block}
use Rattle.file_model.specs.View.{Units, units_in}
use Rattle.file_model.specs.Taken.{table_of}
use Rattle.file_model.specs.Gates.{Gates, with_gates, StandsOpen, NoneMeet, OpenBetween, either, table_with, OldOrNew, is_among, opened, closed}
use Rattle.file_model.specs.Images.{ImagesAgree}
use Rattle.file_model.specs.GateWrites.{gate_writes, AreWhole, AreOpen, OnlyGatesDiffer}
use Rattle.file_model.specs.BodyWrites.{Body, body_writes, HasRoom, IsPacked}
use Rattle.file_model.specs.Flush.{IsNew, IsFlushable, news, with_bodies, with_news, without_olds, table_in, flushed, IsBetween, IsFlushed}
use Rattle.file_model.proofs.Seen.{view_same}
use Rattle.file_model.proofs.Local.{are_read, images_seen}
use Rattle.file_model.proofs.OldOrNew.{while_opening, while_closing, only_block, no_block, other_gates, fewer_meet}
use Rattle.file_model.proofs.GateWrites.{gates_torn, opens_some, closes_some, gates_opened, gates_closed, lie_inside, count_same, unit_inside}
use Rattle.file_model.proofs.BodyWrites.{bodies_torn, begin_inside}
use Rattle.file_model.proofs.Members.{In, of_all, all_of}
use Rattle.file_model.proofs.FlushBlocks.{body_at, Prepared, prepared}

module _ (n : ℕ) (h : Head) (bodies : List Body) (olds image : List ℕ) (some : 0 < n) (can : IsFlushable n h bodies olds image) where
  abbrev old : Units
  old = units_in n h image

  abbrev mid : List ℕ
  mid = with_bodies n bodies image

  abbrev now : Units
  now = units_in n h mid

  abbrev after : Gates
  after = closed olds (opened (news bodies) now.is_open)

  known : Prepared n h bodies olds image old now after
  known = prepared n h bodies olds image some can

  new_of : (b : Body) → In b bodies → IsNew n h olds image b
  new_of b a = of_all (IsNew n h olds image) bodies b can.new a

  torn_image : (z : List ℕ) → DiffersIn (ranges_of (body_writes n bodies)) image z → (located z ≡ located image) × ImagesAgree n h image z
  torn_image z d = bodies_torn n h bodies image z some (record { page = can.page; room = can.room; blocks = can.taken.blocks; free = can.free }) d

  -- ---- the gates

  counts : now.count ≡ old.count
  counts = known.seen.count

  now_open : (u : ℕ) → is_among olds u ≡ true → now.is_open u ≡ true
  now_open u a = known.seen.gates u (can.counted u a) ∙ can.go u a

  shut_now : (u : ℕ) → is_among (news bodies) u ≡ true → now.is_open u ≡ false
  shut_now u a =
      let r = body_at bodies u a in
      let own = new_of r.body r.among in
      subst (λ x. now.is_open x ≡ false) r.at (known.seen.gates r.body.unit own.inside ∙ own.shut)

  news_after : (u : ℕ) → is_among (news bodies) u ≡ true → after u ≡ true
  news_after u a =
      and_from _ _ (or_right (now.is_open u) _ a)
      (not_from_false _ (false_from_ne_true _ (λ goes. both_ways _ (shut_now u a) (now_open u goes))))

  news_whole : AreWhole n (news bodies) mid
  news_whole u a =
      let r = body_at bodies u a in
      let whole = (of_all (HasRoom n image) bodies r.body can.room r.among).whole in
      let long = known.long in
      subst (λ x. segment_end n x ≤ length mid) r.at (omega arith)

  page_mid : page_size ≤ length mid
  page_mid = let page = can.page in let long = known.long in omega arith

  abbrev mid_open : List ℕ
  mid_open = with_news n bodies image

  opening : (z : List ℕ) → DiffersIn (ranges_of (gate_writes n open_byte (news bodies))) mid z → OnlyGatesDiffer n (news bodies) mid z
  opening z d = gates_torn n open_byte (news bodies) mid z some page_mid news_whole d

  open_differs : OnlyGatesDiffer n (news bodies) mid mid_open
  open_differs =
      let writes = gate_writes n open_byte (news bodies) in
      opening mid_open (DiffersIn-writes writes mid (begin_inside writes mid (lie_inside n open_byte (news bodies) mid some news_whole)))

  olds_whole : AreWhole n olds mid_open
  olds_whole u a =
      let inside = unit_inside n h image u some (can.counted u a) in
      let long = known.long in
      let same = open_differs.long in
      omega arith

  page_open : page_size ≤ length mid_open
  page_open = let page = page_mid in let same = open_differs.long in omega arith

  closing : (z : List ℕ) → DiffersIn (ranges_of (gate_writes n closed_byte olds)) mid_open z → OnlyGatesDiffer n olds mid_open z
  closing z d = gates_torn n closed_byte olds mid_open z some page_open olds_whole d

  abbrev done : List ℕ
  done = without_olds n bodies olds image

  closed_differs : OnlyGatesDiffer n olds mid_open done
  closed_differs =
      let writes = gate_writes n closed_byte olds in
      closing done (DiffersIn-writes writes mid_open (begin_inside writes mid_open (lie_inside n closed_byte olds mid_open some olds_whole)))

  open_gates : (u : ℕ) → (units_in n h mid_open).is_open u ≡ opened (news bodies) now.is_open u
  open_gates u = gates_opened n (news bodies) mid u some news_whole

  done_gates : (u : ℕ) → (units_in n h done).is_open u ≡ after u
  done_gates u = gates_closed n olds mid_open u some olds_whole ∙ ap (λ g. g && not (is_among olds u)) (open_gates u)

  -- ---- tables by gates

  by_gates : (z : List ℕ) (gates : Gates) → (units_in n h z).count ≡ now.count → ((u : ℕ) → (units_in n h z).is_open u ≡ gates u)
      → ((u : ℕ) → u < now.count → (units_in n h z).stands u ≡ now.stands u) → table_in n h z ≡ table_with h now gates
  by_gates z gates count same behind =
      ap table_of (view_same h (with_gates now gates) (units_in n h z) (record { count = count; gates = λ u l. same u; behind = λ u l o. behind u l }))

  old_is : table_in n h image ≡ table_with h now now.is_open
  old_is = sym known.table

  behind_closing : (z : List ℕ) → OnlyGatesDiffer n olds mid_open z → (u : ℕ) → u < now.count → (units_in n h z).stands u ≡ now.stands u
  behind_closing z d u l =
      let below : u < (units_in n h mid_open).count = let c = count_same n h mid mid_open open_differs.long in omega arith in
      d.behind h u below ∙ open_differs.behind h u l

  count_closing : (z : List ℕ) → OnlyGatesDiffer n olds mid_open z → (units_in n h z).count ≡ now.count
  count_closing z d = count_same n h mid_open z d.long ∙ count_same n h mid mid_open open_differs.long

  new_is : flushed n h bodies olds image ≡ table_with h now after
  new_is = by_gates done after (count_closing done closed_differs) done_gates (behind_closing done closed_differs)

  between : (z : List ℕ) (gates : Gates) → table_in n h z ≡ table_with h now gates
      → OldOrNew (table_with h now now.is_open) (table_with h now after) (table_with h now gates)
      → OldOrNew (table_in n h image) (flushed n h bodies olds image) (table_in n h z)
  between z gates is one =
      subst (λ (t : Table). OldOrNew (table_in n h image) (flushed n h bodies olds image) t) (sym is)
      (subst (λ (t : Table). OldOrNew (table_in n h image) t (table_with h now gates)) (sym new_is)
      (subst (λ (t : Table). OldOrNew t (table_with h now after) (table_with h now gates)) (sym old_is) one))

  header_mid : located mid ≡ located image
  header_mid = known.header

  -- ---- the moments of a flush

  pub while_bodies : (z : List ℕ) → DiffersIn (ranges_of (body_writes n bodies)) image z → IsBetween n h bodies olds image z
  while_bodies z d =
      let same = ap table_of (view_same h old (units_in n h z) (images_seen n h image z (torn_image z d).1)) in
      record {
        header = (torn_image z d).0;
        table = record {
          kind = refl;
          keypos = refl;
          objects = λ k. inl (ap (λ t. objects_of t k) same);
        };
      }

  pub while_news : (z : List ℕ) → DiffersIn (ranges_of (gate_writes n open_byte (news bodies))) mid z → IsBetween n h bodies olds image z
  while_news z d =
      let only = opening z d in
      let gates = (units_in n h z).is_open in
      let some_open = opens_some n (news bodies) mid z h shut_now only in
      let steps : OpenBetween now.is_open after gates = record {
        at_least = some_open.at_least;
        at_most = λ u o. ⊎_elim (λ a. inl a) (λ b. inr (news_after u b)) (some_open.at_most u o);
      } in
      record {
        header = only.header ∙ header_mid;
        table = between z gates (by_gates z gates (count_same n h mid z only.long) (λ u. refl) (λ u l. only.behind h u l))
            (while_opening h now now.is_open after gates known.may_flush steps);
      }

  pub while_olds : (z : List ℕ) → DiffersIn (ranges_of (gate_writes n closed_byte olds)) mid_open z → IsBetween n h bodies olds image z
  while_olds z d =
      let only = closing z d in
      let gates = (units_in n h z).is_open in
      let olds_open : AreOpen n olds mid_open = λ u a. open_gates u ∙ or_left (now.is_open u) (is_among (news bodies) u) (now_open u a) in
      let some_closed = closes_some n olds mid_open z h olds_open only in
      let steps : OpenBetween after now.is_open gates = record {
        at_least = λ u o. some_closed.at_least u (ap (λ g. g && not (is_among olds u)) (open_gates u) ∙ o);
        at_most = λ u o. ⊎_elim
            (λ a. inl (sym (ap (λ g. g && not (is_among olds u)) (open_gates u)) ∙ a))
            (λ b. ⊎_elim (λ was. inr was) (λ new. inl (news_after u new)) (or_cases (now.is_open u) (is_among (news bodies) u) (sym (open_gates u) ∙ b)))
            (some_closed.at_most u o);
      } in
      record {
        header = only.header ∙ open_differs.header ∙ header_mid;
        table = between z gates (by_gates z gates (count_closing z only) (λ u. refl) (behind_closing z only))
            (while_closing h now now.is_open after gates known.may_flush steps);
      }

  -- ---- when all is done

  after_apart : NoneMeet after now
  after_apart = fewer_meet after (either now.is_open after) now (λ u o. or_right _ _ o) known.may_flush.apart

  before_apart : NoneMeet now.is_open now
  before_apart = fewer_meet now.is_open (either now.is_open after) now (λ u o. or_left _ _ o) known.may_flush.apart

  among_news : (bs : List Body) (b : Body) → In b bs → is_among (news bs) b.unit ≡ true
  among_news [] b a = absurd a
  among_news (c ∷ cs) b a = ⊎_elim
      (λ here. or_left (c.unit == b.unit) _ (eq-eqb c.unit b.unit (ap (λ (x : Body). x.unit) here)))
      (λ later. or_right (c.unit == b.unit) _ (among_news cs b later))
      a

  comes : (b : Body) → In b bodies → (t : Block) → IsPacked n h b t → objects_of (flushed n h bodies olds image) t.key ≡ t.objects
  comes b a t p =
      let own = new_of b a in
      let there : StandsOpen after now b.unit t = record {
        inside = let l = own.inside in let c = counts in omega arith;
        opened = news_after b.unit (among_news bodies b a);
        stands = known.packed b a t p;
      } in
      ap (λ x. objects_of x t.key) new_is ∙ only_block h now after b.unit t (are_read n h mid) after_apart known.may_flush.keys_after there

  -- a block of a key that no new block has is an old one
  only_olds : (k : TermValue) → AllByRecursion (λ b. (t : Block) → IsPacked n h b t → t.key ≡ k → ⊥) bodies → (w : ℕ) (c : Block) → now.stands w ≡ Ok c
      → c.key ≡ k → is_among (news bodies) w ≡ true → ⊥
  only_olds k none w c e same a =
      let new = known.new_there w c a e in
      of_all (λ b. (t : Block) → IsPacked n h b t → t.key ≡ k → ⊥) bodies new.body none new.among c new.packed same

  goes : (u : ℕ) (s : Block) → StandsOpen old.is_open old u s → is_among olds u ≡ true
      → AllByRecursion (λ b. (t : Block) → IsPacked n h b t → t.key ≡ s.key → ⊥) bodies → objects_of (flushed n h bodies olds image) s.key ≡ []
  goes u s there a none =
      ap (λ x. objects_of x s.key) new_is
      ∙ no_block h now after s.key (are_read n h mid) after_apart (λ w c x same.
      let p = known.is_after w x.opened in
      ⊎_elim
      (λ was.
      let first = known.was_there w c x.inside was x.stands in
      ⊎_elim
      (λ one. both_ways _ p.1 (subst (λ y. is_among olds y ≡ true) one a))
      (λ apart. ⊎_elim
      (λ l. can.taken.keys u w s c there first l (sym same))
      (λ l. can.taken.keys w u c s first there l same)
      apart)
      (cases_order u w))
      (λ new. only_olds s.key none w c x.stands same new)
      p.0)

  unchanged : (g : Bool) → ((g || false) && not false) ≡ g
  unchanged true = refl
  unchanged false = refl

  stays : (k : TermValue) → AllByRecursion (λ b. (t : Block) → IsPacked n h b t → t.key ≡ k → ⊥) bodies
      → ((u : ℕ) (s : Block) → StandsOpen old.is_open old u s → s.key ≡ k → is_among olds u ≡ false)
      → objects_of (flushed n h bodies olds image) k ≡ objects_of (table_in n h image) k
  stays k none kept =
      ap (λ x. objects_of x k) new_is
      ∙ other_gates h now now.is_open after k (are_read n h mid) before_apart after_apart (λ u b l e same.
      let no_new : is_among (news bodies) u ≡ false = false_from_ne_true _ (λ a. only_olds k none u b e same a) in
      let no_old : is_among olds u ≡ false = false_from_ne_true _ (λ a. both_ways _ (kept u b (known.was_there u b l (now_open u a) e) same) a) in
      ap (λ x. (now.is_open u || x) && not (is_among olds u)) no_new ∙ ap (λ x. (now.is_open u || false) && not x) no_old ∙ unchanged (now.is_open u))
      ∙ ap (λ x. objects_of x k) (sym old_is)

  pub is_flushed : IsFlushed n h bodies olds image
  is_flushed = record {
    header = closed_differs.header ∙ open_differs.header ∙ header_mid;
    comes = all_of (λ b. (t : Block) → IsPacked n h b t → objects_of (flushed n h bodies olds image) t.key ≡ t.objects) bodies comes;
    goes = goes;
    stays = stays;
  }
