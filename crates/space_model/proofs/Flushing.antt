-- Lemmas: a flush keeps a ledger in order, and what stands behind it.
use Rattle.std.proofs.Common.{◌≡◌, inl, inr, ⊎_elim, ℕ, Bool, true, false, cond, List, [], ◌∷◌, ◌++◌, map, filter, Option, Some, None, refl, sym, ap}
use Rattle.std.proofs.Common.{◌∙◌, subst, arith}
use Rattle.std.specs.Prelude.{not, filter_map, bytes_eq, option_map}
use Rattle.std.specs.List.{cons_option}
use Rattle.std.proofs.lemmas.Bool.{not-true, or_parts, or_from}
use Rattle.space_model.specs.Runs.{Run}
use Rattle.space_model.specs.Apart.{In, Pairs, Apart}
use Rattle.space_model.specs.Ledger.{Standing, Packed, Pending, Ledger, packed_run, held, is_pending, packed_of, standing_of, flushed_standing, flush}
use Rattle.space_model.specs.Ledger.{is_at_limit, flush_at_limit}
use Rattle.space_model.specs.LedgerOrder.{OtherPending, OtherStanding, IsInOrder, standing_run}
use Rattle.space_model.proofs.Members.{in_append, in_front, in_behind, in_mapped, mapped_in, in_filter_map, filter_map_in, in_filter, filter_passes}
use Rattle.space_model.proofs.Members.{any_none, pairs_append, pairs_front, pairs_behind, pairs_cross, pairs_filter, pairs_filter_map, pairs_option}
use Rattle.space_model.proofs.Members.{option_first, option_rest, map_pairs, pairs_map}
use Rattle.space_model.proofs.Pendings.{same_key, other_flips}

-- the standing key of a pending one
standing_is : (p : Pending) (o : Option Packed) (s : Standing)
    → option_map (λ at. record { key = p.key; run = at }) (option_map (λ (q : Packed). q.run) o) ≡ Some s
    → (p.key ≡ s.key) × (option_map (λ (q : Packed). q.run) o ≡ Some s.run)
standing_is p None s e = absurd (cc e)
standing_is p (Some q) s e =
    let same : record { key = p.key; run = q.run } ≡ s = cc e in (ap (λ (x : Standing). x.key) same, ap (λ (x : Standing). Some x.run) same)

key_of : (p : Pending) (s : Standing) → standing_of p ≡ Some s → (p.key ≡ s.key) × (packed_run p ≡ Some s.run)
key_of p s e = standing_is p p.packed s e

-- ---- keys

pub flushed_keys : (standing : List Standing) (pending : List Pending) → Pairs OtherStanding standing → Pairs OtherPending pending
    → Pairs OtherStanding (flushed_standing standing pending)
flushed_keys standing pending apart waits =
    pairs_append OtherStanding (filter (λ s. not (is_pending pending s.key)) standing) (filter_map standing_of pending)
    (pairs_filter OtherStanding (λ s. not (is_pending pending s.key)) standing apart)
    (pairs_filter_map OtherPending OtherStanding standing_of pending
    (λ p q s t other e f. subst (λ (k : List ℕ). bytes_eq k t.key ≡ false) (key_of p s e).0
    (subst (λ (k : List ℕ). bytes_eq p.key k ≡ false) (key_of q t f).0 other)) waits)
    (λ s t a b.
    let p = in_filter_map standing_of pending t b in
    let none = not-true _ (filter_passes (λ (x : Standing). not (is_pending pending x.key)) standing s a) in
    other_flips t.key s.key (subst (λ (k : List ℕ). bytes_eq k s.key ≡ false) (key_of p.0 t p.2).0
    (any_none (λ (q : Pending). bytes_eq q.key s.key) pending p.0 none p.1)))

-- ---- runs

abbrev RunsApart : Standing → Standing → Type 0
RunsApart s t = Apart s.run t.run

pending_runs : (pending : List Pending) → Pairs Apart (filter_map packed_run pending) → Pairs RunsApart (filter_map standing_of pending)
pending_runs [] apart = tt
pending_runs (p ∷ ps) apart =
    pairs_option RunsApart (standing_of p) (filter_map standing_of ps)
    (λ s t e a.
    let q = in_filter_map standing_of ps t a in
    option_first Apart (packed_run p) (filter_map packed_run ps) apart s.run t.run (key_of p s e).1
    (filter_map_in packed_run ps q.0 t.run q.1 (key_of q.0 t q.2).1))
    (pending_runs ps (option_rest Apart (packed_run p) (filter_map packed_run ps) apart))

-- a run that stands behind a flush was held
was_held : (l : Ledger) (s : Standing) → In s (flushed_standing l.standing l.pending) → In s.run (held l)
was_held l s a =
    let front = map (λ (t : Standing). t.run) l.standing in
    let behind = filter_map packed_run l.pending in
    ⊎_elim
    (λ kept. in_front front behind s.run (mapped_in (λ (t : Standing). t.run) l.standing s
    (in_filter (λ (t : Standing). not (is_pending l.pending t.key)) l.standing s kept)))
    (λ new. let p = in_filter_map standing_of l.pending s new in
    in_behind front behind s.run (filter_map_in packed_run l.pending p.0 s.run p.1 (key_of p.0 s p.2).1))
    (in_append (filter (λ t. not (is_pending l.pending t.key)) l.standing) (filter_map standing_of l.pending) s a)

flushed_runs : (l : Ledger) → Pairs Apart (held l) → Pairs RunsApart (flushed_standing l.standing l.pending)
flushed_runs l apart =
    let front = map (λ (t : Standing). t.run) l.standing in
    let behind = filter_map packed_run l.pending in
    pairs_append RunsApart (filter (λ s. not (is_pending l.pending s.key)) l.standing) (filter_map standing_of l.pending)
    (pairs_filter RunsApart (λ s. not (is_pending l.pending s.key)) l.standing
    (map_pairs Apart (λ (t : Standing). t.run) l.standing (pairs_front Apart front behind apart)))
    (pending_runs l.pending (pairs_behind Apart front behind apart))
    (λ s t a b.
    let p = in_filter_map standing_of l.pending t b in
    pairs_cross Apart front behind apart s.run t.run
    (mapped_in (λ (x : Standing). x.run) l.standing s (in_filter (λ (x : Standing). not (is_pending l.pending x.key)) l.standing s a))
    (filter_map_in packed_run l.pending p.0 t.run p.1 (key_of p.0 t p.2).1))

-- a run that is held behind a flush stands, and was held before
pub held_before : (l : Ledger) (r : Run) → In r (held (flush l)) → In r (held l)
held_before l r a = ⊎_elim
    (λ stands. let s = in_mapped (λ (t : Standing). t.run) (flushed_standing l.standing l.pending) r stands in
    subst (λ q. In q (held l)) s.2 (was_held l s.0 s.1))
    (λ none. absurd none)
    (in_append (map (λ (t : Standing). t.run) (flushed_standing l.standing l.pending)) [] r a)

-- a flush leaves a ledger in order
pub flush_order : (size : ℕ) (l : Ledger) → IsInOrder size l → IsInOrder size (flush l)
flush_order size l o = record {
  filed = omega arith;
  at_most = o.at_most;
  runs = λ r a. o.runs r (held_before l r a);
  apart = pairs_append Apart (map (λ s. s.run) (flushed_standing l.standing l.pending)) []
      (pairs_map RunsApart Apart (λ s. s.run) (flushed_standing l.standing l.pending) (λ s t apart. apart) (flushed_runs l o.apart)) tt (λ s t a b. absurd b);
  pending = tt;
  standing = flushed_keys l.standing l.pending o.standing o.pending;
}

pub flush_at_limit_order : (size : ℕ) (l : Ledger) → IsInOrder size l → IsInOrder size (flush_at_limit l)
flush_at_limit_order size l o = by_test (is_at_limit l)
  where
    by_test : (b : Bool) → IsInOrder size (cond b (flush l) l)
    by_test true = flush_order size l o
    by_test false = o

-- ---- the run of a key

behind_none : (xs ys : List Standing) (key : List ℕ) → standing_run xs key ≡ None → standing_run (xs ++ ys) key ≡ standing_run ys key
behind_none [] ys key none = refl
behind_none (s ∷ ss) ys key none = first (bytes_eq s.key key) s ss ys key none (behind_none ss ys key)
  where
    first : (b : Bool) (s : Standing) (ss ys : List Standing) (key : List ℕ) → cond b (Some s.run) (standing_run ss key) ≡ None
        → (standing_run ss key ≡ None → standing_run (ss ++ ys) key ≡ standing_run ys key)
        → cond b (Some s.run) (standing_run (ss ++ ys) key) ≡ standing_run ys key
    first true s ss ys key none go = absurd (cc none)
    first false s ss ys key none go = go none

none_behind : (xs ys : List Standing) (key : List ℕ) → standing_run ys key ≡ None → standing_run (xs ++ ys) key ≡ standing_run xs key
none_behind [] ys key none = none
none_behind (s ∷ ss) ys key none = ap (λ o. cond (bytes_eq s.key key) (Some s.run) o) (none_behind ss ys key none)

-- a key that is pending stands no more by its old run
filtered_first : (b c : Bool) (s : Standing) (kept : List Standing) (key : List ℕ) → bytes_eq s.key key ≡ c → (c ≡ true → b ≡ true)
    → standing_run kept key ≡ None
    → standing_run (cond (not b) (s ∷ kept) kept) key ≡ None
filtered_first true c s kept key e so none = none
filtered_first false true s kept key e so none = let no : false ≡ true = so refl in absurd (cc no)
filtered_first false false s kept key e so none = ap (λ d. cond d (Some s.run) (standing_run kept key)) e ∙ none

stood : (pending : List Pending) (standing : List Standing) (key : List ℕ) → is_pending pending key ≡ true
    → standing_run (filter (λ s. not (is_pending pending s.key)) standing) key ≡ None
stood pending [] key waits = refl
stood pending (s ∷ ss) key waits =
    filtered_first (is_pending pending s.key) (bytes_eq s.key key) s (filter (λ t. not (is_pending pending t.key)) ss) key refl
    (λ same. subst (λ (k : List ℕ). is_pending pending k ≡ true) (sym (same_key s.key key same)) waits) (stood pending ss key waits)

-- and another key as before
other_first : (b c : Bool) (s : Standing) (kept ss : List Standing) (key : List ℕ) → bytes_eq s.key key ≡ c → (c ≡ true → b ≡ false)
    → standing_run kept key ≡ standing_run ss key → standing_run (cond (not b) (s ∷ kept) kept) key ≡ cond c (Some s.run) (standing_run ss key)
other_first true true s kept ss key e so rest = let no : true ≡ false = so refl in absurd (cc no)
other_first true false s kept ss key e so rest = rest
other_first false c s kept ss key e so rest =
    ap (λ d. cond d (Some s.run) (standing_run kept key)) e ∙ ap (λ o. cond c (Some s.run) o) rest

stands_still : (pending : List Pending) (standing : List Standing) (key : List ℕ) → is_pending pending key ≡ false
    → standing_run (filter (λ s. not (is_pending pending s.key)) standing) key ≡ standing_run standing key
stands_still pending [] key other = refl
stands_still pending (s ∷ ss) key other =
    other_first (is_pending pending s.key) (bytes_eq s.key key) s (filter (λ t. not (is_pending pending t.key)) ss) ss key refl
    (λ same. subst (λ (k : List ℕ). is_pending pending k ≡ false) (sym (same_key s.key key same)) other) (stands_still pending ss key other)

-- the run of a key among those that were pending
absent_first : (p : Pending) (rest : List Standing) (key : List ℕ) (o : Option Packed) → bytes_eq p.key key ≡ false → standing_run rest key ≡ None
    → standing_run (cons_option (option_map (λ at. record { key = p.key; run = at }) (option_map (λ (q : Packed). q.run) o)) rest) key ≡ None
absent_first p rest key None e none = none
absent_first p rest key (Some q) e none = ap (λ b. cond b (Some q.run) (standing_run rest key)) e ∙ none

absent : (pending : List Pending) (key : List ℕ) → is_pending pending key ≡ false → standing_run (filter_map standing_of pending) key ≡ None
absent [] key e = refl
absent (p ∷ ps) key e =
    let parts = or_parts (bytes_eq p.key key) (is_pending ps key) e in
    absent_first p (filter_map standing_of ps) key p.packed parts.0 (absent ps key parts.1)

none_is_pending : (ps : List Pending) (key : List ℕ) → ((q : Pending) → In q ps → bytes_eq q.key key ≡ false) → is_pending ps key ≡ false
none_is_pending [] key f = refl
none_is_pending (q ∷ qs) key f = or_from _ _ (f q (inl refl)) (none_is_pending qs key (λ x a. f x (inr a)))

stands_first : (p : Pending) (ps : List Pending) (key : List ℕ) (b : Bool) (o : Option Packed) → bytes_eq p.key key ≡ b
    → (b ≡ true → is_pending ps key ≡ false) → standing_run (filter_map standing_of ps) key ≡ option_map (λ (q : Packed). q.run) (packed_of ps key)
    → standing_run (cons_option (option_map (λ at. record { key = p.key; run = at }) (option_map (λ (q : Packed). q.run) o)) (filter_map standing_of ps)) key
    ≡ option_map (λ (q : Packed). q.run) (cond b o (packed_of ps key))
stands_first p ps key true None e other rest = absent ps key (other refl)
stands_first p ps key true (Some q) e other rest = ap (λ b. cond b (Some q.run) (standing_run (filter_map standing_of ps) key)) e
stands_first p ps key false None e other rest = rest
stands_first p ps key false (Some q) e other rest = ap (λ b. cond b (Some q.run) (standing_run (filter_map standing_of ps) key)) e ∙ rest

pending_stands : (ps : List Pending) (key : List ℕ) → Pairs OtherPending ps
    → standing_run (filter_map standing_of ps) key ≡ option_map (λ (q : Packed). q.run) (packed_of ps key)
pending_stands [] key apart = refl
pending_stands (p ∷ ps) key apart =
    stands_first p ps key (bytes_eq p.key key) p.packed refl
    (λ same. none_is_pending ps key (λ q a. other_flips key q.key (subst (λ (k : List ℕ). bytes_eq k q.key ≡ false) (same_key p.key key same) (apart.0 q a))))
    (pending_stands ps key apart.1)

pub flushed_pending : (size : ℕ) (l : Ledger) (key : List ℕ) → IsInOrder size l → is_pending l.pending key ≡ true
    → standing_run (flush l).standing key ≡ option_map (λ (q : Packed). q.run) (packed_of l.pending key)
flushed_pending size l key o waits =
    behind_none (filter (λ s. not (is_pending l.pending s.key)) l.standing) (filter_map standing_of l.pending) key (stood l.pending l.standing key waits)
    ∙ pending_stands l.pending key o.pending

pub flushed_other : (l : Ledger) (key : List ℕ) → is_pending l.pending key ≡ false → standing_run (flush l).standing key ≡ standing_run l.standing key
flushed_other l key other =
    none_behind (filter (λ s. not (is_pending l.pending s.key)) l.standing) (filter_map standing_of l.pending) key (absent l.pending key other)
    ∙ stands_still l.pending l.standing key other
