-- Runs and entries, and lists of them without those of one unit.
use Rattle.std.proofs.Common.{◌≡◌, ◌≤◌, ◌⊎◌, inl, inr, ⊎_elim, ℕ, true, ◌==◌, List, Option, Some, None, refl, sym, ap, ◌∙◌, subst, arith}
use Rattle.std.specs.Prelude.{not}
use Rattle.std.proofs.lemmas.Nat.{pow_pos}
use Rattle.std.proofs.lemmas.Bool.{both_ways, eqb-true, eq-eqb, not-true, not_from_false, false_from_ne_true}
use Rattle.space_model.specs.Runs.{Run, end_of}
use Rattle.space_model.specs.Apart.{In, Pairs, SameMembers, Apart}
use Rattle.file_model.specs.declared.entry.Entry.{Entry}
use Rattle.book_model.specs.Book.{entry_run, entry_runs, MeetsNot}
use Rattle.book_model.specs.Planning.{without_run, without_entry}
use Rattle.book_model.proofs.Members.{map_in, in_map, in_filter, filter_in, two_of, pairs_filter}

pub swapped : (r q : Run) → Apart r q → Apart q r
swapped r q p = ⊎_elim (λ l. inr l) (λ l. inl l) p

pub not_apart : (r q : Run) → r.unit ≡ q.unit → Apart r q → ⊥
not_apart r q e p = let a = pow_pos r.exp in let b = pow_pos q.exp in
    ⊎_elim (λ (l : end_of r ≤ q.unit). absurd (omega arith)) (λ (l : end_of q ≤ r.unit). absurd (omega arith)) p

-- two runs of a list are the same, or do not meet
pub runs_pair : (runs : List Run) (r q : Run) → Pairs Apart runs → In r runs → In q runs → (r ≡ q) ⊎ Apart r q
runs_pair runs r q p a b = ⊎_elim
    (λ same. inl same) (λ apart. ⊎_elim (λ x. inr x) (λ x. inr (swapped q r x)) apart) (two_of Apart runs r q p a b)

pub entries_pair : (entries : List Entry) (e f : Entry) → Pairs MeetsNot entries → In e entries → In f entries → (e ≡ f) ⊎ MeetsNot e f
entries_pair entries e f p a b = ⊎_elim
    (λ same. inl same)
    (λ apart. ⊎_elim (λ x. inr x) (λ x. inr (swapped (entry_run f) (entry_run e) x)) apart)
    (two_of MeetsNot entries e f p a b)

pub same_unit : (entries : List Entry) (e f : Entry) → Pairs MeetsNot entries → In e entries → In f entries → e.unit ≡ f.unit → e ≡ f
same_unit entries e f p a b u =
    ⊎_elim (λ same. same) (λ apart. absurd (not_apart (entry_run e) (entry_run f) u apart)) (entries_pair entries e f p a b)

-- ---- without those of one unit

differs : (a u : ℕ) → not (a == u) ≡ true → a ≡ u → ⊥
differs a u e same = both_ways _ (not-true (a == u) e) (eq-eqb a u same)

different : (a u : ℕ) → (a ≡ u → ⊥) → not (a == u) ≡ true
different a u apart = not_from_false (a == u) (false_from_ne_true (a == u) (λ e. apart (eqb-true a u e)))

pub run_was : (o : Option Entry) (runs : List Run) (r : Run) → In r (without_run o runs) → In r runs
run_was None runs r a = a
run_was (Some e) runs r a = (in_filter (λ (q : Run). not (q.unit == e.unit)) runs r a).0

pub run_left : (e : Entry) (runs : List Run) (r : Run) → In r (without_run (Some e) runs) → r.unit ≡ e.unit → ⊥
run_left e runs r a = differs r.unit e.unit (in_filter (λ (q : Run). not (q.unit == e.unit)) runs r a).1

pub run_stays : (o : Option Entry) (runs : List Run) (r : Run) → In r runs → ((e : Entry) → o ≡ Some e → r.unit ≡ e.unit → ⊥) → In r (without_run o runs)
run_stays None runs r a apart = a
run_stays (Some e) runs r a apart = filter_in (λ (q : Run). not (q.unit == e.unit)) runs r a (different r.unit e.unit (apart e refl))

pub runs_apart : (o : Option Entry) (runs : List Run) → Pairs Apart runs → Pairs Apart (without_run o runs)
runs_apart None runs p = p
runs_apart (Some e) runs p = pairs_filter Apart (λ (q : Run). not (q.unit == e.unit)) runs p

pub entry_was : (o : Option Entry) (entries : List Entry) (f : Entry) → In f (without_entry o entries) → In f entries
entry_was None entries f a = a
entry_was (Some e) entries f a = (in_filter (λ (g : Entry). not (g.unit == e.unit)) entries f a).0

pub entry_left : (e : Entry) (entries : List Entry) (f : Entry) → In f (without_entry (Some e) entries) → f.unit ≡ e.unit → ⊥
entry_left e entries f a = differs f.unit e.unit (in_filter (λ (g : Entry). not (g.unit == e.unit)) entries f a).1

pub entry_stays : (o : Option Entry) (entries : List Entry) (f : Entry) → In f entries → ((e : Entry) → o ≡ Some e → f.unit ≡ e.unit → ⊥)
    → In f (without_entry o entries)
entry_stays None entries f a apart = a
entry_stays (Some e) entries f a apart = filter_in (λ (g : Entry). not (g.unit == e.unit)) entries f a (different f.unit e.unit (apart e refl))

pub entries_apart : (o : Option Entry) (entries : List Entry) → Pairs MeetsNot entries → Pairs MeetsNot (without_entry o entries)
entries_apart None entries p = p
entries_apart (Some e) entries p = pairs_filter MeetsNot (λ (g : Entry). not (g.unit == e.unit)) entries p

-- the same runs stay in both lists
pub taken_without : (o : Option Entry) (taken : List Run) (entries : List Entry) → SameMembers taken (entry_runs entries)
    → SameMembers (without_run o taken) (entry_runs (without_entry o entries))
taken_without None taken entries s = s
taken_without (Some e) taken entries s = record {
  there = λ r a.
      let f = in_map entry_run entries r (s.there r (run_was (Some e) taken r a)) in
      subst (λ z. In z (entry_runs (without_entry (Some e) entries))) f.2 (map_in entry_run (without_entry (Some e) entries) f.0
      (entry_stays (Some e) entries f.0 f.1 (λ g is same.
      let own : e ≡ g = cc is in
      run_left e taken r a (ap (λ (z : Run). z.unit) (sym f.2) ∙ same ∙ ap (λ (z : Entry). z.unit) (sym own)))));
  back = λ r a.
      let f = in_map entry_run (without_entry (Some e) entries) r a in
      subst (λ z. In z (without_run (Some e) taken)) f.2 (run_stays (Some e) taken (entry_run f.0)
      (s.back (entry_run f.0) (map_in entry_run entries f.0 (entry_was (Some e) entries f.0 f.1)))
      (λ g is same. let own : e ≡ g = cc is in entry_left e entries f.0 f.1 (same ∙ ap (λ (z : Entry). z.unit) (sym own))));
}
