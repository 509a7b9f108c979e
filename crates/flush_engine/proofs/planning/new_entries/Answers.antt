use Rattle.std.proofs.Common.{◌≡◌, ◌<◌, ◌+◌, ℕ, List, [], ◌∷◌, ◌++◌, length, drop, get_or, Option, Some, None, ◌∙◌, sym, ap, arith, Vec, append-nil, append_assoc}
use Rattle.std.proofs.lemmas.List.{drop_more}
use Rattle.file_model.specs.declared.block.Packed.{Packed}
use Rattle.file_model.specs.declared.entry.Entry.{Entry}
use Rattle.book_model.specs.declared.change.Change.{Change}
use Rattle.std.specs.Global.{Global}
use Rattle.book_model.specs.Book.{new_entry}
use Rattle.flush_engine.specs.Entering.{next_entry, in_front}
use Rattle.flush_engine.specs.Coming.{new_entries}
use Rattle.flush_engine.proofs.planning.new_entries.Invariants.{Goes}
use Rattle.flush_engine.proofs.planning.new_entries.Goals.{in-Some+in_ok-push, in_default}
use Rattle.flush_engine.proofs.planning.new_entries.Goals as goal

-- the entries of the changes from one on, by its own
from_next : (changes items : List Change) (units : List ℕ) (index : ℕ) (c : Change) → items ≡ changes → index < length items → c ≡ get_or items index c
    → length units ≡ length changes
    → new_entries (drop index changes) (drop index units)
    ≡ in_front (next_entry c.hash (get_or units index 0) c.next) (new_entries (drop (index + 1) changes) (drop (index + 1) units))
from_next changes items units index c same less is long =
    let below : index < length units = omega (arith, less, ap (λ (l : List Change). length l) same, long) in
    let next : drop index changes ≡ c ∷ drop (index + 1) changes =
    ap (drop index) (sym same) ∙ drop_more items index c less ∙ ap (λ x. x ∷ drop (index + 1) items) (sym is) ∙ ap (λ l. c ∷ drop (index + 1) l) same in
    (λ i. new_entries (next i) (drop_more units index 0 below i))

made_next : (old rest : List Entry) (o : Option Entry) (new : List Entry) → new ≡ old ++ in_front o [] → new ++ rest ≡ old ++ in_front o rest
made_next old rest None new is = ap (λ l. l ++ rest) is ∙ append_assoc old [] rest
made_next old rest (Some e) new is = ap (λ l. l ++ rest) is ∙ append_assoc old (e ∷ []) rest

goes_on : (changes items : List Change) (units : List ℕ) (index place : ℕ) (old new : List Entry) (c : Change) → Goes changes items units index place old
    → index < length items → c ≡ get_or items index c → length units ≡ length changes
    → new ≡ old ++ in_front (next_entry c.hash (get_or units place 0) c.next) [] → Goes changes items units (index + 1) (place + 1) new
goes_on changes items units index place old new c g less is long made = record {
  items_are = g.items_are;
  place_is = ap (λ n. n + 1) g.place_is;
  made =
      made_next old (new_entries (drop (index + 1) changes) (drop (index + 1) units)) (next_entry c.hash (get_or units index 0) c.next) new
      (made ∙ ap (λ n. old ++ in_front (next_entry c.hash (get_or units n 0) c.next) []) g.place_is)
      ∙ ap (λ l. old ++ l) (sym (from_next changes items units index c g.items_are less is long)) ∙ g.made;
}

some_made : (old new : List Entry) (c : Change) (unit : ℕ) (p : Packed) → c.next ≡ Some p → new ≡ old ++ new_entry c.hash unit p ∷ []
    → new ≡ old ++ in_front (next_entry c.hash unit c.next) []
some_made old new c unit p some is = is ∙ ap (λ o. old ++ in_front (next_entry c.hash unit o) []) (sym some)

none_made : (old new : List Entry) (c : Change) (unit : ℕ) → c.next ≡ None → new ≡ old → new ≡ old ++ in_front (next_entry c.hash unit c.next) []
none_made old new c unit none is = is ∙ sym (append-nil old) ∙ ap (λ o. old ++ in_front (next_entry c.hash unit o) []) (sym none)

pub loop-change-preserved : goal.loop-change-preserved
loop-change-preserved c =
    let go = goes_on c.args.changes.now c.as_slice-change-items.result.now c.args.units.now c.loop-change.change-index c.loop-change.place
    c.loop-change.entries.items c.match-change.entries.items c.change-item.result c.loop-change.invariant c.loop-change-test.true c.change-item.is c.requires in
    elim c.match-change.branch [
      | in-Some+in_ok-push w ↦ go (some_made c.loop-change.entries.items c.match-change.entries.items c.change-item.result _ w.in-Some.packed w.in-Some.is
          (ap (λ (v : Vec Entry Global). v.items) w.entries-is ∙ w.in_ok-push.ensures.items))
      | in_default w ↦ go (none_made c.loop-change.entries.items c.match-change.entries.items c.change-item.result _ w.in_default.is
          (ap (λ (v : Vec Entry Global). v.items) w.entries-is))
    ]
