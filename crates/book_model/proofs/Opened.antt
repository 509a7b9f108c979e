-- A book that was just opened is that of its file.
use Rattle.std.proofs.Common.{◌≡◌, ◌≤◌, inl, ⊎_elim, ℕ, ◌==◌, nat_le, true, List, [], sym, ap, ◌∙◌, subst, arith}
use Rattle.std.specs.List.{IsDistinct}
use Rattle.std.proofs.lemmas.Bool.{and_parts, leb-true}
use Rattle.space_model.specs.Apart.{In, Pairs}
use Rattle.file_model.specs.declared.entry.Entry.{Entry}
use Rattle.file_model.specs.declared.head.Head.{Head}
use Rattle.file_model.specs.Header.{the_version, most_segments, units_per_segment, is_allowed}
use Rattle.file_model.specs.View.{Units, view, view_of, units_of}
use Rattle.file_model.specs.Taken.{taken, entry_of, entries}
use Rattle.file_model.specs.Fit.{has_segments, has_no_rejects}
use Rattle.file_model.specs.Gates.{AreRead}
use Rattle.write_cache.specs.declared.pending.Pending.{Pending}
use Rattle.write_cache.specs.Waiting.{Waiting, HasDistinctKeys}
use Rattle.book_model.specs.Book.{IsParted, Book, entry_runs, pending_entries, olds_of, OtherUnit, MeetsNot, IsInOrder}
use Rattle.book_model.specs.OfFile.{IsOf, IsOpened}
use Rattle.book_model.specs.Below.{BlockLaws}
use Rattle.book_model.proofs.Members.{pairs_also, pairs_map}
use Rattle.book_model.proofs.Runs.{entries_pair}
use Rattle.book_model.proofs.Filed.{filed_from, filed_in}
use Rattle.book_model.proofs.Blocks.{Lower, taken_lower, taken_stands}
use Rattle.book_model.proofs.Headers.{allowed_of}

most_of : (h : Head) → is_allowed h ≡ true → h.segments ≤ h.max_segments
most_of h e =
    let a = and_parts (h.version == the_version) _ e in
    let b = and_parts (nat_le 1 h.keypos) _ a.1 in
    let c = and_parts (nat_le h.keypos 65535) _ b.1 in
    let d = and_parts (nat_le 1 h.max_segments) _ c.1 in
    let f = and_parts (nat_le h.max_segments most_segments) _ d.1 in
    leb-true h.segments h.max_segments (and_parts (nat_le h.segments h.max_segments) _ f.1).0

-- the runs of taken blocks do not meet
pub taken_apart : (laws : BlockLaws) (h : Head) (units : Units) → AreRead h units → has_no_rejects (view h units) ≡ true
    → Pairs MeetsNot (entries (view h units))
taken_apart laws h units read none =
    pairs_map (λ s t. MeetsNot (entry_of s) (entry_of t)) MeetsNot entry_of (taken (view h units)) (λ s t apart. apart)
    (pairs_also Lower (λ s t. MeetsNot (entry_of s) (entry_of t)) (taken (view h units)) (λ s t a b lower.
    inl ((laws.taken h units read none).apart s.unit t.unit s t (taken_stands h units read s a) (taken_stands h units read t b) lower))
    (taken_lower h units read))

pub no_keys : HasDistinctKeys []
unfolding IsDistinct
no_keys = tt

module _ (laws : BlockLaws) (file : List ℕ) (b : Book) (opened : IsOpened file b) (whole : has_segments b.place.head file ≡ true)
    (none : has_no_rejects (view_of b.place.head file) ≡ true) (parted : IsParted (units_per_segment b.place.head) b.space) where
  abbrev h : Head
  h = b.place.head

  allowed : is_allowed h ≡ true
  allowed = allowed_of file h (laws.located file b.place opened.place).0

  nothing : {X : Type 0} (f : Waiting → List X) → f [] ≡ [] → f b.cache ≡ []
  nothing f is = ap f opened.cache ∙ is

  no_pending : (e : Entry) → In e (pending_entries b.cache) → ⊥
  no_pending e a = subst (λ (w : Waiting). In e (pending_entries w)) opened.cache a

  no_olds : (e : Entry) → In e (olds_of b.cache) → ⊥
  no_olds e a = subst (λ (w : Waiting). In e (olds_of w)) opened.cache a

  no_waiting : (e : List ℕ × Pending) → In e b.cache → ⊥
  no_waiting e a = subst (λ (w : Waiting). In e w) opened.cache a

  order_opened : IsInOrder b
  order_opened =
      let same = opened.segments in
      let most = most_of h allowed in
      record {
        header = allowed;
        at_least = omega arith;
        at_most = omega arith;
        entries = pairs_also OtherUnit MeetsNot b.directory (λ e f x y other. ⊎_elim
            (λ one. absurd (other (ap (λ (z : Entry). z.unit) one)))
            (λ apart. apart)
            (entries_pair (entries (view_of h file)) e f (taken_apart laws h (units_of h file) (laws.read (units_per_segment h) h file) none)
            (opened.directory.there e x) (opened.directory.there f y))) opened.units;
        taken = opened.taken;
        units = subst (λ (w : Waiting). Pairs OtherUnit (pending_entries w)) (sym opened.cache) tt;
        listed = λ e a. absurd (no_pending e a);
        deferred = record {
          there = λ r a. absurd (subst (λ rs. In r rs) opened.deferred a);
          back = λ r a. absurd (subst (λ (w : Waiting). In r (entry_runs (olds_of w))) opened.cache a);
        };
        hashed = λ e a. absurd (no_waiting e a);
      }

  pub opened_of : IsOf file b
  opened_of = record {
    place = opened.place;
    whole = whole;
    knows = record {
      gates = none;
      lists = record {
        there = λ e a. opened.directory.there e (⊎_elim (λ s. s.there) (λ o. absurd (no_olds e o)) (filed_from b e a));
        back = λ e a. filed_in b e (inl (record {
          there = opened.directory.back e a;
          not_pending = λ f there same. no_pending f there;
        }));
      };
      olds = λ e a. absurd (no_waiting e a);
      packed = λ e p a is. absurd (no_waiting e a);
    };
    order = record { order = order_opened; parted = parted; distinct = subst (λ w. HasDistinctKeys w) (sym opened.cache) no_keys };
  }
