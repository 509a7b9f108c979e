-- What a call that writes the marks leaves, for the marks as a vector keeps them.
use Rattle.std.proofs.Common.{◌≡◌, ◌≤◌, ◌<◌, inl, inr, ℕ, suc, ◌+◌, ◌-◌, ◌*◌, ◌%◌, ◌^◌, true, false, cond, List, [], ◌∷◌, ◌++◌, map, length, get_or, take, replicate}
use Rattle.std.proofs.Common.{Option, Some, zero, refl, sym, ap, ◌∙◌, subst, arith}
use Rattle.std.specs.Prelude.{◌==◌, option_map, Result, is_ok, IsOk}
use Rattle.std.specs.Vec.{with_items}
use Rattle.std.specs.Global.{Vec}
use Rattle.std.proofs.lemmas.List.{with_items_is, take_all, take_more, map-append}
use Rattle.std.proofs.lemmas.Bool.{and_from, and_parts, false_from_ne_true}
use Rattle.space_model.specs.Sizes.{segment_units}
use Rattle.space_model.specs.Runs.{Run, run, is_free, place}
use Rattle.space_model.specs.Apart.{In, IsRun}
use Rattle.space_model.proofs.Members.{in_front, in_behind}
use Rattle.space_model.proofs.FreeRuns.{free_run}
use Rattle.space_model.proofs.Places.{place_is_run, place_is_free}
use Rattle.buddy_space.specs.declared.marks.Mark.{Mark}
use Rattle.buddy_space.specs.declared.marks.Mark.TheVariants.{Free, Held}
use Rattle.buddy_space.specs.declared.marks.Run.{Run as UnitRun}
use Rattle.buddy_space.specs.SpaceState.{SpaceState, most_segments, largest_exp, units, held, is_free_run, with_segment, taking, giving, deferring, settling}
use Rattle.buddy_space.specs.Marks.{run_of, AreFree, IsUnused, IsFilled, IsTaken, AreWithin, IsReleased, seen, IsMarked}
use Rattle.buddy_space.specs.Pieces.{IsBest}
use Rattle.buddy_space.proofs.Freed.{free_by_marks, marks_by_free}
use Rattle.buddy_space.proofs.Placing.{best_is_place}
use Rattle.buddy_space.proofs.Changes.{IsSeen, seen_taking, seen_giving}
use Rattle.buddy_space.proofs.Deferring.{seen_deferring, seen_settling, seen_segment}

-- a vector with other elements
written : (v : Vec Mark) (segments : ℕ) (new : List Mark) (deferred : List UnitRun) (spare : ℕ) (s : SpaceState) → length new ≡ v.len
    → IsSeen segments new deferred spare s → IsSeen segments (with_items v new).items deferred spare s
written v segments new deferred spare s long is =
    subst (λ marks. IsSeen segments marks deferred spare s) (sym (with_items_is v new long)) is

-- the marks that a call is handed are those of the vector
pub record IsHanded (v : Vec Mark) (old new : List Mark) : Type 0 where
  pub same : old ≡ v.items
  pub long : length old ≡ v.len
  pub kept : length new ≡ length old

pub taken_run : (segments : ℕ) (marks : List Mark) (deferred : List UnitRun) (spare : ℕ) (s : SpaceState) (r : Run)
    → IsMarked marks (seen segments marks deferred spare) → seen segments marks deferred spare ≡ s → In r s.taken → IsRun largest_exp (length marks) r
taken_run segments marks deferred spare s r is view taken =
    let has : In r (seen segments marks deferred spare).taken = subst (λ (t : SpaceState). In r t.taken) (sym view) taken in
    subst (λ n. IsRun largest_exp n r) (sym is.whole) (is.parted.runs r (in_front _ (map run_of deferred) r has))

pub written_giving : (v : Vec Mark) (segments : ℕ) (old new : List Mark) (deferred : List UnitRun) (spare : ℕ) (s : SpaceState) (r : Run)
    → IsMarked v.items (seen segments v.items deferred spare) → seen segments v.items deferred spare ≡ s → In r s.taken → IsHanded v old new
    → IsFilled old new r Free → IsSeen segments (with_items v new).items deferred spare (giving s r)
written_giving v segments old new deferred spare s r is view taken handed filled =
    let long = handed.long in
    let kept = handed.kept in
    let same = ap length handed.same in
    written v segments new deferred spare (giving s r) (omega (arith, long, kept))
    (subst (λ t. IsSeen segments new deferred spare (giving t r)) view
    (seen_giving segments v.items new deferred spare r is (subst (λ (t : SpaceState). In r t.taken) (sym view) taken) (omega (arith, same, kept))
    (subst (λ marks. IsFilled marks new r Free) handed.same filled)))

pub written_deferring : (v : Vec Mark) (segments : ℕ) (old new : List Mark) (deferred : List UnitRun) (spare : ℕ) (s : SpaceState) (r : UnitRun)
    → IsMarked v.items (seen segments v.items deferred spare) → seen segments v.items deferred spare ≡ s → In (run_of r) s.taken → IsHanded v old new
    → IsFilled old new (run r.unit 0) Held → IsSeen segments (with_items v new).items (deferred ++ r ∷ []) (spare - 1) (deferring s (run_of r))
written_deferring v segments old new deferred spare s r is view taken handed filled =
    let long = handed.long in
    let kept = handed.kept in
    let same = ap length handed.same in
    written v segments new (deferred ++ r ∷ []) (spare - 1) (deferring s (run_of r)) (omega (arith, long, kept))
    (subst (λ t. IsSeen segments new (deferred ++ r ∷ []) (spare - 1) (deferring t (run_of r))) view
    (seen_deferring segments v.items new deferred spare r is (subst (λ (t : SpaceState). In (run_of r) t.taken) (sym view) taken)
    (omega (arith, same, kept)) (subst (λ marks. IsFilled marks new (run r.unit 0) Held) handed.same filled)))

pub written_settling : (v : Vec Mark) (segments : ℕ) (old new : List Mark) (deferred : List UnitRun) (spare : ℕ) (s : SpaceState)
    → IsMarked v.items (seen segments v.items deferred spare) → seen segments v.items deferred spare ≡ s → IsHanded v old new
    → IsReleased old new (map run_of deferred) → IsSeen segments (with_items v new).items [] spare (settling s)
written_settling v segments old new deferred spare s is view handed released =
    let long = handed.long in
    let kept = handed.kept in
    let same = ap length handed.same in
    written v segments new [] spare (settling s) (omega (arith, long, kept))
    (subst (λ t. IsSeen segments new [] spare (settling t)) view
    (seen_settling segments v.items new deferred spare is (omega (arith, same, kept))
    (subst (λ marks. IsReleased marks new (map run_of deferred)) handed.same released)))

pub written_taking : (v : Vec Mark) (segments : ℕ) (old new : List Mark) (deferred : List UnitRun) (spare : ℕ) (s : SpaceState) (r : Run)
    → IsMarked v.items (seen segments v.items deferred spare) → seen segments v.items deferred spare ≡ s → IsRun largest_exp (4096 * segments) r
    → AreFree v.items r → IsHanded v old new → IsTaken old new r → IsSeen segments (with_items v new).items deferred spare (taking s r)
written_taking v segments old new deferred spare s r is view run free handed took =
    let long = handed.long in
    let kept = handed.kept in
    let same = ap length handed.same in
    written v segments new deferred spare (taking s r) (omega (arith, long, kept))
    (subst (λ t. IsSeen segments new deferred spare (taking t r)) view
    (seen_taking segments v.items new deferred spare r is run free (omega (arith, same, kept)) (subst (λ marks. IsTaken marks new r) handed.same took)))

-- ---- whether a run is free

pub unused_is_free : (marks : List Mark) (s : SpaceState) (r : Run) → IsMarked marks s → IsUnused marks r → is_free_run s r ≡ true
unused_is_free marks s r is unused =
    let long = is.whole in
    let ends = unused.ends in
    and_from (r.unit % 2 ^ r.exp == 0) (is_free (units s) (held s) r) (ap (λ n. n == 0) unused.aligned)
    (free_by_marks marks s r is (omega (arith, long, ends)) unused.free)

free_is_unused : (marks : List Mark) (s : SpaceState) (r : Run) → IsMarked marks s → is_free_run s r ≡ true → IsUnused marks r
free_is_unused marks s r is free =
    let parts = and_parts (r.unit % 2 ^ r.exp == 0) (is_free (units s) (held s) r) free in
    let long = is.whole in
    let ends = (free_run (units s) (held s) r parts.1).0 in
    record { aligned = zero_from (r.unit % 2 ^ r.exp) parts.0; ends = omega (arith, long, ends); free = marks_by_free marks s r is parts.1 }
  where
    zero_from : (n : ℕ) → (n == 0) ≡ true → n ≡ 0
    zero_from n e = grind arith

pub used_is_held : (marks : List Mark) (s : SpaceState) (r : Run) → IsMarked marks s → (IsUnused marks r → ⊥) → is_free_run s r ≡ false
used_is_held marks s r is used = false_from_ne_true _ (λ free. used (free_is_unused marks s r is free))

-- ---- the place that was found

placed_run : (marks : List Mark) (s : SpaceState) (wanted unit : ℕ) → IsMarked marks s → Some unit ≡ place segment_units s.segments (held s) wanted
    → IsRun largest_exp (units s) (run unit wanted) × AreFree marks (run unit wanted)
placed_run marks s wanted unit is found = (
  place_is_run largest_exp (units s) (held s) wanted unit (sym found),
  marks_by_free marks s (run unit wanted) is (place_is_free largest_exp (units s) (held s) wanted unit (sym found)),
)

-- ---- runs that are released in turn

in_mapped_at : (runs : List UnitRun) (i : ℕ) (d : UnitRun) → i < length runs → In (run_of (get_or runs i d)) (map run_of runs)
in_mapped_at [] i d l = absurd (omega (arith, l))
in_mapped_at (r ∷ rs) zero d l = inl refl
in_mapped_at (r ∷ rs) (suc i) d l = inr (in_mapped_at rs i d (omega (arith, l)))

pub within_at : (units : ℕ) (runs : List UnitRun) (i : ℕ) (d : UnitRun) → AreWithin units runs → i < length runs → IsRun largest_exp units (run_of (get_or runs i d))
within_at units runs i d within l = within (run_of (get_or runs i d)) (in_mapped_at runs i d l)

pub mapped_more : (runs : List UnitRun) (i : ℕ) (d : UnitRun) → i < length runs
    → map run_of (take (i + 1) runs) ≡ map run_of (take i runs) ++ run_of (get_or runs i d) ∷ []
mapped_more runs i d l = ap (map run_of) (take_more runs i d l) ∙ map-append run_of (take i runs) (get_or runs i d ∷ [])

-- ---- deferred runs, and one more segment

pub deferred_within : (segments : ℕ) (marks : List Mark) (deferred : List UnitRun) (spare : ℕ) → IsMarked marks (seen segments marks deferred spare)
    → AreWithin (length marks) deferred
deferred_within segments marks deferred spare is r a =
    subst (λ n. IsRun largest_exp n r) (sym is.whole) (is.parted.runs r (in_behind (seen segments marks deferred spare).taken (map run_of deferred) r a))

pub written_segment : (segments : ℕ) (marks new : List Mark) (deferred : List UnitRun) (spare most more : ℕ) (s : SpaceState)
    → IsMarked marks (seen segments marks deferred spare) → seen segments marks deferred spare ≡ s → s.segments < most_segments → length marks ≤ most
    → more ≡ 4096 → new ≡ take most marks ++ replicate more Free → IsSeen (segments + 1) new deferred spare (with_segment s)
written_segment segments marks new deferred spare most more s is view few long same made =
    subst (λ ms. IsSeen (segments + 1) ms deferred spare (with_segment s)) (sym (made ∙ whole))
    (subst (λ t. IsSeen (segments + 1) (marks ++ replicate 4096 Free) deferred spare (with_segment t)) view
    (seen_segment segments marks deferred spare is (subst (λ (t : SpaceState). t.segments < most_segments) (sym view) few)))
  where
    whole : take most marks ++ replicate more Free ≡ marks ++ replicate 4096 Free
    whole = ap (λ ms. ms ++ replicate more Free) (take_all most marks long) ∙ ap (λ n. marks ++ replicate n Free) same

pub found_place : (segments : ℕ) (marks : List Mark) (deferred : List UnitRun) (spare : ℕ) (s : SpaceState) (wanted : ℕ) (best : Option UnitRun)
    → IsMarked marks (seen segments marks deferred spare) → seen segments marks deferred spare ≡ s → IsBest 12 marks wanted 0 (length marks) best
    → option_map (λ (r : UnitRun). r.unit) best ≡ place segment_units s.segments (held s) wanted
found_place segments marks deferred spare s wanted best is view f =
    subst (λ (t : SpaceState). option_map (λ (r : UnitRun). r.unit) best ≡ place segment_units t.segments (held t) wanted) view
    (best_is_place marks (seen segments marks deferred spare) wanted best is (subst (λ end. IsBest 12 marks wanted 0 end best) is.whole f))

pub found_run : (segments : ℕ) (marks : List Mark) (deferred : List UnitRun) (spare wanted : ℕ) (best : UnitRun)
    → IsMarked marks (seen segments marks deferred spare) → IsBest 12 marks wanted 0 (length marks) (Some best)
    → IsRun largest_exp (4096 * segments) (run best.unit wanted) × AreFree marks (run best.unit wanted)
found_run segments marks deferred spare wanted best is f =
    placed_run marks (seen segments marks deferred spare) wanted best.unit is
    (best_is_place marks (seen segments marks deferred spare) wanted (Some best) is (subst (λ end. IsBest 12 marks wanted 0 end (Some best)) is.whole f))

-- ---- a push that has room

pub pushed : {T E : Type 0} (r : Result T E) (count capacity spare : ℕ) (old new : List UnitRun) (x : UnitRun) → (count < capacity → IsOk r)
    → count + spare ≤ capacity → 1 ≤ spare → new ≡ cond (is_ok r) (old ++ x ∷ []) old → new ≡ old ++ x ∷ []
pushed r count capacity spare old new x ok room some is = is ∙ ap (λ b. cond b (old ++ x ∷ []) old) (ok (omega (arith, room, some)))

-- ---- a run that is claimed

pub unused_run : (segments : ℕ) (marks : List Mark) (deferred : List UnitRun) (spare : ℕ) (r : Run) → IsMarked marks (seen segments marks deferred spare)
    → r.exp ≤ largest_exp → IsUnused marks r → IsRun largest_exp (4096 * segments) r
unused_run segments marks deferred spare r is fits unused =
    let whole = is.whole in
    let ends = unused.ends in
    record { exp = fits; aligned = unused.aligned; ends = omega (arith, whole, ends) }
