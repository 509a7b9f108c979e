-- A run is free just where all its units are marked so.
use Rattle.std.proofs.Common.{◌≡◌, ◌≤◌, ◌<◌, inl, inr, ⊎_elim, ℕ, ◌-◌, true, false, List, [], ◌∷◌, length, refl, arith}
use Rattle.std.specs.Prelude.{nat_lt}
use Rattle.std.specs.List.{list_any}
use Rattle.std.proofs.lemmas.List.{get_or_past}
use Rattle.std.proofs.lemmas.Nat.{pow_pos}
use Rattle.std.proofs.lemmas.Bool.{cases_lt, and_from, and_left, and_right, or_from, le-leb, le-ltb, not_from_false}
use Rattle.space_model.specs.Runs.{Run, end_of, meets, is_free}
use Rattle.space_model.specs.Apart.{In, Apart}
use Rattle.space_model.proofs.FreeRuns.{free_run}
use Rattle.buddy_space.specs.declared.marks.Mark.{Mark}
use Rattle.buddy_space.specs.declared.marks.Mark.TheVariants.{Free, Held}
use Rattle.buddy_space.specs.SpaceState.{SpaceState, units, held}
use Rattle.buddy_space.specs.Marks.{mark_at, Has, AreFree, IsMarked}

meets-apart : (r q : Run) → Apart r q → meets r q ≡ false
meets-apart r q apart = ⊎_elim
    (λ (l : end_of r ≤ q.unit). and_right (nat_lt r.unit (end_of q)) (nat_lt q.unit (end_of r)) (le-ltb q.unit (end_of r) l))
    (λ (l : end_of q ≤ r.unit). and_left (nat_lt r.unit (end_of q)) (nat_lt q.unit (end_of r)) (le-ltb r.unit (end_of q) l)) apart

none_meets : (r : Run) (runs : List Run) → ((q : Run) → In q runs → Apart r q) → list_any (meets r) runs ≡ false
none_meets r [] apart = refl
none_meets r (q ∷ qs) apart = or_from _ _ (meets-apart r q (apart q (inl refl))) (none_meets r qs (λ x a. apart x (inr a)))

pub is_free_from : (most : ℕ) (runs : List Run) (r : Run) → end_of r ≤ most → ((q : Run) → In q runs → Apart r q) → is_free most runs r ≡ true
is_free_from most runs r ends apart = and_from _ _ (le-leb (end_of r) most ends) (not_from_false _ (none_meets r runs apart))

-- runs without a unit in common are apart
apart_from : (r q : Run) → ((u : ℕ) → Has r u → Has q u → ⊥) → Apart r q
apart_from r q none =
    let some = pow_pos r.exp in
    let also = pow_pos q.exp in ⊎_elim
    (λ (x : q.unit < end_of r). ⊎_elim
    (λ (y : r.unit < end_of q). ⊎_elim
    (λ (z : r.unit < q.unit). absurd (none q.unit (omega (arith, z), x) (omega arith, omega (arith, also))))
    (λ (z : q.unit ≤ r.unit). absurd (none r.unit (omega arith, omega (arith, some)) (z, y))) (cases_lt r.unit q.unit))
    (λ (y : end_of q ≤ r.unit). inr y) (cases_lt r.unit (end_of q)))
    (λ (x : end_of r ≤ q.unit). inl x) (cases_lt q.unit (end_of r))

-- runs that are apart have no unit in common
pub outside : (r q : Run) (u : ℕ) → Apart r q → Has r u → Has q u → ⊥
outside r q u apart a b =
    let low = a.0 in
    let high = a.1 in
    let also = b.0 in
    let last = b.1 in
    ⊎_elim (λ (l : end_of r ≤ q.unit). omega (arith, high, also, l)) (λ (l : end_of q ≤ r.unit). omega (arith, low, last, l)) apart

pub free_by_marks : (marks : List Mark) (s : SpaceState) (r : Run) → IsMarked marks s → end_of r ≤ units s → AreFree marks r → is_free (units s) (held s) r ≡ true
free_by_marks marks s r is ends free =
    is_free_from (units s) (held s) r ends (λ q a. apart_from r q (λ u x y. is.free u q (free u x.0 x.1) a y))

pub marks_by_free : (marks : List Mark) (s : SpaceState) (r : Run) → IsMarked marks s → is_free (units s) (held s) r ≡ true → AreFree marks r
marks_by_free marks s r is free u low high =
    let f = free_run (units s) (held s) r free in
    let ends = f.0 in
    is.held u (omega (arith, high, ends)) (λ q a has. outside r q u (f.1 q a) (low, high) has)

-- free units are marked
not_free : (m : Mark) → m ≡ Held → m ≡ Free → ⊥
not_free m a b = cc

free_within : (marks : List Mark) (u : ℕ) → mark_at marks u ≡ Free → u < length marks
free_within marks u free = ⊎_elim
    (λ (x : u < length marks). x) (λ (x : length marks ≤ u). absurd (not_free (mark_at marks u) (get_or_past marks u Held x) free)) (cases_lt u (length marks))

pub ends_within : (marks : List Mark) (r : Run) → AreFree marks r → end_of r ≤ length marks
ends_within marks r free =
    let some = pow_pos r.exp in
    let last = free_within marks (end_of r - 1) (free (end_of r - 1) (omega (arith, some)) (omega (arith, some))) in
    omega (arith, last, some)
