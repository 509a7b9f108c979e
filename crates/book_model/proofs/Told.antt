-- What the states of waiting keys tell, where one key gets another state.
use Rattle.std.proofs.Common.{◌≡◌, ◌⊎◌, inl, inr, ⊎_elim, ℕ, false, List, Option, Some, sym, ap, ◌∙◌}
use Rattle.std.specs.Prelude.{bytes_eq, filter_map}
use Rattle.std.proofs.lemmas.Bool.{cases_Bool}
use Rattle.space_model.specs.Apart.{In, Pairs, SameMembers}
use Rattle.write_cache.specs.declared.pending.Pending.{Pending}
use Rattle.write_cache.specs.Waiting.{Waiting, state_of, with_state, HasDistinctKeys}
use Rattle.book_model.proofs.Members.{in_filter_map, filter_map_in, Through, pairs_filter_map, filter_map_pairs}
use Rattle.book_model.proofs.Waits.{Touched, same_key, state_in, put_in, others_in, in_put, put_pairs}

abbrev pub told : {Y : Type 0} → (Pending → Option Y) → Waiting → List Y
told f w = filter_map (λ e. f e.1) w

-- the state of another key tells it
pub record OfOther {Y : Type 0} (f : Pending → Option Y) (w : Waiting) (key : List ℕ) (y : Y) : Type 0 where
  pub touched : Touched
  pub there : In touched w
  pub other : bytes_eq touched.0 key ≡ false
  pub is : f touched.1 ≡ Some y

-- the state of the key tells it
pub record OfKey {Y : Type 0} (f : Pending → Option Y) (w : Waiting) (key : List ℕ) (y : Y) : Type 0 where
  pub state : Pending
  pub has : state_of w key ≡ Some state
  pub is : f state ≡ Some y

pub from_told : {Y : Type 0} (f : Pending → Option Y) (w : Waiting) (key : List ℕ) (y : Y) → HasDistinctKeys w → In y (told f w)
    → OfKey f w key y ⊎ OfOther f w key y
from_told f w key y distinct a =
    let r = in_filter_map (λ (e : Touched). f e.1) w y a in
    ⊎_elim
    (λ own. inl (record { state = r.0.1; has = ap (state_of w) (sym (same_key r.0.0 key own)) ∙ state_in w r.0 distinct r.1; is = r.2 }))
    (λ apart. inr (record { touched = r.0; there = r.1; other = apart; is = r.2 }))
    (cases_Bool (bytes_eq r.0.0 key))

pub other_told : {Y : Type 0} (f : Pending → Option Y) (w : Waiting) (key : List ℕ) (y : Y) → OfOther f w key y → In y (told f w)
other_told f w key y o = filter_map_in (λ (e : Touched). f e.1) w o.touched y o.there o.is

pub put_told : {Y : Type 0} (f : Pending → Option Y) (w : Waiting) (key : List ℕ) (s : Pending) (y : Y) → f s ≡ Some y → In y (told f (with_state w key s))
put_told f w key s y is = filter_map_in (λ (e : Touched). f e.1) (with_state w key s) (key, s) y (put_in w key s) is

pub other_stays : {Y : Type 0} (f : Pending → Option Y) (w : Waiting) (key : List ℕ) (s : Pending) (y : Y) → OfOther f w key y
    → In y (told f (with_state w key s))
other_stays f w key s y o =
    filter_map_in (λ (e : Touched). f e.1) (with_state w key s) o.touched y (others_in w key s o.touched o.other o.there) o.is

pub from_put : {Y : Type 0} (f : Pending → Option Y) (w : Waiting) (key : List ℕ) (s : Pending) (y : Y) → HasDistinctKeys w
    → In y (told f (with_state w key s)) → (f s ≡ Some y) ⊎ OfOther f w key y
from_put f w key s y distinct a =
    let r = in_filter_map (λ (e : Touched). f e.1) (with_state w key s) y a in
    ⊎_elim
    (λ own. inl (ap (λ (e : Touched). f e.1) (sym own) ∙ r.2))
    (λ other. inr (record { touched = r.0; there = other.0; other = other.1; is = r.2 }))
    (in_put w key s r.0 distinct r.1)

-- a key whose state told the same before
pub told_same : {Y : Type 0} (f : Pending → Option Y) (w : Waiting) (key : List ℕ) (s t : Pending) → HasDistinctKeys w → state_of w key ≡ Some s
    → f t ≡ f s → In (key, s) w → SameMembers (told f w) (told f (with_state w key t))
told_same f w key s t distinct has same there = record {
  there = λ y a. ⊎_elim
      (λ own.
      let state : own.state ≡ s = let h = own.has in cc (h, has) in
      put_told f w key t y (same ∙ ap f (sym state) ∙ own.is))
      (λ other. other_stays f w key t y other)
      (from_told f w key y distinct a);
  back = λ y a. ⊎_elim
      (λ own. filter_map_in (λ (e : Touched). f e.1) w (key, s) y there (sym same ∙ own))
      (λ other. other_told f w key y other)
      (from_put f w key t y distinct a);
}

-- what two states tell is related where what the states of other keys tell is to it
pub told_pairs : {Y : Type 0} (f : Pending → Option Y) (R : Y → Y → Type 0) (w : Waiting) (key : List ℕ) (s : Pending) → HasDistinctKeys w
    → Pairs R (told f w) → ((x y : Y) → OfOther f w key x → f s ≡ Some y → R x y × R y x) → Pairs R (told f (with_state w key s))
told_pairs f R w key s distinct old own = pairs_filter_map (λ (e : Touched). f e.1) R (with_state w key s)
    (put_pairs (Through (λ (e : Touched). f e.1) R) w key s distinct (filter_map_pairs (λ (e : Touched). f e.1) R w old)
    (λ x a other. (
      λ u v first second. (own u v (record { touched = x; there = a; other = other; is = first }) second).0,
      λ u v first second. (own v u (record { touched = x; there = a; other = other; is = second }) first).1,
    )))
