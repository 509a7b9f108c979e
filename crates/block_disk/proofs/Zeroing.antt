-- Pages of zeros, written one behind the other.
use Rattle.std.proofs.Common.{◌≡◌, ◌≤◌, ◌<◌, ◌+◌, ◌-◌, ◌*◌, ◌∙◌, ℕ, zero, suc, List, [], ◌∷◌, ◌++◌, length, take, drop, get_or, slice_get}
use Rattle.std.proofs.Common.{Option, Some, None, option_map, false, refl, sym, ap, arith, inl, inr, ⊎_elim, length-append}
use Rattle.std.specs.Prelude.{max, ◌⊎◌}
use Rattle.std.proofs.Math.Nat.{mul-suc}
use Rattle.std.proofs.lemmas.Bool.{cases_lt, or_parts}
use Rattle.std.proofs.lemmas.Grind.{common_steps}
use Rattle.std.proofs.lemmas.List.{ext_get_or, append-nil, take-append-drop, length-replicate, replicate-append-replicate}
use Rattle.host_model.specs.Disk.{range, in_doubt, furthest, DiffersIn, written_at, WhereTold}
use Rattle.host_model.specs.Torn.{is_in-below, is_in-above, is_in-false, or_falses, length-written_at, get_or-written_below, get_or-written_in}
use Rattle.host_model.specs.Torn.{get_or-written_above}
use Rattle.host_model.specs.Writes.{ranges_of, with_writes, BeginInside}
use Rattle.block_disk.specs.Zeroed.{zeros, zero_pages}

pub length-zeros : (n : ℕ) → length (zeros n) ≡ n
unfolding zeros
length-zeros n = length-replicate n 0

zeros-append : (n m : ℕ) → zeros n ++ zeros m ≡ zeros (n + m)
unfolding zeros
zeros-append n m = replicate-append-replicate n m 0

pub how_many : (size at k : ℕ) → length (zero_pages size at k) ≡ k
unfolding zero_pages
how_many size at zero = refl
how_many size at (suc k) = omega (arith, how_many size (at + size) k)

pub nth_page : (size at k i : ℕ) → i < k → slice_get (zero_pages size at k) i ≡ Some (record { at = at + size * i; bytes = zeros size })
unfolding zero_pages
nth_page size at zero i l = absurd (omega arith)
nth_page size at (suc k) zero l = let here : at ≡ at + size * 0 = omega arith in ap (λ a. Some (record { at = a; bytes = zeros size })) here
nth_page size at (suc k) (suc i) l =
    let next = mul-suc size i in
    let here : at + size + size * i ≡ at + size * suc i = omega arith in
    nth_page size (at + size) k i (omega arith) ∙ ap (λ a. Some (record { at = a; bytes = zeros size })) here

pub begin_inside : (size at k : ℕ) (file : List ℕ) → at ≤ length file → BeginInside (zero_pages size at k) file
unfolding zero_pages
begin_inside size at zero file l = tt
begin_inside size at (suc k) file l =
    let len = length-written_at at (zeros size) file l in
    (l, begin_inside size (at + size) k (written_at at (zeros size) file) (omega (arith, len, length-zeros size)))

get_left : (a b : List ℕ) (i : ℕ) → i < length a → get_or a i 0 ≡ get_or (a ++ b) i 0
get_left a b i l = grind (arith, common_steps)

get_right : (a b : List ℕ) (i j : ℕ) → length a + i ≡ j → get_or b i 0 ≡ get_or (a ++ b) j 0
get_right a b i j e = grind (arith, common_steps)

-- one write behind another is one write
written_on : (at : ℕ) (a b file : List ℕ) → at ≤ length file → written_at (at + length a) b (written_at at a file) ≡ written_at at (a ++ b) file
written_on at a b file l =
    let first = written_at at a file in
    let len = length-written_at at a file l in
    let both = length-append a b in
    let inside : at + length a ≤ length first = omega (arith, len) in
    let size = length-written_at (at + length a) b first inside in
    let whole = length-written_at at (a ++ b) file l in
    ext_get_or 0 _ _ (omega (arith, len, both, size, whole)) (λ k below. ⊎_elim
    (λ before. get_or-written_below (at + length a) b first k inside (omega arith) ∙ get_or-written_below at a file k l before
    ∙ sym (get_or-written_below at (a ++ b) file k l before))
    (λ from. ⊎_elim
    (λ in_a. get_or-written_below (at + length a) b first k inside in_a ∙ get_or-written_in at a file k l from in_a
    ∙ get_left a b (k - at) (omega arith) ∙ sym (get_or-written_in at (a ++ b) file k l from (omega arith)))
    (λ behind_a. ⊎_elim
    (λ in_b. get_or-written_in (at + length a) b first k inside behind_a in_b ∙ get_right a b (k - (at + length a)) (k - at) (omega arith)
    ∙ sym (get_or-written_in at (a ++ b) file k l from (omega arith)))
    (λ behind_b. get_or-written_above (at + length a) b first k inside behind_b ∙ get_or-written_above at a file k l behind_a
    ∙ sym (get_or-written_above at (a ++ b) file k l (omega arith)))
    (cases_lt k (at + length a + length b)))
    (cases_lt k (at + length a)))
    (cases_lt k at))

nothing_written : (at : ℕ) (file : List ℕ) → file ≡ written_at at (zeros 0) file
unfolding zeros
nothing_written at file =
    let here : at ≡ at + 0 = omega arith in
    sym (take-append-drop at file) ∙ (λ i. sym (append-nil (take at file)) i ++ drop (here i) file)

pub pages_written : (size at k : ℕ) (file : List ℕ) → at ≤ length file
    → with_writes (zero_pages size at k) file ≡ written_at at (zeros (size * k)) file
unfolding zero_pages
pages_written size at zero file l = let none : 0 ≡ size * 0 = omega arith in nothing_written at file ∙ ap (λ n. written_at at (zeros n) file) none
pages_written size at (suc k) file l =
    let page = zeros size in
    let rest = zeros (size * k) in
    let len = length-written_at at page file l in
    let long = length-zeros size in
    let more = mul-suc size k in
    let sum : size + size * k ≡ size * suc k = omega arith in
    pages_written size (at + size) k (written_at at page file) (omega (arith, len, long))
    ∙ ap (λ n. written_at (at + n) rest (written_at at page file)) (sym long) ∙ written_on at page rest file l
    ∙ ap (λ b. written_at at b file) (zeros-append size (size * k) ∙ ap zeros sum)

pub file_zeroed : (size at k : ℕ) (old new : Option (List ℕ)) → WhereTold old (λ f. at ≤ length f)
    → new ≡ option_map (with_writes (zero_pages size at k)) old → new ≡ option_map (written_at at (zeros (size * k))) old
file_zeroed size at k None new inside e = e
file_zeroed size at k (Some f) new inside e = e ∙ ap Some (pages_written size at k f (inside f refl))

-- ---- their ranges are one range

outside_pages : (size at k j : ℕ) → (j < at) ⊎ (at + size * k ≤ j) → in_doubt (ranges_of (zero_pages size at k)) j ≡ false
unfolding zero_pages
outside_pages size at zero j apart = refl
outside_pages size at (suc k) j apart =
    let long = length-zeros size in
    let more = mul-suc size k in
    or_falses _ _
    (⊎_elim
    (λ below. is_in-below (range at (length (zeros size))) j below)
    (λ above. is_in-above (range at (length (zeros size))) j (omega (arith, long, more)))
    apart)
    (outside_pages size (at + size) k j (⊎_elim (λ below. inl (omega arith)) (λ above. inr (omega (arith, more))) apart))

pages_reach : (size at k n : ℕ) → furthest n (ranges_of (zero_pages size at k)) ≤ max n (at + size * k)
unfolding zero_pages
pages_reach size at zero n = omega arith
pages_reach size at (suc k) n = omega (arith, length-zeros size, mul-suc size k, pages_reach size (at + size) k n)

pub in_one_range : (size at k : ℕ) (old new : List ℕ) → DiffersIn (ranges_of (zero_pages size at k)) old new → DiffersIn (range at (size * k) ∷ []) old new
in_one_range size at k old new d = record {
  outside = λ j e. d.outside j (outside_pages size at k j (is_in-false (range at (size * k)) j (or_parts _ _ e).0));
  no_shorter = d.no_shorter;
  no_longer = omega (arith, d.no_longer, pages_reach size at k (length old));
}
