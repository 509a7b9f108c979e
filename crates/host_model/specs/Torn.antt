-- What writes and stops leave of the parts of a file.
use Rattle.std.specs.Prelude.{◌≡◌, ◌≤◌, ◌<◌, ◌+◌, ◌-◌, ◌++◌, ◌||◌, ◌⊎◌, ℕ, zero, suc, Bool, true, false, max, min, nat_lt, List, [], ◌∷◌, map, cond, length, take, drop, slice_get, slice_range, get_or, Some}
use Rattle.std.specs.List.{range_with_len}
use Rattle.std.proofs.Common.{arith, sym, ap, ◌∙◌, refl, subst, inl, inr, ⊎_elim, length-append, length-take, length-drop}
use Rattle.std.proofs.lemmas.Grind.{common_steps}
use Rattle.std.proofs.lemmas.Bool.{ltb-true, ltb-false, leb-true, leb-false, lt-ltb, le-ltb, lt-leb, and_cases, and_from, or_parts, cond-true, cond-false, and_left, and_right, and_parts, cases_lt, cases_Bool}
use Rattle.std.proofs.lemmas.Option.{slice_get-get_or, slice_get_past, slice_get_within, get_or_from_slice_get}
use Rattle.std.proofs.lemmas.List.{ext_get_or, get_or-take, get_or-drop, take-append-drop}
use Rattle.std.proofs.lemmas.List.Folds.{list_all-append}
use Rattle.std.proofs.lemmas.List.FromFn.{length-map-range_with_len, get_or-map-range_with_len}
use Rattle.std.proofs.Math.Bool.{or-false}
use Rattle.host_model.specs.Disk.{are_bytes, written_at, Range, range, is_in, in_doubt, furthest, DiffersIn}

-- Where two lists agree at a place, and the first has it, both have the same there.
pub same_at : (a b : List ℕ) (k d : ℕ) → slice_get a k ≡ slice_get b k → k < length a → (k < length b) × (get_or a k d ≡ get_or b k d)
same_at a b k d e l =
    let s : slice_get b k ≡ Some (get_or a k d) = sym e ∙ slice_get-get_or a k d l in
    (slice_get_within b k _ s, sym (get_or_from_slice_get b k _ d s))

-- Two lists with the same at a place agree there.
pub get_same : (a b : List ℕ) (k : ℕ) → k < length a → k < length b → get_or a k 0 ≡ get_or b k 0 → slice_get a k ≡ slice_get b k
get_same a b k la lb e = slice_get-get_or a k 0 la ∙ ap Some e ∙ sym (slice_get-get_or b k 0 lb)

-- Two lists agree past both their ends.
pub get_past : (a b : List ℕ) (k : ℕ) → length a ≤ k → length b ≤ k → slice_get a k ≡ slice_get b k
get_past a b k la lb = slice_get_past a k la ∙ sym (slice_get_past b k lb)

pub is_in-false : (r : Range) (k : ℕ) → is_in r k ≡ false → (k < r.from) ⊎ (r.from + r.count ≤ k)
is_in-false r k e = ⊎_elim (λ a. inl (leb-false _ _ a)) (λ b. inr (ltb-false _ _ b)) (and_cases _ _ e)

pub is_in-below : (r : Range) (k : ℕ) → k < r.from → is_in r k ≡ false
is_in-below r k a = and_left _ _ (lt-leb _ _ a)

pub is_in-above : (r : Range) (k : ℕ) → r.from + r.count ≤ k → is_in r k ≡ false
is_in-above r k b = and_right _ _ (le-ltb _ _ b)

pub is_in-parts : (r : Range) (k : ℕ) → is_in r k ≡ true → (r.from ≤ k) × (k < r.from + r.count)
is_in-parts r k e = let p = and_parts _ _ e in (leb-true _ _ p.0, ltb-true _ _ p.1)

-- two tests that are false
pub or_falses : (x y : Bool) → x ≡ false → y ≡ false → (x || y) ≡ false
or_falses x y p q = rw (p, q) refl

-- A place that is not in a range is outside it alone.
pub alone : (r : Range) (k : ℕ) → is_in r k ≡ false → in_doubt (r ∷ []) k ≡ false
alone r k e = or-false (is_in r k) ∙ e

-- Ranges reach no less far than the length.
pub furthest-ge : (len : ℕ) (ranges : List Range) → len ≤ furthest len ranges
furthest-ge len [] = omega arith
furthest-ge len (r ∷ rs) = omega (arith, furthest-ge len rs)

-- A file after a write is as long as before, or as the write reaches.
pub length-written_at : (at : ℕ) (bytes file : List ℕ) → at ≤ length file → length (written_at at bytes file) ≡ max (length file) (at + length bytes)
length-written_at at bytes file l = simp (length-append, length-take, length-drop) (omega arith)

-- Before, in and behind its range, a byte is the old one, that of the piece, and the old one.
pub get_or-written_below : (at : ℕ) (bytes file : List ℕ) (k : ℕ) → at ≤ length file → k < at → get_or (written_at at bytes file) k 0 ≡ get_or file k 0
get_or-written_below at bytes file k l b = grind (arith, common_steps)

pub get_or-written_in : (at : ℕ) (bytes file : List ℕ) (k : ℕ) → at ≤ length file → at ≤ k → k < at + length bytes
    → get_or (written_at at bytes file) k 0 ≡ get_or bytes (k - at) 0
get_or-written_in at bytes file k l a b = grind (arith, common_steps)

pub get_or-written_above : (at : ℕ) (bytes file : List ℕ) (k : ℕ) → at ≤ length file → at + length bytes ≤ k
    → get_or (written_at at bytes file) k 0 ≡ get_or file k 0
get_or-written_above at bytes file k l a = grind (arith, common_steps)

-- A write changes its range alone.
pub DiffersIn-written : (at : ℕ) (bytes file : List ℕ) → at ≤ length file → DiffersIn (range at (length bytes) ∷ []) file (written_at at bytes file)
DiffersIn-written at bytes file l =
    let len = length-written_at at bytes file l in
    let r = range at (length bytes) in
    record {
      outside = λ k e. ⊎_elim
          (λ below. get_same _ _ k (omega (arith, len)) (omega arith) (get_or-written_below at bytes file k l below))
          (λ above. ⊎_elim
          (λ within. get_same _ _ k (omega (arith, len)) within (get_or-written_above at bytes file k l above))
          (λ past. get_past _ _ k (omega (arith, len)) past)
          (cases_lt k (length file)))
          (is_in-false r k (or_parts _ _ e).0);
      no_shorter = omega (arith, len);
      no_longer = omega (arith, len);
    }

-- Nothing written differs nowhere.
pub DiffersIn-refl : (ranges : List Range) (file : List ℕ) → DiffersIn ranges file file
DiffersIn-refl ranges file = record { outside = λ k e. refl; no_shorter = omega arith; no_longer = furthest-ge (length file) ranges }

-- What may differ in some ranges, and then in one more, differs in all of them.
pub DiffersIn-more : (r : Range) (rs : List Range) (a b c : List ℕ) → DiffersIn rs a b → DiffersIn (r ∷ []) b c → DiffersIn (r ∷ rs) a c
DiffersIn-more r rs a b c p q = record {
  outside = λ k e. let parts = or_parts _ _ e in q.outside k (alone r k parts.0) ∙ p.outside k parts.1;
  no_shorter = omega (arith, p.no_shorter, q.no_shorter);
  no_longer = omega (arith, p.no_longer, q.no_longer);
}

-- A part of the old file that the ranges do not meet is as it was.
pub outside_ranges : (ranges : List Range) (i j : ℕ) (old new : List ℕ) → DiffersIn ranges old new → j ≤ length old
    → ((k : ℕ) → i ≤ k → k < j → in_doubt ranges k ≡ false) → slice_range new i j ≡ slice_range old i j
outside_ranges ranges i j old new d l free =
    let longer = d.no_shorter in
    ext_get_or 0 _ _ (simp (length-take, length-drop) (omega arith)) (λ k b.
    let within : i + k < j = omega (arith, simp (length-take, length-drop) at b) in
    let same = same_at new old (i + k) 0 (d.outside (i + k) (free (i + k) (omega arith) within)) (omega arith) in
    get_or-take (j - i) (drop i new) k 0 (omega arith) ∙ get_or-drop i new k 0 ∙ same.1
    ∙ sym (get_or-take (j - i) (drop i old) k 0 (omega arith) ∙ get_or-drop i old k 0))

-- Each of some bytes is below 256; past their end 0 is read.
pub are_bytes-at : (xs : List ℕ) (k : ℕ) → are_bytes xs ≡ true → get_or xs k 0 < 256
are_bytes-at [] k e = omega arith
are_bytes-at (x ∷ xs) zero e = ltb-true _ _ (and_parts _ _ e).0
are_bytes-at (x ∷ xs) (suc k) e = are_bytes-at xs k (and_parts _ _ e).1

-- Numbers below 256 are bytes.
pub are_bytes-from : (xs : List ℕ) → ((k : ℕ) → k < length xs → get_or xs k 0 < 256) → are_bytes xs ≡ true
are_bytes-from [] h = refl
are_bytes-from (x ∷ xs) h = and_from _ _ (lt-ltb _ _ (h 0 (omega arith))) (are_bytes-from xs (λ k l. h (suc k) (omega arith)))

-- A write of bytes to bytes leaves bytes.
pub are_bytes-written_at : (at : ℕ) (bytes file : List ℕ) → are_bytes file ≡ true → are_bytes bytes ≡ true → are_bytes (written_at at bytes file) ≡ true
are_bytes-written_at at bytes file f b =
    let p : ℕ → Bool = λ b. nat_lt b 256 in
    let front = (and_parts _ _ (sym (list_all-append p (take at file) (drop at file)) ∙ ap are_bytes (take-append-drop at file) ∙ f)).0 in
    let back = (and_parts _ _ (sym (list_all-append p (take (at + length bytes) file) (drop (at + length bytes) file))
    ∙ ap are_bytes (take-append-drop (at + length bytes) file) ∙ f)).1 in
    list_all-append p (take at file ++ bytes) (drop (at + length bytes) file)
    ∙ and_from _ _ (list_all-append p (take at file) bytes ∙ and_from _ _ front b) back

-- What differs in no range is the same.
pub untouched : (old new : List ℕ) → DiffersIn [] old new → new ≡ old
untouched old new d =
    let longer = d.no_shorter in
    let bound = d.no_longer in
    ext_get_or 0 new old (omega arith) (λ k b. (same_at new old k 0 (d.outside k refl) b).1)

-- What may differ in some ranges and in one more comes from a file that differs in the others alone, by a torn write
-- of this one. The range begins where the file may reach, and the others leave no gap.
pub torn_last : (r : Range) (rs : List Range) (old new : List ℕ) → r.from ≤ furthest (length old) rs
    → ((k : ℕ) → k < furthest (length old) rs → in_doubt rs k ≡ false → k < length old) → DiffersIn (r ∷ rs) old new → are_bytes old ≡ true
    → are_bytes new ≡ true
    → (mid : List ℕ) × DiffersIn rs old mid × DiffersIn (r ∷ []) mid new × (are_bytes mid ≡ true)
torn_last r rs old new starts no_gap d bytes_old bytes_new =
    let longer = d.no_shorter in
    let bound = d.no_longer in
    let reach = furthest-ge (length old) rs in
    let n : ℕ = min (length new) (furthest (length old) rs) in
    let at : ℕ → ℕ = λ k. cond (in_doubt rs k) (get_or new k 0) (get_or old k 0) in
    let mid : List ℕ = map at (range_with_len 0 n) in
    let len : length mid ≡ n = length-map-range_with_len at 0 n in
    let here = λ (k : ℕ) (b : k < n). get_or-map-range_with_len at 0 n k k 0 b (omega arith) in
    let out = λ (k : ℕ) (b : k < n) (e : in_doubt rs k ≡ false). here k b ∙ cond-false (in_doubt rs k) (get_or new k 0) (get_or old k 0) e in
    let inn = λ (k : ℕ) (b : k < n) (e : in_doubt rs k ≡ true). here k b ∙ cond-true (in_doubt rs k) (get_or new k 0) (get_or old k 0) e in (
      mid,
      record {
        outside = λ k e. ⊎_elim
            (λ b. let l = no_gap k (omega arith) e in get_same mid old k (omega (arith, len)) l (out k b e))
            (λ b. get_past mid old k (omega (arith, len)) (⊎_elim (λ l. absurd (omega arith)) (λ l. l) (cases_lt k (length old))))
            (cases_lt k n);
        no_shorter = omega (arith, len);
        no_longer = omega (arith, len);
      },
      record {
        outside = λ k e. ⊎_elim
            (λ b. get_same new mid k (omega arith) (omega (arith, len)) (⊎_elim
            (λ doubt. sym (inn k b doubt))
            (λ sure. (same_at new old k 0 (d.outside k (or_falses (is_in r k) (in_doubt rs k) (or_parts _ _ e).0 sure)) (omega arith)).1 ∙ sym (out k b sure))
            (cases_Bool (in_doubt rs k))))
            (λ b. get_past new mid k (⊎_elim
            (λ l. absurd (⊎_elim (λ below. omega arith) (λ above. omega arith) (is_in-false r k (or_parts _ _ e).0)))
            (λ l. l)
            (cases_lt k (length new))) (omega (arith, len)))
            (cases_lt k n);
        no_shorter = omega (arith, len);
        no_longer = omega (arith, len);
      },
      are_bytes-from mid (λ k b. let l : k < n = omega (arith, len) in ⊎_elim
          (λ doubt. subst (λ x. x < 256) (sym (inn k l doubt)) (are_bytes-at new k bytes_new))
          (λ sure. subst (λ x. x < 256) (sym (out k l sure)) (are_bytes-at old k bytes_old))
          (cases_Bool (in_doubt rs k))),
    )
