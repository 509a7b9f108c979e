-- Images that are patched write by write.
use Rattle.std.proofs.Common.{◌≡◌, ◌<◌, ◌≤◌, ◌+◌, ◌-◌, ◌/◌, ◌%◌, ◌^◌, ◌∙◌, ◌||◌, ℕ, Bool, true, false, cond, nat_eq, List, [], ◌∷◌, map, length, get_or, take, sym, ap, refl, subst, ⊎_elim, arith}
use Rattle.std.specs.List.{range_with_len}
use Rattle.std.proofs.lemmas.Bool.{cond-true, cases_Bool, cases_lt, or_left}
use Rattle.std.proofs.lemmas.List.{ext_get_or, get_or_past}
use Rattle.std.proofs.lemmas.List.FromFn.{length-map-range_with_len, get_or-map-range_with_len}
use Rattle.host_model.specs.Disk.{written_at, Range, range, is_in, in_doubt, furthest}
use Rattle.host_model.specs.Torn.{is_in-false, is_in-parts, furthest-ge, length-written_at, get_or-written_below, get_or-written_in, get_or-written_above}
use Rattle.host_model.specs.Calls.{Call, file_after, is_possible}
use Rattle.host_model.specs.Calls.Call.{Wrote, Synced, Put}
use Rattle.host_model.specs.CallLaws.{possible_parts}
use Rattle.host_model.specs.Log.{newest_first, call_of, written}
use Rattle.host_model.specs.Restart.{byte_picked, length_picked, picked_image}
use Rattle.host_model.proofs.Again.{possible_at, possible_take, newest_first-more}
use Rattle.host_model.specs.declared.log.Kept.{Kept}
use Rattle.host_model.specs.declared.restart.Pick.{Pick}
use Rattle.host_model.specs.declared.restart.Pick.TheVariants.{Old, New, Fill, Mix}

-- a file is as long as the writes reach that made it of another
pub length_written : (file : List ℕ) (calls : List Call) → is_possible file calls ≡ true
    → length (file_after file calls) ≡ furthest (length file) (written calls)
length_written file [] p = refl
length_written file (Wrote at bytes ∷ calls) p =
    let parts = possible_parts file calls at bytes p in
    omega (arith, length-written_at at bytes (file_after file calls) parts.2, length_written file calls parts.0)
length_written file (Synced ∷ calls) p = length_written file calls p
length_written file (Put piece ∷ calls) p = length_written file calls p

-- What a restart has made of a synced file with some of the calls since: in their ranges the picked bytes, elsewhere those
-- of the file, as far as the ranges reach.
pub record IsPicked (pick : Pick) (synced : List ℕ) (calls : List Call) (image : List ℕ) : Type 0 where
  pub len : length image ≡ furthest (length synced) (written calls)
  pub each : (k : ℕ) → k < length image
      → get_or image k 0 ≡ cond (in_doubt (written calls) k) (byte_picked pick k (get_or synced k 0) (get_or (file_after synced calls) k 0)) (get_or synced k 0)

pub IsPicked-none : (pick : Pick) (synced : List ℕ) → IsPicked pick synced [] synced
IsPicked-none pick synced = record { len = refl; each = λ k l. refl }

-- what is picked again is picked of the first old byte and the last new one
pick_again : (pick : Pick) (k old mid new : ℕ) → byte_picked pick k (byte_picked pick k old mid) new ≡ byte_picked pick k old new
pick_again Old k old mid new = refl
pick_again New k old mid new = refl
pick_again (Fill byte) k old mid new = refl
pick_again (Mix number) k old mid new = cond_again (nat_eq ((number / 2 ^ (k % 64)) % 2) 1) old mid new
  where
    cond_again : (b : Bool) (old mid new : ℕ) → cond b new (cond b mid old) ≡ cond b new old
    cond_again true old mid new = refl
    cond_again false old mid new = refl

pick_in_doubt : (pick : Pick) (k old mid new : ℕ) (b : Bool) → byte_picked pick k (cond b (byte_picked pick k old mid) old) new ≡ byte_picked pick k old new
pick_in_doubt pick k old mid new true = pick_again pick k old mid new
pick_in_doubt pick k old mid new false = refl

-- what is picked for the bytes of a write to an image
pub picked_for : Pick → List ℕ → ℕ → List ℕ → List ℕ
picked_for pick image at bytes = map (λ i. byte_picked pick (at + i) (get_or image (at + i) 0) (get_or bytes i 0)) (range_with_len 0 (length bytes))

pub picked_for-is : (pick : Pick) (image : List ℕ) (at : ℕ) (bytes : List ℕ)
    → map (λ i. byte_picked pick (at + i) (get_or image (at + i) 0) (get_or bytes i 0)) (range_with_len 0 (length bytes)) ≡ picked_for pick image at bytes
unfolding picked_for
picked_for-is pick image at bytes = refl

length-picked_for : (pick : Pick) (image : List ℕ) (at : ℕ) (bytes : List ℕ) → length (picked_for pick image at bytes) ≡ length bytes
unfolding picked_for
length-picked_for pick image at bytes =
    length-map-range_with_len (λ i. byte_picked pick (at + i) (get_or image (at + i) 0) (get_or bytes i 0)) 0 (length bytes)

get_or-picked_for : (pick : Pick) (image : List ℕ) (at : ℕ) (bytes : List ℕ) (k : ℕ) → at ≤ k → k < at + length bytes
    → get_or (picked_for pick image at bytes) (k - at) 0 ≡ byte_picked pick k (get_or image k 0) (get_or bytes (k - at) 0)
unfolding picked_for
get_or-picked_for pick image at bytes k a b =
    let byte : ℕ → ℕ = λ i. byte_picked pick (at + i) (get_or image (at + i) 0) (get_or bytes i 0) in
    let back : at + (k - at) ≡ k = omega arith in
    get_or-map-range_with_len byte 0 (length bytes) (k - at) (k - at) 0 (omega arith) (omega arith)
    ∙ ap (λ j. byte_picked pick j (get_or image j 0) (get_or bytes (k - at) 0)) back

-- the byte at a place of an image so far, which may be past its end
byte_so_far : (pick : Pick) (synced : List ℕ) (calls : List Call) (image : List ℕ) (k : ℕ) → IsPicked pick synced calls image
    → (b : Bool) × (get_or image k 0 ≡ cond b (byte_picked pick k (get_or synced k 0) (get_or (file_after synced calls) k 0)) (get_or synced k 0))
byte_so_far pick synced calls image k p = ⊎_elim
    (λ within. (in_doubt (written calls) k, p.each k within))
    (λ past. (false, get_or_past image k 0 past ∙ sym (get_or_past synced k 0 (omega (arith, past, p.len, furthest-ge (length synced) (written calls))))))
    (cases_lt k (length image))

-- one write more
IsPicked-write : (pick : Pick) (synced : List ℕ) (calls : List Call) (image : List ℕ) (at : ℕ) (bytes : List ℕ)
    → is_possible synced (Wrote at bytes ∷ calls) ≡ true
    → IsPicked pick synced calls image → IsPicked pick synced (Wrote at bytes ∷ calls) (written_at at (picked_for pick image at bytes) image)
IsPicked-write pick synced calls image at bytes possible p =
    let parts = possible_parts synced calls at bytes possible in
    let file = file_after synced calls in
    let picked = picked_for pick image at bytes in
    let wide = length-picked_for pick image at bytes in
    let long = length_written synced calls parts.0 in
    let starts : at ≤ length image = omega (arith, parts.2, long, p.len) in
    let len = length-written_at at picked image starts in
    let r = range at (length bytes) in
    let now = λ (k : ℕ). byte_picked pick k (get_or synced k 0) (get_or (written_at at bytes file) k 0) in
    record {
      len = omega (arith, len, wide, p.len);
      each = λ k l. ⊎_elim
          (λ yes. let inside = is_in-parts r k yes in
          let so_far = byte_so_far pick synced calls image k p in
          let new = get_or bytes (k - at) 0 in
          get_or-written_in at picked image k starts inside.0 (omega (arith, inside.1, wide)) ∙ get_or-picked_for pick image at bytes k inside.0 inside.1
          ∙ ap (λ old. byte_picked pick k old new) so_far.1 ∙ pick_in_doubt pick k (get_or synced k 0) (get_or file k 0) new so_far.0
          ∙ ap (λ x. byte_picked pick k (get_or synced k 0) x) (sym (get_or-written_in at bytes file k parts.2 inside.0 inside.1))
          ∙ sym (cond-true (is_in r k || in_doubt (written calls) k) (now k) (get_or synced k 0) (or_left _ _ yes)))
          (λ out. let same : (get_or (written_at at picked image) k 0 ≡ get_or image k 0) × (k < length image)
          × (get_or (written_at at bytes file) k 0 ≡ get_or file k 0) = ⊎_elim
          (λ below. (get_or-written_below at picked image k starts below, omega arith, get_or-written_below at bytes file k parts.2 below))
          (λ above. (
            get_or-written_above at picked image k starts (omega (arith, above, wide)),
            omega
                (arith, len, wide, above, l),
            get_or-written_above at bytes file k parts.2 above,
          ))
          (is_in-false r k out) in
          same.0 ∙ p.each k same.1
          ∙ ap (λ x. cond (in_doubt (written calls) k) (byte_picked pick k (get_or synced k 0) x) (get_or synced k 0)) (sym same.2)
          ∙ sym (ap (λ b. cond (b || in_doubt (written calls) k) (now k) (get_or synced k 0)) out))
          (cases_Bool (is_in r k));
    }

-- every pick but `Old` has the greatest length
greatest_but_old : (pick : Pick) (least greatest : ℕ) → (pick ≡ Old → ⊥) → length_picked pick least greatest ≡ greatest
greatest_but_old Old least greatest h = absurd (h refl)
greatest_but_old New least greatest h = refl
greatest_but_old (Fill byte) least greatest h = refl
greatest_but_old (Mix number) least greatest h = refl

-- what was made with all calls is the image that is picked
pub picked_is : (pick : Pick) (synced : List ℕ) (calls : List Call) (image : List ℕ) → (pick ≡ Old → ⊥) → IsPicked pick synced calls image
    → image ≡ picked_image pick (written calls) synced (file_after synced calls)
picked_is pick synced calls image not_old p =
    let rs = written calls in
    let greatest = greatest_but_old pick (length synced) (furthest (length synced) rs) not_old in
    let n : ℕ = length_picked pick (length synced) (furthest (length synced) rs) in
    let at : ℕ → ℕ = λ k. cond (in_doubt rs k) (byte_picked pick k (get_or synced k 0) (get_or (file_after synced calls) k 0)) (get_or synced k 0) in
    ext_get_or 0 image (picked_image pick rs synced (file_after synced calls)) (p.len ∙ sym greatest ∙ sym (length-map-range_with_len at 0 n)) (λ k l.
    p.each k l ∙ sym (get_or-map-range_with_len at 0 n k k 0 (omega (arith, p.len, greatest)) (omega arith)))

cond_same : (b : Bool) (x : ℕ) → cond b x x ≡ x
cond_same true x = refl
cond_same false x = refl

-- the old image is the synced file
pub picked_old : (rs : List Range) (synced file : List ℕ) → synced ≡ picked_image Old rs synced file
picked_old rs synced file =
    let at : ℕ → ℕ = λ k. cond (in_doubt rs k) (get_or synced k 0) (get_or synced k 0) in
    ext_get_or 0 synced (picked_image Old rs synced file) (sym (length-map-range_with_len at 0 (length synced))) (λ k l.
    sym (cond_same (in_doubt rs k) (get_or synced k 0)) ∙ sym (get_or-map-range_with_len at 0 (length synced) k k 0 l (omega arith)))

-- a write among these calls begins within the image of those before it
pub write_starts : (pick : Pick) (synced image : List ℕ) (kept : List Kept) (i : ℕ) (d : Kept) (at : ℕ) (bytes : List ℕ) → i < length kept
    → call_of (get_or kept i d) ≡ Wrote at bytes
    → is_possible synced (newest_first kept) ≡ true → IsPicked pick synced (newest_first (take i kept)) image → at ≤ length image
write_starts pick synced image kept i d at bytes l e p so_far =
    omega (arith, possible_at synced kept i d at bytes l e p, length_written synced (newest_first (take i kept)) (possible_take synced kept i p), so_far.len)

-- one call more, by its kind

pub picked_write : (pick : Pick) (synced image now : List ℕ) (kept : List Kept) (i : ℕ) (d : Kept) (at : ℕ) (bytes : List ℕ) → i < length kept
    → call_of (get_or kept i d) ≡ Wrote at bytes
    → is_possible synced (newest_first kept) ≡ true → IsPicked pick synced (newest_first (take i kept)) image
    → now ≡ written_at at (picked_for pick image at bytes) image
    → IsPicked pick synced (newest_first (take (i + 1) kept)) now
picked_write pick synced image now kept i d at bytes l e possible so_far is =
    let upto = newest_first-more kept i d l ∙ ap (λ c. c ∷ newest_first (take i kept)) e in
    let here : is_possible synced (Wrote at bytes ∷ newest_first (take i kept)) ≡ true = sym (ap (λ cs. is_possible synced cs) upto)
    ∙ possible_take synced kept (i + 1) possible in
    subst (λ cs. IsPicked pick synced cs now) (sym upto)
    (subst (λ f. IsPicked pick synced (Wrote at bytes ∷ newest_first (take i kept)) f) (sym is)
    (IsPicked-write pick synced (newest_first (take i kept)) image at bytes here so_far))

other_call : (pick : Pick) (synced image : List ℕ) (calls : List Call) (call : Call) → ((at : ℕ) (bytes : List ℕ) → call ≡ Wrote at bytes → ⊥)
    → IsPicked pick synced calls image
    → IsPicked pick synced (call ∷ calls) image
other_call pick synced image calls (Wrote at bytes) not p = absurd (not at bytes refl)
other_call pick synced image calls Synced not p = record { len = p.len; each = p.each }
other_call pick synced image calls (Put piece) not p = record { len = p.len; each = p.each }

pub picked_other : (pick : Pick) (synced image : List ℕ) (kept : List Kept) (i : ℕ) (d : Kept) → i < length kept
    → ((at : ℕ) (bytes : List ℕ) → call_of (get_or kept i d) ≡ Wrote at bytes → ⊥)
    → IsPicked pick synced (newest_first (take i kept)) image → IsPicked pick synced (newest_first (take (i + 1) kept)) image
picked_other pick synced image kept i d l not so_far =
    subst (λ cs. IsPicked pick synced cs image) (sym (newest_first-more kept i d l))
    (other_call pick synced image (newest_first (take i kept)) (call_of (get_or kept i d)) not so_far)
