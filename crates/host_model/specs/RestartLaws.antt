-- What a restart takes is one pair of its moment.
use Rattle.std.specs.Prelude.{◌≡◌, ◌≤◌, ◌<◌, ℕ, true, false, cond, List, [], ◌∷◌, map, length, get_or, Option, Some, None}
use Rattle.std.specs.List.{range_with_len}
use Rattle.std.proofs.Common.{arith, sym, ◌∙◌, refl, subst, inl, inr, ⊎_elim, append-nil}
use Rattle.std.proofs.lemmas.Bool.{cond-false, cases_lt, cases_order, lt-ltb, le-ltb, eq-eqb, ne_eqb}
use Rattle.std.proofs.lemmas.Option.{same_Some}
use Rattle.std.proofs.lemmas.List.FromFn.{length-map-range_with_len, get_or-map-range_with_len}
use Rattle.host_model.specs.Disk.{are_bytes, Range, in_doubt, furthest, IsImage}
use Rattle.host_model.specs.Torn.{get_same, get_past, furthest-ge, untouched}
use Rattle.host_model.specs.Host.{Left, IsGrown, Settled}
use Rattle.host_model.specs.Calls.{Call, said_after, is_possible, LeftAfter, LeftSince}
use Rattle.host_model.specs.Calls.Call.{Wrote, Synced, Put}
use Rattle.host_model.specs.CallLaws.{no_gap, grown_none, grown_whole, possible_parts}
use Rattle.host_model.specs.Restart.{Moment, moment, onto, byte_picked, length_picked, picked_image, image_at, output_at, pair_at}
use Rattle.host_model.specs.MemHost.{MemHostState, shown_of, pair_of, fresh_host}
use Rattle.host_model.specs.declared.restart.Pick.{Pick}
use Rattle.host_model.specs.declared.restart.Pick.TheVariants.{Old, New, Fill, Mix}

-- what a stop leaves within the call that follows the first n, or after all of them
abbrev pub LeftAt : ℕ → MemHostState → Left → Type 0
LeftAt n h c = let m = moment n h.calls in LeftAfter h.origin m.made m.running c

length_picked-bounds : (pick : Pick) (least greatest : ℕ) → least ≤ greatest → (least ≤ length_picked pick least greatest)
    × (length_picked pick least greatest ≤ greatest)
length_picked-bounds Old least greatest l = (omega arith, l)
length_picked-bounds New least greatest l = (l, omega arith)
length_picked-bounds (Fill byte) least greatest l = (l, omega arith)
length_picked-bounds (Mix number) least greatest l = (l, omega arith)

-- a picked image is one that a stop may leave
pub picked_image-left : (pick : Pick) (rs : List Range) (synced file : List ℕ) → are_bytes (picked_image pick rs synced file) ≡ true
    → ((k : ℕ) → k < furthest (length synced) rs → in_doubt rs k ≡ false → k < length synced) → IsImage rs synced (picked_image pick rs synced file)
picked_image-left pick rs synced file p gapless =
    let n : ℕ = length_picked pick (length synced) (furthest (length synced) rs) in
    let bounds = length_picked-bounds pick (length synced) (furthest (length synced) rs) (furthest-ge (length synced) rs) in
    let at : ℕ → ℕ = λ k. cond (in_doubt rs k) (byte_picked pick k (get_or synced k 0) (get_or file k 0)) (get_or synced k 0) in
    let image : List ℕ = map at (range_with_len 0 n) in
    let len : length image ≡ n = length-map-range_with_len at 0 n in
    let here = λ (k : ℕ) (b : k < n). get_or-map-range_with_len at 0 n k k 0 b (omega arith) in
    record {
      differs = record {
        outside = λ k e. ⊎_elim
            (λ b. get_same image synced k (omega (arith, len)) (gapless k (omega (arith, bounds.1)) e) (here k b
            ∙ cond-false (in_doubt rs k) (byte_picked pick k (get_or synced k 0) (get_or file k 0)) (get_or synced k 0) e))
            (λ b. get_past image synced k (omega (arith, len)) (omega (arith, bounds.0)))
            (cases_lt k n);
        no_shorter = omega (arith, len, bounds.0);
        no_longer = omega (arith, len, bounds.1);
      };
      bytes = p;
    }

-- the moment by the place of the stop

moment-past : (n : ℕ) (call : Call) (calls : List Call) → length calls < n → moment n (call ∷ calls) ≡ record { made = call ∷ calls; running = None }
moment-past n call calls l = rw (lt-ltb (length calls) n l) refl

moment-at : (n : ℕ) (call : Call) (calls : List Call) → n ≡ length calls → moment n (call ∷ calls) ≡ record { made = calls; running = Some call }
moment-at n call calls e = rw (le-ltb (length calls) n (omega arith), eq-eqb n (length calls) e) refl

moment-before : (n : ℕ) (call : Call) (calls : List Call) → n < length calls → moment n (call ∷ calls) ≡ moment n calls
moment-before n call calls l = rw (le-ltb (length calls) n (omega arith), ne_eqb n (length calls) (λ same. omega arith)) refl

possible_tail : (file : List ℕ) (call : Call) (calls : List Call) → is_possible file (call ∷ calls) ≡ true → is_possible file calls ≡ true
possible_tail file (Wrote at bytes) calls p = (possible_parts file calls at bytes p).0
possible_tail file Synced calls p = p
possible_tail file (Put piece) calls p = p

-- the calls of a moment are possible where all are
pub moment-possible : (file : List ℕ) (n : ℕ) (calls : List Call) → is_possible file calls ≡ true
    → is_possible file (onto (moment n calls).running (moment n calls).made) ≡ true
moment-possible file n [] p = p
moment-possible file n (call ∷ calls) p = ⊎_elim
    (λ same. let m = moment-at n call calls same in subst (λ m. is_possible file (onto m.running m.made) ≡ true) (sym m) p)
    (λ apart. ⊎_elim
    (λ before. subst (λ m. is_possible file (onto m.running m.made) ≡ true) (sym (moment-before n call calls before))
    (moment-possible file n calls (possible_tail file call calls p)))
    (λ after. subst (λ m. is_possible file (onto m.running m.made) ≡ true) (sym (moment-past n call calls after)) p)
    apart)
    (cases_order n (length calls))

-- the output that is picked, where the call in progress says no piece
output_still : (pick : Pick) (first : List ℕ) (made : List Call) (running : Option Call) → said_after first (onto running made) ≡ said_after first made
    → IsGrown [] (said_after first made) (output_at pick first (record { made = made; running = running }))
output_still Old first made running e = grown_none (said_after first made)
output_still New first made running e = subst (λ o. IsGrown [] (said_after first made) o) (sym e) (grown_none (said_after first made))
output_still (Fill byte) first made running e = subst (λ o. IsGrown [] (said_after first made) o) (sym e) (grown_none (said_after first made))
output_still (Mix number) first made running e = subst (λ o. IsGrown [] (said_after first made) o) (sym e) (grown_none (said_after first made))

output_put : (pick : Pick) (first : List ℕ) (made : List Call) (piece : List ℕ)
    → IsGrown piece (said_after first made) (output_at pick first (record { made = made; running = Some (Put piece) }))
output_put Old first made piece = record { count = 0; fits = omega arith; grown = sym (append-nil (said_after first made)) }
output_put New first made piece = grown_whole piece (said_after first made)
output_put (Fill byte) first made piece = grown_whole piece (said_after first made)
output_put (Mix number) first made piece = grown_whole piece (said_after first made)

running_left : (pick : Pick) (origin : Left) (made : List Call) (running : Option Call)
    → are_bytes (image_at pick origin.image (record { made = made; running = running })) ≡ true → is_possible origin.image (onto running made) ≡ true
    → LeftAfter origin made running (pair_at pick origin (record { made = made; running = running }))
running_left pick origin made None p possible = record {
  possible = possible;
  image = picked_image-left pick _ _ _ p (no_gap origin.image made possible);
  output = output_still pick origin.output made None refl;
}
running_left pick origin made (Some (Wrote at bytes)) p possible = record {
  possible = (possible_parts origin.image made at bytes possible).0;
  image = picked_image-left pick _ _ _ p (no_gap origin.image (Wrote at bytes ∷ made) possible);
  output = output_still pick origin.output made (Some (Wrote at bytes)) refl;
}
running_left pick origin made (Some Synced) p possible = record {
  possible = possible;
  image = picked_image-left pick _ _ _ p (no_gap origin.image made possible);
  output = output_still pick origin.output made (Some Synced) refl;
}
running_left pick origin made (Some (Put piece)) p possible = record {
  possible = possible;
  image = picked_image-left pick _ _ _ p (no_gap origin.image made possible);
  output = output_put pick origin.output made piece;
}

-- the image and the output of a moment are left by a stop in it
pub pair_at-left : (pick : Pick) (origin : Left) (m : Moment) → are_bytes (image_at pick origin.image m) ≡ true
    → is_possible origin.image (onto m.running m.made) ≡ true → LeftAfter origin m.made m.running (pair_at pick origin m)
pair_at-left pick origin m p possible = running_left pick origin m.made m.running p possible

-- and so by a stop since it
pub left_in_moment : (origin : Left) (n : ℕ) (calls : List Call) (c : Left) → n ≤ length calls
    → LeftAfter origin (moment n calls).made (moment n calls).running c → LeftSince origin calls n c
left_in_moment origin n [] c l h = (l, h)
left_in_moment origin n (call ∷ calls) c l h = ⊎_elim
    (λ same. inr (inl (omega arith, subst (λ m. LeftAfter origin m.made m.running c) (moment-at n call calls same) h)))
    (λ apart. ⊎_elim
    (λ before. inr (inr (left_in_moment origin n calls c (omega arith) (subst (λ m. LeftAfter origin m.made m.running c)
    (moment-before n call calls before) h))))
    (λ after. inl (omega arith, subst (λ m. LeftAfter origin m.made m.running c) (moment-past n call calls after) h))
    apart)
    (cases_order n (length calls))

-- a host that was restarted with that pair

pub restarted_since : (n : ℕ) (h new : MemHostState) → n ≤ length h.calls → LeftAt n h (pair_of new) → LeftSince h.origin h.calls n (pair_of new)
restarted_since n h new l left = left_in_moment h.origin n h.calls (pair_of new) l left

pub restarted_at : (pick : Pick) (n : ℕ) (h new : MemHostState) → are_bytes (image_at pick h.origin.image (moment n h.calls)) ≡ true
    → is_possible h.origin.image h.calls ≡ true → new ≡ fresh_host (pair_at pick h.origin (moment n h.calls)) [] → LeftAt n h (pair_of new)
restarted_at pick n h new p possible e =
    subst (λ r. LeftAt n h (pair_of r)) (sym e) (pair_at-left pick h.origin (moment n h.calls) p (moment-possible h.origin.image n h.calls possible))

pub restarted_settled : (h : MemHostState) → h.calls ≡ [] → Settled (shown_of h)
restarted_settled h e = subst (λ cs. Settled (shown_of (record h { calls = cs }))) (sym e) (λ c left f is. untouched _ _ left.image.differs ∙ same_Some _ _ is)
