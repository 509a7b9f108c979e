-- Lemmas on writes one after another: what they change, how long the file is then, and what reads back.
use Rattle.std.specs.Prelude.{◌≡◌, ◌≤◌, ◌<◌, ◌+◌, ◌-◌, ℕ, zero, suc, false, max, List, [], ◌∷◌, length, take, drop, slice_range, get_or}
use Rattle.std.proofs.Common.{arith, ap, ◌∙◌, refl, ⊎_elim, length-take, length-drop}
use Rattle.std.proofs.lemmas.Bool.{or_parts}
use Rattle.std.proofs.lemmas.List.{ext_get_or, get_or-take, get_or-drop}
use Rattle.std.proofs.lemmas.List.Sums.{fold_more}
use Rattle.host_model.specs.Disk.{Range, in_doubt, furthest, DiffersIn, written_at}
use Rattle.host_model.specs.Torn.{alone, or_falses, is_in-below, is_in-above, length-written_at, get_or-written_in, DiffersIn-written, DiffersIn-refl, outside_ranges}
use Rattle.host_model.specs.Tearing.{IsWithin}
use Rattle.host_model.specs.Writes.{Write, end_of, range_of, ranges_of, with_write, with_writes, BeginInside, LieInside, IsApart, AreApart, ReadBack}

-- what a write put is read at its place
pub slice_range-written : (at : ℕ) (bytes file : List ℕ) → at ≤ length file → slice_range (written_at at bytes file) at (at + length bytes) ≡ bytes
slice_range-written at bytes file l =
    let len = length-written_at at bytes file l in
    ext_get_or 0 _ _ (simp (length-take, length-drop) (omega (arith, len))) (λ k b.
    let within : k < length bytes = omega (arith, simp (length-take, length-drop) at b) in
    get_or-take (at + length bytes - at) (drop at (written_at at bytes file)) k 0 (omega arith) ∙ get_or-drop at (written_at at bytes file) k 0
    ∙ get_or-written_in at bytes file (at + k) l (omega arith) (omega arith) ∙ ap (λ j. get_or bytes j 0) (omega arith))

-- ranges reach as far from where another one reached, or as far as that
furthest-max : (len end : ℕ) (rs : List Range) → furthest (max len end) rs ≤ max (furthest len rs) end
furthest-max len end [] = omega arith
furthest-max len end (r ∷ rs) = omega (arith, furthest-max len end rs)

furthest-mono : (a b : ℕ) (rs : List Range) → a ≤ b → furthest a rs ≤ furthest b rs
furthest-mono a b [] l = l
furthest-mono a b (r ∷ rs) l = omega (arith, furthest-mono a b rs l)

-- what may differ in one range, and then in some others, differs in all of them
pub DiffersIn-first : (r : Range) (rs : List Range) (a b c : List ℕ) → DiffersIn (r ∷ []) a b → DiffersIn rs b c → DiffersIn (r ∷ rs) a c
DiffersIn-first r rs a b c p q = record {
  outside = λ k e. let parts = or_parts _ _ e in q.outside k parts.1 ∙ p.outside k (alone r k parts.0);
  no_shorter = omega (arith, p.no_shorter, q.no_shorter);
  no_longer = omega (
    arith,
    p.no_longer,
    q.no_longer,
    furthest-mono (length b) (max (length a) (r.from + r.count)) rs p.no_longer,
    furthest-max (length a) (r.from + r.count) rs,
  );
}

-- writes change their ranges alone
pub DiffersIn-writes : (writes : List Write) (file : List ℕ) → BeginInside writes file → DiffersIn (ranges_of writes) file (with_writes writes file)
DiffersIn-writes [] file inside = DiffersIn-refl [] file
DiffersIn-writes (w ∷ ws) file inside =
    DiffersIn-first (range_of w) (ranges_of ws) file (with_write file w) (with_writes ws (with_write file w))
    (DiffersIn-written w.at w.bytes file inside.0) (DiffersIn-writes ws (with_write file w) inside.1)

-- ranges inside a file reach no further than its end
furthest-inside : (writes : List Write) (file : List ℕ) → LieInside writes file → furthest (length file) (ranges_of writes) ≡ length file
furthest-inside [] file inside = refl
furthest-inside (w ∷ ws) file inside = omega (arith, furthest-inside ws file inside.1, inside.0)

-- so a file that differs in them alone is as long
pub length_kept : (writes : List Write) (file image : List ℕ) → LieInside writes file → DiffersIn (ranges_of writes) file image → length image ≡ length file
length_kept writes file image inside d = omega (arith, d.no_shorter, d.no_longer, furthest-inside writes file inside)

-- a place of a write that the others do not meet is in none of their ranges
apart_from : (w : Write) (ws : List Write) (k : ℕ) → IsApart w ws → w.at ≤ k → k < end_of w → in_doubt (ranges_of ws) k ≡ false
apart_from w [] k apart a b = refl
apart_from w (v ∷ vs) k apart a b = or_falses _ _
    (⊎_elim (λ before. is_in-below (range_of v) k (omega arith)) (λ behind. is_in-above (range_of v) k (omega arith)) apart.0)
    (apart_from w vs k apart.1 a b)

-- what writes put that do not meet is read at their places
pub ReadBack-writes : (writes : List Write) (file : List ℕ) → AreApart writes → BeginInside writes file → ReadBack writes (with_writes writes file)
ReadBack-writes [] file apart inside = tt
ReadBack-writes (w ∷ ws) file apart inside =
    let now = with_write file w in
    let len = length-written_at w.at w.bytes file inside.0 in (
      outside_ranges (ranges_of ws) w.at (end_of w) now (with_writes ws now) (DiffersIn-writes ws now inside.1) (omega (arith, len))
          (λ k a b. apart_from w ws k apart.0 a b) ∙ slice_range-written w.at w.bytes file inside.0,
      ReadBack-writes ws now apart.1 inside.1,
    )

-- ---- the writes one by one

-- the range of each of them is within those of all
pub range_within : (writes : List Write) (i : ℕ) (d : Write) → i < length writes → IsWithin (range_of (get_or writes i d)) (ranges_of writes)
range_within [] i d l = absurd (omega arith)
range_within (w ∷ ws) zero d l = record { outside = λ k e. (or_parts _ _ e).0; reached = λ n. omega arith }
range_within (w ∷ ws) (suc i) d l = let r = range_within ws i d (omega arith) in record {
  outside = λ k e. r.outside k (or_parts _ _ e).1;
  reached = λ n. omega (arith, r.reached n);
}

-- each begins inside the file that those before it leave
pub begins_inside : (writes : List Write) (file : List ℕ) (i : ℕ) (d : Write) → BeginInside writes file → i < length writes
    → (get_or writes i d).at ≤ length (with_writes (take i writes) file)
begins_inside [] file i d inside l = absurd (omega arith)
begins_inside (w ∷ ws) file zero d inside l = inside.0
begins_inside (w ∷ ws) file (suc i) d inside l = begins_inside ws (with_write file w) i d inside.1 (omega arith)

-- one write more
pub with_writes-more : (writes : List Write) (file : List ℕ) (i : ℕ) (d : Write) → i < length writes
    → with_writes (take (i + 1) writes) file ≡ with_write (with_writes (take i writes) file) (get_or writes i d)
with_writes-more writes file i d l = fold_more with_write file writes i d l
