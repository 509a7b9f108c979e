-- What torn writes to one copy of the header leave of both.
use Rattle.std.proofs.Common.{◌≡◌, ◌≤◌, ◌<◌, ◌+◌, ◌-◌, ◌∙◌, ◌==◌, ℕ, Bool, true, false, cond, List, [], ◌∷◌, length, slice_range, refl, sym, ap}
use Rattle.std.proofs.Common.{subst, arith, get_or, inl, inr, ⊎_elim}
use Rattle.std.specs.Prelude.{not, ◌⊎◌}
use Rattle.std.proofs.lemmas.Bool.{or_parts}
use Rattle.host_model.specs.Disk.{range, is_in, DiffersIn, written_at}
use Rattle.host_model.specs.Torn.{alone, is_in-below, is_in-above, is_in-false, outside_ranges, DiffersIn-refl, DiffersIn-written, get_or-written_in}
use Rattle.host_model.specs.Tearing.{IsWithin, absorbed}
use Rattle.host_model.specs.WritesLaws.{slice_range-written}
use Rattle.file_model.specs.Layout.{page_size, copy_at, body_at, body_size, open_byte, closed_byte, is_open_at}
use Rattle.block_disk.specs.Places.{the_page}
use Rattle.block_disk.specs.Copies.{TearsGate, WritesGate, TearsBody, WritesBody}
use Rattle.block_disk.proofs.Slices.{same_index}
use Rattle.block_disk.proofs.Telling.{MayMake}

-- ---- a range in the page

pub in_page : (at n : ℕ) → at + n ≤ page_size → IsWithin (range at n) the_page
in_page at n l = record {
  outside = λ k e. ⊎_elim
      (λ below. absurd (omega arith))
      (λ above. is_in-above (range at n) k (omega arith))
      (is_in-false (range 0 page_size) k (or_parts (is_in (range 0 page_size) k) false e).0);
  reached = λ m. omega arith;
}

pub outside_page : (at n : ℕ) (old new : List ℕ) → at + n ≤ page_size → DiffersIn (range at n ∷ []) old new → DiffersIn the_page old new
outside_page at n old new l d = absorbed (range at n) the_page old old new (in_page at n l) (DiffersIn-refl the_page old) d

-- a part that the range does not meet
part_kept : (at n i j : ℕ) (old new : List ℕ) → DiffersIn (range at n ∷ []) old new → j ≤ length old → (j ≤ at) ⊎ (at + n ≤ i)
    → slice_range new i j ≡ slice_range old i j
part_kept at n i j old new d l apart = outside_ranges (range at n ∷ []) i j old new d l (λ k a b. alone (range at n) k (⊎_elim
    (λ before. is_in-below (range at n) k (omega arith))
    (λ behind. is_in-above (range at n) k (omega arith))
    apart))

gate_kept : (at n g : ℕ) (old new : List ℕ) → DiffersIn (range at n ∷ []) old new → (g < at) ⊎ (at + n ≤ g) → is_open_at new g ≡ is_open_at old g
gate_kept at n g old new d apart = ap (λ x. x == open_byte) (same_index new old g (d.outside g (alone (range at n) g (⊎_elim
    (λ before. is_in-below (range at n) g before)
    (λ behind. is_in-above (range at n) g behind)
    apart))))

-- ---- where the copies stand

record Apart (second : Bool) : Type 0 where
  gate_in_page : copy_at second + 1 ≤ page_size
  body_in_page : body_at second + body_size ≤ page_size
  own : copy_at second < body_at second
  gates : (copy_at (not second) < copy_at second) ⊎ (copy_at second + 1 ≤ copy_at (not second))
  gate_body : (body_at (not second) + body_size ≤ copy_at second) ⊎ (copy_at second + 1 ≤ body_at (not second))
  body_gate : (copy_at (not second) < body_at second) ⊎ (body_at second + body_size ≤ copy_at (not second))
  bodies : (body_at (not second) + body_size ≤ body_at second) ⊎ (body_at second + body_size ≤ body_at (not second))

apart_copies : (second : Bool) → Apart second
apart_copies true = record {
  gate_in_page = omega arith;
  body_in_page = omega arith;
  own = omega arith;
  gates = inl (omega arith);
  gate_body = inl (omega arith);
  body_gate = inl (omega arith);
  bodies = inl (omega arith);
}
apart_copies false = record {
  gate_in_page = omega arith;
  body_in_page = omega arith;
  own = omega arith;
  gates = inr (omega arith);
  gate_body = inr (omega arith);
  body_gate = inr (omega arith);
  bodies = inr (omega arith);
}

-- ---- torn

other_body_in_page : (second : Bool) → body_at (not second) + body_size ≤ page_size
other_body_in_page second = (apart_copies (not second)).body_in_page

pub gate_torn : (second : Bool) (old new : List ℕ) → page_size ≤ length old → DiffersIn (range (copy_at second) 1 ∷ []) old new → TearsGate second old new
gate_torn second old new page d =
    let a = apart_copies second in
    let o = other_body_in_page second in
    record {
      outside = outside_page (copy_at second) 1 old new a.gate_in_page d;
      other = record {
        gate = gate_kept (copy_at second) 1 (copy_at (not second)) old new d a.gates;
        body = part_kept (copy_at second) 1 (body_at (not second)) (body_at (not second) + body_size) old new d (omega (arith, o)) a.gate_body;
      };
      body = part_kept (copy_at second) 1 (body_at second) (body_at second + body_size) old new d (omega (arith, a.body_in_page))
          (inr (omega (arith, a.own)));
    }

pub body_torn : (second : Bool) (old new : List ℕ) → page_size ≤ length old → DiffersIn (range (body_at second) body_size ∷ []) old new
    → TearsBody second old new
body_torn second old new page d =
    let a = apart_copies second in
    let o = other_body_in_page second in
    record {
      outside = outside_page (body_at second) body_size old new a.body_in_page d;
      other = record {
        gate = gate_kept (body_at second) body_size (copy_at (not second)) old new d a.body_gate;
        body = part_kept (body_at second) body_size (body_at (not second)) (body_at (not second) + body_size) old new d (omega (arith, o)) a.bodies;
      };
      gate = gate_kept (body_at second) body_size (copy_at second) old new d (inl a.own);
    }

-- ---- written

first_of : (byte at : ℕ) → get_or (byte ∷ []) (at - at) 0 ≡ byte
first_of byte at = let zero_at : at - at ≡ 0 = omega arith in rw zero_at refl

test_of_byte : (is_open : Bool) → (cond is_open open_byte closed_byte == open_byte) ≡ is_open
test_of_byte true = refl
test_of_byte false = refl

pub gate_written : (second is_open : Bool) (old : List ℕ) → page_size ≤ length old
    → WritesGate second is_open old (written_at (copy_at second) (cond is_open open_byte closed_byte ∷ []) old)
gate_written second is_open old page =
    let a = apart_copies second in
    let at = copy_at second in
    let byte : ℕ = cond is_open open_byte closed_byte in
    let bytes : List ℕ = byte ∷ [] in
    record {
      torn = gate_torn second old (written_at at bytes old) page (DiffersIn-written at bytes old (omega (arith, a.gate_in_page)));
      gate = ap (λ x. x == open_byte) (get_or-written_in at bytes old at (omega (arith, a.gate_in_page)) (omega arith) (omega arith) ∙ first_of byte at)
          ∙ test_of_byte is_open;
    }

pub body_written : (second : Bool) (body old : List ℕ) → length body ≡ body_size → page_size ≤ length old
    → WritesBody second body old (written_at (body_at second) body old)
body_written second body old size page =
    let a = apart_copies second in
    let at = body_at second in
    let d : DiffersIn (range at (length body) ∷ []) old (written_at at body old) = DiffersIn-written at body old (omega (arith, a.body_in_page)) in
    record {
      torn = body_torn second old (written_at at body old) page (subst (λ n. DiffersIn (range at n ∷ []) old (written_at at body old)) size d);
      body = ap (λ n. slice_range (written_at at body old) at (at + n)) (sym size) ∙ slice_range-written at body old (omega (arith, a.body_in_page));
    }

-- ---- as what a write may make

pub gate_makes : (second : Bool) → MayMake (copy_at second) 1 (TearsGate second)
gate_makes second = record { torn = λ old new page d. gate_torn second old new page d }

pub body_makes : (second : Bool) → MayMake (body_at second) body_size (TearsBody second)
body_makes second = record { torn = λ old new page d. body_torn second old new page d }
