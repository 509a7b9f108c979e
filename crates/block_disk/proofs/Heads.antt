-- The head of a block, in eight bytes.
use Rattle.std.proofs.Common.{◌≡◌, ◌≤◌, ◌<◌, ◌-◌, ◌^◌, ◌&&◌, ◌==◌, nat_le, ◌∙◌, ℕ, true, false, List, [], ◌∷◌, ◌++◌, length, drop, slice_index}
use Rattle.std.proofs.Common.{Some, refl, sym, ap, arith, ⊎_elim}
use Rattle.std.proofs.Math.Pow.{pow_mono}
use Rattle.std.proofs.lemmas.Bool.{le-leb, lt-leb, leb-true, both_ways, cases_lt}
use Rattle.byteorder.specs.Endian.{big_number, big_bytes}
use Rattle.byteorder.specs.Numbers.{big_number-reads_back}
use Rattle.space_model.specs.Sizes.{head_size, segment_units}
use Rattle.file_model.specs.Layout.{run_size}
use Rattle.file_model.specs.Block.{is_well_formed, if_well_formed, block_head}
use Rattle.file_model.specs.BodyWrites.{head_bytes}

-- eight bytes by their places
pub block_head_at : (xs : List ℕ) → length xs ≡ 8
    → block_head segment_units xs ≡ if_well_formed segment_units (slice_index xs 1 == 0 && (slice_index xs 2 == 0 && slice_index xs 3 == 0))
    (record { exp = slice_index xs 0; count = big_number 4 (drop 4 xs) })
block_head_at [] l = absurd (omega arith)
block_head_at (a ∷ []) l = absurd (omega arith)
block_head_at (a ∷ b ∷ []) l = absurd (omega arith)
block_head_at (a ∷ b ∷ c ∷ []) l = absurd (omega arith)
block_head_at (a ∷ b ∷ c ∷ d ∷ xs) l = refl

no_larger : (exp : ℕ) → exp ≤ 12 → 2 ^ exp ≤ 4096
no_larger exp l = pow_mono {i = exp} {j = 12} l

larger : (exp : ℕ) → 12 < exp → 4096 < 2 ^ exp
larger exp l = let twice : 2 ^ 13 ≤ 2 ^ exp = pow_mono {i = 13} {j = exp} l in omega arith

pub judged_by_length : (exp count : ℕ) → exp ≤ 12 → is_well_formed segment_units (record { exp = exp; count = count }) ≡ nat_le count (run_size exp - head_size)
judged_by_length exp count l = rw (le-leb (2 ^ exp) 4096 (no_larger exp l)) refl

pub too_large : (exp count : ℕ) → 12 < exp → is_well_formed segment_units (record { exp = exp; count = count }) ≡ false
too_large exp count l = rw (lt-leb (2 ^ exp) 4096 (larger exp l)) refl

-- what is well formed is no larger than a segment, and holds its payload
pub well_formed_fits : (exp count : ℕ) → is_well_formed segment_units (record { exp = exp; count = count }) ≡ true
    → (exp ≤ 12) × (count ≤ run_size exp - head_size)
well_formed_fits exp count e = ⊎_elim
    (λ more. absurd (both_ways _ (too_large exp count more) e))
    (λ less. (less, leb-true count (run_size exp - head_size) (sym (judged_by_length exp count less) ∙ e)))
    (cases_lt 12 exp)

pub head_back : (exp count : ℕ) → exp ≤ 12 → count ≤ run_size exp - head_size
    → block_head segment_units (head_bytes exp count) ≡ Some (record { exp = exp; count = count })
head_back exp count l m =
    let most = no_larger exp l in
    let back : big_number 4 (big_bytes 4 count ++ []) ≡ count = big_number-reads_back 4 count [] (omega arith) in
    ap (λ n. if_well_formed segment_units true (record { exp = exp; count = n })) back
    ∙ rw (judged_by_length exp count l, le-leb count (run_size exp - head_size) m) refl
