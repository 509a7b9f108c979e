-- More units whose gates are closed show nothing.
use Rattle.std.proofs.Common.{◌≡◌, ◌≤◌, ◌<◌, ℕ, zero, suc, ◌+◌, Bool, true, false, List, [], ◌∷◌, refl, ap, ◌∙◌, arith}
use Rattle.file_model.specs.declared.head.Head.{Head}
use Rattle.file_model.specs.Block.{Standing}
use Rattle.file_model.specs.View.{Units, OpenUnit, with_unit, open_from, view}
use Rattle.file_model.specs.Gates.{Gates}
use Rattle.book_model.specs.OfFile.{ShowsSame, AddsClosed}

first_shut : (b : Bool) (stands : ℕ → Standing) (u : ℕ) (rest : List OpenUnit) → b ≡ false → rest ≡ [] → with_unit b stands u rest ≡ []
first_shut true stands u rest shut none = absurd (cc shut)
first_shut false stands u rest shut none = none

all_shut : (gates : Gates) (stands : ℕ → Standing) (n u : ℕ) → ((w : ℕ) → u ≤ w → w < u + n → gates w ≡ false) → open_from gates stands n u ≡ []
all_shut gates stands zero u shut = refl
all_shut gates stands (suc n) u shut = first_shut (gates u) stands u (open_from gates stands n (suc u)) (shut u (omega arith) (omega arith))
    (all_shut gates stands n (suc u) (λ w l m. shut w (omega arith) (omega arith)))

first_same : (b : Bool) (s t : ℕ → Standing) (u : ℕ) (xs ys : List OpenUnit) → (b ≡ true → t u ≡ s u) → ys ≡ xs → with_unit b t u ys ≡ with_unit b s u xs
first_same true s t u xs ys same rest = let first = same refl in λ i. record { unit = u; stands = first i } ∷ rest i
first_same false s t u xs ys same rest = rest

same_units : (g k : Gates) (s t : ℕ → Standing) (n m u : ℕ) → n ≤ m → ((w : ℕ) → u ≤ w → w < u + n → k w ≡ g w)
    → ((w : ℕ) → u ≤ w → w < u + n → g w ≡ true → t w ≡ s w) → ((w : ℕ) → u + n ≤ w → w < u + m → k w ≡ false)
    → open_from k t m u ≡ open_from g s n u
same_units g k s t zero m u l gates behind shut = all_shut k t m u (λ w a b. shut w (omega arith) b)
same_units g k s t (suc n) zero u l gates behind shut = absurd (omega arith)
same_units g k s t (suc n) (suc m) u l gates behind shut =
    ap (λ b. with_unit b t u (open_from k t m (suc u))) (gates u (omega arith) (omega arith))
    ∙ first_same (g u) s t u (open_from g s n (suc u)) (open_from k t m (suc u)) (λ o. behind u (omega arith) (omega arith) o)
    (same_units g k s t n m (suc u) (omega arith) (λ w a b. gates w (omega arith) (omega arith)) (λ w a b o. behind w (omega arith) (omega arith) o)
    (λ w a b. shut w (omega arith) (omega arith)))

pub shows_same : (h g : Head) (old new : Units) → g.kind ≡ h.kind → g.keypos ≡ h.keypos → AddsClosed old new → ShowsSame (view h old) (view g new)
shows_same h g old new kind keypos adds = record {
  kind = kind;
  keypos = keypos;
  open_units = same_units old.is_open new.is_open old.stands new.stands old.count new.count 0 adds.count (λ w a b. adds.gates w (omega arith))
      (λ w a b o. adds.behind w (omega arith) o) (λ w a b. adds.shut w (omega arith) (omega arith));
}
