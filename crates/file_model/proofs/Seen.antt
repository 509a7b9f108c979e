-- What stands behind closed gates is not seen, nor are units behind the others whose gates are closed.
use Rattle.std.proofs.Common.{◌≡◌, ◌≤◌, ◌<◌, ℕ, zero, suc, ◌+◌, ◌-◌, Bool, true, false, List, ◌∷◌, refl, ap, ◌∙◌, arith}
use Rattle.file_model.specs.declared.head.Head.{Head}
use Rattle.file_model.specs.Block.{Standing}
use Rattle.file_model.specs.View.{Units, OpenUnit, with_unit, open_from, view}
use Rattle.file_model.specs.Gates.{Gates, SeenAlike}

step : (stands1 stands2 : ℕ → Standing) (u : ℕ) (us1 us2 : List OpenUnit) (o1 o2 : Bool) → o2 ≡ o1 → (o1 ≡ true → stands2 u ≡ stands1 u) → us2 ≡ us1
    → with_unit o2 stands2 u us2 ≡ with_unit o1 stands1 u us1
step stands1 stands2 u us1 us2 true true e same rest = λ i. record { unit = u; stands = same refl i } ∷ rest i
step stands1 stands2 u us1 us2 false false e same rest = rest
step stands1 stands2 u us1 us2 true false e same rest = absurd (cc e)
step stands1 stands2 u us1 us2 false true e same rest = absurd (cc e)

pub open_same : (open1 open2 : Gates) (stands1 stands2 : ℕ → Standing) (n u : ℕ)
    → ((w : ℕ) → u ≤ w → w < u + n → open2 w ≡ open1 w)
    → ((w : ℕ) → u ≤ w → w < u + n → open1 w ≡ true → stands2 w ≡ stands1 w)
    → open_from open2 stands2 n u ≡ open_from open1 stands1 n u
open_same open1 open2 stands1 stands2 zero u gates behind = refl
open_same open1 open2 stands1 stands2 (suc n) u gates behind =
    step stands1 stands2 u (open_from open1 stands1 n (suc u)) (open_from open2 stands2 n (suc u)) (open1 u) (open2 u)
    (gates u (omega arith) (omega arith)) (behind u (omega arith) (omega arith))
    (open_same open1 open2 stands1 stands2 n (suc u) (λ w a b. gates w (omega arith) (omega arith)) (λ w a b. behind w (omega arith) (omega arith)))

pub view_same : (h : Head) (old new : Units) → SeenAlike old new → view h new ≡ view h old
view_same h old new same =
    let units = ap (λ n. open_from new.is_open new.stands n 0) same.count
    ∙ open_same old.is_open new.is_open old.stands new.stands old.count 0 (λ u a b. same.gates u (omega arith)) (λ u a b o. same.behind u (omega arith) o) in
    λ i. record { head = h; open_units = units i }

-- units behind the others whose gates are closed, up to a bound
pub open_more : (gates : Gates) (stands : ℕ → Standing) (n m u : ℕ) → n ≤ m → ((w : ℕ) → u + n ≤ w → w < u + m → gates w ≡ false)
    → open_from gates stands m u ≡ open_from gates stands n u
open_more gates stands zero zero u l shut = refl
open_more gates stands (suc n) zero u l shut = absurd (omega arith)
open_more gates stands zero (suc m) u l shut =
    let closed = shut u (omega arith) (omega arith) in
    rw closed (open_more gates stands zero m (suc u) (omega arith) (λ w a b. shut w (omega arith) (omega arith)))
open_more gates stands (suc n) (suc m) u l shut =
    ap (λ us. with_unit (gates u) stands u us) (open_more gates stands n m (suc u) (omega arith) (λ w a b. shut w (omega arith) (omega arith)))

-- the open units from one on are this one, where it is open, and those behind it
pub open_turn : (gates : Gates) (stands : ℕ → Standing) (n u : ℕ) → u < n
    → open_from gates stands (n - u) u ≡ with_unit (gates u) stands u (open_from gates stands (n - (u + 1)) (u + 1))
open_turn gates stands n u l =
    let left : n - u ≡ suc (n - (u + 1)) = omega arith in
    let next : suc u ≡ u + 1 = omega arith in
    ap (λ m. open_from gates stands m u) left ∙ ap (λ x. with_unit (gates u) stands u (open_from gates stands (n - (u + 1)) x)) next
