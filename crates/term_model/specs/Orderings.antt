-- Lemmas: one ordering and then another, and the order of numbers.
use Rattle.std.specs.Prelude.{◌≡◌, ℕ, suc, ◌<◌, true, false, refl}
use Rattle.std.proofs.Common.{arith, ap, sym}
use Rattle.std.specs.declared.cmp.Ordering.{Ordering}
use Rattle.std.specs.declared.cmp.Ordering.TheVariants.{Less, Equal, Greater}
use Rattle.std.specs.Ordering.{nat_cmp, ordering_then, is_ne, MatchOrdering}
use Rattle.std.specs.Cmp.{nat_cmp_is}
use Rattle.std.proofs.lemmas.Cmp.{ranked}

-- ---- one ordering and then another

pub decided : (o p : Ordering) → is_ne o ≡ true → ordering_then o p ≡ o
decided Less p e = refl
decided Equal p e = cc
decided Greater p e = refl

pub undecided : (o p : Ordering) → is_ne o ≡ false → ordering_then o p ≡ p
undecided Less p e = cc
undecided Equal p e = refl
undecided Greater p e = cc

pub then_assoc : (o p q : Ordering) → ordering_then (ordering_then o p) q ≡ ordering_then o (ordering_then p q)
then_assoc Less p q = refl
then_assoc Equal p q = refl
then_assoc Greater p q = refl

pub then_equal : (o : Ordering) → ordering_then o Equal ≡ o
then_equal Less = refl
then_equal Equal = refl
then_equal Greater = refl

-- ---- numbers

pub nat_cmp_self : (n : ℕ) → nat_cmp n n ≡ Equal
nat_cmp_self n = sym (nat_cmp_is n n Equal refl)

pub nat_cmp-zero-suc : (n : ℕ) → nat_cmp 0 (suc n) ≡ Less
nat_cmp-zero-suc n = sym (nat_cmp_is 0 (suc n) Less (omega arith))

pub nat_cmp-suc-zero : (n : ℕ) → nat_cmp (suc n) 0 ≡ Greater
nat_cmp-suc-zero n = sym (nat_cmp_is (suc n) 0 Greater (omega arith))

raised : (m n : ℕ) (o : Ordering) → MatchOrdering o (m < n) (m ≡ n) (n < m) → MatchOrdering o (suc m < suc n) (suc m ≡ suc n) (suc n < suc m)
raised m n Less h = omega arith
raised m n Equal h = ap suc h
raised m n Greater h = omega arith

pub nat_cmp-suc : (m n : ℕ) → nat_cmp (suc m) (suc n) ≡ nat_cmp m n
nat_cmp-suc m n = sym (nat_cmp_is (suc m) (suc n) (nat_cmp m n) (raised m n (nat_cmp m n) (ranked m n (nat_cmp m n) refl)))

alike : (m n : ℕ) (o : Ordering) → MatchOrdering o (m < n) (m ≡ n) (n < m) → o ≡ Equal → m ≡ n
alike m n Less h e = cc
alike m n Equal h e = h
alike m n Greater h e = cc

unequal : (o : Ordering) → (o ≡ Equal → ⊥) → is_ne o ≡ true
unequal Less n = refl
unequal Equal n = absurd (n refl)
unequal Greater n = refl

pub nat_cmp-apart : (m n : ℕ) → (m ≡ n → ⊥) → is_ne (nat_cmp m n) ≡ true
nat_cmp-apart m n d = unequal (nat_cmp m n) (λ e. d (alike m n (nat_cmp m n) (ranked m n (nat_cmp m n) refl) e))
