-- Lemmas: properties of formats that hold of what is put together where they hold of its parts.
use Rattle.std.proofs.Common.{◌≡◌, ◌≢◌, ℕ, zero, suc, ◌+◌, Bool, true, false, List, [], ◌∷◌, ◌++◌, refl, sym, ◌∙◌, arith}
use Rattle.etf_model.specs.declared.fault.EtfFault.{EtfFault}
use Rattle.etf_model.specs.declared.fault.EtfFault.TheVariants.{Short, Memory, LongTerm}
use Rattle.etf_model.specs.Format.{Format, byte, give, followed, tested, framed, changed, either, times}
use Rattle.etf_model.specs.Moved.{moved}
use Rattle.etf_model.specs.Sharp.{HasBytes}

-- a fault that tells the offset of its term
pub record TellsOffset {A : Type 0} (fault : ℕ → A → EtfFault) : Type 0 where
  pub not_short : (term : ℕ) (x : A) → fault term x ≢ Short
  pub not_memory : (term : ℕ) (x : A) → fault term x ≢ Memory
  pub not_long : (term : ℕ) (x : A) (at : ℕ) → fault term x ≢ LongTerm at
  pub moves : (n term : ℕ) (x : A) → moved n (fault term x) ≡ fault (term + n) x

-- The second of two formats is looked at only where it is read, and what is tested is not empty. Something is known of the
-- faults of tests.
pub record IsKeptWhere (Told : (A : Type 0) → (ℕ → A → EtfFault) → Type 0) (P : (A : Type 0) → Format A → Type 0) : Type 1 where
  pub of_byte : P ℕ byte
  pub of_give : {A : Type 0} (value : A) → P A (give value)
  pub of_followed : {A B : Type 0} (F : Format A) (G : A → Format B) → P A F → ((x : A) (front : List ℕ) → F.Whole x front → P B (G x)) → P B (followed F G)
  pub of_tested : {A : Type 0} (F : Format A) (test : A → Bool) (fault : ℕ → A → EtfFault) → Told A fault → HasBytes F → P A F → P A (tested F test fault)
  pub of_framed : {A : Type 0} (F : Format A) → P A F → P A (framed F)

-- where the faults of tests tell the offset of their term
abbrev pub IsKept : ((A : Type 0) → Format A → Type 0) → Type 1
IsKept P = IsKeptWhere (λ A fault. TellsOffset fault) P

module _ {Told : (A : Type 0) → (ℕ → A → EtfFault) → Type 0} (P : (A : Type 0) → Format A → Type 0) (kept : IsKeptWhere Told P) where
  pub changed-kept : {A B : Type 0} (F : Format A) (f : A → B) → P A F → P B (changed F f)
  changed-kept F f p = kept.of_followed F (λ x. give (f x)) p (λ x front w. kept.of_give (f x))

  pub either-kept : {A : Type 0} (b : Bool) (F G : Format A) → P A F → (b ≡ false → P A G) → P A (either b F G)
  either-kept true F G p q = p
  either-kept false F G p q = q refl

  times_all-kept : {A : Type 0} (n : ℕ) (F : Format A) → P A F → P (List A) (times n F)
  times_all-kept zero F p = kept.of_give []
  times_all-kept (suc n) F p =
      kept.of_followed F (λ x. changed (times n F) (λ xs. x ∷ xs)) p
      (λ x front w. changed-kept (times n F) (λ xs. x ∷ xs) (times_all-kept n F p))

  -- where it is no times nothing is asked of the format
  pub times-kept : {A : Type 0} (n : ℕ) (F : Format A) → (n ≢ 0 → P A F) → P (List A) (times n F)
  times-kept zero F p = kept.of_give []
  times-kept (suc n) F p = times_all-kept (suc n) F (p (omega arith))

-- ---- what has bytes

pub byte_some : HasBytes byte
byte_some x bytes h n = let clash : ◌≡◌ {A = List ℕ} [] (x ∷ []) = sym n ∙ h in cc

front_empty : (a b : List ℕ) → a ++ b ≡ [] → a ≡ []
front_empty [] b e = refl
front_empty (x ∷ a) b e = cc

pub followed_some : {A B : Type 0} (F : Format A) (G : A → Format B) → HasBytes F → HasBytes (followed F G)
followed_some F G some y bytes j n = some j.value j.front j.first (front_empty j.front j.rest (sym j.whole ∙ n))

pub tested_some : {A : Type 0} (F : Format A) (test : A → Bool) (fault : ℕ → A → EtfFault) → HasBytes F → HasBytes (tested F test fault)
tested_some F test fault some x bytes h n = some x bytes h.0 n
