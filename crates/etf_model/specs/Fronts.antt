-- Fronts of bytes. This project's own.
use Rattle.std.specs.Prelude.{◌≡◌, ℕ, List, [], ◌∷◌, ◌++◌}

-- some bytes have a front of which this holds
pub record Begins (P : List ℕ → Type 0) (bytes : List ℕ) : Type 0 where
  pub front : List ℕ
  pub rest : List ℕ
  pub holds : P front
  pub whole : bytes ≡ front ++ rest

-- without their last byte this holds of them
pub record OneMore (P : List ℕ → Type 0) (bytes : List ℕ) : Type 0 where
  pub front : List ℕ
  pub last : ℕ
  pub holds : P front
  pub whole : bytes ≡ front ++ last ∷ []
