-- A sort of tokens that may stand by its form is not refused, and back.
use Rattle.std.proofs.Common.{◌≡◌, ℕ, true, None, Ok, List, refl, ◌≤◌, ◌∙◌, arith}
use Rattle.text_model.specs.Token.{Sort, mark, a_mark, a_number, a_plain, a_quoted, a_string, Token}
use Rattle.text_model.specs.Grammar.{strict, formal, Rules}
use Rattle.text_model.specs.Nest.{Nest, refusal_of, take, fresh}
use Rattle.text_model.specs.Located.{tokens_of, take_all}
use Rattle.text_model.specs.Fronts.{MayStand}
use Rattle.text_model.proofs.MayStand.{has_value, stands_passes, mark_stands_taken, passes_stands, mark_taken_stands}
use Rattle.text_model.proofs.Looser.{formal_taken}
use Rattle.text_model.specs.Faults.{IsInPlace}

-- a token of this sort is not refused: a mark is taken
abbrev pub Passes : Rules → Nest → ℕ → Sort → Type 0
Passes rules n at (a_mark m) = (k : Nest) × (take rules n at (mark m) ≡ Ok k)
Passes rules n at other = refusal_of rules n other ≡ None

pub passes_may_stand : (levels : ℕ) → 1 ≤ levels → (ps : List (ℕ × Token)) (n : Nest) (at : ℕ) (sort : Sort) → take_all (formal levels) fresh ps ≡ Ok n
    → Passes (formal levels) n at sort → MayStand (formal levels) (tokens_of ps) sort
passes_may_stand levels low ps n at (a_mark m) e p = mark_taken_stands levels low ps n p.0 m at e p.1
passes_may_stand levels low ps n at a_number e p = passes_stands levels low ps n a_number e refl p
passes_may_stand levels low ps n at a_plain e p = passes_stands levels low ps n a_plain e refl p
passes_may_stand levels low ps n at a_quoted e p = passes_stands levels low ps n a_quoted e refl p
passes_may_stand levels low ps n at a_string e p = passes_stands levels low ps n a_string e refl p

pub may_stand_passes : (rules : Rules) (ps : List (ℕ × Token)) (n : Nest) (at : ℕ) (sort : Sort) → take_all rules fresh ps ≡ Ok n
    → MayStand rules (tokens_of ps) sort → Passes rules n at sort
may_stand_passes rules ps n at (a_mark m) e s = mark_stands_taken rules ps n m at e s
may_stand_passes rules ps n at a_number e s = stands_passes rules ps n a_number e refl s
may_stand_passes rules ps n at a_plain e s = stands_passes rules ps n a_plain e refl s
may_stand_passes rules ps n at a_quoted e s = stands_passes rules ps n a_quoted e refl s
may_stand_passes rules ps n at a_string e s = stands_passes rules ps n a_string e refl s

-- a sort with values that is not refused may stand by the form alone
pub value_stands : (ps : List (ℕ × Token)) (n : Nest) (sort : Sort) → take_all strict fresh ps ≡ Ok n → has_value sort ≡ true
    → refusal_of strict n sort ≡ None → MayStand (formal 256) (tokens_of ps) sort
value_stands ps n sort e h f = passes_stands 256 (omega arith) ps n sort (formal_taken ps n e) h (same_refusal n sort ∙ f)
  where
    same_refusal : (n : Nest) (sort : Sort) → refusal_of (formal 256) n sort ≡ refusal_of strict n sort
    same_refusal n (a_mark m) = refl
    same_refusal n other = refl

-- and back
pub in_place_passes : (ps : List (ℕ × Token)) (n : Nest) (rest : List ℕ) (sort : Sort) → take_all strict fresh ps ≡ Ok n → has_value sort ≡ true
    → IsInPlace (tokens_of ps) rest sort → refusal_of strict n sort ≡ None
in_place_passes ps n rest sort e h i = stands_passes (formal 256) ps n sort (formal_taken ps n e) h i.stands
