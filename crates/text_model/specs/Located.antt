-- Tokens with the offsets at which they begin: how some bytes spell them, and what is open behind them.
use Rattle.std.specs.Prelude.{◌≡◌, ℕ, ◌+◌, List, [], ◌∷◌, map, length, Ok, Err}
use Rattle.text_model.specs.Token.{Token}
use Rattle.text_model.specs.Spelling.{Skips, Stands}
use Rattle.text_model.specs.Grammar.{Rules}
use Rattle.text_model.specs.Nest.{Nest, Taken, take}

-- without their offsets
abbrev pub tokens_of : List (ℕ × Token) → List Token
tokens_of ps = map (λ p. p.1) ps

-- The bytes spell these tokens, and then the rest follows. All bytes, with those in front of these, are so many.
abbrev pub SpellsTo : ℕ → List (ℕ × Token) → List ℕ → List ℕ → Type 0
SpellsTo total [] bytes rest = bytes ≡ rest
SpellsTo total (p ∷ ps) bytes rest =
    (here : List ℕ) × (behind : List ℕ) × Skips bytes here × (total ≡ p.0 + length here) × Stands p.1 here behind × SpellsTo total ps behind rest

abbrev pub take_next : Taken → (Nest → Taken) → Taken
take_next (Ok n) next = next n
take_next (Err fault) next = Err fault

-- the nest behind some tokens
abbrev pub take_all : Rules → Nest → List (ℕ × Token) → Taken
take_all rules n [] = Ok n
take_all rules n (p ∷ ps) = take_next (take rules n p.0 p.1) (λ m. take_all rules m ps)
