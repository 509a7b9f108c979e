-- What may still come: tokens with which a text may begin. This project's own.
use Rattle.std.specs.Prelude.{◌≡◌, ℕ, true, List, [], ◌∷◌, ◌++◌}
use Rattle.std.specs.List.{AllByRecursion, list_any}
use Rattle.dets_term.specs.TermValue.{TermValue}
use Rattle.dets_term.specs.Order.{is_same}
use Rattle.dets_term.specs.Pairs.{keys}
use Rattle.text_model.specs.declared.mark.Mark.TheVariants.{OpenMap, Comma}
use Rattle.text_model.specs.Token.{Token, mark, Sort, sort_of, IsToken}
use Rattle.text_model.specs.Grammar.{Rules, strict, Text, IsText, IsPair}

-- more tokens make these a text of some term with its full stop
pub record MayBegin (rules : Rules) (tokens : List Token) : Type 0 where
  pub term : TermValue
  pub more : List Token
  pub spelled : AllByRecursion IsToken more
  pub text : IsText rules term (tokens ++ more)

-- a token of this sort may stand behind these
pub record MayStand (rules : Rules) (tokens : List Token) (sort : Sort) : Type 0 where
  pub token : Token
  pub same : sort_of token ≡ sort
  pub spelled : IsToken token
  pub begins : MayBegin rules (tokens ++ token ∷ [])

-- pairs of a map, each with a comma behind it
abbrev pub ArePairsBefore : (TermValue → List Token → List Token → Type 0) → List (TermValue × TermValue) → List Token → List Token → Type 0
ArePairsBefore Part [] tokens rest = tokens ≡ rest
ArePairsBefore Part (pair ∷ pairs) tokens rest = (behind : List Token) × IsPair Part pair tokens (mark Comma ∷ behind) × ArePairsBefore Part pairs behind rest

-- Some tokens end with a key that stands in its map already: in front of the key, and behind those that come before the map,
-- are its opening mark and the pairs so far.
pub record Repeats (tokens before : List Token) : Type 0 where
  pub outside : List Token
  pub inside : List Token
  pub key_tokens : List Token
  pub parted : before ≡ outside ++ mark OpenMap ∷ inside
  pub whole : tokens ≡ before ++ key_tokens
  pub levels : ℕ
  pub pairs : List (TermValue × TermValue)
  pub key : TermValue
  pub pairs_text : ArePairsBefore (Text strict levels) pairs inside []
  pub key_text : Text strict levels key key_tokens []
  pub repeated : list_any (is_same key) (keys pairs) ≡ true
