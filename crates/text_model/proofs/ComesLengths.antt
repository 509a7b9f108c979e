-- What stands behind characters in quotes is no longer than what they stand in front of.
use Rattle.std.proofs.Common.{◌≡◌, ℕ, ◌+◌, ◌≤◌, List, [], ◌∷◌, ◌++◌, length, length-append, encode_utf8, ap, inl, inr, arith}
use Rattle.text_model.specs.Characters.{IsCharacter, AreCharacters, Escapes}
use Rattle.text_model.specs.Nest.{Nest}
use Rattle.text_model.specs.Reader.{Quotes, quote_of}
use Rattle.text_model.proofs.Comes.{IsInQuotes}

escape_behind : (c : ℕ) (bytes rest : List ℕ) → Escapes c bytes rest → length rest ≤ length bytes
escape_behind c bytes rest (inl (x, e, f)) = omega (arith, ap length e)
escape_behind c bytes rest (inr (inl e)) = omega (arith, ap length e.whole, length-append e.digits rest)
escape_behind c bytes rest (inr (inr (inl e))) = omega (arith, ap length e.whole)
escape_behind c bytes rest (inr (inr (inr e))) = omega (arith, ap length e.whole, length-append e.digits (125 ∷ rest))

character_behind : (quote c : ℕ) (bytes rest : List ℕ) → IsCharacter quote c bytes rest → length rest ≤ length bytes
character_behind quote c bytes rest (inl e) = omega (arith, ap length e.whole, length-append (encode_utf8 c) rest)
character_behind quote c bytes rest (inr (escape, e, f)) = omega (arith, ap length e, escape_behind c escape rest f)

pub characters_behind : (quote : ℕ) (cs bytes rest : List ℕ) → AreCharacters quote cs bytes rest → length rest ≤ length bytes
characters_behind quote [] bytes rest e = omega (arith, ap length e)
characters_behind quote (c ∷ cs) bytes rest (behind, is, more) =
    omega (arith, character_behind quote c bytes behind is, characters_behind quote cs behind rest more)

-- bytes in quotes are among those that were read
pub within : (p : List ℕ) (n : Nest) (start : ℕ) (q : Quotes) (cs pending : List ℕ) → IsInQuotes p n start q cs pending → length pending ≤ length p
within p n start q cs pending i =
    let all : length p ≡ start + length (quote_of q ∷ i.inside) = i.before.offset in
    omega (
      arith,
      all,
      characters_behind (quote_of q) cs (i.inside ++ []) (pending ++ []) (i.characters []),
      length-append i.inside [],
      length-append pending [],
    )
