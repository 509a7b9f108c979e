-- An atom that needs no quotes is ASCII, so its characters are its bytes.
use Rattle.std.proofs.Common.{◌≡◌, ℕ, ◌<◌, ◌≤◌, ◌-◌, Bool, true, false, cond, ◌&&◌, not, List, [], ◌∷◌, length, get_or, take, drop, refl, ap, ◌∙◌, sym, arith}
use Rattle.std.proofs.lemmas.Grind.{common_steps}
use Rattle.std.proofs.lemmas.Bool.Decides.{nat_tests}
use Rattle.std.proofs.lemmas.Str.{encodes-chars, encodes-IsAscii, chars-IsAscii}
use Rattle.std.proofs.lemmas.Str.Ascii.{IsAscii-nil, IsAscii-cons}
use Rattle.std.specs.Str.{chars, IsAscii, IsUtf8}
use Rattle.std.specs.List.{list_all}
use Rattle.std.specs.Char.{is_ascii_lowercase}
use Rattle.text_model.specs.Token.{is_name_character, is_plain_atom}
use Rattle.text_model.specs.Printed.{is_reserved, is_unquoted, quoted_atom, printed_atom}

both_true : (a b : Bool) → (a && b) ≡ true → (a ≡ true) × (b ≡ true)
both_true true b e = (refl, e)
both_true false b e = cc

same_tests : (a b : Bool) → (a ≡ true → a ≡ b) → (b ≡ true → a ≡ b) → a ≡ b
same_tests true b p q = p refl
same_tests false true p q = q refl
same_tests false false p q = refl

name_character_ascii : (c : ℕ) → is_name_character c ≡ true → c < 128
name_character_ascii c e = grind (arith, nat_tests)

lowercase_ascii : (c : ℕ) → is_ascii_lowercase c ≡ true → c < 128
lowercase_ascii c e = grind (arith, nat_tests)

name_ascii : (cs : List ℕ) → list_all is_name_character cs ≡ true → IsAscii cs
name_ascii [] e = IsAscii-nil
name_ascii (c ∷ cs) e =
    let p = both_true (is_name_character c) (list_all is_name_character cs) e in
    IsAscii-cons c cs (name_character_ascii c p.0) (name_ascii cs p.1)

plain_ascii : (cs : List ℕ) → is_plain_atom cs ≡ true → IsAscii cs
plain_ascii [] e = cc
plain_ascii (c ∷ cs) e =
    let p = both_true (is_ascii_lowercase c) (list_all is_name_character cs) e in
    IsAscii-cons c cs (lowercase_ascii c p.0) (name_ascii cs p.1)

-- a plain atom's characters are its bytes
pub chars-plain : (bs : List ℕ) → is_plain_atom bs ≡ true → chars bs ≡ bs
chars-plain bs e = chars-IsAscii bs (plain_ascii bs e)

-- the test of the bytes is the test of the characters
pub is_plain_atom-chars : (bs : List ℕ) → IsUtf8 bs → is_plain_atom (chars bs) ≡ is_plain_atom bs
is_plain_atom-chars bs u =
    same_tests (is_plain_atom (chars bs)) (is_plain_atom bs)
    (λ e. ap is_plain_atom (sym (encodes-IsAscii (chars bs) (plain_ascii (chars bs) e)) ∙ encodes-chars bs u))
    (λ e. ap is_plain_atom (chars-plain bs e))

-- whether the atom of a text needs no quotes, by its bytes
pub is_unquoted-chars : (bs : List ℕ) → IsUtf8 bs → is_unquoted (chars bs) ≡ is_unquoted bs
is_unquoted-chars bs u =
    same_tests (is_unquoted (chars bs)) (is_unquoted bs)
    (λ e. ap is_unquoted (chars-plain bs (sym (is_plain_atom-chars bs u) ∙ (both_true (is_plain_atom (chars bs)) (not (is_reserved (chars bs))) e).0)))
    (λ e. ap is_unquoted (chars-plain bs (both_true (is_plain_atom bs) (not (is_reserved bs)) e).0))

-- a plain atom that is no word of the syntax is printed as its bytes
pub printed_atom-plain : (bs : List ℕ) → is_plain_atom bs ≡ true → is_reserved bs ≡ false → printed_atom (chars bs) ≡ bs
printed_atom-plain bs p r =
    ap printed_atom (chars-plain bs p)
    ∙ ap (λ a. cond (a && not (is_reserved bs)) bs (quoted_atom bs)) p
    ∙ ap (λ b. cond (not b) bs (quoted_atom bs)) r

-- every other atom is printed in quotes
pub printed_atom-quoted : (bs : List ℕ) → IsUtf8 bs → is_unquoted bs ≡ false → printed_atom (chars bs) ≡ quoted_atom (chars bs)
printed_atom-quoted bs u e = ap (λ b. cond b (chars bs) (quoted_atom (chars bs))) (is_unquoted-chars bs u ∙ e)

-- a test of the first byte and of those that follow
pub is_plain_atom-from_first : (bs : List ℕ) → 1 ≤ length bs → is_ascii_lowercase (get_or bs 0 0) ≡ true
    → is_plain_atom bs ≡ list_all is_name_character (drop 1 bs)
is_plain_atom-from_first [] h t = absurd (omega arith)
is_plain_atom-from_first (b ∷ bs) h t = ap (λ a. a && list_all is_name_character bs) t

-- all that follows the first byte
pub all_after_first : (bs : List ℕ) → take (length bs - 1) (drop 1 bs) ≡ drop 1 bs
all_after_first bs = grind (arith, common_steps)
