-- The characters of a text and its bytes.
use lib.Utf8.{scalar}
use Rattle.std.proofs.lemmas.List.{append-nil}
use Rattle.std.proofs.Common.{◌≡◌, ℕ, Bool, true, false, ◌&&◌, List, [], ◌∷◌, ◌++◌, refl, ap, ◌∙◌, sym}
use Rattle.std.specs.Str.{chars, IsUtf8, encode_utf8_all, all_scalars}
use Rattle.std.specs.Char.{IsScalar, encode_utf8}
use Rattle.std.proofs.lemmas.Str.{chars-encodes, encodes-chars, encodes-append}

pub all_scalars-chars : (bs : List ℕ) → IsUtf8 bs → all_scalars (chars bs) ≡ true
all_scalars-chars bs u = ap all_scalars (ap chars (sym u.1.1) ∙ chars-encodes u.0 u.1.0) ∙ u.1.0

both_true : (a b : Bool) → (a && b) ≡ true → (a ≡ true) × (b ≡ true)
both_true true b e = (refl, e)
both_true false b e = cc

true_both : (a b : Bool) → a ≡ true → b ≡ true → (a && b) ≡ true
true_both true b p q = q
true_both false b p q = cc

all_scalars-push : (cs : List ℕ) (c : ℕ) → all_scalars cs ≡ true → IsScalar c → all_scalars (cs ++ c ∷ []) ≡ true
all_scalars-push [] c e s = true_both (scalar c) true s refl
all_scalars-push (d ∷ cs) c e s =
    let p = both_true (scalar d) (all_scalars cs) e in true_both (scalar d) (all_scalars (cs ++ c ∷ [])) p.0 (all_scalars-push cs c p.1 s)

-- one more character
pub chars-push : (bs : List ℕ) (c : ℕ) → IsUtf8 bs → IsScalar c → chars (bs ++ encode_utf8 c) ≡ chars bs ++ c ∷ []
chars-push bs c u s =
    let whole : encode_utf8_all (chars bs ++ c ∷ []) ≡ bs ++ encode_utf8 c =
    encodes-append (chars bs) (c ∷ []) ∙ ap (λ x. x ++ (encode_utf8 c ++ [])) (encodes-chars bs u) ∙ ap (λ x. bs ++ x) (append-nil (encode_utf8 c)) in
    ap chars (sym whole) ∙ chars-encodes (chars bs ++ c ∷ []) (all_scalars-push (chars bs) c (all_scalars-chars bs u) s)
