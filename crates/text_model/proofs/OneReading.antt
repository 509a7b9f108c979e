-- Characters in quotes are read in one way: what is behind them is told by the bytes.
use Rattle.std.proofs.Common.{◌≡◌, ℕ, ◌+◌, ◌≤◌, ◌⊎◌, Bool, true, false, Some, None, List, [], ◌∷◌, ◌++◌, length, encode_utf8, refl, ap, ◌∙◌, sym}
use Rattle.std.proofs.Common.{subst, inl, inr, arith}
use Rattle.std.proofs.Math.Utf8.{low_scalar}
use Rattle.std.proofs.lemmas.Bool.{and_parts}
use Rattle.std.proofs.lemmas.List.{append_cancel_left}
use Rattle.std.specs.Char.{IsScalar, is_ascii_hexdigit}
use Rattle.text_model.specs.Characters.{each, EndsBefore, is_octal, escape_of, IsOctal, IsPair, IsBraced, Escapes, IsCharacter, AreCharacters}
use Rattle.text_model.specs.Reader.{Quotes, of_atom, of_string, quote_of, whole, sequence}
use Rattle.text_model.proofs.Sequences.{sequence_of_longer}
use Rattle.text_model.proofs.ComesQuotes.{encode_quote, encode_escape, quote_scalar}
use Rattle.text_model.proofs.ComesEscapes.{no_octal}
use Rattle.text_model.proofs.ComesBadEscapes.{octal_first}

-- ---- bytes that pass a test, as many as there are

one_passes : (test : ℕ → Bool) (x y : ℕ) (u : List ℕ) (ys : List ℕ) → u ≡ y ∷ ys → EndsBefore test u → test y ≡ true → ⊥
one_passes test x y [] ys e f g = cc
one_passes test x y (z ∷ u) ys e f g = let same : z ≡ y = cc in let clash : false ≡ true = sym f ∙ ap test same ∙ g in cc

pub spans_same : (test : ℕ → Bool) (xs ys u v : List ℕ) → each test xs ≡ true → each test ys ≡ true → xs ++ u ≡ ys ++ v → EndsBefore test u
    → EndsBefore test v → u ≡ v
spans_same test [] [] u v e f same g h = same
spans_same test [] (y ∷ ys) u v e f same g h = absurd (one_passes test y y u (ys ++ v) same g (and_parts (test y) (each test ys) f).0)
spans_same test (x ∷ xs) [] u v e f same g h = absurd (one_passes test x x v (xs ++ u) (sym same) h (and_parts (test x) (each test xs) e).0)
spans_same test (x ∷ xs) (y ∷ ys) u v e f same g h =
    let tails : xs ++ u ≡ ys ++ v = cc in
    spans_same test xs ys u v (and_parts (test x) (each test xs) e).1 (and_parts (test y) (each test ys) f).1 tails g h

-- ---- escapes

-- at most three digits, of which some are in front of these
octal_same : (n : ℕ) (xs ys u v : List ℕ) → each is_octal xs ≡ true → each is_octal ys ≡ true → xs ++ u ≡ ys ++ v → length xs + n ≤ 3 → length ys + n ≤ 3
    → (length xs + n ≡ 3) ⊎ EndsBefore is_octal u → (length ys + n ≡ 3) ⊎ EndsBefore is_octal v → u ≡ v
octal_same n [] [] u v e f same few less g h = same
octal_same n [] (y ∷ ys) u v e f same few less (inl g) h = absurd (omega arith)
octal_same n [] (y ∷ ys) u v e f same few less (inr g) h =
    absurd (one_passes is_octal y y u (ys ++ v) same g (and_parts (is_octal y) (each is_octal ys) f).0)
octal_same n (x ∷ xs) [] u v e f same few less g (inl h) = absurd (omega arith)
octal_same n (x ∷ xs) [] u v e f same few less g (inr h) =
    absurd (one_passes is_octal x x v (xs ++ u) (sym same) h (and_parts (is_octal x) (each is_octal xs) e).0)
octal_same n (x ∷ xs) (y ∷ ys) u v e f same few less g h =
    let tails : xs ++ u ≡ ys ++ v = cc in
    octal_same (n + 1) xs ys u v (and_parts (is_octal x) (each is_octal xs) e).1 (and_parts (is_octal y) (each is_octal ys) f).1 tails
    (omega arith) (omega arith) (moved (x ∷ xs) xs u (omega arith) g) (moved (y ∷ ys) ys v (omega arith) h)
  where
    moved : (ds es w : List ℕ) → length ds + n ≡ length es + (n + 1) → (length ds + n ≡ 3) ⊎ EndsBefore is_octal w
        → (length es + (n + 1) ≡ 3) ⊎ EndsBefore is_octal w
    moved ds es w same (inl g) = inl (sym same ∙ g)
    moved ds es w same (inr g) = inr g

letter_octal : (x c d : ℕ) (bytes u v : List ℕ) → bytes ≡ x ∷ u → escape_of x ≡ Some c → IsOctal d bytes v → ⊥
letter_octal x c d bytes u v e f o =
    let none : escape_of x ≡ None = no_octal x (octal_first d x bytes u v e o) in cc

letter_not : (x c : ℕ) (bytes u more : List ℕ) → bytes ≡ x ∷ u → escape_of x ≡ Some c → bytes ≡ 120 ∷ more → ⊥
letter_not x c bytes u more e f g =
    let same : x ≡ 120 = cc in let none : escape_of x ≡ None = ap escape_of same in cc

octal_not : (d : ℕ) (bytes u more : List ℕ) → IsOctal d bytes u → bytes ≡ 120 ∷ more → ⊥
octal_not d bytes u more o e =
    let first : is_octal 120 ≡ true = octal_first d 120 bytes more u e o in cc

pair_not : (c d : ℕ) (bytes u v : List ℕ) → IsPair c bytes u → IsBraced d bytes v → ⊥
pair_not c d bytes u v a b =
    let whole : bytes ≡ 120 ∷ a.high ∷ a.low ∷ u = a.whole in
    let other : bytes ≡ 120 ∷ 123 ∷ (b.digits ++ 125 ∷ v) = b.whole in
    let same : a.high ≡ 123 = cc in
    let clash : true ≡ false =
    sym (and_parts (is_ascii_hexdigit a.high) (each is_ascii_hexdigit (a.low ∷ [])) a.hexadecimal).0 ∙ ap is_ascii_hexdigit same in
    cc

braced_same : (c d : ℕ) (bytes u v : List ℕ) → IsBraced c bytes u → IsBraced d bytes v → u ≡ v
braced_same c d bytes u v a b =
    let whole : bytes ≡ 120 ∷ 123 ∷ (a.digits ++ 125 ∷ u) = a.whole in
    let other : bytes ≡ 120 ∷ 123 ∷ (b.digits ++ 125 ∷ v) = b.whole in
    let same : a.digits ++ 125 ∷ u ≡ b.digits ++ 125 ∷ v = cc in
    let tails = spans_same is_ascii_hexdigit a.digits b.digits (125 ∷ u) (125 ∷ v) a.hexadecimal b.hexadecimal same refl refl in
    cc

escapes_same : (c d : ℕ) (bytes u v : List ℕ) → Escapes c bytes u → Escapes d bytes v → u ≡ v
escapes_same c d bytes u v (inl (x, e, f)) (inl (y, g, h)) = cc
escapes_same c d bytes u v (inl (x, e, f)) (inr (inl o)) = absurd (letter_octal x c d bytes u v e f o)
escapes_same c d bytes u v (inl (x, e, f)) (inr (inr (inl a))) = absurd (letter_not x c bytes u (a.high ∷ a.low ∷ v) e f a.whole)
escapes_same c d bytes u v (inl (x, e, f)) (inr (inr (inr b))) = absurd (letter_not x c bytes u (123 ∷ (b.digits ++ 125 ∷ v)) e f b.whole)
escapes_same c d bytes u v (inr (inl o)) (inl (y, g, h)) = absurd (letter_octal y d c bytes v u g h o)
escapes_same c d bytes u v (inr (inl o)) (inr (inl k)) =
    octal_same 0 o.digits k.digits u v o.octal k.octal (sym o.whole ∙ k.whole) (omega (arith, o.few)) (omega (arith, k.few)) (whole_three o.digits u o.longest)
    (whole_three k.digits v k.longest)
  where
    whole_three : (ds w : List ℕ) → (length ds ≡ 3) ⊎ EndsBefore is_octal w → (length ds + 0 ≡ 3) ⊎ EndsBefore is_octal w
    whole_three ds w (inl e) = inl (omega arith)
    whole_three ds w (inr e) = inr e
escapes_same c d bytes u v (inr (inl o)) (inr (inr (inl a))) = absurd (octal_not c bytes u (a.high ∷ a.low ∷ v) o a.whole)
escapes_same c d bytes u v (inr (inl o)) (inr (inr (inr b))) = absurd (octal_not c bytes u (123 ∷ (b.digits ++ 125 ∷ v)) o b.whole)
escapes_same c d bytes u v (inr (inr (inl a))) (inl (y, g, h)) = absurd (letter_not y d bytes v (a.high ∷ a.low ∷ u) g h a.whole)
escapes_same c d bytes u v (inr (inr (inl a))) (inr (inl o)) = absurd (octal_not d bytes v (a.high ∷ a.low ∷ u) o a.whole)
escapes_same c d bytes u v (inr (inr (inl a))) (inr (inr (inl b))) =
    let whole : bytes ≡ 120 ∷ a.high ∷ a.low ∷ u = a.whole in let other : bytes ≡ 120 ∷ b.high ∷ b.low ∷ v = b.whole in cc
escapes_same c d bytes u v (inr (inr (inl a))) (inr (inr (inr b))) = absurd (pair_not c d bytes u v a b)
escapes_same c d bytes u v (inr (inr (inr b))) (inl (y, g, h)) = absurd (letter_not y d bytes v (123 ∷ (b.digits ++ 125 ∷ u)) g h b.whole)
escapes_same c d bytes u v (inr (inr (inr b))) (inr (inl o)) = absurd (octal_not d bytes v (123 ∷ (b.digits ++ 125 ∷ u)) o b.whole)
escapes_same c d bytes u v (inr (inr (inr b))) (inr (inr (inl a))) = absurd (pair_not d c bytes v u a b)
escapes_same c d bytes u v (inr (inr (inr a))) (inr (inr (inr b))) = braced_same c d bytes u v a b

-- ---- characters

encoded_same : (c k : ℕ) (u v : List ℕ) → IsScalar c → IsScalar k → encode_utf8 c ++ u ≡ encode_utf8 k ++ v → c ≡ k
encoded_same c k u v s t e =
    let one : sequence (encode_utf8 c ++ u) ≡ whole c = sequence_of_longer c u s in
    let other : sequence (encode_utf8 k ++ v) ≡ whole k = sequence_of_longer k v t in
    let same : whole c ≡ whole k = sym one ∙ ap sequence e ∙ other in
    cc

no_escape_itself : (c : ℕ) (u escape : List ℕ) → IsScalar c → encode_utf8 c ++ u ≡ 92 ∷ escape → c ≡ 92
no_escape_itself c u escape s e =
    encoded_same c 92 u escape s (low_scalar 92 (omega arith)) (e ∙ ap (λ l. l ++ escape) (sym encode_escape))

character_same : (quote c d : ℕ) (bytes u v : List ℕ) → IsCharacter quote c bytes u → IsCharacter quote d bytes v → u ≡ v
character_same quote c d bytes u v (inl a) (inl b) =
    let bytes_same : encode_utf8 c ++ u ≡ encode_utf8 d ++ v = sym a.whole ∙ b.whole in
    let same : c ≡ d = encoded_same c d u v a.scalar b.scalar bytes_same in
    append_cancel_left (encode_utf8 c) u v (bytes_same ∙ ap (λ k. encode_utf8 k ++ v) (sym same))
character_same quote c d bytes u v (inl a) (inr (escape, e, f)) = absurd (a.no_escape (no_escape_itself c u escape a.scalar (sym a.whole ∙ e)))
character_same quote c d bytes u v (inr (escape, e, f)) (inl b) = absurd (b.no_escape (no_escape_itself d v escape b.scalar (sym b.whole ∙ e)))
character_same quote c d bytes u v (inr (escape, e, f)) (inr (other, g, h)) =
    let same : escape ≡ other = cc in
    escapes_same c d other u v (subst (λ l. Escapes c l u) same f) h

same_head : (x y : ℕ) (xs ys : List ℕ) → x ∷ xs ≡ y ∷ ys → x ≡ y
same_head x y xs ys e = cc

quote_not_escape : (q : Quotes) (u escape : List ℕ) → quote_of q ∷ u ≡ 92 ∷ escape → ⊥
quote_not_escape of_atom u escape e = omega (arith, same_head 39 92 u escape e)
quote_not_escape of_string u escape e = omega (arith, same_head 34 92 u escape e)

-- the quote that closes is no character
no_character : (q : Quotes) (c : ℕ) (bytes u v : List ℕ) → bytes ≡ quote_of q ∷ u → IsCharacter (quote_of q) c bytes v → ⊥
no_character q c bytes u v e (inl a) =
    a.no_quote (encoded_same c (quote_of q) v u a.scalar (quote_scalar q) (sym a.whole ∙ e ∙ ap (λ l. l ++ u) (sym (encode_quote q))))
no_character q c bytes u v e (inr (escape, f, g)) = quote_not_escape q u escape (sym e ∙ f)

pub characters_same : (q : Quotes) (cs ds bytes u v : List ℕ) → AreCharacters (quote_of q) cs bytes (quote_of q ∷ u)
    → AreCharacters (quote_of q) ds bytes (quote_of q ∷ v) → u ≡ v
characters_same q [] [] bytes u v e f = let same : quote_of q ∷ u ≡ quote_of q ∷ v = sym e ∙ f in cc
characters_same q [] (d ∷ ds) bytes u v e (behind, is, more) = absurd (no_character q d bytes u behind e is)
characters_same q (c ∷ cs) [] bytes u v (behind, is, more) f = absurd (no_character q c bytes v behind f is)
characters_same q (c ∷ cs) (d ∷ ds) bytes u v (behind, is, more) (other, are, others) =
    let same = character_same (quote_of q) c d bytes behind other is are in
    characters_same q cs ds other u v (subst (λ l. AreCharacters (quote_of q) cs l (quote_of q ∷ u)) same more) others
