-- Which sort of token begins with a byte, and with the bytes of a mark.
use Rattle.std.proofs.Common.{◌≡◌, ℕ, Bool, true, false, cond, ◌==◌, List, [], ◌∷◌, ◌++◌, Option, Some, None, append-nil, eqb-true, refl, ap, ◌∙◌}
use Rattle.std.proofs.Common.{sym, subst, inl, inr, arith}
use Rattle.std.proofs.lemmas.Bool.Decides.{nat_tests}
use Rattle.std.specs.Char.{is_ascii_digit, is_ascii_lowercase}
use Rattle.text_model.specs.declared.mark.Mark.{Mark}
use Rattle.text_model.specs.declared.mark.Mark.TheVariants.{OpenTuple, OpenMap, CloseBrace, OpenList, CloseList, OpenBits, CloseBits, Bar, Comma}
use Rattle.text_model.specs.declared.mark.Mark.TheVariants.{Arrow, Colon, FullStop}
use Rattle.text_model.specs.Token.{Sort, a_mark, a_number, a_plain, a_quoted, a_string, mark_bytes}
use Rattle.text_model.specs.Faults.{Shows}
use Rattle.text_model.specs.Reader.{single, double, second_byte}

abbrev other_shown : ℕ → Option Sort
other_shown x =
    cond (x == 45) (Some a_number) (cond (is_ascii_digit x) (Some a_number) (cond (is_ascii_lowercase x) (Some a_plain)
    (cond (x == 39) (Some a_quoted) (cond (x == 34) (Some a_string) None))))

abbrev pub double_shown : ℕ → Option Mark → Option Sort
double_shown x (Some m) = Some (a_mark m)
double_shown x None = other_shown x

abbrev pub single_shown : ℕ → Option Mark → Option Sort
single_shown x (Some m) = Some (a_mark m)
single_shown x None = double_shown x (double x)

-- the sort of token that may begin with this byte
abbrev pub first_shown : ℕ → Option Sort
first_shown x = single_shown x (single x)

pub shown_none : (x : ℕ) → single x ≡ None → double x ≡ None → first_shown x ≡ other_shown x
shown_none x e f = ap (single_shown x) e ∙ ap (double_shown x) f

digit_shown : (x : ℕ) → is_ascii_digit x ≡ true → first_shown x ≡ Some a_number
digit_shown x e =
    let s : single x ≡ None = grind (arith, nat_tests) in
    let d : double x ≡ None = grind (arith, nat_tests) in
    let m : (x == 45) ≡ false = grind (arith, nat_tests) in
    shown_none x s d ∙ rw (m, e)

letter_shown : (x : ℕ) → is_ascii_lowercase x ≡ true → first_shown x ≡ Some a_plain
letter_shown x e =
    let s : single x ≡ None = grind (arith, nat_tests) in
    let d : double x ≡ None = grind (arith, nat_tests) in
    let m : (x == 45) ≡ false = grind (arith, nat_tests) in
    let n : is_ascii_digit x ≡ false = grind (arith, nat_tests) in
    shown_none x s d ∙ rw (m, n, e)

same_first : (x y : ℕ) (xs ys : List ℕ) (sort : Sort) → x ∷ xs ≡ y ∷ ys → first_shown y ≡ Some sort → first_shown x ≡ Some sort
same_first x y xs ys sort e f = let same : x ≡ y = cc in ap first_shown same ∙ f

-- what shows has a first byte that says so
pub shows_first : (sort : Sort) (x : ℕ) (xs : List ℕ) → Shows sort (x ∷ xs) → first_shown x ≡ Some sort
shows_first (a_mark OpenTuple) x xs s = same_first x 123 xs s.0 _ s.1 refl
shows_first (a_mark OpenMap) x xs s = same_first x 35 xs (123 ∷ s.0) _ s.1 refl
shows_first (a_mark CloseBrace) x xs s = same_first x 125 xs s.0 _ s.1 refl
shows_first (a_mark OpenList) x xs s = same_first x 91 xs s.0 _ s.1 refl
shows_first (a_mark CloseList) x xs s = same_first x 93 xs s.0 _ s.1 refl
shows_first (a_mark OpenBits) x xs s = same_first x 60 xs (60 ∷ s.0) _ s.1 refl
shows_first (a_mark CloseBits) x xs s = same_first x 62 xs (62 ∷ s.0) _ s.1 refl
shows_first (a_mark Bar) x xs s = same_first x 124 xs s.0 _ s.1 refl
shows_first (a_mark Comma) x xs s = same_first x 44 xs s.0 _ s.1 refl
shows_first (a_mark Arrow) x xs s = same_first x 61 xs (62 ∷ s.0) _ s.1 refl
shows_first (a_mark Colon) x xs s = same_first x 58 xs s.0 _ s.1 refl
shows_first (a_mark FullStop) x xs s = same_first x 46 xs s.0 _ s.1 refl
shows_first a_number x xs (d, rest, e, inl f) = same_first x d xs rest a_number f (digit_shown d e)
shows_first a_number x xs (d, rest, e, inr f) = same_first x 45 xs (d ∷ rest) a_number f refl
shows_first a_plain x xs (c, rest, e, f) = same_first x c xs rest a_plain f (letter_shown c e)
shows_first a_quoted x xs s = same_first x 39 xs s.0 _ s.1 refl
shows_first a_string x xs s = same_first x 34 xs s.0 _ s.1 refl

-- only one sort shows behind a first byte
pub shows_only : (sort other : Sort) (x : ℕ) (xs : List ℕ) → first_shown x ≡ Some sort → Shows other (x ∷ xs) → other ≡ sort
shows_only sort other x xs e s = let f = shows_first other x xs s in cc

pub shows_none : (other : Sort) (x : ℕ) (xs : List ℕ) → first_shown x ≡ None → Shows other (x ∷ xs) → ⊥
shows_none other x xs e s = let f = shows_first other x xs s in cc

-- ---- marks

mark_is : (x k : ℕ) (m n : Mark) (bytes : List ℕ) → (x == k) ≡ true → mark_bytes m ≡ k ∷ bytes → Some m ≡ Some n → mark_bytes n ≡ x ∷ bytes
mark_is x k m n bytes t e f =
    let same : m ≡ n = cc in
    let equal : x ≡ k = eqb-true x k t in
    ap mark_bytes (sym same) ∙ e ∙ ap (λ y. y ∷ bytes) (sym equal)

abbrev MarkOf : ℕ → List ℕ → Option Mark → Type 0
MarkOf x bytes o = (m : Mark) → o ≡ Some m → mark_bytes m ≡ x ∷ bytes

one_of : {A : Type 0} (P : A → Type 0) (b : Bool) (x y : A) → (b ≡ true → P x) → P y → P (cond b x y)
one_of P true x y f g = f refl
one_of P false x y f g = g

pub single_bytes : (x : ℕ) → MarkOf x [] (single x)
single_bytes x =
    one_of (MarkOf x []) (x == 123) _ _ (λ t m e. mark_is x 123 OpenTuple m [] t refl e)
    (one_of (MarkOf x []) (x == 125) _ _ (λ t m e. mark_is x 125 CloseBrace m [] t refl e)
    (one_of (MarkOf x []) (x == 91) _ _ (λ t m e. mark_is x 91 OpenList m [] t refl e)
    (one_of (MarkOf x []) (x == 93) _ _ (λ t m e. mark_is x 93 CloseList m [] t refl e)
    (one_of (MarkOf x []) (x == 124) _ _ (λ t m e. mark_is x 124 Bar m [] t refl e)
    (one_of (MarkOf x []) (x == 44) _ _ (λ t m e. mark_is x 44 Comma m [] t refl e)
    (one_of (MarkOf x []) (x == 58) _ _ (λ t m e. mark_is x 58 Colon m [] t refl e)
    (one_of (MarkOf x []) (x == 46) _ _ (λ t m e. mark_is x 46 FullStop m [] t refl e) (λ m e. cc))))))))

abbrev DoubleOf : ℕ → Option Mark → Type 0
DoubleOf x o = (m : Mark) → o ≡ Some m → mark_bytes m ≡ x ∷ second_byte m ∷ []

double_is : (x k : ℕ) (m n : Mark) → (x == k) ≡ true → mark_bytes m ≡ k ∷ second_byte m ∷ [] → Some m ≡ Some n → mark_bytes n ≡ x ∷ second_byte n ∷ []
double_is x k m n t e f =
    let same : m ≡ n = cc in
    subst (λ l. mark_bytes l ≡ x ∷ second_byte l ∷ []) same (e ∙ ap (λ y. y ∷ second_byte m ∷ []) (sym (eqb-true x k t)))

pub double_bytes : (x : ℕ) → DoubleOf x (double x)
double_bytes x =
    one_of (DoubleOf x) (x == 35) _ _ (λ t m e. double_is x 35 OpenMap m t refl e)
    (one_of (DoubleOf x) (x == 60) _ _ (λ t m e. double_is x 60 OpenBits m t refl e)
    (one_of (DoubleOf x) (x == 62) _ _ (λ t m e. double_is x 62 CloseBits m t refl e)
    (one_of (DoubleOf x) (x == 61) _ _ (λ t m e. double_is x 61 Arrow m t refl e) (λ m e. cc))))

-- a mark shows where its bytes stand, and no other sort does
pub mark_shows : (m : Mark) (more : List ℕ) → Shows (a_mark m) (mark_bytes m ++ more)
mark_shows m more = (more, refl)

pub first_of_mark : (m : Mark) (x : ℕ) (bytes : List ℕ) → mark_bytes m ≡ x ∷ bytes → first_shown x ≡ Some (a_mark m)
first_of_mark m x bytes e =
    shows_first (a_mark m) x bytes ([], sym e ∙ sym (append-nil (mark_bytes m)))

pub mark_only : (m : Mark) (sort : Sort) (more : List ℕ) → Shows sort (mark_bytes m ++ more) → sort ≡ a_mark m
mark_only OpenTuple sort more s = shows_only (a_mark OpenTuple) sort 123 more refl s
mark_only OpenMap sort more s = shows_only (a_mark OpenMap) sort 35 (123 ∷ more) refl s
mark_only CloseBrace sort more s = shows_only (a_mark CloseBrace) sort 125 more refl s
mark_only OpenList sort more s = shows_only (a_mark OpenList) sort 91 more refl s
mark_only CloseList sort more s = shows_only (a_mark CloseList) sort 93 more refl s
mark_only OpenBits sort more s = shows_only (a_mark OpenBits) sort 60 (60 ∷ more) refl s
mark_only CloseBits sort more s = shows_only (a_mark CloseBits) sort 62 (62 ∷ more) refl s
mark_only Bar sort more s = shows_only (a_mark Bar) sort 124 more refl s
mark_only Comma sort more s = shows_only (a_mark Comma) sort 44 more refl s
mark_only Arrow sort more s = shows_only (a_mark Arrow) sort 61 (62 ∷ more) refl s
mark_only Colon sort more s = shows_only (a_mark Colon) sort 58 more refl s
mark_only FullStop sort more s = shows_only (a_mark FullStop) sort 46 more refl s
