-- A token that is longer than a number or a name: which it is, and that it cannot stand where the shorter one is refused.
use Rattle.std.proofs.Common.{◌≡◌, ℕ, ℤ, pos, negsuc, zero, suc, ◌+◌, ◌*◌, ◌<◌, ◌≤◌, Bool, true, false, nat_le, List, [], ◌∷◌, ◌++◌, length, refl, ap}
use Rattle.std.proofs.Common.{◌∙◌, sym, subst, inl, inr, append_assoc, append-nil, arith}
use Rattle.std.proofs.lemmas.Bool.{and_parts}
use Rattle.std.proofs.lemmas.Bool.Decides.{nat_tests}
use Rattle.std.specs.Char.{is_ascii_digit, is_ascii_lowercase}
use Rattle.std.specs.List.{list_all}
use Rattle.text_model.specs.Token.{Token, mark, number, plain, quoted, string, sort_of, a_number, a_plain, fits, is_name_character, is_plain_atom}
use Rattle.text_model.specs.Characters.{each, digit_value, digits_behind, number_in}
use Rattle.text_model.specs.Spelling.{IsNumber, Stands}
use Rattle.text_model.specs.Grammar.{is_byte, is_sized}
use Rattle.text_model.specs.Faults.{Shows}
use Rattle.text_model.proofs.Comes.{signed, sign}

-- ---- what stands shows its sort

pub number_shows : (minus : Bool) (ds bytes rest : List ℕ) → 0 < length ds → each is_ascii_digit ds ≡ true → bytes ≡ sign minus ++ (ds ++ rest)
    → Shows a_number bytes
number_shows minus [] bytes rest some e f = absurd (omega arith)
number_shows true (d ∷ ds) bytes rest some e f = (d, ds ++ rest, (and_parts (is_ascii_digit d) (each is_ascii_digit ds) e).0, inr f)
number_shows false (d ∷ ds) bytes rest some e f = (d, ds ++ rest, (and_parts (is_ascii_digit d) (each is_ascii_digit ds) e).0, inl f)

pub plain_shows : (cs bytes rest : List ℕ) → is_plain_atom cs ≡ true → bytes ≡ cs ++ rest → Shows a_plain bytes
plain_shows [] bytes rest e f = cc
plain_shows (c ∷ cs) bytes rest e f = (c, cs ++ rest, (and_parts (is_ascii_lowercase c) (list_all is_name_character cs) e).0, f)

pub stands_shows : (token : Token) (bytes rest : List ℕ) → Stands token bytes rest → Shows (sort_of token) bytes
stands_shows (mark m) bytes rest s = (rest, s.1)
stands_shows (number z) bytes rest s = number_shows s.1.minus s.1.digits bytes rest s.1.some s.1.decimal s.1.whole
stands_shows (plain cs) bytes rest s = plain_shows cs bytes rest s.0.0 s.1.0
stands_shows (quoted cs) bytes rest s = (s.1.0, s.1.1)
stands_shows (string cs) bytes rest s = (s.1.0, s.1.1)

pub number_of_sort : (token : Token) → sort_of token ≡ a_number → (z : ℤ) × (token ≡ number z)
number_of_sort (number z) e = (z, refl)
number_of_sort other e = cc

pub plain_of_sort : (token : Token) → sort_of token ≡ a_plain → (cs : List ℕ) × (token ≡ plain cs)
plain_of_sort (plain cs) e = (cs, refl)
plain_of_sort other e = cc

-- ---- numbers

pub digits_grow : (n : ℕ) (ds : List ℕ) → n ≤ digits_behind 10 n ds
digits_grow n [] = omega arith
digits_grow n (d ∷ ds) = omega (arith, digits_grow (10 * n + digit_value d) ds)

pub digits_append : (n : ℕ) (ds es : List ℕ) → digits_behind 10 n (ds ++ es) ≡ digits_behind 10 (digits_behind 10 n ds) es
digits_append n [] es = refl
digits_append n (d ∷ ds) es = digits_append (10 * n + digit_value d) ds es

more_digits : (ds es : List ℕ) (x : ℕ) → 10 * number_in 10 ds ≤ number_in 10 (ds ++ x ∷ es)
more_digits ds es x =
    omega (arith, digits_append 0 ds (x ∷ es), digits_grow (10 * number_in 10 ds + digit_value x) es)

-- the digits of a number with this front are these, with the same sign
pub record IsLonger (minus : Bool) (ds : List ℕ) (z : ℤ) : Type 0 where
  pub least : ℕ
  pub far : 10 * number_in 10 ds ≤ least
  pub value : z ≡ signed minus least

longer_by : (minus other : Bool) (d : ℕ) (ds es bytes : List ℕ) (x : ℕ) (z : ℤ) → is_ascii_digit d ≡ true → each is_ascii_digit es ≡ true
    → 0 < length es → z ≡ signed other (number_in 10 es) → sign minus ++ ((d ∷ ds) ++ x ∷ bytes) ≡ sign other ++ es → IsLonger minus (d ∷ ds) z
longer_by true true d ds es bytes x z e f some v same =
    let digits : (d ∷ ds) ++ x ∷ bytes ≡ es = cc in
    record { least = number_in 10 es; far = subst (λ l. 10 * number_in 10 (d ∷ ds) ≤ number_in 10 l) digits (more_digits (d ∷ ds) bytes x); value = v }
longer_by false false d ds es bytes x z e f some v same =
    let digits : (d ∷ ds) ++ x ∷ bytes ≡ es = same in
    record { least = number_in 10 es; far = subst (λ l. 10 * number_in 10 (d ∷ ds) ≤ number_in 10 l) digits (more_digits (d ∷ ds) bytes x); value = v }
longer_by true false d ds [] bytes x z e f some v same = absurd (omega arith)
longer_by true false d ds (y ∷ es) bytes x z e f some v same =
    let first : 45 ≡ y = cc in
    let clash : is_ascii_digit 45 ≡ true = ap is_ascii_digit first ∙ (and_parts (is_ascii_digit y) (each is_ascii_digit es) f).0 in cc
longer_by false true d ds es bytes x z e f some v same =
    let first : d ≡ 45 = cc in
    let clash : is_ascii_digit 45 ≡ true = ap is_ascii_digit (sym first) ∙ e in cc

pub longer_number : (minus : Bool) (ds bytes : List ℕ) (x : ℕ) (z : ℤ) → 0 < length ds → each is_ascii_digit ds ≡ true
    → IsNumber z ((sign minus ++ ds) ++ x ∷ bytes) [] → IsLonger minus ds z
longer_number minus [] bytes x z some e i = absurd (omega arith)
longer_number minus (d ∷ ds) bytes x z some e i =
    longer_by minus i.minus d ds i.digits bytes x z (and_parts (is_ascii_digit d) (each is_ascii_digit ds) e).0 i.decimal i.some i.value
    (sym (append_assoc (sign minus) (d ∷ ds) (x ∷ bytes)) ∙ i.whole ∙ ap (λ l. sign i.minus ++ l) (append-nil i.digits))

-- a number nearer to zero fits where one further away does
pub fits_nearer : (minus : Bool) (n m : ℕ) → n ≤ m → fits (signed minus m) ≡ true → fits (signed minus n) ≡ true
fits_nearer true zero m h e = refl
fits_nearer true (suc n) zero h e = absurd (omega arith)
fits_nearer true (suc n) (suc m) h e = grind (arith, nat_tests)
fits_nearer false n m h e = grind (arith, nat_tests)

pub byte_nearer : (minus : Bool) (n m : ℕ) → n ≤ m → is_byte (signed minus n) ≡ false → is_byte (signed minus m) ≡ false
byte_nearer true zero m h e = cc
byte_nearer true (suc n) zero h e = absurd (omega arith)
byte_nearer true (suc n) (suc m) h e = refl
byte_nearer false n m h e = grind (arith, nat_tests)

-- no number of bits is behind a minus sign, or above 7
pub not_sized_minus : (v : ℤ) (n : ℕ) → is_sized v (signed true n) ≡ false
not_sized_minus (pos v) zero = refl
not_sized_minus (pos v) (suc n) = refl
not_sized_minus (negsuc v) n = refl

pub not_sized_above : (v : ℤ) (n : ℕ) → 8 ≤ n → is_sized v (pos n) ≡ false
not_sized_above (pos v) n h =
    let some : nat_le 1 n ≡ true = grind (arith, nat_tests) in
    let many : nat_le n 7 ≡ false = grind (arith, nat_tests) in
    rw (some, many)
not_sized_above (negsuc v) n h = refl
