-- A byte behind the first byte of a mark, a minus sign, a number and a name.
use Rattle.std.proofs.Common.{◌≡◌, ℕ, ℤ, ◌+◌, ◌<◌, ◌≤◌, Bool, true, false, ◌==◌, nat_lt, List, [], ◌∷◌, ◌++◌, length, length-append, Some, eqb-true}
use Rattle.std.proofs.Common.{eq-eqb, ltb-true, ltb-false, refl, ap, ◌∙◌, sym, subst, inl, inr, append_assoc, append-nil, arith}
use Rattle.std.proofs.lemmas.Bool.{and_parts}
use Rattle.std.specs.Char.{is_ascii_digit, is_ascii_lowercase}
use Rattle.std.specs.List.{list_all}
use Rattle.text_model.specs.declared.fault.TextWhy.TheVariants.{IntegerRange}
use Rattle.text_model.specs.declared.mark.Mark.{Mark}
use Rattle.text_model.specs.Token.{Sort, number, plain, a_mark, a_number, is_name_character, is_plain_atom, fits, mark_bytes}
use Rattle.text_model.specs.Characters.{EndsBefore}
use Rattle.text_model.specs.Spelling.{IsNumber, Stands}
use Rattle.text_model.specs.Faults.{Shows}
use Rattle.text_model.specs.Grammar.{strict}
use Rattle.text_model.specs.Nest.{Nest, refusal_of}
use Rattle.text_model.specs.Reader.{first_of, in_minus, in_number, in_name, digit, double, second_byte, led}
use Rattle.text_model.proofs.Comes.{IsGoing, Before, sign, IsInNumber, Comes}
use Rattle.text_model.proofs.ComesRows.{Row, wide_row, long_plain_row, Leads}
use Rattle.text_model.proofs.ComesTokens.{by_test, before_more, before_same}
use Rattle.text_model.proofs.FirstBytes.{shows_only, double_bytes, first_of_mark}
use Rattle.text_model.proofs.TokenStarts.{first_begins}
use Rattle.text_model.proofs.ComesLeads.{number_reason, sort_leads, nothing_leads}
use Rattle.text_model.proofs.ComesMarks.{mark_leads}
use Rattle.text_model.proofs.OneMore.{each_push, digit_push, both}
use Rattle.text_model.proofs.Going.{number_going, plain_going}
use Rattle.text_model.proofs.ComesBegins.{number_begins, behind_leads}

-- ---- marks

-- no sort shows where a mark's first byte has another one behind it
no_second : (a x : ℕ) (m : Mark) (more : List ℕ) (other : Sort) → double a ≡ Some m → (x == second_byte m) ≡ false → Shows other (a ∷ x ∷ more) → ⊥
no_second a x m more other d t s =
    let bytes : mark_bytes m ≡ a ∷ second_byte m ∷ [] = double_bytes a m d in
    let sort : other ≡ a_mark m = shows_only (a_mark m) other a (x ∷ more) (first_of_mark m a (second_byte m ∷ []) bytes) s in
    let whole : Shows (a_mark m) (a ∷ x ∷ more) = subst (λ o. Shows o (a ∷ x ∷ more)) sort s in
    let same : a ∷ x ∷ more ≡ a ∷ second_byte m ∷ whole.0 = whole.1 ∙ ap (λ l. l ++ whole.0) bytes in
    let second : x ≡ second_byte m = cc in
    let clash : false ≡ true = sym t ∙ eq-eqb x (second_byte m) second in
    cc

pub first_leads : (p : List ℕ) (n : Nest) (start : ℕ) (m : Mark) (x : ℕ) → IsGoing n → Comes p n (first_of start m)
    → Leads (p ++ x ∷ []) (led n (length p) x (first_of start m))
first_leads p n start m x going (a, d, stray, b) =
    let grown : Before (p ++ x ∷ []) n start (a ∷ x ∷ []) = before_more p n start x (a ∷ []) going b in
    by_test (Leads (p ++ x ∷ [])) (x == second_byte m) _ _
    (λ t. mark_leads (p ++ x ∷ []) n start m (before_same (p ++ x ∷ []) n start (a ∷ x ∷ []) (mark_bytes m)
    (ap (λ y. a ∷ y ∷ []) (eqb-true x (second_byte m) t) ∙ sym (double_bytes a m d)) grown))
    (λ t. nothing_leads (p ++ x ∷ []) n start (a ∷ x ∷ []) grown
    (first_begins a (x ∷ []) (a_mark m) (first_of_mark m a (second_byte m ∷ []) (double_bytes a m d))) (λ more other s. no_second a x m more other d t s))

-- ---- numbers

number_only : (x : ℕ) (more : List ℕ) (other : Sort) → Shows other (45 ∷ x ∷ more) → other ≡ a_number
number_only x more other s = shows_only a_number other 45 (x ∷ more) refl s

no_number : (x : ℕ) (more : List ℕ) → is_ascii_digit x ≡ false → Shows a_number (45 ∷ x ∷ more) → ⊥
no_number x more t (d, rest, e, inl f) = let same : 45 ≡ d = cc in let clash : is_ascii_digit 45 ≡ true = ap is_ascii_digit same ∙ e in cc
no_number x more t (d, rest, e, inr f) = let same : x ≡ d = cc in let clash : false ≡ true = sym t ∙ ap is_ascii_digit same ∙ e in cc

pub minus_leads : (p : List ℕ) (n : Nest) (start x : ℕ) → IsGoing n → Comes p n (in_minus start)
    → Leads (p ++ x ∷ []) (led n (length p) x (in_minus start))
minus_leads p n start x going (stray, b) =
    let grown : Before (p ++ x ∷ []) n start (45 ∷ x ∷ []) = before_more p n start x (45 ∷ []) going b in
    by_test (Leads (p ++ x ∷ [])) (is_ascii_digit x) _ _
    (λ t. sort_leads (p ++ x ∷ []) n start (45 ∷ x ∷ []) a_number (refusal_of strict n a_number) _ grown (λ f. cc)
    (λ more. (x, more, t, inr refl)) (λ more other s. number_only x more other s) (number_reason n) refl
    (λ place. number_begins (p ++ x ∷ []) n start true x t place grown))
    (λ t. nothing_leads (p ++ x ∷ []) n start (45 ∷ x ∷ []) grown refl
    (λ more other s. no_number x more t (subst (λ o. Shows o (45 ∷ x ∷ more)) (number_only x more other s) s)))

-- one more digit
number_more : (p : List ℕ) (n : Nest) (start : ℕ) (minus : Bool) (z : ℤ) (x : ℕ) → IsGoing n → is_ascii_digit x ≡ true → IsInNumber p n start minus z
    → IsInNumber (p ++ x ∷ []) n start minus (digit minus z x)
number_more p n start minus z x going e i = record {
  digits = i.digits ++ x ∷ [];
  some = omega (arith, length-append i.digits (x ∷ []));
  decimal = each_push is_ascii_digit i.digits x i.decimal e;
  value = digit_push minus z i.digits x e i.value;
  before =
      before_same (p ++ x ∷ []) n start _ _ (append_assoc (sign minus) i.digits (x ∷ []))
      (before_more p n start x (sign minus ++ i.digits) going i.before);
  in_place = i.in_place;
}

-- the digits are a number, where none follows
pub number_spelled : (p : List ℕ) (n : Nest) (start : ℕ) (minus : Bool) (z : ℤ) (rest : List ℕ) (i : IsInNumber p n start minus z)
    → EndsBefore is_ascii_digit rest → IsNumber z ((sign minus ++ i.digits) ++ rest) rest
number_spelled p n start minus z rest i ends = record {
  minus = minus;
  digits = i.digits;
  some = i.some;
  decimal = i.decimal;
  value = i.value;
  whole = append_assoc (sign minus) i.digits rest;
  longest = ends;
}

number_wide : (p : List ℕ) (n : Nest) (start : ℕ) (minus : Bool) (z : ℤ) → IsInNumber p n start minus z → fits z ≡ false → Row p start IntegerRange
number_wide p n start minus z i wide = wide_row (record {
  nest = n;
  front = sign minus ++ i.digits;
  before = i.before;
  in_place = i.in_place;
  value = z;
  number = subst (λ l. IsNumber z l []) (append-nil (sign minus ++ i.digits)) (number_spelled p n start minus z [] i tt);
  wide = wide;
  reason = refl;
})

-- a number that ends in front of a byte
number_stands : (p : List ℕ) (n : Nest) (start : ℕ) (minus : Bool) (z : ℤ) (x : ℕ) (more : List ℕ) (i : IsInNumber p n start minus z) → fits z ≡ true
    → is_ascii_digit x ≡ false → Stands (number z) (((sign minus ++ i.digits) ++ x ∷ []) ++ more) (x ∷ more)
number_stands p n start minus z x more i f e =
    (f, subst (λ l. IsNumber z l (x ∷ more)) (sym (append_assoc (sign minus ++ i.digits) (x ∷ []) more)) (number_spelled p n start minus z (x ∷ more) i e))

pub number_leads : (p : List ℕ) (n : Nest) (start : ℕ) (minus : Bool) (z : ℤ) (x : ℕ) → IsGoing n → Comes p n (in_number start minus z)
    → Leads (p ++ x ∷ []) (led n (length p) x (in_number start minus z))
number_leads p n start minus z x going (f, i) =
    by_test (Leads (p ++ x ∷ [])) (is_ascii_digit x) _ _
    (λ e. by_test (Leads (p ++ x ∷ [])) (fits (digit minus z x)) _ _
    (λ g. (g, number_more p n start minus z x going e i))
    (λ g. number_wide (p ++ x ∷ []) n start minus (digit minus z x) (number_more p n start minus z x going e i) g))
    (λ e. behind_leads (p ++ x ∷ []) n start (length p) x (number z) ((sign minus ++ i.digits) ++ x ∷ [])
    (before_more p n start x (sign minus ++ i.digits) going i.before) (λ more. number_stands p n start minus z x more i f e)
    (number_going n start z) (λ why. i.in_place) (length-append p (x ∷ [])))

-- ---- names

pub plain_push : (cs : List ℕ) (x : ℕ) → is_plain_atom cs ≡ true → is_name_character x ≡ true → is_plain_atom (cs ++ x ∷ []) ≡ true
plain_push [] x e f = cc
plain_push (c ∷ cs) x e f =
    let both_parts = and_parts (is_ascii_lowercase c) (list_all is_name_character cs) e in
    both (is_ascii_lowercase c) (list_all is_name_character (cs ++ x ∷ [])) both_parts.0 (all_push cs x both_parts.1 f)
  where
    all_push : (cs : List ℕ) (x : ℕ) → list_all is_name_character cs ≡ true → is_name_character x ≡ true → list_all is_name_character (cs ++ x ∷ []) ≡ true
    all_push [] x e f = both (is_name_character x) true f refl
    all_push (c ∷ cs) x e f =
        let p = and_parts (is_name_character c) (list_all is_name_character cs) e in
        both (is_name_character c) (list_all is_name_character (cs ++ x ∷ [])) p.0 (all_push cs x p.1 f)

pub name_leads : (p : List ℕ) (n : Nest) (start : ℕ) (cs : List ℕ) (x : ℕ) → IsGoing n → Comes p n (in_name start cs)
    → Leads (p ++ x ∷ []) (led n (length p) x (in_name start cs))
name_leads p n start cs x going (name, short, place, b) =
    let grown : Before (p ++ x ∷ []) n start (cs ++ x ∷ []) = before_more p n start x cs going b in
    let one : length (cs ++ x ∷ []) ≡ length cs + 1 = length-append cs (x ∷ []) in
    by_test (Leads (p ++ x ∷ [])) (is_name_character x) _ _
    (λ e. by_test (Leads (p ++ x ∷ [])) (nat_lt (length cs) 255) _ _
    (λ l. let fewer : length cs < 255 = ltb-true (length cs) 255 l in (plain_push cs x name e, omega arith, place, grown))
    (λ l. let many : 255 ≤ length cs = ltb-false (length cs) 255 l in
    long_plain_row (record {
      nest = n;
      characters = cs ++ x ∷ [];
      before = grown;
      in_place = place;
      name = plain_push cs x name e;
      long = omega arith;
      reason = refl;
    })))
    (λ e. behind_leads (p ++ x ∷ []) n start (length p) x (plain cs) (cs ++ x ∷ []) grown
    (λ more. ((name, short), (append_assoc cs (x ∷ []) more, e))) (plain_going n start cs) (λ why. place) (length-append p (x ∷ [])))
