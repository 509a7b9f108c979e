-- What it means that the lexeme at the end of the input is at fault.
use Rattle.std.proofs.Common.{◌≡◌, ℕ, ℤ, ◌+◌, ◌-◌, ◌<◌, ◌≤◌, Bool, true, false, nat_lt, List, [], ◌∷◌, ◌++◌, length, length-append, Some, Err}
use Rattle.std.proofs.Common.{encode_utf8_all, ltb-false, refl, ap, ◌∙◌, sym, subst, inl, inr, append-nil, arith}
use Rattle.std.specs.Char.{IsScalar, encode_utf8}
use Rattle.text_model.specs.declared.fault.TextWhy.{TextWhy}
use Rattle.text_model.specs.declared.fault.TextWhy.TheVariants.{BadUtf8}
use Rattle.text_model.specs.Token.{Token, number, plain, sort_of, fits}
use Rattle.text_model.specs.Spelling.{IsNumber, Stands}
use Rattle.text_model.specs.Faults.{BeginsWith, with_repeats}
use Rattle.text_model.specs.Grammar.{strict}
use Rattle.text_model.specs.Nest.{Nest, take, wants_segment}
use Rattle.text_model.specs.Reader.{Lexeme, in_comment, in_number, in_name, whole, part, sequence, number_may_grow, last_fault}
use Rattle.text_model.proofs.Comes.{IsCut, IsInComment, sign, IsInNumber, Comes}
use Rattle.text_model.proofs.ComesWords.{number_spelled}
use Rattle.text_model.proofs.FirstBytes.{shows_first}
use Rattle.text_model.proofs.LongerTokens.{stands_shows, number_of_sort, plain_of_sort, longer_number}
use Rattle.text_model.proofs.ComesEnds.{IsSettledAt, LastRow, last_token_row, last_comment_row, at_last_fault, Fails, take_longer}
use Rattle.text_model.proofs.Sequences.{sequence_of_longer}
use Rattle.text_model.proofs.TokenStarts.{name_some}

-- two tokens that begin with the same bytes are of one sort
same_sort : (token longer : Token) (front behind more : List ℕ) → 0 < length front → Stands token front behind → Stands longer (front ++ more) []
    → sort_of longer ≡ sort_of token
same_sort token longer [] behind more some s l = absurd (omega arith)
same_sort token longer (y ∷ front) behind more some s l =
    let short = shows_first (sort_of token) y front (stands_shows token (y ∷ front) behind s) in
    let long = shows_first (sort_of longer) y (front ++ more) (stands_shows longer (y ∷ (front ++ more)) [] l) in
    cc

-- ---- numbers

number_settled : (p : List ℕ) (n : Nest) (start : ℕ) (minus : Bool) (z : ℤ) (i : IsInNumber p n start minus z) (fault : ℕ × TextWhy)
    → number_may_grow n minus z ≡ false → take strict n start (number z) ≡ Err fault → Stands (number z) (sign minus ++ i.digits) []
    → 0 < length (sign minus ++ i.digits) → IsSettledAt n (sign minus ++ i.digits)
number_settled p n start minus z i fault grows refused stands some x more longer at l =
    let sort = number_of_sort longer (same_sort (number z) longer (sign minus ++ i.digits) [] (x ∷ more) some stands l) in
    let is : Stands (number sort.0) ((sign minus ++ i.digits) ++ x ∷ more) [] = subst (λ t. Stands t ((sign minus ++ i.digits) ++ x ∷ more) []) sort.1 l in
    let fails : Fails (take with_repeats n at (number sort.0)) =
    take_longer n start at minus z sort.0 i.digits fault (wants_segment n) i.value (longer_number minus i.digits more x sort.0 i.some i.decimal is.1) is.0
    grows refused in
    (fails.0, ap (take with_repeats n at) sort.1 ∙ fails.1)

number_last : (p : List ℕ) (n : Nest) (start : ℕ) (minus : Bool) (z : ℤ) (fault : ℕ × TextWhy) → fits z ≡ true → IsInNumber p n start minus z
    → (number_may_grow n minus z ≡ false) × (take strict n start (number z) ≡ Err fault) → LastRow p fault.0 fault.1
number_last p n start minus z fault f i (grows, refused) =
    let stands : Stands (number z) (sign minus ++ i.digits) [] =
    (f, subst (λ l. IsNumber z l []) (append-nil (sign minus ++ i.digits)) (number_spelled p n start minus z [] i tt)) in
    last_token_row (record {
      nest = n;
      start = start;
      front = sign minus ++ i.digits;
      before = i.before;
      token = number z;
      stands = stands;
      in_place = i.in_place;
      refused = refused;
      settled = number_settled p n start minus z i fault grows refused stands (omega (arith, length-append (sign minus) i.digits, i.some));
    })

-- ---- names

-- a name of 255 characters has no longer one
no_longer : (cs : List ℕ) (x : ℕ) (more : List ℕ) (longer : Token) → 255 ≤ length cs → 0 < length cs → Stands (plain cs) cs []
    → Stands longer (cs ++ x ∷ more) [] → ⊥
no_longer cs x more longer many some stands l =
    let sort = plain_of_sort longer (same_sort (plain cs) longer cs [] (x ∷ more) some stands l) in
    let is : Stands (plain sort.0) (cs ++ x ∷ more) [] = subst (λ t. Stands t (cs ++ x ∷ more) []) sort.1 l in
    let short : length sort.0 ≤ 255 = is.0.1 in
    omega (arith, ap length is.1.0, length-append cs (x ∷ more), length-append sort.0 [])

name_last : (p : List ℕ) (n : Nest) (start : ℕ) (cs : List ℕ) (fault : ℕ × TextWhy) → Comes p n (in_name start cs)
    → (nat_lt (length cs) 255 ≡ false) × (take strict n start (plain cs) ≡ Err fault) → LastRow p fault.0 fault.1
name_last p n start cs fault (name, short, place, b) (grows, refused) =
    let stands : Stands (plain cs) cs [] = ((name, short), (sym (append-nil cs), tt)) in
    last_token_row (record {
      nest = n;
      start = start;
      front = cs;
      before = b;
      token = plain cs;
      stands = stands;
      in_place = place;
      refused = refused;
      settled = λ x more longer at l. absurd (no_longer cs x more longer (ltb-false (length cs) 255 grows) (name_some cs name) stands l);
    })

-- ---- comments

pub cut_some : (x : ℕ) (xs : List ℕ) → IsCut (x ∷ xs) → sequence (x ∷ xs) ≡ part
cut_some x xs (inl e) = cc
cut_some x xs (inr e) = e

-- the first bytes of a character hold no whole one
part_has_none : (bytes : List ℕ) (c : ℕ) → sequence bytes ≡ part → IsScalar c → BeginsWith bytes (encode_utf8 c) → ⊥
part_has_none bytes c s scalar (rest, e) = let is : sequence bytes ≡ whole c = ap sequence e ∙ sequence_of_longer c rest scalar in cc

comment_last : (p : List ℕ) (n : Nest) (x : ℕ) (xs : List ℕ) → IsCut (x ∷ xs) → IsInComment p n (x ∷ xs) → LastRow p (length p - length (x ∷ xs)) BadUtf8
comment_last p n x xs is_cut c =
    let offset : length p ≡ c.start + length (37 ∷ (encode_utf8_all c.characters ++ x ∷ xs)) = c.before.offset in
    last_comment_row (record {
      nest = n;
      bytes = x ∷ xs;
      comment = c;
      some = omega arith;
      there = omega (arith, offset, length-append (encode_utf8_all c.characters) (x ∷ xs));
      bad = λ y scalar b. part_has_none (x ∷ xs) y (cut_some x xs is_cut) scalar b;
      reason = refl;
    })

-- the lexeme at the end of the input is at fault by a rule
pub comes_last : (p : List ℕ) (n : Nest) (l : Lexeme) (fault : ℕ × TextWhy) → Comes p n l → last_fault n (length p) l ≡ Some fault → LastRow p fault.0 fault.1
comes_last p n (in_comment (x ∷ xs)) fault c e =
    let same : (length p - length (x ∷ xs), BadUtf8) ≡ fault = cc in
    subst (λ (f : ℕ × TextWhy). LastRow p f.0 f.1) same (comment_last p n x xs c.0 c.1)
comes_last p n (in_number start minus z) fault c e =
    number_last p n start minus z fault c.0 c.1 (at_last_fault (number_may_grow n minus z) (take strict n start (number z)) fault e)
comes_last p n (in_name start cs) fault c e =
    name_last p n start cs fault c (at_last_fault (nat_lt (length cs) 255) (take strict n start (plain cs)) fault e)
comes_last p n other fault c e = cc
