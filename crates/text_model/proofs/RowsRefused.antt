-- Why a whole token in its place is refused: it repeats a key, it leaves the range of a segment, or it is a string a level too deep.
use Rattle.std.proofs.Common.{◌≡◌, ◌⊎◌, ℕ, ℤ, pos, Bool, true, false, cond, not, ◌||◌, nat_lt, Option, Some, None, Ok, Err, List, [], ◌∷◌, refl, ap}
use Rattle.std.proofs.Common.{◌∙◌, sym, subst, inl, inr}
use Rattle.std.proofs.lemmas.Bool.{and_parts}
use Rattle.dets_term.specs.TermValue.{TermValue, integer, atom}
use Rattle.etf_model.specs.Layout.{integers}
use Rattle.text_model.specs.declared.fault.TextWhy.{TextWhy}
use Rattle.text_model.specs.declared.fault.TextWhy.TheVariants.{BadToken, Depth, RepeatedKey}
use Rattle.text_model.specs.declared.mark.Mark.TheVariants.{Colon}
use Rattle.text_model.specs.Token.{Token, mark, number, plain, quoted, string, a_string}
use Rattle.text_model.specs.Characters.{each}
use Rattle.text_model.specs.Grammar.{Rules, strict, formal, is_byte, is_sized}
use Rattle.text_model.specs.Nest.{Begun, Place, value, colon, Nest, Taken, stray, at_segment, wants, is_colon, wants_segment, refusal, refusal_of}
use Rattle.text_model.specs.Nest.{may_hold, repeats_in, completed, leaf, take_segment, take_bytes, number_at, string_refusal, take_colon, take}
use Rattle.text_model.specs.Faults.{with_repeats}
use Rattle.text_model.specs.Reader.{why_of}
use Rattle.text_model.proofs.Refused.{string_holds}
use Rattle.text_model.proofs.ComesRows.{IsInPlace}
use Rattle.text_model.proofs.ComesTokens.{by_test}

-- a number or a string
abbrev pub IsValue : Token → Type 0
IsValue token = ((z : ℤ) × (token ≡ number z)) ⊎ ((cs : List ℕ) × (token ≡ string cs))

-- what a token is to a segment that begins at an offset: its value, its colon, or its number of bits
abbrev pub IsOfSegmentAt : Nest → ℕ → ℕ → Token → Type 0
IsOfSegmentAt n start o token =
    ((o ≡ start) × (wants n.place ≡ true) × IsValue token)
    ⊎ (((v : ℤ) × (n.place ≡ value o v) × (token ≡ mark Colon)) ⊎ ((v : ℤ) × (z : ℤ) × (n.place ≡ colon o v) × (token ≡ number z)))

pub record IsRanged (n : Nest) (start : ℕ) (token : Token) (o : ℕ) (why : TextWhy) : Type 0 where
  pub reason : why ≡ BadToken
  pub refused : take with_repeats n start token ≡ Err (o, BadToken)
  pub nest : Nest
  pub form : take (formal 256) n start token ≡ Ok nest
  pub segment : IsOfSegmentAt n start o token

pub record IsDeepString (n : Nest) (start : ℕ) (token : Token) (o : ℕ) (why : TextWhy) : Type 0 where
  pub reason : why ≡ Depth
  pub there : o ≡ start
  pub character : ℕ
  pub characters : List ℕ
  pub is : token ≡ string (character ∷ characters)
  pub place : refusal_of strict n a_string ≡ None
  pub deep : may_hold strict n ≡ false

abbrev pub IsWhy : Nest → ℕ → Token → ℕ → TextWhy → Type 0
IsWhy n start token o why = (why ≡ RepeatedKey) ⊎ (IsRanged n start token o why ⊎ IsDeepString n start token o why)

-- ---- faults

abbrev offset_of : Taken → ℕ
offset_of (Ok n) = 0
offset_of (Err fault) = fault.0

same_fault : (s o : ℕ) (w why : TextWhy) (t : Taken) → t ≡ Err (s, w) → t ≡ Err (o, why) → (s ≡ o) × (w ≡ why)
same_fault s o w why t e f =
    let offsets = ap offset_of (sym e ∙ f) in
    let reasons : Some w ≡ Some why = ap why_of (sym e ∙ f) in
    (offsets, (let same : w ≡ why = cc in same))

-- ---- terms

completed_why : (bs : List Begun) (start : ℕ) (t : TermValue) (o : ℕ) (why : TextWhy) → completed strict bs start t ≡ Err (o, why) → why ≡ RepeatedKey
completed_why bs start t o why =
    by_test (λ (k : Taken). k ≡ Err (o, why) → why ≡ RepeatedKey) (repeats_in bs t) _ _
    (λ _ e. sym (same_fault start o RepeatedKey why _ refl e).1) (λ _ e. cc)

leaf_why : (n : Nest) (start : ℕ) (t : TermValue) (q : Option TextWhy) (o : ℕ) (why : TextWhy) → q ≡ None → leaf strict n start t q ≡ Err (o, why)
    → why ≡ RepeatedKey
leaf_why n start t q o why e f = completed_why n.begun start t o why (sym (ap (leaf strict n start t) e) ∙ f)

-- ---- ranges

range_why : (b : Bool) (s : ℕ) (m : Nest) (o : ℕ) (why : TextWhy) → cond {A = Taken} (not b) (stray s) (Ok m) ≡ Err (o, why) → (s ≡ o) × (why ≡ BadToken)
range_why true s m o why e = cc
range_why false s m o why e = let same = same_fault s o BadToken why (stray s) refl e in (same.0, sym same.1)

-- the same is refused where keys may be repeated
ranged : (n : Nest) (start : ℕ) (token : Token) (b : Bool) (s : ℕ) (m k : Nest) (o : ℕ) (why : TextWhy)
    → take strict n start token ≡ cond (not b) (stray s) (Ok m) → take with_repeats n start token ≡ cond (not b) (stray s) (Ok m)
    → take (formal 256) n start token ≡ Ok k → (s ≡ o → IsOfSegmentAt n start o token) → take strict n start token ≡ Err (o, why)
    → IsRanged n start token o why
ranged n start token b s m k o why here loose form of e =
    let is = range_why b s m o why (sym here ∙ e) in
    record {
      reason = is.1;
      refused = loose ∙ sym here ∙ e ∙ ap (λ w. Err (o, w)) is.1;
      nest = k;
      form = form;
      segment = of is.0;
    }

-- ---- numbers

in_segment : (rules : Rules) (n : Nest) (at : ℕ) (z : ℤ) → wants_segment n ≡ true → take rules n at (number z) ≡ take_segment rules n at z
in_segment rules n at z e = ap (λ b. cond b (take_segment rules n at z) (number_at rules n at z n.place)) e

in_term : (rules : Rules) (n : Nest) (at : ℕ) (z : ℤ) (place : Place) → wants_segment n ≡ false → n.place ≡ place
    → take rules n at (number z) ≡ number_at rules n at z place
in_term rules n at z place e f =
    ap (λ b. cond b (take_segment rules n at z) (number_at rules n at z n.place)) e ∙ ap (number_at rules n at z) f

number_why : (n : Nest) (start : ℕ) (z : ℤ) (place : Place) (o : ℕ) (why : TextWhy) → n.place ≡ place → wants_segment n ≡ false
    → cond (is_colon place) None (refusal strict n) ≡ None → take strict n start (number z) ≡ Err (o, why) → IsWhy n start (number z) o why
number_why n start z (colon s v) o why f s_apart place e =
    inr (inl (ranged n start (number z) (is_sized v z) s _ _ o why (in_term strict n start z (colon s v) s_apart f)
    (in_term with_repeats n start z (colon s v) s_apart f) (in_term (formal 256) n start z (colon s v) s_apart f)
    (λ same. inr (inr (v, z, f ∙ ap (λ a. colon a v) same, refl))) e))
number_why n start z other o why f s_apart place e =
    inl (leaf_why n start (integer z) (refusal strict n) o why place (sym (in_term strict n start z other s_apart f) ∙ e))

number_by : (n : Nest) (start : ℕ) (z : ℤ) (b : Bool) (o : ℕ) (why : TextWhy) → wants_segment n ≡ b
    → cond (b || is_colon n.place) None (refusal strict n) ≡ None
    → take strict n start (number z) ≡ Err (o, why) → IsWhy n start (number z) o why
number_by n start z true o why s place e =
    inr (inl (ranged n start (number z) (is_byte z) start _ _ o why (in_segment strict n start z s) (in_segment with_repeats n start z s)
    (in_segment (formal 256) n start z s)
    (λ same. inl (sym same, (and_parts (wants n.place) (at_segment n.begun) s).0, inl (z, refl))) e))
number_by n start z false o why s place e = number_why n start z n.place o why refl s place e

-- ---- strings

bytes_taken : (rules : Rules) (n : Nest) (at : ℕ) (cs : List ℕ) (b : Bool) → wants_segment n ≡ b
    → take rules n at (string cs) ≡ cond b (take_bytes rules n at cs) (leaf rules n at (integers cs) (string_refusal rules n cs))
bytes_taken rules n at cs b e = ap (λ c. cond c (take_bytes rules n at cs) (leaf rules n at (integers cs) (string_refusal rules n cs))) e

string_why : (n : Nest) (start : ℕ) (cs : List ℕ) (h : Bool) (o : ℕ) (why : TextWhy) → may_hold strict n ≡ h → refusal strict n ≡ None
    → refusal_of strict n a_string ≡ None → leaf strict n start (integers cs) (string_refusal strict n cs) ≡ Err (o, why) → IsWhy n start (string cs) o why
string_why n start [] h o why may place here e = inl (leaf_why n start (integers []) (refusal strict n) o why place e)
string_why n start (c ∷ cs) true o why may place here e =
    inl (leaf_why n start (integers (c ∷ cs)) (string_refusal strict n (c ∷ cs)) o why (string_holds (refusal strict n) (may_hold strict n) place may) e)
string_why n start (c ∷ cs) false o why may place here e =
    let deep : string_refusal strict n (c ∷ cs) ≡ Some Depth = rw (place, may) in
    let same = same_fault start o Depth why (leaf strict n start (integers (c ∷ cs)) (string_refusal strict n (c ∷ cs)))
    (ap (leaf strict n start (integers (c ∷ cs))) deep) e in
    inr (inr (record { reason = sym same.1; there = sym same.0; character = c; characters = cs; is = refl; place = here; deep = may }))

string_by : (n : Nest) (start : ℕ) (cs : List ℕ) (b : Bool) (o : ℕ) (why : TextWhy) → wants_segment n ≡ b → cond b None (refusal strict n) ≡ None
    → take strict n start (string cs) ≡ Err (o, why) → IsWhy n start (string cs) o why
string_by n start cs true o why s place e =
    inr (inl (ranged n start (string cs) (each (λ c. nat_lt c 256) cs) start _ _ o why (bytes_taken strict n start cs true s)
    (bytes_taken with_repeats n start cs true s) (bytes_taken (formal 256) n start cs true s)
    (λ same. inl (sym same, (and_parts (wants n.place) (at_segment n.begun) s).0, inr (cs, refl))) e))
string_by n start cs false o why s place e =
    string_why n start cs (may_hold strict n) o why refl place (ap (λ b. cond b None (refusal strict n)) s ∙ place)
    (sym (bytes_taken strict n start cs false s) ∙ e)

-- ---- tokens

colon_why : (n : Nest) (start : ℕ) (s : ℕ) (v : ℤ) (o : ℕ) (why : TextWhy) → n.place ≡ value s v → take strict n start (mark Colon) ≡ Err (o, why)
    → IsRanged n start (mark Colon) o why
colon_why n start s v o why f e =
    ranged n start (mark Colon) (is_sized v (pos 7)) s _ _ o why (ap (take_colon strict n start) f) (ap (take_colon with_repeats n start) f)
    (ap (take_colon (formal 256) n start) f) (λ same. inr (inl (v, f ∙ ap (λ a. value a v) same, refl))) e

pub refused_why : (n : Nest) (start : ℕ) (token : Token) (o : ℕ) (why : TextWhy) → IsInPlace n why token → take strict n start token ≡ Err (o, why)
    → IsWhy n start token o why
refused_why n start (mark m) o why (inl repeated) e = inl repeated
refused_why n start (mark m) o why (inr (is, s, v, place)) e =
    let here : take strict n start (mark Colon) ≡ Err (o, why) = sym (ap (λ k. take strict n start (mark k)) is) ∙ e in
    inr (inl (subst (λ k. IsRanged n start (mark k) o why) (sym is) (colon_why n start s v o why place here)))
refused_why n start (number z) o why place e = number_by n start z (wants_segment n) o why refl place e
refused_why n start (plain cs) o why place e = inl (leaf_why n start (atom cs) (refusal strict n) o why place e)
refused_why n start (quoted cs) o why place e = inl (leaf_why n start (atom cs) (refusal strict n) o why place e)
refused_why n start (string cs) o why place e = string_by n start cs (wants_segment n) o why refl place e
