-- What the functions of encoding write of a term's parts: integers, atoms, and the elements of lists.
use Rattle.std.proofs.Common.{◌≡◌, ℕ, zero, suc, ◌+◌, ◌^◌, ◌<◌, ◌≤◌, ℤ, pos, true, false, cond, List, [], ◌∷◌, ◌++◌, length, drop, Option, Some, None}
use Rattle.std.proofs.Common.{slice_get, Bor, leb, ltb, refl, sym, ap, ◌∙◌, ⊎_elim, arith, append_assoc}
use Rattle.std.specs.Prelude.{negsuc, unsigned_abs, int_lt}
use Rattle.std.specs.List.{list_all}
use Rattle.std.specs.Option.{is_some, option_copied, MatchOption}
use Rattle.std.specs.Str.{encode_utf8_all, chars, IsUtf8}
use Rattle.std.specs.Int.{w32, from_bool}
use Rattle.std.specs.Int.RustNames.{FitsSigned}
use Rattle.std.proofs.lemmas.Bool.{cond-false, lt-leb, le-ltb, and_parts, cases_lt}
use Rattle.std.proofs.lemmas.List.{append-nil}
use Rattle.std.proofs.lemmas.Str.{encodes-chars}
use Rattle.dets_term.specs.declared.term.Node.{Node}
use Rattle.dets_term.specs.declared.term.Node.TheVariants.{Int, Atom, Tuple, Map, List as ListNode, Improper, Bits}
use Rattle.dets_term.specs.TermValue.{TermValue}
use Rattle.dets_term.specs.Node.{shown, IsSound}
use Rattle.etf_model.specs.CanonicalWholes.{length-encodes-le}
use Rattle.etf_model.specs.Canonical.{integer_spelling, big_spelling, is_byte, byte_value}

-- ---- integers

-- an integer that 32 bits do not hold
pub integer_spelling-big : (z : ℤ) → (FitsSigned w32 z → ⊥) → integer_spelling z ≡ big_spelling (from_bool (int_lt z (pos 0))) (unsigned_abs z)
integer_spelling-big (pos n) large =
    let above : 2 ^ 31 ≤ n = ⊎_elim (λ h. absurd (large (record { sfits = h }))) (λ h. h) (cases_lt n (2 ^ 31)) in
    cond-false (leb n 255) _ _ (lt-leb n 255 (omega arith)) ∙ cond-false (ltb n (2 ^ 31)) _ _ (le-ltb n (2 ^ 31) above)
    ∙ ap (λ b. big_spelling (from_bool b) n) (sym (le-ltb n 0 (omega arith)))
integer_spelling-big (negsuc n) large =
    let above : 2 ^ 31 ≤ n = ⊎_elim (λ h. absurd (large (record { sfits = h }))) (λ h. h) (cases_lt n (2 ^ 31)) in
    cond-false (ltb n (2 ^ 31)) _ _ (le-ltb n (2 ^ 31) above)

-- ---- atoms

pub name-fits : (name : List ℕ) → IsUtf8 name → length (chars name) ≤ 255 → length name < 2 ^ 16
name-fits name utf8 h =
    let same : length (encode_utf8_all (chars name)) ≡ length name = ap length (encodes-chars name utf8) in
    omega (arith, length-encodes-le (chars name))

-- ---- lists

-- there is an element at each index below the length
pub element_within : {X : Type 0} (xs : List X) (n : ℕ) → n < length xs → slice_get xs n ≡ None → ⊥
element_within [] n h e = omega arith
element_within (x ∷ xs) zero h e = cc
element_within (x ∷ xs) (suc n) h e = element_within xs n (omega arith) e

pub drop-get : {X : Type 0} (xs : List X) (n : ℕ) (x : X) → slice_get xs n ≡ Some x → drop n xs ≡ x ∷ drop (n + 1) xs
drop-get [] n x e = cc
drop-get (y ∷ xs) zero x e = let same : y ≡ x = cc in ap (λ z. z ∷ xs) same
drop-get (y ∷ xs) (suc n) x e = let more : suc n + 1 ≡ suc (n + 1) = omega arith in rw more (drop-get xs n x e)

pub drop-end : {X : Type 0} (xs : List X) (n : ℕ) → length xs ≤ n → drop n xs ≡ []
drop-end [] zero h = refl
drop-end [] (suc n) h = refl
drop-end (x ∷ xs) zero h = absurd (omega arith)
drop-end (x ∷ xs) (suc n) h = drop-end xs n (omega arith)

-- one more element is written, of all that are to be
pub written-more : {X : Type 0} (F : List X → List ℕ) (f : X → List ℕ) → ((x : X) (xs : List X) → F (x ∷ xs) ≡ f x ++ F xs)
    → (out new total : List ℕ) (xs : List X) (n : ℕ) (x : X) → slice_get xs n ≡ Some x
    → out ++ F (drop n xs) ≡ total → new ≡ out ++ f x → new ++ F (drop (n + 1) xs) ≡ total
written-more F f cons out new total xs n x e before more =
    ap (λ bytes. bytes ++ F (drop (n + 1) xs)) more
    ∙ append_assoc out (f x) (F (drop (n + 1) xs))
    ∙ ap (λ bytes. out ++ bytes) (sym (cons x (drop (n + 1) xs)) ∙ ap F (sym (drop-get xs n x e)))
    ∙ before

pub written-all : {X : Type 0} (F : List X → List ℕ) → F [] ≡ [] → (out total : List ℕ) (xs : List X) (n : ℕ) → length xs ≤ n → out ++ F (drop n xs) ≡ total
    → out ≡ total
written-all F none out total xs n h all =
    sym (append-nil out) ∙ ap (λ bytes. out ++ bytes) (sym (ap F (drop-end xs n h) ∙ none)) ∙ all

-- ---- lists of bytes

pub is_byte-other : (n : Node) → IsSound n → ((v : ℤ) → n ≡ Int v → ⊥) → is_byte (shown n) ≡ false
is_byte-other (Int v) sound other = absurd (other v refl)
is_byte-other (Atom name) sound other = refl
is_byte-other (Tuple parts) sound other = refl
is_byte-other (Map pairs) sound other = refl
is_byte-other (ListNode []) sound other = refl
is_byte-other (ListNode (t ∷ ts)) sound other = refl
is_byte-other (Improper [] tail) sound other = absurd (let some = sound.0 in omega arith)
is_byte-other (Improper (t ∷ ts) tail) sound other = refl
is_byte-other (Bits bytes used) sound other = refl

-- what the code's look at an element says
pub byte-some : (t : TermValue) (x : ℕ) → Some x ≡ cond (is_byte t) (Some (byte_value t)) None → (is_byte t ≡ true) × (x ≡ byte_value t)
byte-some t x e =
    elim (is_byte t) as (λ b. Some x ≡ cond b (Some (byte_value t)) None → (b ≡ true) × (x ≡ byte_value t)) [ true ↦ λ h. (refl, cc) | false ↦ λ h. cc ] e

pub byte-is_some : (t : TermValue) (o : Option ℕ) → o ≡ cond (is_byte t) (Some (byte_value t)) None → is_some o ≡ is_byte t
byte-is_some t o e = ap is_some e ∙ (elim (is_byte t) as (λ b. is_some (cond b (Some (byte_value t)) None) ≡ b) [ true ↦ refl | false ↦ refl ])

pub all_bytes-at : (ts : List TermValue) (n : ℕ) (t : TermValue) → list_all is_byte ts ≡ true → slice_get ts n ≡ Some t → is_byte t ≡ true
all_bytes-at [] n t all e = cc
all_bytes-at (u ∷ ts) zero t all e = let same : u ≡ t = cc in ap is_byte (sym same) ∙ (and_parts _ _ all).0
all_bytes-at (u ∷ ts) (suc n) t all e = all_bytes-at ts n t (and_parts _ _ all).1 e

-- the code's look at the element at an index
pub record Looked (ts : List TermValue) (n : ℕ) (byte : Option ℕ) : Type 0 where
  pub term : TermValue
  pub here : slice_get ts n ≡ Some term
  pub value : byte ≡ cond (is_byte term) (Some (byte_value term)) None

pub looked-at : (ts : List TermValue) (n : ℕ) (o : Option (Bor TermValue)) (byte : Option ℕ) → option_copied o ≡ slice_get ts n → n < length ts
    → MatchOption o (byte ≡ None) (λ x. byte ≡ cond (is_byte x.now) (Some (byte_value x.now)) None) → Looked ts n byte
looked-at ts n None byte e h m = absurd (element_within ts n h (sym e))
looked-at ts n (Some x) byte e h m = record { term = x.now; here = sym e; value = m }
