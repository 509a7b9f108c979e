-- A token that a nest has room for keeps it within the limits of terms.
use Rattle.std.proofs.Common.{◌≡◌, ℕ, ◌+◌, ◌*◌, ◌<◌, ◌≤◌, ℤ, pos, Bool, true, false, cond, ◌&&◌, ◌||◌, not, nat_lt, List, [], ◌∷◌, length, map}
use Rattle.std.proofs.Common.{Option, Some, None, refl, ap, ◌∙◌, sym, arith}
use Rattle.std.proofs.lemmas.Bool.{cond_both, ltb-true}
use Rattle.std.proofs.lemmas.List.{length-map}
use Rattle.std.specs.Prelude.{is_none}
use Rattle.dets_term.specs.TermValue.{TermValue, integer, atom, nil, elements, depth}
use Rattle.dets_term.specs.Parts.{parts_depth-chain}
use Rattle.etf_model.specs.Layout.{integers}
use Rattle.text_model.specs.declared.fault.TextWhy.{TextWhy}
use Rattle.text_model.specs.declared.fault.TextWhy.TheVariants.{Depth}
use Rattle.text_model.specs.Token.{Token, mark, number, plain, quoted, string}
use Rattle.text_model.specs.Grammar.{strict}
use Rattle.text_model.specs.Nest.{Place, colon, Nest, at_segment, refusal, wants_segment, may_hold, leaf, take_segment, number_at, take_number}
use Rattle.text_model.specs.Nest.{take_bytes, string_refusal, take_string, take}
use Rattle.text_nest.proofs.Closings.{deepest-integers, length-joined}
use Rattle.text_nest.proofs.FitNests.{HasRoom, TakenFits, may_begin, leaf_fits, segment_fits, size_fits, bytes_fit}
use Rattle.text_nest.proofs.FitMarks.{mark_fits}

-- what it may add
abbrev pub token_load : Token → ℕ
token_load (mark m) = 8
token_load (number z) = 8
token_load (plain cs) = 0
token_load (quoted cs) = 0
token_load (string cs) = 8 * length cs

-- a term without parts
pub flat_fits : (count more at : ℕ) (n : Nest) (t : TermValue) → HasRoom count more n → length (elements t) ≤ more → depth t ≡ 1
    → TakenFits count (leaf strict n at t (refusal strict n))
flat_fits count more at n t r few flat =
    leaf_fits count more at n t (refusal strict n) r few (λ e. let low = (may_begin n e).0 in omega arith)

number_at_fits : (count at : ℕ) (n : Nest) (z : ℤ) (place : Place) → HasRoom count 8 n → TakenFits count (number_at strict n at z place)
number_at_fits count at n z (colon start v) r = size_fits count start n v z r
number_at_fits count at n z place r = flat_fits count 8 at n (integer z) r (omega arith) refl

-- ---- strings

string_parts : (o : Option TextWhy) (holds : Bool) → cond (is_none o && not holds) (Some Depth) o ≡ None → (o ≡ None) × (holds ≡ true)
string_parts None true e = (refl, refl)
string_parts None false e = cc
string_parts (Some why) holds e = cc

room_for_characters : (n : Nest) → at_segment n.begun ≡ false → may_hold strict n ≡ true → length n.begun + 1 < 256
room_for_characters n e holds = ltb-true (length n.begun + 1) 256 (sym (ap (λ b. b || nat_lt (length n.begun + 1) 256) e) ∙ holds)

-- the code points are one level deeper
string_depth : (n : Nest) (cs : List ℕ) → string_refusal strict n cs ≡ None → depth (integers cs) + length n.begun ≤ 256
string_depth n [] e = let low = (may_begin n e).0 in omega arith
string_depth n (c ∷ cs) e =
    let parts = string_parts (refusal strict n) (may_hold strict n) e in
    let low = room_for_characters n (may_begin n parts.0).1 parts.1 in
    omega (arith, parts_depth-chain (map (λ x. integer (pos x)) (c ∷ cs)), deepest-integers (c ∷ cs))

length-integers : (cs : List ℕ) → length (elements (integers cs)) ≡ length cs
length-integers cs = omega (arith, length-joined (map (λ x. integer (pos x)) cs) nil, length-map cs (λ x. integer (pos x)))

string_fits : (count at : ℕ) (n : Nest) (cs : List ℕ) → HasRoom count (8 * length cs) n → TakenFits count (take_string strict n at cs)
string_fits count at n cs r =
    cond_both (wants_segment n) (take_bytes strict n at cs) (leaf strict n at (integers cs) (string_refusal strict n cs)) (TakenFits count)
    (λ e. bytes_fit count at n cs r)
    (λ e. leaf_fits count (8 * length cs) at n (integers cs) (string_refusal strict n cs) r (omega (arith, length-integers cs)) (string_depth n cs))

-- ---- any token

number_fits : (count at : ℕ) (n : Nest) (z : ℤ) → HasRoom count 8 n → TakenFits count (take_number strict n at z)
number_fits count at n z r =
    cond_both (wants_segment n) (take_segment strict n at z) (number_at strict n at z n.place) (TakenFits count)
    (λ e. segment_fits count at n z r) (λ e. number_at_fits count at n z n.place r)

pub token_fits : (count at : ℕ) (n : Nest) (token : Token) → HasRoom count (token_load token) n → TakenFits count (take strict n at token)
token_fits count at n (mark m) r = mark_fits count at n m r
token_fits count at n (number z) r = number_fits count at n z r
token_fits count at n (plain cs) r = flat_fits count 0 at n (atom cs) r (omega arith) refl
token_fits count at n (quoted cs) r = flat_fits count 0 at n (atom cs) r (omega arith) refl
token_fits count at n (string cs) r = string_fits count at n cs r
