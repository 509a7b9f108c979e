-- Which sorts of tokens may stand behind tokens that the machine takes, where the form alone is asked.
use Rattle.std.proofs.Common.{◌≡◌, ℕ, ◌≤◌, ℤ, pos, Bool, true, false, cond, ◌||◌, Option, None, Ok, List, [], ◌∷◌, ◌++◌, refl, ap, ◌∙◌, sym, subst, arith}
use Rattle.dets_term.specs.TermValue.{TermValue, integer, atom}
use Rattle.etf_model.specs.Layout.{integers}
use Rattle.text_model.specs.declared.mark.Mark.{Mark}
use Rattle.text_model.specs.declared.fault.TextWhy.{TextWhy}
use Rattle.text_model.specs.Token.{Token, mark, number, plain, quoted, string, Sort, a_mark, a_number, a_plain, a_quoted, a_string, sort_of, IsToken}
use Rattle.text_model.specs.Grammar.{Rules, formal}
use Rattle.text_model.specs.Nest.{Place, after, value, colon, Nest, fresh, wants_segment, is_colon, refusal, refusal_of, string_refusal, leaf}
use Rattle.text_model.specs.Nest.{take_segment, number_at, take_bytes, take}
use Rattle.text_model.specs.Located.{tokens_of, take_all}
use Rattle.text_model.specs.Fronts.{MayBegin, MayStand}
use Rattle.text_model.proofs.TakenSteps.{tokens_of-append, take_all_push, next_taken}
use Rattle.text_model.proofs.TextTaken.{begins_taken}
use Rattle.text_model.proofs.Refused.{leaf_is, string_may_begin}
use Rattle.text_model.proofs.Closing.{taken_begins}

-- ---- a token that is taken, and one that may stand

-- one more token with which a text may begin
pub more_taken : (rules : Rules) (ps : List (ℕ × Token)) (n : Nest) (at : ℕ) (token : Token) → take_all rules fresh ps ≡ Ok n
    → MayBegin rules (tokens_of ps ++ token ∷ []) → (m : Nest) × (take rules n at token ≡ Ok m)
more_taken rules ps n at token e b =
    let begins = begins_taken rules (ps ++ (at, token) ∷ []) (subst (MayBegin rules) (sym (tokens_of-append ps ((at, token) ∷ []))) b) in
    (begins.0, next_taken rules n begins.0 ps at token e begins.1)

pub more_begins : (rules : Rules) → rules.distinct ≡ false → 1 ≤ rules.levels → (ps : List (ℕ × Token)) (n m : Nest) (at : ℕ) (token : Token)
    → take_all rules fresh ps ≡ Ok n → take rules n at token ≡ Ok m → MayBegin rules (tokens_of ps ++ token ∷ [])
more_begins rules d h ps n m at token e t =
    subst (MayBegin rules) (tokens_of-append ps ((at, token) ∷ []))
    (taken_begins rules d h (ps ++ (at, token) ∷ []) m (take_all_push rules fresh n m ps at token e t))

-- a token of that sort is taken
stands_taken : (rules : Rules) (ps : List (ℕ × Token)) (n : Nest) (sort : Sort) (at : ℕ) → take_all rules fresh ps ≡ Ok n
    → MayStand rules (tokens_of ps) sort → (token : Token) × (sort_of token ≡ sort) × (m : Nest) × (take rules n at token ≡ Ok m)
stands_taken rules ps n sort at e s = let m = more_taken rules ps n at s.token e s.begins in (s.token, s.same, m.0, m.1)

-- a token that is taken may stand
taken_stands : (rules : Rules) → rules.distinct ≡ false → 1 ≤ rules.levels → (ps : List (ℕ × Token)) (n m : Nest) (at : ℕ) (token : Token)
    → take_all rules fresh ps ≡ Ok n → IsToken token → take rules n at token ≡ Ok m → MayStand rules (tokens_of ps) (sort_of token)
taken_stands rules d h ps n m at token e is t =
    record { token = token; same = refl; spelled = is; begins = more_begins rules d h ps n m at token e t }

-- ---- a token with a value that is taken was not refused for its sort

number_place : (rules : Rules) (n m : Nest) (at : ℕ) (z : ℤ) (place : Place) → number_at rules n at z place ≡ Ok m
    → cond (is_colon place) None (refusal rules n) ≡ None
number_place rules n m at z (colon start v) e = refl
number_place rules n m at z other e = (leaf_is rules n at (integer z) (refusal rules n) m e).0

number_passes : (rules : Rules) (n m : Nest) (at : ℕ) (z : ℤ) (b : Bool)
    → cond b (take_segment rules n at z) (number_at rules n at z n.place) ≡ Ok m → cond (b || is_colon n.place) None (refusal rules n) ≡ None
number_passes rules n m at z true e = refl
number_passes rules n m at z false e = number_place rules n m at z n.place e

string_passes : (rules : Rules) (n m : Nest) (at : ℕ) (cs : List ℕ) (b : Bool)
    → cond b (take_bytes rules n at cs) (leaf rules n at (integers cs) (string_refusal rules n cs)) ≡ Ok m → cond b None (refusal rules n) ≡ None
string_passes rules n m at cs true e = refl
string_passes rules n m at cs false e =
    string_may_begin rules n cs (leaf_is rules n at (integers cs) (string_refusal rules n cs) m e).0

-- a sort of tokens with values
abbrev pub has_value : Sort → Bool
has_value (a_mark m) = false
has_value other = true

pub taken_passes : (rules : Rules) (n m : Nest) (at : ℕ) (token : Token) → has_value (sort_of token) ≡ true → take rules n at token ≡ Ok m
    → refusal_of rules n (sort_of token) ≡ None
taken_passes rules n m at (mark k) h e = cc
taken_passes rules n m at (number z) h e = number_passes rules n m at z (wants_segment n) e
taken_passes rules n m at (plain cs) h e = (leaf_is rules n at (atom cs) (refusal rules n) m e).0
taken_passes rules n m at (quoted cs) h e = (leaf_is rules n at (atom cs) (refusal rules n) m e).0
taken_passes rules n m at (string cs) h e = string_passes rules n m at cs (wants_segment n) e

-- ---- where its sort is not refused, some token of the sort is taken

leaf_passes : (levels : ℕ) (n : Nest) (at : ℕ) (t : TermValue) (o : Option TextWhy) → o ≡ None → (m : Nest) × (leaf (formal levels) n at t o ≡ Ok m)
leaf_passes levels n at t o e = (record { begun = n.begun; place = after at t }, ap (leaf (formal levels) n at t) e)

zero_place : (levels : ℕ) (n : Nest) (place : Place) → cond (is_colon place) None (refusal (formal levels) n) ≡ None
    → (m : Nest) × (number_at (formal levels) n 0 (pos 0) place ≡ Ok m)
zero_place levels n (colon start v) e = (_, refl)
zero_place levels n other e = leaf_passes levels n 0 (integer (pos 0)) (refusal (formal levels) n) e

zero_passes : (levels : ℕ) (n : Nest) (b : Bool) → cond (b || is_colon n.place) None (refusal (formal levels) n) ≡ None
    → (m : Nest) × (cond b (take_segment (formal levels) n 0 (pos 0)) (number_at (formal levels) n 0 (pos 0) n.place) ≡ Ok m)
zero_passes levels n true e = (record n { place = value 0 (pos 0) }, refl)
zero_passes levels n false e = zero_place levels n n.place e

empty_passes : (levels : ℕ) (n : Nest) (b : Bool) → cond b None (refusal (formal levels) n) ≡ None
    → (m : Nest) × (cond b (take_bytes (formal levels) n 0 []) (leaf (formal levels) n 0 (integers []) (refusal (formal levels) n)) ≡ Ok m)
empty_passes levels n true e = (_, refl)
empty_passes levels n false e = leaf_passes levels n 0 (integers []) (refusal (formal levels) n) e

-- a token of each sort
abbrev token_of : Sort → Token
token_of (a_mark m) = mark m
token_of a_number = number (pos 0)
token_of a_plain = plain (97 ∷ [])
token_of a_quoted = quoted []
token_of a_string = string []

passes_taken : (levels : ℕ) (n : Nest) (sort : Sort) → has_value sort ≡ true → refusal_of (formal levels) n sort ≡ None
    → (m : Nest) × (take (formal levels) n 0 (token_of sort) ≡ Ok m)
passes_taken levels n (a_mark k) h e = cc
passes_taken levels n a_number h e = zero_passes levels n (wants_segment n) e
passes_taken levels n a_plain h e = leaf_passes levels n 0 (atom (97 ∷ [])) (refusal (formal levels) n) e
passes_taken levels n a_quoted h e = leaf_passes levels n 0 (atom []) (refusal (formal levels) n) e
passes_taken levels n a_string h e = empty_passes levels n (wants_segment n) e

sort_of-token_of : (sort : Sort) → sort_of (token_of sort) ≡ sort
sort_of-token_of (a_mark m) = refl
sort_of-token_of other = refl

IsToken-token_of : (sort : Sort) → IsToken (token_of sort)
IsToken-token_of (a_mark m) = tt
IsToken-token_of a_number = refl
IsToken-token_of a_plain = (refl, omega arith)
IsToken-token_of a_quoted = (refl, omega arith)
IsToken-token_of a_string = refl

-- ---- which sorts may stand

-- a sort that may stand is not refused
pub stands_passes : (rules : Rules) (ps : List (ℕ × Token)) (n : Nest) (sort : Sort) → take_all rules fresh ps ≡ Ok n → has_value sort ≡ true
    → MayStand rules (tokens_of ps) sort → refusal_of rules n sort ≡ None
stands_passes rules ps n sort e h s =
    let t = stands_taken rules ps n sort 0 e s in
    subst (λ k. refusal_of rules n k ≡ None) t.1 (taken_passes rules n t.2 0 t.0 (ap has_value t.1 ∙ h) t.3)

-- and a sort that is not refused may stand
pub passes_stands : (levels : ℕ) → 1 ≤ levels → (ps : List (ℕ × Token)) (n : Nest) (sort : Sort) → take_all (formal levels) fresh ps ≡ Ok n
    → has_value sort ≡ true → refusal_of (formal levels) n sort ≡ None → MayStand (formal levels) (tokens_of ps) sort
passes_stands levels low ps n sort e h r =
    let t = passes_taken levels n sort h r in
    subst (λ k. MayStand (formal levels) (tokens_of ps) k) (sort_of-token_of sort)
    (taken_stands (formal levels) refl low ps n t.0 0 (token_of sort) e (IsToken-token_of sort) t.1)

-- a mark that may stand is taken, at any offset
pub mark_stands_taken : (rules : Rules) (ps : List (ℕ × Token)) (n : Nest) (k : Mark) (at : ℕ) → take_all rules fresh ps ≡ Ok n
    → MayStand rules (tokens_of ps) (a_mark k) → (m : Nest) × (take rules n at (mark k) ≡ Ok m)
mark_stands_taken rules ps n k at e s =
    let t = stands_taken rules ps n (a_mark k) at e s in (t.2, ap (take rules n at) (sym (mark_alone t.0 k t.1)) ∙ t.3)
  where
    mark_alone : (token : Token) (k : Mark) → sort_of token ≡ a_mark k → token ≡ mark k
    mark_alone (mark j) k e = let same : j ≡ k = cc in ap mark same
    mark_alone (number z) k e = cc
    mark_alone (plain cs) k e = cc
    mark_alone (quoted cs) k e = cc
    mark_alone (string cs) k e = cc

-- and a mark that is taken may stand
pub mark_taken_stands : (levels : ℕ) → 1 ≤ levels → (ps : List (ℕ × Token)) (n m : Nest) (k : Mark) (at : ℕ)
    → take_all (formal levels) fresh ps ≡ Ok n → take (formal levels) n at (mark k) ≡ Ok m → MayStand (formal levels) (tokens_of ps) (a_mark k)
mark_taken_stands levels low ps n m k at e t = taken_stands (formal levels) refl low ps n m at (mark k) e tt t
