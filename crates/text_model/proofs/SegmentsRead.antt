-- How the machine reads a segment that is out of range.
use Rattle.std.proofs.Common.{◌≡◌, ℕ, ℤ, pos, Bool, true, false, cond, not, ◌&&◌, nat_lt, List, [], ◌∷◌, ◌++◌, Option, None, Ok, Err, refl, ap, ◌∙◌}
use Rattle.std.proofs.Common.{sym, subst, append_assoc, append-nil, arith}
use Rattle.dets_term.specs.TermValue.{TermValue, integer}
use Rattle.etf_model.specs.Layout.{integers}
use Rattle.text_model.specs.declared.fault.TextWhy.{TextWhy}
use Rattle.text_model.specs.declared.fault.TextWhy.TheVariants.{BadToken}
use Rattle.text_model.specs.declared.mark.Mark.TheVariants.{Colon}
use Rattle.text_model.specs.Token.{Token, mark, number, string}
use Rattle.text_model.specs.Characters.{each}
use Rattle.text_model.specs.Grammar.{Rules, strict, formal, is_byte, is_sized}
use Rattle.text_model.specs.Nest.{Place, after, value, colon, Nest, Taken, fresh, at_segment, wants, wants_segment, refusal, string_refusal, leaf}
use Rattle.text_model.specs.Nest.{take_segment, take_size, take_bytes, number_at, take_colon, take}
use Rattle.text_model.specs.Located.{tokens_of, take_all}
use Rattle.text_model.specs.Fronts.{MayBegin}
use Rattle.text_model.specs.Faults.{with_repeats, IsOfSegment, LeavesRange}
use Rattle.text_model.specs.Reader.{fresh_state, faulty, outcome}
use Rattle.text_model.proofs.Refused.{cond_ok, leaf_is}
use Rattle.text_model.proofs.WholeTokensRead.{MayRead}
use Rattle.text_model.proofs.TextsRead.{formal_may_read}
use Rattle.text_model.proofs.MayStand.{more_taken, more_begins}
use Rattle.text_model.proofs.LastRead.{tokens_same, last_read, last_outcome}
use Rattle.text_model.proofs.Looser.{formal_taken, repeating_taken}
use Rattle.text_model.proofs.TakenSteps.{last_taken, tokens_of-append}
use Rattle.text_model.proofs.LastTaken.{value_last, colon_last}
use Rattle.std.proofs.lemmas.List.{same_from_push}
use Rattle.text_model.proofs.RefusedKeys.{StartsAt}

-- what the form lets through and the ranges do not
abbrev Leaves : (Rules → Taken) → Type 0
Leaves takes = ((m : Nest) × (takes (formal 256) ≡ Ok m)) × (((m : Nest) × (takes with_repeats ≡ Ok m)) → ⊥)

-- where a term begins, no range is asked
leaf_leaves : (n : Nest) (at : ℕ) (t : TermValue) (o : Rules → Option TextWhy) → (o (formal 256) ≡ None → o with_repeats ≡ None)
    → Leaves (λ rules. leaf rules n at t (o rules)) → ⊥
leaf_leaves n at t o same ((m, e), none) =
    none (record { begun = n.begun; place = after at t }, ap (leaf with_repeats n at t) (same (leaf_is (formal 256) n at t (o (formal 256)) m e).0))

-- a test that is false
tests_false : (b : Bool) (fault : ℕ × TextWhy) (n : Nest) → (((m : Nest) × (cond {A = Taken} (not b) (Err fault) (Ok n) ≡ Ok m)) → ⊥)
    → cond {A = Taken} (not b) (Err fault) (Ok n) ≡ Err fault
tests_false true fault n f = absurd (f (n, refl))
tests_false false fault n f = refl

-- ---- strings and numbers

string_leaves : (n : Nest) (at : ℕ) (cs : List ℕ) (b : Bool)
    → Leaves (λ rules. cond b (take_bytes rules n at cs) (leaf rules n at (integers cs) (string_refusal rules n cs)))
    → cond b (take_bytes strict n at cs) (leaf strict n at (integers cs) (string_refusal strict n cs)) ≡ Err (at, BadToken)
string_leaves n at cs true (m, none) = tests_false (each (λ c. nat_lt c 256) cs) (at, BadToken) _ none
string_leaves n at cs false s = absurd (leaf_leaves n at (integers cs) (λ rules. string_refusal rules n cs) (same cs) s)
  where
    same : (cs : List ℕ) → string_refusal (formal 256) n cs ≡ None → string_refusal with_repeats n cs ≡ None
    same [] e = e
    same (c ∷ cs) e = e

number_leaves : (n : Nest) (at : ℕ) (z : ℤ) (place : Place) → ((start : ℕ) (v : ℤ) → place ≡ colon start v → ⊥)
    → Leaves (λ rules. number_at rules n at z place) → ⊥
number_leaves n at z (colon start v) apart s = apart start v refl
number_leaves n at z other apart s = leaf_leaves n at (integer z) (λ rules. refusal rules n) (λ e. e) s

value_leaves : (n : Nest) (at : ℕ) (z : ℤ) (b : Bool) → ((start : ℕ) (v : ℤ) → n.place ≡ colon start v → ⊥)
    → Leaves (λ rules. cond b (take_segment rules n at z) (number_at rules n at z n.place))
    → cond b (take_segment strict n at z) (number_at strict n at z n.place) ≡ Err (at, BadToken)
value_leaves n at z true apart (m, none) = tests_false (is_byte z) (at, BadToken) _ none
value_leaves n at z false apart s = absurd (number_leaves n at z n.place apart s)

colon_leaves : (n : Nest) (at : ℕ) (place : Place) → Leaves (λ rules. take_colon rules n at place)
    → (start : ℕ) × (v : ℤ) × (place ≡ value start v) × (take_colon strict n at place ≡ Err (start, BadToken))
colon_leaves n at (value start v) (m, none) = (start, v, refl, tests_false (is_sized v (pos 7)) (start, BadToken) _ none)
colon_leaves n at other ((m, e), none) = cc

size_taken : (rules : Rules) (n : Nest) (at start : ℕ) (v z : ℤ) → n.place ≡ colon start v → take rules n at (number z) ≡ take_size rules n start v z
size_taken rules n at start v z e =
    let w : wants_segment n ≡ false = ap (λ p. wants p && at_segment n.begun) e in rw w (ap (number_at rules n at z) e)

size_leaves : (n : Nest) (at start : ℕ) (v z : ℤ) → n.place ≡ colon start v → Leaves (λ rules. take rules n at (number z))
    → take strict n at (number z) ≡ Err (start, BadToken)
size_leaves n at start v z e (m, none) =
    size_taken strict n at start v z e
    ∙ tests_false (is_sized v z) (start, BadToken) _ (λ p. none (p.0, size_taken with_repeats n at start v z e ∙ p.1))

-- ---- where a segment begins

-- at the value of a segment, the last token
value_starts : (ps : List (ℕ × Token)) (n : Nest) (o start : ℕ) (z v : ℤ) → take_all strict fresh (ps ++ (o, number z) ∷ []) ≡ Ok n
    → n.place ≡ value start v → start ≡ o
value_starts ps n o start z v e f =
    let last = value_last strict (ps ++ (o, number z) ∷ []) n start v e f in
    ap (λ (p : ℕ × Token). p.0) (sym (same_from_push ps last.0 (o, number z) (start, number v) last.1).1)

colon_taken : (k n : Nest) (o : ℕ) (place : Place) → take_colon strict k o place ≡ Ok n
    → (start : ℕ) × (v : ℤ) × (place ≡ value start v) × (n.place ≡ colon start v)
colon_taken k n o (value start v) e =
    let same = (cond_ok (not (is_sized v (pos 7))) (start, BadToken) (record k { place = colon start v }) n e).1 in
    (start, v, refl, sym (ap (λ (m : Nest). m.place) same))
colon_taken k n o other e = cc

-- ---- the rule

segment_refused : (outside within : List (ℕ × Token)) (n : Nest) (at offset : ℕ) (token : Token) → take_all strict fresh (outside ++ within) ≡ Ok n
    → StartsAt offset (within ++ (at, token) ∷ []) → IsOfSegment (tokens_of outside) (tokens_of within) token → Leaves (λ rules. take rules n at token)
    → take strict n at token ≡ Err (offset, BadToken)
segment_refused outside [] n at offset (number z) e starts seg s =
    value_leaves n at z (wants_segment n)
    (λ start v f. let c = colon_last strict (outside ++ []) n start v e f in
    seg (tokens_of c.0 ++ number v ∷ []) (sym (ap tokens_of (append-nil outside)) ∙ ap tokens_of c.2
    ∙ tokens_of-append c.0 ((start, number v) ∷ (c.1, mark Colon) ∷ []) ∙ sym (append_assoc (tokens_of c.0) (number v ∷ []) (mark Colon ∷ [])))) s
    ∙ ap (λ k. Err (k, BadToken)) starts
segment_refused outside [] n at offset (string cs) e starts seg s = string_leaves n at cs (wants_segment n) s ∙ ap (λ k. Err (k, BadToken)) starts
segment_refused outside ((o, number v) ∷ []) n at offset (mark Colon) e starts seg s =
    let c = colon_leaves n at n.place s in
    c.3 ∙ ap (λ j. Err (j, BadToken)) (value_starts outside n o c.0 v c.1 e c.2 ∙ starts)
segment_refused outside ((o, number v) ∷ (p, mark Colon) ∷ []) n at offset (number z) e starts seg s =
    let k = last_taken strict (outside ++ (o, number v) ∷ []) (p, mark Colon) n
    (ap (take_all strict fresh) (append_assoc outside ((o, number v) ∷ []) ((p, mark Colon) ∷ [])) ∙ e) in
    let c = colon_taken k.0 n p k.0.place k.2 in
    size_leaves n at c.0 c.1 z c.3 s
    ∙ ap (λ i. Err (i, BadToken)) (value_starts outside k.0 o c.0 v c.1 k.1 c.2 ∙ starts)
segment_refused outside within n at offset token e starts seg s = absurd seg

segment_may_read : (before inside : List Token) (token : Token) (n m : Nest) (at : ℕ) → IsOfSegment before inside token → take (formal 256) n at token ≡ Ok m
    → MayRead n at token
segment_may_read before [] (number z) n m at seg e = formal_may_read n m at (number z) refl e
segment_may_read before [] (string cs) n m at seg e = formal_may_read n m at (string cs) refl e
segment_may_read before (number v ∷ []) (mark Colon) n m at seg e = tt
segment_may_read before (number v ∷ mark Colon ∷ []) (number z) n m at seg e = formal_may_read n m at (number z) refl e
segment_may_read before inside token n m at seg e = absurd seg

pub range_read : (bytes : List ℕ) (offset : ℕ) → LeavesRange bytes offset → outcome fresh_state 0 bytes ≡ faulty offset BadToken
range_read bytes offset b =
    let l = b.last in
    let r = last_read bytes offset b.before b.inside b.token l in
    let ps = r.outside ++ r.within in
    let all : tokens_of ps ≡ b.before ++ b.inside = tokens_same r.outside r.within b.before b.inside r.outside_same r.within_same in
    let formal_one = more_taken (formal 256) ps r.nest l.at b.token (formal_taken ps r.nest r.taken)
    (subst (λ k. MayBegin (formal 256) (k ++ b.token ∷ [])) (sym all) b.in_form) in
    let refused = segment_refused r.outside r.within r.nest l.at offset b.token r.taken r.starts
    (subst (λ k. IsOfSegment k (tokens_of r.within) b.token) (sym r.outside_same)
    (subst (λ k. IsOfSegment b.before k b.token) (sym r.within_same) b.segment)) (
      formal_one,
      λ p. b.refused (subst (λ k. MayBegin with_repeats (k ++ b.token ∷ [])) all
          (more_begins with_repeats refl (omega arith) ps r.nest p.0 l.at b.token (repeating_taken ps r.nest r.taken) p.1)),
    ) in
    last_outcome bytes offset b.before b.inside b.token l r (offset, BadToken)
    (segment_may_read b.before b.inside b.token r.nest formal_one.0 l.at b.segment formal_one.1) refused
