-- Where keys may be repeated, the machine takes each token as it else does, but for the last one of a repeated key.
use Rattle.std.proofs.Common.{◌≡◌, ℕ, ℤ, Bool, true, false, cond, Option, Some, None, Ok, Err, List, [], ◌∷◌, ◌⊎◌, inl, inr, refl, ap}
use Rattle.dets_term.specs.TermValue.{TermValue, integer, atom}
use Rattle.etf_model.specs.Layout.{integers}
use Rattle.text_model.specs.declared.fault.TextWhy.{TextWhy}
use Rattle.text_model.specs.declared.fault.TextWhy.TheVariants.{RepeatedKey}
use Rattle.text_model.specs.declared.mark.Mark.{Mark}
use Rattle.text_model.specs.declared.mark.Mark.TheVariants.{CloseBrace, CloseList, CloseBits, Colon}
use Rattle.text_model.specs.Token.{Token, mark, number, plain, quoted, string}
use Rattle.text_model.specs.Grammar.{strict}
use Rattle.text_model.specs.Nest.{Frame, Begun, Place, after, value, colon, Nest, Taken, wants_segment, refusal, repeats_in, completed, leaf, closed}
use Rattle.text_model.specs.Nest.{close, take_segment, take_bytes, number_at, string_refusal, last_part, brace_term, list_term, bits_term, take_colon}
use Rattle.text_model.specs.Nest.{take_mark, take}
use Rattle.text_model.specs.Faults.{with_repeats}

-- the same, or a whole part that is refused for its key
abbrev pub Differs : Taken → Taken → Type 0
Differs with_them without =
    (with_them ≡ without)
    ⊎ ((bs : List Begun) × (start : ℕ) × (t : TermValue) × (with_them ≡ Ok (record { begun = bs; place = after start t }))
    × (without ≡ Err (start, RepeatedKey)))

completed_differs : (bs : List Begun) (start : ℕ) (t : TermValue) → Differs (completed with_repeats bs start t) (completed strict bs start t)
completed_differs bs start t = by_test (repeats_in bs t)
  where
    by_test : (b : Bool) → Differs (Ok (record { begun = bs; place = after start t }))
        (cond b (Err (start, RepeatedKey)) (Ok (record { begun = bs; place = after start t })))
    by_test true = inr (bs, start, t, refl, refl)
    by_test false = inl refl

leaf_differs : (n : Nest) (at : ℕ) (t : TermValue) (o : Option TextWhy) → Differs (leaf with_repeats n at t o) (leaf strict n at t o)
leaf_differs n at t None = completed_differs n.begun at t
leaf_differs n at t (Some why) = inl refl

close_differs : (term : Frame → Place → Option TermValue) (n : Nest) (at : ℕ) (bs : List Begun)
    → Differs (close with_repeats term n at bs) (close strict term n at bs)
close_differs term n at [] = inl refl
close_differs term n at (b ∷ bs) = by_term (term b.frame n.place)
  where
    by_term : (o : Option TermValue) → Differs (closed with_repeats bs b.start o at) (closed strict bs b.start o at)
    by_term (Some t) = completed_differs bs b.start t
    by_term None = inl refl

number_differs : (n : Nest) (at : ℕ) (z : ℤ) (place : Place) → Differs (number_at with_repeats n at z place) (number_at strict n at z place)
number_differs n at z (colon start v) = inl refl
number_differs n at z other = leaf_differs n at (integer z) (refusal strict n)

string_refused_alike : (n : Nest) (cs : List ℕ) → string_refusal with_repeats n cs ≡ string_refusal strict n cs
string_refused_alike n [] = refl
string_refused_alike n (c ∷ cs) = refl

string_differs : (n : Nest) (at : ℕ) (cs : List ℕ) (o p : Option TextWhy) → o ≡ p
    → Differs (leaf with_repeats n at (integers cs) o) (leaf strict n at (integers cs) p)
string_differs n at cs None None e = completed_differs n.begun at (integers cs)
string_differs n at cs (Some why) (Some other) e = inl (let same : why ≡ other = cc in ap (λ w. Err (at, w)) same)
string_differs n at cs o p e = cc

at_segment_differs : (b : Bool) (o p q : Taken) → Differs p q → Differs (cond b o p) (cond b o q)
at_segment_differs true o p q d = inl refl
at_segment_differs false o p q d = d

colon_differs : (n : Nest) (at : ℕ) (place : Place) → take_colon with_repeats n at place ≡ take_colon strict n at place
colon_differs n at (value start v) = refl
colon_differs n at other = refl

mark_differs : (n : Nest) (at : ℕ) (m : Mark) → Differs (take_mark with_repeats n at m) (take_mark strict n at m)
mark_differs n at CloseBrace = close_differs (λ frame place. brace_term frame (last_part place)) n at n.begun
mark_differs n at CloseList = close_differs (λ frame place. list_term frame (last_part place)) n at n.begun
mark_differs n at CloseBits = close_differs bits_term n at n.begun
mark_differs n at Colon = inl (colon_differs n at n.place)
mark_differs n at other = inl refl

pub differs : (n : Nest) (at : ℕ) (token : Token) → Differs (take with_repeats n at token) (take strict n at token)
differs n at (mark m) = mark_differs n at m
differs n at (number z) = at_segment_differs (wants_segment n) (take_segment strict n at z) _ _ (number_differs n at z n.place)
differs n at (plain cs) = leaf_differs n at (atom cs) (refusal strict n)
differs n at (quoted cs) = leaf_differs n at (atom cs) (refusal strict n)
differs n at (string cs) =
    at_segment_differs (wants_segment n) (take_bytes strict n at cs) _ _
    (string_differs n at cs (string_refusal with_repeats n cs) (string_refusal strict n cs) (string_refused_alike n cs))
