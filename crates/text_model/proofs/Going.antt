-- No token but a full stop leads behind one, and none is taken there.
use Rattle.std.proofs.Common.{◌≡◌, ℕ, ℤ, not, List, [], ◌∷◌, Option, Some, None, Ok, refl, ap, ◌∙◌, sym, subst}
use Rattle.dets_term.specs.TermValue.{TermValue, integer, atom}
use Rattle.text_model.specs.declared.fault.TextWhy.{TextWhy}
use Rattle.text_model.specs.Token.{Token, number, plain, mark, string}
use Rattle.text_model.specs.Grammar.{strict, is_byte, is_sized, sized_bits}
use Rattle.text_model.specs.Nest.{Nest, Taken, Begun, Place, after, value, colon, sized, stopped, wants_segment, repeats_in, completed, leaf, refusal}
use Rattle.text_model.specs.Nest.{take_segment, take_size, number_at, take}
use Rattle.text_model.proofs.Comes.{IsGoing}
use Rattle.text_model.proofs.ComesTokens.{by_test}
use Rattle.text_model.proofs.ReachedNests.{IsReached, IsPlaced}
use Rattle.text_model.specs.declared.mark.Mark.TheVariants.{FullStop}

-- ---- what a number and a name lead to

abbrev pub AreGoing : Taken → Type 0
AreGoing t = (m : Nest) → t ≡ Ok m → IsGoing m

going_at : (n m : Nest) (place : Place) → n.place ≡ place → ((t : TermValue) → place ≡ stopped t → ⊥) → n ≡ m → IsGoing m
going_at n m place e not_stopped same t f = not_stopped t (sym e ∙ ap (λ (l : Nest). l.place) same ∙ f)

completed_going : (bs : List Begun) (start : ℕ) (t : TermValue) → AreGoing (completed strict bs start t)
completed_going bs start t =
    by_test AreGoing (repeats_in bs t) _ _ (λ _ m e. cc)
    (λ _ m e. going_at (record { begun = bs; place = after start t }) m (after start t) refl (λ u f. cc) (cc))

leaf_going : (n : Nest) (at : ℕ) (t : TermValue) (o : Option TextWhy) → AreGoing (leaf strict n at t o)
leaf_going n at t None = completed_going n.begun at t
leaf_going n at t (Some why) = λ m e. cc

segment_going : (n : Nest) (at : ℕ) (v : ℤ) → AreGoing (take_segment strict n at v)
segment_going n at v =
    by_test AreGoing (not (is_byte v)) _ _ (λ _ m e. cc)
    (λ _ m e. going_at (record n { place = value at v }) m (value at v) refl (λ u f. cc) (cc))

size_going : (n : Nest) (at : ℕ) (v size : ℤ) → AreGoing (take_size strict n at v size)
size_going n at v size =
    by_test AreGoing (not (is_sized v size)) _ _ (λ _ m e. cc)
    (λ _ m e. going_at (record n { place = sized (sized_bits v size) }) m (sized (sized_bits v size)) refl (λ u f. cc) (cc))

number_at_going : (n : Nest) (at : ℕ) (z : ℤ) (place : Place) → AreGoing (number_at strict n at z place)
number_at_going n at z (colon start v) = size_going n start v z
number_at_going n at z other = leaf_going n at (integer z) (refusal strict n)

pub number_going : (n : Nest) (at : ℕ) (z : ℤ) → AreGoing (take strict n at (number z))
number_going n at z =
    by_test AreGoing (wants_segment n) _ _ (λ _. segment_going n at z) (λ _. number_at_going n at z n.place)

pub plain_going : (n : Nest) (at : ℕ) (cs : List ℕ) → AreGoing (take strict n at (plain cs))
plain_going n at cs = leaf_going n at (atom cs) (refusal strict n)

-- ---- no token is taken behind a full stop

none_behind : (at : ℕ) (t : TermValue) (token : Token) (m : Nest) → take strict (record { begun = []; place = stopped t }) at token ≡ Ok m → ⊥
none_behind at t (mark FullStop) m e = cc
none_behind at t (string (c ∷ cs)) m e = cc
none_behind at t other m e = cc

pub taken_going : (n m : Nest) (at : ℕ) (token : Token) → IsReached strict n → take strict n at token ≡ Ok m → IsGoing n
taken_going n m at token r e t f =
    let none : n.begun ≡ [] = subst (IsPlaced strict n.begun) f r.placed in
    let same : n ≡ record { begun = []; place = stopped t } =
    ap (λ bs. record { begun = bs; place = n.place }) none ∙ ap (λ p. record { begun = []; place = p }) f in
    none_behind at t token m (ap (λ k. take strict k at token) (sym same) ∙ e)
