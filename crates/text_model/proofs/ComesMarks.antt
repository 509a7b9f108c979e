-- A whole mark: why one is refused, and what it leads to.
use Rattle.std.proofs.Common.{◌≡◌, ℕ, ℤ, pos, ◌⊎◌, not, List, [], ◌∷◌, Option, Some, None, Err, refl, ap, ◌∙◌, sym, subst, inl, inr}
use Rattle.dets_term.specs.TermValue.{TermValue}
use Rattle.text_model.specs.declared.fault.TextWhy.{TextWhy}
use Rattle.text_model.specs.declared.fault.TextWhy.TheVariants.{BadToken, Depth, RepeatedKey}
use Rattle.text_model.specs.declared.mark.Mark.{Mark}
use Rattle.text_model.specs.declared.mark.Mark.TheVariants.{OpenTuple, OpenMap, CloseBrace, OpenList, CloseList, OpenBits, CloseBits, Bar, Comma}
use Rattle.text_model.specs.declared.mark.Mark.TheVariants.{Arrow, Colon, FullStop}
use Rattle.text_model.specs.Token.{mark, a_mark, mark_bytes}
use Rattle.text_model.specs.Grammar.{strict, is_sized}
use Rattle.text_model.specs.Nest.{Nest, Taken, Frame, Begun, in_tuple, in_list, in_map, in_bits, Place, want, opened, after, value, colon, segment}
use Rattle.text_model.specs.Nest.{sized, stopped, stray, refusal, repeats_in, completed, open_term, closed, close, last_part, brace_term, list_term}
use Rattle.text_model.specs.Nest.{bits_term, changed_to, change, frame_after_bar, frame_after_comma, frame_after_arrow, take_colon, take_stop, take}
use Rattle.text_model.specs.Reader.{led_to, why_of}
use Rattle.text_model.proofs.Comes.{Before}
use Rattle.text_model.proofs.ComesRows.{Row, IsInPlace, Leads}
use Rattle.text_model.proofs.ComesTokens.{by_test}
use Rattle.text_model.proofs.FirstBytes.{mark_shows, mark_only}
use Rattle.text_model.proofs.TokenStarts.{mark_begins}
use Rattle.text_model.proofs.ComesLeads.{IsRefusal, NoColon, refusal_reason, stray_leads, deep_leads, token_refused, token_leads}

-- why a mark is refused: where it stands, or by what it would close or divide
abbrev Reason : Nest → ℕ → Mark → ℕ × TextWhy → Type 0
Reason n at m fault =
    (fault ≡ (at, BadToken)) ⊎ ((fault ≡ (at, Depth)) ⊎ IsInPlace n fault.1 (mark m))

abbrev Reasons : Nest → ℕ → Mark → Taken → Type 0
Reasons n at m t = (fault : ℕ × TextWhy) → t ≡ Err fault → Reason n at m fault

stray_reason : (n : Nest) (at : ℕ) (m : Mark) → Reasons n at m (stray at)
stray_reason n at m fault e = inl (cc)

completed_reason : (n : Nest) (at start : ℕ) (m : Mark) (bs : List Begun) (t : TermValue) → Reasons n at m (completed strict bs start t)
completed_reason n at start m bs t =
    by_test (Reasons n at m) (repeats_in bs t) _ _
    (λ _ fault e. let same : fault ≡ (start, RepeatedKey) = cc in inr (inr (inl (ap (λ (f : ℕ × TextWhy). f.1) same)))) (λ _ fault e. cc)

open_reason : (n : Nest) (at : ℕ) (m : Mark) (frame : Frame) (o : Option TextWhy) → IsRefusal o → Reasons n at m (open_term strict n at frame o)
open_reason n at m frame None r fault e = cc
open_reason n at m frame (Some why) r fault e = by_why (r why refl)
  where
    by_why : (why ≡ BadToken) ⊎ (why ≡ Depth) → Reason n at m fault
    by_why (inl f) = inl (cc)
    by_why (inr f) = inr (inl (cc))

closed_reason : (n : Nest) (at : ℕ) (m : Mark) (bs : List Begun) (start : ℕ) (o : Option TermValue) → Reasons n at m (closed strict bs start o at)
closed_reason n at m bs start (Some t) = completed_reason n at start m bs t
closed_reason n at m bs start None = stray_reason n at m

close_reason : (n : Nest) (at : ℕ) (m : Mark) (term : Frame → Place → Option TermValue) (bs : List Begun) → Reasons n at m (close strict term n at bs)
close_reason n at m term [] = stray_reason n at m
close_reason n at m term (b ∷ bs) = closed_reason n at m bs b.start (term b.frame n.place)

changed_reason : (n : Nest) (at : ℕ) (m : Mark) (b : Begun) (bs : List Begun) (o : Option Frame) → Reasons n at m (changed_to b bs o at)
changed_reason n at m b bs (Some frame) fault e = cc
changed_reason n at m b bs None fault e = inl (cc)

change_reason : (n : Nest) (at : ℕ) (m : Mark) (next : Frame → Place → Option Frame) (bs : List Begun) → Reasons n at m (change next n at bs)
change_reason n at m next [] = stray_reason n at m
change_reason n at m next (b ∷ bs) = changed_reason n at m b bs (next b.frame n.place)

colon_reason : (n : Nest) (at : ℕ) (place : Place) → n.place ≡ place → Reasons n at Colon (take_colon strict n at place)
colon_reason n at (value start v) e =
    by_test (Reasons n at Colon) (not (is_sized v (pos 7))) _ _ (λ _ fault f. inr (inr (inr (refl, start, v, e)))) (λ _ fault f. cc)
colon_reason n at other e = stray_reason n at Colon

stop_reason : (n : Nest) (at : ℕ) (bs : List Begun) (place : Place) → Reasons n at FullStop (take_stop at bs place)
stop_reason n at [] (after start t) fault e = cc
stop_reason n at [] want fault e = inl (cc)
stop_reason n at [] opened fault e = inl (cc)
stop_reason n at [] (value start v) fault e = inl (cc)
stop_reason n at [] (colon start v) fault e = inl (cc)
stop_reason n at [] segment fault e = inl (cc)
stop_reason n at [] (sized bs) fault e = inl (cc)
stop_reason n at [] (stopped t) fault e = inl (cc)
stop_reason n at (b ∷ bs) place fault e = inl (cc)

mark_reason : (n : Nest) (at : ℕ) (m : Mark) → Reasons n at m (take strict n at (mark m))
mark_reason n at OpenTuple = open_reason n at OpenTuple (in_tuple []) (refusal strict n) (refusal_reason n)
mark_reason n at OpenMap = open_reason n at OpenMap (in_map []) (refusal strict n) (refusal_reason n)
mark_reason n at OpenList = open_reason n at OpenList (in_list []) (refusal strict n) (refusal_reason n)
mark_reason n at OpenBits = open_reason n at OpenBits (in_bits []) (refusal strict n) (refusal_reason n)
mark_reason n at CloseBrace = close_reason n at CloseBrace (λ frame place. brace_term frame (last_part place)) n.begun
mark_reason n at CloseList = close_reason n at CloseList (λ frame place. list_term frame (last_part place)) n.begun
mark_reason n at CloseBits = close_reason n at CloseBits bits_term n.begun
mark_reason n at Bar = change_reason n at Bar frame_after_bar n.begun
mark_reason n at Comma = change_reason n at Comma frame_after_comma n.begun
mark_reason n at Arrow = change_reason n at Arrow frame_after_arrow n.begun
mark_reason n at Colon = colon_reason n at n.place refl
mark_reason n at FullStop = stop_reason n at n.begun n.place

-- the colon behind a segment's value
abbrev IsValueColon : Nest → Mark → Type 0
IsValueColon n m = (m ≡ Colon) × (at : ℕ) × (v : ℤ) × (n.place ≡ value at v)

place_colon : (n : Nest) (place : Place) → n.place ≡ place → IsValueColon n Colon ⊎ NoColon n (a_mark Colon)
place_colon n (value at v) e = inl (refl, at, v, e)
place_colon n (colon start v) e = inr (λ s w f same. cc)
place_colon n other e = inr (λ s v f same. cc)

value_colon : (n : Nest) (m : Mark) → IsValueColon n m ⊎ NoColon n (a_mark m)
value_colon n Colon = place_colon n n.place refl
value_colon n other = inr (λ s v f same. cc)

mark_refused : (p : List ℕ) (n : Nest) (at : ℕ) (m : Mark) (fault : ℕ × TextWhy) → Before p n at (mark_bytes m) → take strict n at (mark m) ≡ Err fault
    → Reason n at m fault → Row p fault.0 fault.1
mark_refused p n at m fault b e (inl f) = by_colon (value_colon n m)
  where
    by_colon : IsValueColon n m ⊎ NoColon n (a_mark m) → Row p fault.0 fault.1
    by_colon (inl place) = token_refused p n at (mark m) (mark_bytes m) [] fault b (λ more. (tt, refl)) (inr place) e
    by_colon (inr none) =
        subst (λ (g : ℕ × TextWhy). Row p g.0 g.1) (sym f)
        (stray_leads p n at (mark_bytes m) (a_mark m) b (mark_begins m) none (λ more other s. mark_only m other more s)
        (ap why_of (e ∙ ap (λ g. Err g) f)))
mark_refused p n at m fault b e (inr (inl f)) =
    subst (λ (g : ℕ × TextWhy). Row p g.0 g.1) (sym f)
    (deep_leads p n at (mark_bytes m) (a_mark m) b (λ more. mark_shows m more) (ap why_of (e ∙ ap (λ g. Err g) f)))
mark_refused p n at m fault b e (inr (inr place)) = token_refused p n at (mark m) (mark_bytes m) [] fault b (λ more. (tt, refl)) place e

-- a mark with its last byte
pub mark_leads : (p : List ℕ) (n : Nest) (at : ℕ) (m : Mark) → Before p n at (mark_bytes m) → Leads p (led_to (take strict n at (mark m)))
mark_leads p n at m b =
    token_leads p n at (mark m) (mark_bytes m) (take strict n at (mark m)) b (λ more. (tt, refl))
    (λ fault e. mark_refused p n at m fault b e (mark_reason n at m fault e)) refl
