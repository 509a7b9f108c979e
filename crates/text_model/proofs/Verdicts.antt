-- Where a token stands: it may stand there by its form, it would be one level too deep, or it may not stand there at all.
use Rattle.std.proofs.Common.{◌≡◌, ℕ, Bool, true, false, cond, not, ◌&&◌, ◌||◌, nat_lt, Option, Some, None, Ok, List, [], ◌∷◌, length, refl, ◌≤◌, pos}
use Rattle.std.proofs.Common.{ap, ◌∙◌, arith, Err, lt-ltb, subst, sym}
use Rattle.dets_term.specs.TermValue.{TermValue}
use Rattle.text_model.specs.declared.fault.TextWhy.{TextWhy}
use Rattle.text_model.specs.declared.fault.TextWhy.TheVariants.{BadToken, Depth}
use Rattle.text_model.specs.declared.mark.Mark.{Mark}
use Rattle.text_model.specs.declared.mark.Mark.TheVariants.{OpenTuple, OpenMap, CloseBrace, OpenList, CloseList, OpenBits, CloseBits, Bar, Comma}
use Rattle.text_model.specs.declared.mark.Mark.TheVariants.{Arrow, Colon, FullStop}
use Rattle.text_model.specs.Token.{Sort, mark, a_mark, a_number, a_plain, a_quoted, a_string}
use Rattle.text_model.specs.Grammar.{strict, formal, is_sized, Rules}
use Rattle.text_model.specs.Nest.{Frame, in_tuple, in_list, in_map, in_bits, Begun, Place, value, Nest, Taken, at_segment, wants, is_colon}
use Rattle.text_model.specs.Nest.{wants_segment, refusal, refusal_of, repeats_in, open_term, closed, close, last_part, brace_term, list_term}
use Rattle.text_model.specs.Nest.{bits_term, frame_after_comma, frame_after_bar, frame_after_arrow, change, take_colon, take_stop, take, after}
use Rattle.text_model.specs.Nest.{changed_to}
use Rattle.text_model.specs.Reader.{why_of}
use Rattle.text_model.proofs.Refused.{open_term_is}
use Rattle.text_model.proofs.Comes.{why_not}
use Rattle.text_model.proofs.ComesTokens.{by_test}
use Rattle.std.proofs.lemmas.Bool.{lt-ltb}
use Rattle.text_model.proofs.ComesLeads.{NoColon}
use Rattle.text_model.proofs.Passes.{Passes}

-- it is refused, and why
abbrev pub IsRefusedWith : TextWhy → Nest → ℕ → Sort → Type 0
IsRefusedWith why n at (a_mark m) = take strict n at (mark m) ≡ Err (at, why)
IsRefusedWith why n at other = refusal_of strict n other ≡ Some why

why_refused : (why : TextWhy) (n : Nest) (at : ℕ) (sort : Sort) → IsRefusedWith why n at sort → why_not n at sort ≡ Some why
why_refused why n at (a_mark m) r = ap why_of r
why_refused why n at a_number r = r
why_refused why n at a_plain r = r
why_refused why n at a_quoted r = r
why_refused why n at a_string r = r

-- It stands here, and the machine does not refuse it as stray or too deep, but for some that are not apart; it stands one level
-- deeper alone; or it does not stand.
data Verdict (Here Deeper Apart : Type 0) (why : Option TextWhy) (Refused : TextWhy → Type 0) : Type 0 where
  may : Here → Deeper → (why ≡ Some Depth → ⊥) → (Apart → why ≡ Some BadToken → ⊥) → Verdict Here Deeper Apart why Refused
  deep : Deeper → (Here → ⊥) → Refused Depth → Verdict Here Deeper Apart why Refused
  stray : (Deeper → ⊥) → Refused BadToken → Verdict Here Deeper Apart why Refused

-- ---- where a term may begin

-- by what is refused here and one level deeper
abbrev Judged : Type 0 → Option TextWhy → Option TextWhy → Type 0
Judged Apart here deeper = Verdict (here ≡ None) (deeper ≡ None) Apart here (λ why. here ≡ Some why)

abbrev tests : Bool → Bool → Option TextWhy
tests begins shallow = cond begins (cond shallow None (Some Depth)) (Some BadToken)

judged_tests : (Apart : Type 0) (begins shallow : Bool) → Judged Apart (tests begins shallow) (tests begins true)
judged_tests Apart true true = may refl refl (λ e. cc) (λ a e. cc)
judged_tests Apart true false = deep refl (λ e. cc) refl
judged_tests Apart false shallow = stray (λ e. cc) refl

judged : (Apart : Type 0) (n : Nest) → length n.begun ≤ 256 → Judged Apart (refusal strict n) (refusal (formal 257) n)
judged Apart n low =
    subst (λ b. Judged Apart (refusal strict n) (tests (wants n.place && not (at_segment n.begun)) b)) (sym (lt-ltb (length n.begun) 257 (omega arith)))
    (judged_tests Apart (wants n.place && not (at_segment n.begun)) (nat_lt (length n.begun) 256))

judged_or : (Apart : Type 0) (b : Bool) (here deeper : Option TextWhy) → Judged Apart here deeper → Judged Apart (cond b None here) (cond b None deeper)
judged_or Apart true here deeper j = may refl refl (λ e. cc) (λ a e. cc)
judged_or Apart false here deeper j = j

-- ---- marks

-- by what taking it comes to
abbrev Taking : Type 0 → ℕ → (Rules → Taken) → Type 0
Taking Apart at t =
    Verdict ((k : Nest) × (t (formal 256) ≡ Ok k)) ((k : Nest) × (t (formal 257) ≡ Ok k)) Apart (why_of (t strict)) (λ why. t strict ≡ Err (at, why))

open_verdict : (Apart : Type 0) (n : Nest) (at : ℕ) (frame : Frame) → length n.begun ≤ 256
    → Taking Apart at (λ rules. open_term rules n at frame (refusal rules n))
open_verdict Apart n at frame low = by (refusal strict n) (refusal (formal 257) n) (judged Apart n low)
  where
    by : (here deeper : Option TextWhy) → Judged Apart here deeper
        → Verdict ((k : Nest) × (open_term (formal 256) n at frame here ≡ Ok k)) ((k : Nest) × (open_term (formal 257) n at frame deeper ≡ Ok k)) Apart
        (why_of (open_term strict n at frame here)) (λ why. open_term strict n at frame here ≡ Err (at, why))
    by here deeper (may e f g h) =
        may (_, ap (open_term (formal 256) n at frame) e) (_, ap (open_term (formal 257) n at frame) f)
        (λ d. let k = sym (ap (λ o. why_of (open_term strict n at frame o)) e) ∙ d in cc)
        (λ a d. let k = sym (ap (λ o. why_of (open_term strict n at frame o)) e) ∙ d in cc)
    by here deeper (deep e f r) =
        deep (_, ap (open_term (formal 257) n at frame) e) (λ k. f (open_term_is (formal 256) n at frame here k.0 k.1).0) (ap (open_term strict n at frame) r)
    by here deeper (stray e r) = stray (λ k. e (open_term_is (formal 257) n at frame deeper k.0 k.1).0) (ap (open_term strict n at frame) r)

close_verdict : (Apart : Type 0) (term : Frame → Place → Option TermValue) (n : Nest) (at : ℕ) (bs : List Begun)
    → Taking Apart at (λ rules. close rules term n at bs)
close_verdict Apart term n at [] = stray (λ k. let e = k.1 in cc) refl
close_verdict Apart term n at (b ∷ bs) = by (term b.frame n.place)
  where
    by : (o : Option TermValue) → Taking Apart at (λ rules. closed rules bs b.start o at)
    by (Some t) =
        may (_, refl) (_, refl) (by_test (λ (k : Taken). why_of k ≡ Some Depth → ⊥) (repeats_in bs t) _ _ (λ _ e. cc) (λ _ e. cc))
        (λ a. by_test (λ (k : Taken). why_of k ≡ Some BadToken → ⊥) (repeats_in bs t) _ _ (λ _ e. cc) (λ _ e. cc))
    by None = stray (λ k. let e = k.1 in cc) refl

change_verdict : (Apart : Type 0) (next : Frame → Place → Option Frame) (n : Nest) (at : ℕ) (bs : List Begun) → Taking Apart at (λ rules. change next n at bs)
change_verdict Apart next n at [] = stray (λ k. let e = k.1 in cc) refl
change_verdict Apart next n at (b ∷ bs) = by (next b.frame n.place)
  where
    by : (o : Option Frame) → Taking Apart at (λ rules. changed_to b bs o at)
    by (Some frame) = may (_, refl) (_, refl) (λ e. cc) (λ a e. cc)
    by None = stray (λ k. let e = k.1 in cc) refl

colon_verdict : (n : Nest) (at : ℕ) (place : Place) → n.place ≡ place → Taking (NoColon n (a_mark Colon)) at (λ rules. take_colon rules n at place)
colon_verdict n at (value start v) same =
    may (_, refl) (_, refl) (by_test (λ (k : Taken). why_of k ≡ Some Depth → ⊥) (not (is_sized v (pos 7))) _ _ (λ _ e. cc) (λ _ e. cc))
    (λ a e. a start v same refl)
colon_verdict n at other same = stray (λ k. let e = k.1 in cc) refl

stop_verdict : (Apart : Type 0) (at : ℕ) (bs : List Begun) (place : Place) → Taking Apart at (λ rules. take_stop at bs place)
stop_verdict Apart at [] (after start t) = may (_, refl) (_, refl) (λ e. cc) (λ a e. cc)
stop_verdict Apart at bs other = stray (λ k. let e = k.1 in cc) refl

mark_verdict : (n : Nest) (at : ℕ) (m : Mark) → length n.begun ≤ 256 → Taking (NoColon n (a_mark m)) at (λ rules. take rules n at (mark m))
mark_verdict n at OpenTuple low = open_verdict _ n at (in_tuple []) low
mark_verdict n at OpenMap low = open_verdict _ n at (in_map []) low
mark_verdict n at OpenList low = open_verdict _ n at (in_list []) low
mark_verdict n at OpenBits low = open_verdict _ n at (in_bits []) low
mark_verdict n at CloseBrace low = close_verdict _ (λ frame place. brace_term frame (last_part place)) n at n.begun
mark_verdict n at CloseList low = close_verdict _ (λ frame place. list_term frame (last_part place)) n at n.begun
mark_verdict n at CloseBits low = close_verdict _ bits_term n at n.begun
mark_verdict n at Bar low = change_verdict _ frame_after_bar n at n.begun
mark_verdict n at Comma low = change_verdict _ frame_after_comma n at n.begun
mark_verdict n at Arrow low = change_verdict _ frame_after_arrow n at n.begun
mark_verdict n at Colon low = colon_verdict n at n.place refl
mark_verdict n at FullStop low = stop_verdict _ at n.begun n.place

-- ---- all sorts

abbrev VerdictOn : Nest → ℕ → Sort → Type 0
VerdictOn n at sort =
    Verdict (Passes (formal 256) n at sort) (Passes (formal 257) n at sort) (NoColon n sort) (why_not n at sort) (λ why. IsRefusedWith why n at sort)

verdict : (n : Nest) (at : ℕ) (sort : Sort) → length n.begun ≤ 256 → VerdictOn n at sort
verdict n at (a_mark m) low = mark_verdict n at m low
verdict n at a_number low = judged_or _ (wants_segment n || is_colon n.place) _ _ (judged _ n low)
verdict n at a_plain low = judged _ n low
verdict n at a_quoted low = judged _ n low
verdict n at a_string low = judged_or _ (wants_segment n) _ _ (judged _ n low)

-- what the machine refuses as stray may not stand one level deeper either
pub stray_passes : (n : Nest) (at : ℕ) (sort : Sort) → length n.begun ≤ 256 → NoColon n sort → why_not n at sort ≡ Some BadToken
    → Passes (formal 257) n at sort → ⊥
stray_passes n at sort low apart e = by (verdict n at sort low)
  where
    by : VerdictOn n at sort → Passes (formal 257) n at sort → ⊥
    by (may here deeper f g) p = g apart e
    by (deep deeper f r) p = let w = why_refused Depth n at sort r in cc
    by (stray f r) p = f p

-- and back
pub stray_refused : (n : Nest) (at : ℕ) (sort : Sort) → length n.begun ≤ 256 → (Passes (formal 257) n at sort → ⊥) → IsRefusedWith BadToken n at sort
stray_refused n at sort low none = by (verdict n at sort low)
  where
    by : VerdictOn n at sort → IsRefusedWith BadToken n at sort
    by (may here deeper f g) = absurd (none deeper)
    by (deep deeper f r) = absurd (none deeper)
    by (stray f r) = r

-- what it refuses for its depth may stand one level deeper alone
pub deep_passes : (n : Nest) (at : ℕ) (sort : Sort) → length n.begun ≤ 256 → why_not n at sort ≡ Some Depth
    → Passes (formal 257) n at sort × (Passes (formal 256) n at sort → ⊥)
deep_passes n at sort low e = by (verdict n at sort low)
  where
    by : VerdictOn n at sort → Passes (formal 257) n at sort × (Passes (formal 256) n at sort → ⊥)
    by (may here deeper f g) = absurd (f e)
    by (deep deeper f r) = (deeper, f)
    by (stray f r) = let w = why_refused BadToken n at sort r in cc

-- and back
pub deep_refused : (n : Nest) (at : ℕ) (sort : Sort) → length n.begun ≤ 256 → Passes (formal 257) n at sort → (Passes (formal 256) n at sort → ⊥)
    → IsRefusedWith Depth n at sort
deep_refused n at sort low p none = by (verdict n at sort low)
  where
    by : VerdictOn n at sort → IsRefusedWith Depth n at sort
    by (may here deeper f g) = absurd (none here)
    by (deep deeper f r) = r
    by (stray f r) = absurd (f p)
