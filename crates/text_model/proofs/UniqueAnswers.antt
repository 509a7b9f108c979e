-- Over the same bytes no two answers hold.
use Rattle.std.proofs.Common.{◌≡◌, ℕ, ◌+◌, Bool, true, false, List, [], length, None, refl, ap, ◌∙◌, sym, subst, append-nil, arith}
use Rattle.text_model.specs.declared.fault.TextWhy.{TextWhy}
use Rattle.text_model.specs.declared.fault.TextWhy.TheVariants.{Unfinished, TooLong}
use Rattle.text_model.specs.Sentence.{longest}
use Rattle.text_model.specs.Faults.{Breaks, IsTooLong, IsBlankEnd, IsUnfinished, FaultOf}
use Rattle.text_model.specs.Script.{Rest, blank, may_go_on, fault, IsFault, IsRest, Answer, a_term, no_term, IsAnswer}
use Rattle.text_model.specs.Nest.{fresh}
use Rattle.text_model.specs.Reader.{Lexeme, between, is_blank, last_fault, none_there, faulty}
use Rattle.text_model.specs.Progress.{Progress, going as all_read, at_stop as stopped_at, failing as failed, no_progress, reach}
use Rattle.text_model.proofs.Outcomes.{breaks_outcome}
use Rattle.text_model.proofs.BlanksRead.{blank_outcome}
use Rattle.text_model.proofs.Limited.{if_gt}
use Rattle.text_model.proofs.GapWalks.{IsBlankWalk, blank_end_walk}
use Rattle.text_model.proofs.BlankFronts.{blank_at, walk_reach}
use Rattle.text_model.proofs.TooLong.{too_long_reach}
use Rattle.text_model.proofs.Reaches.{next_reach}

-- ---- blanks

-- all of some bytes were read, with no token begun and no fault at the end
pub record IsBlankRead (bytes : List ℕ) : Type 0 where
  pub progress : Progress
  pub same : reach no_progress bytes ≡ all_read progress
  pub none_begun : is_blank progress.state ≡ true
  pub no_fault : last_fault progress.state.nest progress.read progress.state.lexeme ≡ None

reach_blank : (l : Lexeme) (at : ℕ) → reach (blank_at l at) [] ≡ all_read (blank_at l at)
reach_blank l at = if_gt (at + longest) at _ _ (omega arith)

pub blank_read : (bytes : List ℕ) → IsBlankEnd bytes → IsBlankRead bytes
blank_read bytes b =
    let end : IsBlankWalk fresh bytes = blank_end_walk fresh bytes b in
    let at = 0 + length bytes in
    record {
      progress = blank_at end.lexeme at;
      same =
          ap (reach no_progress) (sym (append-nil bytes)) ∙ walk_reach between end.lexeme 0 bytes [] end.walks
          ∙ reach_blank end.lexeme at;
      none_begun = end.gap;
      no_fault = end.whole at;
    }

-- ---- faults

-- a fault by its kind
pub data Kind (bytes : List ℕ) (o : ℕ) (why : TextWhy) : Type 0 where
  long : why ≡ TooLong → IsTooLong bytes o → Kind bytes o why
  unfinished : why ≡ Unfinished → IsUnfinished bytes o → Kind bytes o why
  rule : Breaks bytes o why → ((u : ℕ) → IsTooLong bytes u → ⊥) → Kind bytes o why

pub kind_of : (bytes : List ℕ) (o : ℕ) (why : TextWhy) → FaultOf bytes o why → Kind bytes o why
kind_of bytes o Unfinished f = unfinished refl f
kind_of bytes o TooLong f = long refl f
kind_of bytes o other f = rule f.0 f.1

same_kind : (bytes : List ℕ) (o u : ℕ) (why other : TextWhy) → Kind bytes o why → Kind bytes u other → fault o why ≡ fault u other
same_kind bytes o u why other (long e l) (long f k) =
    let same : failed o TooLong ≡ failed u TooLong = sym (too_long_reach bytes o l) ∙ too_long_reach bytes u k in cc
same_kind bytes o u why other (long e l) (unfinished f k) = absurd (k.short o l)
same_kind bytes o u why other (long e l) (rule b short) = absurd (short o l)
same_kind bytes o u why other (unfinished e l) (long f k) = absurd (l.short u k)
same_kind bytes o u why other (unfinished e l) (unfinished f k) = let same : o ≡ u = l.end ∙ sym k.end in cc
same_kind bytes o u why other (unfinished e l) (rule b short) = absurd (l.no_rule u other b)
same_kind bytes o u why other (rule b short) (long f k) = absurd (short u k)
same_kind bytes o u why other (rule b short) (unfinished f k) = absurd (k.no_rule o why b)
same_kind bytes o u why other (rule b short) (rule c shorter) =
    let same : faulty o why ≡ faulty u other = sym (breaks_outcome bytes o why b) ∙ breaks_outcome bytes u other c in cc

same_fault : (bytes : List ℕ) (o u : ℕ) (why other : TextWhy) → FaultOf bytes o why → FaultOf bytes u other → fault o why ≡ fault u other
same_fault bytes o u why other f g = same_kind bytes o u why other (kind_of bytes o why f) (kind_of bytes u other g)

-- where the input goes on, a fault is also one of a finished input
now : (finished : Bool) (bytes : List ℕ) (o : ℕ) (why : TextWhy) → IsFault finished bytes o why → FaultOf bytes o why
now true bytes o why f = f
now false bytes o why f = subst (λ l. FaultOf l o why) (append-nil bytes) (f [])

not_blank : (bytes : List ℕ) (o : ℕ) (why : TextWhy) → IsBlankEnd bytes → Kind bytes o why → ⊥
not_blank bytes o why b (long e l) =
    let is = blank_read bytes b in let never : failed o TooLong ≡ all_read is.progress = sym (too_long_reach bytes o l) ∙ is.same in cc
not_blank bytes o why b (unfinished e u) = u.not_blank b
not_blank bytes o why b (rule r short) =
    let never : none_there ≡ faulty o why = sym (blank_outcome bytes b) ∙ breaks_outcome bytes o why r in cc

-- ---- answers

same_rest : (finished : Bool) (bytes : List ℕ) (r s : Rest) → IsRest finished bytes r → IsRest finished bytes s → r ≡ s
same_rest finished bytes blank blank a b = refl
same_rest finished bytes blank may_go_on a b = absurd (b.1 a)
same_rest finished bytes blank (fault o why) a b = absurd (not_blank bytes o why a (kind_of bytes o why (now finished bytes o why b)))
same_rest finished bytes may_go_on blank a b = absurd (a.1 b)
same_rest finished bytes may_go_on may_go_on a b = refl
same_rest finished bytes may_go_on (fault o why) a b = absurd (a.2 o why (subst (λ f. IsFault f bytes o why) a.0 b))
same_rest finished bytes (fault o why) blank a b = absurd (not_blank bytes o why b (kind_of bytes o why (now finished bytes o why a)))
same_rest finished bytes (fault o why) may_go_on a b = absurd (b.2 o why (subst (λ f. IsFault f bytes o why) b.0 a))
same_rest finished bytes (fault o why) (fault u other) a b =
    same_fault bytes o u why other (now finished bytes o why a) (now finished bytes u other b)

pub same_answer : (finished : Bool) (bytes : List ℕ) (a b : Answer) → IsAnswer finished bytes a → IsAnswer finished bytes b → a ≡ b
same_answer finished bytes (a_term t n) (a_term u m) a b =
    let first = next_reach finished bytes t n a in
    let second = next_reach finished bytes u m b in
    let same : stopped_at t n first.0 ≡ stopped_at u m second.0 = sym first.1 ∙ second.1 in cc
same_answer finished bytes (a_term t n) (no_term r) a b = absurd (b.0 t n a)
same_answer finished bytes (no_term r) (a_term t n) a b = absurd (a.0 t n b)
same_answer finished bytes (no_term r) (no_term s) a b = ap no_term (same_rest finished bytes r s a.1 b.1)
