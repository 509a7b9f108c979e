-- Bytes have one script, and it goes on behind its first term.
use Rattle.std.proofs.Common.{◌≡◌, ℕ, zero, suc, ◌≤◌, ◌<◌, Bool, false, List, [], ◌∷◌, ◌++◌, length, drop, refl, ap, ap₂, sym, ◌∙◌, subst, arith}
use Rattle.std.proofs.lemmas.List.{length-drop}
use Rattle.dets_term.specs.TermValue.{TermValue}
use Rattle.text_model.specs.declared.fault.TextWhy.{TextWhy}
use Rattle.text_model.specs.Script.{Rest, fault, Answer, a_term, no_term, IsAnswer, Placed, moved, IsScript}
use Rattle.text_model.specs.Progress.{no_progress, reach, answer_by, answer_of}
use Rattle.text_model.proofs.Answering.{answer_is, answer_only}
use Rattle.text_model.proofs.ReachMore.{reach_more, answer_term_on, answer_fault_on}
use Rattle.text_model.proofs.TermLengths.{term_some, term_within}
use Rattle.text_model.proofs.UniqueAnswers.{same_answer}

-- ---- one answer

pub same_term : (finished : Bool) (bytes : List ℕ) (t u : TermValue) (taken other : ℕ) → IsAnswer finished bytes (a_term t taken)
    → IsAnswer finished bytes (a_term u other) → (t ≡ u) × (taken ≡ other)
same_term finished bytes t u taken other is was =
    let same = same_answer finished bytes (a_term t taken) (a_term u other) is was in (cc, cc)

pub same_rest : (finished : Bool) (bytes : List ℕ) (rest other : Rest) → IsAnswer finished bytes (no_term rest)
    → IsAnswer finished bytes (no_term other) → rest ≡ other
same_rest finished bytes rest other is was =
    let same = same_answer finished bytes (no_term rest) (no_term other) is was in cc

-- ---- more bytes

-- a term in front stays whatever follows, and so does a fault
pub term_stays : (finished : Bool) (bytes more : List ℕ) (t : TermValue) (taken : ℕ) → IsAnswer false bytes (a_term t taken)
    → IsAnswer finished (bytes ++ more) (a_term t taken)
term_stays finished bytes more t taken is =
    let here : answer_of false bytes ≡ a_term t taken = sym (answer_only false bytes (a_term t taken) is) in
    subst (IsAnswer finished (bytes ++ more))
    (ap (answer_by finished) (sym (reach_more no_progress bytes more)) ∙ answer_term_on finished (reach no_progress bytes) more t taken here)
    (answer_is finished (bytes ++ more))

pub fault_stays : (finished : Bool) (bytes more : List ℕ) (at : ℕ) (why : TextWhy) → IsAnswer false bytes (no_term (fault at why))
    → IsAnswer finished (bytes ++ more) (no_term (fault at why))
fault_stays finished bytes more at why is =
    let here : answer_of false bytes ≡ no_term (fault at why) = sym (answer_only false bytes (no_term (fault at why)) is) in
    subst (IsAnswer finished (bytes ++ more))
    (ap (answer_by finished) (sym (reach_more no_progress bytes more)) ∙ answer_fault_on finished (reach no_progress bytes) more at why here)
    (answer_is finished (bytes ++ more))

-- ---- some script

abbrev Scripted : Bool → List ℕ → Type 0
Scripted finished bytes = (terms : List Placed) × (rest : Rest) × IsScript finished bytes terms rest

-- by what stands in front
by_answer : (finished : Bool) (bytes : List ℕ)
    → ((count : ℕ) → 0 < count → count ≤ length bytes → Scripted finished (drop count bytes))
    → (answer : Answer) → IsAnswer finished bytes answer → Scripted finished bytes
by_answer finished bytes behind (a_term t taken) is =
    let others = behind taken (term_some finished bytes t taken is) (term_within finished bytes t taken is) in
    (record { term = t; bytes = taken } ∷ others.0, moved taken others.1, (is, (others.1, refl, others.2)))
by_answer finished bytes behind (no_term rest) is = ([], rest, is)

-- by the number of bytes
scripts : (most : ℕ) (finished : Bool) (bytes : List ℕ) → length bytes ≤ most → Scripted finished bytes
scripts zero finished bytes h =
    by_answer finished bytes (λ count some within. absurd (omega (arith, h, some, within))) (answer_of finished bytes) (answer_is finished bytes)
scripts (suc most) finished bytes h =
    by_answer finished bytes
    (λ count some within. scripts most finished (drop count bytes) (omega (arith, h, some, within, length-drop count bytes)))
    (answer_of finished bytes) (answer_is finished bytes)

pub script_exists : (finished : Bool) (bytes : List ℕ) → (terms : List Placed) × (rest : Rest) × IsScript finished bytes terms rest
script_exists finished bytes = scripts (length bytes) finished bytes (omega arith)

-- ---- one script

same_placed : (first second : Placed) → first.term ≡ second.term → first.bytes ≡ second.bytes → first ≡ second
same_placed first second t n = ap₂ {A = TermValue} (λ u m. record { term = u; bytes = m }) t n

pub one_script : (finished : Bool) (bytes : List ℕ) (terms others : List Placed) (rest other : Rest) → IsScript finished bytes terms rest
    → IsScript finished bytes others other → (terms ≡ others) × (rest ≡ other)
one_script finished bytes [] [] rest other is was = (refl, same_rest finished bytes rest other is was)
one_script finished bytes [] (second ∷ others) rest other is was = absurd (is.0 second.term second.bytes was.0)
one_script finished bytes (first ∷ terms) [] rest other is was = absurd (was.0 first.term first.bytes is.0)
one_script finished bytes (first ∷ terms) (second ∷ others) rest other (here, (behind, e, is)) (there, (back, f, was)) =
    let same = same_term finished bytes first.term second.term first.bytes second.bytes here there in
    let was_there = subst (λ n. IsScript finished (drop n bytes) others back) (sym same.1) was in
    let more = one_script finished (drop first.bytes bytes) terms others behind back is was_there in
    (ap₂ (λ t ts. t ∷ ts) (same_placed first second same.0 same.1) more.0, e ∙ ap₂ moved same.1 more.1 ∙ sym f)

-- without its first term a script has the other terms, and the same rest with its offset moved
pub script_behind : (finished : Bool) (bytes : List ℕ) (t : TermValue) (taken : ℕ) (terms : List Placed) (rest : Rest)
    → IsAnswer finished bytes (a_term t taken) → IsScript finished bytes terms rest
    → (others : List Placed) × (behind : Rest) × (terms ≡ record { term = t; bytes = taken } ∷ others) × (rest ≡ moved taken behind)
    × IsScript finished (drop taken bytes) others behind
script_behind finished bytes t taken [] rest first is = absurd (is.0 t taken first)
script_behind finished bytes t taken (second ∷ others) rest first (here, (behind, e, is)) =
    let same = same_term finished bytes t second.term taken second.bytes first here in
    let front = same_placed second (record { term = t; bytes = taken }) (sym same.0) (sym same.1) in (
      others,
      behind,
      ap (λ p. p ∷ others) front,
      e ∙ ap (λ n. moved n behind) (sym same.1),
      subst (λ n. IsScript finished (drop n bytes) others behind) (sym same.1) is,
    )
