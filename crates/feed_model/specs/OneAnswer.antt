-- Lemmas: a feed has one answer, and a stream gives one list of terms.
use Rattle.std.proofs.Common.{◌≡◌, ◌≢◌, ℕ, zero, suc, ◌+◌, ◌≤◌, ◌<◌, Bool, List, [], ◌∷◌, length, drop, Option, Some, None, Result, Ok, Err}
use Rattle.std.proofs.Common.{refl, ap, ap₂, sym, ◌∙◌, subst, inl, inr, arith}
use Rattle.std.proofs.lemmas.List.{length-drop}
use Rattle.dets_term.specs.TermValue.{TermValue}
use Rattle.feed_model.specs.declared.fed.Fed.{Fed}
use Rattle.feed_model.specs.declared.fed.Fed.TheVariants.{Term, Again, End}
use Rattle.feed_model.specs.Meaning.{Behind, goes_on, ends, breaks, InFront, a_term, no_term, Meaning}
use Rattle.feed_model.specs.Feed.{Feed, passed, failed, Holds, Gives, gives_behind, IsNext}
use Rattle.feed_model.specs.Stream.{IsStream}
use Rattle.feed_model.specs.Steady.{Steady}

-- ---- a feed

-- an answer and the state behind it
abbrev Told : Type 0 → Type 0
Told F = Result Fed F × Feed F

abbrev told : {F : Type 0} → Feed F → InFront F → Told F
told s (a_term t count) = (Ok (Term t), passed s count)
told s (no_term goes_on) = (Ok Again, s)
told s (no_term ends) = (Ok End, s)
told s (no_term (breaks fault)) = (Err fault, failed s fault)

-- what stands in front tells the answer
record Telling {F : Type 0} (m : Meaning F) (s new : Feed F) (r : Result Fed F) : Type 0 where
  front : InFront F
  holds : Holds m s front
  answer : (told s front).0 ≡ r
  behind : (told s front).1 ≡ new

telling : {F : Type 0} (m : Meaning F) (s new : Feed F) (r : Result Fed F) → Gives m s new r → r ≢ Err m.memory → Telling m s new r
telling m s new (Ok (Term t)) (count, is, e) some = record { front = a_term t count; holds = is; answer = refl; behind = sym e }
telling m s new (Ok Again) (is, e) some = record { front = no_term goes_on; holds = is; answer = refl; behind = sym e }
telling m s new (Ok End) (is, e) some = record { front = no_term ends; holds = is; answer = refl; behind = sym e }
telling m s new (Err fault) (inl (is, e)) some = record { front = no_term (breaks fault); holds = is; answer = refl; behind = sym e }
telling m s new (Err fault) (inr (none, e)) some = absurd (some (ap (λ f. Err f) none))

answer_behind : {F : Type 0} (m : Meaning F) → Steady m → (came : Option F) (s a b : Feed F) (r q : Result Fed F) → gives_behind came m s a r
    → gives_behind came m s b q → r ≢ Err m.memory → q ≢ Err m.memory → (r ≡ q) × (a ≡ b)
answer_behind m steady None s a b r q h k some other =
    let x = telling m s a r h some in
    let y = telling m s b q k other in
    let same = steady.one s.finished s.offset s.left x.front y.front x.holds y.holds in
    (sym x.answer ∙ ap (λ f. (told s f).0) same ∙ y.answer, sym x.behind ∙ ap (λ f. (told s f).1) same ∙ y.behind)
answer_behind m steady (Some fault) s a b r q h k some other = (h.0 ∙ sym k.0, h.1 ∙ sym k.1)

pub one_answer : {F : Type 0} (m : Meaning F) → Steady m → (s a b : Feed F) (r q : Result Fed F) → IsNext m s a r → IsNext m s b q
    → r ≢ Err m.memory → q ≢ Err m.memory → (r ≡ q) × (a ≡ b)
one_answer m steady s a b r q h k some other = answer_behind m steady s.fault s a b r q h k some other

-- ---- a stream

-- where a term stands in front, no other does
pub one_term : {F : Type 0} (m : Meaning F) → Steady m → (finished : Bool) (start : ℕ) (bytes : List ℕ) (t u : TermValue) (count other : ℕ)
    → m.Stands finished start bytes (a_term t count) → m.Stands finished start bytes (a_term u other) → (t ≡ u) × (other ≡ count)
one_term m steady finished start bytes t u count other h k =
    let same = steady.one finished start bytes (a_term t count) (a_term u other) h k in
    (cc, cc)

pub no_other : {F : Type 0} (m : Meaning F) → Steady m → (finished : Bool) (start : ℕ) (bytes : List ℕ) (behind : Behind F) (t : TermValue) (count : ℕ)
    → m.Stands finished start bytes (no_term behind) → m.Stands finished start bytes (a_term t count) → ⊥
no_other m steady finished start bytes behind t count h k =
    let same = steady.one finished start bytes (no_term behind) (a_term t count) h k in
    cc

pub one_list : {F : Type 0} (m : Meaning F) → Steady m → (finished : Bool) (start : ℕ) (bytes : List ℕ) (ts us : List TermValue) (x y : Behind F)
    → IsStream m finished start bytes ts x → IsStream m finished start bytes us y → (ts ≡ us) × (x ≡ y)
one_list m steady finished start bytes [] [] x y h k =
    let same = steady.one finished start bytes (no_term x) (no_term y) h k in
    (refl, cc)
one_list m steady finished start bytes [] (u ∷ us) x y h (count, front, k) = absurd (no_other m steady finished start bytes x u count h front)
one_list m steady finished start bytes (t ∷ ts) [] x y (count, front, h) k = absurd (no_other m steady finished start bytes y t count k front)
one_list m steady finished start bytes (t ∷ ts) (u ∷ us) x y (count, f, h) (other, g, k) =
    let same = one_term m steady finished start bytes t u count other f g in
    let moved = subst (λ n. IsStream m finished (start + n) (drop n bytes) us y) same.1 k in
    let rest = one_list m steady finished (start + count) (drop count bytes) ts us x y h moved in
    (ap₂ (λ v vs. v ∷ vs) same.0 rest.0, rest.1)

-- ---- each stream gives something

-- terms and what stands behind them
abbrev pub Streams : {F : Type 0} → Meaning F → Bool → ℕ → List ℕ → Type 0
Streams {F} m finished start bytes = (ts : List TermValue) × (behind : Behind F) × IsStream m finished start bytes ts behind

begun_with : {F : Type 0} (m : Meaning F) → Steady m → (finished : Bool) (start : ℕ) (bytes : List ℕ)
    → ((count : ℕ) → 0 < count → count ≤ length bytes → Streams m finished (start + count) (drop count bytes))
    → (x : InFront F) → m.Stands finished start bytes x → Streams m finished start bytes
begun_with m steady finished start bytes behind (no_term x) is = ([], x, is)
begun_with m steady finished start bytes behind (a_term t count) is =
    let some = steady.within finished start bytes t count is in
    let rest = behind count some.0 some.1 in
    (t ∷ rest.0, rest.1, (count, is, rest.2))

-- by the number of bytes
streams : {F : Type 0} (m : Meaning F) → Steady m → (finished : Bool) (most start : ℕ) (bytes : List ℕ) → length bytes ≤ most
    → Streams m finished start bytes
streams m steady finished zero start bytes h =
    let x = steady.some finished start bytes in
    begun_with m steady finished start bytes (λ count some within. absurd (omega (arith, h, some, within))) x.0 x.1
streams m steady finished (suc most) start bytes h =
    let x = steady.some finished start bytes in
    begun_with m steady finished start bytes
    (λ count some within.
    streams m steady finished most (start + count) (drop count bytes) (omega (arith, h, some, within, length-drop count bytes))) x.0 x.1

pub a_stream : {F : Type 0} (m : Meaning F) → Steady m → (finished : Bool) (start : ℕ) (bytes : List ℕ) → Streams m finished start bytes
a_stream m steady finished start bytes = streams m steady finished (length bytes) start bytes (omega arith)
