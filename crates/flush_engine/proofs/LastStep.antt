-- The last of some steps, and what is left of them without it.
use Rattle.std.proofs.Common.{◌≡◌, ◌≤◌, ◌<◌, ◌+◌, ℕ, List, [], ◌∷◌, ◌++◌, length, take, drop, get_or, slice_get, Some, ◌∙◌, ap, sym, refl, arith, append_assoc, length-take}
use Rattle.std.proofs.lemmas.List.{length-append, take-append-drop, take-append-le, get_or-take, get_or_push}
use Rattle.std.proofs.lemmas.Option.{slice_get-get_or}
use Rattle.std.proofs.Math.Seq.{take-append_seam, get_or-append_seam}
use Rattle.write_cache.specs.Waiting.{Waiting, state_of}
use Rattle.buddy_space.specs.SpaceState.{SpaceState}
use Rattle.book_model.specs.declared.change.Change.{Change}
use Rattle.flush_engine.specs.Placing.{in_segments, WasPlaced}
use Rattle.flush_engine.specs.Steps.{Step, changes_of, units_of, Lead, IsLed}

same-length : (steps : List Step) → length (changes_of steps) ≡ length (units_of steps)
same-length [] = refl
same-length (step ∷ steps) =
    omega (
      arith,
      same-length steps,
      length-append (changes_of steps) (step.change ∷ []),
      length-append (units_of steps) (step.unit ∷ []),
    )

-- ---- the last of the first units

last-length : (us units : List ℕ) (u k : ℕ) → us ++ u ∷ [] ≡ take (k + 1) units → k < length units → length us ≡ k
last-length us units u k is less = omega (arith, ap length is, length-append us (u ∷ []), length-take (k + 1) units, less)

take-fewer : (units : List ℕ) (k : ℕ) → k < length units → take k units ≡ take k (take (k + 1) units)
take-fewer units k less =
    ap (take k) (sym (take-append-drop (k + 1) units))
    ∙ take-append-le k (take (k + 1) units) (drop (k + 1) units) (omega (arith, length-take (k + 1) units, less))

last-front : (us units : List ℕ) (u k : ℕ) → us ++ u ∷ [] ≡ take (k + 1) units → k < length units → us ≡ take k units
last-front us units u k is less =
    sym (take-append_seam us (u ∷ [])) ∙ ap (λ n. take n (us ++ u ∷ [])) (last-length us units u k is less) ∙ ap (take k) is
    ∙ sym (take-fewer units k less)

last-unit : (us units : List ℕ) (u k : ℕ) → us ++ u ∷ [] ≡ take (k + 1) units → k < length units → get_or units k 0 ≡ u
last-unit us units u k is less =
    sym (get_or-take (k + 1) units k 0 (omega arith)) ∙ ap (λ l. get_or l k 0) (sym is)
    ∙ get_or_push us u 0 k (last-length us units u k is less)

-- ---- the change at the end of others

at-end : (cs rest changes : List Change) (c : Change) (k : ℕ) → (cs ++ c ∷ []) ++ rest ≡ changes → length cs ≡ k → slice_get changes k ≡ Some c
at-end cs rest changes c k is long =
    let all : cs ++ c ∷ rest ≡ changes = sym (append_assoc cs (c ∷ []) rest) ∙ is in
    let less : length cs < length (cs ++ c ∷ rest) = omega (arith, length-append cs (c ∷ rest)) in
    ap (λ l. slice_get l k) (sym all) ∙ ap (slice_get (cs ++ c ∷ rest)) (sym long)
    ∙ slice_get-get_or (cs ++ c ∷ rest) (length cs) c less ∙ ap Some (get_or-append_seam cs c rest c)

-- ---- the last step

pub record HasLast (most : ℕ) (w : Waiting) (changes : List Change) (units : List ℕ) (k : ℕ) (first since : SpaceState) : Type 0 where
  pub step : Step
  pub change : slice_get changes k ≡ Some step.change
  pub unit : get_or units k 0 ≡ step.unit
  pub was : WasPlaced (state_of w step.change.key) step.change.next step.unit step.before since
  pub then_led : (new : SpaceState) → new ≡ in_segments since.segments step.before → IsLed most w changes (take k units) first new

no-step : (units : List ℕ) (k : ℕ) → [] ≡ take (k + 1) units → k < length units → ⊥
no-step units k is less = absurd (omega (arith, ap length is, length-take (k + 1) units, less))

last-of : (most : ℕ) (w : Waiting) (changes : List Change) (units : List ℕ) (k : ℕ) (first since then_was : SpaceState) (steps : List Step)
    (rest : List Change) → Lead most w steps first then_was → changes_of steps ++ rest ≡ changes → units_of steps ≡ take (k + 1) units
    → k < length units → (l : IsLed most w changes (take (k + 1) units) first since) → l.then_was ≡ then_was
    → HasLast most w changes units k first since
last-of most w changes units k first since then_was [] rest lead all are less l same = absurd (no-step units k are less)
last-of most w changes units k first since then_was (step ∷ steps) rest lead all are less l same =
    let here = lead.0 in
    let grown : then_was.segments ≤ since.segments = omega (arith, ap (λ (s : SpaceState). s.segments) same, l.grown) in
    record {
      step = step;
      change =
          at-end (changes_of steps) rest changes step.change k all
          (same-length steps ∙ last-length (units_of steps) units step.unit k are less);
      unit = last-unit (units_of steps) units step.unit k are less;
      was = record {
        parted = here.parted;
        block = here.block;
        exp = here.exp;
        most = most;
        at = record { space = then_was; unit = step.unit };
        placed_so = here.so;
        unit_is = refl;
        grown = grown;
        fits = l.fits;
        since = l.since_is ∙ ap (in_segments since.segments) same;
      };
      then_led = λ new is. record {
        steps = steps;
        then_was = step.before;
        lead = lead.1;
        rest = step.change ∷ rest;
        changes_are = sym (append_assoc (changes_of steps) (step.change ∷ []) rest) ∙ all;
        units_are = last-front (units_of steps) units step.unit k are less;
        grown = omega (arith, here.grows, grown, ap (λ (s : SpaceState). s.segments) is);
        fits = omega (arith, l.fits, ap (λ (s : SpaceState). s.segments) is);
        since_is = is ∙ ap (λ n. in_segments n step.before) (sym (ap (λ (s : SpaceState). s.segments) is));
      };
    }

pub has-last : (most : ℕ) (w : Waiting) (changes : List Change) (units : List ℕ) (k : ℕ) (first since : SpaceState) → k < length units
    → IsLed most w changes (take (k + 1) units) first since → HasLast most w changes units k first since
has-last most w changes units k first since less l =
    last-of most w changes units k first since l.then_was l.steps l.rest l.lead l.changes_are l.units_are less l refl

-- ---- no step is left

all-back : (most : ℕ) (w : Waiting) (first since then_was : SpaceState) (steps : List Step) → Lead most w steps first then_was → units_of steps ≡ []
    → since ≡ in_segments since.segments then_was → since ≡ in_segments since.segments first
all-back most w first since then_was [] lead none is = is ∙ ap (in_segments since.segments) lead
all-back most w first since then_was (step ∷ steps) lead none is =
    absurd (omega (arith, ap length none, length-append (units_of steps) (step.unit ∷ [])))

pub none-left : (most : ℕ) (w : Waiting) (changes : List Change) (first since : SpaceState) → IsLed most w changes [] first since
    → since ≡ in_segments since.segments first
none-left most w changes first since l = all-back most w first since l.then_was l.steps l.lead l.units_are l.since_is
