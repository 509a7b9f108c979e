use Rattle.std.proofs.Common.{◌≡◌, ℕ, List, slice_get, get_or, Option, Some, None, ◌∙◌, ap, sym, subst, refl}
use Rattle.std.specs.Option.{option_copied}
use Rattle.file_model.specs.declared.block.Packed.{Packed}
use Rattle.write_cache.specs.declared.pending.Pending.{Pending}
use Rattle.write_cache.specs.Waiting.{Waiting, state_of}
use Rattle.buddy_space.specs.SpaceState.{SpaceState}
use Rattle.book_model.specs.declared.change.Change.{Change}
use Rattle.flush_engine.specs.Placing.{WasPlaced}
use Rattle.flush_engine.proofs.LastStep.{HasLast, has-last}
use Rattle.flush_engine.proofs.all.take_one_back.Goals as goal

was-as : (earlier as_earlier : Option Pending) (next as_next : Option Packed) (unit as_unit : ℕ) (s now : SpaceState) → as_earlier ≡ earlier → as_next ≡ next
    → as_unit ≡ unit → WasPlaced earlier next unit s now → WasPlaced as_earlier as_next as_unit s now
was-as earlier as_earlier next as_next unit as_unit s now e n u w =
    subst (λ x. WasPlaced x as_next as_unit s now) (sym e)
    (subst (λ x. WasPlaced earlier x as_unit s now) (sym n) (subst (λ x. WasPlaced earlier next x s now) (sym u) w))

abbrev some_change : Change → Option Change
some_change c = Some c

abbrev no_change : Option Change
no_change = None

not-there : (c : Change) → no_change ≡ some_change c → ⊥
not-there c is = cc

one-change : (c d : Change) → some_change c ≡ some_change d → c ≡ d
one-change c d is = cc

-- the last step, by what was looked up
was-last : (most : ℕ) (w : Waiting) (changes : List Change) (units : List ℕ) (k : ℕ) (first since : SpaceState) (h : HasLast most w changes units k first since)
    (change : Change) (earlier : Option Pending) (next : Option Packed) (unit : ℕ) → slice_get changes k ≡ some_change change
    → earlier ≡ state_of w change.key → next ≡ change.next → unit ≡ get_or units k 0 → WasPlaced earlier next unit h.step.before since
was-last most w changes units k first since h change earlier next unit found e n u =
    let same : change ≡ h.step.change = one-change change h.step.change (sym found ∙ h.change) in
    was-as (state_of w h.step.change.key) earlier h.step.change.next next h.step.unit unit h.step.before since
    (e ∙ ap (λ (x : Change). state_of w x.key) same) (n ∙ ap (λ (x : Change). x.next) same) (u ∙ h.unit) h.was

pub take_back-requires : goal.take_back-requires
take_back-requires c =
    let l = c.requires.led in
    let h = has-last l.0 c.args.cache.now c.args.changes.now c.args.units.now c.args.place l.1 c.args.space.now c.requires.place l.2 in (
      h.step.before,
      was-last l.0 c.args.cache.now c.args.changes.now c.args.units.now c.args.place l.1 c.args.space.now h c.in-Some.change.now
          (option_copied c.get-earlier.result) (option_copied c.as_ref.result) (get_or c.args.units.now c.args.place 0)
          (sym c.get.ensures ∙ ap option_copied c.in-Some.is) (c.get-earlier.ensures ∙ ap (state_of c.args.cache.now) c.as_slice.ensures)
          c.as_ref.ensures.value refl,
    )

pub returns-in-Some-clause-segments : goal.returns-in-Some-clause-segments
returns-in-Some-clause-segments c =
    let l = c.requires.led in
    let h = has-last l.0 c.args.cache.now c.args.changes.now c.args.units.now c.args.place l.1 c.args.space.now c.requires.place l.2 in
    let back = c.take_back.ensures h.step.before
    (was-last l.0 c.args.cache.now c.args.changes.now c.args.units.now c.args.place l.1 c.args.space.now h c.in-Some.change.now
    (option_copied c.get-earlier.result) (option_copied c.as_ref.result) (get_or c.args.units.now c.args.place 0)
    (sym c.get.ensures ∙ ap option_copied c.in-Some.is) (c.get-earlier.ensures ∙ ap (state_of c.args.cache.now) c.as_slice.ensures)
    c.as_ref.ensures.value refl) in
    ap (λ (s : SpaceState). s.segments) back

pub returns-in-Some-clause-led : goal.returns-in-Some-clause-led
returns-in-Some-clause-led c = λ most first l.
    let h = has-last most c.args.cache.now c.args.changes.now c.args.units.now c.args.place first c.args.space.now c.requires.place l in
    h.then_led c.take_back.new.space (c.take_back.ensures h.step.before
    (was-last most c.args.cache.now c.args.changes.now c.args.units.now c.args.place first c.args.space.now h c.in-Some.change.now
    (option_copied c.get-earlier.result) (option_copied c.as_ref.result) (get_or c.args.units.now c.args.place 0)
    (sym c.get.ensures ∙ ap option_copied c.in-Some.is) (c.get-earlier.ensures ∙ ap (state_of c.args.cache.now) c.as_slice.ensures)
    c.as_ref.ensures.value refl))

pub returns-in_default-clause-led : goal.returns-in_default-clause-led
returns-in_default-clause-led c = λ most first l.
    let h = has-last most c.args.cache.now c.args.changes.now c.args.units.now c.args.place first c.args.space.now c.requires.place l in
    absurd (not-there h.step.change (sym (ap option_copied c.in_default.is) ∙ c.get.ensures ∙ h.change))
