use Rattle.std.proofs.Common.{◌≡◌, ℕ, false, Option, Some, None, is_some, ◌∙◌, ap, sym, subst, refl}
use Rattle.std.specs.Option.{option_copied}
use Rattle.space_model.specs.Runs.{run}
use Rattle.space_model.specs.Apart.{In}
use Rattle.file_model.specs.declared.block.Packed.{Packed}
use Rattle.write_cache.specs.declared.pending.Pending.{Pending}
use Rattle.buddy_space.specs.SpaceState.{SpaceState, giving}
use Rattle.buddy_space.proofs.Parted.{with_run_new}
use Rattle.buddy_space.proofs.States.{given_after_taking}
use Rattle.book_model.specs.Planning.{kept_unit}
use Rattle.flush_engine.specs.Placing.{block_of, in_segments, reclaimed, WasPlaced}
use Rattle.flush_engine.proofs.Undone.{IsBeside, block-exp, nothing-undone, moved-undone}
use Rattle.flush_engine.proofs.placing.take_back.Goals as goal

with_next : (earlier : Option Pending) (next as_next : Option Packed) (unit : ℕ) (s now : SpaceState) → next ≡ as_next
    → WasPlaced earlier next unit s now → WasPlaced earlier as_next unit s now
with_next earlier next as_next unit s now is w = subst (λ n. WasPlaced earlier n unit s now) is w

abbrev some-packed : Packed → Option Packed
some-packed x = Some x

same-packed : (p q : Packed) → some-packed p ≡ some-packed q → p ≡ q
same-packed p q is = cc

none-kept : (o : Option ℕ) → is_some o ≡ false → o ≡ None
none-kept None e = refl
none-kept (Some unit) e = cc

-- the old run was taken again, and the new one is there beside what was
moved : (earlier : Option Pending) (next : Option Packed) (p q : Packed) (unit : ℕ) (s now after : SpaceState) (kept : Option ℕ) → next ≡ Some p → next ≡ Some q
    → kept ≡ kept_unit earlier q.exp → is_some kept ≡ false → after ≡ reclaimed (block_of earlier) now → WasPlaced earlier next unit s now
    → IsBeside s (run unit p.exp) now.segments after
moved earlier next p q unit s now after kept is is_too kept_is none reclaims w =
    let same = same-packed p q (sym is ∙ is_too) in
    let no_unit : kept_unit earlier p.exp ≡ None = ap (λ (x : Packed). kept_unit earlier x.exp) same ∙ sym kept_is ∙ none-kept kept none in
    subst (λ t. IsBeside s (run unit p.exp) now.segments t) (sym reclaims)
    (moved-undone earlier p unit s now no_unit (with_next earlier next (Some p) unit s now is w))

pub reclaim-requires : goal.reclaim-requires
reclaim-requires c = block-exp (block_of (option_copied c.args.earlier)) c.requires.0 c.requires.1.parted c.requires.1.block

pub reclaim-requires-in-Some-2 : goal.reclaim-requires-in-Some-2
reclaim-requires-in-Some-2 c = block-exp (block_of (option_copied c.args.earlier)) c.requires.0 c.requires.1.parted c.requires.1.block

pub give-requires : goal.give-requires
give-requires c =
    let b = moved (option_copied c.args.earlier) (option_copied c.args.next) c.in-Some-2.packed.now c.in-Some.packed.now c.args.unit c.requires.0 c.args.space.now
    c.reclaim-in-Some-2.new.space c.kept_unit.result (ap option_copied c.in-Some-2.is) (ap option_copied c.in-Some.is) c.kept_unit.ensures
    (sym c.is_some.ensures ∙ c.if-is_some.false) c.reclaim-in-Some-2.ensures c.requires.1 in
    let new = run c.args.unit c.in-Some-2.packed.now.exp in
    subst (λ (t : SpaceState). In new t.taken) (sym b.beside) (with_run_new new c.requires.0.taken)

pub returns-in-None : goal.returns-in-None
returns-in-None c = λ s w.
    c.reclaim.ensures ∙ nothing-undone (option_copied c.args.earlier) c.args.unit s c.args.space.now
    (with_next (option_copied c.args.earlier) (option_copied c.args.next) None c.args.unit s c.args.space.now (ap option_copied c.in-None.is) w)

pub returns-in-Some-2 : goal.returns-in-Some-2
returns-in-Some-2 c = λ s w.
    let b = moved (option_copied c.args.earlier) (option_copied c.args.next) c.in-Some-2.packed.now c.in-Some.packed.now c.args.unit s c.args.space.now
    c.reclaim-in-Some-2.new.space c.kept_unit.result (ap option_copied c.in-Some-2.is) (ap option_copied c.in-Some.is) c.kept_unit.ensures
    (sym c.is_some.ensures ∙ c.if-is_some.false) c.reclaim-in-Some-2.ensures w in
    let new = run c.args.unit c.in-Some-2.packed.now.exp in
    c.give.ensures.given ∙ ap (λ t. giving t new) b.beside ∙ given_after_taking (in_segments c.args.space.now.segments s) new b.free
