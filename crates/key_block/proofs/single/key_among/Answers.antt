use Rattle.std.proofs.Common.{List, ℕ, IfNone, subst, sym, arith}
use Rattle.key_block.specs.Single.{IsKeyAmong}
use Rattle.key_block.proofs.KeyPlaces.{no_place, none_before, none_here, none_after, none_left, key_found}
use Rattle.key_block.proofs.single.key_among.Goals.{then-keypos-eq0-via-then-keypos-eq0, then-keypos-eq0-via-else-keypos-eq0+then-keypos-arity}
use Rattle.key_block.proofs.single.key_among.Goals as goal

pub returns-then-keypos-eq0-clause-none : goal.returns-then-keypos-eq0-clause-none
returns-then-keypos-eq0-clause-none c = λ bytes k.
    let within = no_place c.args.keypos c.args.arity c.args.elements.now bytes k in
    elim c.then-keypos-eq0.branch [
      | then-keypos-eq0-via-then-keypos-eq0 w ↦ omega (arith, w.if-keypos-eq0.true, within.0)
      | then-keypos-eq0-via-else-keypos-eq0+then-keypos-arity w ↦ omega (arith, w.if-keypos-arity.true, within.1)
    ]

pub returns-in_err-from-clause-none : goal.returns-in_err-from-clause-none
returns-in_err-from-clause-none c =
    subst (λ o. IfNone o ((bytes : List ℕ) → IsKeyAmong c.args.keypos c.args.arity c.args.elements.now bytes → ⊥)) (sym c.from_residual.ensures)
    (none_before c.args.keypos c.args.arity c.args.elements.now (omega arith) (omega arith) c.in_err-from.ensures.none)

pub returns-in_err-plain_length-clause-none : goal.returns-in_err-plain_length-clause-none
returns-in_err-plain_length-clause-none c =
    subst (λ o. IfNone o ((bytes : List ℕ) → IsKeyAmong c.args.keypos c.args.arity c.args.elements.now bytes → ⊥)) (sym c.from_residual-in_err-plain_length.ensures)
    (none_here c.args.keypos c.args.arity c.args.elements.now (omega arith) (omega arith) c.in_ok-from.from.now c.in_ok-from.ensures.found
    c.in_err-plain_length.ensures)

pub returns-in_err-behind_plain-clause-none : goal.returns-in_err-behind_plain-clause-none
returns-in_err-behind_plain-clause-none c =
    subst (λ o. IfNone o ((bytes : List ℕ) → IsKeyAmong c.args.keypos c.args.arity c.args.elements.now bytes → ⊥)) (sym c.from_residual-in_err-behind_plain.ensures)
    (none_after c.args.keypos c.args.arity c.args.elements.now (omega arith) (omega arith) c.in_ok-from.from.now c.in_ok-from.ensures.found
    c.in_ok-plain_length.field-0 c.in_ok-plain_length.ensures c.split_at.result.1.now c.split_at.ensures.back c.in_err-behind_plain.ensures.none)

pub returns-in-empty-clause-found : goal.returns-in-empty-clause-found
returns-in-empty-clause-found c =
    key_found c.args.keypos c.args.arity c.args.elements.now (omega arith) (omega arith) c.in_ok-from.from.now c.in_ok-from.ensures.found
    c.in_ok-plain_length.field-0 c.in_ok-plain_length.ensures c.split_at.result.1.now c.split_at.ensures.back c.in_ok-behind_plain.field-0.now
    c.in_ok-behind_plain.ensures.found (omega (arith, c.in-empty.len_below)) c.split_at.result.0.now c.split_at.ensures.front

pub returns-in-len1-up-clause-none : goal.returns-in-len1-up-clause-none
returns-in-len1-up-clause-none c =
    none_left c.args.keypos c.args.arity c.args.elements.now (omega arith) (omega arith) c.in_ok-from.from.now c.in_ok-from.ensures.found
    c.in_ok-plain_length.field-0 c.in_ok-plain_length.ensures c.split_at.result.1.now c.split_at.ensures.back c.in_ok-behind_plain.field-0.now
    c.in_ok-behind_plain.ensures.found (λ none. omega (arith, none, c.in-len1-up.len_at_least))
