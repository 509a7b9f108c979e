use Rattle.std.proofs.Common.{ℕ, List, [], ◌∷◌, ◌≤◌, IfNone, Some, None, subst, sym, ap, ◌∙◌, arith}
use Rattle.std.proofs.lemmas.Bool.Decides.{Decides-eqb}
use Rattle.std.proofs.lemmas.Slice.Eq.{strip_prefix_is, strip_suffix_is}
use Rattle.etf_model.specs.declared.tags.TheConstants.{NIL}
use Rattle.key_block.specs.Single.{IsSingleKey, IsKeyAmong}
use Rattle.key_block.proofs.PlainFronts.{if_some, if_none}
use Rattle.key_block.proofs.SingleKeys.{front, no_front, single_found, single_none}
use Rattle.key_block.proofs.single.single_key.Goals as goal

pub returns-in_err-object-clause-none : goal.returns-in_err-object-clause-none
returns-in_err-object-clause-none c =
    subst (λ o. IfNone o ((bytes : List ℕ) → IsSingleKey c.args.keypos c.args.payload.now bytes → ⊥)) (sym c.from_residual.ensures)
    (no_front c.args.keypos c.args.payload.now (strip_prefix_is Decides-eqb c.args.payload.now front None c.in_err-object.ensures.cases))

pub returns-clause-found : goal.returns-clause-found
returns-clause-found c =
    let in_front = strip_prefix_is Decides-eqb c.args.payload.now front (Some c.in_ok-object.object) c.in_ok-object.ensures.cases in
    let end = strip_suffix_is Decides-eqb c.in_ok-arity.rest.now (NIL ∷ []) (Some c.in_ok-elements.elements) c.in_ok-elements.ensures.cases in
    if_some c.key_among.result (λ bytes. IsKeyAmong c.args.keypos c.from.result c.in_ok-elements.elements.now bytes.now)
    (λ bytes. IsSingleKey c.args.keypos c.args.payload.now bytes.now)
    (λ bytes. single_found c.args.keypos c.args.payload.now c.in_ok-object.object.now c.in_ok-arity.rest.now c.in_ok-elements.elements.now c.from.result
    in_front (c.in_ok-arity.ensures.cases.0 ∙ ap (λ n. n ∷ c.in_ok-arity.rest.now) (sym c.from.ensures)) end (λ i. let h = c.type_inv.payload i in omega arith) bytes.now)
    c.key_among.ensures.found

pub returns-clause-none : goal.returns-clause-none
returns-clause-none c =
    let in_front = strip_prefix_is Decides-eqb c.args.payload.now front (Some c.in_ok-object.object) c.in_ok-object.ensures.cases in
    let end = strip_suffix_is Decides-eqb c.in_ok-arity.rest.now (NIL ∷ []) (Some c.in_ok-elements.elements) c.in_ok-elements.ensures.cases in
    if_none c.key_among.result ((bytes : List ℕ) → IsKeyAmong c.args.keypos c.from.result c.in_ok-elements.elements.now bytes → ⊥)
    ((bytes : List ℕ) → IsSingleKey c.args.keypos c.args.payload.now bytes → ⊥)
    (single_none c.args.keypos c.args.payload.now c.in_ok-object.object.now c.in_ok-arity.rest.now c.in_ok-elements.elements.now c.from.result
    in_front (c.in_ok-arity.ensures.cases.0 ∙ ap (λ n. n ∷ c.in_ok-arity.rest.now) (sym c.from.ensures)) end)
    c.key_among.ensures.none
