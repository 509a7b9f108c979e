use Rattle.std.proofs.Common.{◌≡◌, ◌++◌, true, false, cond, nat_lt, Some, None, ap, ◌∙◌, sym}
use Rattle.std.specs.Str.{chars}
use Rattle.std.proofs.lemmas.Iterator.{YieldsList-from_chars}
use Rattle.std.proofs.lemmas.Iterator.Consumers.{YieldsList-end}
use Rattle.std.proofs.lemmas.List.{map-id}
use Rattle.text_model.specs.Characters.{each}
use Rattle.text_nest.proofs.strings.bytes_with_all.Goals as goal

pub returns-then-are_bytes : goal.returns-then-are_bytes
returns-then-are_bytes c =
    let ended = YieldsList-end (YieldsList-from_chars c.args.text.now c.utf8.text cc) c.loop-character.yielded _ c.loop-character.yielded_by _ _ c.in-None.is
    c.next.ensures.steps in
    let all : c.loop-character.yielded ≡ chars c.args.text.now = sym (map-id c.loop-character.yielded) ∙ ended.0 in
    let tested : each (λ x. nat_lt x 256) (chars c.args.text.now) ≡ true =
    ap (each (λ x. nat_lt x 256)) (sym all) ∙ sym c.loop-character.invariant.tested ∙ c.if-are_bytes.true in
    ap Some (c.loop-character.invariant.gathered c.if-are_bytes.true ∙ ap (λ l. c.args.bytes ++ l) all)
    ∙ ap (λ b. cond b (Some (c.args.bytes ++ chars c.args.text.now)) None) (sym tested)

pub returns-else-are_bytes : goal.returns-else-are_bytes
returns-else-are_bytes c =
    let ended = YieldsList-end (YieldsList-from_chars c.args.text.now c.utf8.text cc) c.loop-character.yielded _ c.loop-character.yielded_by _ _ c.in-None.is
    c.next.ensures.steps in
    let all : c.loop-character.yielded ≡ chars c.args.text.now = sym (map-id c.loop-character.yielded) ∙ ended.0 in
    let tested : each (λ x. nat_lt x 256) (chars c.args.text.now) ≡ false =
    ap (each (λ x. nat_lt x 256)) (sym all) ∙ sym c.loop-character.invariant.tested ∙ c.if-are_bytes.false in
    ap (λ b. cond b (Some (c.args.bytes ++ chars c.args.text.now)) None) (sym tested)
