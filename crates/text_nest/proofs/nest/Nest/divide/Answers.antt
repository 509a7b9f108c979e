use Rattle.std.proofs.Common.{◌≡◌, ◌-◌, suc, length, cond, vec_len, Some, None, refl, ap, ◌∙◌, sym, arith}
use Rattle.std.proofs.lemmas.Grind.{common_steps}
use Rattle.text_nest.specs.NestView.{frame_of, place_of, nest_of, divided}
use Rattle.text_nest.proofs.Innermost.{innermost_changed}
use Rattle.text_nest.proofs.nest.Nest.divide.Goals as goal

pub returns-then-is_taken-clause-ok : goal.returns-then-is_taken-clause-ok
returns-then-is_taken-clause-ok c =
    let begun = c.args.self.now.begun in
    let innermost = c.in-Some.innermost.now in
    let size : length begun.items ≡ suc (vec_len begun - 1) = grind (arith, common_steps) in
    let changed : divided c.args.mark (frame_of innermost.term) (place_of c.args.self.now.place) ≡ Some (frame_of c.divide.new.self) =
    ap (λ p. divided c.args.mark (frame_of innermost.term) (place_of p)) (sym c.replace-place.ensures.value)
    ∙ c.in_ok-is_taken-in-Some.ensures ∙ ap (λ b. cond b (Some (frame_of c.divide.new.self)) None) c.if-is_taken.true in
    innermost_changed (divided c.args.mark) (nest_of c.args.self.now) c.args.at begun.items (vec_len begun - 1) innermost
    (record { at = innermost.at; term = c.divide.new.self }) (place_of c.replace-place.new.dest) size c.in-Some.ensures.value refl changed
    (ap place_of c.replace-place.ensures.after)
