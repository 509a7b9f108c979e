use Rattle.std.proofs.Common.{◌≡◌, ◌∙◌, sym, append_assoc}
use Rattle.std.specs.Str.{chars}
use Rattle.std.proofs.lemmas.Iterator.{YieldsList-from_chars}
use Rattle.std.proofs.lemmas.Iterator.Consumers.{YieldsList-end}
use Rattle.std.proofs.lemmas.List.{map-id}
use Rattle.term_text.proofs.printing.print_quoted.Goals as goal

pub returns : goal.returns
returns c =
    let ended = YieldsList-end (YieldsList-from_chars c.args.name.now c.utf8.name cc) c.loop-character.yielded _ c.loop-character.yielded_by _ _ c.in-None.is
    c.next.ensures.steps in
    let all : c.loop-character.yielded ≡ chars c.args.name.now = sym (map-id c.loop-character.yielded) ∙ ended.0 in
    simp append_assoc (simp append_assoc at (rw (c.loop-character.invariant, c.in_ok-push.ensures.ok, all) at c.push-2.ensures.ok))
