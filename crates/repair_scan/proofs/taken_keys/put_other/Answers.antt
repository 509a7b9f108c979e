use Rattle.std.proofs.Common.{true, Some, None, cond, ◌&&◌, ap, sym, ◌∙◌}
use Rattle.std.specs.HashMap.{get_by}
use Rattle.std.specs.Str.{bytes_eq}
use Rattle.std.proofs.Math.Bool.{and-true}
use Rattle.repair_scan.proofs.KeptKeys.{updated}
use Rattle.repair_scan.proofs.taken_keys.put_other.Goals as goal

pub returns-clause-put : goal.returns-clause-put
returns-clause-put c = λ bytes.
    updated c.in_ok-from_slice.field-0 c.args.others.now c.insert.new.self (Some c.args.unit) c.in_ok-insert.ensures.updates bytes
    ∙ ap (λ b. cond b (Some c.args.unit) (get_by (λ k. bytes_eq bytes k.items) c.args.others.now))
    (ap (λ bs. bytes_eq bs bytes) c.in_ok-from_slice.ensures.items ∙ sym (and-true (bytes_eq c.args.key.now bytes)))
