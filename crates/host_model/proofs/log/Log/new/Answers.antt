-- Nothing was called yet, and the file is bytes.
use Rattle.std.proofs.Common.{◌≡◌, ◌∙◌, ap, sym, [], rules}
use Rattle.host_model.specs.Disk.{are_bytes}
use Rattle.host_model.specs.Calls.{is_possible}
use Rattle.host_model.specs.Log.{newest_first}
use Rattle.host_model.proofs.log.Log.new.Goals as goal

pub invariant_of-result : goal.invariant_of-result
invariant_of-result c =
    let none_kept : newest_first c.new.result.items ≡ [] = ap newest_first c.new.ensures.items in
    record {
      reads = search rules;
      output = search rules;
      possible = ap (λ cs. is_possible c.args.first.items cs) none_kept ∙ ap are_bytes (sym c.deref.ensures.value) ∙ c.copy_of.ensures.in_range;
    }
