-- The write was kept.
use Rattle.std.proofs.Common.{◌≡◌, ◌∷◌, ◌++◌, [], rules}
use Rattle.host_model.specs.declared.log.Kept.{Kept}
use Rattle.host_model.specs.declared.log.Kept.TheVariants.{Write}
use Rattle.host_model.proofs.Kept.{IsKept-write, are_bytes-fit}
use Rattle.host_model.proofs.log.Log.write.Goals as goal

pub invariant_of-self-2 : goal.invariant_of-self-2
invariant_of-self-2 c =
    let last : Kept = Write c.args.at c.in_ok-bytes_kept.bytes_kept in
    let is_new : c.push.new.self.items ≡ c.self.inside.calls.items ++ last ∷ [] = search rules in
    IsKept-write _ _ c.self.inside.calls.items _ last c.args.at c.args.bytes.now c.self.inside.file.items _ _ c.self.invariant (search rules) is_new
    (search rules) (are_bytes-fit c.args.bytes.now c.type_inv.bytes) (search rules)
