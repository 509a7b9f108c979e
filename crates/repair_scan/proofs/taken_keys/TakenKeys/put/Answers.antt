use Rattle.std.proofs.Common.{◌≡◌, ◌+◌, length, ◌==◌, ◌&&◌, nat_eq, cond, Some, refl, ap, sym, ◌∙◌, arith}
use Rattle.std.specs.Prelude.{is_none}
use Rattle.std.specs.HashMap.{get}
use Rattle.std.specs.Str.{bytes_eq}
use Rattle.std.proofs.Math.Bool.{and-true}
use Rattle.repair_scan.specs.declared.taken_keys.Kept.{Kept}
use Rattle.repair_scan.specs.declared.taken_keys.TakenKeys.{TakenKeys}
use Rattle.repair_scan.specs.TakenKeys.{unit_of}
use Rattle.repair_scan.proofs.KeptKeys.{first_put}
use Rattle.repair_scan.proofs.taken_keys.TakenKeys.put.Goals as goal

pub returns-in_default-clause-put : goal.returns-in_default-clause-put
returns-in_default-clause-put c = λ bytes.
    let old : TakenKeys = c.args.self.now in
    let new : TakenKeys = record { alloc = old.alloc; spellings = c.extend_from_slice.new.self; first = c.put_first.new.first; others = old.others } in
    let kept : Kept = record { from = c.len-from.result; end = c.len-from.result + length c.args.key.now; unit = c.args.unit } in
    let size : c.len-from.result ≡ length old.spellings.items = omega (arith, old.spellings.ok.0, c.len-from.ensures) in
    first_put old new c.requires.kept c.args.key.now c.args.hash c.args.unit c.requires.hash kept size (ap (λ n. n + length c.args.key.now) size) refl c.in_ok-extend_from_slice.ensures.items refl
    (sym c.in_ok-kept.ensures.had ∙ c.in_default.is)
    (λ h. c.in_ok-kept.ensures.put h
    ∙ ap (λ b. cond b (Some kept) (get nat_eq old.first h)) (ap (λ o. (c.args.hash == h) && is_none o) c.in_default.is ∙ and-true (c.args.hash == h)))
    bytes
    ∙ ap (λ b. cond b (Some c.args.unit) (unit_of old bytes)) (sym (and-true (bytes_eq c.args.key.now bytes)))
