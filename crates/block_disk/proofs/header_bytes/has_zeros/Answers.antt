use Rattle.std.proofs.Common.{◌≡◌, Bool, true, ◌==◌, ◌&&◌, ◌∙◌, slice_range, slice_index, sym, refl, rules, tests}
use Rattle.std.proofs.lemmas.Bool.{eq-eqb}
use Rattle.std.proofs.lemmas.Iterator.{YieldsList-from_slice}
use Rattle.std.proofs.lemmas.Iterator.Search.{all_from_yields_List}
use Rattle.block_disk.proofs.header_bytes.has_zeros.Goals as goal

and_left_true : (x y : Bool) → x ≡ true → (x && y) ≡ y
and_left_true x y e = rw e refl

pub returns-then-body-eq0 : goal.returns-then-body-eq0
returns-then-body-eq0 c =
    let all = all_from_yields_List (λ b. b == 0) _ _ c.all.result c.all.ensures.ran
    (YieldsList-from_slice (slice_range c.args.body.now 24 32) c.iter.ensures.rest) (λ x b q k. search (rules, tests)) in
    all ∙ sym (and_left_true (slice_index c.args.body.now 7 == 0) _ (eq-eqb _ _ c.if-body-eq0.true))
