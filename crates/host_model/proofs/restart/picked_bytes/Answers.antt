-- One byte more.
use Rattle.std.proofs.Common.{◌≡◌, ◌+◌, ◌∙◌, ◌∷◌, ◌++◌, [], ℕ, ap, sym, map, get_or, rules, arith}
use Rattle.std.specs.List.{range_with_len}
use Rattle.std.proofs.lemmas.List.FromFn.{map-range_with_len_more}
use Rattle.host_model.specs.Restart.{byte_picked}
use Rattle.host_model.proofs.restart.picked_bytes.Goals as goal

pub loop-i-preserved : goal.loop-i-preserved
loop-i-preserved c =
    let k = c.args.at + c.loop-i.i in
    let f : ℕ → ℕ = λ i. byte_picked c.args.pick (c.args.at + i) (get_or c.args.image.now (c.args.at + i) 0) (get_or c.args.bytes.now i 0) in
    let byte : c.picked_byte.result ≡ f c.loop-i.i = c.picked_byte.ensures
    ∙ ap (λ old. byte_picked c.args.pick k old (get_or c.args.bytes.now c.loop-i.i 0)) c.byte_or_zero.ensures in
    let pushed : c.push.new.self.items ≡ c.loop-i.picked.items ++ c.picked_byte.result ∷ [] = search rules in
    pushed ∙ ap (λ l. l ++ c.picked_byte.result ∷ []) c.loop-i.invariant ∙ ap (λ b. map f (range_with_len 0 c.loop-i.i) ++ b ∷ []) byte
    ∙ sym (map-range_with_len_more f 0 c.loop-i.i c.loop-i.i (omega arith))
