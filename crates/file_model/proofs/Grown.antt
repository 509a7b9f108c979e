-- More segments, in which all gates are closed, add nothing.
use Rattle.std.proofs.Common.{◌≡◌, ◌≤◌, ◌<◌, ℕ, ◌*◌, false, List, [], ap, ◌∙◌, arith}
use Rattle.std.proofs.lemmas.Nat.{mul-le}
use Rattle.term_model.specs.declared.kind.Kind.{Kind}
use Rattle.file_model.specs.declared.head.Head.{Head}
use Rattle.file_model.specs.Layout.{gate_at, is_open_at}
use Rattle.file_model.specs.Header.{segments_in}
use Rattle.file_model.specs.Block.{stands_at}
use Rattle.file_model.specs.View.{units_in, open_from, view}
use Rattle.file_model.specs.Taken.{taken_above, objects_in, table_of}
use Rattle.file_model.proofs.Seen.{open_more}

pub table_grown : (n : ℕ) (h more : Head) (image : List ℕ) → more.kind ≡ h.kind → more.keypos ≡ h.keypos
    → segments_in n h image ≤ segments_in n more image
    → ((u : ℕ) → n * segments_in n h image ≤ u → u < n * segments_in n more image → is_open_at image (gate_at n u) ≡ false)
    → table_of (view more (units_in n more image)) ≡ table_of (view h (units_in n h image))
table_grown n h more image kind keypos l shut =
    let count = n * segments_in n h image in
    let fewer : count ≤ n * segments_in n more image = mul-le n (segments_in n h image) n (segments_in n more image) (omega arith) l in
    let gates = λ (u : ℕ). is_open_at image (gate_at n u) in
    let units = ap (λ (k : Kind). open_from gates (λ u. stands_at n k more.keypos image u) (n * segments_in n more image) 0) kind
    ∙ ap (λ p. open_from gates (λ u. stands_at n h.kind p image u) (n * segments_in n more image) 0) keypos
    ∙ open_more gates (λ u. stands_at n h.kind h.keypos image u) count (n * segments_in n more image) 0 fewer
    (λ w a b. shut w (omega arith) (omega arith)) in
    λ i. record { kind = kind i; keypos = keypos i; objects = objects_in (taken_above (units i) []) }
