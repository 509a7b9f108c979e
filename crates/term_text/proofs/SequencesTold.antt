-- The first bytes of a character as the code tells them.
use Rattle.std.proofs.Common.{◌≡◌, ℕ, true, ◌&&◌, ◌==◌, nat_lt, List, [], ◌∷◌, length, Some, None, slice_get, ap, ◌∙◌}
use Rattle.std.proofs.lemmas.Bool.{cond-true}
use Rattle.std.proofs.lemmas.Bool.Decides.{nat_tests}
use Rattle.std.proofs.Common.{arith}
use Rattle.bstr.specs.Utf8.{decoded, lead_len}
use Rattle.text_model.specs.Reader.{part, sequence, sequence_by}

pub part_told : (bytes : List ℕ) (lead : ℕ) → (decoded bytes).char ≡ None → slice_get bytes 0 ≡ Some lead → (decoded bytes).size ≡ length bytes
    → nat_lt 1 (lead_len lead) ≡ true → sequence bytes ≡ part
part_told [] lead none first size leads = cc
part_told (x ∷ xs) lead none first size leads =
    let same : x ≡ lead = cc in
    let test : nat_lt 1 (lead_len x) ≡ true = ap (λ y. nat_lt 1 (lead_len y)) same ∙ leads in
    let whole : ((decoded (x ∷ xs)).size == length (x ∷ xs)) && nat_lt 1 (lead_len x) ≡ true = rw (size, test) (grind (arith, nat_tests)) in
    ap (sequence_by (x ∷ xs) (decoded (x ∷ xs)).size) none ∙ cond-true _ _ _ whole
