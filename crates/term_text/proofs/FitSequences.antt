-- The first bytes of a character are three at the most.
use Rattle.std.proofs.Common.{◌≡◌, ℕ, ◌≤◌, List, [], ◌∷◌, length, Some, None, slice_index, ap, arith}
use Rattle.std.proofs.lemmas.Bool.{and_parts, eqb-true}
use Rattle.bstr.specs.Utf8.{Decoded, bad, good, decoded, decoded_by}
use Rattle.bstr.proofs.lemmas.PieceLemmas.{by-shape}
use Rattle.text_model.specs.Reader.{part, sequence}
use Rattle.text_model.proofs.CutCharacters.{part_by}

short : (d : Decoded) (k : ℕ) → k ≤ 3 → d ≡ bad k → d.size ≤ 3
short d k few e = let size : d.size ≡ k = ap (λ (p : Decoded). p.size) e in omega arith

none_short : (d : Decoded) (c k : ℕ) → d.char ≡ None → d ≡ good c k → d.size ≤ 3
none_short d c k none e = let some : d.char ≡ Some c = ap (λ (p : Decoded). p.char) e in cc

-- what does not decode has a front of three bytes at the most
small : (n b c d e : ℕ) → (decoded_by n b c d e).char ≡ None → (decoded_by n b c d e).size ≤ 3
small n b c d e none = by-shape n b c d e
    (λ h. short _ 0 (omega arith) h.1)
    (λ h. none_short _ _ 1 none h.2)
    (λ h. short _ 1 (omega arith) h.3)
    (λ h. short _ 1 (omega arith) h.2)
    (λ h. short _ 1 (omega arith) h.4)
    (λ h. short _ 1 (omega arith) h.4)
    (λ h. none_short _ _ 2 none h.4)
    (λ h. short _ 2 (omega arith) h.5)
    (λ h. short _ 2 (omega arith) h.5)
    (λ h. none_short _ _ 3 none h.5)
    (λ h. short _ 3 (omega arith) h.6)
    (λ h. short _ 3 (omega arith) h.6)
    (λ h. none_short _ _ 4 none h.6)

pub part_is_short : (bytes : List ℕ) → sequence bytes ≡ part → length bytes ≤ 3
part_is_short [] e = cc
part_is_short (x ∷ xs) e =
    let is = part_by x xs (decoded (x ∷ xs)).size (decoded (x ∷ xs)).char e in
    let all : (decoded (x ∷ xs)).size ≡ length (x ∷ xs) = eqb-true (decoded (x ∷ xs)).size (length (x ∷ xs)) (and_parts _ _ is.1).0 in
    let few = small (length (x ∷ xs)) x (slice_index (x ∷ xs) 1) (slice_index (x ∷ xs) 2) (slice_index (x ∷ xs) 3) is.0 in
    omega arith
