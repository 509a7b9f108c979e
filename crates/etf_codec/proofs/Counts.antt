-- Numbers of parts, as formats read them.
use Rattle.std.proofs.Common.{◌≡◌, List, ℕ, zero, suc, ◌+◌, ◌*◌, ◌-◌, ◌<◌, ◌≢◌, true, false, [], ◌∷◌, Ok, Err, refl, ap, ◌∙◌, arith, ◌==◌, cond}
use Rattle.std.proofs.lemmas.Bool.Decides.{nat_tests}
use Rattle.etf_model.specs.declared.fault.EtfFault.{EtfFault}
use Rattle.etf_model.specs.declared.fault.EtfFault.TheVariants.{Depth}
use Rattle.etf_model.specs.Format.{Position, byte, judged}
use Rattle.etf_model.specs.Spelling.{number, number_after, count, count_after}
use Rattle.etf_codec.proofs.Bytes.{go_on_ok, go_on_err}

-- where there may be parts, their number is read as any number is
pub count_after_true : (value n : ℕ) (term offset : ℕ) (bytes : List ℕ)
    → (count_after true value n).read term (record { offset = offset; left = bytes }) ≡ (number_after value n).read term
    (record { offset = offset; left = bytes })
count_after_true value zero term offset bytes = refl
count_after_true value (suc n) term offset [] = refl
count_after_true value (suc n) term offset (x ∷ bytes) = count_after_true (256 * value + x) n term (offset + 1) bytes

pub count_number : (levels size : ℕ) (term : ℕ) (position : Position) → 0 < levels → (count levels size).read term position ≡ (number size).read term position
count_number zero size term position h = absurd (omega arith)
count_number (suc levels) size term position h = count_after_true 0 size term position.offset position.left

-- where there may be none: a byte that is 0
pub count_more : (n : ℕ) (term : ℕ) (position : Position) (x : ℕ) (behind : Position) → 0 < n → byte.read term position ≡ Ok (x, behind) → x ≡ 0
    → (count_after false 0 n).read term position ≡ (count_after false 0 (n - 1)).read term behind
count_more zero term position x behind h e z = absurd (omega arith)
count_more (suc n) term position x behind h e z =
    let passes : judged (cond false true (x == 0)) (Depth term) x behind ≡ Ok (x, behind) = rw z in
    go_on_ok _ _ _ _ (go_on_ok _ _ _ _ e ∙ passes)
    ∙ ap (λ y. (count_after false (256 * 0 + y) n).read term behind) z
    ∙ ap (λ k. (count_after false 0 k).read term behind) (omega arith)

-- a byte that is not
pub count_deep : (n : ℕ) (term : ℕ) (position : Position) (x : ℕ) (behind : Position) → 0 < n → byte.read term position ≡ Ok (x, behind) → x ≢ 0
    → (count_after false 0 n).read term position ≡ Err (Depth term)
count_deep zero term position x behind h e z = absurd (omega arith)
count_deep (suc n) term position x behind h e z =
    let fails : (x == 0) ≡ false = grind (arith, nat_tests) in
    let byte_fails : judged (cond false true (x == 0)) (Depth term) x behind ≡ Err (Depth term) = rw fails in
    go_on_err _ _ _ (go_on_ok _ _ _ _ e ∙ byte_fails)

-- no byte more
pub count_fails : (n : ℕ) (term : ℕ) (position : Position) (fault : EtfFault) → 0 < n → byte.read term position ≡ Err fault
    → (count_after false 0 n).read term position ≡ Err fault
count_fails zero term position fault h e = absurd (omega arith)
count_fails (suc n) term position fault h e = go_on_err _ _ _ (go_on_err _ _ _ e)
