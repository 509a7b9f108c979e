-- Runs of bytes and big-endian numbers, as formats read them.
use Rattle.std.proofs.Common.{◌≡◌, ℕ, zero, suc, ◌+◌, ◌*◌, ◌-◌, ◌^◌, ◌<◌, ◌≤◌, List, [], ◌∷◌, length, take, drop, Ok, Err, refl, ap, ◌∙◌, arith, add-one, Bool}
use Rattle.std.proofs.Common.{true, false, cond}
use Rattle.std.proofs.Math.Nat.{pow-succ'}
use Rattle.std.proofs.lemmas.List.{take_rest, drop-drop}
use Rattle.etf_model.specs.declared.fault.EtfFault.{EtfFault}
use Rattle.etf_model.specs.declared.fault.EtfFault.TheVariants.{Short}
use Rattle.etf_model.specs.Format.{Position, Reading, byte, times, go_on, judged}
use Rattle.etf_model.specs.Spelling.{number_after}
use Rattle.etf_codec.specs.Reads.{position_at}

-- to go on behind a value, and behind a fault
pub go_on_ok : {A B : Type 0} (r : Reading A) (x : A) (behind : Position) (next : A → Position → Reading B) → r ≡ Ok (x, behind) → go_on r next ≡ next x behind
go_on_ok r x behind next e = rw e

pub go_on_err : {A B : Type 0} (r : Reading A) (next : A → Position → Reading B) (fault : EtfFault) → r ≡ Err fault → go_on r next ≡ Err fault
go_on_err r next fault e = rw e

-- as many bytes as there are
pub times_byte : (n : ℕ) (term offset : ℕ) (bytes : List ℕ) → n ≤ length bytes
    → (times n byte).read term (record { offset = offset; left = bytes }) ≡ Ok (take n bytes, record { offset = offset + n; left = drop n bytes })
times_byte zero term offset bytes h = ap (λ o. Ok ([], record { offset = o; left = bytes })) (omega arith)
times_byte (suc n) term offset [] h = absurd (omega arith)
times_byte (suc n) term offset (x ∷ bytes) h =
    go_on_ok _ _ _ _ (times_byte n term (offset + 1) bytes (omega arith))
    ∙ ap (λ o. Ok (x ∷ take n bytes, record { offset = o; left = drop n bytes })) (omega arith)

-- more than there are
pub times_byte_short : (n : ℕ) (term offset : ℕ) (bytes : List ℕ) → length bytes < n
    → (times n byte).read term (record { offset = offset; left = bytes }) ≡ Err Short
times_byte_short zero term offset bytes h = absurd (omega arith)
times_byte_short (suc n) term offset [] h = refl
times_byte_short (suc n) term offset (x ∷ bytes) h = go_on_err _ _ _ (times_byte_short n term (offset + 1) bytes (omega arith))

-- fewer than four bytes make a number below 2 ^ 24
pub pow_256_le : (n : ℕ) → n < 4 → 256 ^ n ≤ 2 ^ 24
pow_256_le zero h = omega arith
pow_256_le (suc zero) h = omega arith
pow_256_le (suc (suc zero)) h = omega arith
pow_256_le (suc (suc (suc zero))) h = omega arith
pow_256_le (suc (suc (suc (suc n)))) h = absurd (omega arith)

-- some of the bytes behind a position
pub times_byte_at : (start n at : ℕ) (term : ℕ) (bytes : List ℕ) (position : Position) → position_at start bytes at ≡ position
    → n ≤ length (take (length bytes - at) (drop at bytes))
    → (times n byte).read term position ≡ Ok (take n (take (length bytes - at) (drop at bytes)), position_at start bytes (at + n))
times_byte_at start n at term bytes position e h =
    let behind : start + at + n ≡ start + (at + n) = omega arith in
    rw (← e, take_rest, ← drop-drop n at bytes, ← behind) (times_byte n term (start + at) (drop at bytes) (rw (← take_rest bytes at) h))

pub times_byte_at_end : (start n at : ℕ) (term : ℕ) (bytes : List ℕ) (position : Position) → position_at start bytes at ≡ position
    → length (take (length bytes - at) (drop at bytes)) < n
    → (times n byte).read term position ≡ Err Short
times_byte_at_end start n at term bytes position e h = rw (← e) (times_byte_short n term (start + at) (drop at bytes) (rw (← take_rest bytes at) h))

-- one more byte of a number
pub number_more : (value n : ℕ) (term : ℕ) (position : Position) (x : ℕ) (behind : Position) → 0 < n → byte.read term position ≡ Ok (x, behind)
    → (number_after value n).read term position ≡ (number_after (256 * value + x) (n - 1)).read term behind
number_more value zero term position x behind h e = absurd (omega arith)
number_more value (suc n) term position x behind h e = go_on_ok _ _ _ _ e ∙ ap (λ m. (number_after (256 * value + x) m).read term behind) (omega arith)

pub number_fails : (value n : ℕ) (term : ℕ) (position : Position) (fault : EtfFault) → 0 < n → byte.read term position ≡ Err fault
    → (number_after value n).read term position ≡ Err fault
number_fails value zero term position fault h e = absurd (omega arith)
number_fails value (suc n) term position fault h e = go_on_err _ _ _ e

pub pow_256_more : (n : ℕ) → 256 ^ (n + 1) ≡ 256 * 256 ^ n
pow_256_more n = rw add-one (pow-succ' 256 n)

-- a value that passes its test, and one that does not
pub test_passes : {A : Type 0} (r : Reading A) (x : A) (behind : Position) (test : A → Bool) (fault : A → EtfFault) → r ≡ Ok (x, behind) → test x ≡ true
    → go_on r (λ y position. judged (test y) (fault y) y position) ≡ Ok (x, behind)
test_passes r x behind test fault e p = go_on_ok r x behind _ e ∙ ap (λ b. cond b (Ok (x, behind)) (Err (fault x))) p

pub test_fails : {A : Type 0} (r : Reading A) (x : A) (behind : Position) (test : A → Bool) (fault : A → EtfFault) → r ≡ Ok (x, behind) → test x ≡ false
    → go_on r (λ y position. judged (test y) (fault y) y position) ≡ Err (fault x)
test_fails r x behind test fault e p = go_on_ok r x behind _ e ∙ ap (λ b. cond b (Ok (x, behind)) (Err (fault x))) p
