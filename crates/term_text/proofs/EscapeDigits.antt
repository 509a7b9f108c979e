-- Digits of an escape keep within 24 bits.
use Rattle.std.proofs.Common.{ℕ, ◌<◌, ◌^◌, zero, suc, arith}

pub few_digits : (v count : ℕ) → count < 6 → v < 16 ^ count → v < 2 ^ 20
few_digits v zero few small = omega arith
few_digits v (suc zero) few small = omega arith
few_digits v (suc (suc zero)) few small = omega arith
few_digits v (suc (suc (suc zero))) few small = omega arith
few_digits v (suc (suc (suc (suc zero)))) few small = omega arith
few_digits v (suc (suc (suc (suc (suc zero))))) few small = omega arith
few_digits v (suc (suc (suc (suc (suc (suc more)))))) few small = absurd (omega arith)
