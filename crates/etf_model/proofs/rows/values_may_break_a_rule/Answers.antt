use Rattle.std.proofs.Common.{[], ◌∷◌, ◌++◌, replicate, refl}
use lib.Utf8.{encode}
use Rattle.std.specs.List.{concat}
use Rattle.std.specs.Str.{is_utf8, chars}
use Rattle.etf_model.specs.declared.fault.EtfFault.TheVariants.{IntegerRange, BadAtom, BadBits, RepeatedKey}
use Rattle.etf_model.proofs.ByReading.{broken}
use Rattle.etf_model.proofs.rows.values_may_break_a_rule.Goals as goal

pub returns-clause-large_integer : goal.returns-clause-large_integer
unfolding encode is_utf8 chars
returns-clause-large_integer c =
    broken (0x83 ∷ 0x6e ∷ 0x10 ∷ 0x00 ∷ (replicate 15 0x00 ++ 0x80 ∷ [])) (IntegerRange 1) refl refl (λ e. cc)

pub returns-clause-small_integer : goal.returns-clause-small_integer
unfolding encode is_utf8 chars
returns-clause-small_integer c =
    broken (0x83 ∷ 0x6e ∷ 0x10 ∷ 0x01 ∷ 0x01 ∷ (replicate 14 0x00 ++ 0x80 ∷ [])) (IntegerRange 1) refl refl (λ e. cc)

pub returns-clause-seventeenth_byte : goal.returns-clause-seventeenth_byte
unfolding encode is_utf8 chars
returns-clause-seventeenth_byte c =
    broken (0x83 ∷ 0x6e ∷ 0x14 ∷ 0x00 ∷ (replicate 16 0x00 ++ 0x01 ∷ [])) (IntegerRange 1) refl refl (λ e. cc)

pub returns-clause-no_utf8 : goal.returns-clause-no_utf8
unfolding encode is_utf8 chars
returns-clause-no_utf8 c =
    broken (0x83 ∷ 0x77 ∷ 0x01 ∷ 0xff ∷ []) (BadAtom 1) refl refl (λ e. cc)

pub returns-clause-long_atom : goal.returns-clause-long_atom
unfolding encode is_utf8 chars
returns-clause-long_atom c =
    broken (0x83 ∷ 0x64 ∷ 0x01 ∷ 0x00 ∷ replicate 256 0x61) (BadAtom 1) refl refl (λ e. cc)

pub returns-clause-long_utf8 : goal.returns-clause-long_utf8
unfolding encode is_utf8 chars
returns-clause-long_utf8 c =
    broken (0x83 ∷ 0x76 ∷ 0x02 ∷ 0x00 ∷ concat (replicate 256 (0xc3 ∷ 0xa4 ∷ []))) (BadAtom 1) refl refl (λ e. cc)

pub returns-clause-bits_of_nothing : goal.returns-clause-bits_of_nothing
unfolding encode is_utf8 chars
returns-clause-bits_of_nothing c =
    broken (0x83 ∷ 0x4d ∷ 0x00 ∷ 0x00 ∷ 0x00 ∷ 0x00 ∷ 0x03 ∷ []) (BadBits 1) refl refl (λ e. cc)

pub returns-clause-no_used_bits : goal.returns-clause-no_used_bits
unfolding encode is_utf8 chars
returns-clause-no_used_bits c =
    broken (0x83 ∷ 0x4d ∷ 0x00 ∷ 0x00 ∷ 0x00 ∷ 0x01 ∷ 0x00 ∷ []) (BadBits 1) refl refl (λ e. cc)

pub returns-clause-nine_bits : goal.returns-clause-nine_bits
unfolding encode is_utf8 chars
returns-clause-nine_bits c =
    broken (0x83 ∷ 0x4d ∷ 0x00 ∷ 0x00 ∷ 0x00 ∷ 0x01 ∷ 0x09 ∷ []) (BadBits 1) refl refl (λ e. cc)

pub returns-clause-repeated_key : goal.returns-clause-repeated_key
unfolding encode is_utf8 chars
returns-clause-repeated_key c =
    broken (0x83 ∷ 0x74 ∷ 0x00 ∷ 0x00 ∷ 0x00 ∷ 0x02 ∷ 0x61 ∷ 0x01 ∷ 0x61 ∷ 0x01 ∷ 0x61 ∷ 0x01 ∷ []) (RepeatedKey 10) refl refl (λ e. cc)
