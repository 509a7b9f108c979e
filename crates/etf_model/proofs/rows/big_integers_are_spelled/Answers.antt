use Rattle.std.proofs.Common.{◌-◌, ◌^◌, [], ◌∷◌, ◌++◌, negsuc, replicate, refl}
use Rattle.dets_term.specs.TermValue.{integer}
use Rattle.dets_term.specs.Written.{number}
use Rattle.etf_model.proofs.ByReading.{spelled}
use Rattle.etf_model.proofs.rows.big_integers_are_spelled.Goals as goal

pub returns-clause-past_32_bits : goal.returns-clause-past_32_bits
returns-clause-past_32_bits c =
    spelled (number (2 ^ 31)) (0x83 ∷ 0x6e ∷ 0x04 ∷ 0x00 ∷ 0x00 ∷ 0x00 ∷ 0x00 ∷ 0x80 ∷ []) refl

pub returns-clause-below_32_bits : goal.returns-clause-below_32_bits
returns-clause-below_32_bits c =
    spelled (integer (negsuc (2 ^ 31))) (0x83 ∷ 0x6e ∷ 0x04 ∷ 0x01 ∷ 0x01 ∷ 0x00 ∷ 0x00 ∷ 0x80 ∷ []) refl

pub returns-clause-greatest : goal.returns-clause-greatest
returns-clause-greatest c =
    spelled (number (2 ^ 127 - 1)) (0x83 ∷ 0x6e ∷ 0x10 ∷ 0x00 ∷ (replicate 15 0xff ++ 0x7f ∷ [])) refl

pub returns-clause-least : goal.returns-clause-least
returns-clause-least c =
    spelled (integer (negsuc (2 ^ 127 - 1))) (0x83 ∷ 0x6e ∷ 0x10 ∷ 0x01 ∷ (replicate 15 0x00 ++ 0x80 ∷ [])) refl

pub returns-clause-small : goal.returns-clause-small
returns-clause-small c =
    spelled (number 5) (0x83 ∷ 0x6e ∷ 0x01 ∷ 0x00 ∷ 0x05 ∷ []) refl

pub returns-clause-high_zeros : goal.returns-clause-high_zeros
returns-clause-high_zeros c =
    spelled (number 5) (0x83 ∷ 0x6e ∷ 0x14 ∷ 0x00 ∷ 0x05 ∷ replicate 19 0x00) refl

pub returns-clause-four_bytes_of_length : goal.returns-clause-four_bytes_of_length
returns-clause-four_bytes_of_length c =
    spelled (number 5) (0x83 ∷ 0x6f ∷ 0x00 ∷ 0x00 ∷ 0x00 ∷ 0x01 ∷ 0x00 ∷ 0x05 ∷ []) refl

pub returns-clause-other_sign : goal.returns-clause-other_sign
returns-clause-other_sign c =
    spelled (integer (negsuc 4)) (0x83 ∷ 0x6e ∷ 0x01 ∷ 0x02 ∷ 0x05 ∷ []) refl

pub returns-clause-no_byte : goal.returns-clause-no_byte
returns-clause-no_byte c =
    spelled (number 0) (0x83 ∷ 0x6e ∷ 0x00 ∷ 0x01 ∷ []) refl

pub returns-clause-minus_zero : goal.returns-clause-minus_zero
returns-clause-minus_zero c =
    spelled (number 0) (0x83 ∷ 0x6e ∷ 0x01 ∷ 0x01 ∷ 0x00 ∷ []) refl
