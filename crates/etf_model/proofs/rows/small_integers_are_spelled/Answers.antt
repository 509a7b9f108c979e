use Rattle.std.proofs.Common.{◌-◌, ◌^◌, [], ◌∷◌, negsuc, refl}
use Rattle.dets_term.specs.TermValue.{integer}
use Rattle.dets_term.specs.Written.{number}
use Rattle.etf_model.proofs.ByReading.{spelled}
use Rattle.etf_model.proofs.rows.small_integers_are_spelled.Goals as goal

pub returns-clause-zero : goal.returns-clause-zero
returns-clause-zero c =
    spelled (number 0) (0x83 ∷ 0x61 ∷ 0x00 ∷ []) refl

pub returns-clause-greatest_byte : goal.returns-clause-greatest_byte
returns-clause-greatest_byte c =
    spelled (number 255) (0x83 ∷ 0x61 ∷ 0xff ∷ []) refl

pub returns-clause-past_a_byte : goal.returns-clause-past_a_byte
returns-clause-past_a_byte c =
    spelled (number 256) (0x83 ∷ 0x62 ∷ 0x00 ∷ 0x00 ∷ 0x01 ∷ 0x00 ∷ []) refl

pub returns-clause-minus_one : goal.returns-clause-minus_one
returns-clause-minus_one c =
    spelled (integer (negsuc 0)) (0x83 ∷ 0x62 ∷ 0xff ∷ 0xff ∷ 0xff ∷ 0xff ∷ []) refl

pub returns-clause-greatest : goal.returns-clause-greatest
returns-clause-greatest c =
    spelled (number (2 ^ 31 - 1)) (0x83 ∷ 0x62 ∷ 0x7f ∷ 0xff ∷ 0xff ∷ 0xff ∷ []) refl

pub returns-clause-least : goal.returns-clause-least
returns-clause-least c =
    spelled (integer (negsuc (2 ^ 31 - 1))) (0x83 ∷ 0x62 ∷ 0x80 ∷ 0x00 ∷ 0x00 ∷ 0x00 ∷ []) refl

pub returns-clause-longer : goal.returns-clause-longer
returns-clause-longer c =
    spelled (number 255) (0x83 ∷ 0x62 ∷ 0x00 ∷ 0x00 ∷ 0x00 ∷ 0xff ∷ []) refl
