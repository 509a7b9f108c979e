use Rattle.std.proofs.Common.{[], ◌∷◌, refl}
use lib.Utf8.{encode}
use Rattle.std.specs.Str.{is_utf8, chars}
use Rattle.etf_model.proofs.ByReading.{part}
use Rattle.etf_model.proofs.rows.bytes_may_end_too_early.Goals as goal

pub returns-clause-nothing : goal.returns-clause-nothing
unfolding encode is_utf8 chars
returns-clause-nothing c =
    part [] refl

pub returns-clause-version : goal.returns-clause-version
unfolding encode is_utf8 chars
returns-clause-version c =
    part (0x83 ∷ []) refl

pub returns-clause-one_element : goal.returns-clause-one_element
unfolding encode is_utf8 chars
returns-clause-one_element c =
    part (0x83 ∷ 0x68 ∷ 0x02 ∷ 0x61 ∷ []) refl

pub returns-clause-no_tail : goal.returns-clause-no_tail
unfolding encode is_utf8 chars
returns-clause-no_tail c =
    part (0x83 ∷ 0x6c ∷ 0x00 ∷ 0x00 ∷ 0x00 ∷ 0x01 ∷ 0x61 ∷ 0x01 ∷ []) refl

pub returns-clause-great_length : goal.returns-clause-great_length
unfolding encode is_utf8 chars
returns-clause-great_length c =
    part (0x83 ∷ 0x6c ∷ 0xff ∷ 0xff ∷ 0xff ∷ 0xff ∷ 0x61 ∷ 0x01 ∷ []) refl

pub returns-clause-half_a_character : goal.returns-clause-half_a_character
unfolding encode is_utf8 chars
returns-clause-half_a_character c =
    part (0x83 ∷ 0x77 ∷ 0x02 ∷ 0xc3 ∷ []) refl
