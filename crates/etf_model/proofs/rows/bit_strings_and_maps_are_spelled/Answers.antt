use Rattle.std.proofs.Common.{true, false, [], ◌∷◌, replicate, refl}
use lib.Utf8.{encode}
use Rattle.std.specs.Str.{is_utf8, chars}
use Rattle.dets_term.specs.TermValue.{nil, map_of, bits}
use Rattle.dets_term.specs.Written.{word, number}
use Rattle.etf_model.proofs.ByReading.{spelled}
use Rattle.etf_model.proofs.rows.bit_strings_and_maps_are_spelled.Goals as goal

pub returns-clause-no_bits : goal.returns-clause-no_bits
unfolding encode is_utf8 chars
returns-clause-no_bits c =
    spelled (bits []) (0x83 ∷ 0x6d ∷ 0x00 ∷ 0x00 ∷ 0x00 ∷ 0x00 ∷ []) refl

pub returns-clause-whole_bytes : goal.returns-clause-whole_bytes
unfolding encode is_utf8 chars
returns-clause-whole_bytes c =
    spelled (bits (true ∷ false ∷ false ∷ false ∷ false ∷ false ∷ true ∷ true ∷ [])) (0x83 ∷ 0x6d ∷ 0x00 ∷ 0x00 ∷ 0x00 ∷ 0x01 ∷ 0x83 ∷ []) refl

pub returns-clause-four_bits : goal.returns-clause-four_bits
unfolding encode is_utf8 chars
returns-clause-four_bits c =
    spelled (bits (replicate 4 true)) (0x83 ∷ 0x4d ∷ 0x00 ∷ 0x00 ∷ 0x00 ∷ 0x01 ∷ 0x04 ∷ 0xf0 ∷ []) refl

pub returns-clause-unused_bits : goal.returns-clause-unused_bits
unfolding encode is_utf8 chars
returns-clause-unused_bits c =
    spelled (bits (replicate 4 true)) (0x83 ∷ 0x4d ∷ 0x00 ∷ 0x00 ∷ 0x00 ∷ 0x01 ∷ 0x04 ∷ 0xff ∷ []) refl

pub returns-clause-eight_bits : goal.returns-clause-eight_bits
unfolding encode is_utf8 chars
returns-clause-eight_bits c =
    spelled (bits (replicate 8 true)) (0x83 ∷ 0x4d ∷ 0x00 ∷ 0x00 ∷ 0x00 ∷ 0x01 ∷ 0x08 ∷ 0xff ∷ []) refl

pub returns-clause-empty_map : goal.returns-clause-empty_map
unfolding encode is_utf8 chars
returns-clause-empty_map c =
    spelled (map_of []) (0x83 ∷ 0x74 ∷ 0x00 ∷ 0x00 ∷ 0x00 ∷ 0x00 ∷ []) refl

pub returns-clause-ascending : goal.returns-clause-ascending
unfolding encode is_utf8 chars
returns-clause-ascending c =
    spelled (map_of ((number 1, word "a") ∷ (number 2, nil) ∷ []))
    (0x83 ∷ 0x74 ∷ 0x00 ∷ 0x00 ∷ 0x00 ∷ 0x02 ∷ 0x61 ∷ 0x01 ∷ 0x77 ∷ 0x01 ∷ 0x61 ∷ 0x61 ∷ 0x02 ∷ 0x6a ∷ []) refl

pub returns-clause-descending : goal.returns-clause-descending
unfolding encode is_utf8 chars
returns-clause-descending c =
    spelled (map_of ((number 1, word "a") ∷ (number 2, nil) ∷ []))
    (0x83 ∷ 0x74 ∷ 0x00 ∷ 0x00 ∷ 0x00 ∷ 0x02 ∷ 0x61 ∷ 0x02 ∷ 0x6a ∷ 0x61 ∷ 0x01 ∷ 0x77 ∷ 0x01 ∷ 0x61 ∷ []) refl
