use Rattle.std.proofs.Common.{[], ◌∷◌, replicate, refl}
use lib.Utf8.{encode}
use Rattle.std.specs.List.{concat}
use Rattle.std.specs.Str.{is_utf8, chars}
use Rattle.dets_term.specs.TermValue.{atom}
use Rattle.dets_term.specs.Written.{word}
use Rattle.etf_model.proofs.ByReading.{spelled}
use Rattle.etf_model.proofs.rows.atoms_are_spelled.Goals as goal

pub returns-clause-short_utf8 : goal.returns-clause-short_utf8
unfolding encode is_utf8 chars
returns-clause-short_utf8 c =
    spelled (word "k") (0x83 ∷ 0x77 ∷ 0x01 ∷ 0x6b ∷ []) refl

pub returns-clause-long_utf8 : goal.returns-clause-long_utf8
unfolding encode is_utf8 chars
returns-clause-long_utf8 c =
    spelled (word "k") (0x83 ∷ 0x76 ∷ 0x00 ∷ 0x01 ∷ 0x6b ∷ []) refl

pub returns-clause-short_latin : goal.returns-clause-short_latin
unfolding encode is_utf8 chars
returns-clause-short_latin c =
    spelled (word "k") (0x83 ∷ 0x73 ∷ 0x01 ∷ 0x6b ∷ []) refl

pub returns-clause-long_latin : goal.returns-clause-long_latin
unfolding encode is_utf8 chars
returns-clause-long_latin c =
    spelled (word "k") (0x83 ∷ 0x64 ∷ 0x00 ∷ 0x01 ∷ 0x6b ∷ []) refl

pub returns-clause-two_bytes : goal.returns-clause-two_bytes
unfolding encode is_utf8 chars
returns-clause-two_bytes c =
    spelled (atom (0xe4 ∷ [])) (0x83 ∷ 0x77 ∷ 0x02 ∷ 0xc3 ∷ 0xa4 ∷ []) refl

pub returns-clause-one_byte : goal.returns-clause-one_byte
unfolding encode is_utf8 chars
returns-clause-one_byte c =
    spelled (atom (0xe4 ∷ [])) (0x83 ∷ 0x73 ∷ 0x01 ∷ 0xe4 ∷ []) refl

pub returns-clause-bytes_of_latin : goal.returns-clause-bytes_of_latin
unfolding encode is_utf8 chars
returns-clause-bytes_of_latin c =
    spelled (atom (0xc3 ∷ 0xa4 ∷ [])) (0x83 ∷ 0x73 ∷ 0x02 ∷ 0xc3 ∷ 0xa4 ∷ []) refl

pub returns-clause-empty : goal.returns-clause-empty
unfolding encode is_utf8 chars
returns-clause-empty c =
    spelled (atom []) (0x83 ∷ 0x77 ∷ 0x00 ∷ []) refl

pub returns-clause-longest : goal.returns-clause-longest
unfolding encode is_utf8 chars
returns-clause-longest c =
    spelled (atom (replicate 255 0x61)) (0x83 ∷ 0x64 ∷ 0x00 ∷ 0xff ∷ replicate 255 0x61) refl

pub returns-clause-longest_utf8 : goal.returns-clause-longest_utf8
unfolding encode is_utf8 chars
returns-clause-longest_utf8 c =
    spelled (atom (replicate 255 0xe4)) (0x83 ∷ 0x76 ∷ 0x01 ∷ 0xfe ∷ concat (replicate 255 (0xc3 ∷ 0xa4 ∷ []))) refl
