use Rattle.std.proofs.Common.{[], ◌∷◌, refl}
use lib.Utf8.{encode}
use Rattle.std.specs.Str.{is_utf8, chars}
use Rattle.dets_term.specs.TermValue.{nil, chain}
use Rattle.dets_term.specs.Written.{word, number, tuple_of, list_of, pair}
use Rattle.etf_model.proofs.ByReading.{spelled}
use Rattle.etf_model.proofs.rows.tuples_and_lists_are_spelled.Goals as goal

pub returns-clause-object : goal.returns-clause-object
unfolding encode is_utf8 chars
returns-clause-object c =
    spelled (pair (word "k") (number 1)) (0x83 ∷ 0x68 ∷ 0x02 ∷ 0x77 ∷ 0x01 ∷ 0x6b ∷ 0x61 ∷ 0x01 ∷ []) refl

pub returns-clause-four_bytes_of_arity : goal.returns-clause-four_bytes_of_arity
unfolding encode is_utf8 chars
returns-clause-four_bytes_of_arity c =
    spelled (tuple_of (number 1 ∷ [])) (0x83 ∷ 0x69 ∷ 0x00 ∷ 0x00 ∷ 0x00 ∷ 0x01 ∷ 0x61 ∷ 0x01 ∷ []) refl

pub returns-clause-no_element : goal.returns-clause-no_element
unfolding encode is_utf8 chars
returns-clause-no_element c =
    spelled (tuple_of []) (0x83 ∷ 0x68 ∷ 0x00 ∷ []) refl

pub returns-clause-empty : goal.returns-clause-empty
unfolding encode is_utf8 chars
returns-clause-empty c =
    spelled nil (0x83 ∷ 0x6a ∷ []) refl

pub returns-clause-empty_by_bytes : goal.returns-clause-empty_by_bytes
unfolding encode is_utf8 chars
returns-clause-empty_by_bytes c =
    spelled nil (0x83 ∷ 0x6b ∷ 0x00 ∷ 0x00 ∷ []) refl

pub returns-clause-empty_by_elements : goal.returns-clause-empty_by_elements
unfolding encode is_utf8 chars
returns-clause-empty_by_elements c =
    spelled nil (0x83 ∷ 0x6c ∷ 0x00 ∷ 0x00 ∷ 0x00 ∷ 0x00 ∷ 0x6a ∷ []) refl

pub returns-clause-by_bytes : goal.returns-clause-by_bytes
unfolding encode is_utf8 chars
returns-clause-by_bytes c =
    spelled (list_of (number 1 ∷ number 2 ∷ [])) (0x83 ∷ 0x6b ∷ 0x00 ∷ 0x02 ∷ 0x01 ∷ 0x02 ∷ []) refl

pub returns-clause-by_elements : goal.returns-clause-by_elements
unfolding encode is_utf8 chars
returns-clause-by_elements c =
    spelled (list_of (number 1 ∷ number 2 ∷ [])) (0x83 ∷ 0x6c ∷ 0x00 ∷ 0x00 ∷ 0x00 ∷ 0x02 ∷ 0x61 ∷ 0x01 ∷ 0x61 ∷ 0x02 ∷ 0x6a ∷ []) refl

pub returns-clause-improper : goal.returns-clause-improper
unfolding encode is_utf8 chars
returns-clause-improper c =
    spelled (chain (number 1 ∷ []) (number 2)) (0x83 ∷ 0x6c ∷ 0x00 ∷ 0x00 ∷ 0x00 ∷ 0x01 ∷ 0x61 ∷ 0x01 ∷ 0x61 ∷ 0x02 ∷ []) refl
