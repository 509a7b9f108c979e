use Rattle.std.proofs.Common.{[], ◌∷◌, ◌++◌, replicate, refl}
use Rattle.std.specs.List.{concat}
use Rattle.dets_term.specs.Written.{boxed}
use Rattle.etf_model.specs.declared.fault.EtfFault.TheVariants.{Depth}
use Rattle.etf_model.proofs.ByReading.{broken, part, spelled}
use Rattle.etf_model.proofs.rows.terms_go_down_to_level_256.Goals as goal

pub returns-clause-no_part_at_the_last : goal.returns-clause-no_part_at_the_last
returns-clause-no_part_at_the_last c =
    part (0x83 ∷ (concat (replicate 255 (0x68 ∷ 0x01 ∷ [])) ++ 0x6c ∷ 0x00 ∷ 0x00 ∷ 0x00 ∷ 0x00 ∷ [])) refl

pub returns-clause-deepest : goal.returns-clause-deepest
returns-clause-deepest c =
    spelled (boxed 255) (0x83 ∷ (concat (replicate 255 (0x6c ∷ 0x00 ∷ 0x00 ∷ 0x00 ∷ 0x01 ∷ [])) ++ 0x61 ∷ 0x00 ∷ replicate 255 0x6a)) refl

pub returns-clause-tuple : goal.returns-clause-tuple
returns-clause-tuple c =
    broken (0x83 ∷ concat (replicate 256 (0x68 ∷ 0x01 ∷ []))) (Depth 511) refl refl (λ e. cc)

pub returns-clause-list : goal.returns-clause-list
returns-clause-list c =
    broken (0x83 ∷ (concat (replicate 255 (0x68 ∷ 0x01 ∷ [])) ++ 0x6c ∷ 0x00 ∷ 0x00 ∷ 0x00 ∷ 0x01 ∷ [])) (Depth 511) refl refl (λ e. cc)

pub returns-clause-string : goal.returns-clause-string
returns-clause-string c =
    broken (0x83 ∷ (concat (replicate 255 (0x68 ∷ 0x01 ∷ [])) ++ 0x6b ∷ 0x01 ∷ [])) (Depth 511) refl refl (λ e. cc)
