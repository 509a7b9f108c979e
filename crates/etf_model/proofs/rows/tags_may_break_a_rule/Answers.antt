use Rattle.std.proofs.Common.{[], ◌∷◌, refl}
use Rattle.etf_model.specs.declared.fault.EtfFault.TheVariants.{NotVersion, Unsupported, Compressed}
use Rattle.etf_model.proofs.ByReading.{broken}
use Rattle.etf_model.proofs.rows.tags_may_break_a_rule.Goals as goal

pub returns-clause-other_version : goal.returns-clause-other_version
returns-clause-other_version c =
    broken (0x82 ∷ []) (NotVersion 0) refl refl (λ e. cc)

pub returns-clause-compressed : goal.returns-clause-compressed
returns-clause-compressed c =
    broken (0x83 ∷ 0x50 ∷ []) (Compressed 1) refl refl (λ e. cc)

pub returns-clause-float : goal.returns-clause-float
returns-clause-float c =
    broken (0x83 ∷ 0x46 ∷ []) (Unsupported 1 70) refl refl (λ e. cc)

pub returns-clause-compressed_inside : goal.returns-clause-compressed_inside
returns-clause-compressed_inside c =
    broken (0x83 ∷ 0x68 ∷ 0x01 ∷ 0x50 ∷ []) (Unsupported 3 80) refl refl (λ e. cc)

pub returns-clause-tail_of_bytes : goal.returns-clause-tail_of_bytes
returns-clause-tail_of_bytes c =
    broken (0x83 ∷ 0x6c ∷ 0x00 ∷ 0x00 ∷ 0x00 ∷ 0x01 ∷ 0x61 ∷ 0x01 ∷ 0x6b ∷ []) (Unsupported 8 107) refl refl (λ e. cc)

pub returns-clause-tail_that_is_a_list : goal.returns-clause-tail_that_is_a_list
returns-clause-tail_that_is_a_list c =
    broken (0x83 ∷ 0x6c ∷ 0x00 ∷ 0x00 ∷ 0x00 ∷ 0x01 ∷ 0x61 ∷ 0x01 ∷ 0x6c ∷ []) (Unsupported 8 108) refl refl (λ e. cc)

pub returns-clause-tail_of_nothing : goal.returns-clause-tail_of_nothing
returns-clause-tail_of_nothing c =
    broken (0x83 ∷ 0x6c ∷ 0x00 ∷ 0x00 ∷ 0x00 ∷ 0x00 ∷ 0x61 ∷ []) (Unsupported 6 97) refl refl (λ e. cc)
