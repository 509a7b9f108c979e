use Rattle.std.proofs.Common.{ℕ, List, ◌⊎◌, inl, inr}
use Rattle.etf_model.specs.Fronts.{Begins}
use Rattle.etf_model.specs.Skipping.{skipped, SkipSpelled, SkipPart, BeginsWithSkipBreak}
use Rattle.etf_model.specs.Beginnings.{one_of_three}
use Rattle.etf_model.specs.SkippingExact.{skipped-exact}
use Rattle.etf_model.proofs.skipping_laws.bytes_begin_with_a_skipped_spelling_or_break_or_are_a_part.Goals as goal

one : (bytes : List ℕ) → ((u : Unit {0}) × Begins (skipped.Whole u) bytes) ⊎ (BeginsWithSkipBreak bytes ⊎ SkipPart bytes)
    → Begins SkipSpelled bytes ⊎ (BeginsWithSkipBreak bytes ⊎ SkipPart bytes)
one bytes (inl (u, s)) = inl s
one bytes (inr other) = inr other

pub returns : goal.returns
returns c bytes = one bytes (one_of_three skipped skipped-exact 0 bytes)
