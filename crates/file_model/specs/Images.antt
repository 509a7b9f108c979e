-- What of an image's bytes its view depends on. This project's own.
use Rattle.std.specs.Prelude.{◌≡◌, ◌<◌, ℕ, ◌+◌, ◌%◌, ◌^◌, true, cond, ◌==◌, List, take, Option, Some, None}
use Rattle.file_model.specs.declared.head.Head.{Head}
use Rattle.file_model.specs.Layout.{unit_bytes}
use Rattle.space_model.specs.Sizes.{head_size}
use Rattle.file_model.specs.Block.{BlockHead, block_head}
use Rattle.file_model.specs.View.{units_in}

-- how many bytes from a unit on are judged: those of its head, and of its payload where the head is well formed and the
-- block is aligned
abbrev pub judged_by_head : ℕ → Option BlockHead → ℕ
judged_by_head unit None = head_size
judged_by_head unit (Some h) = cond (unit % 2 ^ h.exp == 0) (head_size + h.count) head_size

abbrev pub judged_size : ℕ → ℕ → List ℕ → ℕ
judged_size per_segment unit bytes = judged_by_head unit (block_head per_segment (take head_size bytes))

-- Two images agree, seen with a header: on how many units count, on their gates, and on the bytes that are judged behind
-- the open ones.
pub record ImagesAgree (per_segment : ℕ) (h : Head) (old new : List ℕ) : Type 0 where
  pub count : (units_in per_segment h new).count ≡ (units_in per_segment h old).count
  pub gates : (u : ℕ) → u < (units_in per_segment h old).count → (units_in per_segment h new).is_open u ≡ (units_in per_segment h old).is_open u
  pub bytes : (u : ℕ) → u < (units_in per_segment h old).count → (units_in per_segment h old).is_open u ≡ true
      → take (judged_size per_segment u (unit_bytes per_segment old u)) (unit_bytes per_segment new u)
      ≡ take (judged_size per_segment u (unit_bytes per_segment old u)) (unit_bytes per_segment old u)
