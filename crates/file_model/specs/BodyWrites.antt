-- New blocks on their way into a file: their bytes, what stands then, and what their writes leave alone. This project's own.
use Rattle.std.specs.Prelude.{◌≡◌, ◌≤◌, ◌<◌, ◌⊎◌, ℕ, ◌+◌, ◌-◌, ◌%◌, ◌^◌, List, [], ◌∷◌, ◌++◌, map, length, Some, Ok}
use Rattle.std.specs.List.{AllByRecursion}
use Rattle.byteorder.specs.Endian.{big_bytes}
use Rattle.host_model.specs.Writes.{Write}
use Rattle.term_model.specs.TermValue.{TermValue}
use Rattle.term_model.specs.declared.kind.Kind.{Kind}
use Rattle.file_model.specs.declared.head.Head.{Head}
use Rattle.file_model.specs.Layout.{page_size, unit_at, segment_end, run_size}
use Rattle.file_model.specs.LayoutLaws.{EndsInSegment}
use Rattle.space_model.specs.Sizes.{head_size}
use Rattle.file_model.specs.Block.{Block, term_in, proper_elements, one_key, standing}
use Rattle.file_model.specs.View.{Units, units_in}
use Rattle.file_model.specs.Gates.{HaveBlocks, StandsOpen}

-- ---- the bytes of a block

-- the head: the exponent, three zeros and the length of the payload
abbrev pub head_bytes : ℕ → ℕ → List ℕ
head_bytes exp count = exp ∷ 0 ∷ 0 ∷ 0 ∷ big_bytes 4 count

abbrev pub block_bytes : ℕ → List ℕ → List ℕ
block_bytes exp payload = head_bytes exp (length payload) ++ payload

-- a payload that all of a block's bytes can hold, whose objects have this key
pub record IsPayload (per_segment : ℕ) (kind : Kind) (keypos unit exp : ℕ) (payload : List ℕ) (k : TermValue) : Type 0 where
  pub exponent : 2 ^ exp ≤ per_segment
  pub aligned : unit % 2 ^ exp ≡ 0
  pub fits : length payload ≤ run_size exp - head_size
  -- its length is written in four bytes
  pub count : length payload < 256 ^ 4
  pub key : one_key kind keypos (proper_elements (term_in payload)) ≡ Some k

abbrev pub block_at : ℕ → ℕ → List ℕ → TermValue → Block
block_at unit exp payload k = record { unit = unit; exp = exp; key = k; objects = proper_elements (term_in payload) }

-- ---- bodies

-- the bytes of a new block, and the run of 2 ^ exp units that it is written to
pub record Body : Type 0 where
  pub unit : ℕ
  pub exp : ℕ
  pub bytes : List ℕ

abbrev pub body_write : ℕ → Body → Write
body_write per_segment b = record { at = unit_at per_segment b.unit; bytes = b.bytes }

abbrev pub body_writes : ℕ → List Body → List Write
body_writes per_segment bodies = map (body_write per_segment) bodies

-- a body has room in its run, which lies in one segment that is whole in the image
pub record HasRoom (per_segment : ℕ) (image : List ℕ) (b : Body) : Type 0 where
  pub fits : length b.bytes ≤ run_size b.exp
  pub ends : EndsInSegment per_segment b.unit (2 ^ b.exp)
  pub whole : segment_end per_segment b.unit ≤ length image

-- the run of a body meets that of no block at an open unit
abbrev pub MeetsNone : Units → Body → Type 0
MeetsNone units b = (u : ℕ) (t : Block) → StandsOpen units.is_open units u t → (u + 2 ^ t.exp ≤ b.unit) ⊎ (b.unit + 2 ^ b.exp ≤ u)

-- Bodies may be written to an image, seen with a header: they have room, each open unit has a block, and no body meets one.
pub record MayWrite (per_segment : ℕ) (h : Head) (bodies : List Body) (image : List ℕ) : Type 0 where
  pub page : page_size ≤ length image
  pub room : AllByRecursion (HasRoom per_segment image) bodies
  pub blocks : HaveBlocks (units_in per_segment h image).is_open (units_in per_segment h image)
  pub free : AllByRecursion (MeetsNone (units_in per_segment h image)) bodies

-- no two runs of bodies meet
abbrev pub RunsApart : Body → Body → Type 0
RunsApart b c = (b.unit + 2 ^ b.exp ≤ c.unit) ⊎ (c.unit + 2 ^ c.exp ≤ b.unit)

-- R holds of each element and each one behind it
abbrev pub Pairs : {X : Type 0} → (X → X → Type 0) → List X → Type 0
Pairs R [] = Unit {0}
Pairs R (x ∷ xs) = AllByRecursion (R x) xs × Pairs R xs

-- a body whose bytes are those of a block of its run, whatever follows them
pub record IsPacked (per_segment : ℕ) (h : Head) (b : Body) (t : Block) : Type 0 where
  pub stands : (rest : List ℕ) → standing per_segment h.kind h.keypos b.unit (b.bytes ++ rest) ≡ Ok t
  pub exp : t.exp ≡ b.exp

-- in an image its block stands there
abbrev pub StandsPacked : ℕ → Head → List ℕ → Body → Type 0
StandsPacked per_segment h image b = (t : Block) → IsPacked per_segment h b t → (units_in per_segment h image).stands b.unit ≡ Ok t
