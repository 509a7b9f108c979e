-- Small files that worked rows look into.
use Rattle.std.specs.Prelude.{ℕ, ◌-◌, Bool, cond, ◌==◌, List, [], ◌∷◌, ◌++◌, replicate, None, Some, Ok, Err}
use Rattle.term_model.specs.TermValue.{TermValue}
use Rattle.term_model.specs.Written.{word, number, pair}
use Rattle.term_model.specs.declared.kind.Kind.TheVariants.{Set}
use Rattle.file_model.specs.declared.head.Head.{Head}
use Rattle.file_model.specs.declared.head.FileState.TheVariants.{Closed, Dirty}
use Rattle.file_model.specs.declared.reject.Reason.TheVariants.{BadHead}
use Rattle.file_model.specs.Block.{Block, Standing}
use Rattle.file_model.specs.View.{Units, View, view}

-- a set with keypos 1 and one segment of at most 8,000: closed, with its index at unit 64, and dirty
abbrev pub closed_head : Head
closed_head = record { version = 1; state = Closed; kind = Set; keypos = 1; segments = 1; max_segments = 8000; index = Some 64 }

abbrev pub dirty_head : Head
dirty_head = record { version = 1; state = Dirty; kind = Set; keypos = 1; segments = 1; max_segments = 8000; index = None }

-- their bodies
abbrev pub closed_body : List ℕ
closed_body =
    0x44 ∷ 0x54 ∷ 0x42 ∷ 0x4c ∷ 0x01 ∷ 0x00 ∷ 0x00 ∷ 0x00 ∷ 0x00 ∷ 0x00 ∷ 0x00 ∷ 0x01 ∷ 0x00 ∷ 0x00 ∷ 0x00 ∷ 0x01
    ∷ 0x00 ∷ 0x00 ∷ 0x1f ∷ 0x40 ∷ 0x00 ∷ 0x00 ∷ 0x00 ∷ 0x40 ∷ 0x00 ∷ 0x00 ∷ 0x00 ∷ 0x00 ∷ 0x00 ∷ 0x00 ∷ 0x00 ∷ 0x00 ∷ []

abbrev pub dirty_body : List ℕ
dirty_body =
    0x44 ∷ 0x54 ∷ 0x42 ∷ 0x4c ∷ 0x01 ∷ 0x01 ∷ 0x00 ∷ 0x00 ∷ 0x00 ∷ 0x00 ∷ 0x00 ∷ 0x01 ∷ 0x00 ∷ 0x00 ∷ 0x00 ∷ 0x01
    ∷ 0x00 ∷ 0x00 ∷ 0x1f ∷ 0x40 ∷ 0xff ∷ 0xff ∷ 0xff ∷ 0xff ∷ 0x00 ∷ 0x00 ∷ 0x00 ∷ 0x00 ∷ 0x00 ∷ 0x00 ∷ 0x00 ∷ 0x00 ∷ []

-- the front of a page, with the gates and the bodies of both copies
abbrev pub page_with : ℕ → List ℕ → ℕ → List ℕ → List ℕ
page_with gate body other_gate other_body =
    gate ∷ (replicate 15 0 ++ body ++ replicate 464 0 ++ other_gate ∷ (replicate 15 0 ++ other_body))

-- ---- blocks

abbrev pub set_block : ℕ → ℕ → TermValue → TermValue → Block
set_block unit exp key value = record { unit = unit; exp = exp; key = key; objects = pair key value ∷ [] }

-- the block of {k,1} in one unit, and a byte behind it
abbrev pub block_bytes : List ℕ
block_bytes =
    0x00 ∷ 0x00 ∷ 0x00 ∷ 0x00 ∷ 0x00 ∷ 0x00 ∷ 0x00 ∷ 0x0e
    ∷ 0x83 ∷ 0x6c ∷ 0x00 ∷ 0x00 ∷ 0x00 ∷ 0x01 ∷ 0x68 ∷ 0x02 ∷ 0x77 ∷ 0x01 ∷ 0x6b ∷ 0x61 ∷ 0x01 ∷ 0x6a ∷ 0x2a ∷ []

-- ---- views of eight units

abbrev pub standing_among : List Block → ℕ → Standing
standing_among [] u = Err BadHead
standing_among (b ∷ bs) u = cond (b.unit == u) (Ok b) (standing_among bs u)

-- these blocks, and these gates open
abbrev pub small_units : List Block → (ℕ → Bool) → Units
small_units blocks is_open = record { count = 8; is_open = is_open; stands = standing_among blocks }

abbrev pub small_view : List Block → (ℕ → Bool) → View
small_view blocks is_open = view dirty_head (small_units blocks is_open)

-- {a,1} in unit 0, and {a,2} in unit 1
abbrev pub replaced : List Block
replaced = set_block 0 0 (word "a") (number 1) ∷ set_block 1 0 (word "a") (number 2) ∷ []

-- {1,1} in the units 0 and 1, {2,1} in unit 1, and {1,2} in unit 2
abbrev pub hostile : List Block
hostile = set_block 0 1 (number 1) (number 1) ∷ set_block 1 0 (number 2) (number 1) ∷ set_block 2 0 (number 1) (number 2) ∷ []

-- ---- a file whose segments have eight units

-- A page and two segments, of which the second is cut by so many bytes. The gates of the units 0 and 2 are open, and of
-- the first one in the second segment. At unit 0 stands {k,1}; elsewhere all bytes are zero.
abbrev pub small_file : ℕ → List ℕ
small_file cut =
    replicate 4096 0
    ++ (165 ∷ 0 ∷ 165 ∷ replicate 5 0) ++ block_bytes ++ replicate 489 0
    ++ 165 ∷ replicate (519 - cut) 0
