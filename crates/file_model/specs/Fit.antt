-- Which files are in order, which need repair, and which are one or the other. This project's own.
use Rattle.std.specs.Prelude.{◌≡◌, ℕ, Bool, true, false, not, ◌&&◌, ◌||◌, nat_le, List, [], ◌∷◌, Option, Some, None, Ok}
use Rattle.file_model.specs.declared.head.Head.{Head}
use Rattle.file_model.specs.declared.head.FileState.{FileState}
use Rattle.file_model.specs.declared.head.FileState.TheVariants.{Closed, Dirty}
use Rattle.file_model.specs.declared.reject.Reject.{Reject}
use Rattle.file_model.specs.Layout.{whole_segments}
use Rattle.file_model.specs.Header.{units_per_segment, head_of}
use Rattle.file_model.specs.View.{View, view_of}
use Rattle.file_model.specs.Taken.{rejects}

abbrev pub is_dirty : FileState → Bool
is_dirty Closed = false
is_dirty Dirty = true

-- every segment of the header lies wholly in the image
abbrev pub has_segments : Head → List ℕ → Bool
has_segments h image = nat_le h.segments (whole_segments (units_per_segment h) image)

abbrev pub are_none : List Reject → Bool
are_none [] = true
are_none (r ∷ rs) = false

-- open gates stand at the units of taken blocks alone
abbrev pub has_no_rejects : View → Bool
has_no_rejects v = are_none (rejects v)

-- ---- the index

-- What a header names for an index: none, or blocks that are no well-formed chain. No index is read yet, so each one that
-- is named counts as such.
pub data Index : Type 0 where
  Absent BadChain : Index

abbrev pub index_named : Option ℕ → Index
index_named None = Absent
index_named (Some unit) = BadChain

abbrev pub index_of_file : Head → List ℕ → Index
index_of_file h image = index_named h.index

-- it lists exactly the taken blocks, if it is there
abbrev pub lists_taken : Index → View → Bool
lists_taken Absent v = true
lists_taken BadChain v = false

-- it can tell the taken blocks, or there is none and the open gates do
abbrev pub can_be_read : Index → View → Bool
can_be_read Absent v = has_no_rejects v
can_be_read BadChain v = false

-- ---- a file with this header

-- A dirty file is sound. A closed one is where its segments are there, its open gates stand at taken units alone, and its
-- index, if it has one, lists exactly the taken blocks.
abbrev pub is_sound : Head → List ℕ → Bool
is_sound h image =
    is_dirty h.state
    || (has_segments h image && (has_no_rejects (view_of h image) && lists_taken (index_of_file h image) (view_of h image)))

-- A dirty file needs repair. A closed one does where segments of its header are not there, its index is no well-formed
-- chain, or it has none and some open gate is not that of a taken block.
abbrev pub needs_repair : Head → List ℕ → Bool
needs_repair h image = is_dirty h.state || not (has_segments h image && can_be_read (index_of_file h image) (view_of h image))

-- ---- a file, whatever its header is

pub record IsSound (image : List ℕ) : Type 0 where
  pub head : Head
  pub read : head_of image ≡ Ok head
  pub sound : is_sound head image ≡ true

pub record NeedsRepair (image : List ℕ) : Type 0 where
  pub head : Head
  pub read : head_of image ≡ Ok head
  pub needs : needs_repair head image ≡ true

-- a header that can be read, and the file is sound or needs repair
pub record IsFit (image : List ℕ) : Type 0 where
  pub head : Head
  pub read : head_of image ≡ Ok head
  pub judged : (is_sound head image || needs_repair head image) ≡ true
