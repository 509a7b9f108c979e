-- The header of a table's file: two copies in its first page, each with a gate and a body. This project's own.
use Rattle.std.specs.Prelude.{ℕ, ◌+◌, ◌*◌, Bool, true, false, cond, not, ◌&&◌, ◌==◌, nat_lt, nat_le, min, List, [], ◌∷◌, ◌++◌, length, drop}
use Rattle.std.specs.Prelude.{replicate, slice_index, slice_range, Option, Some, None, Result, Ok, Err}
use Rattle.std.specs.List.{list_all}
use Rattle.std.specs.Str.{bytes_eq}
use Rattle.byteorder.specs.Endian.{big_number, big_bytes}
use Rattle.space_model.specs.Sizes.{segment_units}
use Rattle.term_model.specs.declared.kind.Kind.{Kind}
use Rattle.term_model.specs.declared.kind.Kind.TheVariants.{Set, Bag, DuplicateBag}
use Rattle.file_model.specs.declared.head.Head.{Head}
use Rattle.file_model.specs.declared.head.Located.{Located}
use Rattle.file_model.specs.declared.head.FileState.{FileState}
use Rattle.file_model.specs.declared.head.FileState.TheVariants.{Closed, Dirty}
use Rattle.file_model.specs.declared.head.Unreadable.{Unreadable}
use Rattle.file_model.specs.declared.head.Unreadable.TheVariants.{NotDets, Version}
use Rattle.file_model.specs.Layout.{page_size, copy_at, body_at, body_size, is_open_at, page_of, segments_within, whole_segments}

-- the one version of the file that is read
abbrev pub the_version : ℕ
the_version = 1

-- the units of a segment; every file has the same number
abbrev pub units_per_segment : Head → ℕ
units_per_segment h = segment_units

abbrev pub most_segments : ℕ
most_segments = 8000

-- ---- the fields in a body, as numbers

-- the four bytes in front
abbrev pub magic : List ℕ
magic = 68 ∷ 84 ∷ 66 ∷ 76 ∷ []

abbrev pub state_number : FileState → ℕ
state_number Closed = 0
state_number Dirty = 1

abbrev pub state_of : ℕ → Option FileState
state_of n = cond (n == 0) (Some Closed) (cond (n == 1) (Some Dirty) None)

abbrev pub kind_number : Kind → ℕ
kind_number Set = 0
kind_number Bag = 1
kind_number DuplicateBag = 2

abbrev pub kind_of : ℕ → Option Kind
kind_of n = cond (n == 0) (Some Set) (cond (n == 1) (Some Bag) (cond (n == 2) (Some DuplicateBag) None))

-- the number that names no unit
abbrev pub no_unit : ℕ
no_unit = 4294967295

abbrev pub index_number : Option ℕ → ℕ
index_number None = no_unit
index_number (Some unit) = unit

abbrev pub index_of : ℕ → Option ℕ
index_of n = cond (n == no_unit) None (Some n)

-- ---- ranges

-- A dirty header names no index, and an index lies in the header's segments.
abbrev pub may_name : FileState → ℕ → Option ℕ → Bool
may_name state units None = true
may_name Dirty units (Some unit) = false
may_name Closed units (Some unit) = nat_lt unit units

-- the fields are in range
abbrev pub is_allowed : Head → Bool
is_allowed h =
    h.version == the_version
    && (nat_le 1 h.keypos
    && (nat_le h.keypos 65535
    && (nat_le 1 h.max_segments
    && (nat_le h.max_segments most_segments
    && (nat_le h.segments h.max_segments
    && may_name h.state (units_per_segment h * h.segments) h.index)))))

-- ---- a body, written and read

-- the body of a header, of 32 bytes
abbrev pub body_of : Head → List ℕ
body_of h =
    magic
    ++ (h.version ∷ state_number h.state ∷ kind_number h.kind ∷ 0 ∷ [])
    ++ big_bytes 4 h.keypos ++ big_bytes 4 h.segments ++ big_bytes 4 h.max_segments ++ big_bytes 4 (index_number h.index)
    ++ replicate 8 0

-- the number in the four bytes from a place on
abbrev pub number_at : List ℕ → ℕ → ℕ
number_at body at = big_number 4 (drop at body)

-- a byte and the last eight are zero
abbrev pub has_zeros : List ℕ → Bool
has_zeros body = slice_index body 7 == 0 && list_all (λ b. b == 0) (slice_range body 24 32)

abbrev pub if_allowed : Head → Result Head Unreadable
if_allowed h = cond (is_allowed h) (Ok h) (Err NotDets)

abbrev pub head_with : List ℕ → Option FileState → Option Kind → Result Head Unreadable
head_with body None kind = Err NotDets
head_with body (Some state) None = Err NotDets
head_with body (Some state) (Some kind) =
    if_allowed (record {
      version = the_version;
      state = state;
      kind = kind;
      keypos = number_at body 8;
      segments = number_at body 12;
      max_segments = number_at body 16;
      index = index_of (number_at body 20);
    })

-- What a body says: its first bytes are judged first, then its version, and then all else.
abbrev pub head_in : List ℕ → Result Head Unreadable
head_in body =
    cond (not (bytes_eq (slice_range body 0 4) magic)) (Err NotDets)
    (cond (not (slice_index body 4 == the_version)) (Err (Version (slice_index body 4)))
    (cond (has_zeros body) (head_with body (state_of (slice_index body 5)) (kind_of (slice_index body 6))) (Err NotDets)))

-- ---- the copies

-- whether the second copy is current: the first one is where its gate is open, else the second where its gate is open
abbrev pub current_copy : List ℕ → Option Bool
current_copy page = cond (is_open_at page (copy_at false)) (Some false) (cond (is_open_at page (copy_at true)) (Some true) None)

abbrev pub body_in : List ℕ → Bool → List ℕ
body_in page second = slice_range page (body_at second) (body_at second + body_size)

abbrev pub head_of_copy : List ℕ → Option Bool → Result Head Unreadable
head_of_copy page None = Err NotDets
head_of_copy page (Some second) = head_in (body_in page second)

abbrev pub head_of_page : List ℕ → Result Head Unreadable
head_of_page page = head_of_copy page (current_copy page)

-- ---- the header of an image

unfoldable pub head_of : List ℕ → Result Head Unreadable
head_of image = cond (nat_lt (length image) page_size) (Err NotDets) (head_of_page (page_of image))

-- how many segments count, where they have so many units: those of the header that lie wholly in the image
abbrev pub segments_in : ℕ → Head → List ℕ → ℕ
segments_in per_segment h image = min h.segments (whole_segments per_segment image)

abbrev pub segments_of : Head → List ℕ → ℕ
segments_of h image = segments_in (units_per_segment h) h image

abbrev pub located_at : List ℕ → ℕ → Option Bool → Result Head Unreadable → Result Located Unreadable
located_at page size copy (Err why) = Err why
located_at page size None (Ok h) = Err NotDets
located_at page size (Some second) (Ok h) = Ok (record {
  head = h;
  second = second;
  other_gate = is_open_at page (copy_at (not second));
  whole = min h.segments (segments_within (units_per_segment h) size);
})

-- the header and where it was found
abbrev pub located : List ℕ → Result Located Unreadable
located image = located_at (page_of image) (length image) (current_copy (page_of image)) (head_of image)
