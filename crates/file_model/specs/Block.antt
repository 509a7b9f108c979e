-- What stands at a unit: a block, which holds all objects of one key, or the first reason why it is none. This project's own.
use Rattle.std.specs.Prelude.{ℕ, ◌-◌, ◌%◌, ◌^◌, Bool, true, cond, ◌&&◌, ◌==◌, nat_le, List, [], ◌∷◌, length, take, drop, Option, Some, None, Result, Ok, Err}
use Rattle.std.specs.List.{list_all}
use Rattle.std.specs.Ordering.{is_lt, is_le}
use Rattle.std.specs.declared.cmp.Ordering.{Ordering}
use Rattle.byteorder.specs.Endian.{big_number}
use Rattle.term_model.specs.TermValue.{TermValue, elements, key}
use Rattle.term_model.specs.Order.{order}
use Rattle.term_model.specs.declared.kind.Kind.{Kind}
use Rattle.term_model.specs.declared.kind.Kind.TheVariants.{Set, Bag, DuplicateBag}
use Rattle.table_model.specs.Table.{has_key}
use Rattle.etf_model.specs.Format.{Reading}
use Rattle.etf_model.specs.Spelling.{spelling}
use Rattle.etf_model.specs.Canonical.{is_proper}
use Rattle.space_model.specs.Sizes.{head_size}
use Rattle.file_model.specs.declared.reject.Reason.{Reason}
use Rattle.file_model.specs.declared.reject.Reason.TheVariants.{BadHead, NotAligned, BadPayload}
use Rattle.file_model.specs.Layout.{run_size, unit_bytes}

pub record Block : Type 0 where
  pub unit : ℕ
  -- it has 2 ^ exp units
  pub exp : ℕ
  pub key : TermValue
  pub objects : List TermValue

abbrev pub Standing : Type 0
Standing = Result Block Reason

-- ---- the head: eight bytes

pub record BlockHead : Type 0 where
  pub exp : ℕ
  -- the bytes of the payload
  pub count : ℕ

-- A block is no larger than a segment, and its payload no larger than the block is behind its head.
abbrev pub is_well_formed : ℕ → BlockHead → Bool
is_well_formed per_segment h = nat_le (2 ^ h.exp) per_segment && nat_le h.count (run_size h.exp - head_size)

abbrev pub if_well_formed : ℕ → Bool → BlockHead → Option BlockHead
if_well_formed per_segment zeros h = cond (zeros && is_well_formed per_segment h) (Some h) None

-- the exponent, three zeros and the length of the payload
abbrev pub block_head : ℕ → List ℕ → Option BlockHead
block_head per_segment (exp ∷ a ∷ b ∷ c ∷ size) =
    if_well_formed per_segment (a == 0 && (b == 0 && c == 0)) (record { exp = exp; count = big_number 4 size })
block_head per_segment fewer = None

-- ---- the payload: all objects of a key in one list

abbrev pub with_none_left : TermValue → List ℕ → Option TermValue
with_none_left t [] = Some t
with_none_left t (x ∷ rest) = None

abbrev pub whole_term : Reading TermValue → Option TermValue
whole_term (Ok r) = with_none_left r.0 r.1.left
whole_term (Err fault) = None

-- the term that bytes spell, with no byte left
unfoldable pub term_in : List ℕ → Option TermValue
term_in bytes = whole_term (spelling.read 0 (record { offset = 0; left = bytes }))

-- the elements of a proper list
abbrev pub proper_elements : Option TermValue → List TermValue
proper_elements None = []
proper_elements (Some t) = cond (is_proper t) (elements t) []

-- each one passes the test with the next one
abbrev pub ascend_by : (Ordering → Bool) → List TermValue → Bool
ascend_by test [] = true
ascend_by test (t ∷ []) = true
ascend_by test (t ∷ u ∷ ts) = test (order t u) && ascend_by test (u ∷ ts)

-- How the objects of a key stand: one in a set, each once in a bag, and any in a duplicate bag; they ascend.
abbrev pub in_order : Kind → List TermValue → Bool
in_order Set objects = nat_le (length objects) 1
in_order Bag objects = ascend_by is_lt objects
in_order DuplicateBag objects = ascend_by is_le objects

abbrev pub if_shared : Kind → ℕ → List TermValue → Option TermValue → Option TermValue
if_shared kind keypos objects None = None
if_shared kind keypos objects (Some k) = cond (list_all (has_key keypos k) objects && in_order kind objects) (Some k) None

-- the key of objects that a kind allows for one key, of which there is at least one
abbrev pub one_key : Kind → ℕ → List TermValue → Option TermValue
one_key kind keypos [] = None
one_key kind keypos (first ∷ rest) = if_shared kind keypos (first ∷ rest) (key first keypos)

abbrev pub block_with : ℕ → ℕ → List TermValue → Option TermValue → Standing
block_with unit exp objects None = Err BadPayload
block_with unit exp objects (Some k) = Ok (record { unit = unit; exp = exp; key = k; objects = objects })

abbrev pub block_of : Kind → ℕ → ℕ → ℕ → List TermValue → Standing
block_of kind keypos unit exp objects = block_with unit exp objects (one_key kind keypos objects)

-- ---- the bytes from a unit on

abbrev pub payload_in : List ℕ → BlockHead → List ℕ
payload_in bytes h = take h.count (drop head_size bytes)

abbrev pub standing_with : Kind → ℕ → ℕ → List ℕ → Option BlockHead → Standing
standing_with kind keypos unit bytes None = Err BadHead
standing_with kind keypos unit bytes (Some h) =
    cond (unit % 2 ^ h.exp == 0) (block_of kind keypos unit h.exp (proper_elements (term_in (payload_in bytes h)))) (Err NotAligned)

-- what stands at a unit by the bytes from there on: its head, then its unit, and then its payload are judged
unfoldable pub standing : ℕ → Kind → ℕ → ℕ → List ℕ → Standing
standing per_segment kind keypos unit bytes = standing_with kind keypos unit bytes (block_head per_segment (take head_size bytes))

-- in an image of a file
abbrev pub stands_at : ℕ → Kind → ℕ → List ℕ → ℕ → Standing
stands_at per_segment kind keypos image u = standing per_segment kind keypos u (unit_bytes per_segment image u)
