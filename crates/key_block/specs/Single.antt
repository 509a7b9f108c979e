-- Keys that are found without unpacking: in payloads that spell one object of plain elements canonically. This project's own.
use Rattle.std.specs.Prelude.{◌≡◌, ◌≤◌, ℕ, ◌*◌, ◌-◌, ◌%◌, ◌^◌, true, List, [], ◌∷◌, ◌++◌, length, take, Option, Some, None, FitsSigned}
use Rattle.std.specs.Int.{w32}
use Rattle.std.specs.List.{AllByRecursion, flat_map}
use Rattle.std.specs.Str.{all_scalars, encode_utf8_all}
use Rattle.dets_term.specs.TermValue.{TermValue, integer, atom, tuple, nil, bits, chain, key}
use Rattle.dets_term.specs.IsTerm.{IsTerm}
use Rattle.dets_term.specs.declared.Kind.{Kind}
use Rattle.etf_model.specs.Canonical.{canonical}
use Rattle.file_model.specs.Block.{term_in, proper_elements, one_key}
use Rattle.file_model.specs.Packing.{payload_of}

-- an integer of 32 bits, an atom of at most 255 bytes, whole bytes, or the empty list: its canonical spelling tells its length
abbrev pub IsPlain : TermValue → Type 0
IsPlain (integer z) = FitsSigned w32 z
IsPlain (atom name) = (all_scalars name ≡ true) × (length (encode_utf8_all name) ≤ 255)
IsPlain nil = Unit {0}
IsPlain (bits bs) = (length bs % 8 ≡ 0) × (length bs ≤ 8 * (2 ^ 32 - 1))
IsPlain other = ⊥

abbrev pub ArePlain : List TermValue → Type 0
ArePlain ts = AllByRecursion IsPlain ts

-- The payload is the canonical spelling of a list of one tuple of plain elements, and these bytes are that of its key, without
-- the byte 131 in front.
pub record IsSingleKey (keypos : ℕ) (payload bytes : List ℕ) : Type 0 where
  pub elements : List TermValue
  pub key_term : TermValue
  pub plain : ArePlain elements
  pub few : length elements ≤ 255
  pub spelled : payload ≡ payload_of (tuple (chain elements nil) ∷ [])
  pub has_key : key (tuple (chain elements nil)) keypos ≡ Some key_term
  pub key_bytes : bytes ≡ canonical key_term

-- a payload spells one object, which each kind allows, and these bytes are the canonical spelling of its key, without the byte 131
pub record HasOneObject (kind : Kind) (keypos : ℕ) (payload bytes : List ℕ) : Type 0 where
  pub object : TermValue
  pub key_term : TermValue
  pub elements : proper_elements (term_in payload) ≡ object ∷ []
  pub allowed : one_key kind keypos (object ∷ []) ≡ Some key_term
  pub is_term : IsTerm key_term
  pub key_bytes : bytes ≡ canonical key_term

-- ---- a middle: plain terms in front of some bytes

-- so many bytes in front are the canonical spelling of a plain term
pub record IsPlainFront (bytes : List ℕ) (count : ℕ) : Type 0 where
  pub term : TermValue
  pub plain : IsPlain term
  pub fits : count ≤ length bytes
  pub front : take count bytes ≡ canonical term

-- the length of the canonical spelling of a plain term in front, None just where there is none
abbrev pub Measures : List ℕ → Option ℕ → Type 0
Measures bytes (Some count) = IsPlainFront bytes count
Measures bytes None = (t : TermValue) (rest : List ℕ) → IsPlain t → bytes ≡ canonical t ++ rest → ⊥

-- so many plain terms stand in front of these bytes
pub record ArePlainFront (count : ℕ) (bytes rest : List ℕ) : Type 0 where
  pub terms : List TermValue
  pub plain : ArePlain terms
  pub counted : length terms ≡ count
  pub whole : bytes ≡ flat_map canonical terms ++ rest

-- the key among so many plain elements
pub record IsKeyAmong (keypos arity : ℕ) (bytes key_bytes : List ℕ) : Type 0 where
  pub elements : List TermValue
  pub key_term : TermValue
  pub plain : ArePlain elements
  pub counted : length elements ≡ arity
  pub whole : bytes ≡ flat_map canonical elements
  pub has_key : key (tuple (chain elements nil)) keypos ≡ Some key_term
  pub is_key : key_bytes ≡ canonical key_term
