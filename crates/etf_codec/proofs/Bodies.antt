-- What follows each tag.
use Rattle.std.proofs.Common.{◌≡◌, ◌≢◌, ℕ, pos, true, false, ◌==◌, Ok, refl, arith}
use Rattle.std.proofs.lemmas.Bool.Decides.{nat_tests}
use Rattle.dets_term.specs.TermValue.{integer, nil}
use Rattle.etf_model.specs.declared.tags.TheConstants.{SMALL_INTEGER, INTEGER, SMALL_BIG, LARGE_BIG, ATOM, SMALL_ATOM, ATOM_UTF8, SMALL_ATOM_UTF8, SMALL_TUPLE}
use Rattle.etf_model.specs.declared.tags.TheConstants.{LARGE_TUPLE, STRING, LIST, BINARY, BIT_BINARY, MAP}
use Rattle.etf_model.specs.Format.{Position, byte, changed}
use Rattle.etf_model.specs.Layout.{signed_32}
use Rattle.etf_model.specs.Spelling.{number, big_integer, name, binary, bit_binary, string, tuple_of, list_of, map_format, part_at, tail_at, body_of}

apart : (tag n : ℕ) → tag ≢ n → (tag == n) ≡ false
apart tag n h = grind (arith, nat_tests)

pub body-small_integer : (levels tag term : ℕ) (position : Position) → tag ≡ SMALL_INTEGER
    → (body_of levels tag).read term position ≡ (changed byte (λ x. integer (pos x))).read term position
unfolding body_of
body-small_integer levels tag term position e = rw e refl

pub body-integer_32 : (levels tag term : ℕ) (position : Position) → tag ≡ INTEGER
    → (body_of levels tag).read term position ≡ (changed (number 4) (λ n. integer (signed_32 n))).read term position
unfolding body_of
body-integer_32 levels tag term position e = rw e refl

pub body-small_big : (levels tag term : ℕ) (position : Position) → tag ≡ SMALL_BIG
    → (body_of levels tag).read term position ≡ (big_integer 1).read term position
unfolding body_of
body-small_big levels tag term position e = rw e refl

pub body-large_big : (levels tag term : ℕ) (position : Position) → tag ≡ LARGE_BIG
    → (body_of levels tag).read term position ≡ (big_integer 4).read term position
unfolding body_of
body-large_big levels tag term position e = rw e refl

pub body-atom : (levels tag term : ℕ) (position : Position) → tag ≡ ATOM → (body_of levels tag).read term position ≡ (name false 2).read term position
unfolding body_of
body-atom levels tag term position e = rw e refl

pub body-small_atom : (levels tag term : ℕ) (position : Position) → tag ≡ SMALL_ATOM
    → (body_of levels tag).read term position ≡ (name false 1).read term position
unfolding body_of
body-small_atom levels tag term position e = rw e refl

pub body-atom_utf8 : (levels tag term : ℕ) (position : Position) → tag ≡ ATOM_UTF8 → (body_of levels tag).read term position ≡ (name true 2).read term position
unfolding body_of
body-atom_utf8 levels tag term position e = rw e refl

pub body-small_atom_utf8 : (levels tag term : ℕ) (position : Position) → tag ≡ SMALL_ATOM_UTF8
    → (body_of levels tag).read term position ≡ (name true 1).read term position
unfolding body_of
body-small_atom_utf8 levels tag term position e = rw e refl

pub body-binary : (levels tag term : ℕ) (position : Position) → tag ≡ BINARY → (body_of levels tag).read term position ≡ binary.read term position
unfolding body_of
body-binary levels tag term position e = rw e refl

pub body-bit_binary : (levels tag term : ℕ) (position : Position) → tag ≡ BIT_BINARY → (body_of levels tag).read term position ≡ bit_binary.read term position
unfolding body_of
body-bit_binary levels tag term position e = rw e refl

pub body-small_tuple : (levels tag term : ℕ) (position : Position) → tag ≡ SMALL_TUPLE
    → (body_of levels tag).read term position ≡ (tuple_of (part_at levels) levels 1).read term position
unfolding body_of
body-small_tuple levels tag term position e = rw e refl

pub body-large_tuple : (levels tag term : ℕ) (position : Position) → tag ≡ LARGE_TUPLE
    → (body_of levels tag).read term position ≡ (tuple_of (part_at levels) levels 4).read term position
unfolding body_of
body-large_tuple levels tag term position e = rw e refl

pub body-string : (levels tag term : ℕ) (position : Position) → tag ≡ STRING → (body_of levels tag).read term position ≡ (string levels).read term position
unfolding body_of
body-string levels tag term position e = rw e refl

pub body-list : (levels tag term : ℕ) (position : Position) → tag ≡ LIST
    → (body_of levels tag).read term position ≡ (list_of (part_at levels) (tail_at levels) levels).read term position
unfolding body_of
body-list levels tag term position e = rw e refl

pub body-map : (levels tag term : ℕ) (position : Position) → tag ≡ MAP
    → (body_of levels tag).read term position ≡ (map_format (part_at levels) levels).read term position
unfolding body_of
body-map levels tag term position e = rw e refl

pub body-empty_list : (levels tag term : ℕ) (position : Position) → tag ≢ SMALL_INTEGER → tag ≢ INTEGER → tag ≢ SMALL_BIG → tag ≢ LARGE_BIG → tag ≢ ATOM
    → tag ≢ SMALL_ATOM → tag ≢ ATOM_UTF8 → tag ≢ SMALL_ATOM_UTF8 → tag ≢ SMALL_TUPLE → tag ≢ LARGE_TUPLE → tag ≢ STRING → tag ≢ LIST → tag ≢ BINARY
    → tag ≢ BIT_BINARY → tag ≢ MAP
    → (body_of levels tag).read term position ≡ Ok (nil, position)
unfolding body_of
body-empty_list levels tag term position no_small_integer no_integer no_small_big no_large_big no_atom no_small_atom no_atom_utf8 no_small_atom_utf8
    no_small_tuple no_large_tuple no_string no_list no_binary no_bit_binary no_map =
    rw (
      apart tag SMALL_INTEGER no_small_integer,
      apart tag INTEGER no_integer,
      apart tag SMALL_BIG no_small_big,
      apart tag LARGE_BIG no_large_big,
      apart tag ATOM no_atom,
      apart tag SMALL_ATOM no_small_atom,
      apart tag ATOM_UTF8 no_atom_utf8,
      apart tag SMALL_ATOM_UTF8 no_small_atom_utf8,
      apart tag SMALL_TUPLE no_small_tuple,
      apart tag LARGE_TUPLE no_large_tuple,
      apart tag STRING no_string,
      apart tag LIST no_list,
      apart tag BINARY no_binary,
      apart tag BIT_BINARY no_bit_binary,
      apart tag MAP no_map,
    ) refl
