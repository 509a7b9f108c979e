-- The spelling of terms as bytes: the External Term Format chapter of the ERTS User's Guide in this project's profile.
use Rattle.std.specs.Prelude.{ℕ, zero, suc, ◌+◌, ◌*◌, pos, Bool, true, false, cond, not, ◌==◌, nat_le, List, []}
use Rattle.std.specs.List.{list_any}
use Rattle.dets_term.specs.TermValue.{TermValue, integer, atom, tuple, nil, chain, map_of, bits}
use Rattle.dets_term.specs.Order.{is_same}
use Rattle.dets_term.specs.Pairs.{keys, placed}
use Rattle.dets_term.specs.BitString.{bits_of}
use Rattle.etf_model.specs.declared.fault.EtfFault.{EtfFault}
use Rattle.etf_model.specs.declared.fault.EtfFault.TheVariants.{NotVersion, Unsupported, Compressed, IntegerRange, BadAtom, BadBits, RepeatedKey, Depth}
use Rattle.etf_model.specs.declared.tags.TheConstants.{VERSION, COMPRESSED, SMALL_INTEGER, INTEGER, SMALL_BIG, LARGE_BIG, ATOM, SMALL_ATOM, ATOM_UTF8}
use Rattle.etf_model.specs.declared.tags.TheConstants.{SMALL_ATOM_UTF8, SMALL_TUPLE, LARGE_TUPLE, NIL, STRING, LIST, BINARY, BIT_BINARY, MAP}
use Rattle.etf_model.specs.Format.{Format, byte, give, followed, tested, framed, changed, either, times, refused}
use Rattle.etf_model.specs.Fronts.{Begins}
use Rattle.etf_model.specs.Layout.{is_known, begins_tail, signed_32, signed, limit, characters, is_name, may_use, integers}

-- ---- numbers and bytes

-- so many more bytes of a big-endian number that begins with n
abbrev pub number_after : ℕ → ℕ → Format ℕ
number_after n zero = give n
number_after n (suc size) = followed byte (λ x. number_after (256 * n + x) size)

-- a big-endian number of so many bytes
abbrev pub number : ℕ → Format ℕ
number size = number_after 0 size

-- as many bytes as a number in front of them says
abbrev pub sized : ℕ → Format (List ℕ)
sized size = followed (number size) (λ n. times n byte)

-- Whether a term may have parts, below which so many levels are left. One at level 256 may not.
abbrev pub may_have_parts : ℕ → Bool
may_have_parts zero = false
may_have_parts (suc levels) = true

-- The number of parts of a term, as number_after: where it may have none the first byte that is not 0 breaks the rule
-- on depth.
abbrev pub count_after : Bool → ℕ → ℕ → Format ℕ
count_after may n zero = give n
count_after may n (suc size) =
    followed (tested byte (λ x. cond may true (x == 0)) (λ term x. Depth term)) (λ x. count_after may (256 * n + x) size)

abbrev pub count : ℕ → ℕ → Format ℕ
count levels size = count_after (may_have_parts levels) 0 size

-- so many more bytes of a little-endian magnitude of at most this limit, of which m is read and the next byte weighs so
-- much
abbrev pub magnitude_after : ℕ → ℕ → ℕ → ℕ → Format ℕ
magnitude_after most weight m zero = give m
magnitude_after most weight m (suc size) =
    followed (tested byte (λ x. nat_le (m + weight * x) most) (λ term x. IntegerRange term)) (λ x. magnitude_after most (256 * weight) (m + weight * x) size)

-- ---- terms without parts

abbrev pub big_integer : ℕ → Format TermValue
big_integer size =
    followed (number size) (λ n. followed byte (λ sign. changed (magnitude_after (limit sign) 1 0 n) (λ m. integer (signed sign m))))

abbrev pub name : Bool → ℕ → Format TermValue
name utf8 size = changed (tested (sized size) (is_name utf8) (λ term bytes. BadAtom term)) (λ bytes. atom (characters utf8 bytes))

abbrev pub binary : Format TermValue
binary = changed (sized 4) (λ bytes. bits (bits_of bytes 8))

-- its unused bits are passed over
abbrev pub bit_binary : Format TermValue
bit_binary =
    followed (number 4) (λ n. followed (tested byte (may_use n) (λ term x. BadBits term)) (λ used. changed (times n byte) (λ bytes. bits (bits_of bytes used))))

abbrev pub string : ℕ → Format TermValue
string levels = followed (count levels 2) (λ n. changed (times n byte) integers)

-- ---- terms with parts

abbrev pub tuple_of : Format TermValue → ℕ → ℕ → Format TermValue
tuple_of part levels size = followed (count levels size) (λ n. changed (times n part) (λ ts. tuple (chain ts nil)))

-- what ends a list without elements
abbrev pub no_tail : Format TermValue
no_tail = framed (changed (tested byte (λ x. x == NIL) (λ term x. Unsupported term x)) (λ x. nil))

abbrev pub list_of : Format TermValue → Format TermValue → ℕ → Format TermValue
list_of part tail levels =
    followed (count levels 4) (λ n. followed (times n part) (λ ts. changed (either (n == 0) no_tail tail) (λ end. chain ts end)))

-- So many more pairs of a map, each put among these by its key. A key that stands there already is refused.
abbrev pub pairs_after : Format TermValue → List (TermValue × TermValue) → ℕ → Format (List (TermValue × TermValue))
pairs_after part pairs zero = give pairs
pairs_after part pairs (suc n) =
    followed (framed (tested part (λ k. not (list_any (is_same k) (keys pairs))) (λ term k. RepeatedKey term)))
    (λ k. followed part (λ v. pairs_after part (placed (k, v) pairs) n))

-- the pairs in any order
abbrev pub map_format : Format TermValue → ℕ → Format TermValue
map_format part levels = followed (count levels 4) (λ n. changed (pairs_after part [] n) map_of)

-- what follows a tag, one case for each; below the term's level so many levels are left
abbrev pub body : Format TermValue → Format TermValue → ℕ → ℕ → Format TermValue
body part tail levels tag =
    either (tag == SMALL_INTEGER) (changed byte (λ x. integer (pos x)))
    (either (tag == INTEGER) (changed (number 4) (λ n. integer (signed_32 n)))
    (either (tag == SMALL_BIG) (big_integer 1)
    (either (tag == LARGE_BIG) (big_integer 4)
    (either (tag == ATOM) (name false 2)
    (either (tag == SMALL_ATOM) (name false 1)
    (either (tag == ATOM_UTF8) (name true 2)
    (either (tag == SMALL_ATOM_UTF8) (name true 1)
    (either (tag == SMALL_TUPLE) (tuple_of part levels 1)
    (either (tag == LARGE_TUPLE) (tuple_of part levels 4)
    (either (tag == STRING) (string levels)
    (either (tag == LIST) (list_of part tail levels)
    (either (tag == BINARY) binary
    (either (tag == BIT_BINARY) bit_binary
    (either (tag == MAP) (map_format part levels) (give nil)))))))))))))))

-- a tag that passes a test
abbrev pub tag_of : (ℕ → Bool) → (ℕ → ℕ → EtfFault) → Format ℕ
tag_of test fault = tested byte test fault

-- A term with so many levels below it, whose tag passes a test. At no level there is no term: what would stand there
-- was refused as its whole's.
abbrev pub term_with : (ℕ → Bool) → (ℕ → ℕ → EtfFault) → ℕ → Format TermValue
term_with test fault zero = refused (λ here. Depth here)
term_with test fault (suc levels) =
    framed (followed (tag_of test fault)
    (λ tag. body (term_with is_known (λ term x. Unsupported term x) levels) (term_with begins_tail (λ term x. Unsupported term x) levels) levels tag))

-- a term inside another one, and the tail of a list with elements
abbrev pub part_at : ℕ → Format TermValue
part_at levels = term_with is_known (λ term x. Unsupported term x) levels

abbrev pub tail_at : ℕ → Format TermValue
tail_at levels = term_with begins_tail (λ term x. Unsupported term x) levels

-- what follows a tag, below which so many levels are left
unfoldable pub body_of : ℕ → ℕ → Format TermValue
body_of levels tag = body (part_at levels) (tail_at levels) levels tag

-- the outermost term, behind 131: 80 begins a compressed one
abbrev pub outermost : Format TermValue
outermost = term_with is_known (λ term x. cond (x == COMPRESSED) (Compressed term) (Unsupported term x)) 256

-- a spelling: the byte 131 and a term of at most 256 levels
abbrev pub spelling : Format TermValue
spelling = followed (tag_of (λ x. x == VERSION) (λ term x. NotVersion term)) (λ x. outermost)

-- bytes that spell a term
abbrev pub Spells : TermValue → List ℕ → Type 0
Spells t bytes = spelling.Whole t bytes

-- bytes that end before their term does and break no rule
abbrev pub IsPart : List ℕ → Type 0
IsPart bytes = spelling.Part bytes

-- bytes that begin at an offset and break a rule with their last one
abbrev pub IsBreak : ℕ → List ℕ → EtfFault → Type 0
IsBreak start bytes fault = spelling.Break start start bytes fault

-- a front of some bytes spells a term
abbrev pub BeginsWithTerm : List ℕ → Type 0
BeginsWithTerm bytes = (t : TermValue) × Begins (Spells t) bytes

-- a front of some bytes that begin at an offset breaks a rule with its last byte
abbrev pub BeginsWithBreak : ℕ → List ℕ → Type 0
BeginsWithBreak start bytes = (fault : EtfFault) × Begins (λ front. IsBreak start front fault) bytes
