-- The machine that takes tokens: what is open behind some tokens of a text, and what one more does. The middle between the
-- grammar and the code.
use Rattle.std.specs.Prelude.{ℕ, ◌+◌, ℤ, pos, Bool, true, false, cond, ◌&&◌, ◌||◌, not, nat_lt, List, [], ◌∷◌, ◌++◌, length, Option, Some, None}
use Rattle.std.specs.Prelude.{option_map, is_none, Result, Ok, Err}
use Rattle.std.specs.List.{list_any, flat_map}
use Rattle.dets_term.specs.TermValue.{TermValue, integer, atom, tuple, nil, bits, chain, map_of}
use Rattle.dets_term.specs.BitString.{byte_bits}
use Rattle.dets_term.specs.Order.{is_same}
use Rattle.dets_term.specs.Pairs.{keys, placed}
use Rattle.etf_model.specs.Layout.{integers}
use Rattle.text_model.specs.declared.mark.Mark.{Mark}
use Rattle.text_model.specs.declared.mark.Mark.TheVariants.{OpenTuple, OpenMap, CloseBrace, OpenList, CloseList, OpenBits, CloseBits, Bar, Comma}
use Rattle.text_model.specs.declared.mark.Mark.TheVariants.{Arrow, Colon, FullStop}
use Rattle.text_model.specs.declared.fault.TextWhy.{TextWhy}
use Rattle.text_model.specs.declared.fault.TextWhy.TheVariants.{BadToken, Depth, RepeatedKey}
use Rattle.text_model.specs.Token.{Token, Sort, mark, number, plain, quoted, string, a_number, a_string}
use Rattle.text_model.specs.Characters.{each}
use Rattle.text_model.specs.Grammar.{Rules, is_byte, is_sized, last_bits, sized_bits}

-- a term that is open, by its parts so far
pub data Frame : Type 0 where
  in_tuple : List TermValue → Frame
  in_list : List TermValue → Frame
  -- behind the bar of a list
  in_tail : List TermValue → Frame
  -- before a pair of a map, or at its key
  in_map : List (TermValue × TermValue) → Frame
  -- behind the arrow of a pair
  in_value : List (TermValue × TermValue) → TermValue → Frame
  -- by the bits of its segments
  in_bits : List Bool → Frame

-- with the offset of its opening mark
pub record Begun : Type 0 where
  pub start : ℕ
  pub frame : Frame

-- where the next token stands
pub data Place : Type 0 where
  -- where a term or a segment must begin
  want : Place
  -- behind an opening mark
  opened : Place
  -- behind a whole part of the innermost term, or behind the whole term, which began at an offset
  after : ℕ → TermValue → Place
  -- behind a number that is a segment, or its value, which began at an offset
  value : ℕ → ℤ → Place
  -- behind the colon of such a value
  colon : ℕ → ℤ → Place
  -- behind a string that is a segment
  segment : Place
  -- behind the last segment of fewer bits than eight, which these are
  sized : List Bool → Place
  -- behind the full stop of a term
  stopped : TermValue → Place

-- the terms that are open, innermost first
pub record Nest : Type 0 where
  pub begun : List Begun
  pub place : Place

abbrev pub fresh : Nest
fresh = record { begun = []; place = want }

-- a nest, or the offset of a token at fault and why
abbrev pub Taken : Type 0
Taken = Result Nest (ℕ × TextWhy)

abbrev pub stray : ℕ → Taken
stray at = Err (at, BadToken)

-- ---- where something may begin

abbrev pub is_bits : Frame → Bool
is_bits (in_bits bs) = true
is_bits other = false

-- the innermost term is a bit string
abbrev pub at_segment : List Begun → Bool
at_segment [] = false
at_segment (b ∷ bs) = is_bits b.frame

abbrev pub wants : Place → Bool
wants want = true
wants opened = true
wants other = false

-- why no term may begin here
abbrev pub refusal : Rules → Nest → Option TextWhy
refusal rules n =
    cond (wants n.place && not (at_segment n.begun)) (cond (nat_lt (length n.begun) rules.levels) None (Some Depth)) (Some BadToken)

-- a segment may begin here
abbrev pub wants_segment : Nest → Bool
wants_segment n = wants n.place && at_segment n.begun

abbrev pub is_colon : Place → Bool
is_colon (colon at v) = true
is_colon other = false

-- why no token of this sort may stand here, whatever its value is
abbrev pub refusal_of : Rules → Nest → Sort → Option TextWhy
refusal_of rules n a_number = cond (wants_segment n || is_colon n.place) None (refusal rules n)
refusal_of rules n a_string = cond (wants_segment n) None (refusal rules n)
refusal_of rules n other = refusal rules n

-- a string may have characters here
abbrev pub may_hold : Rules → Nest → Bool
may_hold rules n = at_segment n.begun || nat_lt (length n.begun + 1) rules.levels

-- ---- a whole part

abbrev pub repeats_key : Frame → TermValue → Bool
repeats_key (in_map pairs) t = list_any (is_same t) (keys pairs)
repeats_key other t = false

abbrev pub repeats_in : List Begun → TermValue → Bool
repeats_in [] t = false
repeats_in (b ∷ bs) t = repeats_key b.frame t

-- behind a whole part that began at an offset
abbrev pub completed : Rules → List Begun → ℕ → TermValue → Taken
completed rules bs start t = cond (rules.distinct && repeats_in bs t) (Err (start, RepeatedKey)) (Ok (record { begun = bs; place = after start t }))

-- a token that is a term, where one may begin
abbrev pub leaf : Rules → Nest → ℕ → TermValue → Option TextWhy → Taken
leaf rules n at t None = completed rules n.begun at t
leaf rules n at t (Some why) = Err (at, why)

abbrev pub open_term : Rules → Nest → ℕ → Frame → Option TextWhy → Taken
open_term rules n at frame None = Ok (record { begun = record { start = at; frame = frame } ∷ n.begun; place = opened })
open_term rules n at frame (Some why) = Err (at, why)

-- ---- segments

abbrev pub with_bits : Frame → List Bool → Frame
with_bits (in_bits bs) more = in_bits (bs ++ more)
with_bits other more = other

abbrev pub grown : List Begun → List Bool → List Begun
grown [] more = []
grown (b ∷ bs) more = record b { frame = with_bits b.frame more } ∷ bs

abbrev pub take_segment : Rules → Nest → ℕ → ℤ → Taken
take_segment rules n at v = cond (rules.ranged && not (is_byte v)) (stray at) (Ok (record n { place = value at v }))

abbrev pub take_size : Rules → Nest → ℕ → ℤ → ℤ → Taken
take_size rules n at v size =
    cond (rules.ranged && not (is_sized v size)) (stray at) (Ok (record n { place = sized (sized_bits v size) }))

abbrev pub take_bytes : Rules → Nest → ℕ → List ℕ → Taken
take_bytes rules n at cs =
    cond (rules.ranged && not (each (λ c. nat_lt c 256) cs)) (stray at) (Ok (record { begun = grown n.begun (flat_map byte_bits cs); place = segment }))

-- ---- tokens

abbrev pub number_at : Rules → Nest → ℕ → ℤ → Place → Taken
number_at rules n at z (colon start v) = take_size rules n start v z
number_at rules n at z other = leaf rules n at (integer z) (refusal rules n)

abbrev pub take_number : Rules → Nest → ℕ → ℤ → Taken
take_number rules n at z = cond (wants_segment n) (take_segment rules n at z) (number_at rules n at z n.place)

-- why no string of these characters may stand where a term begins
abbrev pub string_refusal : Rules → Nest → List ℕ → Option TextWhy
string_refusal rules n [] = refusal rules n
string_refusal rules n (c ∷ cs) = cond (is_none (refusal rules n) && not (may_hold rules n)) (Some Depth) (refusal rules n)

abbrev pub take_string : Rules → Nest → ℕ → List ℕ → Taken
take_string rules n at cs =
    cond (wants_segment n) (take_bytes rules n at cs) (leaf rules n at (integers cs) (string_refusal rules n cs))

-- the term in some brackets, which closes behind its last part or without one
abbrev pub closed : Rules → List Begun → ℕ → Option TermValue → ℕ → Taken
closed rules bs start (Some t) at = completed rules bs start t
closed rules bs start None at = stray at

-- a part that is there, or none behind the opening mark
abbrev pub last_part : Place → Option (Option TermValue)
last_part opened = Some None
last_part (after start t) = Some (Some t)
last_part other = None

abbrev pub brace_term : Frame → Option (Option TermValue) → Option TermValue
brace_term (in_tuple parts) (Some None) = Some (tuple (chain parts nil))
brace_term (in_tuple parts) (Some (Some t)) = Some (tuple (chain (parts ++ t ∷ []) nil))
brace_term (in_map pairs) (Some None) = Some (map_of pairs)
brace_term (in_value pairs k) (Some (Some t)) = Some (map_of (placed (k, t) pairs))
brace_term frame part = None

abbrev pub list_term : Frame → Option (Option TermValue) → Option TermValue
list_term (in_list parts) (Some None) = Some nil
list_term (in_list parts) (Some (Some t)) = Some (chain (parts ++ t ∷ []) nil)
list_term (in_tail parts) (Some (Some t)) = Some (chain parts t)
list_term frame part = None

-- the bits of a bit string that may close here
abbrev pub closing_bits : List Bool → Place → Option (List Bool)
closing_bits bs opened = Some bs
closing_bits bs (value start v) = Some (bs ++ last_bits 8 v)
closing_bits bs segment = Some bs
closing_bits bs (sized more) = Some (bs ++ more)
closing_bits bs other = None

abbrev pub bits_term : Frame → Place → Option TermValue
bits_term (in_bits bs) place = option_map bits (closing_bits bs place)
bits_term frame place = None

abbrev pub close : Rules → (Frame → Place → Option TermValue) → Nest → ℕ → List Begun → Taken
close rules term n at [] = stray at
close rules term n at (b ∷ bs) = closed rules bs b.start (term b.frame n.place) at

-- the innermost term behind a comma
abbrev pub frame_after_comma : Frame → Place → Option Frame
frame_after_comma (in_tuple parts) (after start t) = Some (in_tuple (parts ++ t ∷ []))
frame_after_comma (in_list parts) (after start t) = Some (in_list (parts ++ t ∷ []))
frame_after_comma (in_value pairs k) (after start t) = Some (in_map (placed (k, t) pairs))
frame_after_comma (in_bits bs) (value start v) = Some (in_bits (bs ++ last_bits 8 v))
frame_after_comma (in_bits bs) segment = Some (in_bits bs)
frame_after_comma frame place = None

-- behind its bar
abbrev pub frame_after_bar : Frame → Place → Option Frame
frame_after_bar (in_list parts) (after start t) = Some (in_tail (parts ++ t ∷ []))
frame_after_bar frame place = None

-- behind an arrow
abbrev pub frame_after_arrow : Frame → Place → Option Frame
frame_after_arrow (in_map pairs) (after start t) = Some (in_value pairs t)
frame_after_arrow frame place = None

abbrev pub changed_to : Begun → List Begun → Option Frame → ℕ → Taken
changed_to b bs (Some frame) at = Ok (record { begun = record b { frame = frame } ∷ bs; place = want })
changed_to b bs None at = stray at

abbrev pub change : (Frame → Place → Option Frame) → Nest → ℕ → List Begun → Taken
change next n at [] = stray at
change next n at (b ∷ bs) = changed_to b bs (next b.frame n.place) at

abbrev pub take_colon : Rules → Nest → ℕ → Place → Taken
take_colon rules n at (value start v) =
    cond (rules.ranged && not (is_sized v (pos 7))) (stray start) (Ok (record n { place = colon start v }))
take_colon rules n at other = stray at

abbrev pub take_stop : ℕ → List Begun → Place → Taken
take_stop at [] (after start t) = Ok (record { begun = []; place = stopped t })
take_stop at bs place = stray at

abbrev pub take_mark : Rules → Nest → ℕ → Mark → Taken
take_mark rules n at OpenTuple = open_term rules n at (in_tuple []) (refusal rules n)
take_mark rules n at OpenMap = open_term rules n at (in_map []) (refusal rules n)
take_mark rules n at OpenList = open_term rules n at (in_list []) (refusal rules n)
take_mark rules n at OpenBits = open_term rules n at (in_bits []) (refusal rules n)
take_mark rules n at CloseBrace = close rules (λ frame place. brace_term frame (last_part place)) n at n.begun
take_mark rules n at CloseList = close rules (λ frame place. list_term frame (last_part place)) n at n.begun
take_mark rules n at CloseBits = close rules bits_term n at n.begun
take_mark rules n at Bar = change frame_after_bar n at n.begun
take_mark rules n at Comma = change frame_after_comma n at n.begun
take_mark rules n at Arrow = change frame_after_arrow n at n.begun
take_mark rules n at Colon = take_colon rules n at n.place
take_mark rules n at FullStop = take_stop at n.begun n.place

-- the nest behind a token that begins at an offset
abbrev pub take : Rules → Nest → ℕ → Token → Taken
take rules n at (mark m) = take_mark rules n at m
take rules n at (number z) = take_number rules n at z
take rules n at (plain cs) = leaf rules n at (atom cs) (refusal rules n)
take rules n at (quoted cs) = leaf rules n at (atom cs) (refusal rules n)
take rules n at (string cs) = take_string rules n at cs
