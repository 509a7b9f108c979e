-- What a node shows: the value of the term that it is, and how it writes it.
use Rattle.std.specs.Prelude.{◌≡◌, ◌<◌, false, length}
use Rattle.dets_term.specs.declared.term.Node.{Node}
use Rattle.dets_term.specs.declared.term.Node.TheVariants.{Int, Atom, Tuple, Map, List as ListNode, Improper, Bits}
use Rattle.term_model.specs.TermValue.{TermValue, integer, atom, tuple, nil, chain, map_of, bits, is_list}
use Rattle.term_model.specs.BitString.{bits_of, IsPadded}

abbrev pub shown : Node → TermValue
shown (Int v) = integer v
shown (Atom name) = atom name
shown (Tuple parts) = tuple (chain parts nil)
shown (Map pairs) = map_of pairs
shown (ListNode parts) = chain parts nil
shown (Improper parts tail) = chain parts tail.value
shown (Bits bytes used) = bits (bits_of bytes used)

-- An improper list has an element, and its tail is no list. The last byte of a bit string has 1 to 8 used bits, and
-- zeros behind them; without bytes the number is 8.
abbrev pub IsSound : Node → Type 0
IsSound (Improper parts tail) = (0 < length parts) × (is_list tail.value ≡ false)
IsSound (Bits bytes used) = IsPadded bytes used
IsSound other = Unit {0}
