-- The nests of the machine that the code shows.
use Rattle.std.specs.Prelude.{pos, true, false, List, map, reverse, flat_map, Option, Some, None}
use Rattle.dets_term.specs.BitString.{byte_bits}
use Rattle.text_model.specs.Grammar.{last_bits}
use Rattle.text_model.specs.Nest.{Frame, in_tuple, in_list, in_tail, in_map, in_value, in_bits, Begun, Place, want, opened, after, value, colon}
use Rattle.text_model.specs.Nest.{segment, sized, stopped, Nest, frame_after_comma, frame_after_bar, frame_after_arrow}
use Rattle.text_model.specs.declared.mark.Mark.{Mark}
use Rattle.text_model.specs.declared.mark.Mark.TheVariants.{Comma, Bar}
use Rattle.text_nest.specs.declared.nest.Open.{Open}
use Rattle.text_nest.specs.declared.nest.Open.TheVariants.{Tuple, List as OpenList, Map, Bits}
use Rattle.text_nest.specs.declared.nest.Start.{Start}
use Rattle.text_nest.specs.declared.nest.NestPlace.{NestPlace}
use Rattle.text_nest.specs.declared.nest.NestPlace.TheVariants.{Want, Opened, After, Number, Colon, Segment, Sized, Stopped}
use Rattle.text_nest.specs.declared.nest.Nest.{Nest as Kept}

abbrev pub frame_of : Open → Frame
frame_of (Tuple parts) = in_tuple parts
frame_of (OpenList parts false) = in_list parts
frame_of (OpenList parts true) = in_tail parts
frame_of (Map pairs None) = in_map pairs
frame_of (Map pairs (Some key)) = in_value pairs key
frame_of (Bits bytes) = in_bits (flat_map byte_bits bytes)

abbrev pub begun_of : Start → Begun
begun_of s = record { start = s.at; frame = frame_of s.term }

abbrev pub place_of : NestPlace → Place
place_of Want = want
place_of Opened = opened
place_of (After start term) = after start term
place_of (Number start v) = value start (pos v)
place_of (Colon start v) = colon start (pos v)
place_of Segment = segment
place_of (Sized last) = sized (last_bits last.count (pos last.value))
place_of (Stopped term) = stopped term

-- the innermost term stands last in the code, and first here
abbrev pub begun_terms : List Start → List Begun
begun_terms starts = reverse (map begun_of starts)

abbrev pub nest_of : Kept → Nest
nest_of n = record { begun = begun_terms n.begun.items; place = place_of n.place }

-- the innermost term behind a comma, a bar or an arrow
abbrev pub divided : Mark → Frame → Place → Option Frame
divided Comma = frame_after_comma
divided Bar = frame_after_bar
divided _ = frame_after_arrow
