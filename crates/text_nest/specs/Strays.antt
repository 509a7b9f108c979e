-- Tests of a nest that the code makes.
use Rattle.std.specs.Prelude.{Bool, true, false, List, [], ◌∷◌, Option, Some}
use Rattle.text_model.specs.declared.fault.TextWhy.{TextWhy}
use Rattle.text_model.specs.declared.fault.TextWhy.TheVariants.{BadToken}
use Rattle.text_model.specs.Nest.{Frame, in_map, Begun, Place, opened, after, value, segment, sized, stopped}

-- a token that may not stand there, whatever its level is
abbrev pub is_stray : Option TextWhy → Bool
is_stray (Some BadToken) = true
is_stray other = false

-- a bit string may close here
abbrev pub ends_segments : Place → Bool
ends_segments opened = true
ends_segments (value start v) = true
ends_segments segment = true
ends_segments (sized bs) = true
ends_segments other = false

abbrev pub is_after : Place → Bool
is_after (after start t) = true
is_after other = false

abbrev is_key : Frame → Bool
is_key (in_map pairs) = true
is_key other = false

abbrev pub at_key : List Begun → Bool
at_key [] = false
at_key (b ∷ bs) = is_key b.frame

-- behind the full stop of a term
abbrev pub is_stopped : Place → Bool
is_stopped (stopped t) = true
is_stopped other = false
