-- One name to unfold where a row computes what reading an atom answers.
use lib.Utf8.{encode}
use Rattle.std.specs.Str.{is_utf8, chars}

unfoldable pub reading_text : Unit {0}
unfolding encode is_utf8 chars
reading_text = tt
