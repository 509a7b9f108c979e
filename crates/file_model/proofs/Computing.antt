-- One name to unfold where a row computes what stands behind some bytes, and the hash of a key.
use lib.Utf8.{encode}
use Rattle.std.specs.Str.{is_utf8, chars}
use Rattle.file_model.specs.Block.{standing, term_in}
use Rattle.file_model.specs.Taken.{key_hash}

unfoldable pub reading_blocks : Unit {0}
unfolding standing term_in key_hash encode is_utf8 chars
reading_blocks = tt
