-- What holds of the fields of a feed of spellings.
use Rattle.std.specs.Prelude.{◌≡◌, ℕ, ◌+◌, ◌<◌, ◌≤◌, ◌^◌, List, ◌++◌, length, take}
use Rattle.etf_model.specs.SpellingFeed.{longest}
use Rattle.etf_model.specs.Spelling.{spelling}
use Rattle.etf_codec.specs.declared.feed.TermFeed.TheInside.{Inside}
use Rattle.etf_codec.specs.TermReader.{IsReader, reads_on}

pub record IsInOrder (a : Inside) : Type 0 where
  pub there : a.read ≤ length a.left.items
  pub few : a.read ≤ longest
  pub short : a.offset + length a.left.items < 2 ^ 63
  pub reader : IsReader a.reader
  -- what the reader has come to is right, whatever follows the bytes that it has read
  pub reached : (more : List ℕ) → spelling.read a.offset (record { offset = a.offset; left = take a.read a.left.items ++ more })
      ≡ reads_on a.reader (record { offset = a.offset + a.read; left = more })
