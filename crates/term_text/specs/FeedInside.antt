-- What holds of the fields of a feed of printed terms.
use Rattle.std.specs.Prelude.{◌+◌, ◌<◌, ◌^◌, length}
use Rattle.term_text.specs.declared.feed.TextFeed.TheInside.{Inside}
use Rattle.term_text.specs.FeedReads.{HasRead}

pub record IsInOrder (a : Inside) : Type 0 where
  pub short : a.offset + length a.left.items < 2 ^ 63
  pub reader : HasRead a.left.items a.read a.reader
