-- The layout of every file that this crate reads and writes. This project's own.
use Rattle.std.specs.Prelude.{List, [], ◌∷◌}
use Rattle.host_model.specs.Disk.{Range, range}
use Rattle.file_model.specs.Layout.{page_size}

-- the range of the header's page
abbrev pub the_page : List Range
the_page = range 0 page_size ∷ []
