-- Zeros in a file: a segment's, page by page, and those of a page that was made. This project's own.
use Rattle.std.specs.Prelude.{ℕ, zero, suc, ◌+◌, List, [], ◌∷◌, replicate}
use Rattle.host_model.specs.Disk.{written_at}
use Rattle.host_model.specs.Writes.{Write}
use Rattle.file_model.specs.declared.head.Head.{Head}
use Rattle.file_model.specs.Layout.{page_size, open_byte}
use Rattle.file_model.specs.Header.{body_of}

-- so many zeros; they stay folded, since they are many
unfoldable pub zeros : ℕ → List ℕ
zeros n = replicate n 0

-- The page of a file that was made: the first copy of this header with an open gate, and all else zero. It stays folded too.
unfoldable pub made_page : Head → List ℕ
made_page h = written_at 0 (open_byte ∷ []) (written_at 16 (body_of h) (zeros page_size))

-- ---- a middle: writes of so many pages of zeros, one behind the other

unfoldable pub zero_pages : ℕ → ℕ → ℕ → List Write
zero_pages size at zero = []
zero_pages size at (suc k) = record { at = at; bytes = zeros size } ∷ zero_pages size (at + size) k
