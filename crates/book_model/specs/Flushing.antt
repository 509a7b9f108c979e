-- What a flush writes of a book, and the book after it. This project's own.
use Rattle.std.specs.Prelude.{◌≡◌, ℕ, List, [], map, filter_map, Option, Some, None, option_map}
use Rattle.term_model.specs.TermValue.{TermValue}
use Rattle.table_model.specs.Table.{Table, objects_of}
use Rattle.etf_model.specs.Canonical.{spelled}
use Rattle.space_model.specs.Apart.{In}
use Rattle.file_model.specs.declared.block.Packed.{Packed}
use Rattle.file_model.specs.declared.head.Head.{Head}
use Rattle.file_model.specs.Header.{units_per_segment}
use Rattle.file_model.specs.Flush.{without_olds, table_in}
use Rattle.file_model.specs.BodyWrites.{Body}
use Rattle.write_cache.specs.declared.pending.Pending.{Pending}
use Rattle.write_cache.specs.Waiting.{Waiting, state_of}
use Rattle.book_model.specs.Book.{Book, olds_of}
use Rattle.book_model.specs.Planning.{IsBlockFor}

-- the block of a key that waits, as it is written
abbrev pub body_of : Pending → Option Body
body_of s = option_map (λ p. record { unit = s.unit; exp = p.exp; bytes = p.block }) s.block

abbrev pub bodies_of : Waiting → List Body
bodies_of w = filter_map (λ e. body_of e.1) w

-- the units whose gates are closed
abbrev pub old_units : Waiting → List ℕ
old_units w = map (λ e. e.unit) (olds_of w)

-- the book when all is written: deferred runs are free, and nothing waits
abbrev pub settled : Book → Book
settled b = record b { space = record b.space { deferred = [] }; cache = [] }

-- the file of the book when all is written
abbrev pub flushed_file : Book → List ℕ → List ℕ
flushed_file b file = without_olds (units_per_segment b.place.head) (bodies_of b.cache) (old_units b.cache) file

-- ---- what each key has then

-- the table of an image, seen with a header
abbrev pub table_with_head : Head → List ℕ → Table
table_with_head h image = table_in (units_per_segment h) h image

-- Each key that waits has the objects of its new block, or none where it has no block. The others have what they had.
pub record HaveNew (b : Book) (old new : Table) : Type 0 where
  pub comes : (e : List ℕ × Pending) (p : Packed) → In e b.cache → e.1.block ≡ Some p → (f : IsBlockFor b.place.head e.0 p)
      → objects_of new f.term ≡ f.objects
  pub goes : (e : List ℕ × Pending) (k : TermValue) → In e b.cache → e.1.block ≡ None → spelled k ≡ e.0 → objects_of new k ≡ []
  pub stays : (k : TermValue) → state_of b.cache (spelled k) ≡ None → objects_of new k ≡ objects_of old k
