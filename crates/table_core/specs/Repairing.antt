-- A file that is repaired at its opening. This project's own.
use Rattle.std.specs.Prelude.{◌≡◌, ◌≤◌, ℕ, true, List, length, Ok}
use Rattle.file_model.specs.declared.head.Head.{Head}
use Rattle.file_model.specs.declared.head.Located.{Located}
use Rattle.file_model.specs.Header.{segments_of, located}
use Rattle.file_model.specs.View.{view_of}
use Rattle.file_model.specs.Taken.{taken}
use Rattle.file_model.specs.Fit.{has_segments, has_no_rejects}
use Rattle.book_model.specs.Book.{Book}
use Rattle.book_model.specs.OfFile.{IsOf}
use Rattle.book_model.specs.Stopped.{dirtied}

-- Its header is dirty and has the number of segments that count; it is at this place, and all else shows what it showed.
pub record IsMarked (h : Head) (place : Located) (old new : List ℕ) : Type 0 where
  pub place_is : located new ≡ Ok place
  pub head : place.head ≡ dirtied h (segments_of h old)
  pub whole : has_segments place.head new ≡ true
  pub open_units : (view_of place.head new).open_units ≡ (view_of h old).open_units
  pub no_shorter : length old ≤ length new

-- And then no gate is open but those of the taken blocks, which are the same.
pub record IsRepaired (h : Head) (place : Located) (old new : List ℕ) : Type 0 where
  pub place_is : located new ≡ Ok place
  pub head : place.head ≡ dirtied h (segments_of h old)
  pub whole : has_segments place.head new ≡ true
  pub blocks : taken (view_of place.head new) ≡ taken (view_of h old)
  pub none : has_no_rejects (view_of place.head new) ≡ true

-- What was asked of it: all segments of its header are there, no gate is open but those of the taken blocks, and these are
-- those of the file as it was, seen with a header of the same kind, keypos and segments that count.
pub record IsReady (h : Head) (place : Located) (old new : List ℕ) : Type 0 where
  pub place_is : located new ≡ Ok place
  pub kind : place.head.kind ≡ h.kind
  pub keypos : place.head.keypos ≡ h.keypos
  pub most : place.head.max_segments ≡ h.max_segments
  pub counted : place.head.segments ≡ segments_of h old
  pub whole : has_segments place.head new ≡ true
  pub blocks : taken (view_of place.head new) ≡ taken (view_of h old)
  pub none : has_no_rejects (view_of place.head new) ≡ true

-- A book is that of the new file, with the blocks and the segments of the old one, which had this header.
pub record IsLoaded (h : Head) (b : Book) (old new : List ℕ) : Type 0 where
  pub of_file : IsOf new b
  pub ready : IsReady h b.place old new
  pub segments : b.space.segments ≡ b.place.head.segments
