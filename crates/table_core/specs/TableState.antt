-- What contracts see of a table over its file. This project's own.
use Rattle.std.specs.Prelude.{ℕ, Bool}
use Rattle.book_model.specs.Book.{Book}
use Rattle.run_model.specs.declared.options.Access.{Access}

pub record TableState : Type 0 where
  -- what is known of the file, and what waits
  pub book : Book
  -- how many slots the directory has
  pub slots : ℕ
  pub access : Access
  -- a call answered Disk or Memory, and the table is given up
  pub failed : Bool
