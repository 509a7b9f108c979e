-- A reader that has read the first bytes of what is left.
use Rattle.std.specs.Prelude.{◌≡◌, ℕ, ◌≤◌, false, List, ◌++◌, length, take}
use Rattle.text_model.specs.Progress.{no_progress, reach}
use Rattle.term_text.specs.declared.reader.Reader.{Reader}
use Rattle.text_nest.specs.Strays.{is_stopped}
use Rattle.text_nest.specs.NestView.{nest_of}
use Rattle.term_text.specs.ReaderView.{progress_of, IsReady}

pub record HasRead (left : List ℕ) (read : ℕ) (reader : Reader) : Type 0 where
  pub there : read ≤ length left
  pub counted : reader.read ≡ read
  pub ready : IsReady (progress_of reader)
  -- what it has come to is right, whatever follows the bytes that it has read
  pub reached : (more : List ℕ) → reach no_progress (take read left ++ more) ≡ reach (progress_of reader) more

-- it has read all of them, unless it came to a full stop
pub record HasReadOn (left : List ℕ) (read : ℕ) (reader : Reader) : Type 0 where
  pub has : HasRead left read reader
  pub all : is_stopped (nest_of reader.nest).place ≡ false → read ≡ length left
