use Rattle.std.proofs.Common.{◌≡◌, ℕ, ◌+◌, List, ◌++◌, take}
use Rattle.text_model.specs.Progress.{reach}
use Rattle.term_text.specs.ReaderView.{progress_of, IsReady}
use Rattle.term_text.proofs.reader.Reader.run.Given as goal

-- the bytes so far led here, whatever follows them
abbrev pub invariant-loop-taken : goal.invariant-loop-taken
invariant-loop-taken l = record {
  reached : (more : List ℕ) → reach (progress_of l.fn.self) (take l.taken l.bytes ++ more) ≡ reach (progress_of l.self) more;
  read : l.self.read ≡ l.fn.self.read + l.taken;
  ready : IsReady (progress_of l.self);
}
