-- What was filled so far is what was taken.
use Rattle.std.proofs.Common.{◌≤◌, length, take}
use Rattle.std.specs.Io.KnownBytes.{Consumes}
use Rattle.host_model.proofs.real_file.read_full.Given as goal

abbrev pub invariant-loop : goal.invariant-loop
invariant-loop g l = (l.filled ≤ length l.buf) × Consumes (g.R.Read.remaining l.fn.reader) (g.R.Read.remaining l.reader) (take l.filled l.buf)
