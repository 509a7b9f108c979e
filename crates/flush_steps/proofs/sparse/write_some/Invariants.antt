-- The writes of the first places were made. `any` tells whether there was one.
use Rattle.std.proofs.Common.{◌≡◌, ◌<◌, false, true, length}
use Rattle.flush_steps.specs.Sparse.{some_of}
use Rattle.flush_steps.proofs.Placed.{AreMade}
use Rattle.flush_steps.proofs.sparse.write_some.Given as goal

abbrev pub invariant-loop-place : goal.invariant-loop-place
invariant-loop-place g l = record {
  made : AreMade (g.W.SparseWrites.places l.writes) l.place (g.H.Host.shows l.fn.host) (g.H.Host.shows l.host);
  any : l.any ≡ true → 0 < length (some_of (g.W.SparseWrites.places l.writes));
  none : l.any ≡ false → l.host ≡ l.fn.host;
}
