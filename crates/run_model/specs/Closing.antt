-- Closing a table: who has it open, the flush, and what is kept of it. This project's own, after close/1 and sync/1 of
-- the dets reference manual.
use Rattle.std.specs.Prelude.{ℕ, Bool, false, cond, not, List, [], ◌∷◌, filter}
use Rattle.std.specs.List.{list_any}
use Rattle.std.specs.Str.{bytes_eq}
use Rattle.space_model.specs.Ledger.{flush}
use Rattle.run_model.specs.State.{Kept, kept, OpenTable, State, closed, opened, is_filled}
use Rattle.run_model.specs.Changing.{grown}

abbrev pub is_named : List ℕ → List (List ℕ) → Bool
is_named client names = list_any (bytes_eq client) names

-- the names without the first that is this one, and without each of them
abbrev pub without_first : List ℕ → List (List ℕ) → List (List ℕ)
without_first client [] = []
without_first client (name ∷ names) = cond (bytes_eq client name) names (name ∷ without_first client names)

abbrev pub without : List ℕ → List (List ℕ) → List (List ℕ)
without client names = filter (λ name. not (bytes_eq client name)) names

-- all is on disk
abbrev pub flushed : OpenTable → OpenTable
flushed o = record o { ledger = flush o.ledger }

-- the file of a table that was closed: its segments and its standing blocks are those of the ledger
abbrev pub kept_of : OpenTable → Kept
kept_of o = record {
  table = o.table;
  segment_units = o.segment_units;
  max_segments = o.ledger.max;
  segments = o.ledger.segments;
  standing = o.ledger.standing;
  needs_repair = false;
}

abbrev pub closed_of : OpenTable → State
closed_of o = closed (kept (kept_of (flushed o)))

-- a table that no client has open any more is closed
abbrev pub after_leaving : OpenTable → State
after_leaving o = cond (is_filled o.openings) (opened (grown o)) (closed_of o)

-- One opening of a client ends. Where it was the client's last one, its fixes end too.
abbrev pub without_opening : List ℕ → List (List ℕ) → OpenTable → OpenTable
without_opening client left o = record o { openings = left; fixes = cond (is_named client left) o.fixes (without client o.fixes) }

abbrev pub after_close : List ℕ → OpenTable → State
after_close client o = after_leaving (without_opening client (without_first client o.openings) o)

-- the state after the exit of all clients
abbrev pub after_exit : State → State
after_exit (closed file) = closed file
after_exit (opened o) = closed_of o
