use Rattle.std.proofs.Common.{sym, subst}
use Rattle.book_model.specs.OfFile.{IsOf}
use Rattle.table_core.specs.Flushing.{LeavesBetween}
use Rattle.table_core.specs.TableState.{TableState}
use Rattle.table_core.proofs.table.Table.sync.Goals as goal

pub flush-requires-clause-of_file : goal.flush-requires-clause-of_file
flush-requires-clause-of_file g c f told = subst (λ (s : TableState). IsOf f s.book) (sym c.self.view_is) (c.requires.of_file f told)

pub returns-in-Ok-clause-any_moment : goal.returns-in-Ok-clause-any_moment
returns-in-Ok-clause-any_moment g c f told =
    subst (λ (s : TableState). LeavesBetween (g.H.Host.shows c.args.host.now) (g.H.Host.shows c.flush.new.host) s.book f) c.self.view_is
    (c.flush.ensures.any_moment f told)

pub returns-in-Err-clause-any_moment : goal.returns-in-Err-clause-any_moment
returns-in-Err-clause-any_moment g c f told =
    subst (λ (s : TableState). LeavesBetween (g.H.Host.shows c.args.host.now) (g.H.Host.shows c.flush.new.host) s.book f) c.self.view_is
    (c.flush.ensures.any_moment f told)
