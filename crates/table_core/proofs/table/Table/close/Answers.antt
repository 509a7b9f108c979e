use Rattle.std.proofs.Common.{sym, subst}
use Rattle.book_model.specs.OfFile.{IsOf}
use Rattle.table_core.specs.Flushing.{LeavesBetween}
use Rattle.table_core.specs.TableState.{TableState}
use Rattle.table_core.proofs.table.Table.close.Goals as goal

pub close_book-requires-clause-of_file : goal.close_book-requires-clause-of_file
close_book-requires-clause-of_file g c f told = subst (λ (s : TableState). IsOf f s.book) (sym c.self.view_is) (c.requires.of_file f told)

pub returns-in_err-close_book-clause-any_moment : goal.returns-in_err-close_book-clause-any_moment
returns-in_err-close_book-clause-any_moment g c f told =
    subst (λ (s : TableState). LeavesBetween (g.H.Host.shows c.args.host.now) (g.H.Host.shows c.close_book.new.host) s.book f) c.self.view_is
    (c.close_book.ensures.any_moment f told)

pub returns-clause-any_moment : goal.returns-clause-any_moment
returns-clause-any_moment g c f told =
    subst (λ (s : TableState). LeavesBetween (g.H.Host.shows c.args.host.now) (g.H.Host.shows c.close_book.new.host) s.book f) c.self.view_is
    (c.close_book.ensures.any_moment f told)
