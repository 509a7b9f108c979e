use Rattle.book_model.proofs.Prepared.{prepared_of, prepared_table, prepared_standing}
use Rattle.book_model.proofs.FileLedger.{prepared_has}
use Rattle.book_model.proofs.stop_laws.a_prepared_file_has_its_book.Goals as goal

pub returns-clause-book : goal.returns-clause-book
returns-clause-book c = λ old now b place of p.
    prepared_of c.blocks_below.ensures c.stops_below.ensures old now b of place p

pub returns-clause-table : goal.returns-clause-table
returns-clause-table c = λ old now b place of p.
    prepared_table c.blocks_below.ensures c.stops_below.ensures old now b of place p

pub returns-clause-standing : goal.returns-clause-standing
returns-clause-standing c = λ old now b place of p.
    prepared_standing c.blocks_below.ensures c.stops_below.ensures old now b of place p

pub returns-clause-ledger : goal.returns-clause-ledger
returns-clause-ledger c = prepared_has c.blocks_below.ensures c.stops_below.ensures
