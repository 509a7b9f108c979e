use Rattle.flush_engine.proofs.Planned.{ledger_answered, ledger_moved, of_its_file}
use Rattle.flush_engine.proofs.planning.plan.Goals as goal

pub returns-clause-answer : goal.returns-clause-answer
returns-clause-answer c = λ not. (c.place_and_enter.ensures.planned not).answer

pub returns-clause-planned : goal.returns-clause-planned
returns-clause-planned c = λ not. (c.place_and_enter.ensures.planned not).alike

pub returns-clause-order : goal.returns-clause-order
returns-clause-order c = λ not. (c.place_and_enter.ensures.planned not).after.order

pub returns-clause-ledger_answer : goal.returns-clause-ledger_answer
returns-clause-ledger_answer c = λ not. ledger_answered c.args.book.now c.place_and_enter.new.book c.args.changes c.place_and_enter.result
    c.requires.changes (c.place_and_enter.ensures.planned not)

pub returns-clause-ledger : goal.returns-clause-ledger
returns-clause-ledger c = λ not. ledger_moved c.args.book.now c.place_and_enter.new.book c.args.changes c.place_and_enter.result
    c.requires.changes (c.place_and_enter.ensures.planned not)

pub returns-clause-of_file : goal.returns-clause-of_file
returns-clause-of_file c = λ not. of_its_file c.args.book.now c.place_and_enter.new.book c.args.changes c.place_and_enter.result
    c.requires.changes (c.place_and_enter.ensures.planned not)
