use Rattle.file_model.specs.Header.{units_per_segment}
use Rattle.space_model.specs.Ledger.{after_command}
use Rattle.book_model.specs.Planning.{planned}
use Rattle.book_model.specs.LedgerOf.{touches_of}
use Rattle.book_model.proofs.FileLedger.{alike_has, command_answer, command_has}
use Rattle.book_model.proofs.ledger_laws.a_command_moves_the_ledger_of_a_file.Goals as goal

pub returns-clause-answer : goal.returns-clause-answer
returns-clause-answer c = command_answer c.places_and_states.ensures c.the_ledger_below.ensures

pub returns-clause-command : goal.returns-clause-command
returns-clause-command c = command_has c.places_and_states.ensures c.the_ledger_below.ensures

pub returns-clause-alike : goal.returns-clause-alike
returns-clause-alike c = λ file changes b new l of are has alike.
    alike_has file (planned (units_per_segment b.place.head) b changes) new (after_command (units_per_segment b.place.head) l (touches_of changes)) alike
    (command_has c.places_and_states.ensures c.the_ledger_below.ensures file changes b l of are has)
