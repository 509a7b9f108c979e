use Rattle.std.proofs.Common.{◌≡◌, ℕ, List, Ok, Err, ap, sym, ◌∙◌}
use Rattle.std.proofs.lemmas.Result.{err_from_is_err_and}
use Rattle.file_model.specs.declared.head.Located.{Located}
use Rattle.file_model.specs.Header.{head_of}
use Rattle.file_model.specs.Fit.{needs_repair}
use Rattle.run_model.specs.declared.options.OpenOptions.{OpenOptions}
use Rattle.table_core.specs.Answering.{shape_fault, or_else, repair_fault, fault_with}
use Rattle.table_core.proofs.Answered.{by_header, by_first, by_second}
use Rattle.table_core.proofs.reading.read_file.Goals as goal

-- the fault of a file whose header is read
fault_is : (options : OpenOptions) (f : List ℕ) (place : Located) → head_of f ≡ Ok place.head
    → fault_with options f (head_of f) ≡ or_else (shape_fault options place.head) (repair_fault options (needs_repair place.head f))
fault_is options f place read = ap (fault_with options f) read

pub returns-in_err-place-clause-answer : goal.returns-in_err-place-clause-answer
returns-in_err-place-clause-answer g c f told =
    let e = err_from_is_err_and c.from_residual.result c.from_residual.ensures.1 in
    by_header c.args.options.now f c.in_err-place.field-0.0 c.from_residual.result (c.in_err-place.ensures.told f told)
    (e.1 ∙ ap (λ x. Err x) e.2)

pub returns-in_err-judge_shape-clause-answer : goal.returns-in_err-judge_shape-clause-answer
returns-in_err-judge_shape-clause-answer g c f told =
    let place = c.in_ok-place.place in
    let read = (c.a_header_is_located_where_it_is_read.ensures.head f place (c.in_ok-place.ensures.found f told)).0 in
    let e = err_from_is_err_and c.from_residual-in_err-judge_shape.result c.from_residual-in_err-judge_shape.ensures.1 in
    by_first (shape_fault c.args.options.now place.head) (repair_fault c.args.options.now (needs_repair place.head f)) _
    c.in_err-judge_shape.field-0.0 c.from_residual-in_err-judge_shape.result (fault_is c.args.options.now f place read)
    c.in_err-judge_shape.ensures.answer (e.1 ∙ ap (λ x. Err x) e.2)

pub returns-in_err-judge_repair-clause-answer : goal.returns-in_err-judge_repair-clause-answer
returns-in_err-judge_repair-clause-answer g c f told =
    let place = c.in_ok-place.place in
    let found = c.in_ok-place.ensures.found f told in
    let now = c.in_ok-place.ensures.rests.file ∙ told in
    let read = (c.a_header_is_located_where_it_is_read.ensures.head f place found).0 in
    let needs = c.needs_repair-needs_repair.ensures f found (c.in_ok-found.ensures.rejects f now found) in
    let e = err_from_is_err_and c.from_residual-in_err-judge_repair.result c.from_residual-in_err-judge_repair.ensures.1 in
    by_second (shape_fault c.args.options.now place.head) (repair_fault c.args.options.now c.needs_repair-needs_repair.result) _
    c.in_err-judge_repair.field-0.0 c.from_residual-in_err-judge_repair.result
    (fault_is c.args.options.now f place read
    ∙ ap (λ n. or_else (shape_fault c.args.options.now place.head) (repair_fault c.args.options.now n)) (sym needs))
    c.in_ok-judge_shape.ensures.answer
    c.in_err-judge_repair.ensures.answer (e.1 ∙ ap (λ x. Err x) e.2)

pub returns-clause-answer : goal.returns-clause-answer
returns-clause-answer g c f told =
    let place = c.in_ok-place.place in
    let found = c.in_ok-place.ensures.found f told in
    let now = c.in_ok-place.ensures.rests.file ∙ told in
    let read = (c.a_header_is_located_where_it_is_read.ensures.head f place found).0 in
    let needs = c.needs_repair-needs_repair.ensures f found (c.in_ok-found.ensures.rejects f now found) in
    fault_is c.args.options.now f place read
    ∙ ap (λ n. or_else (shape_fault c.args.options.now place.head) (repair_fault c.args.options.now n)) (sym needs)
    ∙ ap (λ o. or_else o (repair_fault c.args.options.now c.needs_repair-needs_repair.result)) c.in_ok-judge_shape.ensures.answer
    ∙ c.in_ok-judge_repair.ensures.answer
