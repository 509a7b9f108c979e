use Rattle.std.proofs.Common.{◌%◌, ◌∙◌, sym, ap, subst}
use Rattle.std.specs.Prelude.{IfOk}
use Rattle.file_model.specs.Block.{block_of, proper_elements, term_in}
use Rattle.repair_scan.specs.Candidates.{IsRead}
use Rattle.repair_scan.proofs.Standings.{bad_head, not_aligned, aligned}
use Rattle.repair_scan.proofs.standing.read_standing.Goals as goal

pub returns-in_default : goal.returns-in_default
returns-in_default c = bad_head c.args.kind c.args.keypos c.args.unit c.args.bytes.now c.in_default.ensures.given

pub returns-then-unit-run_units-ne0 : goal.returns-then-unit-run_units-ne0
returns-then-unit-run_units-ne0 c =
    not_aligned c.args.kind c.args.keypos c.args.unit c.args.bytes.now (record { exp = c.in-Some.exp; count = c.in-Some.length }) c.in-Some.ensures.given
    (λ place. c.if-unit-run_units-ne0.true (ap (λ n. c.args.unit % n) c.run_units.ensures.value ∙ place))

pub returns : goal.returns
returns c =
    let stands = aligned c.args.kind c.args.keypos c.args.unit c.args.bytes.now (record { exp = c.in-Some.exp; count = c.in-Some.length })
    c.in-Some.ensures.given (sym (ap (λ n. c.args.unit % n) c.run_units.ensures.value) ∙ c.if-unit-run_units-ne0.false) in
    subst (λ s. IfOk c.read_payload.result (λ found. IsRead c.args.unit found s))
    (ap (λ payload. block_of c.args.kind c.args.keypos c.args.unit c.in-Some.exp (proper_elements (term_in payload))) c.payload_behind-payload.ensures ∙ sym stands)
    c.read_payload.ensures
