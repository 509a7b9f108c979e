use Rattle.repair_scan.proofs.Standings.{single_read}
use Rattle.repair_scan.proofs.standing.read_payload.Goals as goal

pub returns-in-Some : goal.returns-in-Some
returns-in-Some c =
    single_read c.args.kind c.args.keypos c.args.unit c.args.exp c.args.payload.now c.in-Some.key.now c.single_candidate.result
    (c.a_single_key_is_that_of_one_object.ensures c.args.kind c.args.keypos c.args.payload.now c.in-Some.key.now c.in-Some.ensures.found)
    c.single_candidate.ensures.entry c.single_candidate.ensures.key
