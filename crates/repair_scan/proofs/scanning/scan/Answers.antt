use Rattle.std.proofs.Common.{ap, ◌∙◌, arith}
use Rattle.std.proofs.lemmas.Result.{IfOk-weaker}
use Rattle.space_model.specs.Sizes.{segment_units}
use Rattle.file_model.specs.LayoutLaws.{segment_no_later}
use Rattle.file_model.specs.Taken.{entries, rejects}
use Rattle.repair_scan.proofs.Counted.{seen_whole}
use Rattle.repair_scan.proofs.Ends.{rejects_whole}
use Rattle.repair_scan.proofs.scanning.scan.Goals as goal

pub returns-clause-entries : goal.returns-clause-entries
returns-clause-entries g c =
    IfOk-weaker c.scan_segments.result _ _
    (λ found same f told is. same f told
    ∙ ap entries (seen_whole f c.args.place.now c.min-segments.result (c.a_header_is_located_where_it_is_read.ensures.head f c.args.place.now is) c.min-segments.ensures))
    c.scan_segments.ensures.entries

pub returns-clause-rejects : goal.returns-clause-rejects
returns-clause-rejects g c =
    IfOk-weaker c.scan_segments.result _ _
    (λ found same f told is. same f told
    ∙ ap rejects (seen_whole f c.args.place.now c.min-segments.result (c.a_header_is_located_where_it_is_read.ensures.head f c.args.place.now is) c.min-segments.ensures))
    c.scan_segments.ensures.rejects

pub returns-clause-closable : goal.returns-clause-closable
returns-clause-closable g c =
    IfOk-weaker c.scan_segments.result _ _
    (λ found below f told. rejects_whole c.min-segments.result f found.rejects below
    (let long = c.requires.whole f told in
    let later = segment_no_later segment_units c.min-segments.result c.args.place.now.whole (omega arith) in
    omega (arith, later, long)))
    c.scan_segments.ensures.below

pub returns-clause-few : goal.returns-clause-few
returns-clause-few g c = IfOk-weaker c.scan_segments.result _ _ (λ found few. omega (arith, few, c.min-segments.ensures)) c.scan_segments.ensures.few
