use Rattle.std.proofs.Common.{subst, arith, sym, ◌∙◌}
use Rattle.repair_scan.specs.Faults.{header_fault}
use Rattle.repair_scan.specs.Reports.{Tells}
use Rattle.repair_scan.proofs.Reported.{filled, err_is, header_told, sound_exactly, needs_exactly}
use Rattle.repair_scan.proofs.checking.check.Goals as goal

pub scan-requires : goal.scan-requires
scan-requires g c = record {
  whole = λ f told.
      let before = sym c.in_ok-place.ensures.rests.file ∙ told in
      c.the_segments_that_count_lie_in_the_file.ensures.end f c.in_ok-place.place (c.in_ok-place.ensures.found f before);
}

pub returns-in_err-place-clause-told : goal.returns-in_err-place-clause-told
returns-in_err-place-clause-told g c f told =
    let why = c.in_err-place.field-0.0 in
    subst (λ r. Tells r f) (sym (err_is c.from_residual.result (header_fault why) c.from_residual.ensures.1))
    (header_told why f (c.in_err-place.ensures.told f told))

pub returns-in_err-found-clause-reads : goal.returns-in_err-found-clause-reads
returns-in_err-found-clause-reads g c tells f told =
    let counted = c.the_segments_that_count_lie_in_the_file.ensures.counted f c.in_ok-place.place (c.in_ok-place.ensures.found f told) in
    let header = c.in_ok-place.ensures.reads tells in
    let segments = c.in_err-found.ensures.reads (c.in_ok-place.ensures.rests.tells ∙ tells) in
    omega (arith, counted, header, segments)

pub returns-clause-told : goal.returns-clause-told
returns-clause-told g c f told =
    let found = c.in_ok-place.ensures.found f told in
    let now = c.in_ok-place.ensures.rests.file ∙ told in
    let at = c.a_header_is_located_where_it_is_read.ensures.head f c.in_ok-place.place found in (
      c.in_ok-place.place,
      found,
      c.report_with.ensures ∙ filled f c.in_ok-place.place c.in_ok-found.found at.2 (c.in_ok-found.ensures.entries f now found) (c.in_ok-found.ensures.rejects f now found),
    )

pub returns-clause-sound : goal.returns-clause-sound
returns-clause-sound g c f told =
    let found = c.in_ok-place.ensures.found f told in
    let now = c.in_ok-place.ensures.rests.file ∙ told in
    let at = c.a_header_is_located_where_it_is_read.ensures.head f c.in_ok-place.place found in
    sound_exactly f c.in_ok-place.place c.report_with.result at.0 (c.report_with.ensures
    ∙ filled f c.in_ok-place.place c.in_ok-found.found at.2 (c.in_ok-found.ensures.entries f now found) (c.in_ok-found.ensures.rejects f now found))

pub returns-clause-needs_repair : goal.returns-clause-needs_repair
returns-clause-needs_repair g c f told =
    let found = c.in_ok-place.ensures.found f told in
    let now = c.in_ok-place.ensures.rests.file ∙ told in
    let at = c.a_header_is_located_where_it_is_read.ensures.head f c.in_ok-place.place found in
    needs_exactly f c.in_ok-place.place c.report_with.result at.0 (c.report_with.ensures
    ∙ filled f c.in_ok-place.place c.in_ok-found.found at.2 (c.in_ok-found.ensures.entries f now found) (c.in_ok-found.ensures.rejects f now found))
