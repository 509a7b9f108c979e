use Rattle.std.proofs.Common.{◌≡◌, true, length, subst, sym, ap, ◌∙◌}
use Rattle.std.proofs.lemmas.Result.{on_ok_weaker}
use Rattle.space_model.specs.Sizes.{segment_units}
use Rattle.host_model.specs.Disk.{DiffersIn, IsImage}
use Rattle.host_model.specs.Images.{images_weaker}
use Rattle.host_model.specs.Writes.{ranges_of, with_writes, BeginInside}
use Rattle.file_model.specs.Layout.{closed_byte}
use Rattle.file_model.specs.declared.head.Head.{Head}
use Rattle.file_model.specs.View.{view_of}
use Rattle.file_model.specs.Taken.{rejects}
use Rattle.file_model.specs.Fit.{has_no_rejects}
use Rattle.file_model.specs.GateWrites.{gate_writes, AreWhole}
use Rattle.repair_scan.specs.Found.{units_of_rejects, KeepsTable}
use Rattle.block_disk.proofs.Telling.{changes_known}
use Rattle.repair_scan.proofs.Closed.{gates_begin, keeps, none_left, told_after}
use Rattle.repair_scan.proofs.closing.close_rejects.Goals as goal

pub write_all_and_sync-requires : goal.write_all_and_sync-requires
write_all_and_sync-requires g c f told =
    subst (λ rs. BeginInside (gate_writes segment_units closed_byte (units_of_rejects rs)) f) (sym c.from_rejects-closing.ensures)
    (gates_begin (units_of_rejects c.args.found.now.rejects) f (c.requires.whole f told))

pub returns-clause-none_left : goal.returns-clause-none_left
returns-clause-none_left g c =
    let rs = c.from_rejects-closing.result.rejects.now in
    let is = c.from_rejects-closing.ensures in
    on_ok_weaker c.write_all_and_sync.result
    (λ written f told h are. told_after (λ z. has_no_rejects (view_of h z) ≡ true) (with_writes (gate_writes segment_units closed_byte (units_of_rejects rs)))
    (g.H.Host.shows c.args.host.now).file (g.H.Host.shows c.write_all_and_sync.new.host).file f told written
    (none_left rs f (λ none. c.if-len-eq0.false (c.len.ensures ∙ ap length (sym is) ∙ none))
    (subst (λ x. AreWhole segment_units (units_of_rejects x) f) (sym is) (c.requires.whole f told)) h (is ∙ are)
    c.a_repair_keeps_the_table_and_ends_without_rejects.ensures.end))
    c.write_all_and_sync.ensures.written

pub returns-clause-any_moment : goal.returns-clause-any_moment
returns-clause-any_moment g c settled f told h are =
    let rs = c.from_rejects-closing.result.rejects.now in
    let is = c.from_rejects-closing.ensures in
    images_weaker (IsImage (ranges_of (gate_writes segment_units closed_byte (units_of_rejects rs))) f) (KeepsTable h f)
    (g.H.Host.shows c.args.host.now) (g.H.Host.shows c.write_all_and_sync.new.host)
    (λ z image. keeps rs f (λ none. c.if-len-eq0.false (c.len.ensures ∙ ap length (sym is) ∙ none))
    (subst (λ x. AreWhole segment_units (units_of_rejects x) f) (sym is) (c.requires.whole f told)) h (is ∙ are)
    c.a_repair_keeps_the_table_and_ends_without_rejects.ensures.any_moment
    c.a_repair_keeps_the_table_and_ends_without_rejects.ensures.blocks z image.differs)
    (c.write_all_and_sync.ensures.images settled f told)

pub returns-clause-table : goal.returns-clause-table
returns-clause-table g c =
    let rs = c.from_rejects-closing.result.rejects.now in
    let is = c.from_rejects-closing.ensures in
    changes_known (AreWhole segment_units (units_of_rejects c.args.found.now.rejects))
    (DiffersIn (ranges_of (gate_writes segment_units closed_byte (units_of_rejects rs))))
    (λ f z. (h : Head) → c.args.found.now.rejects ≡ rejects (view_of h f) → KeepsTable h f z)
    (g.H.Host.shows c.args.host.now).file (g.H.Host.shows c.write_all_and_sync.new.host).file
    (λ f z whole differs h are. keeps rs f (λ none. c.if-len-eq0.false (c.len.ensures ∙ ap length (sym is) ∙ none))
    (subst (λ x. AreWhole segment_units (units_of_rejects x) f) (sym is) whole) h (is ∙ are)
    c.a_repair_keeps_the_table_and_ends_without_rejects.ensures.any_moment
    c.a_repair_keeps_the_table_and_ends_without_rejects.ensures.blocks z differs)
    c.requires.whole c.write_all_and_sync.ensures.tearing.file
