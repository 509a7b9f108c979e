use Rattle.std.proofs.Common.{◌∙◌, [], ◌∷◌, ap, arith, option_map, subst}
use Rattle.std.proofs.lemmas.Result.{on_ok_weaker}
use Rattle.host_model.specs.Disk.{range, DiffersIn, written_at}
use Rattle.host_model.specs.Writes.{ranges_of}
use Rattle.file_model.specs.Layout.{page_size, segment_at}
use Rattle.space_model.specs.Sizes.{segment_units}
use Rattle.block_disk.specs.Zeroed.{zeros, zero_pages}
use Rattle.block_disk.proofs.Wider.{tearing_wider}
use Rattle.block_disk.proofs.Zeroing.{how_many, begin_inside, file_zeroed, in_one_range}
use Rattle.block_disk.proofs.segment.zero_segment.Goals as goal

pub write_all-requires : goal.write_all-requires
write_all-requires g c f told =
    begin_inside page_size c.from_place.result.at 65 f (omega (arith, c.requires f told, c.from_place.ensures, c.segment_at.ensures))

pub returns-clause-written : goal.returns-clause-written
returns-clause-written g c =
    let at = c.from_place.result.at in
    let old = (g.H.Host.shows c.args.host.now).file in
    let same = c.from_place.ensures ∙ c.segment_at.ensures in
    on_ok_weaker c.write_all.result (λ e.
    file_zeroed page_size at 65 old (g.H.Host.shows c.write_all.new.host).file
    (λ f told. omega (arith, c.requires f told, c.from_place.ensures, c.segment_at.ensures)) e
    ∙ ap (λ a. option_map (written_at a (zeros 266240)) old) same) c.write_all.ensures.written

pub returns-clause-tearing : goal.returns-clause-tearing
returns-clause-tearing g c =
    let at = c.from_place.result.at in
    let same = c.from_place.ensures ∙ c.segment_at.ensures in
    tearing_wider (ranges_of (zero_pages page_size at 65)) (range (segment_at segment_units c.args.segment) 266240 ∷ [])
    (g.H.Host.shows c.args.host.now) (g.H.Host.shows c.write_all.new.host)
    (λ a b d. subst (λ x. DiffersIn (range x 266240 ∷ []) a b) same (in_one_range page_size at 65 a b d)) c.write_all.ensures.tearing

pub returns-clause-clock : goal.returns-clause-clock
returns-clause-clock g c = omega (arith, c.write_all.ensures.clock, how_many page_size c.from_place.result.at 65)
