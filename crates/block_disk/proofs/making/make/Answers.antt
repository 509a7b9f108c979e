use Rattle.std.proofs.Common.{[], ◌∷◌, length, ap, arith, subst, ◌∙◌}
use Rattle.host_model.specs.Disk.{range}
use Rattle.host_model.specs.Tearing.{Tearing}
use Rattle.file_model.specs.Header.{located}
use Rattle.block_disk.specs.Places.{the_page}
use Rattle.block_disk.proofs.CopiesTorn.{in_page}
use Rattle.block_disk.proofs.Wider.{tearing_then}
use Rattle.block_disk.proofs.Made.{blank_size, made_by, told_made, made_located}
use Rattle.block_disk.proofs.making.make.Goals as goal

pub returns-in_err-put_lasting-2-clause-tearing : goal.returns-in_err-put_lasting-2-clause-tearing
returns-in_err-put_lasting-2-clause-tearing g c =
    let old = g.H.Host.shows c.args.host.now in
    let mid = g.H.Host.shows c.put_lasting.new.host in
    let size = ap (λ p. length p) c.blank_page-page.ensures ∙ blank_size c.args.head in
    tearing_then (range 0 1) the_page old mid (g.H.Host.shows c.put_lasting-2.new.host) (in_page 0 1 (omega arith))
    (subst (λ n. Tearing (range 0 n ∷ []) old mid) size c.in_ok-put_lasting.ensures.tearing) c.in_err-put_lasting-2.ensures.tearing

pub returns-clause-made : goal.returns-clause-made
returns-clause-made g c =
    made_by c.args.head c.blank_page-page.result (g.H.Host.shows c.args.host.now).file (g.H.Host.shows c.put_lasting.new.host).file
    (g.H.Host.shows c.put_lasting-2.new.host).file c.requires.empty c.blank_page-page.ensures c.in_ok-put_lasting.ensures.written
    c.in_ok-put_lasting-2.ensures.written

pub returns-clause-found : goal.returns-clause-found
returns-clause-found g c f told =
    let made = made_by c.args.head c.blank_page-page.result (g.H.Host.shows c.args.host.now).file (g.H.Host.shows c.put_lasting.new.host).file
    (g.H.Host.shows c.put_lasting-2.new.host).file c.requires.empty c.blank_page-page.ensures c.in_ok-put_lasting.ensures.written
    c.in_ok-put_lasting-2.ensures.written in
    ap located (told_made c.args.head (g.H.Host.shows c.args.host.now).file (g.H.Host.shows c.put_lasting-2.new.host).file f made told)
    ∙ made_located c.args.head (c.a_header_that_was_written_is_read.ensures c.args.head c.requires.allowed) c.requires.no_segment

pub returns-clause-tearing : goal.returns-clause-tearing
returns-clause-tearing g c =
    let old = g.H.Host.shows c.args.host.now in
    let mid = g.H.Host.shows c.put_lasting.new.host in
    let size = ap (λ p. length p) c.blank_page-page.ensures ∙ blank_size c.args.head in
    tearing_then (range 0 1) the_page old mid (g.H.Host.shows c.put_lasting-2.new.host) (in_page 0 1 (omega arith))
    (subst (λ n. Tearing (range 0 n ∷ []) old mid) size c.in_ok-put_lasting.ensures.tearing) c.in_ok-put_lasting-2.ensures.tearing
