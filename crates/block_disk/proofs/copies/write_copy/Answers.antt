use Rattle.std.proofs.Common.{ap, ◌∙◌, length, option_map, refl, List, ℕ}
use Rattle.std.proofs.lemmas.Result.{on_ok_weaker}
use Rattle.host_model.specs.Disk.{written_at}
use Rattle.file_model.specs.Layout.{body_at, body_size}
use Rattle.file_model.specs.Header.{body_of}
use Rattle.block_disk.specs.Copies.{TearsBody, WritesBody}
use Rattle.block_disk.proofs.Telling.{images_made, file_made, file_written}
use Rattle.block_disk.proofs.CopiesTorn.{body_makes, body_written}
use Rattle.block_disk.proofs.copies.write_copy.Goals as goal

pub returns-clause-any_moment : goal.returns-clause-any_moment
returns-clause-any_moment g c =
    let s = c.args.second in
    images_made c.body_at.result (body_at s) (length c.body_bytes-body.result) body_size (TearsBody s) (g.H.Host.shows c.args.host.now)
    (g.H.Host.shows c.put_lasting.new.host) c.body_at.ensures (ap (λ (b : List ℕ). length b) c.body_bytes-body.ensures) (body_makes s) c.requires.page
    (c.put_lasting.ensures.images c.requires.settled)

pub returns-clause-file : goal.returns-clause-file
returns-clause-file g c =
    let s = c.args.second in
    file_made c.body_at.result (body_at s) (length c.body_bytes-body.result) body_size (TearsBody s) (g.H.Host.shows c.args.host.now).file
    (g.H.Host.shows c.put_lasting.new.host).file c.body_at.ensures (ap (λ (b : List ℕ). length b) c.body_bytes-body.ensures) (body_makes s) c.requires.page
    c.put_lasting.ensures.tearing.file

pub returns-clause-written : goal.returns-clause-written
returns-clause-written g c =
    let s = c.args.second in
    let body = body_of c.args.head.now in
    let same = ap (λ (b : List ℕ). option_map (written_at c.body_at.result b) (g.H.Host.shows c.args.host.now).file) c.body_bytes-body.ensures in
    on_ok_weaker c.put_lasting.result (λ e.
    file_written c.body_at.result (body_at s) body (WritesBody s body) (g.H.Host.shows c.args.host.now).file
    (g.H.Host.shows c.put_lasting.new.host).file c.body_at.ensures (λ f page. body_written s body f refl page) c.requires.page (e ∙ same))
    c.put_lasting.ensures.written
