use Rattle.std.proofs.Common.{[], ◌∷◌, ap, ◌∙◌, cond, option_map, refl, ℕ}
use Rattle.std.proofs.lemmas.Result.{on_ok_weaker}
use Rattle.host_model.specs.Disk.{written_at}
use Rattle.file_model.specs.Layout.{copy_at, open_byte, closed_byte}
use Rattle.block_disk.specs.Copies.{TearsGate, WritesGate}
use Rattle.block_disk.proofs.Telling.{images_made, file_made, file_written}
use Rattle.block_disk.proofs.CopiesTorn.{gate_makes, gate_written}
use Rattle.block_disk.proofs.copies.write_gate.Goals as goal

pub returns-clause-any_moment : goal.returns-clause-any_moment
returns-clause-any_moment g c =
    let s = c.args.second in
    images_made c.copy_at.result (copy_at s) 1 1 (TearsGate s) (g.H.Host.shows c.args.host.now) (g.H.Host.shows c.put_lasting.new.host)
    c.copy_at.ensures refl (gate_makes s) c.requires.page (c.put_lasting.ensures.images c.requires.settled)

pub returns-clause-file : goal.returns-clause-file
returns-clause-file g c =
    let s = c.args.second in
    file_made c.copy_at.result (copy_at s) 1 1 (TearsGate s) (g.H.Host.shows c.args.host.now).file (g.H.Host.shows c.put_lasting.new.host).file
    c.copy_at.ensures refl (gate_makes s) c.requires.page c.put_lasting.ensures.tearing.file

pub returns-clause-written : goal.returns-clause-written
returns-clause-written g c =
    let s = c.args.second in
    let o = c.args.is_open in
    let byte = ap (λ (b : ℕ). option_map (written_at c.copy_at.result (b ∷ [])) (g.H.Host.shows c.args.host.now).file) c.gate_byte-gate.ensures in
    on_ok_weaker c.put_lasting.result (λ e.
    file_written c.copy_at.result (copy_at s) (cond o open_byte closed_byte ∷ []) (WritesGate s o) (g.H.Host.shows c.args.host.now).file
    (g.H.Host.shows c.put_lasting.new.host).file c.copy_at.ensures (λ f page. gate_written s o f page) c.requires.page (e ∙ byte))
    c.put_lasting.ensures.written
