use Rattle.std.proofs.Common.{◌∙◌, sym, ap, Result, Ok}
use Rattle.std.specs.Prelude.{not, min, false}
use Rattle.host_model.specs.Tearing.{told_before}
use Rattle.file_model.specs.declared.head.Located.{Located}
use Rattle.file_model.specs.declared.head.Unreadable.{Unreadable}
use Rattle.file_model.specs.Layout.{segments_within}
use Rattle.space_model.specs.Sizes.{segment_units}
use Rattle.block_disk.specs.Copies.{IsCurrent}
use Rattle.block_disk.proofs.Current.{stands_located, located_current, length_same}
use Rattle.block_disk.proofs.Switching.{header_here, either_of}
use Rattle.block_disk.proofs.change.change_header.Goals as goal

pub returns-in_err-len-clause-file : goal.returns-in_err-len-clause-file
returns-in_err-len-clause-file g c =
    let p = c.args.place.now in
    let same = c.len.ensures.rests.file in
    record {
      told = λ x e. (
        x,
        same ∙ e,
        either_of p.head c.args.next x x (header_here p.second p.other_gate p.head x (stands_located x p (c.requires.place x e))),
      );
      untold = λ e. same ∙ e;
    }

pub change_copies-requires-clause-stands : goal.change_copies-requires-clause-stands
change_copies-requires-clause-stands g c x e = stands_located x c.args.place.now (c.requires.place x (sym c.len.ensures.rests.file ∙ e))

pub returns-clause-found : goal.returns-clause-found
returns-clause-found g c y told =
    let p = c.args.place.now in
    let next = c.args.next in
    let t = told_before (IsCurrent (not p.second) next) (g.H.Host.shows c.len.new.self).file (g.H.Host.shows c.change_copies.new.host).file y
    c.in_ok-change_copies.ensures.changed told in
    let was = sym c.len.ensures.rests.file ∙ t.1 in
    let stands = stands_located t.0 p (c.requires.place t.0 was) in
    let long = length_same t.0 y stands.page t.2.outside in
    let size = c.in_ok-len.ensures.length t.0 was in
    let whole = c.whole_segments.ensures ∙ ap (λ n. min next.segments (segments_within segment_units n)) (size ∙ sym long) in
    let made : Located → Result Located Unreadable = λ l. Ok l in
    located_current (not p.second) next y t.2.stands
    ∙ sym (ap (λ w. made (record { head = next; second = not p.second; other_gate = false; whole = w })) whole)
