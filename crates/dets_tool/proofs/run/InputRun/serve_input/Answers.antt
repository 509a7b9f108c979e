use Rattle.std.proofs.Common.{◌≡◌, ◌≢◌, ℕ, ◌^◌, false, List, length, Option, Result, Ok, Err, ap, ◌∙◌, refl, sym, subst, arith}
use Rattle.std.proofs.lemmas.Result.{err_from_is_err_and}
use Rattle.host_model.specs.Source.{Stream}
use Rattle.feed_model.specs.Meaning.{goes_on, no_term}
use Rattle.feed_model.specs.Feed.{Feed, total}
use Rattle.dets_tool.specs.InputFeed.{InputFeedValue, Pulled}
use Rattle.dets_tool.specs.declared.input_feed.Piece.{Piece}
use Rattle.dets_tool.specs.declared.status.Status.TheVariants.{Disk, SourceFault, WordsRefused}
use Rattle.dets_tool.specs.Serving.{standing, behind_piece, Serves, Breaks}
use Rattle.dets_tool.proofs.InputRuns.{no_input, taken_none, taken_piece, piece_breaks, pull_fails, ran_behind, broken_by}
use Rattle.dets_tool.proofs.InputRuns.{no_source_fault, no_words, no_disk_fault}
use Rattle.dets_tool.proofs.run.InputRun.serve_input.Goals as goal

ok_is_no_err : {A E : Type 0} (a : A) (e : E) (r : Result A E) → r ≡ Ok a → r ≢ Err e
ok_is_no_err a e r is f = let clash : Ok a ≡ Err e = sym is ∙ f in cc

Pulled-as : (a b : Piece) (old new : InputFeedValue) (before after : Option Stream) → a ≡ b → Pulled (Ok a) old new before after
    → Pulled (Ok b) old new before after
Pulled-as a b old new before after is p = subst (λ (x : Piece). Pulled (Ok x) old new before after) is p

pub returns-in_err-input-clause-ran : goal.returns-in_err-input-clause-ran
returns-in_err-input-clause-ran g c = λ stream told ended.
    let p = err_from_is_err_and c.from_residual.result c.from_residual.ensures.1 in
    rw (p.1, p.2)
    (no_input g.F.Feed.meaning g.F.Input.told g.W.Service.service g.met.F.Feed.steady g.met.F.Input.of_others stream _ _ told ended)

pub loop-input-init : goal.loop-input-init
loop-input-init g c =
    let room : c.in_ok-input.input.room ≡ 2 ^ 32 = ap (λ (f : InputFeedValue). f.room) c.in_ok-input.ensures in
    let empty = c.requires.feed in
    record {
      budget = omega (arith, room, ap (λ (s : Feed g.row.F-Fault.Denot). total s) empty);
      open_input = ap (λ (f : InputFeedValue). f.state) c.in_ok-input.ensures;
      ready = record {
        at_end = ap (λ (s : Feed g.row.F-Fault.Denot). s.finished) empty;
        no_fault = ap (λ (s : Feed g.row.F-Fault.Denot). s.fault) empty;
        counted = omega (arith, c.requires.counts.1);
      };
      serves = c.requires.ready;
      fed = c.requires.counts.0 ∙ sym (ap (λ (s : Feed g.row.F-Fault.Denot). total s) empty);
      waiting =
          subst (λ (s : Feed g.row.F-Fault.Denot). g.F.Feed.meaning.Stands false s.offset s.left (no_term goes_on)) (sym empty) g.met.F.Input.nothing_fed;
      taken = λ stream told ended.
          rw (empty, c.requires.first, c.requires.counts.1)
          (taken_none g.F.Feed.meaning g.F.Input.told g.W.Service.service stream _ _ _ told ended room);
      source_faults = refl;
      never_falls = omega arith;
      file = refl;
      disk_faults = refl;
      reads = refl;
    }

pub returns-in_err-pull-clause-ran : goal.returns-in_err-pull-clause-ran
returns-in_err-pull-clause-ran g c = λ stream told ended.
    let p = err_from_is_err_and c.from_residual-in_err-pull.result c.from_residual-in_err-pull.ensures.1 in
    let i = c.loop-input.invariant in
    rw (p.1, p.2)
    (pull_fails g.F.Feed.meaning g.F.Input.told g.W.Service.service c.in_err-pull.field-0.0 stream.left _ _ _ _ _ _ (i.taken stream told ended) i.waiting
    (c.in_err-pull.ensures.reads i.open_input))

pub loop-input-preserved : goal.loop-input-preserved
loop-input-preserved g c =
    let i = c.loop-input.invariant in
    let piece = Pulled-as _ _ _ _ _ _ c.in-Bytes.is (c.in_ok-pull.ensures.reads i.open_input) in
    let served = c.in_ok-serve_piece.ensures in
    record {
      budget = omega (arith, i.budget, piece.room, served.total, ap length c.piece.ensures);
      open_input = piece.goes_on;
      ready = served.ready;
      serves = served.serves;
      fed = served.fed;
      waiting = served.waiting;
      taken = λ stream told ended.
          taken_piece g.F.Feed.meaning g.F.Input.told g.W.Service.service stream.left _ _ _ _ _ _ _ (i.taken stream told ended) piece
          (subst (λ (l : List ℕ). Serves g.F.Feed.meaning g.W.Service.service false (behind_piece l
          (standing (g.F.Feed.shows c.loop-input.self.feed) (g.W.Service.state c.loop-input.self.service) c.loop-input.self.answered
          (g.H.Host.shows c.loop-input.host)))
          (standing (g.F.Feed.shows c.serve_piece.new.self.feed) (g.W.Service.state c.serve_piece.new.self.service) c.serve_piece.new.self.answered
          (g.H.Host.shows c.serve_piece.new.host))) c.piece.ensures served.served);
      source_faults = c.pull.ensures.no_fault (ok_is_no_err _ _ _ c.in_ok-pull.was) ∙ i.source_faults;
      never_falls = omega (arith, i.never_falls, c.serve_piece.ensures.faults.never_falls);
      file = c.serve_piece.ensures.faults.file ∙ i.file;
      disk_faults = c.serve_piece.ensures.faults.disk_faults ∙ i.disk_faults;
      reads = c.serve_piece.ensures.faults.reads ∙ i.reads;
    }

pub returns-in_err-serve_piece-clause-ran : goal.returns-in_err-serve_piece-clause-ran
returns-in_err-serve_piece-clause-ran g c = λ stream told ended.
    let p = err_from_is_err_and c.from_residual-in_err-serve_piece.result c.from_residual-in_err-serve_piece.ensures.1 in
    let i = c.loop-input.invariant in
    let piece = Pulled-as _ _ _ _ _ _ c.in-Bytes.is (c.in_ok-pull.ensures.reads i.open_input) in
    rw (p.1, p.2)
    (piece_breaks g.F.Feed.meaning g.F.Input.told g.W.Service.service g.met.F.Feed.steady g.met.F.Input.of_others
    c.in_err-serve_piece.field-0.0 stream.left _ _ _ _ _ _ _ (i.taken stream told ended) piece
    (subst (λ (l : List ℕ). Breaks g.F.Feed.meaning g.F.Input.told g.W.Service.service c.in_err-serve_piece.field-0.0 false (behind_piece l
    (standing (g.F.Feed.shows c.loop-input.self.feed) (g.W.Service.state c.loop-input.self.service) c.loop-input.self.answered
    (g.H.Host.shows c.loop-input.host)))
    (g.H.Host.shows c.serve_piece.new.host).said) c.piece.ensures c.in_err-serve_piece.ensures.breaks))

pub returns-in_err-serve_piece-clause-source_fault :
    goal.returns-in_err-serve_piece-clause-source_fault
returns-in_err-serve_piece-clause-source_fault g c = λ e.
    let p = err_from_is_err_and c.from_residual-in_err-serve_piece.result c.from_residual-in_err-serve_piece.ensures.1 in
    let same : p.0 ≡ SourceFault = cc in
    absurd (no_source_fault g.F.Feed.meaning g.F.Input.told g.W.Service.service g.met.F.Input.of_others _ _ _ _
    c.in_err-serve_piece.ensures.breaks (sym p.2 ∙ same))

pub returns-in_err-serve_piece-clause-words : goal.returns-in_err-serve_piece-clause-words
returns-in_err-serve_piece-clause-words g c = λ e.
    let p = err_from_is_err_and c.from_residual-in_err-serve_piece.result c.from_residual-in_err-serve_piece.ensures.1 in
    let same : p.0 ≡ WordsRefused = cc in
    no_words g.F.Feed.meaning g.F.Input.told g.W.Service.service g.met.F.Input.of_others _ _ _ _
    c.in_err-serve_piece.ensures.breaks (sym p.2 ∙ same)

pub returns-in_err-serve_piece-clause-disk : goal.returns-in_err-serve_piece-clause-disk
returns-in_err-serve_piece-clause-disk g c = λ e.
    let p = err_from_is_err_and c.from_residual-in_err-serve_piece.result c.from_residual-in_err-serve_piece.ensures.1 in
    let same : p.0 ≡ Disk = cc in
    no_disk_fault g.F.Feed.meaning g.F.Input.told g.W.Service.service g.met.F.Input.of_others _ _ _ _
    c.in_err-serve_piece.ensures.breaks (sym p.2 ∙ same)

pub returns-clause-ran : goal.returns-clause-ran
returns-clause-ran g c = λ stream told ended.
    let i = c.loop-input.invariant in
    let pulled = Pulled-as _ _ _ _ _ _ c.in_default.is (c.in_ok-pull.ensures.reads i.open_input) in
    ran_behind g.F.Feed.meaning g.F.Input.told g.W.Service.service g.met.F.Feed.steady g.met.F.Input.of_others c.serve_whole.result stream.left _ _ _ _ _
    (g.F.Feed.shows c.loop-input.self.feed) (g.F.Feed.shows c.finish.new.self) (g.F.Feed.shows c.serve_whole.new.self.feed) _ _ _ _
    (g.H.Host.shows c.loop-input.host) (g.H.Host.shows c.serve_whole.new.host) c.finish.ensures (i.taken stream told ended) pulled
    c.serve_whole.ensures.waiting c.serve_whole.ensures.served c.serve_whole.ensures.breaks

pub returns-clause-source_fault : goal.returns-clause-source_fault
returns-clause-source_fault g c = λ e.
    absurd (broken_by g.F.Feed.meaning g.F.Input.told g.W.Service.service c.serve_whole.result _ _ _ _ e c.serve_whole.ensures.breaks
    (λ b. no_source_fault g.F.Feed.meaning g.F.Input.told g.W.Service.service g.met.F.Input.of_others _ _ _ _ b refl))

pub returns-clause-words : goal.returns-clause-words
returns-clause-words g c = λ e.
    broken_by g.F.Feed.meaning g.F.Input.told g.W.Service.service c.serve_whole.result _ _ _ _ e c.serve_whole.ensures.breaks
    (λ b. no_words g.F.Feed.meaning g.F.Input.told g.W.Service.service g.met.F.Input.of_others _ _ _ _ b refl)

pub returns-clause-disk : goal.returns-clause-disk
returns-clause-disk g c = λ e.
    broken_by g.F.Feed.meaning g.F.Input.told g.W.Service.service c.serve_whole.result _ _ _ _ e c.serve_whole.ensures.breaks
    (λ b. no_disk_fault g.F.Feed.meaning g.F.Input.told g.W.Service.service g.met.F.Input.of_others _ _ _ _ b refl)
