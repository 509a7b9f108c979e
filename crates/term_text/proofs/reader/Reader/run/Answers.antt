use Rattle.std.proofs.Common.{◌≡◌, ◌+◌, ◌<◌, ◌∷◌, get_or, drop, length, Err, refl, ap, ◌∙◌, sym, subst, arith}
use Rattle.std.proofs.lemmas.List.{take-append-drop}
use Rattle.text_model.specs.declared.fault.TextFault.TheVariants.{Syntax}
use Rattle.text_model.specs.Progress.{Progress, counted, reach}
use Rattle.term_text.specs.ReaderView.{state_of, progress_of, IsReady}
use Rattle.term_text.proofs.ReaderSteps.{reach_on_step, reach_fault, reach_long, ready_step, next_of, one_more}
use Rattle.term_text.proofs.reader.Reader.run.Goals as goal

pub loop-taken-init : goal.loop-taken-init
loop-taken-init c = record { reached = λ more. refl; read = omega arith; ready = c.requires.ready }

pub returns-in-Err-clause-syntax : goal.returns-in-Err-clause-syntax
returns-in-Err-clause-syntax c = λ o why e.
    let bytes = c.args.bytes.now in
    let i = c.loop-taken.taken in
    let h : i < length bytes = omega arith in
    let going = sym c.is_stopped.ensures ∙ c.if-is_stopped.false in
    ap (reach (progress_of c.args.self.now)) (sym (take-append-drop i bytes)) ∙ c.loop-taken.invariant.reached (drop i bytes)
    ∙ ap (reach (progress_of c.loop-taken.self)) (next_of bytes i h)
    ∙ reach_fault (progress_of c.loop-taken.self) (get_or bytes i 0) (drop (i + 1) bytes) o why
    c.loop-taken.invariant.ready going (c.in-Err.ensures.syntax o why (ap Err (let fault : c.in-Err.fault ≡ Syntax o why = cc in fault)))

pub returns-then-is_too_long-clause-syntax : goal.returns-then-is_too_long-clause-syntax
returns-then-is_too_long-clause-syntax c = λ o why e.
    let bytes = c.args.bytes.now in
    let i = c.loop-taken.taken in
    let h : i < length bytes = omega arith in
    let going = sym c.is_stopped.ensures ∙ c.if-is_stopped.false in
    let on = reach_on_step (progress_of c.loop-taken.self) (progress_of c.advance.new.self) (get_or bytes i 0) (state_of c.advance.new.self)
    (drop (i + 1) bytes) c.loop-taken.invariant.ready going c.in-Ok.ensures.ok.0 c.in-Ok.ensures.ok.1 in
    let long = reach_long (progress_of c.advance.new.self) (drop (i + 1) bytes) (sym c.is_too_long.ensures ∙ c.if-is_too_long.true) in
    let failed = ap (reach (progress_of c.args.self.now)) (sym (take-append-drop i bytes)) ∙ c.loop-taken.invariant.reached (drop i bytes)
    ∙ ap (reach (progress_of c.loop-taken.self)) (next_of bytes i h) ∙ on ∙ long in
    cc

pub loop-taken-preserved : goal.loop-taken-preserved
loop-taken-preserved c =
    let bytes = c.args.bytes.now in
    let i = c.loop-taken.taken in
    let h : i < length bytes = omega arith in
    let going = sym c.is_stopped.ensures ∙ c.if-is_stopped.false in
    let read : c.advance.new.self.read ≡ c.loop-taken.self.read + 1 = ap (λ (p : Progress). p.read) c.in-Ok.ensures.ok.1 in
    let blank : c.advance.new.self.blank ≡ (counted (progress_of c.loop-taken.self) (state_of c.advance.new.self)).blank =
    ap (λ (p : Progress). p.blank) c.in-Ok.ensures.ok.1 in
    record {
      reached = λ more.
          ap (reach (progress_of c.args.self.now)) (one_more bytes i more h)
          ∙ c.loop-taken.invariant.reached (get_or bytes i 0 ∷ more)
          ∙ reach_on_step (progress_of c.loop-taken.self) (progress_of c.advance.new.self) (get_or bytes i 0) (state_of c.advance.new.self) more
          c.loop-taken.invariant.ready going c.in-Ok.ensures.ok.0 c.in-Ok.ensures.ok.1;
      read = omega (arith, read, c.loop-taken.invariant.read);
      ready =
          subst IsReady (sym c.in-Ok.ensures.ok.1)
          (ready_step (progress_of c.loop-taken.self) (get_or bytes i 0) (state_of c.advance.new.self) c.loop-taken.invariant.ready going c.in-Ok.ensures.ok.0
          (rw (← blank, ← read) (sym c.is_too_long.ensures ∙ c.if-is_too_long.false)));
    }
