use Rattle.std.proofs.Common.{◌≡◌, ◌≢◌, ℕ, List, [], length, ◌∙◌, ap}
use Rattle.std.proofs.lemmas.Result.{err_from_is_err_and}
use Rattle.dets_tool.proofs.Checks.{no_report, lines_cut}
use Rattle.dets_tool.proofs.checking.put_report.Goals as goal

has_bytes : (file : List ℕ) (n : ℕ) → n ≡ length file → (n ≡ 0 → ⊥) → file ≢ []
has_bytes file n is some none = some (is ∙ ap length none)

pub returns-in_err-report-clause-checked : goal.returns-in_err-report-clause-checked
returns-in_err-report-clause-checked g c = λ file told.
    let p = err_from_is_err_and c.from_residual-in_err-report.result c.from_residual-in_err-report.ensures.1 in
    rw (p.1, p.2)
    (no_report c.in_err-report.field-0.0 file _ _ (has_bytes file c.in_ok-len.field-0 (c.in_ok-len.ensures.length file told) c.if-branch-eq0.false)
    (c.in_err-report.ensures.told file (c.len.ensures.rests.file ∙ told)) (c.check.ensures.rests.said ∙ c.len.ensures.rests.said))

pub returns-in_err-put-clause-checked : goal.returns-in_err-put-clause-checked
returns-in_err-put-clause-checked g c = λ file told.
    let p = err_from_is_err_and c.from_residual-in_err-put.result c.from_residual-in_err-put.ensures.1 in
    let front = c.in_err-put.ensures.front in
    rw (p.1, p.2)
    (lines_cut c.in_ok-report.report file _ _ _ _ (c.in_ok-report.ensures.told file (c.len.ensures.rests.file ∙ told))
    (c.as_slice.ensures ∙ c.in_ok-lines.ensures) (c.check.ensures.rests.said ∙ c.len.ensures.rests.said) front)
