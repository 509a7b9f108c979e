use Rattle.std.proofs.Common.{◌≡◌, Result, Ok, Err, inr, ap, sym, ◌∙◌, arith, length}
use Rattle.std.specs.Prelude.{min}
use Rattle.std.specs.Result.{IsErr, IsErrAnd}
use Rattle.file_model.specs.declared.head.Located.{Located}
use Rattle.file_model.specs.declared.head.Unreadable.{Unreadable}
use Rattle.file_model.specs.Layout.{page_of, segments_within}
use Rattle.block_disk.specs.declared.fault.HeadFault.{HeadFault}
use Rattle.space_model.specs.Sizes.{segment_units}
use Rattle.block_disk.specs.Answer.{fault_of, answer_for}
use Rattle.block_disk.proofs.Pages.{located_long, located_short, found_by, found_in}
use Rattle.block_disk.proofs.reading.read_header.Goals as goal

err_is : (r : Result Located HeadFault) (e : HeadFault) → IsErr r → IsErrAnd r (λ x. x ≡ e) → r ≡ Err e
err_is (Ok l) e is and = absurd (cc is)
err_is (Err x) e is and = ap (λ (y : HeadFault). Err y) and

pub returns-then-len-lt-PAGE_BYTES-clause-told : goal.returns-then-len-lt-PAGE_BYTES-clause-told
returns-then-len-lt-PAGE_BYTES-clause-told g c f told =
    let size = c.in_ok-len.ensures.length f told in
    inr (sym (ap answer_for (located_short f (omega arith))))

pub returns-in_default-clause-told : goal.returns-in_default-clause-told
returns-in_default-clause-told g c f told =
    let size = c.in_ok-len.ensures.length f told in
    let copies = c.in_ok-second.ensures.given f (c.len.ensures.rests.file ∙ told) in
    inr (sym (ap answer_for (located_long f (omega arith) ∙ ap (found_by (page_of f) (length f)) (sym copies ∙ c.in_default.is))))

pub returns-in_err-head-clause-told : goal.returns-in_err-head-clause-told
returns-in_err-head-clause-told g c f told =
    let size = c.in_ok-len.ensures.length f told in
    let copies = c.in_ok-second.ensures.given f (c.len.ensures.rests.file ∙ told) in
    let head = c.in_ok-read_copy.ensures.given f (c.read_copies.ensures.rests.file ∙ c.len.ensures.rests.file ∙ told) in
    let why = c.in_err-head.field-0.0 in
    let e = c.from_residual-in_err-head.ensures in
    inr (err_is c.from_residual-in_err-head.result (fault_of why) e.0 e.1
    ∙ sym (ap answer_for (located_long f (omega arith) ∙ ap (found_by (page_of f) (length f)) (sym copies ∙ c.in-Some.is)
    ∙ ap (found_in c.in-Some.second c.in-Some.other_gate (length f)) (sym head ∙ c.in_err-head.was))))

pub returns-clause-found : goal.returns-clause-found
returns-clause-found g c f told =
    let size = c.in_ok-len.ensures.length f told in
    let copies = c.in_ok-second.ensures.given f (c.len.ensures.rests.file ∙ told) in
    let head = c.in_ok-read_copy.ensures.given f (c.read_copies.ensures.rests.file ∙ c.len.ensures.rests.file ∙ told) in
    let h = c.in_ok-head.head in
    let whole = c.whole_segments.ensures ∙ ap (λ n. min h.segments (segments_within segment_units n)) size in
    let made : Located → Result Located Unreadable = λ l. Ok l in
    located_long f (omega arith) ∙ ap (found_by (page_of f) (length f)) (sym copies ∙ c.in-Some.is)
    ∙ ap (found_in c.in-Some.second c.in-Some.other_gate (length f)) (sym head ∙ c.in_ok-head.was)
    ∙ sym (ap (λ w. made (record { head = h; second = c.in-Some.second; other_gate = c.in-Some.other_gate; whole = w })) whole)

pub returns-clause-told : goal.returns-clause-told
returns-clause-told g c f told = inr (sym (ap answer_for (returns-clause-found g c f told)))
