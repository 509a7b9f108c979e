use Rattle.std.proofs.Common.{◌+◌, ◌&&◌, cond, Some, refl, ap, sym, ◌∙◌}
use Rattle.std.specs.Cow.{cow_slice_items}
use Rattle.std.specs.Prelude.{is_none}
use Rattle.std.specs.Str.{bytes_eq}
use Rattle.std.proofs.Math.Bool.{and-true, and-false}
use Rattle.std.proofs.lemmas.Result.{on_ok_weaker}
use Rattle.repair_scan.specs.TakenKeys.{unit_of}
use Rattle.repair_scan.proofs.Judged.{key_is_taken, block_is_taken, within_entry}
use Rattle.repair_scan.proofs.judge.Judge.judge.Goals as goal

pub returns-in-Some-clause-judges : goal.returns-in-Some-clause-judges
returns-in-Some-clause-judges c =
    let old = c.args.self.now in
    on_ok_weaker c.reject-in-Some.result
    (λ rejected. key_is_taken c.keys_are_told_apart_by_their_bytes.ensures c.args.unit old c.reject-in-Some.new.self c.args.candidate c.if-unit-self.false
    c.in-Some.other (sym c.in-Some.is ∙ c.in_ok-other.ensures.had ∙ ap (unit_of old.keys) c.as_slice-key.ensures.value)
    (λ bytes. ap (λ j. unit_of j.keys bytes) rejected ∙ c.in_ok-other.ensures.put bytes
    ∙ ap (λ o. cond (bytes_eq c.as_slice-key.result.now bytes && is_none o) (Some c.args.unit) (unit_of old.keys bytes)) c.in-Some.is
    ∙ ap (λ b. cond b (Some c.args.unit) (unit_of old.keys bytes)) (and-false (bytes_eq c.as_slice-key.result.now bytes)))
    (ap (λ j. j.last) rejected) (ap (λ j. j.end) rejected) (ap (λ j. j.entries) rejected) (ap (λ j. j.rejects) rejected))
    c.reject-in-Some.ensures

pub returns-clause-within : goal.returns-clause-within
returns-clause-within c =
    on_ok_weaker c.push.result
    (λ pushed. within_entry c.args.unit c.args.self.now _ c.args.candidate.entry pushed refl)
    c.push.ensures.ok

pub returns-clause-judges : goal.returns-clause-judges
returns-clause-judges c =
    let old = c.args.self.now in
    on_ok_weaker c.push.result
    (λ pushed. block_is_taken c.keys_are_told_apart_by_their_bytes.ensures c.args.unit old _ c.args.candidate c.if-unit-self.false
    (sym c.in_default.is ∙ c.in_ok-other.ensures.had ∙ ap (unit_of old.keys) c.as_slice-key.ensures.value)
    (λ bytes. c.in_ok-other.ensures.put bytes
    ∙ ap (λ o. cond (bytes_eq c.as_slice-key.result.now bytes && is_none o) (Some c.args.unit) (unit_of old.keys bytes)) c.in_default.is
    ∙ ap (λ b. cond b (Some c.args.unit) (unit_of old.keys bytes)) (and-true (bytes_eq c.as_slice-key.result.now bytes))
    ∙ ap (λ bs. cond (bytes_eq bs bytes) (Some c.args.unit) (unit_of old.keys bytes)) c.as_slice-key.ensures.value)
    refl (ap (λ n. c.args.unit + n) c.run_units.ensures.value) pushed refl)
    c.push.ensures.ok
