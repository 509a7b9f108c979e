use Rattle.std.proofs.Common.{refl, ap, ◌∙◌}
use Rattle.std.specs.Prelude.{remove}
use Rattle.term_model.specs.Hash.{hash_of}
use Rattle.repair_scan.proofs.Standings.{candidate_read}
use Rattle.repair_scan.proofs.standing.candidate_of.Goals as goal

pub returns : goal.returns
returns c =
    let spelled = c.into_vec-spelled.ensures ∙ c.in_ok-encode.ensures in
    candidate_read c.args.unit c.args.exp c.args.keypos c.args.objects.now c.in-Some.key.now _ c.in-Some.ensures c.depth-levels.ensures.term
    (c.hash_bytes.ensures ∙ ap hash_of (c.as_slice.ensures.value ∙ spelled)) c.len.ensures refl refl
    (c.remove-version.ensures.items ∙ ap (λ bs. remove bs 0) spelled)
