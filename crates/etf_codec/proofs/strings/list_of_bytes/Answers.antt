use Rattle.std.proofs.Common.{◌≡◌, ◌∙◌, arith, map, pos, take, ap}
use Rattle.std.proofs.lemmas.List.{take_all}
use Rattle.dets_term.specs.TermValue.{integer}
use Rattle.etf_codec.proofs.Built.{built_integers, IfErr-ok, one_made}
use Rattle.etf_codec.proofs.strings.list_of_bytes.Goals as goal

pub within_limits-requires : goal.within_limits-requires
within_limits-requires c =
    let all : take c.loop-byte.byte-index c.args.bytes.now ≡ c.args.bytes.now = take_all c.loop-byte.byte-index c.args.bytes.now (omega arith) in
    IfErr-ok c.list.result _ _ (c.list.ensures
    ∙ built_integers c.loop-byte.parts c.args.bytes.now (c.loop-byte.invariant ∙ ap (map (λ x. integer (pos x))) all) (omega arith))

pub returns-clause-ok : goal.returns-clause-ok
returns-clause-ok c =
    let all : take c.loop-byte.byte-index c.args.bytes.now ≡ c.args.bytes.now = take_all c.loop-byte.byte-index c.args.bytes.now (omega arith) in
    one_made c.list.result c.in_ok-within_limits.field-0 _ c.in_ok-within_limits.ensures.ok
    (c.list.ensures ∙ built_integers c.loop-byte.parts c.args.bytes.now (c.loop-byte.invariant ∙ ap (map (λ x. integer (pos x))) all) (omega arith))
