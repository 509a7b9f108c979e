use Rattle.std.proofs.Common.{◌∙◌, arith}
use Rattle.std.proofs.lemmas.List.{take_all}
use Rattle.etf_codec.proofs.Naming.{IsAtomOf-latin_1}
use Rattle.etf_codec.proofs.atoms.latin_1_atom.Goals as goal

pub returns : goal.returns
returns c =
    IsAtomOf-latin_1 c.as_str.result.now c.args.bytes.now c.args.term c.named.result
    (c.as_str.ensures ∙ c.loop-byte.invariant ∙ take_all c.loop-byte.byte-index c.args.bytes.now (omega arith)) c.named.ensures.ok c.named.ensures.err
