use Rattle.std.proofs.Common.{inr, refl}
use Rattle.etf_codec.proofs.Naming.{IsAtomOf-utf8, is_name-not_utf8}
use Rattle.etf_codec.proofs.atoms.utf8_atom.Goals as goal

pub returns-in-Ok : goal.returns-in-Ok
returns-in-Ok c =
    IsAtomOf-utf8 c.in-Ok.text.now c.args.bytes.now c.args.term c.named.result c.in-Ok.ensures.cases.0 c.in-Ok.ensures.cases.1 c.named.ensures.ok
    c.named.ensures.err

pub returns-in-Err : goal.returns-in-Err
returns-in-Err c = inr (is_name-not_utf8 c.args.bytes.now c.in-Err.ensures.cases.0, refl)
