use Rattle.std.proofs.Common.{ap, append_assoc}
use Rattle.std.proofs.lemmas.Str.{encodes-chars}
use Rattle.etf_model.specs.Canonical.{text_spelling}
use Rattle.etf_codec.proofs.CanonicalParts.{name-fits}
use Rattle.etf_codec.proofs.encoding.encode_atom.Goals as goal

pub encode_text_head-requires : goal.encode_text_head-requires
encode_text_head-requires c = name-fits c.args.name.now c.utf8.name c.requires

pub returns : goal.returns
returns c =
    rw (ap text_spelling (encodes-chars c.args.name.now c.utf8.name))
    (simp append_assoc at (rw (c.in_ok-encode_text_head.ensures, c.as_bytes.ensures.value) at c.extend_from_slice.ensures.ok))
