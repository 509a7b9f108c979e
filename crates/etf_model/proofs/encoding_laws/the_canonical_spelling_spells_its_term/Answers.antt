use Rattle.etf_model.proofs.CanonicalSpells.{canonical_spells}
use Rattle.etf_model.proofs.encoding_laws.the_canonical_spelling_spells_its_term.Goals as goal

pub returns : goal.returns
returns c = canonical_spells
