use Rattle.file_model.proofs.OfObjects.{read_back}
use Rattle.file_model.proofs.packing_laws.a_payload_has_its_objects.Goals as goal

pub returns : goal.returns
returns c = read_back c.the_canonical_spelling_spells_its_term.ensures
