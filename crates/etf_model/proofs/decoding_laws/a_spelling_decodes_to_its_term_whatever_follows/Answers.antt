use Rattle.etf_model.proofs.OneDecoding.{decodes_to_its_term}
use Rattle.etf_model.proofs.decoding_laws.a_spelling_decodes_to_its_term_whatever_follows.Goals as goal

pub returns : goal.returns
returns c = decodes_to_its_term
