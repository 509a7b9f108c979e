use Rattle.etf_model.proofs.OneDecoding.{encoding_decodes}
use Rattle.etf_model.proofs.decoding_laws.an_encoding_decodes_to_its_term_whatever_follows.Goals as goal

pub returns : goal.returns
returns c = encoding_decodes
