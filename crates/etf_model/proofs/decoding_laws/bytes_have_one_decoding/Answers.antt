use Rattle.etf_model.proofs.OneDecoding.{one_decoding}
use Rattle.etf_model.proofs.decoding_laws.bytes_have_one_decoding.Goals as goal

pub returns : goal.returns
returns c = one_decoding
