use Rattle.term_model.specs.Same.{same_by}
use Rattle.dets_term.proofs.comparing.TermPartialEq.eq.Goals as goal

pub returns : goal.returns
returns c = same_by c.eq.result c.args.self.now c.args.other.now c.eq.ensures
