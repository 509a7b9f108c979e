use Rattle.text_nest.specs.NestView.{nest_of}
use Rattle.term_text.proofs.reader.Reader.blank_fault.Goals as goal

pub returns-in-Comment-clause-none : goal.returns-in-Comment-clause-none
returns-in-Comment-clause-none c = rw c.in-Comment.is (c.last_comment.ensures.none (nest_of c.args.self.now.nest))

pub returns-in-Comment-clause-some : goal.returns-in-Comment-clause-some
returns-in-Comment-clause-some c = rw c.in-Comment.is (c.last_comment.ensures.some (nest_of c.args.self.now.nest))
