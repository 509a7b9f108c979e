use Rattle.text_nest.specs.NestView.{nest_of}
use Rattle.term_text.proofs.reader.Reader.last_fault.Goals as goal

pub returns-in-Number-clause-none : goal.returns-in-Number-clause-none
returns-in-Number-clause-none c = rw c.in-Number.is (c.last_number.ensures.none c.args.self.read)

pub returns-in-Number-clause-some : goal.returns-in-Number-clause-some
returns-in-Number-clause-some c = rw c.in-Number.is (c.last_number.ensures.some c.args.self.read)

pub returns-in-Name-clause-none : goal.returns-in-Name-clause-none
returns-in-Name-clause-none c = rw c.in-Name.is (c.last_name.ensures.none c.args.self.read)

pub returns-in-Name-clause-some : goal.returns-in-Name-clause-some
returns-in-Name-clause-some c = rw c.in-Name.is (c.last_name.ensures.some c.args.self.read)

pub returns-in-Comment-clause-none : goal.returns-in-Comment-clause-none
returns-in-Comment-clause-none c = λ e. rw c.in-Comment.is (c.last_comment.ensures.none (nest_of c.args.self.nest) cc)

pub returns-in-Comment-clause-some : goal.returns-in-Comment-clause-some
returns-in-Comment-clause-some c = λ o why e. rw c.in-Comment.is (c.last_comment.ensures.some (nest_of c.args.self.nest) o why cc)
