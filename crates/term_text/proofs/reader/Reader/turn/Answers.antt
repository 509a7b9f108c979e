use Rattle.std.proofs.Common.{◌≡◌}
use Rattle.term_text.specs.declared.lexeme.Lexeme.TheVariants.{First, Minus, Number, Name}
use Rattle.text_nest.specs.NestView.{nest_of}
use Rattle.term_text.proofs.reader.Reader.turn.Goals as goal

pub returns-in-First-clause-ok : goal.returns-in-First-clause-ok
returns-in-First-clause-ok c =
    let is : c.args.self.now.lexeme ≡ First c.in-First.start c.in-First.mark = c.in-First.is in rw is (c.second.ensures.ok c.args.at)

pub returns-in-First-clause-syntax : goal.returns-in-First-clause-syntax
returns-in-First-clause-syntax c =
    let is : c.args.self.now.lexeme ≡ First c.in-First.start c.in-First.mark = c.in-First.is in rw is (c.second.ensures.syntax c.args.at)

pub returns-in-Minus-clause-ok : goal.returns-in-Minus-clause-ok
returns-in-Minus-clause-ok c =
    let is : c.args.self.now.lexeme ≡ Minus c.in-Minus.start = c.in-Minus.is in rw is (c.minus.ensures.ok c.args.at)

pub returns-in-Minus-clause-syntax : goal.returns-in-Minus-clause-syntax
returns-in-Minus-clause-syntax c =
    let is : c.args.self.now.lexeme ≡ Minus c.in-Minus.start = c.in-Minus.is in rw is (c.minus.ensures.syntax c.args.at)

pub returns-then-is_ascii_digit-clause-syntax : goal.returns-then-is_ascii_digit-clause-syntax
returns-then-is_ascii_digit-clause-syntax c =
    let is : c.args.self.now.lexeme ≡ Number c.in-Number.start c.in-Number.number = c.in-Number.is in
    rw is (c.grow_number.ensures.syntax (nest_of c.args.self.now.nest) c.args.at)

pub returns-then-is_name_byte-clause-syntax : goal.returns-then-is_name_byte-clause-syntax
returns-then-is_name_byte-clause-syntax c =
    let is : c.args.self.now.lexeme ≡ Name c.in-Name.start c.in-Name.name = c.in-Name.is in
    rw is (c.grow_name.ensures.syntax (nest_of c.args.self.now.nest) c.args.at)
