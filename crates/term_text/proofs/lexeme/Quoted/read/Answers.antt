use Rattle.std.proofs.Common.{◌≡◌, ◌∙◌, sym}
use Rattle.term_text.specs.declared.lexeme.Partial.TheVariants.{Hexadecimal, Half}
use Rattle.term_text.proofs.lexeme.Quoted.read.Goals as goal

pub returns-in-Hexadecimal-clause-reads : goal.returns-in-Hexadecimal-clause-reads
returns-in-Hexadecimal-clause-reads c =
    let is : c.args.self.now.partial ≡ Hexadecimal = sym c.replace.ensures.value ∙ c.in-Hexadecimal.is in rw is (c.hexadecimal.ensures.reads c.args.at)

pub returns-in-Half-clause-reads : goal.returns-in-Half-clause-reads
returns-in-Half-clause-reads c =
    let is : c.args.self.now.partial ≡ Half c.in-Half.value = sym c.replace.ensures.value ∙ c.in-Half.is in rw is (c.half.ensures.reads c.args.at)
