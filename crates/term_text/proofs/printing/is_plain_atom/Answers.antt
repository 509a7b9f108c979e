use Rattle.std.proofs.Common.{◌∙◌, sym, drop, rules, tests, arith}
use Rattle.std.proofs.lemmas.Iterator.{YieldsList-from_slice}
use Rattle.std.proofs.lemmas.Iterator.Search.{all_from_yields_List}
use Rattle.text_model.specs.Token.{is_name_character}
use Rattle.term_text.proofs.Plain.{is_plain_atom-from_first, all_after_first}
use Rattle.term_text.proofs.printing.is_plain_atom.Goals as goal

pub returns-then-is_ascii_lowercase : goal.returns-then-is_ascii_lowercase
returns-then-is_ascii_lowercase c =
    all_from_yields_List is_name_character _ _ c.all.result c.all.ensures.ran
    (YieldsList-from_slice (drop 1 c.args.name.now) (c.iter.ensures.rest ∙ all_after_first c.args.name.now)) (λ x b q k. search (rules, tests))
    ∙ sym (is_plain_atom-from_first c.args.name.now (omega arith) (sym c.is_ascii_lowercase.ensures.value ∙ c.if-is_ascii_lowercase.true))
