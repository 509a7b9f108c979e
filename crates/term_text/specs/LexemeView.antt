-- The lexemes and states of the machine that the code shows.
use Rattle.text_model.specs.Reader.{Partial, nothing, cut, backslash, octal, hexadecimal, half, braced, Quotes, of_atom, of_string, Lexeme, between}
use Rattle.text_model.specs.Reader.{in_comment, first_of, in_minus, in_number, in_name, in_quotes}
use Rattle.term_text.specs.declared.lexeme.Partial.{Partial as Begun}
use Rattle.term_text.specs.declared.lexeme.Partial.TheVariants.{Nothing, Cut, Backslash, Octal, Hexadecimal, Half, Braced}
use Rattle.term_text.specs.declared.lexeme.Quotes.{Quotes as Kind}
use Rattle.term_text.specs.declared.lexeme.Quotes.TheVariants.{Atom, String}
use Rattle.term_text.specs.declared.lexeme.Quoted.{Quoted}
use Rattle.term_text.specs.declared.lexeme.Lexeme.{Lexeme as Piece}
use Rattle.term_text.specs.declared.lexeme.Lexeme.TheVariants.{Between, Comment, First, Minus, Number, Name, InQuotes}

abbrev pub partial_of : Begun → Partial
partial_of Nothing = nothing
partial_of (Cut bytes) = cut bytes.items
partial_of Backslash = backslash
partial_of (Octal v count) = octal v count
partial_of Hexadecimal = hexadecimal
partial_of (Half v) = half v
partial_of (Braced digits) = braced digits.value digits.count

abbrev pub quotes_of : Kind → Quotes
quotes_of Atom = of_atom
quotes_of String = of_string

abbrev pub quoted_of : Quoted → Lexeme
quoted_of q = in_quotes q.start (quotes_of q.quotes) q.characters.text (partial_of q.partial)

abbrev pub lexeme_of : Piece → Lexeme
lexeme_of Between = between
lexeme_of (Comment bytes) = in_comment bytes.items
lexeme_of (First start m) = first_of start m
lexeme_of (Minus start) = in_minus start
lexeme_of (Number start n) = in_number start n.is_negative n.value
lexeme_of (Name start characters) = in_name start characters.text
lexeme_of (InQuotes quoted) = quoted_of quoted
