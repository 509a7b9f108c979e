-- The characters of a token in quotes that closes are few.
use Rattle.std.proofs.Common.{◌≡◌, ℕ, ◌+◌, ◌*◌, ◌-◌, ◌<◌, ◌≤◌, ◌^◌, List, length, arith}
use Rattle.text_model.specs.Reader.{Partial, Quotes, of_atom, of_string, in_quotes}
use Rattle.term_text.specs.StateFits.{LexemeFits, pending}

pub closed_name : (start : ℕ) (q : Quotes) (cs : List ℕ) (partial : Partial) (text : List ℕ) → LexemeFits (in_quotes start q cs partial)
    → length text ≤ length cs + pending partial → q ≡ of_atom → length text ≤ 255
closed_name start of_atom cs partial text fits few is = omega (arith, fits.0)
closed_name start of_string cs partial text fits few is = cc

pub closed_few : (cs : List ℕ) (partial : Partial) (text : List ℕ) (others : ℕ) → others + 8 * (length cs + pending partial) ≤ 8 * (2 ^ 24 - 1)
    → length text ≤ length cs + pending partial → length text < 2 ^ 31
closed_few cs partial text others light few = omega arith
