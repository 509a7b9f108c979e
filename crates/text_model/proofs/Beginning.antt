-- Where a term may begin, and behind a whole part whose key is no other's.
use Rattle.std.proofs.Common.{◌≡◌, ℕ, ◌+◌, ◌≤◌, true, false, ◌&&◌, None, Ok, List, length, ap, ◌∙◌, arith}
use Rattle.std.proofs.lemmas.Bool.{lt-ltb}
use Rattle.std.proofs.Math.Bool.{and-false}
use Rattle.dets_term.specs.TermValue.{TermValue}
use Rattle.text_model.specs.Grammar.{Rules}
use Rattle.text_model.specs.Nest.{Begun, after, Nest, at_segment, wants, refusal, wants_segment, repeats_in, completed}

-- a term of at most so many levels may begin
pub record Begins (rules : Rules) (levels : ℕ) (n : Nest) : Type 0 where
  pub wanted : wants n.place ≡ true
  pub apart : at_segment n.begun ≡ false
  pub room : levels + length n.begun ≡ rules.levels

pub none_refused : (rules : Rules) (levels : ℕ) (n : Nest) → Begins rules levels n → 1 ≤ levels → refusal rules n ≡ None
none_refused rules levels n b h =
    let wanted : wants n.place ≡ true = b.wanted in
    let apart : at_segment n.begun ≡ false = b.apart in
    let room : levels + length n.begun ≡ rules.levels = b.room in
    let test = lt-ltb (length n.begun) rules.levels (omega arith) in
    rw (wanted, apart, test)

pub no_segment : (rules : Rules) (levels : ℕ) (n : Nest) → Begins rules levels n → wants_segment n ≡ false
no_segment rules levels n b = rw (b.wanted, b.apart)

-- a whole part whose key does not stand there yet
pub completed_anew : (rules : Rules) (bs : List Begun) (start : ℕ) (t : TermValue) → (rules.distinct && repeats_in bs t) ≡ false
    → completed rules bs start t ≡ Ok (record { begun = bs; place = after start t })
completed_anew rules bs start t e = rw e

pub completed_apart : (rules : Rules) (bs : List Begun) (start : ℕ) (t : TermValue) → repeats_in bs t ≡ false
    → completed rules bs start t ≡ Ok (record { begun = bs; place = after start t })
completed_apart rules bs start t e = completed_anew rules bs start t (ap (λ b. rules.distinct && b) e ∙ and-false rules.distinct)
