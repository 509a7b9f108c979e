-- How the machine reads a whole token, with what follows it.
use Rattle.std.proofs.Common.{◌≡◌, ℕ, ◌+◌, ◌<◌, ◌≤◌, Bool, true, false, List, [], ◌∷◌, ◌++◌, length, length-append, Option, Some, None, Ok, Err, refl}
use Rattle.std.proofs.Common.{ap, ◌∙◌, sym, subst, arith}
use Rattle.std.specs.Char.{is_ascii_digit}
use Rattle.text_model.specs.declared.fault.TextWhy.{TextWhy}
use Rattle.text_model.specs.declared.fault.TextWhy.TheVariants.{BadToken}
use Rattle.text_model.specs.declared.mark.Mark.{Mark}
use Rattle.text_model.specs.declared.mark.Mark.TheVariants.{OpenTuple, OpenMap, CloseBrace, OpenList, CloseList, OpenBits, CloseBits, Bar, Comma}
use Rattle.text_model.specs.declared.mark.Mark.TheVariants.{Arrow, Colon, FullStop}
use Rattle.text_model.specs.Token.{Token, mark, number, plain, quoted, string, a_mark, a_number, a_plain, a_quoted, a_string, is_name_character, fits}
use Rattle.text_model.specs.Token.{is_plain_atom, mark_bytes}
use Rattle.text_model.specs.Characters.{each, number_in}
use Rattle.text_model.specs.Spelling.{Stands}
use Rattle.text_model.specs.Grammar.{strict}
use Rattle.text_model.specs.Nest.{Nest, refusal_of, take}
use Rattle.text_model.specs.Reader.{Quotes, of_atom, of_string, between, first_of, in_number, in_name, Led, in_lexeme, led_to, if_not_stray, why_of}
use Rattle.text_model.specs.Reader.{begin_mark, begin, token_of, led}
use Rattle.text_model.proofs.Comes.{IsGoing, why_not, IsNotStray, signed, sign, sort_in, Holds}
use Rattle.text_model.proofs.Going.{number_going, plain_going}
use Rattle.text_model.proofs.Runs.{failing, run, run_by}
use Rattle.text_model.proofs.QuotesRead.{quoted_run}
use Rattle.text_model.proofs.WordsRead.{ended_run}
use Rattle.text_model.proofs.NumbersRead.{number_run}
use Rattle.text_model.proofs.NamesRead.{name_run}
use Rattle.text_model.proofs.RunSteps.{at_token, run_led, run_to, state_in}

-- what a whole token comes to, with what follows it
pub record IsTokenRead (n : Nest) (at : ℕ) (token : Token) (bytes behind : List ℕ) : Type 0 where
  pub last : ℕ
  pub next : ℕ
  pub there : at + length bytes ≡ next + length behind
  pub leads : run (at_token n) at bytes ≡ run_by last (led_to (take strict n at token)) (λ s. run s next behind)

pub read_taken : (n m : Nest) (at : ℕ) (token : Token) (bytes behind : List ℕ) (r : IsTokenRead n at token bytes behind) → take strict n at token ≡ Ok m
    → run (at_token n) at bytes ≡ run (at_token m) r.next behind
read_taken n m at token bytes behind r e = r.leads ∙ ap (λ t. run_by r.last (led_to t) (λ s. run s r.next behind)) e

pub read_refused : (n : Nest) (at : ℕ) (token : Token) (bytes behind : List ℕ) (fault : ℕ × TextWhy) (r : IsTokenRead n at token bytes behind)
    → take strict n at token ≡ Err fault → run (at_token n) at bytes ≡ failing r.last fault.0 fault.1
read_refused n at token bytes behind fault r e = r.leads ∙ ap (λ t. run_by r.last (led_to t) (λ s. run s r.next behind)) e

read_at : (n : Nest) (at : ℕ) (token : Token) (bytes same behind : List ℕ) → bytes ≡ same → IsTokenRead n at token same behind
    → IsTokenRead n at token bytes behind
read_at n at token bytes same behind e r = subst (λ b. IsTokenRead n at token b behind) (sym e) r

-- ---- marks

one_byte : (n : Nest) (at x : ℕ) (m : Mark) (behind : List ℕ) → IsGoing n
    → begin n at x ≡ led_to (take strict n at (mark m)) → IsTokenRead n at (mark m) (x ∷ behind) behind
one_byte n at x m behind goes e = record {
  last = at;
  next = at + 1;
  there = omega arith;
  leads = run_led n between at x behind (led_to (take strict n at (mark m))) goes e;
}

pub not_stray : (o : Option TextWhy) (start : ℕ) (next : Led) → IsNotStray o → if_not_stray o start next ≡ next
not_stray (Some BadToken) start next f = absurd (f refl)
not_stray other start next f = refl

two_bytes : (n : Nest) (at x y : ℕ) (m : Mark) (behind : List ℕ) → IsGoing n → IsNotStray (why_of (take strict n at (mark m)))
    → begin n at x ≡ begin_mark n at m
    → led n (at + 1) y (first_of at m) ≡ led_to (take strict n at (mark m)) → IsTokenRead n at (mark m) (x ∷ y ∷ behind) behind
two_bytes n at x y m behind goes f e g = record {
  last = at + 1;
  next = at + 1 + 1;
  there = omega arith;
  leads =
      run_to n between at x (at + 1) (y ∷ behind) (state_in n (first_of at m)) goes
      (e ∙ not_stray (why_of (take strict n at (mark m))) at (in_lexeme n (first_of at m)) f) refl
      ∙ run_led n (first_of at m) (at + 1) y behind (led_to (take strict n at (mark m))) goes g;
}

-- the first byte of a mark of two may stand where the mark may
abbrev pub MayBe : Nest → ℕ → Mark → Type 0
MayBe n at OpenMap = IsNotStray (why_not n at (a_mark OpenMap))
MayBe n at OpenBits = IsNotStray (why_not n at (a_mark OpenBits))
MayBe n at CloseBits = IsNotStray (why_not n at (a_mark CloseBits))
MayBe n at Arrow = IsNotStray (why_not n at (a_mark Arrow))
MayBe n at other = Unit {0}

pub may_be : (n : Nest) (at : ℕ) (m : Mark) → IsNotStray (why_not n at (a_mark m)) → MayBe n at m
may_be n at OpenMap f = f
may_be n at OpenBits f = f
may_be n at CloseBits f = f
may_be n at Arrow f = f
may_be n at other f = tt

mark_read : (n : Nest) (at : ℕ) (m : Mark) (behind : List ℕ) → IsGoing n → MayBe n at m → IsTokenRead n at (mark m) (mark_bytes m ++ behind) behind
mark_read n at OpenTuple behind goes f = one_byte n at 123 OpenTuple behind goes refl
mark_read n at OpenMap behind goes f = two_bytes n at 35 123 OpenMap behind goes f refl refl
mark_read n at CloseBrace behind goes f = one_byte n at 125 CloseBrace behind goes refl
mark_read n at OpenList behind goes f = one_byte n at 91 OpenList behind goes refl
mark_read n at CloseList behind goes f = one_byte n at 93 CloseList behind goes refl
mark_read n at OpenBits behind goes f = two_bytes n at 60 60 OpenBits behind goes f refl refl
mark_read n at CloseBits behind goes f = two_bytes n at 62 62 CloseBits behind goes f refl refl
mark_read n at Bar behind goes f = one_byte n at 124 Bar behind goes refl
mark_read n at Comma behind goes f = one_byte n at 44 Comma behind goes refl
mark_read n at Arrow behind goes f = two_bytes n at 61 62 Arrow behind goes f refl refl
mark_read n at Colon behind goes f = one_byte n at 58 Colon behind goes refl
mark_read n at FullStop behind goes f = one_byte n at 46 FullStop behind goes refl

-- ---- numbers and names

number_read : (n : Nest) (at : ℕ) (minus : Bool) (ds : List ℕ) (x : ℕ) (more : List ℕ) → IsGoing n → refusal_of strict n a_number ≡ None → 0 < length ds
    → each is_ascii_digit ds ≡ true → fits (signed minus (number_in 10 ds)) ≡ true → is_ascii_digit x ≡ false
    → IsTokenRead n at (number (signed minus (number_in 10 ds))) (sign minus ++ (ds ++ x ∷ more)) (x ∷ more)
number_read n at minus ds x more goes place some e f end =
    let z = signed minus (number_in 10 ds) in
    let there : at + length (sign minus ++ (ds ++ x ∷ more)) ≡ at + length (sign minus) + length ds + length (x ∷ more) =
    omega (arith, length-append (sign minus) (ds ++ x ∷ more), length-append ds (x ∷ more)) in
    record {
      last = at + length (sign minus) + length ds;
      next = at + length (sign minus) + length ds;
      there = there;
      leads =
          number_run n at (at + length (sign minus) + length ds) minus ds (x ∷ more) goes place some e f refl
          ∙ ended_run n (in_number at minus z) at (at + length (sign minus) + length ds) x more (number z) goes (number_going n at z) (rw end refl);
    }

name_read : (n : Nest) (at : ℕ) (cs : List ℕ) (x : ℕ) (more : List ℕ) → IsGoing n → refusal_of strict n a_plain ≡ None → is_plain_atom cs ≡ true
    → length cs ≤ 255 → is_name_character x ≡ false → IsTokenRead n at (plain cs) (cs ++ x ∷ more) (x ∷ more)
name_read n at cs x more goes place e few end = record {
  last = at + length cs;
  next = at + length cs;
  there = omega (arith, length-append cs (x ∷ more));
  leads =
      name_run n at (at + length cs) cs (x ∷ more) goes place e few refl
      ∙ ended_run n (in_name at cs) at (at + length cs) x more (plain cs) goes (plain_going n at cs) (rw end refl);
}

-- ---- tokens

-- no rule on its sort or its characters refuses a token
abbrev pub MayRead : Nest → ℕ → Token → Type 0
MayRead n at (mark m) = MayBe n at m
MayRead n at (number z) = refusal_of strict n a_number ≡ None
MayRead n at (plain cs) = refusal_of strict n a_plain ≡ None
MayRead n at (quoted cs) = refusal_of strict n a_quoted ≡ None
MayRead n at (string cs) = (refusal_of strict n a_string ≡ None) × Holds n of_string cs

-- numbers and names end with a byte that follows them
abbrev pub IsEnded : Token → List ℕ → Type 0
IsEnded (number z) behind = 0 < length behind
IsEnded (plain cs) behind = 0 < length behind
IsEnded other behind = Unit {0}

quotes_read : (n : Nest) (q : Quotes) (at : ℕ) (cs bytes behind : List ℕ) → IsGoing n → refusal_of strict n (sort_in q) ≡ None → Holds n q cs
    → Stands (token_of q cs) bytes behind → IsTokenRead n at (token_of q cs) bytes behind
quotes_read n of_atom at cs bytes behind goes place hold (is, (inside, opened, are)) =
    let r = quoted_run n of_atom at cs inside behind goes place hold are in
    let there = r.1 in
    read_at n at (quoted cs) bytes (39 ∷ inside) behind opened (record { last = r.0; next = r.0 + 1; there = omega arith; leads = r.2 })
quotes_read n of_string at cs bytes behind goes place hold (is, (inside, opened, are)) =
    let r = quoted_run n of_string at cs inside behind goes place hold are in
    let there = r.1 in
    read_at n at (string cs) bytes (34 ∷ inside) behind opened (record { last = r.0; next = r.0 + 1; there = omega arith; leads = r.2 })

-- a whole token is read
pub token_read : (n : Nest) (at : ℕ) (token : Token) (bytes behind : List ℕ) → IsGoing n → MayRead n at token → IsEnded token behind → Stands token bytes behind
    → IsTokenRead n at token bytes behind
token_read n at (mark m) bytes behind goes may ended s = read_at n at (mark m) bytes (mark_bytes m ++ behind) behind s.1 (mark_read n at m behind goes may)
token_read n at (number z) bytes [] goes may ended s = absurd (omega arith)
token_read n at (number z) bytes (x ∷ more) goes may ended (f, i) =
    subst (λ y. IsTokenRead n at (number y) bytes (x ∷ more)) (sym i.value)
    (read_at n at (number (signed i.minus (number_in 10 i.digits))) bytes _ (x ∷ more) i.whole
    (number_read n at i.minus i.digits x more goes may i.some i.decimal (ap fits (sym i.value) ∙ f) i.longest))
token_read n at (plain cs) bytes [] goes may ended s = absurd (omega arith)
token_read n at (plain cs) bytes (x ∷ more) goes may ended ((name, few), (whole, end)) =
    read_at n at (plain cs) bytes (cs ++ x ∷ more) (x ∷ more) whole (name_read n at cs x more goes may name few end)
token_read n at (quoted cs) bytes behind goes may ended s = quotes_read n of_atom at cs bytes behind goes may s.0.1 s
token_read n at (string cs) bytes behind goes may ended s = quotes_read n of_string at cs bytes behind goes may.0 may.1 s
