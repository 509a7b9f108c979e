-- How the machine reads a whole token that its place refuses, also where the input ends with it.
use Rattle.std.proofs.Common.{◌≡◌, ℕ, ℤ, pos, ◌+◌, ◌<◌, ◌≤◌, Bool, true, false, not, ◌&&◌, nat_lt, cond, List, [], ◌∷◌, ◌++◌, length, length-append}
use Rattle.std.proofs.Common.{None, Ok, Err, eqb-true, ltb-true, refl, ap, ◌∙◌, sym, subst, append_assoc, append-nil, arith}
use Rattle.std.proofs.lemmas.Bool.{false_from_ne_true}
use Rattle.std.specs.Char.{is_ascii_digit}
use Rattle.dets_term.specs.TermValue.{integer, atom}
use Rattle.text_model.specs.declared.fault.TextWhy.{TextWhy}
use Rattle.text_model.specs.Token.{Token, mark, number, plain, quoted, string, a_number, a_plain, fits, is_plain_atom}
use Rattle.text_model.specs.Characters.{each, number_in}
use Rattle.text_model.specs.Spelling.{Stands}
use Rattle.text_model.specs.Grammar.{strict, sized_bits}
use Rattle.text_model.specs.Nest.{Place, after, colon, sized, Nest, Taken, fresh, stray, wants_segment, is_colon, refusal, refusal_of, leaf, number_at, take}
use Rattle.text_model.specs.Located.{tokens_of, take_all}
use Rattle.text_model.specs.Faults.{with_repeats, IsSettled}
use Rattle.text_model.specs.Reader.{in_number, in_name, digit, is_zero, longer_at, number_may_grow, at_last, or_unfinished, faulty, outcome}
use Rattle.text_model.proofs.Comes.{IsGoing, signed, sign}
use Rattle.text_model.proofs.OneMore.{each_push, digit_push, digits_push}
use Rattle.text_model.proofs.ComesWords.{plain_push}
use Rattle.text_model.proofs.ReachedNests.{IsReached, IsPlaced}
use Rattle.text_model.proofs.Reaching.{reached}
use Rattle.text_model.proofs.Runs.{run}
use Rattle.text_model.proofs.NumbersRead.{number_run}
use Rattle.text_model.proofs.NamesRead.{name_run}
use Rattle.text_model.proofs.WholeTokensRead.{MayRead, IsEnded, token_read, read_refused}
use Rattle.text_model.proofs.MayStand.{more_begins}
use Rattle.text_model.proofs.RunSteps.{at_token, fails_outcome, run_end, run_outcome, state_in}
use Rattle.text_model.proofs.Looser.{repeating_taken}

-- ---- one more digit

-- a digit with which a number could stand there
record Grows (n : Nest) (at : ℕ) (minus : Bool) (ds : List ℕ) : Type 0 where
  pub byte : ℕ
  pub decimal : is_ascii_digit byte ≡ true
  pub narrow : fits (signed minus (number_in 10 (ds ++ byte ∷ []))) ≡ true
  pub nest : Nest
  pub taken : take with_repeats n at (number (signed minus (number_in 10 (ds ++ byte ∷ [])))) ≡ Ok nest

-- where a term begins
leaf_grows : (n : Nest) (at : ℕ) (minus : Bool) (ds : List ℕ) → wants_segment n ≡ false → is_colon n.place ≡ false
    → number_at with_repeats n at (signed minus (number_in 10 (ds ++ 48 ∷ []))) n.place
    ≡ leaf with_repeats n at (integer (signed minus (number_in 10 (ds ++ 48 ∷ [])))) (refusal with_repeats n)
    → refusal_of strict n a_number ≡ None → fits (digit minus (signed minus (number_in 10 ds)) 48) ≡ true → Grows n at minus ds
leaf_grows n at minus ds w c e place f =
    let none : refusal strict n ≡ None = rw (w, c) at place in
    record {
      byte = 48;
      decimal = refl;
      narrow = ap fits (sym (digit_push minus (signed minus (number_in 10 ds)) ds 48 refl refl)) ∙ f;
      nest = record { begun = n.begun; place = after at (integer (signed minus (number_in 10 (ds ++ 48 ∷ [])))) };
      taken = rw w (e ∙ ap (leaf with_repeats n at (integer (signed minus (number_in 10 (ds ++ 48 ∷ []))))) none);
    }

-- behind a colon
size_grows : (n : Nest) (at : ℕ) (minus : Bool) (ds : List ℕ) (start : ℕ) (v : ℤ) → IsReached strict n → n.place ≡ colon start v
    → wants_segment n ≡ false → (not minus && is_zero (signed minus (number_in 10 ds))) ≡ true → Grows n at minus ds
size_grows n at true ds start v r e w f = cc
size_grows n at false ds start v r e w f =
    let zero : number_in 10 ds ≡ 0 = eqb-true (number_in 10 ds) 0 f in
    let seven : number_in 10 (ds ++ 55 ∷ []) ≡ 7 = omega (arith, digits_push 10 0 ds 55) in
    let placed = subst (IsPlaced strict n.begun) e r.placed in
    record {
      byte = 55;
      decimal = refl;
      narrow = ap (λ k. fits (pos k)) seven;
      nest = record n { place = sized (sized_bits v (pos 7)) };
      taken =
          ap (λ k. take with_repeats n at (number (pos k))) seven
          ∙ rw w (ap (number_at with_repeats n at (pos 7)) e
          ∙ ap (λ b. cond {A = Taken} (not b) (stray start) (Ok (record n { place = sized (sized_bits v (pos 7)) }))) (placed.1 refl));
    }

grows_by : (n : Nest) (at : ℕ) (minus : Bool) (ds : List ℕ) (place : Place) → IsReached strict n → n.place ≡ place → wants_segment n ≡ false
    → refusal_of strict n a_number ≡ None → longer_at place minus (signed minus (number_in 10 ds)) ≡ true → Grows n at minus ds
grows_by n at minus ds (colon start v) r e w place f = size_grows n at minus ds start v r e w f
grows_by n at minus ds other r e w place f =
    leaf_grows n at minus ds w (ap is_colon e) (ap (number_at with_repeats n at (signed minus (number_in 10 (ds ++ 48 ∷ [])))) e) place f

number_grows : (n : Nest) (at : ℕ) (minus : Bool) (ds : List ℕ) → IsReached strict n → refusal_of strict n a_number ≡ None
    → number_may_grow n minus (signed minus (number_in 10 ds)) ≡ true → Grows n at minus ds
number_grows n at minus ds r place f = by_segment (wants_segment n) refl f
  where
    by_segment : (b : Bool) → wants_segment n ≡ b → cond b false (longer_at n.place minus (signed minus (number_in 10 ds))) ≡ true → Grows n at minus ds
    by_segment true w f = cc
    by_segment false w f = grows_by n at minus ds n.place r refl w place f

-- ---- where the input ends

number_settled : (ps : List (ℕ × Token)) (n : Nest) (at : ℕ) (minus : Bool) (ds rest : List ℕ) → take_all strict fresh ps ≡ Ok n
    → refusal_of strict n a_number ≡ None → each is_ascii_digit ds ≡ true → rest ≡ sign minus ++ ds → IsSettled (tokens_of ps) rest []
    → number_may_grow n minus (signed minus (number_in 10 ds)) ≡ false
number_settled ps n at minus ds rest e place decimal whole settled =
    false_from_ne_true (number_may_grow n minus (signed minus (number_in 10 ds))) (λ f.
    let g = number_grows n at minus ds (reached strict n ps (omega arith) e) place f in
    let byte = g.byte in
    settled refl byte [] (number (signed minus (number_in 10 (ds ++ byte ∷ [])))) (
      g.narrow,
      record {
        minus = minus;
        digits = ds ++ byte ∷ [];
        some = omega (arith, length-append ds (byte ∷ []));
        decimal = each_push is_ascii_digit ds byte decimal g.decimal;
        value = refl;
        whole =
            ap (λ l. l ++ byte ∷ []) whole ∙ append_assoc (sign minus) ds (byte ∷ [])
            ∙ ap (λ l. sign minus ++ l) (sym (append-nil (ds ++ byte ∷ [])));
        longest = tt;
      },
    )
    (more_begins with_repeats refl (omega arith) ps n g.nest at (number (signed minus (number_in 10 (ds ++ byte ∷ [])))) (repeating_taken ps n e) g.taken))

name_settled : (ps : List (ℕ × Token)) (n : Nest) (at : ℕ) (cs rest : List ℕ) → take_all strict fresh ps ≡ Ok n → refusal_of strict n a_plain ≡ None
    → is_plain_atom cs ≡ true → rest ≡ cs → IsSettled (tokens_of ps) rest [] → nat_lt (length cs) 255 ≡ false
name_settled ps n at cs rest e place name whole settled =
    false_from_ne_true (nat_lt (length cs) 255) (λ f.
    let few = ltb-true (length cs) 255 f in
    settled refl 97 [] (plain (cs ++ 97 ∷ []))
    ((plain_push cs 97 name refl, omega (arith, length-append cs (97 ∷ []))), (ap (λ l. l ++ 97 ∷ []) whole ∙ sym (append-nil (cs ++ 97 ∷ [])), tt))
    (more_begins with_repeats refl (omega arith) ps n (record { begun = n.begun; place = after at (atom (cs ++ 97 ∷ [])) }) at (plain (cs ++ 97 ∷ []))
    (repeating_taken ps n e) (ap (leaf with_repeats n at (atom (cs ++ 97 ∷ []))) place)))

number_ends : (n : Nest) (at : ℕ) (minus : Bool) (ds rest : List ℕ) (fault : ℕ × TextWhy) → IsGoing n → refusal_of strict n a_number ≡ None
    → 0 < length ds → each is_ascii_digit ds ≡ true → fits (signed minus (number_in 10 ds)) ≡ true → rest ≡ sign minus ++ (ds ++ [])
    → number_may_grow n minus (signed minus (number_in 10 ds)) ≡ false → take strict n at (number (signed minus (number_in 10 ds))) ≡ Err fault
    → outcome (at_token n) at rest ≡ faulty fault.0 fault.1
number_ends n at minus ds rest fault goes place some decimal f whole grows refused =
    let z = signed minus (number_in 10 ds) in
    let end = at + length (sign minus) + length ds in
    run_outcome (at_token n) at end rest _
    (ap (run (at_token n) at) whole ∙ number_run n at end minus ds [] goes place some decimal f refl ∙ run_end n (in_number at minus z) end goes)
    (omega (arith, ap length whole, length-append (sign minus) (ds ++ []), length-append ds []))
    ∙ ap (or_unfinished (state_in n (in_number at minus z)) end)
    (ap (λ b. at_last b (take strict n at (number z))) grows ∙ ap (at_last false) refused)

name_ends : (n : Nest) (at : ℕ) (cs rest : List ℕ) (fault : ℕ × TextWhy) → IsGoing n → refusal_of strict n a_plain ≡ None → is_plain_atom cs ≡ true
    → length cs ≤ 255 → rest ≡ cs ++ [] → nat_lt (length cs) 255 ≡ false → take strict n at (plain cs) ≡ Err fault
    → outcome (at_token n) at rest ≡ faulty fault.0 fault.1
name_ends n at cs rest fault goes place name few whole grows refused =
    run_outcome (at_token n) at (at + length cs) rest _
    (ap (run (at_token n) at) whole ∙ name_run n at (at + length cs) cs [] goes place name few refl ∙ run_end n (in_name at cs) (at + length cs) goes)
    (omega (arith, ap length whole, length-append cs []))
    ∙ ap (or_unfinished (state_in n (in_name at cs)) (at + length cs))
    (ap (λ b. at_last b (take strict n at (plain cs))) grows ∙ ap (at_last false) refused)

-- ---- a token that its place refuses

ended_outcome : (n : Nest) (at : ℕ) (token : Token) (rest behind : List ℕ) (fault : ℕ × TextWhy) → IsGoing n → MayRead n at token → IsEnded token behind
    → Stands token rest behind → take strict n at token ≡ Err fault → outcome (at_token n) at rest ≡ faulty fault.0 fault.1
ended_outcome n at token rest behind fault goes may ended stands e =
    let read = token_read n at token rest behind goes may ended stands in
    fails_outcome (at_token n) at read.last fault.0 fault.1 rest (read_refused n at token rest behind fault read e)

pub refused_outcome : (ps : List (ℕ × Token)) (n : Nest) (at : ℕ) (token : Token) (rest behind : List ℕ) (fault : ℕ × TextWhy) → take_all strict fresh ps ≡ Ok n
    → IsGoing n → MayRead n at token → Stands token rest behind → IsSettled (tokens_of ps) rest behind → take strict n at token ≡ Err fault
    → outcome (at_token n) at rest ≡ faulty fault.0 fault.1
refused_outcome ps n at (mark m) rest behind fault e goes may stands settled f = ended_outcome n at (mark m) rest behind fault goes may tt stands f
refused_outcome ps n at (quoted cs) rest behind fault e goes may stands settled f = ended_outcome n at (quoted cs) rest behind fault goes may tt stands f
refused_outcome ps n at (string cs) rest behind fault e goes may stands settled f = ended_outcome n at (string cs) rest behind fault goes may tt stands f
refused_outcome ps n at (number z) rest (x ∷ more) fault e goes may stands settled f =
    ended_outcome n at (number z) rest (x ∷ more) fault goes may (omega arith) stands f
refused_outcome ps n at (plain cs) rest (x ∷ more) fault e goes may stands settled f =
    ended_outcome n at (plain cs) rest (x ∷ more) fault goes may (omega arith) stands f
refused_outcome ps n at (number z) rest [] fault e goes may (narrow, i) settled f =
    number_ends n at i.minus i.digits rest fault goes may i.some i.decimal (ap fits (sym i.value) ∙ narrow) i.whole
    (number_settled ps n at i.minus i.digits rest e may i.decimal (i.whole ∙ ap (λ l. sign i.minus ++ l) (append-nil i.digits)) settled)
    (ap (λ y. take strict n at (number y)) (sym i.value) ∙ f)
refused_outcome ps n at (plain cs) rest [] fault e goes may ((name, few), (whole, end)) settled f =
    name_ends n at cs rest fault goes may name few whole
    (name_settled ps n at cs rest e may name (whole ∙ append-nil cs) settled) f
