-- Behind a full stop a sentence was read, and where no token is begun blanks alone.
use Rattle.std.proofs.Common.{◌≡◌, ◌<◌, ℕ, ◌+◌, ◌-◌, true, false, Some, None, Ok, List, [], ◌∷◌, ◌++◌, length, length-append, encode_utf8_all}
use Rattle.std.proofs.Common.{append-nil, ap, ◌∙◌, sym, subst, inl, inr, arith}
use Rattle.dets_term.specs.TermValue.{TermValue}
use Rattle.text_model.specs.declared.fault.TextWhy.TheVariants.{BadToken}
use Rattle.text_model.specs.declared.mark.Mark.TheVariants.{FullStop}
use Rattle.text_model.specs.Token.{Token, mark, a_mark}
use Rattle.text_model.specs.Spelling.{IsBlank, Skips}
use Rattle.text_model.specs.Grammar.{strict, IsText}
use Rattle.text_model.specs.Nest.{Nest, want, stopped, fresh, take}
use Rattle.text_model.specs.Located.{tokens_of, SpellsTo, take_all}
use Rattle.text_model.specs.Sentence.{ends}
use Rattle.text_model.specs.Faults.{Breaks, IsBlankEnd}
use Rattle.text_model.specs.Reader.{Lexeme, between, in_comment, first_of, in_minus, in_number, in_name, in_quotes, quote_of, is_gap, last_fault}
use Rattle.text_model.proofs.TakenSteps.{tokens_of-append}
use Rattle.text_model.proofs.Comes.{Before, sign, Comes}
use Rattle.text_model.proofs.RowsWell.{IsRead, going_before, next_token}
use Rattle.text_model.proofs.LastTaken.{nothing_taken}
use Rattle.text_model.proofs.RowsParts.{part_spelled}
use Rattle.text_model.proofs.Going.{taken_going}
use Rattle.text_model.proofs.Reaching.{reached}
use Rattle.text_model.proofs.TokenStarts.{name_some}

-- ---- behind a full stop

-- what was read up to a full stop, which nothing is behind
pub record IsStopped (p : List ℕ) (n : Nest) : Type 0 where
  pub tokens : List (ℕ × Token)
  pub taken : take_all strict fresh tokens ≡ Ok n
  pub spelled : (more : List ℕ) → SpellsTo (length p + length more) tokens (p ++ more) more

nothing_begun : (p : List ℕ) (n : Nest) (start : ℕ) (front : List ℕ) (t : TermValue) → Before p n start front → n.place ≡ stopped t → 0 < length front
    → IsStopped p n
nothing_begun p n start front t b e some = absurd (going_before p n start front b some t e)

pub all_read : (p : List ℕ) (n : Nest) (l : Lexeme) (t : TermValue) → Comes p n l → n.place ≡ stopped t → IsStopped p n
all_read p n between t b e =
    let none : b.blanks ≡ [] = sym (append-nil b.blanks) ∙ b.stop t e in
    record {
      tokens = b.tokens;
      taken = b.taken;
      spelled = λ more. subst (λ l. SpellsTo (length p + length more) b.tokens (p ++ more) (l ++ more)) none (b.spelled more);
    }
all_read p n (in_comment bytes) t (cut, i) e =
    nothing_begun p n i.start (37 ∷ (encode_utf8_all i.characters ++ bytes)) t i.before e (omega arith)
all_read p n (first_of start m) t (x, is, stray, b) e = nothing_begun p n start (x ∷ []) t b e (omega arith)
all_read p n (in_minus start) t (stray, b) e = nothing_begun p n start (45 ∷ []) t b e (omega arith)
all_read p n (in_number start minus z) t (fit, i) e =
    nothing_begun p n start (sign minus ++ i.digits) t i.before e (omega (arith, length-append (sign minus) i.digits, i.some))
all_read p n (in_name start cs) t (name, short, place, b) e = nothing_begun p n start cs t b e (name_some cs name)
all_read p n (in_quotes start q cs partial) t (pending, i, is) e = nothing_begun p n start (quote_of q ∷ i.inside) t i.before e (omega arith)

-- the full stop is the next token behind the others
stop_at : (p rest : List ℕ) (t : TermValue) (front : List (ℕ × Token)) (at : ℕ) (m n : Nest) (middle here : List ℕ) → take_all strict fresh front ≡ Ok m
    → take strict m at (mark FullStop) ≡ Ok n → SpellsTo (length (p ++ rest)) front (p ++ rest) middle → Skips middle here
    → length (p ++ rest) ≡ at + length here → here ≡ 46 ∷ rest → IsText strict t (tokens_of front ++ mark FullStop ∷ []) → ends true rest ≡ Some false
    → Breaks (p ++ rest) at BadToken
stop_at p rest t front at m n middle here taken next spelled skips there stop text no_end =
    let read : IsRead (p ++ rest) m at here = record {
      tokens = front;
      taken = taken;
      going = taken_going m n at (mark FullStop) (reached strict m front (omega arith) taken) next;
      middle = middle;
      spelled = spelled;
      skips = skips;
      offset = there;
    } in
    inl (record {
      tokens = tokens_of front;
      rest = here;
      next = next_token (p ++ rest) m at here read (a_mark FullStop) (rest, stop);
      rule = inr (inr (inr (inr (record { term = t; text = text; behind = rest; stop = stop; no_end = no_end }))));
    })

pub stop_by : (p rest : List ℕ) (t : TermValue) (tokens front : List (ℕ × Token)) (at : ℕ) (m n : Nest) → tokens ≡ front ++ (at, mark FullStop) ∷ []
    → take_all strict fresh front ≡ Ok m → take strict m at (mark FullStop) ≡ Ok n → SpellsTo (length p + length rest) tokens (p ++ rest) rest
    → IsText strict t (tokens_of tokens) → ends true rest ≡ Some false → Breaks (p ++ rest) (length p - 1) BadToken
stop_by p rest t tokens front at m n whole taken next spelled text no_end =
    let total : length p + length rest ≡ length (p ++ rest) = sym (length-append p rest) in
    let parts = part_spelled (length (p ++ rest)) front ((at, mark FullStop) ∷ []) (p ++ rest) rest
    (subst (λ l. SpellsTo (length (p ++ rest)) l (p ++ rest) rest) whole (subst (λ k. SpellsTo k tokens (p ++ rest) rest) total spelled)) in
    let stop : parts.2.0 ≡ 46 ∷ rest = parts.2.4.1 ∙ ap (λ l. 46 ∷ l) parts.2.5 in
    let there : length (p ++ rest) ≡ at + length parts.2.0 = parts.2.3 in
    let same : at ≡ length p - 1 = omega (arith, ap length stop) in
    subst (λ o. Breaks (p ++ rest) o BadToken) same
    (stop_at p rest t front at m n parts.0 parts.2.0 taken next parts.1 parts.2.2 there stop
    (subst (IsText strict t) (ap tokens_of whole ∙ tokens_of-append front ((at, mark FullStop) ∷ [])) text) no_end)

-- ---- blanks alone

blanks_read : (p : List ℕ) (n : Nest) (start : ℕ) (front : List ℕ) (b : Before p n start front) → n.place ≡ want → length n.begun ≡ 0 → p ≡ b.blanks ++ front
blanks_read p n start front b e f =
    let none = nothing_taken strict b.tokens n b.taken e f in
    let all : p ++ [] ≡ b.blanks ++ (front ++ []) = subst (λ l. SpellsTo (length p + 0) l (p ++ []) (b.blanks ++ (front ++ []))) none (b.spelled []) in
    sym (append-nil p) ∙ all ∙ ap (λ l. b.blanks ++ l) (append-nil front)

pub blank_by : (p : List ℕ) (n : Nest) (l : Lexeme) → Comes p n l → n.place ≡ want → length n.begun ≡ 0 → is_gap l ≡ true
    → last_fault n (length p) l ≡ None → IsBlankEnd p
blank_by p n between b e f g h = inl (subst IsBlank (sym (blanks_read p n (length p) [] b e f ∙ append-nil b.blanks)) b.blank)
blank_by p n (in_comment []) (cut, i) e f g h =
    inr (
      i.characters,
      i.line,
      (
        i.before.blanks,
        i.before.blank,
        blanks_read p n i.start (37 ∷ (encode_utf8_all i.characters ++ [])) i.before e f
            ∙ ap (λ l. i.before.blanks ++ 37 ∷ l) (append-nil (encode_utf8_all i.characters)),
      ),
    )
blank_by p n (in_comment (x ∷ xs)) c e f g h = cc
blank_by p n other c e f g h = cc
