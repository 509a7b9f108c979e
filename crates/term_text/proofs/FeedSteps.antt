-- What a feed answers, by how far its reader has come.
use Rattle.std.proofs.Common.{◌≡◌, ℕ, ◌+◌, ◌-◌, ◌<◌, ◌≤◌, Bool, true, false, cond, is_none, ◌&&◌, List, [], ◌∷◌, ◌++◌, length, take, drop, Option}
use Rattle.std.proofs.Common.{Some, None, ◌⊎◌, inl, inr, ⊎_elim, append_assoc, length-drop, refl, ap, ◌∙◌, sym, subst, arith}
use Rattle.std.proofs.lemmas.List.{take-append-drop, drop_all, take_all}
use Rattle.std.proofs.Math.Seq.{take-add}
use Rattle.std.proofs.lemmas.Bool.{cases_lt}
use Rattle.dets_term.specs.TermValue.{TermValue}
use Rattle.text_model.specs.declared.fault.TextWhy.{TextWhy}
use Rattle.text_model.specs.declared.fault.TextWhy.TheVariants.{BadToken, Unfinished}
use Rattle.text_model.specs.Sentence.{ends}
use Rattle.text_model.specs.Script.{blank, may_go_on, fault, a_term, no_term, IsAnswer}
use Rattle.text_model.specs.Nest.{Place, stopped}
use Rattle.text_model.specs.Reader.{is_blank, last_fault}
use Rattle.text_model.specs.Progress.{Progress, no_progress, going, at_stop, unless_done, reach, failing, answer_at_stop, answer_at_end}
use Rattle.text_model.specs.Progress.{answer_behind, answer_by}
use Rattle.text_model.proofs.Answering.{answer_is}
use Rattle.term_text.specs.declared.reader.Reader.{Reader}
use Rattle.text_nest.specs.Strays.{is_stopped}
use Rattle.text_nest.specs.NestView.{nest_of}
use Rattle.term_text.specs.LexemeView.{lexeme_of}
use Rattle.term_text.specs.ReaderView.{state_of, progress_of, IsReady}
use Rattle.term_text.specs.FeedReads.{HasRead, HasReadOn}
use Rattle.term_text.proofs.ReaderSteps.{fresh_ready, reach_none}

pub fresh_read : (left : List ℕ) (reader : Reader) → progress_of reader ≡ no_progress → HasRead left 0 reader
fresh_read left reader e = record {
  there = omega arith;
  counted = ap (λ (p : Progress). p.read) e;
  ready = rw e fresh_ready;
  reached = λ more. ap (λ p. reach p more) (sym e);
}

-- all that is left leads to what follows the bytes that were read
whole_reach : (left : List ℕ) (read : ℕ) (reader : Reader) → HasRead left read reader → reach no_progress left ≡ reach (progress_of reader) (drop read left)
whole_reach left read reader h = ap (reach no_progress) (sym (take-append-drop read left)) ∙ h.reached (drop read left)

-- ---- behind a full stop

stopped_reach : (p : Progress) (bytes : List ℕ) (t : TermValue) → p.state.nest.place ≡ stopped t → reach p bytes ≡ at_stop t p.read bytes
stopped_reach p [] t e = ap (unless_done p [] (going p)) e
stopped_reach p (x ∷ bytes) t e = ap (unless_done p (x ∷ bytes) _) e

pub stop_answer : (finished : Bool) (left : List ℕ) (read : ℕ) (reader : Reader) (t : TermValue) → HasRead left read reader
    → (nest_of reader.nest).place ≡ stopped t → IsAnswer finished left (answer_at_stop t read (ends finished (drop read left)))
stop_answer finished left read reader t h e =
    subst (IsAnswer finished left)
    (ap (answer_by finished) (whole_reach left read reader h ∙ stopped_reach (progress_of reader) (drop read left) t e)
    ∙ ap (λ n. answer_at_stop t n (ends finished (drop read left))) h.counted)
    (answer_is finished left)

stopped_is : (place : Place) → is_stopped place ≡ true → (t : TermValue) × (place ≡ stopped t)
stopped_is (stopped t) e = (t, refl)
stopped_is other e = cc

-- ---- where all was read

open_answer : (finished : Bool) (left : List ℕ) (read : ℕ) (reader : Reader) → HasReadOn left read reader → is_stopped (nest_of reader.nest).place ≡ false
    → IsAnswer finished left (answer_behind finished (progress_of reader))
open_answer finished left read reader h e =
    subst (IsAnswer finished left)
    (ap (answer_by finished) (whole_reach left read reader h.has
    ∙ ap (reach (progress_of reader)) (drop_all read left (let all : read ≡ length left = h.all e in omega arith))
    ∙ reach_none (progress_of reader) h.has.ready e))
    (answer_is finished left)

blank_or_more : (b : Bool) (left : List ℕ) → IsAnswer false left (no_term (cond b blank may_go_on))
    → IsAnswer false left (no_term blank) ⊎ IsAnswer false left (no_term may_go_on)
blank_or_more true left a = inl a
blank_or_more false left a = inr a

-- more may come
pub again_answer : (left : List ℕ) (read : ℕ) (reader : Reader) → HasReadOn left read reader → is_stopped (nest_of reader.nest).place ≡ false
    → IsAnswer false left (no_term blank) ⊎ IsAnswer false left (no_term may_go_on)
again_answer left read reader h e =
    blank_or_more (is_blank (state_of reader) && is_none (last_fault (nest_of reader.nest) reader.read (lexeme_of reader.lexeme))) left
    (open_answer false left read reader h e)

-- a full stop that the end of the piece leaves undecided
pub undecided_answer : (finished : Bool) (left : List ℕ) (read : ℕ) (reader : Reader) → HasRead left read reader
    → is_stopped (nest_of reader.nest).place ≡ true → ends finished (drop read left) ≡ None → (finished ≡ false) × IsAnswer false left (no_term may_go_on)
undecided_answer true left read reader h e f = absurd (decided (drop read left) f)
  where
    decided : (rest : List ℕ) → ends true rest ≡ None → ⊥
    decided [] f = cc
    decided (x ∷ rest) f = cc
undecided_answer false left read reader h e f =
    let t = stopped_is (nest_of reader.nest).place e in
    (refl, subst (λ o. IsAnswer false left (answer_at_stop t.0 read o)) f (stop_answer false left read reader t.0 h t.1))

pub no_end_answer : (finished : Bool) (left : List ℕ) (read : ℕ) (reader : Reader) → HasRead left read reader
    → is_stopped (nest_of reader.nest).place ≡ true → ends finished (drop read left) ≡ Some false → IsAnswer finished left (no_term (fault (read - 1) BadToken))
no_end_answer finished left read reader h e f =
    let t = stopped_is (nest_of reader.nest).place e in
    subst (λ o. IsAnswer finished left (answer_at_stop t.0 read o)) f (stop_answer finished left read reader t.0 h t.1)

pub term_answer : (finished : Bool) (left : List ℕ) (read : ℕ) (reader : Reader) (t : TermValue) → HasRead left read reader
    → (nest_of reader.nest).place ≡ stopped t → ends finished (drop read left) ≡ Some true → IsAnswer finished left (a_term t read)
term_answer finished left read reader t h e f =
    subst (λ o. IsAnswer finished left (answer_at_stop t read o)) f (stop_answer finished left read reader t h e)

-- ---- where no more comes

end_answer : (left : List ℕ) (read : ℕ) (reader : Reader) (o : Option (ℕ × TextWhy)) → HasReadOn left read reader
    → is_stopped (nest_of reader.nest).place ≡ false → last_fault (nest_of reader.nest) reader.read (lexeme_of reader.lexeme) ≡ o
    → IsAnswer true left (answer_at_end (progress_of reader) o)
end_answer left read reader o h e f =
    subst (λ why. IsAnswer true left (answer_at_end (progress_of reader) why)) f (open_answer true left read reader h e)

pub last_answer : (left : List ℕ) (read : ℕ) (reader : Reader) (at : ℕ) (why : TextWhy) → HasReadOn left read reader
    → is_stopped (nest_of reader.nest).place ≡ false → last_fault (nest_of reader.nest) reader.read (lexeme_of reader.lexeme) ≡ Some (at, why)
    → IsAnswer true left (no_term (fault at why))
last_answer left read reader at why h e f = end_answer left read reader (Some (at, why)) h e f

pub blank_answer : (left : List ℕ) (read : ℕ) (reader : Reader) → HasReadOn left read reader
    → is_stopped (nest_of reader.nest).place ≡ false → last_fault (nest_of reader.nest) reader.read (lexeme_of reader.lexeme) ≡ None
    → is_blank (state_of reader) ≡ true → IsAnswer true left (no_term blank)
blank_answer left read reader h e f b =
    subst (λ t. IsAnswer true left (no_term (cond t blank (fault reader.read Unfinished)))) b (end_answer left read reader None h e f)

pub unfinished_answer : (left : List ℕ) (read : ℕ) (reader : Reader) → HasReadOn left read reader
    → is_stopped (nest_of reader.nest).place ≡ false → last_fault (nest_of reader.nest) reader.read (lexeme_of reader.lexeme) ≡ None
    → is_blank (state_of reader) ≡ false → IsAnswer true left (no_term (fault read Unfinished))
unfinished_answer left read reader h e f b =
    subst (λ n. IsAnswer true left (no_term (fault n Unfinished))) h.has.counted
    (subst (λ t. IsAnswer true left (no_term (cond t blank (fault reader.read Unfinished)))) b (end_answer left read reader None h e f))

-- something is begun that the end of the input ends
pub begun_answer : (left : List ℕ) (read : ℕ) (reader : Reader) (at : ℕ) (why : TextWhy) → HasReadOn left read reader
    → is_stopped (nest_of reader.nest).place ≡ false
    → answer_at_end (progress_of reader) (last_fault (nest_of reader.nest) reader.read (lexeme_of reader.lexeme)) ≡ no_term (fault at why)
    → IsAnswer true left (no_term (fault at why))
begun_answer left read reader at why h e f = subst (IsAnswer true left) f (open_answer true left read reader h e)

-- ---- on the way

-- a fault that the reader came to
pub failed_answer : (finished : Bool) (left : List ℕ) (read : ℕ) (reader : Reader) (at : ℕ) (why : TextWhy) → HasRead left read reader
    → reach (progress_of reader) (drop read left) ≡ failing at why → IsAnswer finished left (no_term (fault at why))
failed_answer finished left read reader at why h e =
    subst (IsAnswer finished left) (ap (answer_by finished) (whole_reach left read reader h ∙ e)) (answer_is finished left)

-- more was read
pub read_more : (left rest : List ℕ) (read taken : ℕ) (before reader : Reader) → HasRead left read before → rest ≡ drop read left → taken ≤ length rest
    → ((more : List ℕ) → reach (progress_of before) (take taken rest ++ more) ≡ reach (progress_of reader) more) → reader.read ≡ before.read + taken
    → IsReady (progress_of reader) → (taken < length rest → is_stopped (nest_of reader.nest).place ≡ true) → HasReadOn left (read + taken) reader
read_more left rest read taken before reader h same few led count ready stop =
    let size : length rest ≡ length left - read = ap length same ∙ length-drop read left in
    let there : read ≤ length left = h.there in
    record {
      has = record {
        there = omega arith;
        counted = omega (arith, count, h.counted);
        ready = ready;
        reached = λ more.
            ap (λ front. reach no_progress (front ++ more)) (take-add read taken left ∙ ap (λ l. take read left ++ take taken l) (sym same))
            ∙ ap (reach no_progress) (append_assoc (take read left) (take taken rest) more) ∙ h.reached (take taken rest ++ more) ∙ led more;
      };
      all = λ going. ⊎_elim
          (λ (fewer : taken < length rest). let clash : true ≡ false = sym (stop fewer) ∙ going in cc)
          (λ (all : length rest ≤ taken). omega arith)
          (cases_lt taken (length rest));
    }

-- the bytes behind those that were read, as a slice
pub rest_of : (items : List ℕ) (read : ℕ) → take (length items - read) (drop read items) ≡ drop read items
rest_of items read = ap (λ n. take n (drop read items)) (sym (length-drop read items)) ∙ take_all (length (drop read items)) (drop read items) (omega arith)

-- whether a full stop is an end, by the slice behind it
pub ended_as : (is_finished finished : Bool) (items left bytes : List ℕ) (read : ℕ) (r o : Option Bool)
    → r ≡ ends is_finished (take (length bytes - read) (drop read bytes)) → bytes ≡ items → items ≡ left → is_finished ≡ finished → r ≡ o
    → ends finished (drop read left) ≡ o
ended_as is_finished finished items left bytes read r o e same all last is =
    ap (λ f. ends f (drop read left)) (sym last) ∙ ap (λ l. ends is_finished (drop read l)) (sym (same ∙ all))
    ∙ ap (ends is_finished) (sym (rest_of bytes read)) ∙ sym e ∙ is
