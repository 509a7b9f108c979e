-- The printed form of a term and a full stop are a sentence of it, and two terms have two printed forms.
use Rattle.std.proofs.Common.{◌≡◌, ℕ, zero, suc, ◌≤◌, List, [], ◌∷◌, ◌++◌, inl, refl, ap, sym, subst, append_assoc, append-nil, arith}
use Rattle.std.specs.List.{join_by, zip}
use Rattle.std.specs.Fmt.{signed_decimal}
use Rattle.dets_term.specs.TermValue.{TermValue, integer, atom, tuple, mapping, nil, cons, bits, elements, depth}
use Rattle.dets_term.specs.IsTerm.{IsTerm, IsBounded}
use Rattle.text_model.specs.declared.mark.Mark.TheVariants.{OpenTuple, OpenMap, CloseBrace, OpenList, CloseList, FullStop}
use Rattle.text_model.specs.Token.{Token, mark, number}
use Rattle.text_model.specs.Spelling.{Spells}
use Rattle.text_model.specs.Grammar.{strict, Closes, Enclosed, InList, InMap, Text}
use Rattle.text_model.specs.Sentence.{IsSentence}
use Rattle.text_model.specs.Printed.{printed, printed_elements, printed_after, printed_each, printed_pair}
use Rattle.text_model.proofs.PrintedTokens.{Shown, apart_digits, one_shown, marked, closes_shown, part_shown, closes_follows}
use Rattle.text_model.proofs.PrintedNumbers.{within_fits, integer_spelled}
use Rattle.text_model.proofs.PrintedAtoms.{atom_prints}
use Rattle.text_model.proofs.PrintedLists.{ArePrinted, elements_shown, proper_chain, list_shown}
use Rattle.text_model.proofs.PrintedMaps.{map_shown}
use Rattle.text_model.proofs.PrintedSegments.{bits_print}
use Rattle.text_model.proofs.OneSentence.{one_sentence}

terms_printed : (levels : ℕ) → ArePrinted (Text strict levels) levels
terms_printed zero t low bounded rest apart = absurd (omega arith)
terms_printed (suc levels) (integer z) low bounded rest apart =
    one_shown (number z) (Text strict (suc levels) (integer z)) (signed_decimal z) rest (within_fits z bounded)
    (integer_spelled z rest (within_fits z bounded) (apart_digits rest apart)) (λ behind. (refl, refl))
terms_printed (suc levels) (atom cs) low bounded rest apart =
    atom_prints (Text strict (suc levels) (atom cs)) cs bounded.0 bounded.1 (λ behind. (refl, refl)) (λ behind. (refl, refl)) rest apart
terms_printed (suc levels) (tuple parts) low bounded rest apart =
    marked OpenTuple (Enclosed (Text strict levels) CloseBrace (elements parts)) (Text strict (suc levels) (tuple parts))
    (printed_elements (125 ∷ []) parts) rest (λ tokens behind e. (elements parts, ap tuple (proper_chain parts bounded.0), e))
    (elements_shown (Text strict levels) levels parts rest (terms_printed levels) bounded.0 bounded.1 (omega arith))
terms_printed (suc levels) (mapping ks vs) low bounded rest apart =
    marked OpenMap (InMap strict (Text strict levels) (mapping ks vs)) (Text strict (suc levels) (mapping ks vs))
    (join_by printed_pair (44 ∷ []) (zip (printed_each ks) (printed_each vs)) ++ 125 ∷ []) rest (λ tokens behind i. i)
    (map_shown (Text strict levels) levels ks vs rest (terms_printed levels) bounded (omega arith))
terms_printed (suc levels) nil low bounded rest apart =
    marked OpenList (Closes CloseList) (Text strict (suc levels) nil) (93 ∷ []) rest (λ tokens behind e. inl (refl, e)) (closes_shown CloseList rest)
terms_printed (suc levels) (cons first others) low bounded rest apart =
    marked OpenList (InList (Text strict levels) (cons first others)) (Text strict (suc levels) (cons first others))
    (printed first ++ printed_after (93 ∷ []) others) rest (λ tokens behind i. i)
    (list_shown (Text strict levels) levels first others rest (terms_printed levels) bounded (omega arith))
terms_printed (suc levels) (bits bs) low bounded rest apart = bits_print bs (Text strict (suc levels) (bits bs)) (λ tokens behind i. i) rest apart

-- ---- sentences

sentence_of : (levels : ℕ) (t : TermValue) (rest : List ℕ) → depth t ≤ levels → IsBounded t
    → (tokens : List Token) × Spells tokens (printed t ++ 46 ∷ rest) rest × Text strict levels t tokens (mark FullStop ∷ [])
sentence_of levels t rest low bounded =
    let shown : Shown Both (printed t ++ 46 ∷ []) rest
    = part_shown (Text strict levels t) (Closes FullStop) Both (printed t) (46 ∷ []) rest (λ tokens middle behind p e. subst (Text strict levels t tokens) e p)
    (terms_printed levels t low bounded) (closes_follows FullStop (λ more. refl)) in (
      shown.0,
      subst (λ l. Spells shown.0 l rest) (append_assoc (printed t) (46 ∷ []) rest) shown.1,
      subst (λ l. Text strict levels t l (mark FullStop ∷ [])) (append-nil shown.0) (shown.2 []),
    )
  where
    Both : List Token → List Token → Type 0
    Both tokens behind = Text strict levels t tokens (mark FullStop ∷ behind)

pub printed_sentence : (t : TermValue) (rest : List ℕ) → IsTerm t → IsSentence t (printed t ++ 46 ∷ rest) rest
printed_sentence t rest term = sentence_of 256 t rest term.shallow term.bounded

pub printed_of_one_term : (t u : TermValue) → IsTerm t → IsTerm u → printed t ≡ printed u → t ≡ u
printed_of_one_term t u term other e =
    (one_sentence t u (printed t ++ 46 ∷ []) [] [] (printed_sentence t [] term)
    (subst (λ l. IsSentence u (l ++ 46 ∷ []) []) (sym e) (printed_sentence u [] other))).0
