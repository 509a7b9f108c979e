-- Bytes in quotes that begin no character, whatever follows, come with their fault before they end.
use Rattle.std.proofs.Common.{◌≡◌, ℕ, ◌+◌, ◌-◌, ◌<◌, inl, inr, false, ◌==◌, Err, List, [], ◌∷◌, ◌++◌, length, length-append, eqb-true, refl, ap, ◌∙◌}
use Rattle.std.proofs.Common.{sym, subst, append_assoc, append-nil, arith}
use Rattle.std.proofs.lemmas.Bool.{cases_Bool}
use Rattle.std.specs.Char.{IsScalar, encode_utf8}
use Rattle.text_model.specs.declared.fault.TextWhy.TheVariants.{BadUtf8}
use Rattle.text_model.specs.Nest.{Nest}
use Rattle.text_model.specs.Reader.{nothing, cut, Quotes, in_quotes, Sequence, whole, part, wrong, sequence, sequence_led, begin_character, quote_of}
use Rattle.text_model.specs.Reader.{outcome, faulty}
use Rattle.text_model.proofs.Comes.{IsGoing}
use Rattle.text_model.proofs.ComesRows.{IsWrong}
use Rattle.text_model.proofs.ComesQuotes.{encode_quote, encode_escape, quote_scalar}
use Rattle.text_model.proofs.Sequences.{character_of_sequence}
use Rattle.text_model.proofs.QuotesSteps.{between_quotes}
use Rattle.text_model.proofs.RunSteps.{led_fails, led_outcome}
use Rattle.text_model.proofs.CutCharacters.{part_goes_on}

-- a character begins them, if it begins some of them
not_wrong : (bytes front rest : List ℕ) (c : ℕ) → IsWrong bytes → IsScalar c → bytes ≡ front ++ rest → front ≡ encode_utf8 c → ⊥
not_wrong bytes front rest c is_wrong scalar e f =
    is_wrong [] c scalar (rest, append-nil bytes ∙ e ∙ ap (λ l. l ++ rest) f)

-- the first bytes of a character, in front of no others
part_fails : (bytes : List ℕ) → IsWrong (bytes ++ []) → sequence bytes ≡ part → ⊥
part_fails bytes is_wrong e =
    let on = part_goes_on bytes e in
    is_wrong on.1 on.0 on.2 ([], ap (λ l. l ++ on.1) (append-nil bytes) ∙ on.3 ∙ sym (append-nil (encode_utf8 on.0)))

cut_fails : (n : Nest) (start : ℕ) (q : Quotes) (cs : List ℕ) (at o : ℕ) (front behind : List ℕ) → IsGoing n → IsWrong (front ++ behind)
    → sequence front ≡ part → at ≡ o + length front → outcome (between_quotes n start q cs (cut front)) at behind ≡ faulty o BadUtf8
cut_fails n start q cs at o front [] going is_wrong e there = absurd (part_fails front is_wrong e)
cut_fails n start q cs at o front (x ∷ behind) going is_wrong e there =
    let more : IsWrong ((front ++ x ∷ []) ++ behind) = subst IsWrong (sym (append_assoc front (x ∷ []) behind)) is_wrong in
    by (sequence (front ++ x ∷ [])) more
    (λ f. cut_fails n start q cs (at + 1) o (front ++ x ∷ []) behind going more f (omega (arith, there, length-append front (x ∷ [])))) refl
  where
    by : (s : Sequence) → IsWrong ((front ++ x ∷ []) ++ behind)
        → (sequence (front ++ x ∷ []) ≡ part → outcome (between_quotes n start q cs (cut (front ++ x ∷ []))) (at + 1) behind ≡ faulty o BadUtf8)
        → sequence (front ++ x ∷ []) ≡ s → outcome (between_quotes n start q cs (cut front)) at (x ∷ behind) ≡ faulty o BadUtf8
    by (whole c) more further f =
        let is = character_of_sequence (front ++ x ∷ []) c f (inr (front, x, refl, e)) in
        absurd (not_wrong ((front ++ x ∷ []) ++ behind) (front ++ x ∷ []) behind c more is.1 refl is.0)
    by part more further f =
        led_outcome n (in_quotes start q cs (cut front)) (in_quotes start q cs (cut (front ++ x ∷ []))) at x behind going
        (ap (sequence_led n start q cs (front ++ x ∷ []) (at - length front)) f) ∙ further f
    by wrong more further f =
        let offset : at - length front ≡ o = omega arith in
        led_fails n (in_quotes start q cs (cut front)) at x o behind BadUtf8 going
        (ap (sequence_led n start q cs (front ++ x ∷ []) (at - length front)) f ∙ ap (λ k. Err (k, BadUtf8)) offset)

-- the first byte
first_fails : (n : Nest) (start : ℕ) (q : Quotes) (cs : List ℕ) (at x : ℕ) (behind : List ℕ) (s : Sequence) → IsGoing n → IsWrong (x ∷ behind)
    → begin_character n start at q cs x ≡ sequence_led n start q cs (x ∷ []) at s → sequence (x ∷ []) ≡ s
    → outcome (between_quotes n start q cs nothing) at (x ∷ behind) ≡ faulty at BadUtf8
first_fails n start q cs at x behind (whole c) going is_wrong e f =
    let is = character_of_sequence (x ∷ []) c f (inl (x, refl)) in
    absurd (not_wrong (x ∷ behind) (x ∷ []) behind c is_wrong is.1 refl is.0)
first_fails n start q cs at x behind part going is_wrong e f =
    led_outcome n (in_quotes start q cs nothing) (in_quotes start q cs (cut (x ∷ []))) at x behind going e
    ∙ cut_fails n start q cs (at + 1) at (x ∷ []) behind going is_wrong f (omega arith)
first_fails n start q cs at x behind wrong going is_wrong e f = led_fails n (in_quotes start q cs nothing) at x at behind BadUtf8 going e

-- it is that of no character of one byte
not_first : (x k : ℕ) (behind : List ℕ) → IsWrong (x ∷ behind) → IsScalar k → encode_utf8 k ≡ k ∷ [] → (x == k) ≡ false
not_first x k behind is_wrong scalar e =
    elim (cases_Bool (x == k)) [
      | inl t ↦ absurd (not_wrong (x ∷ behind) (x ∷ []) behind k is_wrong scalar refl (ap (λ y. y ∷ []) (eqb-true x k t) ∙ sym e))
      | inr t ↦ t
    ]

pub sequence_fails : (n : Nest) (start : ℕ) (q : Quotes) (cs : List ℕ) (at : ℕ) (behind : List ℕ) → IsGoing n → 0 < length behind → IsWrong behind
    → outcome (between_quotes n start q cs nothing) at behind ≡ faulty at BadUtf8
sequence_fails n start q cs at [] going some is_wrong = absurd (omega arith)
sequence_fails n start q cs at (x ∷ behind) going some is_wrong =
    first_fails n start q cs at x behind (sequence (x ∷ [])) going is_wrong
    (rw (not_first x (quote_of q) behind is_wrong (quote_scalar q) (encode_quote q), not_first x 92 behind is_wrong refl encode_escape)) refl
