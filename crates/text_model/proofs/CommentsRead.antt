-- How the machine reads a comment with bytes that are not UTF-8.
use Rattle.std.proofs.Common.{◌≡◌, ℕ, ◌+◌, ◌-◌, ◌<◌, List, [], ◌∷◌, ◌++◌, length, length-append, encode_utf8, encode_utf8_all, refl, ap, ◌∙◌, sym}
use Rattle.std.proofs.Common.{subst, append_assoc, inl, inr, arith, Err}
use Rattle.std.specs.Char.{IsScalar}
use Rattle.text_model.specs.declared.fault.TextWhy.TheVariants.{BadUtf8}
use Rattle.text_model.specs.Spelling.{AreOfLine}
use Rattle.text_model.specs.Nest.{Nest}
use Rattle.text_model.specs.Faults.{BeginsWith}
use Rattle.text_model.specs.Reader.{between, in_comment, Sequence, whole, part, wrong, sequence, comment_led, faulty, outcome}
use Rattle.text_model.proofs.Comes.{IsGoing, IsCut}
use Rattle.text_model.proofs.OneMore.{grown_cut}
use Rattle.text_model.proofs.Runs.{run}
use Rattle.text_model.proofs.Sequences.{character_of_sequence}
use Rattle.text_model.proofs.GapWalks.{comment_walks}
use Rattle.text_model.proofs.BlanksRead.{walk_run}
use Rattle.text_model.proofs.RunSteps.{at_token, fails_outcome, run_end, run_led, run_outcome, run_to, same_outcome, state_in}

-- no character stands in front of some bytes
abbrev HasNoCharacter : List ℕ → Type 0
HasNoCharacter bytes = (c : ℕ) → IsScalar c → BeginsWith bytes (encode_utf8 c) → ⊥

end_cut : (n : Nest) (front : List ℕ) (at there : ℕ) → IsGoing n → 0 < length front → at ≡ there + length front
    → outcome (state_in n (in_comment front)) at [] ≡ faulty there BadUtf8
end_cut n [] at there goes some offset = absurd (omega arith)
end_cut n (x ∷ xs) at there goes some offset =
    run_outcome (state_in n (in_comment (x ∷ xs))) at at [] _ (run_end n (in_comment (x ∷ xs)) at goes) (omega arith)
    ∙ ap (λ k. faulty k BadUtf8) (let e : at - length (x ∷ xs) ≡ there = omega arith in e)

-- the first bytes of a character, or none, and the rest
cut_outcome : (n : Nest) (front rest : List ℕ) (at there : ℕ) → IsGoing n → IsCut front → 0 < length (front ++ rest) → HasNoCharacter (front ++ rest)
    → at ≡ there + length front → outcome (state_in n (in_comment front)) at rest ≡ faulty there BadUtf8
cut_outcome n front [] at there goes is_cut some none offset = end_cut n front at there goes (omega (arith, length-append front [])) offset
cut_outcome n front (x ∷ rest) at there goes is_cut some none offset =
    by_sequence (sequence (front ++ x ∷ [])) refl
    (λ e. cut_outcome n (front ++ x ∷ []) rest (at + 1) there goes (inr e) (omega (arith, length-append (front ++ x ∷ []) rest, length-append front (x ∷ [])))
    (subst HasNoCharacter (sym (append_assoc front (x ∷ []) rest)) none) (omega (arith, length-append front (x ∷ []))))
  where
    by_sequence : (s : Sequence) → sequence (front ++ x ∷ []) ≡ s
        → (sequence (front ++ x ∷ []) ≡ part → outcome (state_in n (in_comment (front ++ x ∷ []))) (at + 1) rest ≡ faulty there BadUtf8)
        → outcome (state_in n (in_comment front)) at (x ∷ rest) ≡ faulty there BadUtf8
    by_sequence (whole c) e further =
        let is = character_of_sequence (front ++ x ∷ []) c e (grown_cut front x is_cut) in
        absurd (none c is.1 (rest, sym (append_assoc front (x ∷ []) rest) ∙ ap (λ l. l ++ rest) is.0))
    by_sequence part e further =
        same_outcome (state_in n (in_comment front)) (state_in n (in_comment (front ++ x ∷ []))) at (at + 1) (x ∷ rest) rest (faulty there BadUtf8)
        (run_to n (in_comment front) at x (at + 1) rest (state_in n (in_comment (front ++ x ∷ []))) goes
        (ap (comment_led n (at - length front) (front ++ x ∷ [])) e) refl) (omega arith) (further e)
    by_sequence wrong e further =
        fails_outcome (state_in n (in_comment front)) at at (at - length front) BadUtf8 (x ∷ rest)
        (run_led n (in_comment front) at x rest (Err (at - length front, BadUtf8)) goes (ap (comment_led n (at - length front) (front ++ x ∷ [])) e))
        ∙ ap (λ k. faulty k BadUtf8) (let same : at - length front ≡ there = omega arith in same)

-- a comment up to bytes with which no character begins
pub bad_comment : (n : Nest) (at there : ℕ) (comment cs behind : List ℕ) → IsGoing n → AreOfLine cs → comment ≡ encode_utf8_all cs ++ behind
    → 0 < length behind → HasNoCharacter behind → at + length (37 ∷ comment) ≡ there + length behind
    → outcome (at_token n) at (37 ∷ comment) ≡ faulty there BadUtf8
bad_comment n at there comment cs behind goes line parted some none offset =
    let size = length-append (encode_utf8_all cs) behind in
    let parts : length comment ≡ length (encode_utf8_all cs ++ behind) = ap length parted in
    same_outcome (at_token n) (state_in n (in_comment [])) at there (37 ∷ comment) behind (faulty there BadUtf8)
    (ap (λ l. run (at_token n) at (37 ∷ l)) parted
    ∙ walk_run n between (in_comment []) at (37 ∷ encode_utf8_all cs) behind goes (comment_walks n cs line)
    ∙ ap (λ k. run (state_in n (in_comment [])) k behind)
    (let same : at + length (37 ∷ encode_utf8_all cs) ≡ there = omega (arith, size, parts, offset) in same)) offset
    (cut_outcome n [] behind there there goes (inl refl) some none (omega arith))
