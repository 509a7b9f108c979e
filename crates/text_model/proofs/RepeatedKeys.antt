-- The last token of a key that stands in its map already is refused by the machine, and it refuses no other token so.
use Rattle.std.proofs.Common.{◌≡◌, ℕ, true, false, List, [], ◌∷◌, ◌++◌, Ok, Err, inl, inr, refl, ap, ◌∙◌, sym, subst, append_assoc}
use Rattle.std.proofs.lemmas.List.{append-nil}
use Rattle.text_model.specs.declared.fault.TextWhy.TheVariants.{RepeatedKey}
use Rattle.text_model.specs.Token.{Token}
use Rattle.text_model.specs.Grammar.{strict}
use Rattle.text_model.specs.Nest.{after, Nest, fresh, repeats_in, take}
use Rattle.text_model.specs.Located.{tokens_of, take_all}
use Rattle.text_model.specs.Fronts.{MayBegin, Repeats}
use Rattle.text_model.specs.Faults.{with_repeats}
use Rattle.text_model.proofs.TakenSteps.{take_all-append, taken_before, tokens_of-append, parted_as, take_all_push, next_taken}
use Rattle.text_model.proofs.OpenTerms.{IsAt}
use Rattle.text_model.proofs.NestsRead.{is_at}
use Rattle.text_model.proofs.TextTaken.{begins_taken}
use Rattle.text_model.proofs.KeyedNests.{IsKeyed, keyed}
use Rattle.text_model.proofs.RepeatsDiffer.{Differs, differs}
use Rattle.text_model.proofs.Looser.{repeating_taken}
use Rattle.text_model.proofs.RefusedKeys.{StartsAt, refused_repeats}

-- ---- a token that ends such a key

none_keyed : (ps : List (ℕ × Token)) (n : Nest) (before : List Token) → take_all strict fresh ps ≡ Ok n → Repeats (tokens_of ps) before → ⊥
none_keyed ps n before e r =
    let k = keyed ps n before (repeating_taken ps n e) r in
    let here = subst (λ place. IsAt strict n.begun place ps) k.placed (is_at strict ps n e) in
    let anew : repeats_in n.begun k.key ≡ false = here.1 in
    let again : repeats_in n.begun k.key ≡ true = k.repeated in
    cc

-- it is taken where keys may be repeated
repeating_refused : (ps : List (ℕ × Token)) (n m : Nest) (start : ℕ) (token : Token) (before : List Token) → take_all strict fresh ps ≡ Ok n
    → take with_repeats n start token ≡ Ok m → IsKeyed m (ps ++ (start, token) ∷ []) before → Repeats (tokens_of (ps ++ (start, token) ∷ [])) before
    → Differs (take with_repeats n start token) (take strict n start token)
    → (front : List (ℕ × Token)) × (key : List (ℕ × Token)) × (at : ℕ) × (ps ++ (start, token) ∷ [] ≡ front ++ key) × (tokens_of front ≡ before)
    × StartsAt at key × (take strict n start token ≡ Err (at, RepeatedKey))
repeating_refused ps n m start token before e takes k r (inl same) =
    absurd (none_keyed (ps ++ (start, token) ∷ []) m before
    (take_all_push strict fresh n m ps start token e (sym same ∙ takes)) r)
repeating_refused ps n m start token before e takes k r (inr (bs, at, t, is, refused)) =
    let there : record { begun = bs; place = after at t } ≡ m = cc in
    let placed : after at t ≡ after k.start k.key = ap (λ (l : Nest). l.place) there ∙ k.placed in
    let starts : at ≡ k.start = cc in
    (k.front, (k.start, k.first) ∷ k.more, k.start, k.parted, k.same, refl, refused ∙ ap (λ x. Err (x, RepeatedKey)) starts)

-- and each one that ends such a key is refused so
pub repeats_refused : (ps : List (ℕ × Token)) (n : Nest) (start : ℕ) (token : Token) (before : List Token) → take_all strict fresh ps ≡ Ok n
    → MayBegin with_repeats (tokens_of ps ++ token ∷ []) → Repeats (tokens_of ps ++ token ∷ []) before
    → (front : List (ℕ × Token)) × (key : List (ℕ × Token)) × (at : ℕ) × (ps ++ (start, token) ∷ [] ≡ front ++ key) × (tokens_of front ≡ before)
    × StartsAt at key × (take strict n start token ≡ Err (at, RepeatedKey))
repeats_refused ps n start token before e m r =
    let all = sym (tokens_of-append ps ((start, token) ∷ [])) in
    let begins = begins_taken with_repeats (ps ++ (start, token) ∷ []) (subst (MayBegin with_repeats) all m) in
    let takes = next_taken with_repeats n begins.0 ps start token (repeating_taken ps n e) begins.1 in
    let again = subst (λ l. Repeats l before) all r in
    repeating_refused ps n begins.0 start token before e takes (keyed (ps ++ (start, token) ∷ []) begins.0 before begins.1 again) again
    (differs n start token)

-- no key is repeated among tokens that are taken
pub taken_apart : (ps : List (ℕ × Token)) (n : Nest) → take_all strict fresh ps ≡ Ok n
    → (front more before : List Token) → tokens_of ps ≡ front ++ more → Repeats front before → ⊥
taken_apart ps n e front more before parted r =
    let halves = parted_as ps front more parted in
    let first = taken_before (take_all strict fresh halves.0) (λ m. take_all strict m halves.1) n
    (sym (take_all-append strict fresh halves.0 halves.1) ∙ ap (take_all strict fresh) (sym halves.2) ∙ e) in
    none_keyed halves.0 first.0 before first.1 (subst (λ l. Repeats l before) (sym halves.3) r)

-- ---- where none is

abbrev IsApart : List (ℕ × Token) → Type 0
IsApart ps = (front more before : List Token) → tokens_of ps ≡ front ++ more → Repeats front before → ⊥

-- behind tokens that are taken, more tokens
apart_taken : (ps qs : List (ℕ × Token)) (n m : Nest) → take_all strict fresh ps ≡ Ok n → take_all with_repeats n qs ≡ Ok m → IsApart (ps ++ qs)
    → (k : Nest) × (take_all strict fresh (ps ++ qs) ≡ Ok k)
apart_taken ps [] n m e f apart = (n, ap (take_all strict fresh) (append-nil ps) ∙ e)
apart_taken ps (q ∷ qs) n m e f apart =
    let first = taken_before (take with_repeats n q.0 q.1) (λ k. take_all with_repeats k qs) m f in
    let again : (ps ++ q ∷ []) ++ qs ≡ ps ++ q ∷ qs = append_assoc ps (q ∷ []) qs in
    let more = by_difference first.0 first.1 (differs n q.0 q.1) in
    let others = apart_taken (ps ++ q ∷ []) qs first.0 m more first.2 (subst IsApart (sym again) apart) in
    (others.0, ap (take_all strict fresh) (sym again) ∙ others.1)
  where
    by_difference : (k : Nest) → take with_repeats n q.0 q.1 ≡ Ok k → Differs (take with_repeats n q.0 q.1) (take strict n q.0 q.1)
        → take_all strict fresh (ps ++ q ∷ []) ≡ Ok k
    by_difference k takes (inl same) = take_all_push strict fresh n k ps q.0 q.1 e (sym same ∙ takes)
    by_difference k takes (inr (bs, at, t, is, refused)) =
        let r = refused_repeats ps n q.0 at q.1 e refused in
        absurd (apart (tokens_of ps ++ q.1 ∷ []) (tokens_of qs) (tokens_of r.0)
        (tokens_of-append ps (q ∷ qs) ∙ sym (append_assoc (tokens_of ps) (q.1 ∷ []) (tokens_of qs))) r.4)

-- tokens with which a text may begin, but for repeated keys, are taken where there is none
pub well_taken : (ps : List (ℕ × Token)) → MayBegin with_repeats (tokens_of ps)
    → ((front more before : List Token) → tokens_of ps ≡ front ++ more → Repeats front before → ⊥) → (n : Nest) × (take_all strict fresh ps ≡ Ok n)
well_taken ps m apart = let all = begins_taken with_repeats ps m in apart_taken [] ps fresh all.0 refl all.1 apart
