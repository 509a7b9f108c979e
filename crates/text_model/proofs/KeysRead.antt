-- How the machine reads a key that stands in its map already.
use Rattle.std.proofs.Common.{◌≡◌, ℕ, ◌≤◌, List, [], ◌∷◌, ◌++◌, length, length-append, Ok, Err, ap, ◌∙◌, sym, subst, append_assoc, arith}
use Rattle.std.proofs.lemmas.List.{length-map}
use Rattle.text_model.specs.declared.fault.TextWhy.TheVariants.{RepeatedKey}
use Rattle.text_model.specs.Token.{Token}
use Rattle.text_model.specs.Grammar.{strict}
use Rattle.text_model.specs.Nest.{Nest, take}
use Rattle.text_model.specs.Located.{tokens_of}
use Rattle.text_model.specs.Fronts.{MayBegin, Repeats}
use Rattle.text_model.specs.Faults.{with_repeats, RepeatsKey}
use Rattle.text_model.specs.Reader.{why_of, fresh_state, faulty, outcome}
use Rattle.text_model.proofs.Looser.{formal_is_looser, repeating_taken}
use Rattle.text_model.proofs.MayStand.{more_taken}
use Rattle.text_model.proofs.Parted.{parted_twice}
use Rattle.text_model.proofs.RepeatedKeys.{repeats_refused}
use Rattle.text_model.proofs.WholeTokensRead.{MayRead}
use Rattle.text_model.proofs.LastRead.{tokens_same, last_read, last_outcome}
use Rattle.text_model.proofs.TextsRead.{may_read}
use Rattle.text_model.proofs.RefusedKeys.{StartsAt}

-- ---- where the key begins

starts_once : (ps qs : List (ℕ × Token)) (at offset : ℕ) → ps ≡ qs → StartsAt at ps → StartsAt offset qs → at ≡ offset
starts_once [] qs at offset e s t = absurd s
starts_once (p ∷ ps) [] at offset e s t = absurd t
starts_once (p ∷ ps) (q ∷ qs) at offset e s t = let same : p ≡ q = cc in sym s ∙ ap (λ (r : ℕ × Token). r.0) same ∙ t

none_between : (more : List (ℕ × Token)) (key qs : List (ℕ × Token)) → length more ≤ 0 → qs ≡ more ++ key → key ≡ qs
none_between [] key qs few e = sym e
none_between (p ∷ more) key qs few e = absurd (omega arith)

key_starts : (outside within front key : List (ℕ × Token)) (p : ℕ × Token) (at offset : ℕ) → (outside ++ within) ++ p ∷ [] ≡ front ++ key
    → tokens_of front ≡ tokens_of outside → StartsAt at key → StartsAt offset (within ++ p ∷ []) → at ≡ offset
key_starts outside within front key p at offset e same s t =
    let counts : length front ≡ length outside = sym (length-map front (λ q. q.1)) ∙ ap length same ∙ length-map outside (λ q. q.1) in
    let parts = parted_twice outside (within ++ p ∷ []) front key (sym (append_assoc outside within (p ∷ [])) ∙ e) (omega arith) in
    let few : length parts.0 ≤ 0 = omega (arith, ap length parts.1, length-append outside parts.0) in
    starts_once key (within ++ p ∷ []) at offset (none_between parts.0 key (within ++ p ∷ []) few parts.2) s t

-- ---- its last token

repeats_may_read : (n m : Nest) (at offset : ℕ) (token : Token) → take with_repeats n at token ≡ Ok m → take strict n at token ≡ Err (offset, RepeatedKey)
    → MayRead n at token
repeats_may_read n m at offset token e f =
    may_read with_repeats n m at token formal_is_looser e (λ k same g. let t = ap why_of (sym (ap (take strict n at) same) ∙ f) in cc)

pub repeats_read : (bytes : List ℕ) (offset : ℕ) → RepeatsKey bytes offset → outcome fresh_state 0 bytes ≡ faulty offset RepeatedKey
repeats_read bytes offset b =
    let l = b.last in
    let r = last_read bytes offset b.before b.inside b.token l in
    let ps = r.outside ++ r.within in
    let all : tokens_of ps ≡ b.before ++ b.inside = tokens_same r.outside r.within b.before b.inside r.outside_same r.within_same in
    let may : MayBegin with_repeats (tokens_of ps ++ b.token ∷ []) = subst (λ k. MayBegin with_repeats (k ++ b.token ∷ [])) (sym all) b.in_place in
    let taken = more_taken with_repeats ps r.nest l.at b.token (repeating_taken ps r.nest r.taken) may in
    let key = repeats_refused ps r.nest l.at b.token b.before r.taken may (subst (λ k. Repeats (k ++ b.token ∷ []) b.before) (sym all) b.repeats) in
    let there = key_starts r.outside r.within key.0 key.1 (l.at, b.token) key.2 offset key.3 (key.4 ∙ sym r.outside_same) key.5 r.starts in
    let refused : take strict r.nest l.at b.token ≡ Err (offset, RepeatedKey) = key.6 ∙ ap (λ k. Err (k, RepeatedKey)) there in
    last_outcome bytes offset b.before b.inside b.token l r (offset, RepeatedKey) (repeats_may_read r.nest taken.0 l.at offset b.token taken.1 refused) refused
