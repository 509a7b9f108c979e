-- The innermost term of the code, which stands last there, and what is open where it has changed.
use Rattle.std.proofs.Common.{◌≡◌, ℕ, zero, suc, List, [], ◌∷◌, ◌++◌, length, slice_index_or, slice_set, Option, Some, Ok, refl, sym, ap, ◌∙◌, arith}
use Rattle.std.proofs.lemmas.Grind.{common_steps}
use Rattle.text_model.specs.Nest.{Frame, Begun, Place, want, Nest, Taken, change, changed_to}
use Rattle.text_nest.specs.declared.nest.Start.{Start}
use Rattle.text_nest.specs.NestView.{frame_of, begun_of, begun_terms}

-- the last item of a list, and another one in its place
abbrev IsLast : List Start → ℕ → Start → Start → Type 0
IsLast items n s w = (front : List Start) × ((items ≡ front ++ s ∷ []) × (slice_set items n w ≡ front ++ w ∷ []))

last_item : (items : List Start) (n : ℕ) (s w : Start) → length items ≡ suc n → s ≡ slice_index_or items n s → IsLast items n s w
last_item [] n s w size e = absurd (omega arith)
last_item (x ∷ []) zero s w size e = ([], (ap (λ y. y ∷ []) (sym e), refl))
last_item (x ∷ []) (suc n) s w size e = absurd (omega arith)
last_item (x ∷ y ∷ items) zero s w size e = absurd (omega arith)
last_item (x ∷ y ∷ items) (suc n) s w size e =
    let rest = last_item (y ∷ items) n s w (omega arith) e in
    (x ∷ rest.0, (ap (λ l. x ∷ l) rest.1.0, ap (λ l. x ∷ l) rest.1.1))

begun-last : (front : List Start) (s : Start) → begun_terms (front ++ s ∷ []) ≡ begun_of s ∷ begun_terms front
begun-last front s = grind (arith, common_steps)

pub innermost_changed : (next : Frame → Place → Option Frame) (nest : Nest) (at : ℕ) (items : List Start) (n : ℕ) (s w : Start) (behind : Place)
    → length items ≡ suc n → s ≡ slice_index_or items n s → w.at ≡ s.at → next (frame_of s.term) nest.place ≡ Some (frame_of w.term) → behind ≡ want
    → change next nest at (begun_terms items) ≡ Ok (record { begun = begun_terms (slice_set items n w); place = behind })
innermost_changed next nest at items n s w behind size e same changed wants =
    let last = last_item items n s w size e in
    let stands : List Begun → Taken = λ bs. Ok (record { begun = bs; place = behind }) in
    ap (change next nest at) (ap begun_terms last.1.0 ∙ begun-last last.0 s)
    ∙ ap (λ o. changed_to (begun_of s) (begun_terms last.0) o at) changed
    ∙ ap (λ p. let t : Taken = Ok (record { begun = record { start = s.at; frame = frame_of w.term } ∷ begun_terms last.0; place = p }) in t) (sym wants)
    ∙ ap (λ a. stands (record { start = a; frame = frame_of w.term } ∷ begun_terms last.0)) (sym same)
    ∙ ap stands (sym (ap begun_terms last.1.1 ∙ begun-last last.0 w))
