-- One change more in a command.
use Rattle.std.proofs.Common.{◌≡◌, ◌⊎◌, ⊎_elim, inl, inr, List, [], ◌∷◌, ◌++◌, subst}
use Rattle.space_model.specs.Apart.{In, Pairs}
use Rattle.space_model.proofs.Members.{in_append, pairs_append}
use Rattle.book_model.specs.declared.change.Change.{Change}
use Rattle.book_model.specs.Book.{Book}
use Rattle.book_model.specs.Planning.{IsChange, OtherKey, OtherEntry, AreChanges}
use Rattle.book_cases.specs.Others.{IsOther}

of_last : {X : Type 0} (P : X → Type 0) (x y : X) → P x → In y (x ∷ []) → P y
of_last P x y p a = ⊎_elim (λ same. subst P same p) (λ none. absurd none) a

alone : {X : Type 0} (R : X → X → Type 0) (x : X) → Pairs R (x ∷ [])
alone R x = ((λ y a. absurd a), tt)

pub are_more : (b : Book) (changes : List Change) (c : Change) → AreChanges b changes → IsChange b c → ((e : Change) → In e changes → IsOther e c)
    → AreChanges b (changes ++ c ∷ [])
are_more b changes c are is other = record {
  each = λ x a. ⊎_elim (λ front. are.each x front) (λ behind. of_last (IsChange b) c x is behind) (in_append changes (c ∷ []) x a);
  keys = pairs_append OtherKey changes (c ∷ []) are.keys (alone OtherKey c) (λ x y a behind. of_last (OtherKey x) c y (other x a).key behind);
  entries = pairs_append OtherEntry changes (c ∷ []) are.entries (alone OtherEntry c) (λ x y a behind. of_last (OtherEntry x) c y (other x a).entry behind);
}
