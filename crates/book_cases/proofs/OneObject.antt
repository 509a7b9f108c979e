-- The key of one object alone.
use Rattle.std.proofs.Common.{◌≡◌, ℕ, true, ◌&&◌, cond, [], ◌∷◌, Some, None, refl, sym, ap, ◌∙◌, subst}
use Rattle.std.specs.List.{list_all}
use Rattle.std.proofs.lemmas.Bool.{and_from}
use Rattle.term_model.specs.TermValue.{TermValue, key}
use Rattle.term_model.specs.Same.{same_self}
use Rattle.term_model.specs.declared.kind.Kind.{Kind}
use Rattle.term_model.specs.declared.kind.Kind.TheVariants.{Set, Bag, DuplicateBag}
use Rattle.table_model.specs.Table.{has_key, is_key}
use Rattle.file_model.specs.Block.{in_order, if_shared, one_key}

alone_in_order : (kind : Kind) (object : TermValue) → in_order kind (object ∷ []) ≡ true
alone_in_order Set object = refl
alone_in_order Bag object = refl
alone_in_order DuplicateBag object = refl

-- every kind allows it
pub key_of_one : (kind : Kind) (keypos : ℕ) (object k : TermValue) → key object keypos ≡ Some k → one_key kind keypos (object ∷ []) ≡ Some k
key_of_one kind keypos object k e =
    let own : has_key keypos k object ≡ true = ap (is_key k) e ∙ same_self k in
    let all : list_all (has_key keypos k) (object ∷ []) ≡ true = and_from (has_key keypos k object) true own refl in
    let both : (list_all (has_key keypos k) (object ∷ []) && in_order kind (object ∷ [])) ≡ true = and_from _ _ all (alone_in_order kind object) in
    ap (if_shared kind keypos (object ∷ [])) e ∙ ap (λ b. cond b (Some k) None) both
