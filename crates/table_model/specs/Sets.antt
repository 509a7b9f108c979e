-- Lemmas: a set after an object is inserted.
use Rattle.std.proofs.Common.{◌≡◌, ℕ, Bool, true, false, cond, not, List, [], ◌∷◌, ◌++◌, filter, Option, Some, refl, ap, ◌∙◌}
use Rattle.std.proofs.lemmas.List.Elements.{filter-append}
use Rattle.term_model.specs.TermValue.{TermValue, key}
use Rattle.term_model.specs.Sorted.{ascending}
use Rattle.term_model.specs.Same.{same_self}
use Rattle.term_model.specs.declared.kind.Kind.{Kind}
use Rattle.term_model.specs.declared.kind.Kind.TheVariants.{Set}
use Rattle.table_model.specs.Table.{Table, has_key, is_key, shares_key, objects_of, with_object, insert_object}

others_by : (p : TermValue → Bool) (b : Bool) (y : TermValue) (kept : List TermValue) → p y ≡ b → filter p kept ≡ []
    → filter p (cond (not b) (y ∷ kept) kept) ≡ []
others_by p true y kept e h = h
others_by p false y kept e h = ap (λ b. cond b (y ∷ filter p kept) (filter p kept)) e ∙ h

-- none passes of those that do not
pub filter_others : (p : TermValue → Bool) (xs : List TermValue) → filter p (filter (λ x. not (p x)) xs) ≡ []
filter_others p [] = refl
filter_others p (y ∷ xs) = others_by p (p y) y (filter (λ x. not (p x)) xs) refl (filter_others p xs)

-- of the objects, the one that was inserted alone has its key
pub one_object : (keypos : ℕ) (objects : List TermValue) (o k : TermValue) → key o keypos ≡ Some k
    → filter (has_key keypos k) (with_object Set keypos objects o) ≡ o ∷ []
one_object keypos objects o k e =
    ap (λ (j : Option TermValue). filter (has_key keypos k) (filter (λ other. not (shares_key keypos j other)) objects ++ o ∷ [])) e
    ∙ filter-append (has_key keypos k) (filter (λ other. not (has_key keypos k other)) objects) (o ∷ [])
    ∙ ap (λ zs. zs ++ filter (has_key keypos k) (o ∷ [])) (filter_others (has_key keypos k) objects)
    ∙ ap (λ b. cond b (o ∷ []) []) (ap (is_key k) e ∙ same_self k)

pub in_a_set : (table : Table) (o k : TermValue) → table.kind ≡ Set → key o table.keypos ≡ Some k → objects_of (insert_object table o) k ≡ o ∷ []
in_a_set table o k set e =
    ap (λ (kind : Kind). ascending (filter (has_key table.keypos k) (with_object kind table.keypos table.objects o))) set
    ∙ ap ascending (one_object table.keypos table.objects o k e)
