-- Lemmas: what an operation leaves of a key depends on the objects of that key alone.
use Rattle.std.proofs.Common.{◌≡◌, ℕ, Bool, true, false, cond, not, List, [], ◌∷◌, ◌++◌, filter, Option, Some, None, ⊎_elim, refl, sym, ap, ◌∙◌, subst}
use Rattle.std.specs.Prelude.{◌&&◌}
use Rattle.std.specs.List.{list_any}
use Rattle.std.proofs.lemmas.Bool.{cases_Bool}
use Rattle.term_model.specs.TermValue.{TermValue, key}
use Rattle.term_model.specs.Order.{is_same}
use Rattle.term_model.specs.Sorted.{ascending}
use Rattle.term_model.specs.declared.kind.Kind.{Kind}
use Rattle.term_model.specs.declared.kind.Kind.TheVariants.{Set, Bag, DuplicateBag}
use Rattle.table_model.specs.Table.{Table, has_key, shares_key, objects_of, insert_object}
use Rattle.table_model.specs.Operations.{IsSameTable, insert_objects, is_member, has_new_key, are_new, insert_new_objects, delete_where}
use Rattle.table_model.specs.Sets.{in_a_set}
use Rattle.table_model.proofs.Placing.{filter-ascending, filter_swap}
use Rattle.table_model.proofs.Inserted.{other_keys_kept, in_a_bag, in_a_duplicate_bag}
use Rattle.table_model.proofs.Deleted.{none_shares, absent_has_none, member_has_some}
use Rattle.table_model.proofs.Counters.{key_found}

-- ---- deletions

pub left_of_key : (test : TermValue → Bool) (table : Table) (k : TermValue)
    → objects_of (delete_where test table) k ≡ filter (λ object. not (test object)) (objects_of table k)
left_of_key test table k =
    ap ascending (filter_swap (has_key table.keypos k) (λ object. not (test object)) table.objects)
    ∙ sym (filter-ascending (λ object. not (test object)) (filter (has_key table.keypos k) table.objects))

pub deleted_same : (test : TermValue → Bool) (a b : Table) → IsSameTable a b → IsSameTable (delete_where test a) (delete_where test b)
deleted_same test a b s = record {
  kind = s.kind;
  keypos = s.keypos;
  objects = λ k. left_of_key test a k ∙ ap (filter (λ object. not (test object))) (s.objects k) ∙ sym (left_of_key test b k);
}

-- ---- inserts

mine_same : (kind : Kind) (a b : Table) (o k : TermValue) → a.kind ≡ kind → IsSameTable a b → key o a.keypos ≡ Some k
    → objects_of (insert_object a o) k ≡ objects_of (insert_object b o) k
mine_same Set a b o k is s e =
    in_a_set a o k is e ∙ sym (in_a_set b o k (sym s.kind ∙ is) (ap (key o) (sym s.keypos) ∙ e))
mine_same Bag a b o k is s e =
    in_a_bag a o k is e
    ∙ ap (λ (ts : List TermValue). cond (list_any (is_same o) ts) ts (ascending (ts ++ o ∷ []))) (s.objects k)
    ∙ sym (in_a_bag b o k (sym s.kind ∙ is) (ap (key o) (sym s.keypos) ∙ e))
mine_same DuplicateBag a b o k is s e =
    in_a_duplicate_bag a o k is e
    ∙ ap (λ (ts : List TermValue). ascending (ts ++ o ∷ [])) (s.objects k)
    ∙ sym (in_a_duplicate_bag b o k (sym s.kind ∙ is) (ap (key o) (sym s.keypos) ∙ e))

pub inserted_same : (a b : Table) (o : TermValue) → IsSameTable a b → IsSameTable (insert_object a o) (insert_object b o)
inserted_same a b o s = record {
  kind = s.kind;
  keypos = s.keypos;
  objects = λ k. ⊎_elim
      (λ (has : has_key a.keypos k o ≡ true). mine_same a.kind a b o k refl s (key_found k (key o a.keypos) has))
      (λ (other : has_key a.keypos k o ≡ false).
      other_keys_kept a o k other ∙ s.objects k ∙ sym (other_keys_kept b o k (subst (λ (p : ℕ). has_key p k o ≡ false) s.keypos other)))
      (cases_Bool (has_key a.keypos k o));
}

pub all_inserted_same : (objects : List TermValue) (a b : Table) → IsSameTable a b → IsSameTable (insert_objects a objects) (insert_objects b objects)
all_inserted_same [] a b s = s
all_inserted_same (o ∷ objects) a b s = all_inserted_same objects (insert_object a o) (insert_object b o) (inserted_same a b o s)

pub member_same : (a b : Table) (k : TermValue) → objects_of a k ≡ objects_of b k → is_member a k ≡ is_member b k
member_same a b k e = ⊎_elim
    (λ there. ⊎_elim
    (λ same. there ∙ sym same) (λ absent. member_has_some a k (e ∙ absent_has_none b k absent) ∙ sym absent) (cases_Bool (is_member b k)))
    (λ absent. absent ∙ sym (member_has_some b k (sym e ∙ absent_has_none a k absent)))
    (cases_Bool (is_member a k))

new_same : (a b : Table) (o : TermValue) (mine : Option TermValue) → IsSameTable a b
    → list_any (shares_key a.keypos mine) a.objects ≡ list_any (shares_key b.keypos mine) b.objects
new_same a b o None s = none_shares a.keypos a.objects ∙ sym (none_shares b.keypos b.objects)
new_same a b o (Some k) s = member_same a b k (s.objects k)

pub all_new_same : (objects : List TermValue) (a b : Table) → IsSameTable a b → are_new a objects ≡ are_new b objects
all_new_same [] a b s = refl
all_new_same (o ∷ objects) a b s =
    let here : has_new_key a o ≡ has_new_key b o =
    ap not (new_same a b o (key o a.keypos) s ∙ ap (λ (p : ℕ). list_any (shares_key b.keypos (key o p)) b.objects) s.keypos) in
    ap (λ x. x && are_new a objects) here ∙ ap (λ x. has_new_key b o && x) (all_new_same objects a b s)

pub new_inserted_same : (objects : List TermValue) (a b : Table) → IsSameTable a b → IsSameTable (insert_new_objects a objects) (insert_new_objects b objects)
new_inserted_same objects a b s =
    subst (λ (x : Bool). IsSameTable (cond (are_new a objects) (insert_objects a objects) a) (cond x (insert_objects b objects) b)) (all_new_same objects a b s)
    (by_test (are_new a objects))
  where
    by_test : (x : Bool) → IsSameTable (cond x (insert_objects a objects) a) (cond x (insert_objects b objects) b)
    by_test true = all_inserted_same objects a b s
    by_test false = s
