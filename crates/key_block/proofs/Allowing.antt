-- A kind allows objects for one key where they pass the tests of unpacking, and only there.
use Rattle.std.proofs.Common.{◌≡◌, ◌<◌, ℕ, Bool, true, false, cond, ◌&&◌, List, [], ◌∷◌, Option, Some, None, IsSome, is_some, length, refl, sym, subst, arith}
use Rattle.std.specs.List.{list_all}
use Rattle.std.proofs.lemmas.Bool.{and_from, and_parts}
use Rattle.dets_term.specs.TermValue.{TermValue, key}
use Rattle.dets_term.specs.declared.Kind.{Kind}
use Rattle.table_model.specs.Allowed.{is_object}
use Rattle.table_model.specs.Table.{has_key, is_key, shares_key}
use Rattle.file_model.specs.Block.{in_order, if_shared, one_key}
use Rattle.key_block.specs.Unpacking.{are_objects, share_key}

-- what unpacking tests, one after the other
pub record Pass (kind : Kind) (keypos : ℕ) (list : List TermValue) : Type 0 where
  pub objects : are_objects keypos list ≡ true
  pub keys : share_key keypos list ≡ true
  pub order : in_order kind list ≡ true

allowed_by : (kind : Kind) (keypos : ℕ) (objects : List TermValue) (o : Option TermValue) → is_some o ≡ true
    → list_all (shares_key keypos o) objects ≡ true → in_order kind objects ≡ true → IsSome (if_shared kind keypos objects o)
allowed_by kind keypos objects None some keys order = absurd (cc some)
allowed_by kind keypos objects (Some k) some keys order =
    let both : (list_all (has_key keypos k) objects && in_order kind objects) ≡ true = and_from _ _ keys order in
    subst (λ b. IsSome (cond b (Some k) None)) (sym both) refl

pub allowed : (kind : Kind) (keypos : ℕ) (objects : List TermValue) → Pass kind keypos objects → IsSome (one_key kind keypos objects)
allowed kind keypos [] p = absurd (let e = p.objects in cc)
allowed kind keypos (first ∷ rest) p =
    allowed_by kind keypos (first ∷ rest) (key first keypos) (and_parts (is_object keypos first) (list_all (is_object keypos) rest) p.objects).0
    p.keys p.order

-- ---- the other way round

with_key : (k : TermValue) (o : Option TermValue) → is_key k o ≡ true → is_some o ≡ true
with_key k None e = cc
with_key k (Some found) e = refl

all_objects : (keypos : ℕ) (k : TermValue) (objects : List TermValue) → list_all (has_key keypos k) objects ≡ true
    → list_all (is_object keypos) objects ≡ true
all_objects keypos k [] e = refl
all_objects keypos k (o ∷ os) e =
    let p = and_parts (has_key keypos k o) (list_all (has_key keypos k) os) e in
    and_from (is_object keypos o) (list_all (is_object keypos) os) (with_key k (key o keypos) p.0) (all_objects keypos k os p.1)

record Shared (kind : Kind) (keypos : ℕ) (list : List TermValue) (o : Option TermValue) : Type 0 where
  pub objects : list_all (is_object keypos) list ≡ true
  pub keys : list_all (shares_key keypos o) list ≡ true
  pub order : in_order kind list ≡ true

by_test : (kind : Kind) (keypos : ℕ) (objects : List TermValue) (j k : TermValue) (b : Bool)
    → (list_all (has_key keypos j) objects && in_order kind objects) ≡ b → cond b (Some j) None ≡ Some k → Shared kind keypos objects (Some j)
by_test kind keypos objects j k true is e =
    let p = and_parts (list_all (has_key keypos j) objects) (in_order kind objects) is in
    record { objects = all_objects keypos j objects p.0; keys = p.0; order = p.1 }
by_test kind keypos objects j k false is e = absurd (cc e)

shared : (kind : Kind) (keypos : ℕ) (objects : List TermValue) (o : Option TermValue) (k : TermValue)
    → if_shared kind keypos objects o ≡ Some k → Shared kind keypos objects o
shared kind keypos objects None k e = absurd (cc e)
shared kind keypos objects (Some j) k e =
    by_test kind keypos objects j k (list_all (has_key keypos j) objects && in_order kind objects) refl e

pub passing : (kind : Kind) (keypos : ℕ) (objects : List TermValue) (k : TermValue) → one_key kind keypos objects ≡ Some k → Pass kind keypos objects
passing kind keypos [] k e = absurd (cc e)
passing kind keypos (first ∷ rest) k e =
    let s = shared kind keypos (first ∷ rest) (key first keypos) k e in record { objects = s.objects; keys = s.keys; order = s.order }

-- ---- of at least one

pub of_some : (keypos : ℕ) (objects : List TermValue) → 0 < length objects → are_objects keypos objects ≡ list_all (is_object keypos) objects
of_some keypos [] h = absurd (omega arith)
of_some keypos (first ∷ rest) h = refl

pub of_none : (keypos : ℕ) (objects : List TermValue) → length objects ≡ 0 → are_objects keypos objects ≡ false
of_none keypos [] e = refl
of_none keypos (first ∷ rest) e = absurd (omega arith)
