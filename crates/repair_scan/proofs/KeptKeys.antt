-- One key more among those that are kept.
use Rattle.std.proofs.Common.{◌≡◌, ◌≤◌, ℕ, ◌+◌, ◌-◌, Bool, true, false, cond, ◌&&◌, ◌==◌, nat_eq, List, ◌++◌, length, take, drop, Option, Some, None, refl, sym, ap, ◌∙◌, subst, arith}
use Rattle.std.specs.Global.{Vec}
use Rattle.std.specs.List.{slice_range}
use Rattle.std.specs.Map.{KeepsOthers, IsKeyTest, AreApart, lookup}
use Rattle.std.specs.HashMap.{HashMap, get, get_by, Updates}
use Rattle.std.specs.Str.{bytes_eq}
use Rattle.std.proofs.Math.Seq.{drop-append_seam, take-length}
use Rattle.std.proofs.lemmas.Bool.{cond-true, cond-false, eqb-true, eq-eqb, ne_eqb, false_from_ne_true, false≢true}
use Rattle.std.proofs.lemmas.Cmp.{nat_list_eq_equiv}
use Rattle.std.proofs.lemmas.List.{drop-append-le, take-append-le, length-drop}
use Rattle.std.proofs.lemmas.Slice.Eq.{bytes_eq-Decides}
use Rattle.repair_scan.specs.declared.taken_keys.Kept.{Kept}
use Rattle.repair_scan.specs.declared.taken_keys.TakenKeys.{TakenKeys}
use Rattle.repair_scan.specs.KeyHash.{hash_behind}
use Rattle.repair_scan.specs.TakenKeys.{AreKept, other_unit, unit_by, unit_of}

-- ---- bytes that are compared

same_bytes : (xs ys : List ℕ) → bytes_eq xs ys ≡ true → xs ≡ ys
same_bytes xs ys e = (bytes_eq-Decides xs ys).0 e

bytes_eq-turned : (xs ys : List ℕ) → bytes_eq xs ys ≡ bytes_eq ys xs
bytes_eq-turned xs ys = nat_list_eq_equiv.symm xs ys

-- ---- a map by the bytes of its keys

others_kept : {K X : Type 0} (eq : K → K → Bool) (test other : K → Bool) (old new : List (K × X)) → KeepsOthers eq test old new → IsKeyTest eq other
    → AreApart test other → lookup other new ≡ lookup other old
unfolding KeepsOthers
others_kept eq test other old new h key apart = h other key apart

module _ {X S : Type 0} (v : Vec ℕ) (old new : HashMap (Vec ℕ) X S) (w : Option X)
    (updates : Updates (λ x y. bytes_eq x.items y.items) old new v w) (bytes : List ℕ) where
  by_bytes : (b : Bool) → bytes_eq v.items bytes ≡ b
      → get_by (λ k. bytes_eq bytes k.items) new ≡ cond b w (get_by (λ k. bytes_eq bytes k.items) old)
  by_bytes true e = ap (λ bs. get_by (λ (k : Vec ℕ). bytes_eq bs k.items) new) (sym (same_bytes v.items bytes e)) ∙ updates.1
  by_bytes false e =
      others_kept (λ x y. bytes_eq x.items y.items) (λ k. bytes_eq v.items k.items) (λ k. bytes_eq bytes k.items) old.entries new.entries updates.3
      (λ x y. nat_list_eq_equiv.congr bytes x.items y.items)
      (λ k same. ap (bytes_eq bytes) (sym (same_bytes v.items k.items same)) ∙ bytes_eq-turned bytes v.items ∙ e)

  pub updated : get_by (λ k. bytes_eq bytes k.items) new ≡ cond (bytes_eq v.items bytes) w (get_by (λ k. bytes_eq bytes k.items) old)
  updated = by_bytes (bytes_eq v.items bytes) refl

-- ---- spellings behind which one more is put

last_range : (xs ys : List ℕ) → slice_range (xs ++ ys) (length xs) (length xs + length ys) ≡ ys
last_range xs ys =
    let size : length xs + length ys - length xs ≡ length ys = omega arith in
    ap (take (length xs + length ys - length xs)) (drop-append_seam xs ys) ∙ ap (λ n. take n ys) size ∙ take-length ys

earlier_range : (xs ys : List ℕ) (from end : ℕ) → from ≤ end → end ≤ length xs → slice_range (xs ++ ys) from end ≡ slice_range xs from end
earlier_range xs ys from end low high =
    ap (take (end - from)) (drop-append-le from xs ys (omega arith))
    ∙ take-append-le (end - from) (drop from xs) ys (omega (arith, length-drop from xs))

-- ---- a key that is the first of its hash

module _ (old new : TakenKeys) (are : AreKept old) (key : List ℕ) (hash unit : ℕ) (hashed : hash ≡ hash_behind key) (p : Kept)
    (from : p.from ≡ length old.spellings.items) (end : p.end ≡ length old.spellings.items + length key) (own : p.unit ≡ unit)
    (spellings : new.spellings.items ≡ old.spellings.items ++ key) (others : new.others ≡ old.others)
    (none : get nat_eq old.first hash ≡ None)
    (put : (h : ℕ) → get nat_eq new.first h ≡ cond (hash == h) (Some p) (get nat_eq old.first h)) where
  -- by the first key of the hash of some bytes
  by_first : (bytes : List ℕ) (o : Option Kept) → get nat_eq new.first (hash_behind bytes) ≡ o → unit_of new bytes ≡ unit_by new bytes o
  by_first bytes o e = ap (unit_by new bytes) e

  old_by_first : (bytes : List ℕ) (o : Option Kept) → get nat_eq old.first (hash_behind bytes) ≡ o → unit_of old bytes ≡ unit_by old bytes o
  old_by_first bytes o e = ap (unit_by old bytes) e

  -- bytes of its hash
  here : (bytes : List ℕ) → hash ≡ hash_behind bytes → unit_of new bytes ≡ cond (bytes_eq key bytes) (Some unit) (unit_of old bytes)
  here bytes same =
      let there : get nat_eq new.first (hash_behind bytes) ≡ Some p = put (hash_behind bytes) ∙ cond-true _ _ _ (eq-eqb hash (hash_behind bytes) same) in
      let absent : get nat_eq old.first (hash_behind bytes) ≡ None = sym (ap (get nat_eq old.first) same) ∙ none in
      let range : slice_range new.spellings.items p.from p.end ≡ key =
      ap (λ bs. slice_range bs p.from p.end) spellings ∙ ap (λ n. slice_range (old.spellings.items ++ key) n p.end) from
      ∙ ap (slice_range (old.spellings.items ++ key) (length old.spellings.items)) end ∙ last_range old.spellings.items key in
      by_first bytes (Some p) there
      ∙ ap (λ bs. cond (bytes_eq bytes bs) (Some p.unit) (other_unit new bytes)) range
      ∙ ap (λ b. cond b (Some p.unit) (other_unit new bytes)) (bytes_eq-turned bytes key)
      ∙ ap (λ u. cond (bytes_eq key bytes) (Some u) (other_unit new bytes)) own
      ∙ ap (λ m. cond (bytes_eq key bytes) (Some unit) (get_by (λ k. bytes_eq bytes k.items) m)) others
      ∙ ap (cond (bytes_eq key bytes) (Some unit)) (are.behind bytes absent ∙ sym (old_by_first bytes None absent))

  unchanged : (bytes : List ℕ) (o : Option Kept) → get nat_eq old.first (hash_behind bytes) ≡ o → unit_by new bytes o ≡ unit_by old bytes o
  unchanged bytes None e = refl
  unchanged bytes (Some q) e =
      let within = are.within (hash_behind bytes) q e in
      ap (λ bs. cond (bytes_eq bytes bs) (Some q.unit) (other_unit new bytes))
      (ap (λ bs. slice_range bs q.from q.end) spellings ∙ earlier_range old.spellings.items key q.from q.end within.0 within.1)
      ∙ ap (λ m. cond (bytes_eq bytes (slice_range old.spellings.items q.from q.end)) (Some q.unit) (get_by (λ k. bytes_eq bytes k.items) m)) others

  -- bytes of another hash
  elsewhere : (bytes : List ℕ) → (hash ≡ hash_behind bytes → ⊥) → unit_of new bytes ≡ cond (bytes_eq key bytes) (Some unit) (unit_of old bytes)
  elsewhere bytes other =
      let same : get nat_eq new.first (hash_behind bytes) ≡ get nat_eq old.first (hash_behind bytes) =
      put (hash_behind bytes) ∙ cond-false _ _ _ (ne_eqb hash (hash_behind bytes) other) in
      let apart : bytes_eq key bytes ≡ false =
      false_from_ne_true (bytes_eq key bytes) (λ e. other (hashed ∙ ap hash_behind (same_bytes key bytes e))) in
      by_first bytes (get nat_eq old.first (hash_behind bytes)) same ∙ unchanged bytes (get nat_eq old.first (hash_behind bytes)) refl
      ∙ sym (cond-false (bytes_eq key bytes) (Some unit) (unit_of old bytes) apart)

  by_hash : (bytes : List ℕ) (b : Bool) → (hash == hash_behind bytes) ≡ b → unit_of new bytes ≡ cond (bytes_eq key bytes) (Some unit) (unit_of old bytes)
  by_hash bytes true e = here bytes (eqb-true hash (hash_behind bytes) e)
  by_hash bytes false e = elsewhere bytes (λ same. false≢true (sym e ∙ eq-eqb hash (hash_behind bytes) same))

  pub first_put : (bytes : List ℕ) → unit_of new bytes ≡ cond (bytes_eq key bytes) (Some unit) (unit_of old bytes)
  first_put bytes = by_hash bytes (hash == hash_behind bytes) refl
