-- What a directory keeps, after each call.
use Rattle.std.proofs.Common.{◌≡◌, ◌≤◌, ◌<◌, inl, inr, ⊎_elim, ℕ, zero, suc, ◌+◌, ◌-◌, ◌*◌, ◌^◌, List, [], ◌∷◌, length, filter, replicate, sum_by, refl, sym, ap, ◌∙◌, subst, arith}
use Rattle.std.proofs.lemmas.Bool.{eqb-true, cases_lt}
use Rattle.std.proofs.lemmas.List.{length-replicate, length-map, get_or-map, get_or_past}
use Rattle.std.proofs.lemmas.List.Sums.{sum_by-cons}
use Rattle.space_model.specs.Apart.{In, Pairs}
use Rattle.space_model.specs.Slots.{slot_of}
use Rattle.space_model.proofs.Members.{in_filter, filter_passes, pairs_filter}
use Rattle.space_model.proofs.Splits.{slot_below}
use Rattle.file_model.specs.declared.entry.Entry.{Entry}
use Rattle.slot_table.specs.BySlot.{BySlot, entries_at, entries_in, objects_in, stands_in, is_other, with_entry, without, parted, HasOtherUnit, LacksUnit, IsDirectory, IsSlotOf, IsKept}
use Rattle.slot_table.proofs.Picked.{stands_at, in_entries}
use Rattle.slot_table.proofs.Tables.{length-with_entry}
use Rattle.slot_table.proofs.Entering.{in_added, own_added, entries_in-without, length-parted, parted_at, in_parted}
use Rattle.slot_table.proofs.Totals.{length_total, total_added, total_parted}
use Rattle.slot_table.proofs.Apart.{apart_at, apart_added, apart_parted}
use Rattle.slot_table.proofs.Found.{total_removed}

-- ---- the entries of a slot

pub slot_is : (b : BySlot) (k : ℕ) → IsDirectory b → IsSlotOf b k (entries_at b k)
slot_is b k d = record {
  own = λ e a. (in_entries b k e a, d.own k e a);
  all = λ e a is. let s = stands_at b e a in
      subst (λ j. In e (entries_at b j)) (sym (d.own s.slot e s.there) ∙ is) s.there;
  once = apart_at b k d.units;
}

-- ---- a new directory

pub none_in_replicate : (n : ℕ) → entries_in (replicate n []) ≡ []
none_in_replicate zero = refl
none_in_replicate (suc n) = none_in_replicate n

pub kept_none : (b : BySlot) (n : ℕ) → b ≡ replicate n [] → 256 ≤ n → n < 2 ^ 32 → IsKept b 0 0
kept_none b n is many few =
    let none : entries_in b ≡ [] = ap entries_in is ∙ none_in_replicate n in
    let long : length b ≡ n = ap (λ (xs : BySlot). length xs) is ∙ length-replicate n [] in
    record {
      directory = record {
        many = omega (arith, long, many);
        own = λ k e a. absurd (subst (λ (es : List Entry). In e es) none (in_entries b k e a));
        units = subst (λ (es : List Entry). Pairs HasOtherUnit es) (sym none) tt;
      };
      few = omega (arith, long, few);
      keys_are = ap (λ (es : List Entry). length es) (sym none);
      objects_are = ap (λ (es : List Entry). sum_by (λ e. e.count) es) (sym none);
      counts = λ e a. absurd (subst (λ (es : List Entry). In e es) none a);
    }

-- ---- one more entry

pub added_keys : (b : BySlot) (e : Entry) → slot_of e.hash (length b) < length b → length (entries_in (with_entry b e)) ≡ length (entries_in b) + 1
added_keys b e below =
    let sum = total_added (λ _. 1) b (slot_of e.hash (length b)) e below in
    let new = length_total (entries_in (with_entry b e)) in
    let old = length_total (entries_in b) in
    new ∙ sum ∙ ap (λ n. n + 1) (sym old)

-- few keys have objects whose number fits 64 bits
pub objects_le : (es : List Entry) → ((e : Entry) → In e es → e.count < 2 ^ 32) → sum_by (λ e. e.count) es ≤ (2 ^ 32 - 1) * length es
objects_le [] small = omega arith
objects_le (e ∷ es) small =
    let here = small e (inl refl) in
    let rest = objects_le es (λ x a. small x (inr a)) in
    let sum = sum_by-cons (λ (x : Entry). x.count) e es in
    omega (arith, here, rest, sum)

pub added_directory : (b : BySlot) (e : Entry) → IsDirectory b → LacksUnit b e.unit → IsDirectory (with_entry b e)
added_directory b e d lacks =
    let long = length-with_entry b e in
    record {
      many = subst (λ n. 256 ≤ n) (sym long) d.many;
      own = λ k x a. ⊎_elim
          (λ (within : k < length b). ap (λ n. slot_of x.hash n) long ∙ own_added b e x k within (d.own k x) a)
          (λ (past : length b ≤ k). absurd (subst (λ (es : List Entry). In x es)
          (get_or_past (with_entry b e) k [] (subst (λ n. n ≤ k) (sym long) past)) a))
          (cases_lt k (length b));
      units = apart_added b (slot_of e.hash (length b)) e d.units lacks;
    }

pub kept_added : (b : BySlot) (keys objects : ℕ) (e : Entry) → IsKept b keys objects → LacksUnit b e.unit → e.count < 2 ^ 32
    → IsKept (with_entry b e) (keys + 1) (objects + e.count)
kept_added b keys objects e kept lacks small =
    let d = kept.directory in
    let some : 1 ≤ length b = omega (arith, d.many) in
    let below = slot_below e.hash (length b) some in
    let long = length-with_entry b e in
    record {
      directory = added_directory b e d lacks;
      few = subst (λ n. n < 2 ^ 32) (sym long) kept.few;
      keys_are = ap (λ n. n + 1) kept.keys_are ∙ sym (added_keys b e below);
      objects_are = ap (λ n. n + e.count) kept.objects_are ∙ sym (total_added (λ (x : Entry). x.count) b (slot_of e.hash (length b)) e below);
      counts = λ x a. ⊎_elim
          (λ (new : e ≡ x). subst (λ (y : Entry). y.count < 2 ^ 32) new small) (λ (old : In x (entries_in b)). kept.counts x old) (in_added b e x a);
    }

-- ---- one entry less

pub removed_keys : (b : BySlot) (hash unit : ℕ) (e : Entry) → Pairs HasOtherUnit (entries_in b) → In e (entries_in b) → e.hash ≡ hash → e.unit ≡ unit
    → length (entries_in (without b hash unit)) + 1 ≡ length (entries_in b)
removed_keys b hash unit e apart a same_hash same_unit =
    let sum = total_removed (λ _. 1) hash unit (entries_in b) e apart a same_hash same_unit in
    let new : length (entries_in (without b hash unit)) ≡ sum_by (λ _. 1) (filter (is_other hash unit) (entries_in b)) =
    ap (λ (es : List Entry). length es) (entries_in-without b hash unit) ∙ length_total (filter (is_other hash unit) (entries_in b)) in
    ap (λ n. n + 1) new ∙ sum ∙ sym (length_total (entries_in b))

pub removed_objects : (b : BySlot) (hash unit : ℕ) (e : Entry) → Pairs HasOtherUnit (entries_in b) → In e (entries_in b) → e.hash ≡ hash → e.unit ≡ unit
    → objects_in (without b hash unit) + e.count ≡ objects_in b
removed_objects b hash unit e apart a same_hash same_unit =
    ap (λ (es : List Entry). sum_by (λ x. x.count) es + e.count) (entries_in-without b hash unit)
    ∙ total_removed (λ (x : Entry). x.count) hash unit (entries_in b) e apart a same_hash same_unit

pub removed_directory : (b : BySlot) (hash unit : ℕ) → IsDirectory b → IsDirectory (without b hash unit)
removed_directory b hash unit d =
    let long : length (without b hash unit) ≡ length b = length-map b (filter (is_other hash unit)) in
    record {
      many = subst (λ n. 256 ≤ n) (sym long) d.many;
      own = λ k x x_in. ⊎_elim
          (λ (within : k < length b). ap (λ n. slot_of x.hash n) long
          ∙ d.own k x (in_filter (is_other hash unit) (entries_at b k) x
          (subst (λ (es : List Entry). In x es) (get_or-map (filter (is_other hash unit)) b k [] [] within) x_in)))
          (λ (past : length b ≤ k). absurd (subst (λ (es : List Entry). In x es)
          (get_or_past (without b hash unit) k [] (subst (λ n. n ≤ k) (sym long) past)) x_in))
          (cases_lt k (length b));
      units = subst (λ (es : List Entry). Pairs HasOtherUnit es) (sym (entries_in-without b hash unit))
          (pairs_filter HasOtherUnit (is_other hash unit) (entries_in b) d.units);
    }

pub kept_removed : (b : BySlot) (keys objects hash unit : ℕ) (e : Entry) → IsKept b keys objects → In e (entries_in b) → e.hash ≡ hash → e.unit ≡ unit
    → IsKept (without b hash unit) (keys - 1) (objects - e.count)
kept_removed b keys objects hash unit e kept a same_hash same_unit =
    let d = kept.directory in
    let long : length (without b hash unit) ≡ length b = length-map b (filter (is_other hash unit)) in
    let flat = entries_in-without b hash unit in
    record {
      directory = removed_directory b hash unit d;
      few = subst (λ n. n < 2 ^ 32) (sym long) kept.few;
      keys_are = let less = removed_keys b hash unit e d.units a same_hash same_unit in let is = kept.keys_are in omega (arith, less, is);
      objects_are = let less = removed_objects b hash unit e d.units a same_hash same_unit in let is = kept.objects_are in omega (arith, less, is);
      counts = λ x x_in. kept.counts x (in_filter (is_other hash unit) (entries_in b) x (subst (λ (es : List Entry). In x es) flat x_in));
    }

-- ---- more slots

pub keys_parted : (slots : ℕ) (es : List Entry) → 1 ≤ slots → length (entries_in (parted slots es)) ≡ length es
keys_parted slots es some =
    length_total (entries_in (parted slots es)) ∙ total_parted (λ _. 1) slots es (λ e. slot_below e.hash slots some) ∙ sym (length_total es)

pub objects_parted : (slots : ℕ) (es : List Entry) → 1 ≤ slots → objects_in (parted slots es) ≡ sum_by (λ e. e.count) es
objects_parted slots es some = total_parted (λ (x : Entry). x.count) slots es (λ e. slot_below e.hash slots some)

pub parted_directory : (slots : ℕ) (es : List Entry) → 256 ≤ slots → Pairs HasOtherUnit es → IsDirectory (parted slots es)
parted_directory slots es many apart =
    let long = length-parted slots es in
    record {
      many = omega (arith, long, many);
      own = λ k x a. ⊎_elim
          (λ (within : k < slots). ap (λ n. slot_of x.hash n) long
          ∙ eqb-true (slot_of x.hash slots) k (filter_passes (stands_in slots k) es x
          (subst (λ (xs : List Entry). In x xs) (parted_at slots k es within) a)))
          (λ (past : slots ≤ k). absurd (subst (λ (xs : List Entry). In x xs)
          (get_or_past (parted slots es) k [] (subst (λ n. n ≤ k) (sym long) past)) a))
          (cases_lt k slots);
      units = apart_parted slots es apart;
    }

pub kept_parted : (b : BySlot) (slots keys objects : ℕ) → IsKept b keys objects → length b ≤ slots → slots < 2 ^ 32
    → IsKept (parted slots (entries_in b)) keys objects
kept_parted b slots keys objects kept more few =
    let d = kept.directory in
    let long = length-parted slots (entries_in b) in
    let some : 1 ≤ slots = omega (arith, d.many, more) in
    record {
      directory = parted_directory slots (entries_in b) (omega (arith, d.many, more)) d.units;
      few = omega (arith, long, few);
      keys_are = kept.keys_are ∙ sym (keys_parted slots (entries_in b) some);
      objects_are = kept.objects_are ∙ sym (objects_parted slots (entries_in b) some);
      counts = λ x a. kept.counts x (in_parted slots (entries_in b) x a);
    }
