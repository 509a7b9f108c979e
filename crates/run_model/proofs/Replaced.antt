-- Tables that may not be found while a key is replaced.
use Rattle.std.proofs.Common.{◌≡◌, ◌≤◌, ℕ, zero, suc, [], ◌∷◌, refl, subst, arith}
use Rattle.term_model.specs.Written.{number, pair}
use Rattle.table_model.specs.Table.{Table, objects_of}
use Rattle.run_model.specs.State.{objects_in}
use Rattle.run_model.specs.History.{state_at}
use Rattle.run_model.specs.Good.{MayBeFound}
use Rattle.run_model.specs.Rows.{replacing, old_table, both_gates, new_table, no_gates}

not_old_at : (table : Table) → objects_of table (number 1) ≡ pair (number 1) (number 1) ∷ [] → (moment : ℕ) → moment ≡ 3
    → objects_of table (number 1) ≡ objects_in (state_at replacing moment) (number 1) → ⊥
not_old_at table old moment at same =
    let is_new : pair (number 1) (number 1) ∷ [] ≡ pair (number 1) (number 2) ∷ [] =
    subst (λ o. o ≡ pair (number 1) (number 2) ∷ []) old (subst (λ m. objects_of table (number 1) ≡ objects_in (state_at replacing m) (number 1)) at same) in
    absurd cc

not_old : (table : Table) → objects_of table (number 1) ≡ pair (number 1) (number 1) ∷ [] → MayBeFound replacing 3 table → ⊥
not_old table old found =
    let at = found.keys (number 1) in not_old_at table old at.moment (omega (arith, at.from, at.up_to)) at.same

pub no_old_table : MayBeFound replacing 3 old_table → ⊥
no_old_table found = not_old old_table refl found

pub no_both_gates : MayBeFound replacing 3 both_gates → ⊥
no_both_gates found = not_old both_gates refl found

not_gone_at : (moment : ℕ) → moment ≤ 3 → [] ≡ objects_in (state_at replacing moment) (number 1) → ⊥
not_gone_at zero l same = absurd cc
not_gone_at (suc zero) l same = absurd cc
not_gone_at (suc (suc zero)) l same = absurd cc
not_gone_at (suc (suc (suc zero))) l same = absurd cc
not_gone_at (suc (suc (suc (suc moment)))) l same = absurd (omega (arith, l))

pub no_no_gates : MayBeFound replacing 2 no_gates → ⊥
no_no_gates found = let at = found.keys (number 1) in not_gone_at at.moment (omega (arith, at.up_to)) at.same

not_new_at : (moment : ℕ) → moment ≤ 1 → pair (number 1) (number 2) ∷ [] ≡ objects_in (state_at replacing moment) (number 1) → ⊥
not_new_at zero l same = absurd cc
not_new_at (suc zero) l same = absurd cc
not_new_at (suc (suc moment)) l same = absurd (omega (arith, l))

pub no_new_table : MayBeFound replacing 0 new_table → ⊥
no_new_table found = let at = found.keys (number 1) in not_new_at at.moment (omega (arith, at.up_to)) at.same
