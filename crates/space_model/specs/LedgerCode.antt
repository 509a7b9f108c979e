-- How a ledger is coded, for the types of the code that show one.
use Rattle.std.specs.Prelude.{ℕ, List, Option, refl}
use Rattle.std.specs.Coded.{Coded, code_by, coded×, coded_ℕ, coded_list, coded_option}
use Rattle.space_model.specs.Runs.{Run}
use Rattle.space_model.specs.Ledger.{Standing, Packed, Pending, Ledger}

abbrev pub coded_run : Coded Run
coded_run = code_by (ℕ × ℕ) (coded× coded_ℕ coded_ℕ) (λ r. (r.unit, r.exp)) (λ p. record { unit = p.0; exp = p.1 }) (λ _. refl)

abbrev pub coded_standing : Coded Standing
coded_standing =
    code_by (List ℕ × Run) (coded× (coded_list coded_ℕ) coded_run) (λ s. (s.key, s.run)) (λ p. record { key = p.0; run = p.1 }) (λ _. refl)

abbrev pub coded_packed : Coded Packed
coded_packed = code_by (ℕ × Run) (coded× coded_ℕ coded_run) (λ q. (q.bytes, q.run)) (λ p. record { bytes = p.0; run = p.1 }) (λ _. refl)

abbrev pub coded_pending : Coded Pending
coded_pending =
    code_by (List ℕ × Option Packed) (coded× (coded_list coded_ℕ) (coded_option coded_packed)) (λ p. (p.key, p.packed))
    (λ p. record { key = p.0; packed = p.1 }) (λ _. refl)

abbrev pub coded_ledger : Coded Ledger
coded_ledger =
    code_by (ℕ × (ℕ × (ℕ × (List Standing × List Pending))))
    (coded× coded_ℕ (coded× coded_ℕ (coded× coded_ℕ (coded× (coded_list coded_standing) (coded_list coded_pending)))))
    (λ l. (l.max, (l.filed, (l.segments, (l.standing, l.pending)))))
    (λ p. record { max = p.0; filed = p.1.0; segments = p.1.1.0; standing = p.1.1.1.0; pending = p.1.1.1.1 }) (λ _. refl)
