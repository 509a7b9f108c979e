-- A run that begins elsewhere is taken still, when one is given back.
use Rattle.std.proofs.Common.{◌≡◌, ℕ, Option, Some, None, option_map, ◌∙◌, ap, sym, subst}
use Rattle.space_model.specs.Runs.{Run, run}
use Rattle.space_model.specs.Apart.{In}
use Rattle.file_model.specs.declared.entry.Entry.{Entry}
use Rattle.buddy_space.specs.SpaceState.{SpaceState, giving}
use Rattle.buddy_space.proofs.States.{giving_in}
use Rattle.flush_engine.specs.Placing.{BeginsElsewhere}

abbrev some_pair : ℕ × ℕ → Option (ℕ × ℕ)
some_pair p = Some p

abbrev some_run : ℕ → ℕ → Option (ℕ × ℕ)
some_run unit exp = Some (unit, exp)

abbrev run_parts : Option Entry → Option (ℕ × ℕ)
run_parts old = option_map (λ (e : Entry). (e.unit, e.exp)) old

some-same : (p q : ℕ × ℕ) → some_pair p ≡ some_pair q → p ≡ q
some-same p q is = cc

pub others-stay : (old : Option Entry) (s new : SpaceState) (r : Run) (unit exp : ℕ) → some_run unit exp ≡ run_parts old → new ≡ giving s (run unit exp)
    → In r s.taken → BeginsElsewhere r old → In r new.taken
others-stay None s new r unit exp is given a other = cc
others-stay (Some e) s new r unit exp is given a other =
    let both : (unit, exp) ≡ (e.unit, e.exp) = some-same (unit, exp) (e.unit, e.exp) is in
    let begins : unit ≡ e.unit = ap (λ (p : ℕ × ℕ). p.0) both in
    subst (λ (t : SpaceState). In r t.taken) (sym given)
    (giving_in s (run unit exp) r (λ same. other (sym (ap (λ (q : Run). q.unit) same) ∙ begins)) a)
