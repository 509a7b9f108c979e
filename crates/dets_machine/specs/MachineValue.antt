-- What a machine shows of itself.
use Rattle.std.specs.Prelude.{Bool, List, refl}
use Rattle.std.specs.Coded.{Coded, code_by, coded×, coded_bool}
use Rattle.dets_term.specs.TermValue.{TermValue}
use Rattle.dets_term.specs.declared.Kind.TheVariants.{Set}
use Rattle.run_model.specs.InMemory.{State, coded_state}

pub record MachineValue : Type 0 where
  pub state : State
  -- a command found no memory, and no more is served
  pub starved : Bool

-- so far each table is a set whose key stands in front
abbrev pub machine_value : List TermValue → Bool → Bool → MachineValue
machine_value objects is_open starved =
    record { state = record { table = record { kind = Set; keypos = 1; objects = objects }; is_open = is_open }; starved = starved }

abbrev pub coded_machine : Coded MachineValue
coded_machine = code_by (State × Bool) (coded× coded_state coded_bool) (λ v. (v.state, v.starved)) (λ p. record { state = p.0; starved = p.1 }) (λ _. refl)
