-- Laws of histories, by the number of commands and of places.
use Rattle.std.proofs.Common.{◌≡◌, ◌≤◌, ◌<◌, ℕ, zero, suc, Bool, true, false, cond, List, [], ◌∷◌, map, Option, Some, None, ◌⊎◌, inl, inr, refl, ap, subst, arith}
use Rattle.std.proofs.lemmas.Bool.{cases_lt}
use Rattle.std.specs.Option.{option_map_or}
use Rattle.term_model.specs.TermValue.{TermValue}
use Rattle.run_model.specs.State.{State}
use Rattle.run_model.specs.Step.{step}
use Rattle.run_model.specs.History.{answers, moment_of, moments, History, history_from, replies, is_synced_at, last_sync}
use Rattle.run_model.specs.Stays.{IsLastSync}

answered : (s : State) (command : TermValue) (commands : List TermValue) (served : Option (TermValue × State))
    → ((t : State) → answers step t commands ≡ map (λ m. m.reply) (moments t commands))
    → option_map_or (λ (a : TermValue × State). a.0 ∷ answers step a.1 commands) served []
    ≡ map (λ m. m.reply) (option_map_or (λ (a : TermValue × State). moment_of s command a ∷ moments a.1 commands) served [])
answered s command commands None rest = refl
answered s command commands (Some a) rest = ap (λ others. a.0 ∷ others) (rest a.1)

pub answers_are_replies : (s : State) (commands : List TermValue) → answers step s commands ≡ replies (history_from s commands)
answers_are_replies s [] = refl
answers_are_replies s (command ∷ commands) = answered s command commands (step s command) (λ t. answers_are_replies t commands)

at_or_before : (h : History) (place j : ℕ) → is_synced_at h (suc place) ≡ false → (j ≤ place → is_synced_at h j ≡ false) → j ≤ suc place
    → (place < j) ⊎ (j ≤ place) → is_synced_at h j ≡ false
at_or_before h place j e below l (inl m) =
    let same : suc place ≡ j = omega (arith, l, m) in subst (λ k. is_synced_at h k ≡ false) same e
at_or_before h place j e below l (inr m) = below m

last_by : (h : History) (place : ℕ) (synced : Bool) → is_synced_at h (suc place) ≡ synced → IsLastSync h place (last_sync h place)
    → IsLastSync h (suc place) (cond synced (suc place) (last_sync h place))
last_by h place true e before =
    record { at_most = omega arith; synced = e; none_behind = λ j l m. absurd (omega (arith, l, m)) }
last_by h place false e before = record {
  at_most = omega (arith, before.at_most);
  synced = before.synced;
  none_behind = λ j l m. at_or_before h place j e (before.none_behind j l) m (cases_lt place j);
}

pub is_last : (h : History) (place : ℕ) → IsLastSync h place (last_sync h place)
is_last h zero = record { at_most = omega arith; synced = refl; none_behind = λ j l m. absurd (omega (arith, l, m)) }
is_last h (suc place) = last_by h place (is_synced_at h (suc place)) refl (is_last h place)
