-- The pairs of a map as keys with their states.
use Rattle.std.proofs.Common.{◌≡◌, ℕ, suc, Bool, true, false, cond, List, [], ◌∷◌, length, map, Some, refl, ap, ◌∙◌}
use Rattle.std.specs.Prelude.{bytes_eq, slice_get, option_map}
use Rattle.std.specs.List.{IsDistinct, AllByRecursion}
use Rattle.std.specs.Map.{keys_of as map_keys, lookup}
use Rattle.std.proofs.lemmas.Option.{slice_get-map}
use Rattle.indexmap.specs.IndexMap.{insert_entry}
use Rattle.write_cache.specs.declared.pending.Pending.{Pending}
use Rattle.write_cache.specs.Waiting.{Waiting, keys_of, states_of, state_of, with_state, HasDistinctKeys, seen}
use Rattle.write_cache.proofs.Keys.{flips}

module _ {K : Type 0} (bytes : K → List ℕ) where
  -- the equality of the map's keys
  abbrev pub is_same : K → K → Bool
  is_same k x = bytes_eq (bytes k) (bytes x)

  pub state_of-seen : (es : List (K × Pending)) (key : List ℕ) → state_of (seen es bytes) key ≡ lookup (λ k. bytes_eq key (bytes k)) es
  state_of-seen [] key = refl
  state_of-seen (e ∷ es) key =
      ap (λ b. cond b (Some e.1) (state_of (seen es bytes) key)) (flips (bytes e.0) key)
      ∙ ap (λ o. cond (bytes_eq key (bytes e.0)) (Some e.1) o) (state_of-seen es key)

  put_first : (b : Bool) (e : K × Pending) (es rest : List (K × Pending)) (v : Pending)
      → seen (cond b ((e.0, v) ∷ es) (e ∷ rest)) bytes ≡ cond b ((bytes e.0, v) ∷ seen es bytes) ((bytes e.0, e.1) ∷ seen rest bytes)
  put_first true e es rest v = refl
  put_first false e es rest v = refl

  pub seen-insert_entry : (es : List (K × Pending)) (k : K) (v : Pending) → seen (insert_entry is_same es k v) bytes ≡ with_state (seen es bytes) (bytes k) v
  seen-insert_entry [] k v = refl
  seen-insert_entry (e ∷ es) k v =
      put_first (is_same k e.0) e es (insert_entry is_same es k v) v
      ∙ ap (λ b. cond b ((bytes e.0, v) ∷ seen es bytes) ((bytes e.0, e.1) ∷ seen (insert_entry is_same es k v) bytes)) (flips (bytes k) (bytes e.0))
      ∙ ap (λ (rest : Waiting). cond (bytes_eq (bytes e.0) (bytes k)) ((bytes e.0, v) ∷ seen es bytes) ((bytes e.0, e.1) ∷ rest)) (seen-insert_entry es k v)

  pub states_of-seen : (es : List (K × Pending)) → states_of (seen es bytes) ≡ map (λ (e : K × Pending). e.1) es
  states_of-seen [] = refl
  states_of-seen (e ∷ es) = ap (λ (ss : List Pending). e.1 ∷ ss) (states_of-seen es)

  pub state_at-seen : (es : List (K × Pending)) (i : ℕ) → slice_get (states_of (seen es bytes)) i ≡ option_map (λ (e : K × Pending). e.1) (slice_get es i)
  state_at-seen es i = ap (λ (ss : List Pending). slice_get ss i) (states_of-seen es) ∙ slice_get-map (λ (e : K × Pending). e.1) es i

  pub length-seen : (es : List (K × Pending)) → length (seen es bytes) ≡ length es
  length-seen [] = refl
  length-seen (e ∷ es) = ap suc (length-seen es)

  apart_seen : (x : K) (es : List (K × Pending)) → AllByRecursion (λ y. is_same x y ≡ false) (map_keys es)
      → AllByRecursion (λ y. bytes_eq (bytes x) y ≡ false) (keys_of (seen es bytes))
  apart_seen x [] apart = tt
  apart_seen x (e ∷ es) apart = (apart.0, apart_seen x es apart.1)

  pub distinct_seen : (es : List (K × Pending)) → IsDistinct is_same (map_keys es) → HasDistinctKeys (seen es bytes)
  unfolding IsDistinct
  distinct_seen [] apart = tt
  distinct_seen (e ∷ es) apart = (apart_seen e.0 es apart.0, distinct_seen es apart.1)
