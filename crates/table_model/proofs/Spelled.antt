-- Lemmas: keys in the bytes of a file.
use Rattle.std.proofs.Common.{◌≡◌, ℕ, List, [], refl, subst}
use Rattle.term_model.specs.TermValue.{TermValue}
use Rattle.term_model.specs.IsTerm.{IsTerm}
use Rattle.etf_model.specs.Spelling.{Spells, spelling}
use Rattle.etf_model.specs.SpellingExact.{spelling-exact}
use Rattle.etf_model.specs.Beginnings.{same_whole}
use Rattle.etf_model.proofs.CanonicalSpells.{canonical_spells}
use Rattle.etf_model.specs.Canonical.{spelled}

-- terms that are spelled alike are equal
pub equal_from_spelled : (j k : TermValue) → IsTerm j → IsTerm k → spelled j ≡ spelled k → j ≡ k
equal_from_spelled j k is_j is_k e =
    (same_whole spelling spelling-exact j k (spelled k) [] (spelled k) []
    (subst (λ (bytes : List ℕ). Spells j bytes) e (canonical_spells j is_j)) (canonical_spells k is_k) refl).0
