-- A file that is told.
use Rattle.std.proofs.Common.{◌≡◌, ◌∙◌, ℕ, List, Option, Some, None, option_map, refl, sym, subst}
use Rattle.std.proofs.lemmas.Option.{same_Some}
use Rattle.host_model.specs.Disk.{WhereTold, Changes}

-- what holds of the new file, made of the old one
pub told_of : (make : List ℕ → List ℕ) (P Q : List ℕ → Type 0) (old new : Option (List ℕ)) → new ≡ option_map make old → WhereTold old P
    → ((f : List ℕ) → P f → Q (make f)) → WhereTold new Q
told_of make P Q None new e p so x told = absurd (cc (e, told))
told_of make P Q (Some f) new e p so x told = subst Q (same_Some _ _ (sym e ∙ told)) (so f (p f refl))

-- a change, with what is known of the two files
pub changes_told : (P Q : List ℕ → List ℕ → Type 0) (old new : Option (List ℕ))
    → ((x : List ℕ) → old ≡ Some x → (y : List ℕ) → new ≡ Some y → P x y → Q x y) → Changes P old new → Changes Q old new
changes_told P Q old new so c = record {
  told = λ x e. let t = c.told x e in (t.0, t.1, so x e t.0 t.1 t.2);
  untold = c.untold;
}
