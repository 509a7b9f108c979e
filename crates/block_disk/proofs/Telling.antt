-- What a write tells of the file and of its images, where a relation holds between a file and what the write may make of it.
use Rattle.std.proofs.Common.{◌≡◌, ◌≤◌, ◌∙◌, ℕ, List, [], ◌∷◌, length, Option, option_map, ap, subst}
use Rattle.host_model.specs.Disk.{range, DiffersIn, IsImage, written_at, WhereTold, Changes}
use Rattle.host_model.specs.Host.{Shown}
use Rattle.host_model.specs.Images.{LeavesImages, images_weaker}
use Rattle.host_model.specs.Tearing.{changes_by, told_before}
use Rattle.file_model.specs.Layout.{page_size}

-- a write of so many bytes at this place may make R of a file
pub record MayMake (place n : ℕ) (R : List ℕ → List ℕ → Type 0) : Type 0 where
  pub torn : (old new : List ℕ) → page_size ≤ length old → DiffersIn (range place n ∷ []) old new → R old new

pub images_made : (at place m n : ℕ) (R : List ℕ → List ℕ → Type 0) (old new : Shown) → at ≡ place → m ≡ n → MayMake place n R
    → WhereTold old.file (λ f. page_size ≤ length f) → WhereTold old.file (λ f. LeavesImages old new (IsImage (range at m ∷ []) f))
    → WhereTold old.file (λ f. LeavesImages old new (R f))
images_made at place m n R old new same size makes page images f told =
    images_weaker (IsImage (range at m ∷ []) f) (R f) old new (λ image is.
    makes.torn f image (page f told) (subst (λ p. DiffersIn (range p n ∷ []) f image) same
    (subst (λ k. DiffersIn (range at k ∷ []) f image) size is.differs))) (images f told)

-- a change that implies another one, of a file of which something is known
pub changes_known : (K : List ℕ → Type 0) (P Q : List ℕ → List ℕ → Type 0) (old new : Option (List ℕ)) → ((x y : List ℕ) → K x → P x y → Q x y)
    → WhereTold old K → Changes P old new → Changes Q old new
changes_known K P Q old new so known c = record {
  told = λ x e. let t = c.told x e in (t.0, t.1, so x t.0 (known x e) t.2);
  untold = c.untold;
}

pub file_made : (at place m n : ℕ) (R : List ℕ → List ℕ → Type 0) (old new : Option (List ℕ)) → at ≡ place → m ≡ n → MayMake place n R
    → WhereTold old (λ f. page_size ≤ length f) → Changes (DiffersIn (range at m ∷ [])) old new → Changes R old new
file_made at place m n R old new same size makes page change =
    changes_known (λ f. page_size ≤ length f) (DiffersIn (range at m ∷ [])) R old new (λ x y long d.
    makes.torn x y long (subst (λ p. DiffersIn (range p n ∷ []) x y) same (subst (λ k. DiffersIn (range at k ∷ []) x y) size d))) page change

pub file_written : (at place : ℕ) (bytes : List ℕ) (R : List ℕ → List ℕ → Type 0) (old new : Option (List ℕ)) → at ≡ place
    → ((f : List ℕ) → page_size ≤ length f → R f (written_at place bytes f)) → WhereTold old (λ f. page_size ≤ length f)
    → new ≡ option_map (written_at at bytes) old → Changes R old new
file_written at place bytes R old new same makes page e =
    changes_by R (written_at place bytes) old new (λ x o. makes x (page x o)) (e ∙ ap (λ a. option_map (written_at a bytes) old) same)

-- what is known of a file after a change that tells it
pub known_after : (P : List ℕ → List ℕ → Type 0) (K : List ℕ → Type 0) (old new : Option (List ℕ)) → ((x y : List ℕ) → P x y → K y)
    → Changes P old new → WhereTold new K
known_after P K old new so c y told = let t = told_before P old new y c told in so t.0 y t.2
