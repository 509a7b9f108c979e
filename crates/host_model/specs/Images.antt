-- What a run of calls on a file leaves, where only the image matters. All of it is this project's own.
use Rattle.std.specs.Prelude.{◌≡◌, ◌⊎◌, ℕ, Bool, List, [], Some, IsTrue}
use Rattle.std.proofs.Common.{◌∙◌}
use Rattle.host_model.specs.Disk.{Range, IsImage, WhereTold, Changes}
use Rattle.host_model.specs.Host.{Left, Shown, IsCoherent, Settled, TearsIn, Reached, LeavesOnly}
use Rattle.host_model.specs.Leaves.{leaves_then, leaves_weaker, torn_from_settled, output_from_tears}

-- the image has this property, and the output is the one said at the start
pub record HasImage (P : List ℕ → Type 0) (start : Shown) (c : Left) : Type 0 where
  pub image : P c.image
  pub output : WhereTold start.said (λ o. c.output ≡ o)

-- A stop since the start of a run leaves only images with this property, and the output said at the start.
abbrev pub LeavesImages : Shown → Shown → (List ℕ → Type 0) → Type 0
LeavesImages old new P = LeavesOnly old new (HasImage P old)

-- a stop now leaves this image, with some output
pub record LeavesNow (h : Shown) (bytes : List ℕ) : Type 0 where
  pub output : List ℕ
  pub left : h.may_leave (record { image = bytes; output = output })

-- An image of a file in the making, after a call over a file without bytes: the call failed, or a stop after it does not
-- leave this image any more.
pub record IsInTheMaking (failed : Bool) (old new : Shown) (image : List ℕ) : Type 0 where
  pub was_empty : old.file ≡ Some []
  pub gone : IsTrue failed ⊎ (LeavesNow new image → ⊥)

-- ---- lemmas

-- Writes to some ranges from a settled host leave its file torn in them.
pub images_of_writes : (ranges : List Range) (old new : Shown) (f : List ℕ) → IsCoherent old → Settled old → old.file ≡ Some f
    → LeavesOnly old new (Reached (TearsIn ranges) old.may_leave) → LeavesImages old new (IsImage ranges f)
images_of_writes ranges old new f coherent settled told leaves =
    leaves_weaker old new (Reached (TearsIn ranges) old.may_leave) (HasImage (IsImage ranges f) old) (λ c r. record {
      image = torn_from_settled ranges old f c settled told r;
      output = λ o e. output_from_tears ranges old o c coherent e r;
    }) leaves

-- a run that leaves only images with P leaves only those with Q, where P implies Q
pub images_weaker : (P Q : List ℕ → Type 0) (old new : Shown) → ((image : List ℕ) → P image → Q image) → LeavesImages old new P
    → LeavesImages old new Q
images_weaker P Q old new so leaves =
    leaves_weaker old new (HasImage P old) (HasImage Q old) (λ c p. record { image = so c.image p.image; output = p.output }) leaves

-- Two runs, one after the other. Each image of the first has R of the file at the start, and so has each image of the
-- second, by what the first made of that file.
pub images_then : (Some1 All1 Some2 R : List ℕ → List ℕ → Type 0) (old mid new : Shown) (x : List ℕ) → old.file ≡ Some x → mid.said ≡ old.said
    → ((z : List ℕ) → Some1 x z → R x z) → ((y z : List ℕ) → All1 x y → Some2 y z → R x z)
    → Changes All1 old.file mid.file → LeavesImages old mid (Some1 x) → WhereTold mid.file (λ y. LeavesImages mid new (Some2 y))
    → LeavesImages old new (R x)
images_then Some1 All1 Some2 R old mid new x told said first next all leaves later =
    let t = all.told x told in
    leaves_then old mid new (HasImage (R x) old) (images_weaker (Some1 x) (R x) old mid first leaves)
    (leaves_weaker mid new (HasImage (Some2 t.0) mid) (HasImage (R x) old)
    (λ c p. record { image = next t.0 c.image t.2 p.image; output = λ o e. p.output o (said ∙ e) }) (later t.0 t.1))
