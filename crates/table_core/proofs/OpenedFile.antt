-- A file that was loaded is opened as the definition says.
use Rattle.std.proofs.Common.{◌≡◌, ◌∙◌, ℕ, List, [], ◌∷◌, map, length, Result, Ok, Err, refl, sym, ap, subst}
use Rattle.std.specs.Prelude.{IfOk}
use Rattle.host_model.specs.Host.{Shown, Rests}
use Rattle.host_model.specs.Leaves.{leaves_then, leaves_weaker, leaves_by_rest}
use Rattle.host_model.specs.Images.{HasImage, LeavesImages, images_weaker}
use Rattle.file_model.specs.declared.head.Head.{Head}
use Rattle.file_model.specs.Header.{head_of}
use Rattle.file_model.specs.Taken.{objects_in}
use Rattle.space_model.specs.Ledger.{opened}
use Rattle.write_cache.specs.Waiting.{ledger_of as pending_of}
use Rattle.run_model.specs.declared.options.OpenOptions.{OpenOptions}
use Rattle.run_model.specs.State.{kept, kept_in, file_with, file_of}
use Rattle.book_model.specs.Book.{Book}
use Rattle.book_model.specs.OfFile.{standing_block}
use Rattle.store_model.specs.Keeping.{Keeps}
use Rattle.table_core.specs.Answering.{kept_at_opening, IsOpenedTo, image_by, IsOpening}
use Rattle.table_core.specs.Repairing.{IsLoaded}

pub both_ok : {A E : Type 0} (P Q R : A → Type 0) (r : Result A E) → ((a : A) → P a → Q a → R a) → IfOk r P → IfOk r Q → IfOk r R
both_ok P Q R (Ok a) so p q = so a p q
both_ok P Q R (Err e) so p q = tt

-- ---- the state of a file that is read

pub kept_read : (f : List ℕ) (h : Head) → (length f ≡ 0 → ⊥) → head_of f ≡ Ok h → file_of f ≡ kept (kept_in h f)
unfolding file_of
kept_read [] h some read = absurd (some refl)
kept_read (b ∷ bs) h some read = ap (file_with (b ∷ bs)) read

pub opened_file : (options : OpenOptions) (h : Head) (f g : List ℕ) (b : Book) → (length f ≡ 0 → ⊥) → head_of f ≡ Ok h → IsLoaded h b f g → b.cache ≡ []
    → IsOpenedTo options b f g
opened_file options h f g b some read loaded waits =
    let file = kept_read f h some read in
    let ready = loaded.ready in record {
      of_file = loaded.of_file;
      table =
          (λ i. record { kind = ready.kind i; keypos = ready.keypos i; objects = objects_in (ready.blocks i) })
          ∙ sym (ap (λ x. (kept_at_opening options x).table) file);
      ledger =
          (λ i. record {
            max = ready.most i;
            filed = ready.counted i;
            segments = (loaded.segments ∙ ready.counted) i;
            standing = map standing_block (ready.blocks i);
            pending = pending_of (waits i);
          })
          ∙ sym (ap (λ x. opened (kept_at_opening options x).max_segments (kept_at_opening options x).segments
          (kept_at_opening options x).standing) file);
    }

-- ---- its images

opening_kept : (f : List ℕ) (h : Head) (image : List ℕ) → (length f ≡ 0 → ⊥) → head_of f ≡ Ok h → Keeps h f image → IsOpening f image
opening_kept [] h image some read keeps = absurd (some refl)
opening_kept (b ∷ bs) h image some read keeps = subst (λ r. image_by (b ∷ bs) r image) (sym read) keeps

-- a call that only reads, and then images with this property
pub images_behind_rest : (P : List ℕ → Type 0) (old mid new : Shown) → Rests old mid → LeavesImages mid new P → LeavesImages old new P
images_behind_rest P old mid new rests leaves =
    leaves_then old mid new (HasImage P old) (leaves_by_rest old mid (HasImage P old) rests)
    (leaves_weaker mid new (HasImage P mid) (HasImage P old)
    (λ c p. record { image = p.image; output = λ o e. p.output o (rests.said ∙ e) }) leaves)

pub images_opening : (f : List ℕ) (h : Head) (old mid new : Shown) → (length f ≡ 0 → ⊥) → head_of f ≡ Ok h → Rests old mid
    → LeavesImages mid new (Keeps h f) → LeavesImages old new (IsOpening f)
images_opening f h old mid new some read rests leaves =
    images_behind_rest (IsOpening f) old mid new rests
    (images_weaker (Keeps h f) (IsOpening f) mid new (λ image k. opening_kept f h image some read k) leaves)
