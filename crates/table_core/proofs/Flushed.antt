-- A flush leaves the table that a file and its book hold.
use Rattle.std.proofs.Common.{◌≡◌, ◌⊎◌, ⊎_elim, ℕ, List, [], Option, Result, Ok, Err, refl, ap, ◌∙◌}
use Rattle.std.specs.Prelude.{OnOk}
use Rattle.host_model.specs.Disk.{WhereTold, Changes}
use Rattle.table_model.specs.Table.{Table}
use Rattle.file_model.specs.declared.head.Head.{Head}
use Rattle.file_model.specs.declared.head.Located.{Located}
use Rattle.book_model.specs.Book.{Book}
use Rattle.book_model.specs.OfFile.{IsOf}
use Rattle.book_model.specs.Flushing.{HaveNew}
use Rattle.book_model.specs.Stopped.{dirtied}
use Rattle.flush_engine.specs.Flushed.{HasNewObjects}
use Rattle.store_model.specs.Stores.{table_with, Stores}
use Rattle.table_core.specs.Flushing.{HoldsStill}

-- the header then has the kind and the keypos that it had
same_shape : {X : Type 0} (of : Head → X) (old new : Located) (segments : ℕ) → of (dirtied old.head segments) ≡ of old.head
    → (new.head ≡ dirtied old.head segments) ⊎ (new ≡ old) → of new.head ≡ of old.head
same_shape of old new segments same either = ⊎_elim
    (λ changed. ap of changed ∙ same)
    (λ stays. ap (λ (p : Located). of p.head) stays)
    either

abbrev pub FlushLaw : Type 0
FlushLaw = (old new : List ℕ) (b after : Book) (t : Table) → Stores old b t → IsOf new after → after.cache ≡ []
    → after.place.head.kind ≡ b.place.head.kind → after.place.head.keypos ≡ b.place.head.keypos
    → HaveNew b (table_with b.place.head old) (table_with after.place.head new) → Stores new after t

holds_still : (law : FlushLaw) (b after : Book) (old new : Option (List ℕ)) → WhereTold new (λ f. IsOf f after) → after.cache ≡ []
    → after.place.head.kind ≡ b.place.head.kind → after.place.head.keypos ≡ b.place.head.keypos
    → Changes (HasNewObjects b after.place) old new → Changes (HoldsStill b after) old new
holds_still law b after old new of none kind keypos objects = record {
  told = λ f told.
      let t = objects.told f told in
      (t.0, t.1, λ table st. law f t.0 b after table st (of t.0 t.1) none kind keypos t.2);
  untold = objects.untold;
}

pub holds_on_ok : {A E : Type 0} (law : FlushLaw) (b after : Book) (old new : Option (List ℕ)) (r : Result A E)
    → OnOk r ((after.place.head ≡ dirtied b.place.head b.space.segments) ⊎ (after.place ≡ b.place)) → OnOk r (WhereTold new (λ f. IsOf f after))
    → OnOk r (after.cache ≡ []) → OnOk r (Changes (HasNewObjects b after.place) old new) → OnOk r (Changes (HoldsStill b after) old new)
holds_on_ok law b after old new (Err e) head of none objects = tt
holds_on_ok law b after old new (Ok a) head of none objects =
    holds_still law b after old new of none (same_shape (λ (h : Head). h.kind) b.place after.place b.space.segments refl head)
    (same_shape (λ (h : Head). h.keypos) b.place after.place b.space.segments refl head) objects
