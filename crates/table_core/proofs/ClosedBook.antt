-- A book is flushed and its file is closed.
use Rattle.std.proofs.Common.{◌≡◌, inr, ℕ, List, [], map, Option, Some, refl, sym, ap, ◌∙◌, subst, arith}
use Rattle.std.proofs.lemmas.Bool.{leb-true}
use Rattle.term_model.specs.TermValue.{TermValue}
use Rattle.dets_term.specs.IsTerm.{IsTerm}
use Rattle.table_model.specs.Table.{Table, objects_of}
use Rattle.space_model.specs.Apart.{SameMembers}
use Rattle.space_model.specs.Sizes.{segment_units}
use Rattle.space_model.specs.Ledger.{Standing, Ledger, flush}
use Rattle.host_model.specs.Disk.{WhereTold, Changes}
use Rattle.host_model.specs.Host.{Shown}
use Rattle.host_model.specs.Images.{LeavesImages, images_then}
use Rattle.file_model.specs.Layout.{whole_segments}
use Rattle.file_model.specs.Taken.{taken_above, objects_in}
use Rattle.book_model.specs.Book.{Book}
use Rattle.book_model.specs.OfFile.{standing_block}
use Rattle.book_model.specs.LedgerOfFile.{HasLedger}
use Rattle.flush_engine.specs.Flushed.{FlushesLedger}
use Rattle.store_model.specs.Stores.{table_with, Stores, IsBetween}
use Rattle.store_model.specs.Keeping.{Keeps}
use Rattle.table_core.specs.Flushing.{HoldsStill, IsBetweenFor}
use Rattle.table_core.specs.Closing.{closed_head, IsClosed, IsClosedWith, ClosesWith, HasKept, KeepsLedger}

-- what the law says of a book in which nothing waits
abbrev pub AloneLaw : Type 0
AloneLaw = (file : List ℕ) (b : Book) (t : Table) → Stores file b t → b.cache ≡ []
    → (k : TermValue) → IsTerm k → objects_of (table_with b.place.head file) k ≡ objects_of t k

module _ (law : AloneLaw) (after : Book) (y : List ℕ) (t : Table) (st : Stores y after t) (none : after.cache ≡ []) where
  -- an image that keeps the table of the flushed file
  pub between_kept : (f : List ℕ) (base : Table) → IsBetween f base t y → (z : List ℕ) → Keeps after.place.head y z → IsBetween f base t z
  between_kept f base between z keeps = record {
    head = keeps.head;
    read = keeps.read;
    kind = keeps.kind ∙ sym st.kind;
    keypos = keeps.keypos ∙ sym st.keypos;
    fit = keeps.fit;
    sound = λ s. keeps.sound (between.sound s);
    keys = λ k is. inr (ap (λ x. objects_of x k) keeps.table ∙ law y after t st none k is);
  }

  pub closed_with : (z : List ℕ) → IsClosed after.place.head y z → IsClosedWith t z
  closed_with z closed =
      let h = after.place.head in
      let same : table_with (closed_head h) z ≡ table_with h y =
      λ i. record { kind = h.kind; keypos = h.keypos; objects = objects_in (taken_above (closed.open_units i) []) } in
      record {
        head = closed_head h;
        read = closed.read;
        closed = refl;
        kind = sym st.kind;
        keypos = sym st.keypos;
        sound = record { head = closed_head h; read = closed.read; sound = closed.sound };
        keys = λ k is. ap (λ x. objects_of x k) same ∙ law y after t st none k is;
      }

-- the ledger of a flushed book is that of its file
pub kept_ledger : (after : Book) (l : Ledger) (y z : List ℕ) → HasLedger y after (flush l) → IsClosed after.place.head y z → HasKept (flush l) z
kept_ledger after l y z has closed =
    let h = after.place.head in
    let there = leb-true h.segments (whole_segments segment_units z) closed.whole in
    let filed = ap (λ (x : Ledger). x.filed) has.of_book in
    record {
      head = closed_head h;
      read = closed.read;
      max = sym (ap (λ (x : Ledger). x.max) has.of_book);
      segments = omega (arith, there, filed);
      standing = subst (λ (s : List Standing). SameMembers (flush l).standing s)
          (ap (λ us. map standing_block (taken_above us [])) (sym closed.open_units)) has.standing;
    }

-- ---- on the host

module _ (law : AloneLaw) (b after : Book) (old mid : Option (List ℕ)) (none : after.cache ≡ [])
    (holds : Changes (HoldsStill b after) old mid) where
  pub closes : (new : Option (List ℕ)) → Changes (IsClosed after.place.head) mid new → Changes (ClosesWith b) old new
  closes new closed = record {
    told = λ f told.
        let t = holds.told f told in
        let u = closed.told t.0 t.1 in
        (u.0, u.1, λ table st. closed_with law after t.0 table (t.2 table st) none u.0 u.2);
    untold = λ no. closed.untold (holds.untold no);
  }

  -- the flushed file, with a table that the book held
  record IsFlushedFor (t : Table) (f y : List ℕ) : Type 0 where
    stores : Stores y after t
    between : IsBetween f (table_with b.place.head f) t y

  flushed_for : (f : List ℕ) (t : Table) → old ≡ Some f → Stores f b t → Changes (IsBetweenFor b) old mid
      → Changes (IsFlushedFor t) old mid
  flushed_for f t told st file = record {
    told = λ x e.
        let same : f ≡ x = cc (told, e) in
        let own = subst (λ y. Stores y b t) same st in
        let a = holds.told x e in
        let c = file.told x e in
        let one : c.0 ≡ a.0 = cc (a.1, c.1) in
        (a.0, a.1, record { stores = a.2 t own; between = subst (λ y. IsBetween x (table_with b.place.head x) t y) one (c.2 t own) });
    untold = holds.untold;
  }

pub images_closing : (law : AloneLaw) (b after : Book) (old mid new : Shown) → after.cache ≡ [] → Changes (HoldsStill b after) old.file mid.file
    → Changes (IsBetweenFor b) old.file mid.file → mid.said ≡ old.said
    → WhereTold mid.file (λ y. LeavesImages mid new (Keeps after.place.head y))
    → (f : List ℕ) → old.file ≡ Some f → (t : Table) → Stores f b t
    → LeavesImages old mid (IsBetween f (table_with b.place.head f) t) → LeavesImages old new (IsBetween f (table_with b.place.head f) t)
images_closing law b after old mid new none holds file said later f told t st first =
    images_then (λ x z. IsBetween x (table_with b.place.head x) t z) (IsFlushedFor law b after old.file mid.file none holds t)
    (λ y z. Keeps after.place.head y z) (λ x z. IsBetween x (table_with b.place.head x) t z) old mid new f told said (λ z p. p)
    (λ y z flushed keeps. between_kept law after y t flushed.stores none f (table_with b.place.head f) flushed.between z keeps)
    (flushed_for law b after old.file mid.file none holds f t told st file) first later

pub keeps_ledger : (b after : Book) (old mid new : Option (List ℕ)) → Changes (FlushesLedger b after) old mid → Changes (IsClosed after.place.head) mid new
    → Changes (KeepsLedger b) old new
keeps_ledger b after old mid new ledger closed = record {
  told = λ f told.
      let t = ledger.told f told in
      let u = closed.told t.0 t.1 in
      (u.0, u.1, λ l has. kept_ledger after l t.0 u.0 (t.2 l has) u.2);
  untold = λ no. closed.untold (ledger.untold no);
}
