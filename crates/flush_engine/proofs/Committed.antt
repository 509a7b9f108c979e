-- What the two parts of a flush, one after the other, leave of the file of a book.
use Rattle.std.proofs.Common.{◌≡◌, ℕ, List, Option, Some, None, option_map, refl, ap, ◌∙◌, subst}
use Rattle.host_model.specs.Disk.{WhereTold, Changes}
use Rattle.host_model.specs.Host.{Shown}
use Rattle.host_model.specs.Images.{LeavesImages, images_weaker, images_then}
use Rattle.space_model.specs.Sizes.{segment_units}
use Rattle.file_model.specs.declared.head.Head.{Head}
use Rattle.file_model.specs.declared.head.Located.{Located}
use Rattle.file_model.specs.Flush.{news, without_olds}
use Rattle.file_model.specs.GateWrites.{AreWhole}
use Rattle.book_model.specs.Book.{Book}
use Rattle.book_model.specs.OfFile.{IsOf, placed_at}
use Rattle.book_model.specs.LedgerOfFile.{all_filed}
use Rattle.book_model.specs.Flushing.{bodies_of, old_units}
use Rattle.book_model.specs.Stopped.{IsPreparing, IsPrepared, IsWriting, IsStopped}
use Rattle.flush_engine.specs.Below.{IsReady, StopLaws}
use Rattle.flush_engine.specs.Flushed.{IsWritten}

-- ---- one change of a file, and two

pub changes_at : (P R : List ℕ → List ℕ → Type 0) (old new : Option (List ℕ)) → ((x z : List ℕ) → old ≡ Some x → P x z → R x z)
    → Changes P old new → Changes R old new
changes_at P R old new so c = record {
  told = λ x e. let t = c.told x e in (t.0, t.1, so x t.0 e t.2);
  untold = c.untold;
}

pub changes_behind : (P Q R : List ℕ → List ℕ → Type 0) (old mid new : Option (List ℕ))
    → ((x y z : List ℕ) → old ≡ Some x → P x y → Q y z → R x z) → Changes P old mid → Changes Q mid new → Changes R old new
changes_behind P Q R old mid new so p q = record {
  told = λ x e. let s = p.told x e in let t = q.told s.0 s.1 in (t.0, t.1, so x s.0 t.0 e s.2 t.2);
  untold = λ e. q.untold (p.untold e);
}

pub changes_made : (P R : List ℕ → List ℕ → Type 0) (make : List ℕ → List ℕ) (old mid new : Option (List ℕ))
    → ((x y : List ℕ) → old ≡ Some x → P x y → R x (make y)) → Changes P old mid → new ≡ option_map make mid → Changes R old new
changes_made P R make old mid new so p is = record {
  told = λ x e. let s = p.told x e in (make s.0, is ∙ ap (option_map make) s.1, so x s.0 e s.2);
  untold = λ e. is ∙ ap (option_map make) (p.untold e);
}

-- what is known of a file after a change
pub known_at : (P : List ℕ → List ℕ → Type 0) (R : List ℕ → Type 0) (old mid : Option (List ℕ)) → ((x y : List ℕ) → old ≡ Some x → P x y → R y)
    → Changes P old mid → WhereTold mid R
known_at P R None mid so c = λ y is. absurd (cc (c.untold refl, is))
known_at P R (Some x) mid so c = λ y is.
    let t = c.told x refl in
    let same : t.0 ≡ y = cc (t.1, is) in
    subst R same (so x t.0 refl t.2)

-- ---- the two parts

module _ (laws : StopLaws) (b : Book) (place : Located) (segments : ℕ) (all : segments ≡ b.space.segments) where
  abbrev Prepared : List ℕ → List ℕ → Type 0
  Prepared = IsPrepared b.place.head segments place

  abbrev Preparing : List ℕ → List ℕ → Type 0
  Preparing = IsPreparing b.place.head segments

  abbrev Writing : List ℕ → List ℕ → Type 0
  Writing = IsWriting segment_units (bodies_of b.cache) (old_units b.cache)

  is_prepared : (x y : List ℕ) → Prepared x y → IsPrepared b.place.head b.space.segments place x y
  is_prepared x y p = subst (λ n. IsPrepared b.place.head n place x y) all p

  stops_preparing : (x z : List ℕ) → IsOf x b → Preparing x z → IsStopped b x z
  stops_preparing x z of p = laws.preparing x z b of (subst (λ n. IsPreparing b.place.head n x z) all p)

  ready : (x y : List ℕ) → IsOf x b → Prepared x y → IsReady y (placed_at b place)
  ready x y of p = record {
    of_file = laws.prepared x y b place of (is_prepared x y p);
    segments = ap (λ (h : Head). h.segments) p.head ∙ all;
    dirty = ap (λ (h : Head). h.state) p.head;
  }

  stops_writing : (x y z : List ℕ) → IsOf x b → Prepared x y → Writing y z → IsStopped b x z
  stops_writing x y z of p w = laws.stopped_behind x y z b place of (is_prepared x y p) (laws.writing y z (placed_at b place) (ready x y of p) w)

  all_written : (x y : List ℕ) → IsOf x b → Prepared x y
      → IsWritten b place x (without_olds segment_units (bodies_of b.cache) (old_units b.cache) y)
  all_written x y of p =
      let able = ready x y of p in
      record {
        of_file = laws.of_flushed y (placed_at b place) able;
        objects = laws.new_behind x y _ b place of (is_prepared x y p) (laws.new y (placed_at b place) able);
        ledger = λ l has. laws.ledger_flushed y (placed_at b place) (all_filed l) able
            (laws.ledger_prepared x y b place l of (is_prepared x y p) has);
      }

  module _ (old mid : Option (List ℕ)) (of : WhereTold old (λ x. IsOf x b)) where
    pub news_whole : Changes Prepared old mid → WhereTold mid (AreWhole segment_units (news (bodies_of b.cache)))
    news_whole c = known_at Prepared (AreWhole segment_units (news (bodies_of b.cache))) old mid
        (λ x y e p. laws.new_whole y (placed_at b place) (ready x y (of x e) p)) c

    pub olds_whole : Changes Prepared old mid → WhereTold mid (AreWhole segment_units (old_units b.cache))
    olds_whole c = known_at Prepared (AreWhole segment_units (old_units b.cache)) old mid
        (λ x y e p. laws.old_whole y (placed_at b place) (ready x y (of x e) p)) c

    pub stopped_at : Changes Preparing old mid → Changes (IsStopped b) old mid
    stopped_at c = changes_at Preparing (IsStopped b) old mid (λ x z e p. stops_preparing x z (of x e) p) c

    pub stopped_behind : (new : Option (List ℕ)) → Changes Prepared old mid → Changes Writing mid new → Changes (IsStopped b) old new
    stopped_behind new p w = changes_behind Prepared Writing (IsStopped b) old mid new (λ x y z e q v. stops_writing x y z (of x e) q v) p w

    pub written_behind : (new : Option (List ℕ)) → Changes Prepared old mid
        → new ≡ option_map (without_olds segment_units (bodies_of b.cache) (old_units b.cache)) mid → Changes (IsWritten b place) old new
    written_behind new p is = changes_made Prepared (IsWritten b place) (without_olds segment_units (bodies_of b.cache) (old_units b.cache)) old mid new
        (λ x y e q. all_written x y (of x e) q) p is

  pub images_prepared : (old new : Shown) (x : List ℕ) → IsOf x b → LeavesImages old new (Preparing x) → LeavesImages old new (IsStopped b x)
  images_prepared old new x of leaves = images_weaker (Preparing x) (IsStopped b x) old new (λ z p. stops_preparing x z of p) leaves

  pub images_written : (old mid new : Shown) (x : List ℕ) → old.file ≡ Some x → mid.said ≡ old.said → IsOf x b → Changes Prepared old.file mid.file
      → LeavesImages old mid (Preparing x) → WhereTold mid.file (λ y. LeavesImages mid new (Writing y)) → LeavesImages old new (IsStopped b x)
  images_written old mid new x told said of all leaves later =
      images_then Preparing Prepared Writing (IsStopped b) old mid new x told said (λ z p. stops_preparing x z of p)
      (λ y z p w. stops_writing x y z of p w) all leaves later
