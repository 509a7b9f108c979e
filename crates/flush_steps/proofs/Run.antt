-- The two parts of a preparation: segments are added, and the header is changed.
use Rattle.std.proofs.Common.{◌≡◌, ℕ, Ok}
use Rattle.space_model.specs.Sizes.{segment_units}
use Rattle.host_model.specs.Disk.{DiffersIn, Changes, WhereTold}
use Rattle.host_model.specs.Host.{Shown}
use Rattle.host_model.specs.Images.{LeavesImages, images_weaker, images_then}
use Rattle.host_model.specs.Tearing.{told_before, changes_then}
use Rattle.file_model.specs.declared.head.Located.{Located}
use Rattle.file_model.specs.Header.{located}
use Rattle.block_disk.specs.Copies.{HasEither}
use Rattle.book_model.specs.Stopped.{dirtied, AreShut, IsPreparing, IsPrepared}
use Rattle.flush_steps.specs.Added.{added}
use Rattle.flush_steps.proofs.Told.{changes_told}
use Rattle.flush_steps.proofs.Ready.{IsAtStart, HeadByPage, found_again, preparing_grown, keeps_segments, IsGrown, shut_then, keeps_then, preparing_then}

module _ (place : Located) (to : ℕ) (law : HeadByPage) (old mid : Shown) (start : WhereTold old.file (IsAtStart place))
    (file : Changes (DiffersIn (added segment_units place.head.segments to)) old.file mid.file) where
  -- while segments are added
  pub file_grown : Changes (IsPreparing place.head to) old.file mid.file
  file_grown =
      changes_told (DiffersIn (added segment_units place.head.segments to)) (IsPreparing place.head to) old.file mid.file
      (λ x e y o d. preparing_grown place to x y law (start x e) d) file

  pub images_grown : WhereTold old.file (λ f. LeavesImages old mid (DiffersIn (added segment_units place.head.segments to) f))
      → WhereTold old.file (λ f. LeavesImages old mid (IsPreparing place.head to f))
  images_grown images f told =
      images_weaker (DiffersIn (added segment_units place.head.segments to) f) (IsPreparing place.head to f) old mid
      (λ z d. preparing_grown place to f z law (start f told) d) (images f told)

  -- the header is where it was
  pub found_grown : WhereTold mid.file (λ y. located y ≡ Ok place)
  found_grown y told =
      let b = told_before (DiffersIn (added segment_units place.head.segments to)) old.file mid.file y file told in
      found_again place to b.0 y law (start b.0 b.1) b.2

  module _ (shut : WhereTold mid.file (AreShut segment_units place.head.segments to)) where
    grown : Changes (IsGrown place to) old.file mid.file
    grown =
        changes_told (DiffersIn (added segment_units place.head.segments to)) (IsGrown place to) old.file mid.file
        (λ x e y o d. record { keeps = keeps_segments place to x y law (start x e) d; shut = shut y o }) file

    module _ (new : Shown) (either : Changes (HasEither place.head (dirtied place.head to)) mid.file new.file) where
      -- while the header is changed then
      pub file_then : Changes (IsPreparing place.head to) old.file new.file
      file_then =
          changes_then (IsGrown place to) (HasEither place.head (dirtied place.head to)) (IsPreparing place.head to) old.file mid.file new.file
          (preparing_then place to) grown either

      pub images_both : mid.said ≡ old.said → WhereTold old.file (λ f. LeavesImages old mid (DiffersIn (added segment_units place.head.segments to) f))
          → WhereTold mid.file (λ y. LeavesImages mid new (HasEither place.head (dirtied place.head to) y))
          → WhereTold old.file (λ f. LeavesImages old new (IsPreparing place.head to f))
      images_both said first later f told =
          images_then (IsPreparing place.head to) (IsGrown place to) (HasEither place.head (dirtied place.head to)) (IsPreparing place.head to)
          old mid new f told said (λ z p. p) (preparing_then place to f) grown (images_grown first f told) later

      -- and at the end
      pub prepared_then : (now : Located) → WhereTold new.file (λ z. located z ≡ Ok now) → now.head ≡ dirtied place.head to
          → Changes (IsPrepared place.head to now) old.file new.file
      prepared_then now found head = record {
        told = λ x e.
            let s = grown.told x e in
            let t = either.told s.0 s.1 in (
              t.0,
              t.1,
              record {
                place_is = found t.0 t.1;
                head = head;
                keeps = keeps_then place to x s.0 t.0 s.2 t.2;
                shut = shut_then place to x s.0 t.0 s.2 t.2;
              },
            );
        untold = λ e. either.untold (grown.untold e);
      }
