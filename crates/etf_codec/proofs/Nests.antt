-- Begun terms, innermost last.
use Rattle.std.proofs.Common.{◌≡◌, ℕ, ◌+◌, ◌-◌, ◌≤◌, List, [], ◌∷◌, ◌++◌, length, ap, sym, ◌∙◌, subst, arith}
use Rattle.std.specs.Prelude.{◌≢◌, reverse, Option, Result, Ok, Err, ◌⊎◌}
use Rattle.std.specs.Result.{IsErrAnd}
use mathlib.Core.Logic.{inl, inr}
use Rattle.std.proofs.lemmas.List.{reverse-append, length-append, length-reverse}
use Rattle.dets_term.specs.TermValue.{TermValue, depth}
use Rattle.etf_model.specs.declared.fault.EtfFault.{EtfFault}
use Rattle.etf_model.specs.declared.fault.EtfFault.TheVariants.{Short, Memory, RepeatedKey}
use Rattle.etf_model.specs.Format.{Position}
use Rattle.etf_codec.specs.declared.joining.Joined.TheVariants.{Whole, Open}
use Rattle.etf_codec.specs.Joins.{JoinsTo, JoinsWithin}
use Rattle.etf_codec.specs.declared.frame.Begun.{Begun}
use Rattle.etf_codec.specs.declared.frame.Frame.{Frame}
use Rattle.etf_codec.specs.Machine.{levels_below, resume, reading_at}
use Rattle.etf_codec.specs.Begun.{FrameFits, PartFits, MayBegin, AreBegun, MayCome}
use Rattle.etf_codec.specs.TermReader.{IsNest, Completes}

pub reverse-push : (bs : List Begun) (b : Begun) → reverse (bs ++ b ∷ []) ≡ b ∷ reverse bs
reverse-push bs b = reverse-append bs (b ∷ [])

-- the innermost one, and those around it
pub innermost_fits : (b : Begun) (bs : List Begun) → AreBegun (b ∷ bs) → FrameFits b.frame (levels_below (b ∷ bs))
innermost_fits b [] h = h
innermost_fits b (c ∷ bs) h = h.0

pub around : (b : Begun) (bs : List Begun) → AreBegun (b ∷ bs) → AreBegun bs
around b [] h = tt
around b (c ∷ bs) h = h.2

-- another one in the place of the innermost
pub in_place : (b c : Begun) (bs : List Begun) → AreBegun (b ∷ bs) → FrameFits c.frame (levels_below (b ∷ bs))
    → ((outer : Frame) → MayBegin outer b.frame → MayBegin outer c.frame) → AreBegun (c ∷ bs)
in_place b c [] h fits may = fits
in_place b c (d ∷ bs) h fits may = (fits, may d.frame h.1, h.2)

-- a whole term may come where it was begun
pub whole_comes : (b : Begun) (bs : List Begun) (t : TermValue) → length (b ∷ bs) ≤ 255 → AreBegun (b ∷ bs) → depth t ≤ levels_below (b ∷ bs) + 1
    → ((outer : Frame) → MayBegin outer b.frame → PartFits outer (levels_below (b ∷ bs) + 1) t) → MayCome bs t
whole_comes b [] t l h d fits = omega (arith, d)
whole_comes b (c ∷ bs) t l h d fits =
    subst (λ n. PartFits c.frame n t) (let e : 256 - length (b ∷ c ∷ bs) + 1 ≡ 256 - length (c ∷ bs) = omega (arith, l) in e) (fits c.frame h.1)

-- ---- a part of the innermost one

module _ (old bs : List Begun) (b : Begun) (e : old ≡ bs ++ b ∷ []) where
  turned : reverse old ≡ b ∷ reverse bs
  turned = ap reverse e ∙ reverse-push bs b

  nest_is : IsNest old → AreBegun (b ∷ reverse bs)
  nest_is nest = subst AreBegun turned nest.1

  fewer : IsNest old → length bs + 1 ≤ 255
  fewer nest = omega (arith, ap length e, length-append bs (b ∷ []), nest.0)

  few : IsNest old → length (b ∷ reverse bs) ≤ 255
  few nest = omega (arith, fewer nest, length-reverse bs)

  module _ (nest : IsNest old) (t : TermValue) (comes : MayCome (reverse old) t) where
    pub frame_255 : FrameFits b.frame (levels_below (b ∷ reverse bs))
    frame_255 = innermost_fits b (reverse bs) (nest_is nest)

    pub part_255 : PartFits b.frame (levels_below (b ∷ reverse bs)) t
    part_255 = subst (λ begun. MayCome begun t) turned comes

    pub whole_step : (start at : ℕ) (whole : TermValue) → JoinsTo b start t (Ok (Whole at whole))
        → ((levels : ℕ) → levels ≤ 255 → FrameFits b.frame levels → PartFits b.frame levels t → JoinsWithin b levels (Ok (Whole at whole)))
        → IsNest bs × MayCome (reverse bs) whole × ((position : Position) → resume (reverse old) start t position ≡ resume (reverse bs) at whole position)
    whole_step start at whole joins within =
        let fits = within (levels_below (b ∷ reverse bs)) (omega arith) frame_255 part_255 in (
          (omega (arith, fewer nest), around b (reverse bs) (nest_is nest)),
          whole_comes b (reverse bs) whole (few nest) (nest_is nest) fits.0 fits.1,
          λ position. ap (λ begun. resume begun start t position) turned ∙ joins (reverse bs) position,
        )

    pub open_step : (start : ℕ) (c : Begun) (new : List Begun) → reverse new ≡ c ∷ reverse bs → JoinsTo b start t (Ok (Open c))
        → ((levels : ℕ) → levels ≤ 255 → FrameFits b.frame levels → PartFits b.frame levels t → JoinsWithin b levels (Ok (Open c)))
        → IsNest new × ((position : Position) → resume (reverse old) start t position ≡ reading_at (reverse new) position)
    open_step start c new n joins within =
        let fits = within (levels_below (b ∷ reverse bs)) (omega arith) frame_255 part_255 in (
          (omega (arith, few nest, ap length n, length-reverse new), subst AreBegun (sym n) (in_place b c (reverse bs) (nest_is nest) fits.0 fits.1)),
          λ position. ap (λ begun. resume begun start t position) turned ∙ joins (reverse bs) position ∙ ap (λ begun. reading_at begun position) (sym n),
        )

    pub fault_step : (start : ℕ) (fault : EtfFault) → JoinsTo b start t (Err fault)
        → (fault ≡ Memory) ⊎ ((fault ≢ Short) × ((position : Position) → resume (reverse old) start t position ≡ Err fault))
    fault_step start fault (inl h) = inl h
    fault_step start fault (inr h) = inr (
      λ e. let clash : RepeatedKey start ≡ Short = sym h.0 ∙ e in cc,
      λ position. ap (λ begun. resume begun start t position) turned ∙ h.1 (reverse bs) position,
    )

-- what came first was the same
pub completes_from : (old mid new : List Begun) (start at : ℕ) (t u : TermValue) (answer : Result (Option TermValue) EtfFault) (fault : EtfFault)
    → IsErrAnd answer (λ y. y ≡ fault) → ((position : Position) → resume (reverse old) start t position ≡ resume (reverse mid) at u position)
    → (fault ≡ Memory) ⊎ ((fault ≢ Short) × ((position : Position) → resume (reverse mid) at u position ≡ Err fault)) → Completes old new start t answer
completes_from old mid new start at t u (Ok x) fault h same e = absurd h
completes_from old mid new start at t u (Err y) fault h same (inl e) = inl (h ∙ e)
completes_from old mid new start at t u (Err y) fault h same (inr e) =
    inr (λ short. e.0 (sym h ∙ short), λ position. same position ∙ e.1 position ∙ ap Err (sym h))
