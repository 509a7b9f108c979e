use Rattle.std.proofs.Common.{true, false, ◌≡◌, ◌<◌, length, ap, ◌∙◌, sym, subst, arith, List, ℕ, [], ◌∷◌, refl}
use Rattle.term_model.specs.BitString.{bits_of, MayUse, IsPadded}
use Rattle.dets_term.proofs.Cleared.{bits_of-set, IsPadded-set}
use Rattle.dets_term.proofs.byte_list.ByteList.clear_unused.Goals as goal
use Rattle.dets_term.proofs.byte_list.ByteList.clear_unused.Goals.{in-Some, in_default}

-- without a byte nothing is used
padded-empty : (bytes : List ℕ) (used : ℕ) → (0 < length bytes → ⊥) → MayUse bytes used → IsPadded bytes used
padded-empty [] used e may = let eight : used ≡ 8 = may.2 refl in record { used = may; zeros = rw eight refl }
padded-empty (x ∷ bytes) used e may = absurd (e (omega arith))

pub returns-clause-bits : goal.returns-clause-bits
returns-clause-bits c =
    elim c.match-last_mut.branch [
      | in-Some w ↦
          let some = w.in-Some.ensures.variant.0 refl in
          rw w.self-inside-is
          (bits_of-set c.self.inside.bytes.items _ _ _ _ (omega (arith, c.self.inside.bytes.ok.0)) w.in-Some.ensures.value w.front_bits.ensures.kept
          ∙ ap (λ bs. bits_of bs c.args.used) c.self.view_is)
      | in_default w ↦ rw w.self-inside-is (ap (λ bs. bits_of bs c.args.used) c.self.view_is)
    ]

pub returns-clause-padded : goal.returns-clause-padded
returns-clause-padded c =
    let may : MayUse c.self.inside.bytes.items c.args.used = subst (λ bs. MayUse bs c.args.used) (sym c.self.view_is) c.requires in
    elim c.match-last_mut.branch [
      | in-Some w ↦
          let some = w.in-Some.ensures.variant.0 refl in
          rw w.self-inside-is (IsPadded-set c.self.inside.bytes.items _ _ _ (omega (arith, c.self.inside.bytes.ok.0)) may w.front_bits.ensures.cleared)
      | in_default w ↦ rw w.self-inside-is (padded-empty _ _
          (λ h. let e : false ≡ true = w.in_default.ensures.variant.1 (omega (arith, c.self.inside.bytes.ok.0)) in cc) may)
    ]
