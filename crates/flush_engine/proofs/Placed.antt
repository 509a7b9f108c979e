-- What the changes that are placed so far make of a space.
use Rattle.std.proofs.Common.{◌≡◌, ℕ, List, [], ◌∷◌, ◌++◌, Option, Some, None, Result, Ok, Err, IfSome, ◌∙◌, ap, sym, subst, refl, inr, append_assoc}
use Rattle.space_model.specs.Runs.{Run}
use Rattle.space_model.specs.Apart.{In}
use Rattle.file_model.specs.declared.entry.Entry.{Entry}
use Rattle.write_cache.specs.Waiting.{Waiting, state_of}
use Rattle.buddy_space.specs.SpaceState.{SpaceState}
use Rattle.book_model.specs.declared.change.Change.{Change}
use Rattle.book_model.specs.Book.{entry_run}
use Rattle.flush_engine.specs.declared.fault.PlanFault.{PlanFault}
use Rattle.flush_engine.specs.declared.fault.PlanFault.TheVariants.{Full}
use Rattle.flush_engine.specs.Placing.{in_segments, block_of, IsPlaced, BeginsElsewhere, Placing, Places, with_unit, then_placed, all_placed}
use Rattle.flush_engine.specs.Steps.{MayBePlaced, Step, changes_of, units_of, at_unit, Lead}

-- more units in front
abbrev pub with_units : List ℕ → Result Places ℕ → Result Places ℕ
with_units us (Ok p) = Ok (record { space = p.space; units = us ++ p.units })
with_units us (Err exp) = Err exp

no-units : (r : Result Places ℕ) → with_units [] r ≡ r
no-units (Ok p) = refl
no-units (Err exp) = refl

one-more : (us : List ℕ) (u : ℕ) (r : Result Places ℕ) → with_units us (with_unit u r) ≡ with_units (us ++ u ∷ []) r
one-more us u (Ok p) = ap (λ l. Ok (record { space = p.space; units = l })) (sym (append_assoc us (u ∷ []) p.units))
one-more us u (Err exp) = refl

-- the places of all changes, by those of the rest behind some steps
pub placed-behind : (most : ℕ) (w : Waiting) (steps : List Step) (first now : SpaceState) (rest : List Change) → Lead most w steps first now
    → all_placed most w first (changes_of steps ++ rest) ≡ with_units (units_of steps) (all_placed most w now rest)
placed-behind most w [] first now rest lead = ap (λ s. all_placed most w s rest) (sym lead) ∙ sym (no-units (all_placed most w now rest))
placed-behind most w (step ∷ steps) first now rest lead =
    ap (all_placed most w first) (append_assoc (changes_of steps) (step.change ∷ []) rest)
    ∙ placed-behind most w steps first step.before (step.change ∷ rest) lead.1
    ∙ ap (λ r. with_units (units_of steps) (then_placed r (λ next. all_placed most w next rest))) lead.0.so
    ∙ one-more (units_of steps) step.unit (all_placed most w now rest)

-- ---- one more step

abbrev pub ok_unit : ℕ → Result ℕ PlanFault
ok_unit unit = Ok unit

abbrev pub full_exp : ℕ → Result ℕ PlanFault
full_exp exp = Err (Full exp)

abbrev no_place : ℕ → Result Placing ℕ
no_place exp = Err exp

unit-same : (a b : ℕ) → ok_unit a ≡ ok_unit b → a ≡ b
unit-same a b is = cc

full-same : (a b : ℕ) → full_exp a ≡ full_exp b → a ≡ b
full-same a b is = cc

ok-not-full : (a b : ℕ) → ok_unit a ≡ full_exp b → ⊥
ok-not-full a b is = cc

pub placed_to : (most : ℕ) (r : Result Placing ℕ) (old new : SpaceState) (unit : ℕ) → IsPlaced r most old new (ok_unit unit) → r ≡ at_unit new unit
placed_to most (Ok at) old new unit p =
    let u : unit ≡ at.unit = unit-same unit at.unit p.0 in
    ap (λ s. at_unit s at.unit) (sym p.1) ∙ ap (at_unit new) (sym u)
placed_to most (Err exp) old new unit p = absurd (ok-not-full unit exp p.0)

pub full-as : (most : ℕ) (r : Result Placing ℕ) (old new : SpaceState) (exp : ℕ) → IsPlaced r most old new (full_exp exp)
    → (r ≡ no_place exp) × (new ≡ in_segments most old)
full-as most (Ok at) old new exp p = absurd (ok-not-full at.unit exp (sym p.0))
full-as most (Err e) old new exp p = (ap no_place (sym (full-same exp e p.0)), p.1)

-- what is left may be placed still
pub rest-may : (w : Waiting) (c : Change) (cs : List Change) (old new : SpaceState) → MayBePlaced w old (c ∷ cs)
    → ((r : Run) → In r old.taken → BeginsElsewhere r (block_of (state_of w c.key)) → In r new.taken) → MayBePlaced w new cs
rest-may w c cs old new m stays = record {
  blocks = λ d a. still d (block_of (state_of w d.key)) refl (block_of (state_of w c.key)) refl a (m.blocks d (inr a));
  exps = λ d a. m.exps d (inr a);
  others = m.others.1;
}
  where
    elsewhere : (d : Change) (e : Entry) (o : Option Entry) → block_of (state_of w c.key) ≡ o → block_of (state_of w d.key) ≡ Some e → In d cs
        → BeginsElsewhere (entry_run e) o
    elsewhere d e None own has a = tt
    elsewhere d e (Some f) own has a = λ same. m.others.0 d a f e own has same

    still : (d : Change) (o : Option Entry) → block_of (state_of w d.key) ≡ o → (p : Option Entry) → block_of (state_of w c.key) ≡ p → In d cs
        → IfSome (block_of (state_of w d.key)) (λ e. In (entry_run e) old.taken) → IfSome (block_of (state_of w d.key)) (λ e. In (entry_run e) new.taken)
    still d None has p own a held = subst (λ x. IfSome x (λ e. In (entry_run e) new.taken)) (sym has) tt
    still d (Some e) has p own a held =
        let was : In (entry_run e) old.taken = subst (λ x. IfSome x (λ f. In (entry_run f) old.taken)) has held in
        subst (λ x. IfSome x (λ f. In (entry_run f) new.taken)) (sym has)
        (stays (entry_run e) was (subst (λ x. BeginsElsewhere (entry_run e) x) (sym own) (elsewhere d e p own has a)))
