use Rattle.std.proofs.Common.{◌≡◌, ◌≢◌, ◌≤◌, ◌<◌, ◌+◌, ℕ, List, [], ◌∷◌, ◌++◌, length, drop, get_or, Option, Result, Ok, Err, inl, ◌∙◌, ap, sym, subst, refl, arith, append_assoc, append-nil}
use Rattle.std.specs.Option.{option_copied}
use Rattle.std.specs.Result.{IsErrOf}
use Rattle.space_model.specs.Runs.{Run}
use Rattle.space_model.specs.Apart.{In}
use Rattle.std.proofs.lemmas.List.{drop_all, drop_more}
use Rattle.file_model.specs.declared.block.Packed.{Packed}
use Rattle.write_cache.specs.declared.pending.Pending.{Pending}
use Rattle.write_cache.specs.Waiting.{Waiting, state_of}
use Rattle.buddy_space.specs.SpaceState.{SpaceState, most_segments, IsParted}
use Rattle.book_model.specs.declared.change.Change.{Change}
use Rattle.flush_engine.specs.declared.fault.PlanFault.{PlanFault}
use Rattle.flush_engine.specs.declared.fault.PlanFault.TheVariants.{Full, Memory}
use Rattle.flush_engine.specs.Placing.{in_segments, block_of, placed, IsPlaced, BeginsElsewhere, Places, then_placed, all_placed}
use Rattle.flush_engine.specs.Steps.{MayBePlaced, Step, changes_of, units_of, IsLed}
use Rattle.flush_engine.proofs.Placed.{with_units, placed-behind, ok_unit, full_exp, placed_to, full-as, rest-may}
use Rattle.flush_engine.proofs.all.place_all.Invariants.{Goes}
use Rattle.flush_engine.proofs.all.place_all.Goals as goal

abbrev all_at : SpaceState → List ℕ → Result Places ℕ
all_at s units = Ok (record { space = s; units = units })

abbrev none_at : ℕ → Result Places ℕ
none_at exp = Err exp

-- all changes were placed
goes-all : (most : ℕ) (w : Waiting) (changes : List Change) (first now : SpaceState) (index : ℕ) (units : List ℕ) → Goes most w changes first index units now
    → drop index changes ≡ [] → all_placed most w first changes ≡ all_at now units
goes-all most w changes first now index units g none =
    ap (all_placed most w first) (sym g.done) ∙ placed-behind most w g.steps first now (drop index changes) g.lead
    ∙ ap (λ r. with_units (units_of g.steps) (all_placed most w now r)) none ∙ ap (all_at now) (append-nil (units_of g.steps) ∙ g.units_are)

-- one more was
goes-next : (most : ℕ) (w : Waiting) (changes : List Change) (first now new : SpaceState) (index unit : ℕ) (units : List ℕ) (c : Change)
    → Goes most w changes first index units now → drop index changes ≡ c ∷ drop (index + 1) changes
    → IsPlaced (placed most (state_of w c.key) now c.next) most now new (ok_unit unit) → now.segments ≤ new.segments → (IsParted now → IsParted new)
    → ((r : Run) → In r now.taken → BeginsElsewhere r (block_of (state_of w c.key)) → In r new.taken) → new.segments ≤ most
    → Goes most w changes first (index + 1) (units ++ unit ∷ []) new
goes-next most w changes first now new index unit units c g dropped is grows parted others fits =
    let may = subst (λ l. MayBePlaced w now l) dropped g.rest in
    let step : Step = record { change = c; unit = unit; before = now } in
    record {
      steps = step ∷ g.steps;
      lead = (
        record {
          parted = g.parted;
          block = may.blocks c (inl refl);
          exp = may.exps c (inl refl);
          so = placed_to most (placed most (state_of w c.key) now c.next) now new unit is;
          grows = grows;
        },
        g.lead,
      );
      done = append_assoc (changes_of g.steps) (c ∷ []) (drop (index + 1) changes) ∙ ap (λ l. changes_of g.steps ++ l) (sym dropped) ∙ g.done;
      units_are = ap (λ l. l ++ unit ∷ []) g.units_are;
      rest = rest-may w c (drop (index + 1) changes) now new may others;
      parted = parted g.parted;
      fits = fits;
    }

-- the next has no place
goes-full : (most : ℕ) (w : Waiting) (changes : List Change) (first now new : SpaceState) (index exp : ℕ) (units : List ℕ) (c : Change)
    → Goes most w changes first index units now → drop index changes ≡ c ∷ drop (index + 1) changes
    → IsPlaced (placed most (state_of w c.key) now c.next) most now new (full_exp exp) → all_placed most w first changes ≡ none_at exp
goes-full most w changes first now new index exp units c g dropped is =
    let full = full-as most (placed most (state_of w c.key) now c.next) now new exp is in
    ap (all_placed most w first) (sym g.done) ∙ placed-behind most w g.steps first now (drop index changes) g.lead
    ∙ ap (λ r. with_units (units_of g.steps) (all_placed most w now r)) dropped
    ∙ ap (λ r. with_units (units_of g.steps) (then_placed r (λ next. all_placed most w next (drop (index + 1) changes)))) full.0

goes-back : (most : ℕ) (w : Waiting) (changes : List Change) (first now new : SpaceState) (index : ℕ) (units as_units : List ℕ)
    → Goes most w changes first index units now → as_units ≡ units → new ≡ in_segments most now → most ≤ most_segments
    → IsLed most w changes as_units first new
goes-back most w changes first now new index units as_units g same is few =
    let segments : new.segments ≡ most = ap (λ (s : SpaceState). s.segments) is in
    record {
      steps = g.steps;
      then_was = now;
      lead = g.lead;
      rest = drop index changes;
      changes_are = g.done;
      units_are = g.units_are ∙ sym same;
      grown = omega (arith, segments, g.fits);
      fits = omega (arith, segments, few);
      since_is = is ∙ ap (λ n. in_segments n now) (sym segments);
    }

-- what was placed, by the key's state and the change
keyed : (most : ℕ) (now new : SpaceState) (earlier as_earlier : Option Pending) (next as_next : Option Packed) (result : Result ℕ PlanFault)
    → earlier ≡ as_earlier → next ≡ as_next → IsPlaced (placed most earlier now next) most now new result
    → IsPlaced (placed most as_earlier now as_next) most now new result
keyed most now new earlier as_earlier next as_next result e n p =
    subst (λ x. IsPlaced (placed most as_earlier now x) most now new result) n (subst (λ x. IsPlaced (placed most x now next) most now new result) e p)

abbrev err_of : PlanFault → Result ℕ PlanFault
err_of fault = Err fault

not-memory : (fault : PlanFault) (exp : ℕ) → fault ≡ Full exp → err_of fault ≡ err_of Memory → ⊥
not-memory fault exp full is = full-is-full exp (ap err_of (sym full) ∙ is)
  where
    full-is-full : (e : ℕ) → err_of (Full e) ≡ err_of Memory → ⊥
    full-is-full e same = cc

ok-not-memory : (unit : ℕ) → ok_unit unit ≡ err_of Memory → ⊥
ok-not-memory unit is = cc

-- the same of a command that is full
keyed-full : (most : ℕ) (now new : SpaceState) (earlier as_earlier : Option Pending) (next as_next : Option Packed) (fault : PlanFault) (exp : ℕ)
    → earlier ≡ as_earlier → next ≡ as_next → fault ≡ Full exp
    → (err_of fault ≢ err_of Memory → IsPlaced (placed most earlier now next) most now new (err_of fault))
    → IsPlaced (placed most as_earlier now as_next) most now new (full_exp exp)
keyed-full most now new earlier as_earlier next as_next fault exp e n full p =
    subst (λ f. IsPlaced (placed most as_earlier now as_next) most now new (err_of f)) full
    (keyed most now new earlier as_earlier next as_next (err_of fault) e n (p (not-memory fault exp full)))

same-exp : {T : Type 0} (a b : ℕ) → IsErrOf {T = T} {E = PlanFault} (Err (Full a)) (Full b) → a ≡ b
same-exp a b e = cc

dropped-as : (items changes : List Change) (index : ℕ) (c : Change) → items ≡ changes → index < length items → c ≡ get_or items index c
    → drop index changes ≡ c ∷ drop (index + 1) changes
dropped-as items changes index c same less is =
    ap (drop index) (sym same) ∙ drop_more items index c less ∙ ap (λ x. x ∷ drop (index + 1) items) (sym is)
    ∙ ap (λ l. c ∷ drop (index + 1) l) same

pub take_all_back-requires : goal.take_all_back-requires
take_all_back-requires c =
    let key : option_copied c.get-earlier.result ≡ state_of c.args.cache.now c.change-item.result.key =
    c.get-earlier.ensures ∙ ap (state_of c.args.cache.now) c.as_slice.ensures in
    let is = keyed-full c.args.most c.loop-change.space c.place_change.new.space (option_copied c.get-earlier.result)
    (state_of c.args.cache.now c.change-item.result.key) (option_copied c.as_ref.result) c.change-item.result.next c.in-Err-Full.field-0 c.in-Err-Full.exp
    key c.as_ref.ensures.value c.in-Err-Full.field-0-is c.in-Err-Full.ensures.placed in (
      c.args.most,
      c.args.space.now,
      goes-back c.args.most c.args.cache.now c.args.changes.now c.args.space.now c.loop-change.space
          c.place_change.new.space c.loop-change.change-index c.loop-change.units.items c.deref.result.now c.loop-change.invariant.goes c.deref.ensures.value
          (full-as c.args.most (placed c.args.most (state_of c.args.cache.now c.change-item.result.key) c.loop-change.space c.change-item.result.next)
          c.loop-change.space c.place_change.new.space c.in-Err-Full.exp is).1 c.requires.most,
    )

pub returns-in-Err-Full-clause-full : goal.returns-in-Err-Full-clause-full
returns-in-Err-Full-clause-full c = λ exp e.
    let i = c.loop-change.invariant in
    let key : option_copied c.get-earlier.result ≡ state_of c.args.cache.now c.change-item.result.key =
    c.get-earlier.ensures ∙ ap (state_of c.args.cache.now) c.as_slice.ensures in
    let is = keyed-full c.args.most c.loop-change.space c.place_change.new.space (option_copied c.get-earlier.result)
    (state_of c.args.cache.now c.change-item.result.key) (option_copied c.as_ref.result) c.change-item.result.next c.in-Err-Full.field-0 c.in-Err-Full.exp
    key c.as_ref.ensures.value c.in-Err-Full.field-0-is c.in-Err-Full.ensures.placed in
    let full = (full-as c.args.most (placed c.args.most (state_of c.args.cache.now c.change-item.result.key) c.loop-change.space c.change-item.result.next)
    c.loop-change.space c.place_change.new.space c.in-Err-Full.exp is).1 in
    let segments : c.place_change.new.space.segments ≡ c.args.most = ap (λ (s : SpaceState). s.segments) full in
    let led = goes-back c.args.most c.args.cache.now c.args.changes.now c.args.space.now c.loop-change.space
    c.place_change.new.space c.loop-change.change-index c.loop-change.units.items c.deref.result.now i.goes c.deref.ensures.value full c.requires.most in
    let same : c.in-Err-Full.exp ≡ exp = sym c.in-Err-Full.exp-is ∙ same-exp _ exp e in (
      goes-full c.args.most c.args.cache.now c.args.changes.now c.args.space.now c.loop-change.space c.place_change.new.space
          c.loop-change.change-index c.in-Err-Full.exp c.loop-change.units.items c.change-item.result i.goes
          (dropped-as c.as_slice-change-items.result.now c.args.changes.now c.loop-change.change-index c.change-item.result i.items_are c.loop-change-test.true
          c.change-item.is) is ∙ ap none_at same,
      c.take_all_back.ensures c.args.most c.args.space.now led ∙ ap (λ n. in_segments n c.args.space.now) segments,
    )

pub loop-change-preserved : goal.loop-change-preserved
loop-change-preserved c =
    let i = c.loop-change.invariant in
    let key : option_copied c.get-earlier.result ≡ state_of c.args.cache.now c.change-item.result.key =
    c.get-earlier.ensures ∙ ap (state_of c.args.cache.now) c.as_slice.ensures in
    let is = keyed c.args.most c.loop-change.space c.place_change.new.space (option_copied c.get-earlier.result)
    (state_of c.args.cache.now c.change-item.result.key) (option_copied c.as_ref.result) c.change-item.result.next (ok_unit c.in-Ok.unit)
    key c.as_ref.ensures.value (c.in-Ok.ensures.placed (ok-not-memory c.in-Ok.unit)) in
    record {
      items_are = i.items_are;
      goes = subst (λ l. Goes c.args.most c.args.cache.now c.args.changes.now c.args.space.now (c.loop-change.change-index + 1) l c.place_change.new.space)
          (sym c.in-Ok-push.ensures.items)
          (goes-next c.args.most c.args.cache.now c.args.changes.now c.args.space.now c.loop-change.space c.place_change.new.space
          c.loop-change.change-index c.in-Ok.unit c.loop-change.units.items c.change-item.result i.goes
          (dropped-as c.as_slice-change-items.result.now c.args.changes.now c.loop-change.change-index c.change-item.result i.items_are
          c.loop-change-test.true c.change-item.is)
          is c.place_change.ensures.grows c.place_change.ensures.parted
          (λ r a other. c.place_change.ensures.others r a (subst (λ o. BeginsElsewhere r (block_of o)) (sym key) other)) c.place_change.ensures.segments);
    }

pub returns-clause-ok : goal.returns-clause-ok
returns-clause-ok c =
    let i = c.loop-change.invariant in
    goes-all c.args.most c.args.cache.now c.args.changes.now c.args.space.now c.loop-change.space c.loop-change.change-index
    c.loop-change.units.items i.goes
    (ap (drop c.loop-change.change-index) (sym i.items_are)
    ∙ drop_all c.loop-change.change-index c.as_slice-change-items.result.now c.loop-change-test.false)
