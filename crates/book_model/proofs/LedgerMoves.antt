-- A command moves the ledger of a book as the ledger's definition says.
use Rattle.std.proofs.Common.{◌≡◌, ◌⊎◌, inl, inr, ⊎_elim, ℕ, zero, suc, ◌+◌, ◌-◌, ◌*◌, Bool, true, false, cond, ◌==◌, List, [], ◌∷◌, ◌++◌, length, map, Option, Some, None, Result, Ok, Err, refl, sym, ap, ◌∙◌, subst, arith}
use Rattle.std.specs.Prelude.{filter_map, option_map, option_and_then}
use Rattle.std.specs.List.{cons_option}
use Rattle.std.proofs.lemmas.Bool.{cases_Bool, both_ways, eqb-true, eq-eqb}
use Rattle.std.proofs.lemmas.List.{length-append}
use Rattle.space_model.specs.Least.{log2}
use Rattle.space_model.specs.Sizes.{head_size}
use Rattle.space_model.specs.Runs.{Run, run}
use Rattle.space_model.specs.Apart.{In, Pairs, SameMembers}
use Rattle.space_model.specs.Ledger.{exponent, Standing, Packed as Payload, Ledger, Placed, or_grown, place_growing, with_pending, packed_of, packed_run}
use Rattle.space_model.specs.Ledger.{held as ledger_held, kept_run, pending_at, served_at as ledger_served_at, served_with as ledger_served_with, served as ledger_served}
use Rattle.space_model.specs.Ledger.{serve as ledger_serve, serve_all as ledger_serve_all, after_served as ledger_after_served, or_before as ledger_or_before, after_command}
use Rattle.file_model.specs.declared.block.Packed.{Packed}
use Rattle.file_model.specs.declared.entry.Entry.{Entry}
use Rattle.file_model.specs.declared.head.Head.{Head}
use Rattle.file_model.specs.BodyWrites.{head_bytes}
use Rattle.file_model.specs.Packing.{payload_of}
use Rattle.write_cache.specs.declared.pending.Pending.{Pending}
use Rattle.write_cache.specs.PendingState.{payload_at, in_ledger}
use Rattle.write_cache.specs.Waiting.{Waiting, state_of, with_state, ledger_of as pending_of}
use Rattle.book_model.specs.declared.change.Change.{Change}
use Rattle.book_model.specs.Book.{held, Book, entry_run, entry_runs, new_entry, pending_entries, olds_of, IsWellFormed}
use Rattle.book_model.specs.Planning.{IsBlockFor, IsStanding, IsChange, AreChanges, OtherKey, OtherEntry, emptied, moved, kept_in, kept_unit, served_at, served_with, served, serve}
use Rattle.book_model.specs.Planning.{after_served, serve_all, or_before, planned}
use Rattle.book_model.specs.LedgerOf.{filed_entries, AreStanding, ledger_of, touch_of, touches_of, ledger_result}
use Rattle.book_model.proofs.Members.{append_in, in_append, map_in, in_map, same_map, same_through, any_passes, passes_any}
use Rattle.book_model.proofs.Waits.{put_again}
use Rattle.book_model.proofs.Runs.{same_unit}
use Rattle.book_model.proofs.Released.{entry_taken}
use Rattle.book_model.proofs.Given.{with_block}
use Rattle.book_model.proofs.Filed.{pending_at_unit, filed_from, filed_in, serve_filed}
use Rattle.book_model.specs.Below.{PlaceLaws, LedgerLaws}
use Rattle.book_model.proofs.Served.{serve_formed}
use Rattle.book_model.proofs.Commands.{carries, planned_filed}

-- ---- the held runs

runs_step : (o : Option Packed) (hash unit : ℕ) (runs : List Run) (entries : List Entry) → runs ≡ entry_runs entries
    → cons_option (option_map (λ (q : Payload). q.run) (option_map (payload_at unit) o)) runs ≡ entry_runs (cons_option (option_map (new_entry hash unit) o) entries)
runs_step None hash unit runs entries same = same
runs_step (Some p) hash unit runs entries same = ap (λ rs. run unit p.exp ∷ rs) same

pending_runs : (w : Waiting) → filter_map packed_run (pending_of w) ≡ entry_runs (pending_entries w)
pending_runs [] = refl
pending_runs (e ∷ es) = runs_step e.1.block e.1.hash e.1.unit (filter_map packed_run (pending_of es)) (pending_entries es) (pending_runs es)

pub record Shared (n : ℕ) (standing : List Standing) (b : Book) : Type 0 where
  pub formed : IsWellFormed n b
  pub stands : AreStanding standing b

module _ (n : ℕ) (standing : List Standing) (b : Book) (own : Shared n standing b) where
  abbrev standing_runs : List Run
  standing_runs = map (λ (s : Standing). s.run) standing

  -- the run of an entry that is filed is a standing one
  filed_stands : (e : Entry) → IsStanding b e ⊎ In e (olds_of b.cache) → In (entry_run e) standing_runs
  filed_stands e a = own.stands.back (entry_run e) (map_in entry_run (filed_entries b) e (filed_in b e a))

  directory_held : (e : Entry) → In e b.directory → In (entry_run e) (standing_runs ++ entry_runs (pending_entries b.cache))
  directory_held e a = append_in standing_runs (entry_runs (pending_entries b.cache)) (entry_run e) (⊎_elim
      (λ yes.
      let f = any_passes (λ (x : Entry). x.unit == e.unit) (pending_entries b.cache) yes in
      let one : f.member ≡ e =
      same_unit b.directory f.member e own.formed.order.entries (own.formed.order.listed f.member f.there) a (eqb-true f.member.unit e.unit f.is) in
      inr (subst (λ (x : Entry). In (entry_run x) (entry_runs (pending_entries b.cache))) one (map_in entry_run (pending_entries b.cache) f.member f.there)))
      (λ no. inl (filed_stands e (inl (record {
        there = a;
        not_pending = λ f there same. both_ways (pending_at_unit b e) no
            (passes_any (λ (x : Entry). x.unit == e.unit) (pending_entries b.cache) f there (eq-eqb f.unit e.unit same));
      }))))
      (cases_Bool (pending_at_unit b e)))

  held_runs : SameMembers (held b.space) (standing_runs ++ entry_runs (pending_entries b.cache))
  held_runs = record {
    there = λ r a. ⊎_elim
        (λ t.
        let e = in_map entry_run b.directory r (own.formed.order.taken.there r t) in
        subst (λ x. In x (standing_runs ++ entry_runs (pending_entries b.cache))) e.2 (directory_held e.0 e.1))
        (λ d.
        let e = in_map entry_run (olds_of b.cache) r (own.formed.order.deferred.there r d) in
        subst (λ x. In x (standing_runs ++ entry_runs (pending_entries b.cache))) e.2
        (append_in standing_runs (entry_runs (pending_entries b.cache)) (entry_run e.0) (inl (filed_stands e.0 (inr e.1)))))
        (in_append b.space.taken b.space.deferred r a);
    back = λ r a. append_in b.space.taken b.space.deferred r (⊎_elim
        (λ s.
        let e = in_map entry_run (filed_entries b) r (own.stands.there r s) in ⊎_elim
        (λ stays. inl (subst (λ x. In x b.space.taken) e.2 (entry_taken b own.formed.order e.0 stays.there)))
        (λ old. inr (subst (λ x. In x b.space.deferred) e.2
        (own.formed.order.deferred.back (entry_run e.0) (map_in entry_run (olds_of b.cache) e.0 old))))
        (filed_from b e.0 e.1))
        (λ w.
        let e = in_map entry_run (pending_entries b.cache) r w in
        inl (subst (λ x. In x b.space.taken) e.2 (entry_taken b own.formed.order e.0 (own.formed.order.listed e.0 e.1))))
        (in_append standing_runs (entry_runs (pending_entries b.cache)) r a));
  }

  pub held_same : SameMembers (held b.space) (ledger_held (ledger_of standing b))
  held_same = subst (λ rs. SameMembers (held b.space) (standing_runs ++ rs)) (sym (pending_runs b.cache)) held_runs

-- ---- the place

pub growing_same : (laws : LedgerLaws) (n : ℕ) (xs ys : List Run) → SameMembers xs ys → (exp s more : ℕ)
    → place_growing n xs exp s more ≡ place_growing n ys exp s more
growing_same laws n xs ys same exp s zero = ap (λ o. or_grown o s (λ grown. None)) (laws.same_place (log2 n) (n * s) xs ys exp same)
growing_same laws n xs ys same exp s (suc more) =
    λ i. or_grown (laws.same_place (log2 n) (n * s) xs ys exp same i) s (λ grown. growing_same laws n xs ys same exp grown more i)

-- ---- a pending block that stays

kept_as : (t : Bool) (unit exp own : ℕ) → (own == exp) ≡ t → cond t (Some (run unit own)) None ≡ option_map (λ u. run u exp) (cond t (Some unit) None)
kept_as true unit exp own is = ap (λ e. Some (run unit e)) (eqb-true own exp is)
kept_as false unit exp own is = refl

kept_block : (o : Option Packed) (hash unit exp : ℕ)
    → kept_run (option_map (payload_at unit) o) exp ≡ option_map (λ u. run u exp) (kept_in (option_map (new_entry hash unit) o) exp)
kept_block None hash unit exp = refl
kept_block (Some p) hash unit exp = kept_as (p.exp == exp) unit exp p.exp refl

kept_state : (key : List ℕ) (o : Option Pending) (exp : ℕ)
    → kept_run (option_and_then (λ s. (in_ledger key s).packed) o) exp ≡ option_map (λ u. run u exp) (kept_unit o exp)
kept_state key None exp = refl
kept_state key (Some s) exp = kept_block s.block s.hash s.unit exp

-- ---- one key

-- the exponent of a block is that of the payload behind its head
exponent_of : (h : Head) (key : List ℕ) (p : Packed) → IsBlockFor h key p → p.exp ≡ exponent (length p.block - head_size)
exponent_of h key p f =
    let payload : List ℕ = payload_of f.objects in
    let long : length p.block ≡ length (head_bytes p.exp (length payload)) + length payload =
    ap length f.made.bytes ∙ length-append (head_bytes p.exp (length payload)) payload in
    let head : length (head_bytes p.exp (length payload)) ≡ 8 = refl in
    let same : length payload ≡ length p.block - head_size = omega arith in
    f.made.exp ∙ ap exponent same

module _ (laws : PlaceLaws) (known : LedgerLaws) (n : ℕ) (standing : List Standing) (b : Book) (c : Change) (own : Shared n standing b) (can : IsChange b c) where
  abbrev l : Ledger
  l = ledger_of standing b

  abbrev t : Pending
  t = emptied c (state_of b.cache c.key)

  moved_pending : (p : Packed) (unit : ℕ) → pending_of (with_state (with_state b.cache c.key t) c.key (with_block t p unit))
      ≡ with_pending (pending_of b.cache) (pending_at c.key (length p.block - head_size) (run unit p.exp))
  moved_pending p unit = ap pending_of (put_again b.cache c.key t (with_block t p unit)) ∙ known.put b.cache c.key (with_block t p unit)

  moved_ledger : (p : Packed) (segments unit : ℕ) → ledger_of standing (moved b c p segments unit)
      ≡ record l { segments = segments; pending = with_pending l.pending (pending_at c.key (length p.block - head_size) (run unit p.exp)) }
  moved_ledger p segments unit = λ i. record {
    max = b.place.head.max_segments;
    filed = b.place.head.segments;
    segments = segments;
    standing = standing;
    pending = moved_pending p unit i;
  }

  at_ledger : (p : Packed) (o : Option Placed) → ledger_result standing (served_at b c p o) ≡ ledger_served_at l c.key (length p.block - head_size) p.exp o
  at_ledger p None = refl
  at_ledger p (Some at) = ap Ok (moved_ledger p at.segments at.unit)

  with_ledger : (p : Packed) (o : Option ℕ)
      → ledger_result standing (served_with n b c p o) ≡ ledger_served_with n l c.key (length p.block - head_size) p.exp (option_map (λ u. run u p.exp) o)
  with_ledger p (Some unit) = ap Ok (moved_ledger p b.space.segments unit)
  with_ledger p None =
      at_ledger p (place_growing n (held b.space) p.exp b.space.segments (b.place.head.max_segments - b.space.segments))
      ∙ ap (λ o. ledger_served_at l c.key (length p.block - head_size) p.exp o)
      (growing_same known n (held b.space) (ledger_held l) (held_same n standing b own) p.exp b.space.segments (b.place.head.max_segments - b.space.segments))

  kept_ledger : (p : Packed) → option_map (λ u. run u p.exp) (kept_unit (state_of b.cache c.key) p.exp) ≡ kept_run (packed_of l.pending c.key) p.exp
  kept_ledger p = sym (ap (λ o. kept_run o p.exp) (known.block b.cache c.key) ∙ kept_state c.key (state_of b.cache c.key) p.exp)

  some_ledger : (p : Packed) → p.exp ≡ exponent (length p.block - head_size)
      → ledger_result standing (served n b c (Some p)) ≡ ledger_served n l c.key (Some (length p.block - head_size))
  some_ledger p exp =
      with_ledger p (kept_unit (state_of b.cache c.key) p.exp)
      ∙ ap (λ o. ledger_served_with n l c.key (length p.block - head_size) p.exp o) (kept_ledger p)
      ∙ ap (λ e. ledger_served_with n l c.key (length p.block - head_size) e (kept_run (packed_of l.pending c.key) e)) exp

  none_ledger : ledger_result standing (served n b c None) ≡ ledger_served n l c.key None
  none_ledger = λ i. Ok (record {
    max = b.place.head.max_segments;
    filed = b.place.head.segments;
    segments = b.space.segments;
    standing = standing;
    pending = known.put b.cache c.key t i;
  })

  next_ledger : (o : Option Packed) → c.next ≡ o
      → ledger_result standing (served n b c o) ≡ ledger_served n l c.key (option_map (λ (p : Packed). length p.block - head_size) o)
  next_ledger None is = none_ledger
  next_ledger (Some p) is = some_ledger p (exponent_of b.place.head c.key p (can.next p is))

  pub serve_ledger : ledger_result standing (serve n b c) ≡ ledger_serve n (ledger_of standing b) (touch_of c)
  serve_ledger = next_ledger c.next refl

-- ---- a command

shared_on : (laws : PlaceLaws) (n : ℕ) (standing : List Standing) (b new : Book) (c : Change) → Shared n standing b → IsChange b c → serve n b c ≡ Ok new
    → Shared n standing new
shared_on laws n standing b new c own can is = record {
  formed = serve_formed laws n b c own.formed can new is;
  stands = same_through (map (λ (s : Standing). s.run) standing) (entry_runs (filed_entries b)) (entry_runs (filed_entries new)) own.stands
      (same_map entry_run (filed_entries b) (filed_entries new) (serve_filed laws n b c new own.formed can is));
}

module _ (laws : PlaceLaws) (known : LedgerLaws) (n : ℕ) (standing : List Standing) where
  all_by : (c : Change) (cs : List Change) (b : Book) (r : Result Book ℕ) → serve n b c ≡ r
      → ((mid : Book) → serve n b c ≡ Ok mid → ledger_result standing (serve_all n mid cs) ≡ ledger_serve_all n (ledger_of standing mid) (touches_of cs))
      → ledger_result standing (after_served r (λ next. serve_all n next cs))
      ≡ ledger_after_served (ledger_result standing r) (λ next. ledger_serve_all n next (touches_of cs))
  all_by c cs b (Err exp) is go = refl
  all_by c cs b (Ok mid) is go = go mid is

  pub all_ledger : (cs : List Change) (b : Book) → Shared n standing b → ((c : Change) → In c cs → IsChange b c) → Pairs OtherKey cs → Pairs OtherEntry cs
      → ledger_result standing (serve_all n b cs) ≡ ledger_serve_all n (ledger_of standing b) (touches_of cs)
  all_ledger [] b own can keys olds = refl
  all_ledger (c ∷ cs) b own can keys olds =
      all_by c cs b (serve n b c) refl (λ mid is. all_ledger cs mid (shared_on laws n standing b mid c own (can c (inl refl)) is)
      (λ d a. carries laws n b c own.formed (can c (inl refl)) mid d (can d (inr a)) (keys.0 d a) (olds.0 d a) is) keys.1 olds.1)
      ∙ ap (λ r. ledger_after_served r (λ next. ledger_serve_all n next (touches_of cs)))
      (serve_ledger laws known n standing b c own (can c (inl refl)))

  before_ledger : (b : Book) (r : Result Book ℕ) → ledger_of standing (or_before b r) ≡ ledger_or_before (ledger_of standing b) (ledger_result standing r)
  before_ledger b (Ok new) = refl
  before_ledger b (Err exp) = refl

  pub planned_ledger : (cs : List Change) (b : Book) → Shared n standing b → AreChanges b cs
      → ledger_of standing (planned n b cs) ≡ after_command n (ledger_of standing b) (touches_of cs)
  planned_ledger cs b own are =
      before_ledger b (serve_all n b cs) ∙ ap (ledger_or_before (ledger_of standing b)) (all_ledger cs b own are.each are.keys are.entries)

pub planned_stands : (laws : PlaceLaws) (n : ℕ) (standing : List Standing) (cs : List Change) (b : Book) → IsWellFormed n b → AreStanding standing b
    → AreChanges b cs → AreStanding standing (planned n b cs)
planned_stands laws n standing cs b formed stands are =
    same_through (map (λ (s : Standing). s.run) standing) (entry_runs (filed_entries b)) (entry_runs (filed_entries (planned n b cs))) stands
    (same_map entry_run (filed_entries b) (filed_entries (planned n b cs)) (planned_filed laws n cs b formed are))
