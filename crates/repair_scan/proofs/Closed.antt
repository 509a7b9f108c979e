-- The gates of rejects are closed.
use Rattle.std.proofs.Common.{◌≡◌, ◌≤◌, ◌<◌, ◌==◌, ℕ, true, List, [], ◌∷◌, length, Option, Some, None, ap, refl, ◌∙◌, arith, subst, ⊎_elim}
use Rattle.std.specs.Prelude.{option_map, slice_get}
use Rattle.std.proofs.lemmas.List.{length-map}
use Rattle.std.proofs.lemmas.Option.{slice_get-map, slice_get_cases}
use Rattle.std.proofs.lemmas.Bool.{or_left, or_right, eq-eqb}
use Rattle.space_model.specs.Sizes.{segment_units}
use Rattle.host_model.specs.Disk.{DiffersIn, WhereTold, Changes}
use Rattle.host_model.specs.Torn.{DiffersIn-written}
use Rattle.host_model.specs.Writes.{Write, ranges_of, with_write, with_writes, BeginInside}
use Rattle.file_model.specs.declared.head.Head.{Head}
use Rattle.file_model.specs.declared.reject.Reject.{Reject}
use Rattle.file_model.specs.Layout.{page_size, closed_byte, gate_at, segment_end}
use Rattle.file_model.specs.LayoutLaws.{in_segment, segment_ends}
use Rattle.file_model.specs.Header.{located}
use Rattle.file_model.specs.View.{units_in, view, view_of}
use Rattle.file_model.specs.Taken.{taken, rejects}
use Rattle.file_model.specs.Fit.{has_no_rejects}
use Rattle.file_model.specs.Gates.{is_among, rejected_units}
use Rattle.file_model.specs.GateWrites.{gate_write, gate_writes, AreWhole}
use Rattle.file_model.specs.Flush.{table_in}
use Rattle.repair_scan.specs.Found.{units_of_rejects, KeepsTable}

here_among : (u : ℕ) (us : List ℕ) → is_among (u ∷ us) u ≡ true
here_among u us = or_left (u == u) (is_among us u) (eq-eqb u u refl)

-- ---- each write begins inside the file

begin : (m : ℕ) (us f : List ℕ) → m ≤ length f → ((u : ℕ) → is_among us u ≡ true → segment_end segment_units u ≤ m)
    → BeginInside (gate_writes segment_units closed_byte us) f
begin m [] f l whole = tt
begin m (u ∷ us) f l whole =
    let place = in_segment segment_units u (omega arith) in
    let end = segment_ends segment_units u in
    let inside = whole u (here_among u us) in
    let at : gate_at segment_units u ≤ length f = omega (arith, place.gate_below, end, inside) in
    let longer = DiffersIn-written (gate_at segment_units u) (closed_byte ∷ []) f at in (
      at,
      begin m us (with_write f (gate_write segment_units closed_byte u)) (omega (arith, longer.no_shorter))
          (λ w among. whole w (or_right (u == w) (is_among us w) among)),
    )

pub gates_begin : (us f : List ℕ) → AreWhole segment_units us f → BeginInside (gate_writes segment_units closed_byte us) f
gates_begin us f whole = begin (length f) us f (omega arith) whole

-- ---- what the writes leave

page_there : (rs : List Reject) (f : List ℕ) → (length rs ≡ 0 → ⊥) → AreWhole segment_units (units_of_rejects rs) f → page_size ≤ length f
page_there [] f some whole = absurd (some refl)
page_there (r ∷ rs) f some whole =
    let place = in_segment segment_units r.unit (omega arith) in
    let inside = whole r.unit (here_among r.unit (units_of_rejects rs)) in
    omega (arith, place.unit_behind_page, place.unit_ends, inside)

abbrev Kept : Type 0
Kept = (per_segment : ℕ) (h : Head) (old : List ℕ) → 0 < per_segment → page_size ≤ length old → (image : List ℕ)
    → DiffersIn (ranges_of (gate_writes per_segment closed_byte (rejected_units (view h (units_in per_segment h old))))) old image
    → (located image ≡ located old) × (table_in per_segment h image ≡ table_in per_segment h old)

abbrev Blocks : Type 0
Blocks = (per_segment : ℕ) (h : Head) (old : List ℕ) → 0 < per_segment → page_size ≤ length old → (image : List ℕ)
    → DiffersIn (ranges_of (gate_writes per_segment closed_byte (rejected_units (view h (units_in per_segment h old))))) old image
    → taken (view h (units_in per_segment h image)) ≡ taken (view h (units_in per_segment h old))

abbrev Ended : Type 0
Ended = (per_segment : ℕ) (h : Head) (old : List ℕ) → 0 < per_segment → page_size ≤ length old
    → has_no_rejects (view h (units_in per_segment h
    (with_writes (gate_writes per_segment closed_byte (rejected_units (view h (units_in per_segment h old)))) old))) ≡ true

module _ (rs : List Reject) (f : List ℕ) (some : length rs ≡ 0 → ⊥) (whole : AreWhole segment_units (units_of_rejects rs) f) (h : Head)
    (are : rs ≡ rejects (view_of h f)) where
  pub keeps : Kept → Blocks → (z : List ℕ) → DiffersIn (ranges_of (gate_writes segment_units closed_byte (units_of_rejects rs))) f z → KeepsTable h f z
  keeps kept blocks z d =
      let own = subst (λ us. DiffersIn (ranges_of (gate_writes segment_units closed_byte us)) f z) (ap units_of_rejects are) d in
      let same = kept segment_units h f (omega arith) (page_there rs f some whole) z own in
      record { header = same.0; blocks = blocks segment_units h f (omega arith) (page_there rs f some whole) z own; table = same.1 }

  pub none_left : Ended → has_no_rejects (view_of h (with_writes (gate_writes segment_units closed_byte (units_of_rejects rs)) f)) ≡ true
  none_left ended =
      ap (λ us. has_no_rejects (view_of h (with_writes (gate_writes segment_units closed_byte us) f))) (ap units_of_rejects are)
      ∙ ended segment_units h f (omega arith) (page_there rs f some whole)

-- ---- a file that is told

pub told_after : (P : List ℕ → Type 0) (make : List ℕ → List ℕ) (old new : Option (List ℕ)) (f : List ℕ) → old ≡ Some f → new ≡ option_map make old
    → P (make f) → WhereTold new P
told_after P make old new f told is p g e =
    let same : make f ≡ g = cc (ap (option_map make) told, is, e) in
    subst P same p

-- ---- one of the writes

abbrev closing : List Reject → List Write
closing rs = gate_writes segment_units closed_byte (units_of_rejects rs)

twice : (o : Option Reject) → option_map (gate_write segment_units closed_byte) (option_map (λ r. r.unit) o)
    ≡ option_map (λ r. gate_write segment_units closed_byte r.unit) o
twice None = refl
twice (Some r) = refl

nth_write : (rs : List Reject) (i : ℕ) → slice_get (closing rs) i ≡ option_map (λ r. gate_write segment_units closed_byte r.unit) (slice_get rs i)
nth_write rs i =
    slice_get-map (gate_write segment_units closed_byte) (units_of_rejects rs) i
    ∙ ap (option_map (gate_write segment_units closed_byte)) (slice_get-map (λ (r : Reject). r.unit) rs i)
    ∙ twice (slice_get rs i)

pub place_of_write : (rs : List Reject) (i : ℕ) (r : Reject) → slice_get rs i ≡ Some r
    → option_map (λ (w : Write). w.at) (slice_get (closing rs) i) ≡ Some (gate_at segment_units r.unit)
place_of_write rs i r e =
    ap (option_map (λ (w : Write). w.at)) (nth_write rs i ∙ ap (option_map (λ (r : Reject). gate_write segment_units closed_byte r.unit)) e)

how_many : (rs : List Reject) → length (closing rs) ≡ length rs
how_many rs = length-map (units_of_rejects rs) (gate_write segment_units closed_byte) ∙ length-map rs (λ (r : Reject). r.unit)

pub write_there : (rs : List Reject) (i : ℕ) → i < length (closing rs) → (r : Reject) × (slice_get rs i ≡ Some r)
write_there rs i l = ⊎_elim
    (λ found. (found.0, found.2))
    (λ none. absurd (let m = how_many rs in omega (arith, none.0)))
    (slice_get_cases rs i).1

pub bytes_of_write : (rs : List Reject) (i : ℕ) → i < length (closing rs)
    → option_map (λ (w : Write). w.bytes) (slice_get (closing rs) i) ≡ Some (closed_byte ∷ [])
bytes_of_write rs i l =
    let found = write_there rs i l in
    ap (option_map (λ (w : Write). w.bytes)) (nth_write rs i ∙ ap (option_map (λ (r : Reject). gate_write segment_units closed_byte r.unit)) found.1)
