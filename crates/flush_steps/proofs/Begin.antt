-- Writes to units whose segments are whole in a file begin inside it.
use Rattle.std.proofs.Common.{◌≡◌, ◌==◌, ℕ, true, List, [], ◌∷◌, refl, arith}
use Rattle.std.proofs.lemmas.Bool.{or_left, or_right, eq-eqb}
use Rattle.space_model.specs.Sizes.{segment_units}
use Rattle.file_model.specs.LayoutLaws.{in_segment, segment_ends}
use Rattle.file_model.specs.Gates.{is_among}
use Rattle.file_model.specs.BodyWrites.{Body, body_writes}
use Rattle.file_model.specs.GateWrites.{gate_writes, AreWhole}
use Rattle.file_model.specs.Flush.{news}
use Rattle.flush_steps.specs.Sparse.{BeginIn}

here_among : (u : ℕ) (us : List ℕ) → is_among (u ∷ us) u ≡ true
here_among u us = or_left (u == u) (is_among us u) (eq-eqb u u refl)

rest_whole : (u : ℕ) (us f : List ℕ) → AreWhole segment_units (u ∷ us) f → AreWhole segment_units us f
rest_whole u us f whole w among = whole w (or_right (u == w) (is_among us w) among)

pub gates_begin : (byte : ℕ) (us f : List ℕ) → AreWhole segment_units us f → BeginIn (gate_writes segment_units byte us) f
gates_begin byte [] f whole = tt
gates_begin byte (u ∷ us) f whole =
    let place = in_segment segment_units u (omega arith) in
    let end = segment_ends segment_units u in
    let inside = whole u (here_among u us) in
    (omega (arith, place.gate_below, end, inside), gates_begin byte us f (rest_whole u us f whole))

pub bodies_begin : (bodies : List Body) (f : List ℕ) → AreWhole segment_units (news bodies) f → BeginIn (body_writes segment_units bodies) f
bodies_begin [] f whole = tt
bodies_begin (b ∷ bs) f whole =
    let place = in_segment segment_units b.unit (omega arith) in
    let inside = whole b.unit (here_among b.unit (news bs)) in
    (omega (arith, place.unit_ends, inside), bodies_begin bs f (rest_whole b.unit (news bs) f whole))
