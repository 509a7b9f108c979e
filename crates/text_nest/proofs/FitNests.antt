-- A term, a segment or an opening mark that a nest has room for keeps it within the limits of terms.
use Rattle.std.proofs.Common.{◌≡◌, ℕ, ◌+◌, ◌-◌, ◌*◌, ◌<◌, ◌≤◌, ℤ, pos, negsuc, Bool, true, false, cond, ◌&&◌, not, nat_lt, List, [], ◌∷◌, length}
use Rattle.std.proofs.Common.{length-append, Option, Some, None, Ok, Err, IfOk, flat_map, refl, arith}
use Rattle.std.proofs.lemmas.Bool.{cond_both, ltb-true}
use Rattle.std.proofs.lemmas.List.{length-drop}
use Rattle.dets_term.specs.TermValue.{TermValue, elements, depth}
use Rattle.dets_term.specs.BitString.{byte_bits}
use Rattle.text_model.specs.declared.fault.TextWhy.{TextWhy}
use Rattle.text_model.specs.declared.fault.TextWhy.TheVariants.{BadToken, RepeatedKey, Depth}
use Rattle.text_model.specs.Grammar.{strict, last_bits, sized_bits, is_byte, is_sized}
use Rattle.text_model.specs.Characters.{each}
use Rattle.text_model.specs.Nest.{Frame, in_bits, Begun, after, value, sized, segment, Nest, Taken, wants, at_segment, refusal, repeats_in, completed}
use Rattle.text_model.specs.Nest.{leaf, open_term, with_bits, grown, take_segment, take_size, take_bytes}
use Rattle.text_nest.specs.Fits.{deep_of, load_of, IsApart, AreShallow, AreApart, load, IsShallow, IsNew, place_load, IsFit}
use Rattle.text_nest.proofs.Closings.{length-bits}

-- a nest that fits with so many more bits or parts
pub record HasRoom (count more : ℕ) (n : Nest) : Type 0 where
  pub shallow : AreShallow n.begun
  pub apart : AreApart n.begun
  pub place : IsShallow n.begun n.place
  pub key : IsNew n.begun n.place
  pub light : load n.begun + place_load n.place + more ≤ 8 * count

-- a token leads to nothing but nests that fit
abbrev pub TakenFits : ℕ → Taken → Type 0
TakenFits count taken = IfOk taken (IsFit count)

-- ---- terms

-- a term that may stand in front of these that are open
abbrev pub TermFits : ℕ → List Begun → Option TermValue → Type 0
TermFits count bs None = Unit {0}
TermFits count bs (Some t) = (depth t + length bs ≤ 256) × (load bs + length (elements t) ≤ 8 * count)

pub completed_fits : (count start : ℕ) (bs : List Begun) (t : TermValue) → AreShallow bs → AreApart bs → TermFits count bs (Some t)
    → TakenFits count (completed strict bs start t)
completed_fits count start bs t shallow apart (deep, light) =
    cond_both (repeats_in bs t) (Err (start, RepeatedKey)) (Ok (record { begun = bs; place = after start t })) (TakenFits count) (λ e. tt)
    (λ e. record { shallow = shallow; apart = apart; place = deep; key = e; light = light })

-- where a term may begin
pub may_begin : (n : Nest) → refusal strict n ≡ None → (length n.begun < 256) × (at_segment n.begun ≡ false)
may_begin n e =
    let parts = by_tests (wants n.place) (at_segment n.begun) (nat_lt (length n.begun) 256) e in
    (ltb-true (length n.begun) 256 parts.1, parts.0)
  where
    by_tests : (a b c : Bool) → cond {A = Option TextWhy} (a && not b) (cond c None (Some Depth)) (Some BadToken) ≡ None → (b ≡ false) × (c ≡ true)
    by_tests true false true e = (refl, refl)
    by_tests true false false e = cc
    by_tests true true c e = cc
    by_tests false b c e = cc

pub leaf_fits : (count more at : ℕ) (n : Nest) (t : TermValue) (o : Option TextWhy) → HasRoom count more n → length (elements t) ≤ more
    → (o ≡ None → depth t + length n.begun ≤ 256) → TakenFits count (leaf strict n at t o)
leaf_fits count more at n t None r few deep = completed_fits count at n.begun t r.shallow r.apart (deep refl, omega arith)
leaf_fits count more at n t (Some why) r few deep = tt

pub open_fits : (count more at : ℕ) (n : Nest) (frame : Frame) (o : Option TextWhy) → HasRoom count more n → (o ≡ None → length n.begun < 256)
    → deep_of frame ≡ 0 → load_of frame ≡ 0 → IsApart frame → TakenFits count (open_term strict n at frame o)
open_fits count more at n frame None r low flat none apart = record {
  shallow = (let few = low refl in omega arith, r.shallow);
  apart = (apart, r.apart);
  place = tt;
  key = tt;
  light = omega arith;
}
open_fits count more at n frame (Some why) r low flat none apart = tt

-- ---- segments

pub few_bits : (count : ℕ) (v : ℤ) → length (last_bits count v) ≤ 8
few_bits count (pos v) = omega (arith, length-drop (8 - count) (byte_bits v))
few_bits count (negsuc v) = omega arith

pub few_sized : (v size : ℤ) → length (sized_bits v size) ≤ 8
few_sized v (pos size) = few_bits size v
few_sized v (negsuc size) = omega arith

pub segment_fits : (count at : ℕ) (n : Nest) (v : ℤ) → HasRoom count 8 n → TakenFits count (take_segment strict n at v)
segment_fits count at n v r =
    cond_both (not (is_byte v)) (Err (at, BadToken)) (Ok (record n { place = value at v })) (TakenFits count) (λ e. tt)
    (λ e. record { shallow = r.shallow; apart = r.apart; place = tt; key = tt; light = omega arith })

pub size_fits : (count at : ℕ) (n : Nest) (v size : ℤ) → HasRoom count 8 n → TakenFits count (take_size strict n at v size)
size_fits count at n v size r =
    cond_both (not (is_sized v size)) (Err (at, BadToken)) (Ok (record n { place = sized (sized_bits v size) })) (TakenFits count) (λ e. tt)
    (λ e. record { shallow = r.shallow; apart = r.apart; place = tt; key = tt; light = omega (arith, few_sized v size) })

flat_bits : (frame : Frame) (more : List Bool) (levels : ℕ) → deep_of frame + levels ≤ 256 → deep_of (with_bits frame more) + levels ≤ 256
flat_bits (in_bits bs) more levels h = h
flat_bits other more levels h = h

bits_shallow : (bs : List Begun) (more : List Bool) → AreShallow bs → AreShallow (grown bs more)
bits_shallow [] more shallow = tt
bits_shallow (b ∷ bs) more (deep, others) = (flat_bits b.frame more _ deep, others)

apart_bits : (frame : Frame) (more : List Bool) → IsApart frame → IsApart (with_bits frame more)
apart_bits (in_bits bs) more h = tt
apart_bits other more h = h

bits_apart : (bs : List Begun) (more : List Bool) → AreApart bs → AreApart (grown bs more)
bits_apart [] more apart = tt
bits_apart (b ∷ bs) more (first, others) = (apart_bits b.frame more first, others)

load_bits : (frame : Frame) (more : List Bool) → load_of (with_bits frame more) ≤ load_of frame + length more
load_bits (in_bits bs) more = omega (arith, length-append bs more)
load_bits other more = omega arith

bits_load : (bs : List Begun) (more : List Bool) → load (grown bs more) ≤ load bs + length more
bits_load [] more = omega arith
bits_load (b ∷ bs) more = omega (arith, load_bits b.frame more)

pub bytes_fit : (count at : ℕ) (n : Nest) (cs : List ℕ) → HasRoom count (8 * length cs) n → TakenFits count (take_bytes strict n at cs)
bytes_fit count at n cs r =
    cond_both (not (each (λ c. nat_lt c 256) cs)) (Err (at, BadToken)) (Ok (record { begun = grown n.begun (flat_map byte_bits cs); place = segment }))
    (TakenFits count) (λ e. tt)
    (λ e. record {
      shallow = bits_shallow n.begun (flat_map byte_bits cs) r.shallow;
      apart = bits_apart n.begun (flat_map byte_bits cs) r.apart;
      place = tt;
      key = tt;
      light = omega (arith, bits_load n.begun (flat_map byte_bits cs), length-bits cs);
    })
