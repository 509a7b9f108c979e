-- The header of a body that was written is read.
use Rattle.std.proofs.Common.{◌≡◌, ◌≤◌, ◌<◌, ℕ, ◌*◌, ◌^◌, true, ◌==◌, nat_le, List, ◌++◌, replicate, Option, Some, None, Ok, refl, sym, ap, ◌∙◌, arith}
use Rattle.std.proofs.lemmas.Bool.{and_parts, leb-true, ltb-true, eqb-true, eq-eqb, cond-false, ne_eqb}
use Rattle.byteorder.specs.Endian.{big_bytes}
use Rattle.byteorder.specs.Numbers.{big_number-reads_back}
use Rattle.term_model.specs.declared.kind.Kind.{Kind}
use Rattle.term_model.specs.declared.kind.Kind.TheVariants.{Set, Bag, DuplicateBag}
use Rattle.file_model.specs.declared.head.Head.{Head}
use Rattle.file_model.specs.declared.head.FileState.{FileState}
use Rattle.file_model.specs.declared.head.FileState.TheVariants.{Closed, Dirty}
use Rattle.file_model.specs.Header.{the_version, units_per_segment, most_segments, state_number, state_of, kind_number, kind_of, no_unit}
use Rattle.file_model.specs.Header.{index_number, index_of, may_name, is_allowed, if_allowed, number_at, body_of, head_in}

-- the fields of a header that is allowed
record Allowed (h : Head) : Type 0 where
  version : h.version ≡ the_version
  keypos : h.keypos ≤ 65535
  most : h.max_segments ≤ most_segments
  segments : h.segments ≤ h.max_segments
  index : may_name h.state (units_per_segment h * h.segments) h.index ≡ true

allowed_fields : (h : Head) → is_allowed h ≡ true → Allowed h
allowed_fields h e =
    let named = may_name h.state (units_per_segment h * h.segments) h.index in
    let p0 = and_parts (h.version == the_version) _ e in
    let p1 = and_parts (nat_le 1 h.keypos) _ p0.1 in
    let p2 = and_parts (nat_le h.keypos 65535) _ p1.1 in
    let p3 = and_parts (nat_le 1 h.max_segments) _ p2.1 in
    let p4 = and_parts (nat_le h.max_segments most_segments) _ p3.1 in
    let p5 = and_parts (nat_le h.segments h.max_segments) named p4.1 in
    record {
      version = eqb-true h.version the_version p0.0;
      keypos = leb-true h.keypos 65535 p2.0;
      most = leb-true h.max_segments most_segments p4.0;
      segments = leb-true h.segments h.max_segments p5.0;
      index = p5.1;
    }

state_back : (s : FileState) → state_of (state_number s) ≡ Some s
state_back Closed = refl
state_back Dirty = refl

kind_back : (k : Kind) → kind_of (kind_number k) ≡ Some k
kind_back Set = refl
kind_back Bag = refl
kind_back DuplicateBag = refl

index_below : (s : FileState) (units : ℕ) (i : Option ℕ) → units < no_unit → may_name s units i ≡ true → index_number i < 256 ^ 4
index_below s units None l e = omega arith
index_below Closed units (Some u) l e = let below = ltb-true u units e in omega arith
index_below Dirty units (Some u) l e = absurd (cc e)

index_back : (s : FileState) (units : ℕ) (i : Option ℕ) → units < no_unit → may_name s units i ≡ true → index_of (index_number i) ≡ i
index_back s units None l e = refl
index_back Closed units (Some u) l e =
    let below = ltb-true u units e in
    cond-false (u == no_unit) None (Some u) (ne_eqb u no_unit (λ same. omega arith))
index_back Dirty units (Some u) l e = absurd (cc e)

with_numbers : (h : Head) (k s m : ℕ) (i : Option ℕ) → is_allowed h ≡ true → the_version ≡ h.version → k ≡ h.keypos → s ≡ h.segments
    → m ≡ h.max_segments → i ≡ h.index
    → if_allowed (record { version = the_version; state = h.state; kind = h.kind; keypos = k; segments = s; max_segments = m; index = i }) ≡ Ok h
with_numbers h k s m i ok ev ek es em ei =
    let same : record { version = the_version; state = h.state; kind = h.kind; keypos = k; segments = s; max_segments = m; index = i } ≡ h =
    λ j. record { version = ev j; state = h.state; kind = h.kind; keypos = ek j; segments = es j; max_segments = em j; index = ei j } in
    ap if_allowed same ∙ rw ok refl

number_back : (x : ℕ) (rest : List ℕ) → x < 256 ^ 4 → number_at (big_bytes 4 x ++ rest) 0 ≡ x
number_back x rest l = big_number-reads_back 4 x rest l

pub header_back : (h : Head) → is_allowed h ≡ true → head_in (body_of h) ≡ Ok h
header_back h ok =
    let f = allowed_fields h ok in
    let version : (h.version == the_version) ≡ true = eq-eqb h.version the_version f.version in
    let units : units_per_segment h * h.segments < no_unit = omega (arith, f.most, f.segments) in
    let four = big_bytes 4 (index_number h.index) ++ replicate 8 0 in
    let three = big_bytes 4 h.max_segments ++ four in
    let two = big_bytes 4 h.segments ++ three in
    rw (version, state_back h.state, kind_back h.kind)
    (with_numbers h (number_at (body_of h) 8) (number_at (body_of h) 12) (number_at (body_of h) 16) (index_of (number_at (body_of h) 20)) ok
    (sym f.version)
    (number_back h.keypos two (omega (arith, f.keypos)))
    (number_back h.segments three (omega (arith, f.most, f.segments)))
    (number_back h.max_segments four (omega (arith, f.most)))
    (ap index_of (number_back (index_number h.index) (replicate 8 0) (index_below h.state (units_per_segment h * h.segments) h.index units f.index))
    ∙ index_back h.state (units_per_segment h * h.segments) h.index units f.index))
