-- What tokens stand behind a nest: those of each term that is open, and of the part behind which the next token stands.
use Rattle.std.proofs.Common.{◌≡◌, ℕ, suc, ◌+◌, ◌<◌, zero, ℤ, Bool, true, false, ◌&&◌, nat_lt, List, [], ◌∷◌, ◌++◌, length, refl, sym, subst, arith}
use Rattle.std.specs.List.{flat_map}
use Rattle.dets_term.specs.TermValue.{TermValue}
use Rattle.dets_term.specs.BitString.{byte_bits}
use Rattle.dets_term.specs.Pairs.{keys, repeats}
use Rattle.text_model.specs.declared.mark.Mark.{Mark}
use Rattle.text_model.specs.declared.mark.Mark.TheVariants.{OpenTuple, OpenMap, OpenList, OpenBits, CloseList, Colon}
use Rattle.text_model.specs.Token.{Token, mark, number, string}
use Rattle.text_model.specs.Characters.{each}
use Rattle.text_model.specs.Grammar.{Rules, Separated, EndsList, IsPair, all_placed, is_byte, is_sized, sized_bits, IsSegment, Text, IsText}
use Rattle.text_model.specs.Nest.{Frame, in_tuple, in_list, in_tail, in_map, in_value, in_bits, Begun, Place, want, opened, after, value, colon}
use Rattle.text_model.specs.Nest.{segment, sized, stopped, wants, repeats_in}
use Rattle.text_model.specs.Located.{tokens_of}
use Rattle.text_model.proofs.ItemsBefore.{AreBefore}

-- the opening mark of a term
abbrev pub opening : Frame → Mark
opening (in_tuple parts) = OpenTuple
opening (in_list parts) = OpenList
opening (in_tail parts) = OpenList
opening (in_map pairs) = OpenMap
opening (in_value pairs k) = OpenMap
opening (in_bits bs) = OpenBits

-- it has no part yet
abbrev pub IsEmpty : Frame → Type 0
IsEmpty (in_tuple parts) = parts ≡ []
IsEmpty (in_list parts) = parts ≡ []
IsEmpty (in_map pairs) = pairs ≡ []
IsEmpty (in_bits bs) = bs ≡ []
IsEmpty other = ⊥

-- some tokens are inside an open term, from behind its opening mark to where its next part may begin
abbrev pub IsInside : Rules → (TermValue → List Token → List Token → Type 0) → Frame → List Token → Type 0
IsInside rules Part (in_tuple parts) inside = (tokens rest : List Token) → tokens ≡ inside ++ rest → AreBefore Part parts tokens rest
IsInside rules Part (in_list parts) inside = (tokens rest : List Token) → tokens ≡ inside ++ rest → AreBefore Part parts tokens rest
IsInside rules Part (in_tail parts) inside =
    (tail : TermValue) (tokens middle rest : List Token) → tokens ≡ inside ++ middle → Part tail middle (mark CloseList ∷ rest)
    → Separated Part (EndsList Part tail) parts tokens rest
IsInside rules Part (in_map sorted) inside =
    (pairs : List (TermValue × TermValue)) × (sorted ≡ all_placed [] pairs) × (rules.distinct ≡ true → repeats (keys pairs) ≡ false)
    × ((tokens rest : List Token) → tokens ≡ inside ++ rest → AreBefore (IsPair Part) pairs tokens rest)
IsInside rules Part (in_value sorted k) inside =
    (pairs : List (TermValue × TermValue)) × (sorted ≡ all_placed [] pairs) × (rules.distinct ≡ true → repeats (k ∷ keys pairs) ≡ false)
    × ((v : TermValue) (tokens middle rest : List Token) → tokens ≡ inside ++ middle → Part v middle rest
    → (own : List Token) × AreBefore (IsPair Part) pairs tokens own × IsPair Part (k, v) own rest)
IsInside rules Part (in_bits bs) inside =
    (segments : List (List Bool)) × (bs ≡ flat_map (λ b. b) segments)
    × ((tokens rest : List Token) → tokens ≡ inside ++ rest → AreBefore (IsSegment rules) segments tokens rest)

-- These terms are open behind some tokens, where the next part of the innermost one may begin, which may have so many levels.
abbrev pub AreOpen : Rules → ℕ → List Begun → List (ℕ × Token) → Type 0
AreOpen rules levels [] ps = (ps ≡ []) × (levels ≡ rules.levels)
AreOpen rules levels (b ∷ bs) ps =
    (outer : List (ℕ × Token)) × (inside : List (ℕ × Token)) × (ps ≡ outer ++ (b.start, mark (opening b.frame)) ∷ inside)
    × IsInside rules (Text rules levels) b.frame (tokens_of inside) × AreOpen rules (suc levels) bs outer

-- behind an opening mark
abbrev pub AreOpened : Rules → ℕ → List Begun → List (ℕ × Token) → Type 0
AreOpened rules levels [] ps = ⊥
AreOpened rules levels (b ∷ bs) ps =
    (outer : List (ℕ × Token)) × (ps ≡ outer ++ (b.start, mark (opening b.frame)) ∷ []) × IsEmpty b.frame × AreOpen rules (suc levels) bs outer

-- behind a whole part of the innermost term, or behind the whole term, which began at an offset
pub record IsWhole (rules : Rules) (bs : List Begun) (start : ℕ) (t : TermValue) (ps : List (ℕ × Token)) : Type 0 where
  pub levels : ℕ
  pub before : List (ℕ × Token)
  pub first : Token
  pub more : List (ℕ × Token)
  pub parted : ps ≡ before ++ (start, first) ∷ more
  pub outside : AreOpen rules levels bs before
  pub text : (rest : List Token) → Text rules levels t (first ∷ (tokens_of more ++ rest)) rest

-- behind a string that is a segment of the innermost term
abbrev pub IsBehindString : Rules → List Begun → List (ℕ × Token) → Type 0
IsBehindString rules [] ps = ⊥
IsBehindString rules (b ∷ bs) ps =
    (levels : ℕ) × (before : List (ℕ × Token)) × (at : ℕ) × (cs : List ℕ) × (own : List Bool) × (ps ≡ before ++ (at, string cs) ∷ [])
    × (b.frame ≡ in_bits (own ++ flat_map byte_bits cs)) × (rules.ranged ≡ true → each (λ c. nat_lt c 256) cs ≡ true)
    × AreOpen rules levels (record { start = b.start; frame = in_bits own } ∷ bs) before

-- what stands behind a nest, by the place of the next token
abbrev pub IsAt : Rules → List Begun → Place → List (ℕ × Token) → Type 0
IsAt rules bs want ps = (levels : ℕ) × AreOpen rules levels bs ps
IsAt rules bs opened ps = (levels : ℕ) × AreOpened rules levels bs ps
IsAt rules bs (after start t) ps = IsWhole rules bs start t ps × ((rules.distinct && repeats_in bs t) ≡ false)
IsAt rules bs (value start v) ps =
    (levels : ℕ) × (before : List (ℕ × Token)) × (at : ℕ) × (ps ≡ before ++ (at, number v) ∷ []) × (rules.ranged ≡ true → is_byte v ≡ true)
    × AreOpen rules levels bs before
IsAt rules bs (colon start v) ps =
    (levels : ℕ) × (before : List (ℕ × Token)) × (at : ℕ) × (late : ℕ) × (ps ≡ before ++ (at, number v) ∷ (late, mark Colon) ∷ [])
    × AreOpen rules levels bs before
IsAt rules bs segment ps = IsBehindString rules bs ps
IsAt rules bs (sized own) ps =
    (levels : ℕ) × (before : List (ℕ × Token)) × (at : ℕ) × (late : ℕ) × (last : ℕ) × (v : ℤ) × (n : ℤ)
    × (ps ≡ before ++ (at, number v) ∷ (late, mark Colon) ∷ (last, number n) ∷ []) × (rules.ranged ≡ true → is_sized v n ≡ true)
    × (own ≡ sized_bits v n) × AreOpen rules levels bs before
IsAt rules bs (stopped t) ps = IsText rules t (tokens_of ps)

-- ---- where a part may begin

-- a term behind its opening mark has no part yet
empty_inside : (rules : Rules) (Part : TermValue → List Token → List Token → Type 0) (frame : Frame) → IsEmpty frame → IsInside rules Part frame []
empty_inside rules Part (in_tuple parts) e = λ tokens rest same. subst (λ us. AreBefore Part us tokens rest) (sym e) same
empty_inside rules Part (in_list parts) e = λ tokens rest same. subst (λ us. AreBefore Part us tokens rest) (sym e) same
empty_inside rules Part (in_tail parts) e = absurd e
empty_inside rules Part (in_map pairs) e = ([], e, (λ d. refl), (λ tokens rest same. same))
empty_inside rules Part (in_value pairs k) e = absurd e
empty_inside rules Part (in_bits bs) e = ([], e, (λ tokens rest same. same))

open_from_opened : (rules : Rules) (levels : ℕ) (bs : List Begun) (ps : List (ℕ × Token)) → AreOpened rules levels bs ps → AreOpen rules levels bs ps
open_from_opened rules levels [] ps o = absurd o
open_from_opened rules levels (b ∷ bs) ps (outer, parted, empty, outside) =
    (outer, [], parted, empty_inside rules (Text rules levels) b.frame empty, outside)

pub open_at : (rules : Rules) (bs : List Begun) (place : Place) (ps : List (ℕ × Token)) → wants place ≡ true → IsAt rules bs place ps
    → (levels : ℕ) × AreOpen rules levels bs ps
open_at rules bs want ps w is = is
open_at rules bs opened ps w is = (is.0, open_from_opened rules is.0 bs ps is.1)
open_at rules bs other ps w is = cc

-- the levels of a part and the number of open terms
pub levels_of : (rules : Rules) (levels : ℕ) (bs : List Begun) (ps : List (ℕ × Token)) → AreOpen rules levels bs ps → levels + length bs ≡ rules.levels
levels_of rules levels [] ps o = let same = o.1 in omega arith
levels_of rules levels (b ∷ bs) ps (outer, inside, parted, is, outside) =
    let more = levels_of rules (suc levels) bs outer outside in omega arith

-- where there is room for a term, a part may have some level
pub room_for : (rules : Rules) (levels : ℕ) (bs : List Begun) (ps : List (ℕ × Token)) → AreOpen rules levels bs ps → length bs < rules.levels
    → (deep : ℕ) × AreOpen rules (suc deep) bs ps
room_for rules zero bs ps o low = let all = levels_of rules zero bs ps o in absurd (omega arith)
room_for rules (suc levels) bs ps o low = (levels, o)
