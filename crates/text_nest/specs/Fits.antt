-- What keeps the terms of a text within the limits of terms, so that each can be built: how deep and how large they are.
use Rattle.std.specs.Prelude.{◌≡◌, ℕ, ◌+◌, ◌*◌, ◌<◌, ◌≤◌, ◌^◌, max, false, List, [], ◌∷◌, length, Option, Some, None}
use Rattle.std.specs.List.{list_any}
use Rattle.dets_term.specs.TermValue.{TermValue, elements, depth}
use Rattle.dets_term.specs.Order.{is_same}
use Rattle.dets_term.specs.Pairs.{keys}
use Rattle.dets_term.specs.Parts.{deepest, deepest_of_pairs}
use Rattle.text_model.specs.Nest.{Frame, in_tuple, in_list, in_tail, in_map, in_value, in_bits, Begun, Place, after, value, sized, Nest, repeats_in}

-- the depth of an open term's deepest part
abbrev pub deep_of : Frame → ℕ
deep_of (in_tuple ts) = deepest ts
deep_of (in_list ts) = deepest ts
deep_of (in_tail ts) = deepest ts
deep_of (in_map pairs) = deepest_of_pairs pairs
deep_of (in_value pairs k) = max (deepest_of_pairs pairs) (depth k)
deep_of (in_bits bs) = 0

-- how many parts it has, or bits
abbrev pub load_of : Frame → ℕ
load_of (in_tuple ts) = length ts
load_of (in_list ts) = length ts
load_of (in_tail ts) = length ts
load_of (in_map pairs) = length pairs
load_of (in_value pairs k) = length pairs
load_of (in_bits bs) = length bs

-- a key in front of its value stands in its map once
abbrev pub IsApart : Frame → Type 0
IsApart (in_value pairs k) = list_any (is_same k) (keys pairs) ≡ false
IsApart other = Unit {0}

-- an open term, and a part of it, that the code can build
pub record FrameFits (frame : Frame) : Type 0 where
  pub shallow : deep_of frame < 256
  pub light : load_of frame < 2 ^ 31
  pub apart : IsApart frame

abbrev pub PartsFit : List TermValue → Type 0
PartsFit ts = (deepest ts < 256) × (length ts ≤ 2 ^ 31)

abbrev pub PairsFit : List (TermValue × TermValue) → Type 0
PairsFit pairs = (deepest_of_pairs pairs < 256) × (length pairs ≤ 2 ^ 31)

pub record PartFits (t : TermValue) : Type 0 where
  pub shallow : depth t < 256
  pub light : length (elements t) < 2 ^ 31

-- the part in front of a closing mark, where there is one
abbrev pub LastFits : Option (Option TermValue) → Type 0
LastFits None = Unit {0}
LastFits (Some None) = Unit {0}
LastFits (Some (Some t)) = PartFits t

-- open terms, innermost first
abbrev pub AreShallow : List Begun → Type 0
AreShallow [] = Unit {0}
AreShallow (b ∷ bs) = (deep_of b.frame + length (b ∷ bs) ≤ 256) × AreShallow bs

abbrev pub AreApart : List Begun → Type 0
AreApart [] = Unit {0}
AreApart (b ∷ bs) = IsApart b.frame × AreApart bs

abbrev pub load : List Begun → ℕ
load [] = 0
load (b ∷ bs) = load_of b.frame + load bs

-- the part in front of the next token
abbrev pub IsShallow : List Begun → Place → Type 0
IsShallow bs (after start t) = depth t + length bs ≤ 256
IsShallow bs other = Unit {0}

-- it is no key that stands in its map already
abbrev pub IsNew : List Begun → Place → Type 0
IsNew bs (after start t) = repeats_in bs t ≡ false
IsNew bs other = Unit {0}

abbrev pub place_load : Place → ℕ
place_load (after start t) = length (elements t)
place_load (value start v) = 8
place_load (sized bs) = length bs
place_load other = 0

-- what is open behind so many bytes of a text: each of them adds at most eight bits or parts
pub record IsFit (count : ℕ) (n : Nest) : Type 0 where
  pub shallow : AreShallow n.begun
  pub apart : AreApart n.begun
  pub place : IsShallow n.begun n.place
  pub key : IsNew n.begun n.place
  pub light : load n.begun + place_load n.place ≤ 8 * count
