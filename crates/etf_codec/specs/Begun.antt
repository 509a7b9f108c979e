-- What begun terms keep within the limits of terms, so that each can be built. This project's own.
use Rattle.std.specs.Prelude.{◌≡◌, ℕ, ◌+◌, ◌^◌, ◌<◌, ◌≤◌, false, List, [], ◌∷◌, length}
use Rattle.std.specs.List.{list_any}
use Rattle.dets_term.specs.TermValue.{TermValue, elements, depth}
use Rattle.dets_term.specs.Order.{is_same}
use Rattle.dets_term.specs.Pairs.{keys}
use Rattle.dets_term.specs.Parts.{deepest, deepest_of_pairs}
use Rattle.etf_codec.specs.declared.frame.Begun.{Begun}
use Rattle.etf_codec.specs.declared.frame.Frame.{Frame}
use Rattle.etf_codec.specs.declared.frame.Frame.TheVariants.{Element, Item, Tail, Key, Value}
use Rattle.etf_codec.specs.Machine.{levels_below}

-- parts of at most so many levels, fewer than 2 ^ 32 with those to come
abbrev pub PartsFit : List TermValue → (coming levels : ℕ) → Type 0
PartsFit ts coming levels = (deepest ts ≤ levels) × (length ts + coming < 2 ^ 32)

abbrev pub PairsFit : List (TermValue × TermValue) → (coming levels : ℕ) → Type 0
PairsFit pairs coming levels = (deepest_of_pairs pairs ≤ levels) × (length pairs + coming < 2 ^ 32)

-- what stands before the part that is read next
abbrev pub FrameFits : Frame → ℕ → Type 0
FrameFits (Element ahead parts) levels = PartsFit parts (ahead + 1) levels
FrameFits (Item ahead parts) levels = PartsFit parts (ahead + 1) levels
FrameFits (Tail parts) levels = PartsFit parts 0 levels
FrameFits (Key ahead pairs) levels = PairsFit pairs (ahead + 1) levels
FrameFits (Value ahead pairs key) levels = PairsFit pairs (ahead + 1) levels × (depth key ≤ levels) × (list_any (is_same key) (keys pairs) ≡ false)

-- a term of at most so many levels that may be the next part: the tail of a list is no list with elements
abbrev pub PartFits : Frame → ℕ → TermValue → Type 0
PartFits (Tail parts) levels t = (depth t ≤ levels) × (elements t ≡ [])
PartFits other levels t = depth t ≤ levels

-- the next part may be begun by this frame: a list is not begun where a tail is wanted
abbrev pub MayBegin : Frame → Frame → Type 0
MayBegin (Tail parts) (Item ahead ts) = ⊥
MayBegin (Tail parts) (Tail ts) = ⊥
MayBegin outer inner = Unit {0}

-- terms that are begun one in another
abbrev pub AreBegun : List Begun → Type 0
AreBegun [] = Unit {0}
AreBegun (b ∷ []) = FrameFits b.frame (levels_below (b ∷ []))
AreBegun (b ∷ c ∷ begun) = FrameFits b.frame (levels_below (b ∷ c ∷ begun)) × MayBegin c.frame b.frame × AreBegun (c ∷ begun)

-- a term that may be the next part of the innermost
abbrev pub MayCome : List Begun → TermValue → Type 0
MayCome [] t = depth t ≤ 256
MayCome (b ∷ begun) t = PartFits b.frame (levels_below (b ∷ begun)) t
