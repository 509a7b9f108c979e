-- Reading a term piece by piece: the terms that are begun, the innermost first, and what reading answers behind a part
-- of the innermost one. This project's own.
use Rattle.std.specs.Prelude.{ℕ, ◌-◌, cond, not, List, [], ◌∷◌, ◌++◌, length, Ok, Err}
use Rattle.std.specs.List.{list_any}
use Rattle.dets_term.specs.TermValue.{TermValue, tuple, nil, chain, map_of}
use Rattle.dets_term.specs.Order.{is_same}
use Rattle.dets_term.specs.Pairs.{keys, placed}
use Rattle.etf_model.specs.declared.fault.EtfFault.TheVariants.{RepeatedKey}
use Rattle.etf_model.specs.Format.{Format, Position, Reading, go_on, followed, changed, times}
use Rattle.etf_model.specs.Spelling.{part_at, tail_at, outermost, pairs_after}
use Rattle.etf_codec.specs.declared.frame.Begun.{Begun}
use Rattle.etf_codec.specs.declared.frame.Frame.{Frame}
use Rattle.etf_codec.specs.declared.frame.Frame.TheVariants.{Element, Item, Tail, Key, Value}

-- how many levels are left below the parts of the innermost of these
abbrev pub levels_below : List Begun → ℕ
levels_below begun = 256 - length begun

-- the rest of a map, behind these pairs
abbrev pub map_behind : ℕ → List (TermValue × TermValue) → ℕ → Format TermValue
map_behind levels pairs n = changed (pairs_after (part_at levels) pairs n) map_of

-- What reading the rest of a begun term answers, behind its part t that begins at an offset. The parts have so many levels.
abbrev pub rest_of : Frame → (levels start at : ℕ) → TermValue → Position → Reading TermValue
rest_of (Element n ts) levels start at t position =
    (changed (times n (part_at levels)) (λ us. tuple (chain (ts ++ t ∷ us) nil))).read start position
rest_of (Item n ts) levels start at t position =
    (followed (times n (part_at levels)) (λ us. changed (tail_at levels) (λ end. chain (ts ++ t ∷ us) end))).read start position
rest_of (Tail ts) levels start at t position = Ok (chain ts t, position)
rest_of (Key n pairs) levels start at k position =
    cond (not (list_any (is_same k) (keys pairs)))
    ((followed (part_at levels) (λ v. map_behind levels (placed (k, v) pairs) n)).read start position) (Err (RepeatedKey at))
rest_of (Value n pairs k) levels start at v position = (map_behind levels (placed (k, v) pairs) n).read start position

-- what reading answers behind a part, that begins at an offset, of the innermost begun term
abbrev pub resume : List Begun → ℕ → TermValue → Position → Reading TermValue
resume [] at t position = Ok (t, position)
resume (b ∷ begun) at t position =
    go_on (rest_of b.frame (levels_below (b ∷ begun)) b.start at t position) (λ whole behind. resume begun b.start whole behind)

-- the part that comes next
abbrev pub wanted_by : Frame → ℕ → Format TermValue
wanted_by (Tail ts) levels = tail_at levels
wanted_by other levels = part_at levels

abbrev pub wanted : List Begun → Format TermValue
wanted [] = outermost
wanted (b ∷ begun) = wanted_by b.frame (levels_below (b ∷ begun))

-- what reading answers at a position where the next part begins
abbrev pub reading_at : List Begun → Position → Reading TermValue
reading_at begun position = go_on ((wanted begun).read position.offset position) (λ t behind. resume begun position.offset t behind)
