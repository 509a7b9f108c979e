-- What stands behind a tag: a whole term, one that is begun, or a big integer. This project's own.
use Rattle.std.specs.Prelude.{◌≡◌, ◌≢◌, ℕ, suc, ◌≤◌, [], ◌⊎◌, ◌++◌, Result, Ok, Err}
use Rattle.dets_term.specs.TermValue.{TermValue, tuple, nil, chain, elements, depth}
use Rattle.dets_term.specs.Pairs.{placed}
use Rattle.etf_model.specs.declared.fault.EtfFault.{EtfFault}
use Rattle.etf_model.specs.declared.fault.EtfFault.TheVariants.{Memory}
use Rattle.etf_model.specs.declared.tags.TheConstants.{STRING, LIST}
use Rattle.etf_model.specs.Format.{Format, Position, Reading, followed, changed, times}
use Rattle.etf_model.specs.Spelling.{part_at, tail_at}
use Rattle.etf_codec.specs.declared.frame.Frame.{Frame}
use Rattle.etf_codec.specs.declared.frame.Frame.TheVariants.{Element, Item, Tail, Key, Value}
use Rattle.etf_codec.specs.declared.head.Head.{Head}
use Rattle.etf_codec.specs.declared.head.Head.TheVariants.{Whole, Open, Number}
use Rattle.etf_codec.specs.BigIntegers.{IsBig, integer_read}
use Rattle.etf_codec.specs.GoesOn.{GoesOn}
use Rattle.etf_codec.specs.Machine.{map_behind}
use Rattle.etf_codec.specs.Begun.{FrameFits, MayBegin}

-- what reading the parts of a begun term answers, from the next one on
abbrev pub parts_read : Frame → (levels start : ℕ) → Position → Reading TermValue
parts_read (Element n ts) levels start position = (changed (times (suc n) (part_at levels)) (λ us. tuple (chain (ts ++ us) nil))).read start position
parts_read (Item n ts) levels start position =
    (followed (times (suc n) (part_at levels)) (λ us. changed (tail_at levels) (λ end. chain (ts ++ us) end))).read start position
parts_read (Tail ts) levels start position = (changed (tail_at levels) (λ end. chain ts end)).read start position
parts_read (Key n pairs) levels start position = (map_behind levels pairs (suc n)).read start position
parts_read (Value n pairs k) levels start position = (followed (part_at levels) (λ v. map_behind levels (placed (k, v) pairs) n)).read start position

-- what is answered behind the tag of the term that begins at an offset, below which so many levels are left
abbrev pub HeadReads : Format TermValue → (levels start : ℕ) → Position → Position → Result Head EtfFault → Type 0
HeadReads F levels start before behind (Ok (Whole t)) = F.read start before ≡ Ok (t, behind)
HeadReads F levels start before behind (Ok (Open frame)) = GoesOn (F.read start) (parts_read frame levels start) before behind
HeadReads F levels start before behind (Ok (Number b)) = (b.start ≡ start) × GoesOn (F.read start) (integer_read b) before behind
HeadReads F levels start before behind (Err fault) = (fault ≡ Memory) ⊎ (F.read start before ≡ Err fault)

-- A term with no more levels than are left, which is a list with elements only behind the tags 107 and 108, or a begun
-- one within its limits, which is a list only behind 108.
abbrev pub HeadFits : (tag levels : ℕ) → Result Head EtfFault → Type 0
HeadFits tag levels (Ok (Whole t)) = (depth t ≤ suc levels) × (tag ≢ STRING → tag ≢ LIST → elements t ≡ [])
HeadFits tag levels (Ok (Open frame)) = (1 ≤ levels) × FrameFits frame levels × (tag ≢ LIST → (outer : Frame) → MayBegin outer frame)
HeadFits tag levels (Ok (Number b)) = IsBig b
HeadFits tag levels (Err fault) = Unit {0}
