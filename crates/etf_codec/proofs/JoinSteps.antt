-- What joining a part to a begun term keeps.
use Rattle.std.proofs.Common.{◌≡◌, ℕ, zero, suc, ◌+◌, ◌-◌, ◌<◌, ◌≤◌, List, [], ◌∷◌, ◌++◌, length, Result, Ok, Err, ap, sym, ◌∙◌, subst, arith}
use Rattle.std.specs.Prelude.{◌⊎◌}
use mathlib.Core.Logic.{inl, inr}
use Rattle.std.proofs.lemmas.List.{length-append}
use Rattle.std.proofs.lemmas.List.Sorted.{IsPermutation-refl}
use Rattle.dets_term.specs.TermValue.{TermValue, tuple, nil, chain, map_of, elements, depth}
use Rattle.dets_term.specs.IsTerm.{AreAscending}
use Rattle.dets_term.specs.Pairs.{keys, placed, map_built}
use Rattle.dets_term.specs.PairSorts.{ascending_is_by_key}
use Rattle.dets_term.specs.Parts.{deepest, deepest-push, deepest_of_pairs}
use Rattle.etf_model.specs.declared.fault.EtfFault.{EtfFault}
use Rattle.etf_model.specs.Format.{Position}
use Rattle.etf_codec.specs.declared.frame.Begun.{Begun}
use Rattle.etf_codec.specs.declared.frame.Frame.{Frame}
use Rattle.etf_codec.specs.declared.frame.Frame.TheVariants.{Element, Item, Tail, Key, Value}
use Rattle.etf_codec.specs.declared.joining.Joined.{Joined}
use Rattle.etf_codec.specs.Joins.{JoinsWithin}
use Rattle.etf_codec.specs.Machine.{resume, reading_at}
use Rattle.etf_codec.specs.Begun.{PartsFit, PairsFit, FrameFits, PartFits, MayBegin}
use Rattle.etf_codec.proofs.Built.{one_made}
use Rattle.dets_term.specs.PairOrder.{length-placed, deepest-placed, map_built-within, depth-map_of}
use Rattle.etf_codec.proofs.Resuming.{element_more, item_more, item_last, value_more}

-- ---- limits

pub fit_more : (ts us : List TermValue) (t : TermValue) (ahead levels : ℕ) → 0 < ahead → us ≡ ts ++ t ∷ [] → PartsFit ts (ahead + 1) levels → depth t ≤ levels
    → PartsFit us (ahead - 1 + 1) levels
fit_more ts us t ahead levels h e p d = (
  omega (arith, ap deepest e, deepest-push ts t, p.0, d),
  omega (arith, ap length e, length-append ts (t ∷ []), p.1),
)

pub fit_last : (ts us : List TermValue) (t : TermValue) (ahead levels : ℕ) → us ≡ ts ++ t ∷ [] → PartsFit ts (ahead + 1) levels → depth t ≤ levels
    → PartsFit us 0 levels
fit_last ts us t ahead levels e p d = (
  omega (arith, ap deepest e, deepest-push ts t, p.0, d),
  omega (arith, ap length e, length-append ts (t ∷ []), p.1),
)

pub pairs_more : (ps qs : List (TermValue × TermValue)) (k v : TermValue) (ahead levels : ℕ) → 0 < ahead → qs ≡ placed (k, v) ps
    → PairsFit ps (ahead + 1) levels → depth k ≤ levels → depth v ≤ levels → PairsFit qs (ahead - 1 + 1) levels
pairs_more ps qs k v ahead levels h e p dk dv = (
  omega (arith, ap deepest_of_pairs e, deepest-placed (k, v) ps, p.0, dk, dv),
  omega (arith, ap length e, length-placed (k, v) ps, p.1),
)

pub pairs_last : (ps qs : List (TermValue × TermValue)) (k v : TermValue) (ahead levels : ℕ) → qs ≡ placed (k, v) ps → PairsFit ps (ahead + 1) levels
    → depth k ≤ levels → depth v ≤ levels → PairsFit qs 0 levels
pairs_last ps qs k v ahead levels e p dk dv = (
  omega (arith, ap deepest_of_pairs e, deepest-placed (k, v) ps, p.0, dk, dv),
  omega (arith, ap length e, length-placed (k, v) ps, p.1),
)

-- a term that is no list with elements may stand anywhere
pub part_fits : (outer : Frame) (levels : ℕ) (t : TermValue) → depth t ≤ levels → elements t ≡ [] → PartFits outer levels t
part_fits (Element ahead ts) levels t d e = d
part_fits (Item ahead ts) levels t d e = d
part_fits (Tail ts) levels t d e = (d, e)
part_fits (Key ahead ps) levels t d e = d
part_fits (Value ahead ps k) levels t d e = d

-- a list may stand where it was begun
pub list_fits : (outer : Frame) (ts : List TermValue) (levels : ℕ) (t : TermValue) → depth t ≤ levels → MayBegin outer (Tail ts) → PartFits outer levels t
list_fits (Element ahead us) ts levels t d m = d
list_fits (Item ahead us) ts levels t d m = d
list_fits (Tail us) ts levels t d m = absurd m
list_fits (Key ahead ps) ts levels t d m = d
list_fits (Value ahead ps k) ts levels t d m = d

-- a list goes on where it was begun
pub may_go_on : (outer : Frame) (ahead n : ℕ) (ts us : List TermValue) → MayBegin outer (Item ahead ts) → MayBegin outer (Item n us)
may_go_on (Element m vs) ahead n ts us may = tt
may_go_on (Item m vs) ahead n ts us may = tt
may_go_on (Tail vs) ahead n ts us may = may
may_go_on (Key m ps) ahead n ts us may = tt
may_go_on (Value m ps k) ahead n ts us may = tt

pub may_end : (outer : Frame) (ahead : ℕ) (ts us : List TermValue) → MayBegin outer (Item ahead ts) → MayBegin outer (Tail us)
may_end (Element m vs) ahead ts us may = tt
may_end (Item m vs) ahead ts us may = tt
may_end (Tail vs) ahead ts us may = may
may_end (Key m ps) ahead ts us may = tt
may_end (Value m ps k) ahead ts us may = tt

-- a tuple and a map may be begun anywhere
pub may_begin_key : (outer : Frame) (ahead : ℕ) (ps : List (TermValue × TermValue)) → MayBegin outer (Key ahead ps)
may_begin_key (Element m vs) ahead ps = tt
may_begin_key (Item m vs) ahead ps = tt
may_begin_key (Tail vs) ahead ps = tt
may_begin_key (Key m qs) ahead ps = tt
may_begin_key (Value m qs k) ahead ps = tt

pub may_begin_element : (outer : Frame) (ahead : ℕ) (ts : List TermValue) → MayBegin outer (Element ahead ts)
may_begin_element (Element m vs) ahead ts = tt
may_begin_element (Item m vs) ahead ts = tt
may_begin_element (Tail vs) ahead ts = tt
may_begin_element (Key m qs) ahead ts = tt
may_begin_element (Value m qs k) ahead ts = tt

-- ---- reading on

pub element_goes_on : (ahead start at : ℕ) (ts us : List TermValue) (t : TermValue) → 0 < ahead → us ≡ ts ++ t ∷ [] → (begun : List Begun) (position : Position)
    → resume (record { start = start; frame = Element ahead ts } ∷ begun) at t position ≡ reading_at
    (record { start = start; frame = Element (ahead - 1) us } ∷ begun) position
element_goes_on zero start at ts us t h e begun position = absurd (omega arith)
element_goes_on (suc n) start at ts us t h e begun position =
    element_more n start at ts t begun position
    ∙ ap (λ m. reading_at (record { start = start; frame = Element m (ts ++ t ∷ []) } ∷ begun) position) (omega arith)
    ∙ ap (λ vs. reading_at (record { start = start; frame = Element (suc n - 1) vs } ∷ begun) position) (sym e)

pub element_ends : (ahead start at : ℕ) (ts us : List TermValue) (t : TermValue) → ahead ≡ 0 → us ≡ ts ++ t ∷ [] → (begun : List Begun) (position : Position)
    → resume (record { start = start; frame = Element ahead ts } ∷ begun) at t position ≡ resume begun start (tuple (chain us nil)) position
element_ends ahead start at ts us t h e begun position =
    ap (λ n. resume (record { start = start; frame = Element n ts } ∷ begun) at t position) h
    ∙ ap (λ vs. resume begun start (tuple (chain vs nil)) position) (sym e)

pub item_goes_on : (ahead start at : ℕ) (ts us : List TermValue) (t : TermValue) → 0 < ahead → us ≡ ts ++ t ∷ [] → (begun : List Begun) (position : Position)
    → resume (record { start = start; frame = Item ahead ts } ∷ begun) at t position ≡ reading_at
    (record { start = start; frame = Item (ahead - 1) us } ∷ begun) position
item_goes_on zero start at ts us t h e begun position = absurd (omega arith)
item_goes_on (suc n) start at ts us t h e begun position =
    item_more n start at ts t begun position
    ∙ ap (λ m. reading_at (record { start = start; frame = Item m (ts ++ t ∷ []) } ∷ begun) position) (omega arith)
    ∙ ap (λ vs. reading_at (record { start = start; frame = Item (suc n - 1) vs } ∷ begun) position) (sym e)

pub items_end : (ahead start at : ℕ) (ts us : List TermValue) (t : TermValue) → ahead ≡ 0 → us ≡ ts ++ t ∷ [] → (begun : List Begun) (position : Position)
    → resume (record { start = start; frame = Item ahead ts } ∷ begun) at t position ≡ reading_at (record { start = start; frame = Tail us } ∷ begun) position
items_end ahead start at ts us t h e begun position =
    ap (λ n. resume (record { start = start; frame = Item n ts } ∷ begun) at t position) h ∙ item_last start at ts t begun position
    ∙ ap (λ vs. reading_at (record { start = start; frame = Tail vs } ∷ begun) position) (sym e)

pub value_goes_on : (ahead start at : ℕ) (ps qs : List (TermValue × TermValue)) (k v : TermValue) → 0 < ahead → qs ≡ placed (k, v) ps
    → (begun : List Begun) (position : Position)
    → resume (record { start = start; frame = Value ahead ps k } ∷ begun) at v position ≡ reading_at
    (record { start = start; frame = Key (ahead - 1) qs } ∷ begun) position
value_goes_on zero start at ps qs k v h e begun position = absurd (omega arith)
value_goes_on (suc n) start at ps qs k v h e begun position =
    value_more n start at ps k v begun position
    ∙ ap (λ m. reading_at (record { start = start; frame = Key m (placed (k, v) ps) } ∷ begun) position) (omega arith)
    ∙ ap (λ rs. reading_at (record { start = start; frame = Key (suc n - 1) rs } ∷ begun) position) (sym e)

pub values_end : (ahead start at : ℕ) (ps qs : List (TermValue × TermValue)) (k v : TermValue) → ahead ≡ 0 → qs ≡ placed (k, v) ps
    → (begun : List Begun) (position : Position)
    → resume (record { start = start; frame = Value ahead ps k } ∷ begun) at v position ≡ resume begun start (map_of qs) position
values_end ahead start at ps qs k v h e begun position =
    ap (λ n. resume (record { start = start; frame = Value n ps k } ∷ begun) at v position) h ∙ ap (λ rs. resume begun start (map_of rs) position) (sym e)

-- what was built is what was to be built
pub one_made_or : {A E : Type 0} (r : Result A E) (f : E) (t x : A) → r ≡ Ok t → (r ≡ Err f) ⊎ (r ≡ Ok x) → t ≡ x
one_made_or r f t x e (inl h) = let both : Ok t ≡ Err f = sym e ∙ h in cc
one_made_or r f t x e (inr h) = one_made r t x e h

-- a map of pairs in order
pub map_made : (ps qs : List (TermValue × TermValue)) (levels : ℕ) → ps ≡ qs → AreAscending (keys qs) → PairsFit qs 0 levels → levels < 256
    → map_built ps ≡ Ok (map_of qs)
map_made ps qs levels e up fits room =
    let order = ascending_is_by_key qs qs (IsPermutation-refl qs) up in
    ap map_built e ∙ map_built-within qs order.0 order.1 (omega (arith, fits.1)) (omega (arith, depth-map_of qs levels fits.0))

pub within_as : (b : Begun) (frame : Frame) (part : TermValue) (r : Result Joined EtfFault) → b.frame ≡ frame
    → ((levels : ℕ) → levels ≤ 255 → FrameFits frame levels → PartFits frame levels part → JoinsWithin (record { start = b.start; frame = frame }) levels r)
    → (levels : ℕ) → levels ≤ 255 → FrameFits b.frame levels → PartFits b.frame levels part → JoinsWithin b levels r
within_as b frame part r e h =
    subst (λ f. (levels : ℕ) → levels ≤ 255 → FrameFits f levels → PartFits f levels part → JoinsWithin (record { start = b.start; frame = f }) levels r)
    (sym e) h
