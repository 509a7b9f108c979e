-- The next part of what is begun.
use Rattle.std.proofs.Common.{◌≡◌, ℕ, suc, ◌-◌, ◌≤◌, cond, ◌==◌, List, [], ◌∷◌, length, Result, Ok, Err, refl, ap, sym, ◌∙◌, subst, arith}
use Rattle.std.specs.Prelude.{reverse, ◌⊎◌, ◌≢◌}
use Rattle.std.specs.Result.{IsErrAnd}
use mathlib.Core.Logic.{inl, inr}
use Rattle.std.proofs.lemmas.List.{length-reverse}
use Rattle.dets_term.specs.TermValue.{TermValue, chain, elements, depth}
use Rattle.dets_term.specs.Pairs.{placed}
use Rattle.etf_model.specs.declared.fault.EtfFault.{EtfFault}
use Rattle.etf_model.specs.declared.fault.EtfFault.TheVariants.{Memory, Unsupported, Compressed}
use Rattle.etf_model.specs.declared.tags.TheConstants.{COMPRESSED, STRING, LIST}
use Rattle.etf_model.specs.Format.{Position, Reading, go_on}
use Rattle.etf_model.specs.Layout.{is_known}
use Rattle.etf_model.specs.Spelling.{part_at, tail_at, outermost, body_of}
use Rattle.etf_model.specs.SpellingExact.{body_of-exact}
use Rattle.etf_codec.specs.declared.tags.Role.{Role}
use Rattle.etf_codec.specs.declared.frame.Begun.{Begun}
use Rattle.etf_codec.specs.declared.frame.Frame.{Frame}
use Rattle.etf_codec.specs.declared.frame.Frame.TheVariants.{Element, Item, Tail, Key, Value}
use Rattle.etf_codec.specs.declared.big_integer.BigInteger.{BigInteger}
use Rattle.etf_codec.specs.declared.head.Head.{Head}
use Rattle.etf_codec.specs.declared.head.Head.TheVariants.{Whole, Open, Number}
use Rattle.etf_codec.specs.BigIntegers.{integer_read}
use Rattle.etf_codec.specs.GoesOn.{GoesOn}
use Rattle.etf_codec.specs.Machine.{levels_below, map_behind, resume, wanted_by, wanted, reading_at}
use Rattle.etf_codec.specs.Begun.{FrameFits, PartFits, MayBegin, AreBegun, MayCome}
use Rattle.etf_codec.specs.Heads.{parts_read, HeadReads, HeadFits}
use Rattle.etf_codec.specs.Tags.{terms_of, next_in, next_role, TagReads, BeginsTail}
use Rattle.etf_codec.specs.TermReader.{IsNest, NextReads}
use Rattle.etf_codec.proofs.Bytes.{go_on_ok, go_on_err}
use Rattle.etf_codec.proofs.GoOn.{go_on_twice, whichever_term}
use Rattle.etf_codec.proofs.Onward.{goes_on_here, goes_on_then, goes_on_as, whatever_follows, no_longer}
use Rattle.etf_codec.proofs.Resuming.{part_anywhere, tail_anywhere, element_first, item_first, key_first}

-- ---- what is wanted

by_frame : (f : Frame) (n o : ℕ) (position : Position) → (wanted_by f n).read o position ≡ (terms_of (next_in f) n).read o position
by_frame (Element ahead ts) n o position = refl
by_frame (Item ahead ts) n o position = refl
by_frame (Tail ts) n o position = refl
by_frame (Key ahead ps) n o position = refl
by_frame (Value ahead ps k) n o position = refl

wanted_terms : (bs : List Begun) → length bs ≤ 255 → (position : Position)
    → (wanted bs).read position.offset position ≡ (terms_of (next_role bs) (suc (255 - length bs))).read position.offset position
wanted_terms [] l position = refl
wanted_terms (b ∷ bs) l position =
    let levels : levels_below (b ∷ bs) ≡ suc (255 - length (b ∷ bs)) = omega (arith, l) in
    by_frame b.frame (levels_below (b ∷ bs)) position.offset position ∙ ap (λ n. (terms_of (next_in b.frame) n).read position.offset position) levels

-- reading goes on behind the tag of the term that begins at an offset
abbrev tagged : List Begun → (tag start : ℕ) → Position → Reading TermValue
tagged bs tag start position = go_on ((body_of (255 - length bs) tag).read start position) (λ t behind. resume bs start t behind)

behind_tag_at : (bs : List Begun) (position next : Position) (tag : ℕ) → length bs ≤ 255 → TagReads (next_role bs) position next (Ok tag)
    → GoesOn (reading_at bs) (tagged bs tag position.offset) position next
behind_tag_at bs position next tag l reads =
    let levels : suc (255 - length bs) - 1 ≡ 255 - length bs = omega arith in
    goes_on_as ((terms_of (next_role bs) (suc (255 - length bs))).read position.offset) ((body_of (suc (255 - length bs) - 1) tag).read position.offset)
    (reading_at bs) (tagged bs tag position.offset) position next (reads (suc (255 - length bs)) (omega arith))
    (λ here later same. ap (λ r. go_on r (λ t behind. resume bs position.offset t behind))
    (wanted_terms bs l (record { offset = position.offset; left = here }) ∙ same
    ∙ ap (λ n. (body_of n tag).read position.offset (record { offset = next.offset; left = later })) levels))

no_tag_at : (bs : List Begun) (position next : Position) (fault : EtfFault) → length bs ≤ 255 → TagReads (next_role bs) position next (Err fault)
    → reading_at bs position ≡ Err fault
no_tag_at bs position next fault l reads = go_on_err _ _ _ (wanted_terms bs l position ∙ reads (suc (255 - length bs)) (omega arith))

-- ---- a term that is begun

first_part : (frame : Frame) (start : ℕ) (bs : List Begun) (position : Position)
    → go_on (parts_read frame (levels_below (record { start = start; frame = frame } ∷ bs)) start position) (λ whole behind. resume bs start whole behind)
    ≡ reading_at (record { start = start; frame = frame } ∷ bs) position
first_part (Element n ts) start bs position = element_first n start ts bs position
first_part (Item n ts) start bs position = item_first n start ts bs position
first_part (Tail ts) start bs position =
    let levels = levels_below (record { start = start; frame = Tail ts } ∷ bs) in
    go_on_twice ((tail_at levels).read start position) (λ end b. Ok (chain ts end, b)) (λ whole b. resume bs start whole b)
    ∙ ap (λ r. go_on r (λ end b. resume bs start (chain ts end) b)) (tail_anywhere levels start position.offset position)
first_part (Key n ps) start bs position = key_first n start ps bs position
first_part (Value n ps k) start bs position =
    let levels = levels_below (record { start = start; frame = Value n ps k } ∷ bs) in
    go_on_twice ((part_at levels).read start position) (λ v b. (map_behind levels (placed (k, v) ps) n).read start b) (λ whole b. resume bs start whole b)
    ∙ ap (λ r. go_on r (λ v b. go_on ((map_behind levels (placed (k, v) ps) n).read start b) (λ whole b. resume bs start whole b)))
    (part_anywhere levels start position.offset position)

opens : (bs : List Begun) (frame : Frame) (start : ℕ) (tag : ℕ) (next behind : Position) → length bs ≤ 254
    → (body_of (255 - length bs) tag).read start next ≡ parts_read frame (255 - length bs) start behind
    → go_on ((body_of (255 - length bs) tag).read start next) (λ t b. resume bs start t b) ≡ reading_at (record { start = start; frame = frame } ∷ bs) behind
opens bs frame start tag next behind l e =
    let levels : 255 - length bs ≡ levels_below (record { start = start; frame = frame } ∷ bs) = omega (arith, l) in
    ap (λ r. go_on r (λ t b. resume bs start t b)) (e ∙ ap (λ n. parts_read frame n start behind) levels) ∙ first_part frame start bs behind

-- ---- limits

no_list : (outer : Frame) (levels : ℕ) (t : TermValue) (tag : ℕ) → depth t ≤ levels → BeginsTail (next_in outer) (Ok tag)
    → (tag ≢ STRING → tag ≢ LIST → elements t ≡ []) → PartFits outer levels t
no_list (Element n ts) levels t tag d b e = d
no_list (Item n ts) levels t tag d b e = d
no_list (Tail ts) levels t tag d b e = (d, e b.0 b.1)
no_list (Key n ps) levels t tag d b e = d
no_list (Value n ps k) levels t tag d b e = d

whole_may_come : (bs : List Begun) (t : TermValue) (tag : ℕ) → length bs ≤ 255 → BeginsTail (next_role bs) (Ok tag)
    → HeadFits tag (255 - length bs) (Ok (Whole t)) → MayCome bs t
whole_may_come [] t tag l b h = omega (arith, h.0)
whole_may_come (c ∷ bs) t tag l b h = no_list c.frame (levels_below (c ∷ bs)) t tag (omega (arith, h.0, l)) b h.1

may_open : (outer frame : Frame) (tag : ℕ) → BeginsTail (next_in outer) (Ok tag) → (tag ≢ LIST → (outer : Frame) → MayBegin outer frame) → MayBegin outer frame
may_open (Element n ts) (Element m us) tag b h = tt
may_open (Element n ts) frame tag b h = tt
may_open (Item n ts) frame tag b h = tt
may_open (Tail ts) frame tag b h = h b.1 (Tail ts)
may_open (Key n ps) frame tag b h = tt
may_open (Value n ps k) frame tag b h = tt

opened : (bs : List Begun) (frame : Frame) (start tag : ℕ) → length bs ≤ 255 → AreBegun bs → BeginsTail (next_role bs) (Ok tag)
    → HeadFits tag (255 - length bs) (Ok (Open frame))
    → (length bs ≤ 254) × AreBegun (record { start = start; frame = frame } ∷ bs)
opened [] frame start tag l begun b h = (omega arith, h.1)
opened (c ∷ bs) frame start tag l begun b h =
    let few : length (c ∷ bs) ≤ 254 = omega (arith, h.0, l) in
    let levels : 255 - length (c ∷ bs) ≡ levels_below (record { start = start; frame = frame } ∷ c ∷ bs) = omega (arith, l) in
    (few, (subst (FrameFits frame) levels h.1, may_open c.frame frame tag b h.2, begun))

-- ---- the first term

whole_reading : {A : Type 0} (r : Reading A) → r ≡ go_on r (λ x behind. Ok (x, behind))
whole_reading (Ok r) = refl
whole_reading (Err fault) = refl

-- where nothing is begun the outermost term comes next
pub first_reading : (term : ℕ) (position : Position) → outermost.read term position ≡ reading_at [] position
first_reading term position =
    whichever_term is_known (λ term x. cond (x == COMPRESSED) (Compressed term) (Unsupported term x)) 256 term position.offset position
    ∙ whole_reading (outermost.read position.offset position)

-- ---- one part

module _ (old : List Begun) (len : ℕ) (before : Position) (l : len ≡ length old) (nest : IsNest old) where
  abbrev start : ℕ
  start = before.offset

  few : length (reverse old) ≤ 255
  few = omega (arith, length-reverse old, nest.0)

  levels_are : 255 - len ≡ 255 - length (reverse old)
  levels_are = omega (arith, l, length-reverse old)

  pub no_tag_here : (role : Role) (mid : Position) (fault : EtfFault) → role ≡ next_role (reverse old) → TagReads role before mid (Err fault)
      → reading_at (reverse old) before ≡ Err fault
  no_tag_here role mid fault p reads = no_tag_at (reverse old) before mid fault few (subst (λ q. TagReads q before mid (Err fault)) p reads)

  module _ (role : Role) (p : role ≡ next_role (reverse old)) (mid : Position) (tag : ℕ) (reads : TagReads role before mid (Ok tag)) where
    here : GoesOn (reading_at (reverse old)) (tagged (reverse old) tag start) before mid
    here = behind_tag_at (reverse old) before mid tag few (subst (λ q. TagReads q before mid (Ok tag)) p reads)

    whole_here : (behind : Position) (t : TermValue) → HeadReads (body_of (255 - len) tag) (255 - len) start mid behind (Ok (Whole t))
        → GoesOn (reading_at (reverse old)) (resume (reverse old) start t) before behind
    whole_here behind t h =
        goes_on_then (reading_at (reverse old)) (tagged (reverse old) tag start) (resume (reverse old) start t) before mid behind here
        (goes_on_as ((body_of (255 - length (reverse old)) tag).read start) (λ position. Ok (t, position)) (tagged (reverse old) tag start)
        (resume (reverse old) start t) mid behind
        (whatever_follows (body_of (255 - length (reverse old)) tag) (body_of-exact (255 - length (reverse old)) tag) start mid behind t
        (subst (λ n. (body_of n tag).read start mid ≡ Ok (t, behind)) levels_are h))
        (λ here later same. go_on_ok _ _ _ _ same))

    open_here : (behind : Position) (frame : Frame) → length (reverse old) ≤ 254
        → HeadReads (body_of (255 - len) tag) (255 - len) start mid behind (Ok (Open frame))
        → GoesOn (reading_at (reverse old)) (reading_at (record { start = start; frame = frame } ∷ reverse old)) before behind
    open_here behind frame room h =
        goes_on_then (reading_at (reverse old)) (tagged (reverse old) tag start)
        (reading_at (record { start = start; frame = frame } ∷ reverse old)) before mid behind here
        (goes_on_as ((body_of (255 - length (reverse old)) tag).read start) (parts_read frame (255 - length (reverse old)) start)
        (tagged (reverse old) tag start) (reading_at (record { start = start; frame = frame } ∷ reverse old)) mid behind
        (subst (λ n. GoesOn ((body_of n tag).read start) (parts_read frame n start) mid behind) levels_are h)
        (λ here later same. opens (reverse old) frame start tag (record { offset = mid.offset; left = here })
        (record { offset = behind.offset; left = later }) room same))

    number_here : (behind : Position) (b : BigInteger) → HeadReads (body_of (255 - len) tag) (255 - len) start mid behind (Ok (Number b))
        → GoesOn (reading_at (reverse old)) (λ position. go_on (integer_read b position) (λ t later. resume (reverse old) b.start t later)) before behind
    number_here behind b h =
        goes_on_then (reading_at (reverse old)) (tagged (reverse old) tag start)
        (λ position. go_on (integer_read b position) (λ t later. resume (reverse old) b.start t later)) before mid behind here
        (goes_on_as ((body_of (255 - length (reverse old)) tag).read start) (integer_read b)
        (tagged (reverse old) tag start) (λ position. go_on (integer_read b position) (λ t later. resume (reverse old) b.start t later)) mid behind
        (subst (λ n. GoesOn ((body_of n tag).read start) (integer_read b) mid behind) levels_are h.1)
        (λ here later same.
        ap (λ r. go_on r (λ t behind. resume (reverse old) start t behind)) same
        ∙ ap (λ o. go_on (integer_read b (record { offset = behind.offset; left = later })) (λ t position. resume (reverse old) o t position)) (sym h.0)))

    fault_here : (behind : Position) (fault : EtfFault) → HeadReads (body_of (255 - len) tag) (255 - len) start mid behind (Err fault)
        → (fault ≡ Memory) ⊎ (reading_at (reverse old) before ≡ Err fault)
    fault_here behind fault (inl h) = inl h
    fault_here behind fault (inr h) =
        inr (goes_on_here (reading_at (reverse old)) (tagged (reverse old) tag start) before mid here
        ∙ go_on_err _ _ _ (subst (λ n. (body_of n tag).read start mid ≡ Err fault) levels_are h))

    -- nothing is left that was not
    pub shorter_here : (behind : Position) (head : Head) → HeadReads (body_of (255 - len) tag) (255 - len) start mid behind (Ok head)
        → length behind.left ≤ length mid.left
    shorter_here behind (Whole t) h = no_longer mid behind ((body_of-exact (255 - len) tag).read_whole start mid t behind h)
    shorter_here behind (Open frame) h = no_longer mid behind h
    shorter_here behind (Number b) h = no_longer mid behind h.1

    comes_here : (t : TermValue) → BeginsTail role (Ok tag) → HeadFits tag (255 - len) (Ok (Whole t)) → MayCome (reverse old) t
    comes_here t b h = whole_may_come (reverse old) t tag few (subst (λ q. BeginsTail q (Ok tag)) p b) (subst (λ n. HeadFits tag n (Ok (Whole t))) levels_are h)

    opened_here : (frame : Frame) → BeginsTail role (Ok tag) → HeadFits tag (255 - len) (Ok (Open frame))
        → (length (reverse old) ≤ 254) × AreBegun (record { start = start; frame = frame } ∷ reverse old)
    opened_here frame b h =
        opened (reverse old) frame start tag few nest.1 (subst (λ q. BeginsTail q (Ok tag)) p b) (subst (λ n. HeadFits tag n (Ok (Open frame))) levels_are h)

    pub head_here : (behind : Position) (head : Head) → BeginsTail role (Ok tag) → HeadReads (body_of (255 - len) tag) (255 - len) start mid behind (Ok head)
        → HeadFits tag (255 - len) (Ok head)
        → NextReads old before behind (Ok head)
    head_here behind (Whole t) b h fits = (comes_here t b fits, whole_here behind t h)
    head_here behind (Open frame) b h fits =
        let opened = opened_here frame b fits in
        (omega (arith, opened.0, length-reverse old), opened.1, open_here behind frame opened.0 h)
    head_here behind (Number b) t h fits = (fits, number_here behind b h)

    pub no_head_here : (behind : Position) (fault : EtfFault) → HeadReads (body_of (255 - len) tag) (255 - len) start mid behind (Err fault)
        → NextReads old before before (Err fault)
    no_head_here behind fault h = (refl, fault_here behind fault h)

-- a fault that was handed on
pub next_fault : (begun : List Begun) (before : Position) (answer : Result Head EtfFault) (fault : EtfFault) → IsErrAnd answer (λ y. y ≡ fault)
    → NextReads begun before before (Err fault)
    → NextReads begun before before answer
next_fault begun before (Ok head) fault h e = absurd h
next_fault begun before (Err y) fault h e = subst (λ f. NextReads begun before before (Err f)) (sym h) e
