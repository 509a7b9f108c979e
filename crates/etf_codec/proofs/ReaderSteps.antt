-- What a reader answers, and how it goes on.
use Rattle.std.proofs.Common.{◌≡◌, ℕ, ◌-◌, ◌^◌, ◌<◌, ◌≤◌, ◌==◌, List, [], ◌∷◌, length, Result, Ok, Err, ap, sym, ◌∙◌, subst, arith}
use Rattle.std.specs.Prelude.{◌⊎◌, IfOk, Option, Some, None, reverse}
use Rattle.std.specs.Result.{IsErrAnd}
use mathlib.Core.Logic.{inl, inr}
use Rattle.std.proofs.lemmas.List.{length-reverse}
use Rattle.dets_term.specs.TermValue.{TermValue, integer}
use Rattle.etf_model.specs.declared.fault.EtfFault.{EtfFault}
use Rattle.etf_model.specs.declared.fault.EtfFault.TheVariants.{Short, NotVersion, Memory}
use Rattle.etf_model.specs.declared.tags.TheConstants.{VERSION}
use Rattle.etf_model.specs.Format.{Position, Reading, byte}
use Rattle.etf_model.specs.Exact.{IsExact}
use Rattle.etf_model.specs.Layout.{signed, limit}
use Rattle.etf_model.specs.Exactness.{byte-exact, exact-kept}
use Rattle.etf_model.specs.SpellingKept.{magnitude-kept}
use Rattle.etf_codec.specs.declared.big_integer.BigInteger.{BigInteger}
use Rattle.etf_codec.specs.declared.frame.Begun.{Begun}
use Rattle.etf_codec.specs.declared.frame.Frame.{Frame}
use Rattle.etf_codec.specs.declared.frame.Frame.TheVariants.{Element, Item, Tail, Key, Value}
use Rattle.etf_codec.specs.declared.head.Head.TheVariants.{Whole, Open, Number as Big}
use Rattle.etf_codec.specs.declared.term_reader.Stage.{Stage}
use Rattle.etf_codec.specs.declared.term_reader.Stage.TheVariants.{Version, Part, Number}
use Rattle.etf_codec.specs.declared.term_reader.TermReader.{TermReader}
use Rattle.etf_codec.specs.Begun.{PartFits, AreBegun, MayCome}
use Rattle.etf_codec.specs.BigIntegers.{bytes_left, integer_read, IntegerReads}
use Rattle.etf_codec.specs.GoesOn.{GoesOn}
use Rattle.etf_codec.specs.Machine.{levels_below, resume, reading_at}
use Rattle.etf_codec.specs.ReadTerms.{IsLeaf}
use Rattle.etf_codec.specs.TermReader.{reads_next, reads_on, IsNest, StageFits, IsReader, Completes, VersionReads, NextReads, steps_at, ahead, ReaderReads}
use Rattle.etf_codec.specs.TermReader.{StepReads}
use Rattle.etf_codec.proofs.Bytes.{go_on_ok, go_on_err, test_passes}
use Rattle.etf_codec.proofs.NextParts.{first_reading}
use Rattle.etf_codec.proofs.Onward.{stays, goes_on_here, goes_on_then, goes_on_as, whatever_follows, no_longer}

-- ---- faults

-- one that was handed on
pub step_fault : (old new : TermReader) (before behind : Position) (answer : Result (Option TermValue) EtfFault) (fault : EtfFault)
    → IsErrAnd answer (λ y. y ≡ fault)
    → ReaderReads old new before behind (Err fault) → StepReads old new before behind answer
step_fault old new before behind (Ok x) fault h e = absurd h
step_fault old new before behind (Err y) fault h e = subst (λ f. ReaderReads old new before behind (Err f)) (sym h) e

-- where nothing was read
pub stays_there : (reader : TermReader) (before behind : Position) (fault : EtfFault) → IsReader reader → (fault ≡ Short → behind ≡ before)
    → (fault ≡ Memory) ⊎ (reads_on reader before ≡ Err fault)
    → ReaderReads reader reader before behind (Err fault)
stays_there reader before behind fault r same h =
    (h, λ short. (r, subst (λ p. GoesOn (reads_on reader) (reads_on reader) before p) (sym (same short)) (stays (reads_on reader) before)))

-- what holds holds of a value
if_ok : {A E : Type 0} (answer : Result A E) (P : Type 0) → P → IfOk answer (λ x. P)
if_ok (Ok x) P p = p
if_ok (Err e) P p = tt

-- ---- stages

-- a reader at a stage
pub at_stage : (reader : TermReader) (stage : Stage) → reader.stage ≡ stage → (position : Position)
    → reads_on reader position ≡ reads_next stage reader.begun.items position
at_stage reader stage e position = ap (λ s. reads_next s reader.begun.items position) e

-- the terms that were begun complete a part
pub completed : (old new : TermReader) (before behind : Position) (start : ℕ) (t : TermValue) (answer : Result (Option TermValue) EtfFault) → new.stage ≡ Part
    → GoesOn (reads_on old) (resume (reverse old.begun.items) start t) before behind → Completes old.begun.items new.begun.items start t answer
    → StepReads old new before behind answer
completed old new before behind start t (Ok (Some whole)) part g c =
    goes_on_here (reads_on old) (resume (reverse old.begun.items) start t) before behind g ∙ c behind
completed old new before behind start t (Ok None) part g c = (
  (c.0, subst (λ s. StageFits s new.begun.items) (sym part) tt),
  goes_on_as (reads_on old) (resume (reverse old.begun.items) start t) (reads_on old) (reads_on new) before behind g
      (λ here later same. same ∙ c.1 (record { offset = behind.offset; left = later })
      ∙ sym (at_stage new Part part (record { offset = behind.offset; left = later }))),
)
completed old new before behind start t (Err fault) part g (inl h) = (inl h, λ short. let clash : Short ≡ Memory = sym short ∙ h in cc)
completed old new before behind start t (Err fault) part g (inr h) =
    (inr (goes_on_here (reads_on old) (resume (reverse old.begun.items) start t) before behind g ∙ h.1 behind), λ short. absurd (h.0 short))

module _ (old : TermReader) (reader : IsReader old) (part : old.stage ≡ Part) (before : Position) where
  from_part : (S : Position → Reading TermValue) (behind : Position) → GoesOn (reading_at (reverse old.begun.items)) S before behind
      → GoesOn (reads_on old) S before behind
  from_part S behind g =
      goes_on_as (reading_at (reverse old.begun.items)) S (reads_on old) S before behind g
      (λ here later same. at_stage old Part part (record { offset = before.offset; left = here }) ∙ same)

  fault_from_part : (fault : EtfFault) → (fault ≡ Memory) ⊎ (reading_at (reverse old.begun.items) before ≡ Err fault)
      → (fault ≡ Memory) ⊎ (reads_on old before ≡ Err fault)
  fault_from_part fault (inl memory) = inl memory
  fault_from_part fault (inr e) = inr (at_stage old Part part before ∙ e)

  pub part_fault : (behind : Position) (answer : Result (Option TermValue) EtfFault) (fault : EtfFault) → IsErrAnd answer (λ y. y ≡ fault)
      → NextReads old.begun.items before behind (Err fault)
      → StepReads old old before behind answer
  part_fault behind answer fault h n =
      step_fault old old before behind answer fault h
      (stays_there old before behind fault reader (λ short. n.0) (fault_from_part fault n.1))

  pub part_whole : (new : TermReader) (behind : Position) (start : ℕ) (t : TermValue) (answer : Result (Option TermValue) EtfFault) → new.stage ≡ Part
      → start ≡ before.offset
      → NextReads old.begun.items before behind (Ok (Whole t)) → Completes old.begun.items new.begun.items start t answer
      → StepReads old new before behind answer
  part_whole new behind start t answer stage s n c =
      completed old new before behind start t answer stage
      (from_part (resume (reverse old.begun.items) start t) behind
      (subst (λ o. GoesOn (reading_at (reverse old.begun.items)) (resume (reverse old.begun.items) o t) before behind) (sym s) n.1)) c

  pub part_opens : (new : TermReader) (behind : Position) (start : ℕ) (frame : Frame) → new.stage ≡ Part → start ≡ before.offset
      → reverse new.begun.items ≡ record { start = start; frame = frame } ∷ reverse old.begun.items
      → NextReads old.begun.items before behind (Ok (Open frame)) → StepReads old new before behind (Ok None)
  part_opens new behind start frame stage s pushed n =
      let all : reverse new.begun.items ≡ record { start = before.offset; frame = frame } ∷ reverse old.begun.items =
      pushed ∙ ap (λ o. record { start = o; frame = frame } ∷ reverse old.begun.items) s in (
        (
          (omega (arith, n.0, ap length all, length-reverse new.begun.items, length-reverse old.begun.items), subst AreBegun (sym all) n.1),
          subst (λ g. StageFits g new.begun.items) (sym stage) tt,
        ),
        from_part (reads_on new) behind
            (goes_on_as (reading_at (reverse old.begun.items)) (reading_at (record { start = before.offset; frame = frame } ∷ reverse old.begun.items))
            (reading_at (reverse old.begun.items)) (reads_on new) before behind n.2
            (λ here later same. same ∙ ap (λ bs. reading_at bs (record { offset = behind.offset; left = later })) (sym all)
            ∙ sym (at_stage new Part stage (record { offset = behind.offset; left = later })))),
      )

  pub part_number : (b : BigInteger) (behind : Position) → NextReads old.begun.items before behind (Ok (Big b))
      → StepReads old (record { stage = Number b; begun = old.begun }) before behind (Ok None)
  part_number b behind n = ((reader.0, n.0), from_part (reads_next (Number b) old.begun.items) behind n.1)

-- ---- the byte in front

-- it is the one that is wanted
pub version_there : (before behind : Position) (version : ℕ) → version ≡ VERSION → byte.read before.offset before ≡ Ok (version, behind)
    → VersionReads before behind (Ok tt)
version_there before behind version e h =
    goes_on_as (byte.read before.offset) (λ position. Ok (version, position)) (reads_next Version []) (reads_next Part []) before behind
    (whatever_follows byte byte-exact before.offset before behind version h)
    (λ here later same.
    go_on_ok _ _ _ _ (test_passes _ version (record { offset = behind.offset; left = later }) (λ x. x == VERSION) (λ x. NotVersion before.offset) same
    (ap (λ x. x == VERSION) e))
    ∙ first_reading before.offset (record { offset = behind.offset; left = later }))

-- none is there
pub version_missing : (before behind : Position) (answer : Result (Unit {0}) EtfFault) (fault : EtfFault) → IsErrAnd answer (λ y. y ≡ fault) → behind ≡ before
    → byte.read before.offset before ≡ Err fault
    → VersionReads before behind answer
version_missing before behind (Ok none) fault h stays e = absurd h
version_missing before behind (Err y) fault h stays e = (go_on_err _ _ _ (go_on_err _ _ _ e) ∙ ap Err (sym h), λ short. stays)

-- ---- a magnitude

-- an integer may be any part but the tail's list
leaf_fits : (frame : Frame) (levels : ℕ) (t : TermValue) → 1 ≤ levels → IsLeaf t → PartFits frame levels t
leaf_fits (Element n ts) levels t l leaf = omega (arith, leaf.0, l)
leaf_fits (Item n ts) levels t l leaf = omega (arith, leaf.0, l)
leaf_fits (Tail ts) levels t l leaf = (omega (arith, leaf.0, l), leaf.1)
leaf_fits (Key n ps) levels t l leaf = omega (arith, leaf.0, l)
leaf_fits (Value n ps k) levels t l leaf = omega (arith, leaf.0, l)

leaf_comes : (bs : List Begun) (t : TermValue) → length bs ≤ 255 → IsLeaf t → MayCome bs t
leaf_comes [] t l leaf = omega (arith, leaf.0)
leaf_comes (b ∷ bs) t l leaf = leaf_fits b.frame (levels_below (b ∷ bs)) t (omega (arith, l)) leaf

pub integer_comes : (begun : List Begun) (t : TermValue) → IsNest begun → IsLeaf t → MayCome (reverse begun) t
integer_comes begun t nest leaf = leaf_comes (reverse begun) t (omega (arith, nest.0, length-reverse begun)) leaf

bytes_left-exact : (b : BigInteger) → IsExact (bytes_left b)
bytes_left-exact b =
    magnitude-kept (λ A F. IsExact F) exact-kept (limit b.sign) (256 ^ b.index) b.magnitude (b.length - b.index)
    (λ m. integer (signed b.sign m))

module _ (old : TermReader) (reader : IsReader old) (b : BigInteger) (number : old.stage ≡ Number b) (before behind : Position) where
  pub number_whole : (c : BigInteger) (new : TermReader) (t : TermValue) (answer : Result (Option TermValue) EtfFault) → new.stage ≡ Part
      → IntegerReads b c before behind (Ok t)
      → Completes old.begun.items new.begun.items b.start t answer → StepReads old new before behind answer
  number_whole c new t answer stage e done =
      completed old new before behind b.start t answer stage
      (goes_on_as (integer_read b) (λ position. Ok (t, position)) (reads_on old) (resume (reverse old.begun.items) b.start t) before behind
      (whatever_follows (bytes_left b) (bytes_left-exact b) b.start before behind t e)
      (λ here later same. at_stage old (Number b) number (record { offset = before.offset; left = here }) ∙ go_on_ok _ _ _ _ same)) done

  -- there is less to do behind it
  pub number_forward : (new : TermReader) (t : TermValue) (answer : Result (Option TermValue) EtfFault) → new.stage ≡ Part
      → integer_read b before ≡ Ok (t, behind)
      → IfOk answer (λ term. ahead new behind < ahead old before)
  number_forward new t answer stage e =
      let less : ahead new behind < ahead old before =
      omega (arith, ap steps_at stage, ap steps_at number, no_longer before behind ((bytes_left-exact b).read_whole b.start before t behind e)) in
      if_ok answer (ahead new behind < ahead old before) less

-- ---- all of it

module _ (old now : TermReader) (before position : Position) (g : GoesOn (reads_on old) (reads_on now) before position) where
  pub read_whole : (new : TermReader) (behind : Position) (t : TermValue) → StepReads now new position behind (Ok (Some t))
      → ReaderReads old new before behind (Ok t)
  read_whole new behind t e = goes_on_here (reads_on old) (reads_on now) before position g ∙ e

  pub read_more : (new : TermReader) (behind : Position) → StepReads now new position behind (Ok None)
      → IsReader new × GoesOn (reads_on old) (reads_on new) before behind
  read_more new behind s = (s.0, goes_on_then (reads_on old) (reads_on now) (reads_on new) before position behind g s.1)

  from_there : (fault : EtfFault) → (fault ≡ Memory) ⊎ (reads_on now position ≡ Err fault) → (fault ≡ Memory) ⊎ (reads_on old before ≡ Err fault)
  from_there fault (inl memory) = inl memory
  from_there fault (inr e) = inr (goes_on_here (reads_on old) (reads_on now) before position g ∙ e)

  pub read_fault : (new : TermReader) (behind : Position) (answer : Result TermValue EtfFault) (fault : EtfFault) → IsErrAnd answer (λ y. y ≡ fault)
      → StepReads now new position behind (Err fault)
      → ReaderReads old new before behind answer
  read_fault new behind (Ok t) fault h s = absurd h
  read_fault new behind (Err y) fault h s =
      subst (λ f. ReaderReads old new before behind (Err f)) (sym h) (
        from_there fault s.0,
        λ short. let more = s.1 short in
            (more.0, goes_on_then (reads_on old) (reads_on now) (reads_on new) before position behind g more.1),
      )
