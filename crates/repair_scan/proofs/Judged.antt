-- One judgement more.
use Rattle.std.proofs.Common.{◌≡◌, ◌≤◌, ◌<◌, ◌+◌, ◌^◌, ℕ, Bool, true, false, cond, List, [], ◌∷◌, ◌++◌, find, length, Option, Some, None, Ok, Err, ap, sym, ◌∙◌, refl, subst}
use Rattle.std.proofs.Common.{arith, length-append}
use Rattle.std.specs.Cow.{cow_slice_items}
use Rattle.std.specs.Prelude.{option_map}
use Rattle.std.specs.List.{AllByRecursion}
use Rattle.std.specs.Str.{bytes_eq}
use Rattle.std.proofs.lemmas.Bool.Decides.{nat_tests, same_from_decides}
use Rattle.std.proofs.lemmas.Slice.Eq.{bytes_eq-Decides}
use Rattle.term_model.specs.TermValue.{TermValue}
use Rattle.term_model.specs.IsTerm.{IsTerm}
use Rattle.term_model.specs.Order.{is_same}
use Rattle.term_model.specs.Same.{same_decides}
use Rattle.etf_model.specs.declared.tags.TheConstants.{VERSION}
use Rattle.etf_model.specs.Canonical.{canonical, spelled}
use Rattle.file_model.specs.declared.entry.Entry.{Entry}
use Rattle.file_model.specs.declared.reject.Reject.{Reject}
use Rattle.file_model.specs.declared.reject.Reason.TheVariants.{KeyTaken}
use Rattle.file_model.specs.Block.{Block, Standing}
use Rattle.file_model.specs.Taken.{covers, block_has, by_key, by_cover, judged}
use Rattle.repair_scan.specs.declared.candidate.Candidate.{Candidate}
use Rattle.repair_scan.specs.declared.judge.Judge.{Judge}
use Rattle.repair_scan.specs.Candidates.{IsRead, IsOfBlock}
use Rattle.repair_scan.specs.Judgements.{EndBy, IsLast, Reflects, IsWithin, Judges}
use Rattle.repair_scan.specs.TakenKeys.{unit_of}

-- ---- no block that ends by a unit covers it

past : (u : ℕ) (b : Block) → b.unit + 2 ^ b.exp ≤ u → covers u b ≡ false
past u b l = grind (arith, nat_tests)

none_by : (u : ℕ) (bs : List Block) → EndBy u bs → find (covers u) bs ≡ None
none_by u [] e = refl
none_by u (b ∷ bs) e = rw (past u b e.0) (none_by u bs e.1)

later : (u w : ℕ) (bs : List Block) → u ≤ w → EndBy u bs → EndBy w bs
later u w [] l e = tt
later u w (b ∷ bs) l e = (omega (arith, e.0), later u w bs l e.1)

ended : (u last end : ℕ) (below : List Block) → IsLast u last end below → end ≤ u → EndBy u below
ended u last end [] i l = tt
ended u last end (b ∷ bs) i l = (omega (arith, i.2), later b.unit u bs i.0 i.3)

pub last_later : (u last end : ℕ) (below : List Block) → IsLast u last end below → IsLast (u + 1) last end below
last_later u last end [] i = i
last_later u last end (b ∷ bs) i = (omega (arith, i.0), i.1, i.2, i.3)

-- ---- spellings tell keys apart

abbrev Tells : Type 0
Tells = (j k : TermValue) → IsTerm j → IsTerm k → spelled j ≡ spelled k → j ≡ k

spellings_tell : Tells → (j k : TermValue) → IsTerm j → IsTerm k → bytes_eq (canonical j) (canonical k) ≡ is_same j k
spellings_tell tells j k is there = same_from_decides (bytes_eq (canonical j) (canonical k)) (is_same j k) (
  λ e. tells j k is there (ap (λ bs. VERSION ∷ bs) ((bytes_eq-Decides (canonical j) (canonical k)).0 e)),
  λ e. (bytes_eq-Decides (canonical j) (canonical k)).1 (ap canonical e),
) (same_decides j k)

-- ---- a block that is taken, or whose key is

no_key : (o : Option Block) → option_map (λ b. b.unit) o ≡ None → o ≡ None
no_key None e = refl
no_key (Some b) e = absurd (cc e)

its_key : (o : Option Block) (b : Block) (other : ℕ) → option_map (λ b. b.unit) o ≡ Some other → by_key b o ≡ Err (KeyTaken other)
its_key None b other e = absurd (cc e)
its_key (Some c) b other e = let same : c.unit ≡ other = cc in ap (λ u. Err (KeyTaken u)) same

uncovered : (below : List Block) (b : Block) (u : ℕ) → b.unit ≡ u → EndBy u below
    → judged below (Ok b) ≡ by_key b (find (block_has b.key) below)
uncovered below b u at e =
    ap (λ w. by_cover below b (find (covers w) below)) at ∙ ap (by_cover below b) (none_by u below e)

with_block : (t : Bool) (u : ℕ) (b : Block) (o : Option Block) → b.unit ≡ u
    → cond t (Some u) (option_map (λ b. b.unit) o) ≡ option_map (λ b. b.unit) (cond t (Some b) o)
with_block true u b o e = ap (λ w. Some w) (sym e)
with_block false u b o e = refl

module _ (tells : Tells) (u : ℕ) (old new : Judge) (c : Candidate) (free : old.end ≤ u) where
  -- the unit of the taken block with its key
  had : (below : List Block) (b : Block) → Reflects below u old → IsOfBlock u b c
      → unit_of old.keys (cow_slice_items c.key) ≡ option_map (λ b. b.unit) (find (block_has b.key) below)
  had below b r of = ap (unit_of old.keys) of.key ∙ r.keys b.key of.term

  pub key_is_taken : (other : ℕ) → Some other ≡ unit_of old.keys (cow_slice_items c.key)
      → ((bytes : List ℕ) → unit_of new.keys bytes ≡ unit_of old.keys bytes) → new.last ≡ old.last → new.end ≡ old.end → new.entries ≡ old.entries
      → new.rejects ≡ old.rejects ++ record { unit = u; reason = KeyTaken other } ∷ []
      → (below : List Block) (s : Standing) → Reflects below u old → IsRead u (Ok c) s → Judges below u old new (judged below s)
  key_is_taken other there keys last end entries rejects below s r is =
      let b = is.0 in
      let of = is.2 in
      let found = sym (had below b r of) ∙ sym there in
      let judgement : judged below s ≡ Err (KeyTaken other) =
      ap (judged below) is.1 ∙ uncovered below b u of.unit (ended u old.last old.end below r.last free)
      ∙ its_key (find (block_has b.key) below) b other found in
      let place = subst (λ n. IsLast (u + 1) n new.end below) (sym last) (subst (λ n. IsLast (u + 1) old.last n below) (sym end) (last_later u old.last old.end below r.last)) in
      subst (Judges below u old new) (sym judgement) (
        record { last = place; keys = λ k term. keys (canonical k) ∙ r.keys k term },
        entries,
        rejects,
      )

  pub block_is_taken : None ≡ unit_of old.keys (cow_slice_items c.key)
      → ((bytes : List ℕ) → unit_of new.keys bytes ≡ cond (bytes_eq (cow_slice_items c.key) bytes) (Some u) (unit_of old.keys bytes)) → new.last ≡ u
      → new.end ≡ u + 2 ^ c.entry.exp → new.entries ≡ old.entries ++ c.entry ∷ [] → new.rejects ≡ old.rejects
      → (below : List Block) (s : Standing) → Reflects below u old → IsRead u (Ok c) s → Judges below u old new (judged below s)
  block_is_taken there put last end entries rejects below s r is =
      let b = is.0 in
      let of = is.2 in
      let by = ended u old.last old.end below r.last free in
      let found = sym (had below b r of) ∙ sym there in
      let judgement : judged below s ≡ Ok b =
      ap (judged below) is.1 ∙ uncovered below b u of.unit by ∙ ap (by_key b) (no_key (find (block_has b.key) below) found) in
      let exp : c.entry.exp ≡ b.exp = ap (λ x. x.exp) of.entry in
      subst (Judges below u old new) (sym judgement) (
        record {
          last = (
            omega (arith, of.unit),
            last ∙ sym of.unit,
            end ∙ ap (λ e. u + 2 ^ e) exp ∙ ap (λ w. w + 2 ^ b.exp) (sym of.unit),
            subst (λ w. EndBy w below) (sym of.unit) by,
          );
          keys = λ k term. put (canonical k)
              ∙ ap (λ bs. cond (bytes_eq bs (canonical k)) (Some u) (unit_of old.keys (canonical k))) of.key
              ∙ ap (λ t. cond t (Some u) (unit_of old.keys (canonical k))) (spellings_tell tells b.key k of.term term)
              ∙ ap (cond (is_same b.key k) (Some u)) (r.keys k term)
              ∙ with_block (is_same b.key k) u b (find (block_has k) below) of.unit;
        },
        entries ∙ ap (λ x. old.entries ++ x ∷ []) of.entry,
        rejects,
      )

-- ---- how many entries there are, and where the rejects are

below_more : (u : ℕ) (rs : List Reject) → AllByRecursion (λ r. r.unit < u) rs → AllByRecursion (λ r. r.unit < u + 1) rs
below_more u [] a = tt
below_more u (r ∷ rs) a = (omega (arith, a.0), below_more u rs a.1)

pub within_entry : (u : ℕ) (old new : Judge) (e : Entry) → new.entries ≡ old.entries ++ e ∷ [] → new.rejects ≡ old.rejects → IsWithin u old → IsWithin (u + 1) new
within_entry u old new e entries rejects w =
    let count : length new.entries ≡ length old.entries + 1 = ap length entries ∙ length-append old.entries (e ∷ []) in
    record {
      entries = omega (arith, w.entries, count);
      rejects = subst (AllByRecursion (λ r. r.unit < u + 1)) (sym rejects) (below_more u old.rejects w.rejects);
    }
