-- How the machine comes to the last token of a key or a segment.
use Rattle.std.proofs.Common.{◌≡◌, ℕ, ◌+◌, ◌||◌, ◌==◌, true, false, Some, List, [], ◌∷◌, ◌++◌, length, flat_map, Ok, Err, ap, ◌∙◌, sym, subst, arith}
use Rattle.std.specs.List.{AllByRecursion}
use Rattle.text_model.specs.declared.fault.TextWhy.{TextWhy}
use Rattle.text_model.specs.Token.{Token}
use Rattle.text_model.specs.Spelling.{Gap, white, comment, IsGap, is_white, gap_bytes, Skips}
use Rattle.text_model.specs.Grammar.{strict, IsText}
use Rattle.text_model.specs.Nest.{Nest, fresh, take}
use Rattle.text_model.specs.Located.{SpellsTo, tokens_of, take_next, take_all}
use Rattle.text_model.specs.Fronts.{MayBegin}
use Rattle.text_model.specs.Sentence.{ends}
use Rattle.text_model.specs.Faults.{with_repeats, IsLast, IsSettled}
use Rattle.text_model.specs.Reader.{fresh_state, faulty, outcome}
use Rattle.text_model.proofs.Comes.{IsGoing}
use Rattle.text_model.proofs.Reaching.{reached}
use Rattle.text_model.proofs.RepeatedKeys.{well_taken}
use Rattle.text_model.proofs.Runs.{run}
use Rattle.text_model.proofs.TakenSteps.{take_all-append, tokens_of-append}
use Rattle.text_model.proofs.WholeTokensRead.{MayRead}
use Rattle.text_model.proofs.TextsRead.{located, tokens_run}
use Rattle.text_model.proofs.WellRead.{IsReadTo, unended_going, well_read}
use Rattle.text_model.proofs.GrowthRead.{refused_outcome}
use Rattle.text_model.proofs.RunSteps.{at_token, same_outcome}
use Rattle.text_model.proofs.TokenStarts.{begins_some}
use Rattle.text_model.proofs.RefusedKeys.{StartsAt}

-- ---- where a token begins

-- no blank is in front
no_gap : (gaps : List Gap) (x : ℕ) (bytes rest : List ℕ) → ends false (x ∷ bytes) ≡ Some false → AllByRecursion IsGap gaps
    → x ∷ bytes ≡ flat_map gap_bytes gaps ++ rest → x ∷ bytes ≡ rest
no_gap [] x bytes rest e all parted = parted
no_gap (white y ∷ gaps) x bytes rest e all parted =
    let no : (is_white x || x == 37) ≡ false = cc in
    let same : x ≡ y = cc in
    let is : is_white x ≡ true = ap is_white same ∙ all.0 in
    let clash : (true || x == 37) ≡ false = ap (λ b. b || x == 37) (sym is) ∙ no in
    cc
no_gap (comment cs ∷ gaps) x bytes rest e all parted =
    let no : (is_white x || x == 37) ≡ false = cc in
    let same : x ≡ 37 = cc in
    let clash : (is_white 37 || 37 == 37) ≡ false = ap (λ y. is_white y || y == 37) (sym same) ∙ no in
    cc

no_skip : (bytes rest : List ℕ) → ends false bytes ≡ Some false → Skips bytes rest → bytes ≡ rest
no_skip [] rest e s = cc
no_skip (x ∷ bytes) rest e (blanks, is, parted) = no_gap is.gaps x bytes rest e is.each_one (parted ∙ ap (λ l. l ++ rest) is.whole)

-- the first of these tokens begins where the bytes begin
first_starts : (ps : List (ℕ × Token)) (total offset at : ℕ) (token : Token) (first middle rest : List ℕ) → ends false first ≡ Some false
    → SpellsTo total ps first middle → Skips middle rest → total ≡ offset + length first → total ≡ at + length rest → StartsAt offset (ps ++ (at, token) ∷ [])
first_starts [] total offset at token first middle rest e spells skips there offsets =
    let same = no_skip first rest e (subst (λ b. Skips b rest) (sym spells) skips) in omega (arith, ap length same)
first_starts (p ∷ ps) total offset at token first middle rest e (here, behind, blanks, begin, stands, more) skips there offsets =
    let same = no_skip first here e blanks in omega (arith, ap length same)

-- ---- up to the last token

-- the tokens in front, and those of the key or the segment
pub record IsReadToLast (bytes : List ℕ) (offset : ℕ) (before inside : List Token) (token : Token) (at : ℕ) (rest : List ℕ) : Type 0 where
  pub outside : List (ℕ × Token)
  pub within : List (ℕ × Token)
  pub outside_same : tokens_of outside ≡ before
  pub within_same : tokens_of within ≡ inside
  pub nest : Nest
  pub taken : take_all strict fresh (outside ++ within) ≡ Ok nest
  pub goes : IsGoing nest
  pub starts : StartsAt offset (within ++ (at, token) ∷ [])
  pub leads : run fresh_state 0 bytes ≡ run (at_token nest) at rest

pub tokens_same : (ps qs : List (ℕ × Token)) (before inside : List Token) → tokens_of ps ≡ before → tokens_of qs ≡ inside
    → tokens_of (ps ++ qs) ≡ before ++ inside
tokens_same ps qs before inside e f = tokens_of-append ps qs ∙ ap (λ l. l ++ tokens_of qs) e ∙ ap (λ l. before ++ l) f

read_further : (bytes : List ℕ) (offset : ℕ) (before inside : List Token) (token : Token) (l : IsLast bytes offset before inside token)
    (r : IsReadTo bytes before offset l.first) (ps : List (ℕ × Token)) (n : Nest) → tokens_of ps ≡ inside → SpellsTo (length bytes) ps l.first l.middle
    → take_all strict fresh (r.located ++ ps) ≡ Ok n → IsGoing n → IsReadToLast bytes offset before inside token l.at l.rest
read_further bytes offset before inside token l r ps n same spells taken goes =
    let there : length bytes ≡ offset + length l.first = l.begins.well.offset in
    let there_too : length bytes ≡ l.at + length l.rest = l.next.well.offset in
    let behind : take_all strict r.nest ps ≡ Ok n =
    sym (ap (λ o. take_next o (λ m. take_all strict m ps)) r.taken) ∙ sym (take_all-append strict fresh r.located ps) ∙ taken in
    let further = tokens_run ps r.nest n offset (length bytes) l.first l.middle l.rest (reached strict r.nest r.located (omega arith) r.taken) goes
    (begins_some l.rest l.next.begins) spells l.skips behind there in
    let at_it : further.0 ≡ l.at = omega (arith, further.1) in
    record {
      outside = r.located;
      within = ps;
      outside_same = r.same;
      within_same = same;
      nest = n;
      taken = taken;
      goes = goes;
      starts = first_starts ps (length bytes) offset l.at token l.first l.middle l.rest l.begins.begins spells l.skips there there_too;
      leads = r.leads ∙ further.2 ∙ ap (λ k. run (at_token n) k l.rest) at_it;
    }

pub last_read : (bytes : List ℕ) (offset : ℕ) (before inside : List Token) (token : Token) (l : IsLast bytes offset before inside token)
    → IsReadToLast bytes offset before inside token l.at l.rest
last_read bytes offset before inside token l =
    let there : length bytes ≡ offset + length l.first = l.begins.well.offset in
    let r = well_read bytes before offset l.first l.begins.well (begins_some l.first l.begins.begins) in
    let placed = located inside (length bytes) l.first l.middle (omega arith) l.spelled in
    let all = tokens_same r.located placed.0 before inside r.same placed.1 in
    let w = l.next.well in
    let taken = well_taken (r.located ++ placed.0) (subst (MayBegin with_repeats) (sym all) w.begins)
    (λ front more key parted. w.distinct front more key (sym all ∙ parted)) in
    read_further bytes offset before inside token l r placed.0 taken.0 placed.1 placed.2 taken.1
    (unended_going (r.located ++ placed.0) taken.0 taken.1 (λ t text. w.unended t (subst (IsText with_repeats t) all text)))

-- what the last token is refused with is told
pub last_outcome : (bytes : List ℕ) (offset : ℕ) (before inside : List Token) (token : Token) (l : IsLast bytes offset before inside token)
    (r : IsReadToLast bytes offset before inside token l.at l.rest) (fault : ℕ × TextWhy) → MayRead r.nest l.at token
    → take strict r.nest l.at token ≡ Err fault → outcome fresh_state 0 bytes ≡ faulty fault.0 fault.1
last_outcome bytes offset before inside token l r fault may e =
    let there : length bytes ≡ l.at + length l.rest = l.next.well.offset in
    same_outcome fresh_state (at_token r.nest) 0 l.at bytes l.rest (faulty fault.0 fault.1) r.leads (omega arith)
    (refused_outcome (r.outside ++ r.within) r.nest l.at token l.rest l.behind fault r.taken r.goes may l.stands
    (subst (λ k. IsSettled k l.rest l.behind) (sym (tokens_same r.outside r.within before inside r.outside_same r.within_same)) l.settled) e)
