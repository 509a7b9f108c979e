-- A whole token that its place refuses breaks a rule.
use Rattle.std.proofs.Common.{◌≡◌, ◌<◌, ℕ, false, None, Ok, Err, List, [], ◌∷◌, ◌++◌, length, append-nil, append_assoc, refl, ap, ◌∙◌, sym, subst}
use Rattle.std.proofs.Common.{inl, inr, arith}
use Rattle.std.proofs.lemmas.List.{same_from_push}
use Rattle.text_model.specs.declared.fault.TextWhy.{TextWhy}
use Rattle.text_model.specs.declared.fault.TextWhy.TheVariants.{BadToken, Depth, RepeatedKey}
use Rattle.text_model.specs.declared.mark.Mark.TheVariants.{Colon}
use Rattle.text_model.specs.Token.{Token, mark, number, string, a_string}
use Rattle.text_model.specs.Spelling.{Stands}
use Rattle.text_model.specs.Grammar.{strict, formal}
use Rattle.text_model.specs.Nest.{Nest, Taken, fresh, refusal_of, may_hold, take}
use Rattle.text_model.specs.Located.{tokens_of, take_all}
use Rattle.text_model.specs.Fronts.{MayBegin, Repeats}
use Rattle.text_model.specs.Faults.{with_repeats, IsSettled, RepeatsKey, IsOfSegment, LeavesRange, Breaks}
use Rattle.text_model.proofs.TakenSteps.{tokens_of-append}
use Rattle.text_model.proofs.Parted.{last_of}
use Rattle.text_model.proofs.ComesRows.{IsInPlace}
use Rattle.text_model.proofs.RowsWell.{IsRead, next_token}
use Rattle.text_model.proofs.StringsStand.{begins_held}
use Rattle.text_model.proofs.LastTaken.{value_last, colon_last, no_colon_last}
use Rattle.text_model.proofs.RowsParts.{last_there}
use Rattle.text_model.proofs.RowsRefused.{IsValue, IsOfSegmentAt, IsRanged, IsDeepString, IsWhy, refused_why}
use Rattle.text_model.proofs.MayStand.{more_taken, more_begins}
use Rattle.text_model.proofs.Looser.{repeating_taken, formal_taken}
use Rattle.text_model.proofs.Passes.{value_stands}
use Rattle.text_model.proofs.RefusedKeys.{StartsAt, refused_repeats, repeated_taken}

-- a whole token behind what was read, which no longer one could be
pub record IsWhole (bytes : List ℕ) (n : Nest) (start : ℕ) (token : Token) : Type 0 where
  pub rest : List ℕ
  pub behind : List ℕ
  pub read : IsRead bytes n start rest
  pub stands : Stands token rest behind
  pub settled : IsSettled (tokens_of read.tokens) rest behind

-- the tokens in front of an offset, and those from there on
record IsCut (ps : List (ℕ × Token)) (offset start : ℕ) (token : Token) : Type 0 where
  pub before : List (ℕ × Token)
  pub inside : List (ℕ × Token)
  pub whole : ps ≡ before ++ inside
  pub starts : StartsAt offset (inside ++ (start, token) ∷ [])

in_two : (ps before inside : List (ℕ × Token)) → ps ≡ before ++ inside → tokens_of ps ≡ tokens_of before ++ tokens_of inside
in_two ps before inside e = ap tokens_of e ∙ tokens_of-append before inside

-- ---- keys

key_cut : (ps before key : List (ℕ × Token)) (offset start : ℕ) (token : Token) → ps ++ (start, token) ∷ [] ≡ before ++ key → StartsAt offset key
    → (c : IsCut ps offset start token) × (c.before ≡ before)
key_cut ps before key offset start token e at =
    let last = last_of key (some key at) in
    let both = same_from_push ps (before ++ last.0) (start, token) last.1
    (e ∙ ap (λ l. before ++ l) last.2 ∙ sym (append_assoc before last.0 (last.1 ∷ []))) in (
      record {
        before = before;
        inside = last.0;
        whole = both.0;
        starts = subst (StartsAt offset) (last.2 ∙ ap (λ p. last.0 ++ p ∷ []) (sym both.1)) at;
      },
      refl,
    )
  where
    some : (key : List (ℕ × Token)) → StartsAt offset key → 0 < length key
    some [] at = absurd at
    some (p ∷ key) at = omega arith

repeat_breaks : (bytes : List ℕ) (n : Nest) (start o : ℕ) (token : Token) → IsWhole bytes n start token → take strict n start token ≡ Err (o, RepeatedKey)
    → RepeatsKey bytes o
repeat_breaks bytes n start o token w e =
    let r = w.read in
    let key = refused_repeats r.tokens n start o token r.taken e in
    let cut = key_cut r.tokens key.0 key.1 o start token key.2 key.3 in
    let same = in_two r.tokens cut.0.before cut.0.inside cut.0.whole in
    let taken = repeated_taken r.tokens n start o token r.taken e in
    record {
      before = tokens_of cut.0.before;
      inside = tokens_of cut.0.inside;
      token = token;
      last = last_there bytes n start w.rest w.behind r token w.stands w.settled cut.0.before cut.0.inside o cut.0.whole cut.0.starts;
      in_place =
          subst (λ l. MayBegin with_repeats (l ++ token ∷ [])) same
          (more_begins with_repeats refl (omega arith) r.tokens n taken.0 start token (repeating_taken r.tokens n r.taken) taken.1);
      repeats =
          subst (λ l. Repeats (l ++ token ∷ []) (tokens_of cut.0.before)) same
          (subst (λ l. Repeats (tokens_of r.tokens ++ token ∷ []) (tokens_of l)) (sym cut.1) key.4);
    }

-- ---- segments

segment_cut : (ps : List (ℕ × Token)) (n : Nest) (start o : ℕ) (token : Token) → take_all strict fresh ps ≡ Ok n → IsOfSegmentAt n start o token
    → (c : IsCut ps o start token) × IsOfSegment (tokens_of c.before) (tokens_of c.inside) token
segment_cut ps n start o token e (inl (there, wanted, is)) =
    (record { before = ps; inside = []; whole = sym (append-nil ps); starts = sym there }, by_value is)
  where
    by_value : IsValue token → IsOfSegment (tokens_of ps) [] token
    by_value (inl (z, is)) = subst (λ t. IsOfSegment (tokens_of ps) [] t) (sym is) (λ front f. no_colon_last strict ps n front e wanted f)
    by_value (inr (cs, is)) = subst (λ t. IsOfSegment (tokens_of ps) [] t) (sym is) tt
segment_cut ps n start o token e (inr (inl (v, place, is))) =
    let last = value_last strict ps n o v e place in (
      record { before = last.0; inside = (o, number v) ∷ []; whole = last.1; starts = refl },
      subst (λ t. IsOfSegment (tokens_of last.0) (number v ∷ []) t) (sym is) tt,
    )
segment_cut ps n start o token e (inr (inr (v, z, place, is))) =
    let last = colon_last strict ps n o v e place in (
      record { before = last.0; inside = (o, number v) ∷ (last.1, mark Colon) ∷ []; whole = last.2; starts = refl },
      subst (λ t. IsOfSegment (tokens_of last.0) (number v ∷ mark Colon ∷ []) t) (sym is) tt,
    )

pub no_result : (t : Taken) (fault : ℕ × TextWhy) (m : Nest) → t ≡ Err fault → t ≡ Ok m → ⊥
no_result t fault m e f = cc

range_breaks : (bytes : List ℕ) (n : Nest) (start o : ℕ) (why : TextWhy) (token : Token) → IsWhole bytes n start token → IsRanged n start token o why
    → LeavesRange bytes o
range_breaks bytes n start o why token w d =
    let r = w.read in
    let cut = segment_cut r.tokens n start o token r.taken d.segment in
    let same = in_two r.tokens cut.0.before cut.0.inside cut.0.whole in
    record {
      before = tokens_of cut.0.before;
      inside = tokens_of cut.0.inside;
      token = token;
      last = last_there bytes n start w.rest w.behind r token w.stands w.settled cut.0.before cut.0.inside o cut.0.whole cut.0.starts;
      segment = cut.1;
      in_form =
          subst (λ l. MayBegin (formal 256) (l ++ token ∷ [])) same
          (more_begins (formal 256) refl (omega arith) r.tokens n d.nest start token (formal_taken r.tokens n r.taken) d.form);
      refused = λ b.
          let taken = more_taken with_repeats r.tokens n start token (repeating_taken r.tokens n r.taken)
          (subst (λ l. MayBegin with_repeats (l ++ token ∷ [])) (sym same) b) in
          no_result (take with_repeats n start token) (o, BadToken) taken.0 d.refused taken.1;
    }

-- ---- strings

deep_string : (bytes : List ℕ) (n : Nest) (start : ℕ) (rest behind : List ℕ) (c : ℕ) (cs : List ℕ) → IsRead bytes n start rest
    → Stands (string (c ∷ cs)) rest behind → refusal_of strict n a_string ≡ None → may_hold strict n ≡ false → Breaks bytes start Depth
deep_string bytes n start rest behind c cs r (is, (inside, opened, (others, first, more))) place deep = record {
  tokens = tokens_of r.tokens;
  rest = rest;
  next = next_token bytes n start rest r a_string (inside, opened);
  rule = inr (record {
    in_place = record { shows = (inside, opened); stands = value_stands r.tokens n a_string r.taken refl place };
    character = c;
    inside = inside;
    behind = others;
    opened = opened;
    first = (others, first, refl);
    deep = λ b. let held = begins_held r.tokens n c [] (formal_taken r.tokens n r.taken) b in cc;
  });
}

deep_breaks : (bytes : List ℕ) (n : Nest) (start o : ℕ) (why : TextWhy) (token : Token) → IsWhole bytes n start token → IsDeepString n start token o why
    → Breaks bytes o Depth
deep_breaks bytes n start o why token w d =
    subst (λ a. Breaks bytes a Depth) (sym d.there)
    (deep_string bytes n start w.rest w.behind d.character d.characters w.read
    (subst (λ t. Stands t w.rest w.behind) d.is w.stands) d.place d.deep)

-- ---- each of them

pub token_breaks : (bytes : List ℕ) (n : Nest) (start o : ℕ) (why : TextWhy) (token : Token) → IsWhole bytes n start token → IsInPlace n why token
    → take strict n start token ≡ Err (o, why) → Breaks bytes o why
token_breaks bytes n start o why token w place e = by_why (refused_why n start token o why place e)
  where
    by_why : IsWhy n start token o why → Breaks bytes o why
    by_why (inl repeated) =
        subst (λ y. Breaks bytes o y) (sym repeated) (repeat_breaks bytes n start o token w (e ∙ ap (λ y. Err (o, y)) repeated))
    by_why (inr (inl range)) = subst (λ y. Breaks bytes o y) (sym range.reason) (inr (range_breaks bytes n start o why token w range))
    by_why (inr (inr deep)) = subst (λ y. Breaks bytes o y) (sym deep.reason) (deep_breaks bytes n start o why token w deep)
