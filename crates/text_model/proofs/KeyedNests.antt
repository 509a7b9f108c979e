-- Tokens that end a key that stands in its map already lead to a nest that shows it, where keys may be repeated.
use Rattle.std.proofs.Common.{◌≡◌, ℕ, suc, ◌+◌, ◌≤◌, true, false, ◌&&◌, List, [], ◌∷◌, ◌++◌, length, Ok, refl, ap, ◌∙◌, sym, subst, append_assoc, arith}
use Rattle.std.specs.List.{list_any}
use Rattle.dets_term.specs.TermValue.{TermValue}
use Rattle.dets_term.specs.Order.{is_same}
use Rattle.dets_term.specs.Pairs.{keys, placed}
use Rattle.text_model.specs.declared.mark.Mark.TheVariants.{OpenMap, Comma}
use Rattle.text_model.specs.Token.{Token, mark}
use Rattle.text_model.specs.Grammar.{Rules, strict, IsPair, all_placed, Text}
use Rattle.text_model.specs.Nest.{in_map, in_value, Begun, Place, want, opened, after, Nest, fresh, wants, refusal, repeats_in, take}
use Rattle.text_model.specs.Located.{tokens_of, take_next, take_all}
use Rattle.text_model.specs.Fronts.{ArePairsBefore, Repeats}
use Rattle.text_model.specs.Faults.{with_repeats}
use Rattle.text_model.proofs.TakenSteps.{step, take_all-append, taken_before, parted_as}
use Rattle.text_model.proofs.Refused.{open_term_is}
use Rattle.text_model.proofs.PartsTaken.{within, part_anew}
use Rattle.text_model.proofs.PairsTaken.{pair_taken}
use Rattle.text_model.proofs.KeysApart.{any_placed}
use Rattle.text_model.proofs.TextTaken.{term_taken, none_left}
use Rattle.text_model.proofs.Looser.{IsLooser, IsLooser-trans, looser_take_all, repeating_is_looser}
use Rattle.text_model.proofs.LooserTexts.{text_as, pairs_as}

-- rules by which keys may be repeated, with so many levels
abbrev roomy : ℕ → Rules
roomy levels = record { levels = levels; distinct = false; ranged = true }

roomy_is_looser : (levels : ℕ) → 256 ≤ levels → IsLooser (roomy levels) with_repeats
roomy_is_looser levels h = record { levels = h; distinct = λ e. cc; ranged = λ e. refl }

-- a pair of a map, with a comma behind it
pair_leads : (rules : Rules) (levels at : ℕ) (bs : List Begun) (pair : TermValue × TermValue) (sorted : List (TermValue × TermValue)) (place : Place)
    (ps : List (ℕ × Token)) (tokens rest : List Token) → rules.distinct ≡ false → levels + suc (length bs) ≡ rules.levels → wants place ≡ true
    → IsPair (Text rules levels) pair tokens (mark Comma ∷ rest) → tokens_of ps ≡ tokens
    → (behind : List (ℕ × Token)) × (tokens_of behind ≡ rest)
    × (take_all rules (within at (in_map sorted) bs place) ps ≡ take_all rules (within at (in_map (placed pair sorted)) bs want) behind)
pair_leads rules levels at bs pair sorted place ps tokens rest d room w is e =
    let item = pair_taken rules levels (Text rules levels) at bs sorted pair place ps tokens (mark Comma ∷ rest) (term_taken rules levels) room
    (ap (λ b. b && list_any (is_same pair.0) (keys sorted)) d) w is e in
    let s = item.1 in
    let comma = step rules (within at (in_value sorted pair.0) bs (after item.0 pair.1)) s.behind (λ late. Ok (within at (in_map (placed pair sorted)) bs want))
    (mark Comma) rest (λ late. refl) s.same in
    (comma.behind, comma.same, s.leads ∙ comma.leads)

-- some of them
pairs_lead : (rules : Rules) (levels at : ℕ) (bs : List Begun) (pairs sorted : List (TermValue × TermValue)) (place : Place) (ps : List (ℕ × Token))
    (tokens rest : List Token) → rules.distinct ≡ false → levels + suc (length bs) ≡ rules.levels → wants place ≡ true
    → ArePairsBefore (Text rules levels) pairs tokens rest → tokens_of ps ≡ tokens
    → (last : Place) × (behind : List (ℕ × Token)) × (wants last ≡ true) × (tokens_of behind ≡ rest)
    × (take_all rules (within at (in_map sorted) bs place) ps ≡ take_all rules (within at (in_map (all_placed sorted pairs)) bs last) behind)
pairs_lead rules levels at bs [] sorted place ps tokens rest d room w are e = (place, ps, w, e ∙ are, refl)
pairs_lead rules levels at bs (pair ∷ pairs) sorted place ps tokens rest d room w (between, first, are) e =
    behind_one (pair_leads rules levels at bs pair sorted place ps tokens between d room w first e)
    (λ qs same. pairs_lead rules levels at bs pairs (placed pair sorted) want qs between rest d room refl are same)
  where
    behind_one : (behind : List (ℕ × Token)) × (tokens_of behind ≡ between)
        × (take_all rules (within at (in_map sorted) bs place) ps ≡ take_all rules (within at (in_map (placed pair sorted)) bs want) behind)
        → ((qs : List (ℕ × Token)) → tokens_of qs ≡ between → (last : Place) × (behind : List (ℕ × Token)) × (wants last ≡ true) × (tokens_of behind ≡ rest)
        × (take_all rules (within at (in_map (placed pair sorted)) bs want) qs
        ≡ take_all rules (within at (in_map (all_placed sorted (pair ∷ pairs))) bs last) behind))
        → (last : Place) × (behind : List (ℕ × Token)) × (wants last ≡ true) × (tokens_of behind ≡ rest)
        × (take_all rules (within at (in_map sorted) bs place) ps ≡ take_all rules (within at (in_map (all_placed sorted (pair ∷ pairs))) bs last) behind)
    behind_one (qs, same, leads) more = let others = more qs same in (others.0, others.1, others.2, others.3, leads ∙ others.4)

-- a key
key_leads : (rules : Rules) (levels at : ℕ) (bs : List Begun) (sorted : List (TermValue × TermValue)) (key : TermValue) (place : Place)
    (ps : List (ℕ × Token)) → rules.distinct ≡ false → levels + suc (length bs) ≡ rules.levels → wants place ≡ true
    → Text rules levels key (tokens_of ps) []
    → (start : ℕ) × (first : Token) × (more : List (ℕ × Token)) × (ps ≡ (start, first) ∷ more)
    × (take_all rules (within at (in_map sorted) bs place) ps ≡ Ok (within at (in_map sorted) bs (after start key)))
key_leads rules levels at bs sorted key place ps d room w text =
    let s = part_anew rules levels (Text rules levels) at (in_map sorted) bs key place ps (tokens_of ps) [] (term_taken rules levels) room refl
    (ap (λ b. b && list_any (is_same key) (keys sorted)) d) w text refl in
    (s.start, s.first, s.more, s.starts, s.leads ∙ none_left rules _ s.behind s.same)

-- Behind the opening mark of a map: its pairs so far, and a key.
map_leads : (levels at : ℕ) (bs : List Begun) (pairs : List (TermValue × TermValue)) (key : TermValue) (inside own : List (ℕ × Token)) (n : Nest)
    → take_all with_repeats (within at (in_map []) bs opened) (inside ++ own) ≡ Ok n → ArePairsBefore (Text strict levels) pairs (tokens_of inside) []
    → Text strict levels key (tokens_of own) []
    → (start : ℕ) × (first : Token) × (more : List (ℕ × Token)) × (own ≡ (start, first) ∷ more)
    × (n ≡ within at (in_map (all_placed [] pairs)) bs (after start key))
map_leads levels at bs pairs key inside own n e are text =
    let rules : Rules = roomy ((levels + 256) + suc (length bs)) in
    let loose : IsLooser rules with_repeats = roomy_is_looser ((levels + 256) + suc (length bs)) (omega arith) in
    let looser : IsLooser rules strict = IsLooser-trans rules with_repeats strict loose repeating_is_looser in
    let begun = within at (in_map []) bs opened in
    let deep : levels ≤ levels + 256 = omega arith in
    let front = pairs_lead rules (levels + 256) at bs pairs [] opened inside (tokens_of inside) [] refl refl refl
    (pairs_as rules strict (levels + 256) levels looser deep pairs (tokens_of inside) [] are) refl in
    let behind = within at (in_map (all_placed [] pairs)) bs front.0 in
    let there : take_all rules begun inside ≡ Ok behind = front.4 ∙ none_left rules behind front.1 front.3 in
    let last = key_leads rules (levels + 256) at bs (all_placed [] pairs) key front.0 own refl refl front.2
    (text_as rules strict (levels + 256) levels looser deep key (tokens_of own) [] text) in
    let whole = sym (looser_take_all rules with_repeats begun (inside ++ own) n loose e) ∙ take_all-append rules begun inside own
    ∙ ap (λ o. take_next o (λ m. take_all rules m own)) there ∙ last.4 in
    (last.0, last.1, last.2, last.3, (let same : n ≡ within at (in_map (all_placed [] pairs)) bs (after last.0 key) = cc in same))

-- a nest behind a key that stands in its map already, and the tokens in front of the key
pub record IsKeyed (n : Nest) (ps : List (ℕ × Token)) (before : List Token) : Type 0 where
  pub front : List (ℕ × Token)
  pub start : ℕ
  pub first : Token
  pub more : List (ℕ × Token)
  pub parted : ps ≡ front ++ (start, first) ∷ more
  pub same : tokens_of front ≡ before
  pub key : TermValue
  pub placed : n.place ≡ after start key
  pub repeated : repeats_in n.begun key ≡ true

keyed_by : (ps front own : List (ℕ × Token)) (n : Nest) (before : List Token) (at : ℕ) (bs : List Begun) (pairs : List (TermValue × TermValue))
    (key : TermValue) → ps ≡ front ++ own → tokens_of front ≡ before → list_any (is_same key) (keys pairs) ≡ true
    → (start : ℕ) × (first : Token) × (more : List (ℕ × Token)) × (own ≡ (start, first) ∷ more)
    × (n ≡ within at (in_map (all_placed [] pairs)) bs (after start key))
    → IsKeyed n ps before
keyed_by ps front own n before at bs pairs key parted same again (start, first, more, starts, is) = record {
  front = front;
  start = start;
  first = first;
  more = more;
  parted = parted ∙ ap (λ l. front ++ l) starts;
  same = same;
  key = key;
  placed = ap (λ (m : Nest). m.place) is;
  repeated = ap (λ (m : Nest). repeats_in m.begun key) is ∙ sym (any_placed key pairs) ∙ again;
}

-- where the front is parted at the opening mark of the map
keyed_at : (ps outer opens own : List (ℕ × Token)) (n : Nest) (before : List Token) (r : Repeats (tokens_of ps) before)
    → take_all with_repeats fresh ps ≡ Ok n → ps ≡ (outer ++ opens) ++ own → tokens_of (outer ++ opens) ≡ before → tokens_of own ≡ r.key_tokens
    → tokens_of opens ≡ mark OpenMap ∷ r.inside → IsKeyed n ps before
keyed_at ps outer [] own n before r e parted same key opening = cc
keyed_at ps outer (p ∷ inside) own n before r e parted same key opening =
    let all = sym (take_all-append with_repeats fresh outer (p ∷ (inside ++ own)))
    ∙ ap (take_all with_repeats fresh) (sym (append_assoc outer (p ∷ inside) own) ∙ sym parted) ∙ e in
    let out = taken_before (take_all with_repeats fresh outer) (λ m. take_all with_repeats m (p ∷ (inside ++ own))) n all in
    let one = taken_before (take with_repeats out.0 p.0 p.1) (λ m. take_all with_repeats m (inside ++ own)) n out.2 in
    let mark_is : p.1 ≡ mark OpenMap = cc in
    let inside_is : tokens_of inside ≡ r.inside = cc in
    let opened_is = open_term_is with_repeats out.0 p.0 (in_map []) (refusal with_repeats out.0) one.0
    (sym (ap (take with_repeats out.0 p.0) mark_is) ∙ one.1) in
    let leads = map_leads r.levels p.0 out.0.begun r.pairs r.key inside own n
    (ap (λ m. take_all with_repeats m (inside ++ own)) opened_is.1 ∙ one.2)
    (subst (λ l. ArePairsBefore (Text strict r.levels) r.pairs l []) (sym inside_is) r.pairs_text)
    (subst (λ l. Text strict r.levels r.key l []) (sym key) r.key_text) in
    keyed_by ps (outer ++ p ∷ inside) own n before p.0 out.0.begun r.pairs r.key parted same r.repeated leads

pub keyed : (ps : List (ℕ × Token)) (n : Nest) (before : List Token) → take_all with_repeats fresh ps ≡ Ok n → Repeats (tokens_of ps) before
    → IsKeyed n ps before
keyed ps n before e r =
    let halves = parted_as ps before r.key_tokens r.whole in
    let outer = parted_as halves.0 r.outside (mark OpenMap ∷ r.inside) (halves.3 ∙ r.parted) in
    keyed_at ps outer.0 outer.1 halves.1 n before r e (halves.2 ∙ ap (λ l. l ++ halves.1) outer.2)
    (ap tokens_of (sym outer.2) ∙ halves.3) halves.4 outer.4
