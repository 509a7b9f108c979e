-- The canonical spelling of a term spells it.
use Rattle.std.proofs.Common.{◌≡◌, ℕ, zero, suc, ◌^◌, ◌<◌, ◌≤◌, Bool, true, false, cond, ◌&&◌, ◌==◌, nat_le, List, [], ◌∷◌, ◌++◌, length, map, ⊎_elim, refl}
use Rattle.std.proofs.Common.{sym, ap, ◌∙◌, subst, arith}
use Rattle.std.specs.List.{concat, flat_map, zip, list_all, AllByRecursion}
use Rattle.std.proofs.lemmas.Bool.{cond-true, cond-false, cases_Bool, and_parts, leb-true}
use Rattle.std.proofs.lemmas.List.{length-map}
use Rattle.dets_term.specs.TermValue.{TermValue, integer, atom, tuple, mapping, nil, cons, bits, chain, map_of, elements, is_list, parts_depth, depth}
use Rattle.dets_term.specs.IsTerm.{IsTerm, IsProper, IsBounded, AreAscending}
use Rattle.dets_term.specs.Pairs.{keys}
use Rattle.dets_term.specs.Parts.{deepest, deepest_of_pairs, elements-not_list, parts_depth-map_of}
use Rattle.etf_model.specs.declared.fault.EtfFault.{EtfFault}
use Rattle.etf_model.specs.declared.fault.EtfFault.TheVariants.{NotVersion, Unsupported, Compressed}
use Rattle.etf_model.specs.declared.tags.TheConstants.{VERSION, COMPRESSED, NIL, LIST}
use Rattle.etf_model.specs.Format.{Format}
use Rattle.etf_model.specs.Layout.{is_known, begins_tail}
use Rattle.etf_model.specs.Spelling.{tag_of, body, term_with, outermost, Spells}
use Rattle.etf_model.specs.Canonical.{canonical, canonical_each, canonical_end, head, is_proper, are_bytes, is_byte}
use Rattle.etf_model.specs.CanonicalWholes.{canonical-tuple, canonical-map, canonical_end-not_list}
use Rattle.etf_model.proofs.WholeFormats.{whole_at, followed_whole}
use Rattle.etf_model.proofs.WholeLeaves.{Tagged, tagged_at, integer_tagged, atom_tagged, bits_tagged}
use Rattle.etf_model.proofs.WholeTerms.{may_count, may_count_pairs, tuple_tagged, string_tagged, list_tagged, map_tagged}

-- a part, and what a list ends in, where so many levels are left for it
abbrev part : ℕ → Format TermValue
part levels = term_with is_known (λ term x. Unsupported term x) levels

abbrev tail : ℕ → Format TermValue
tail levels = term_with begins_tail (λ term x. Unsupported term x) levels

abbrev AtLevel : ℕ → TermValue → List ℕ → Type 0
AtLevel levels t bytes = Tagged (part levels) (tail levels) levels t bytes

term_whole : (test : ℕ → Bool) (fault : ℕ → ℕ → EtfFault) (levels : ℕ) (t : TermValue) (bytes : List ℕ) (w : AtLevel levels t bytes) → test w.tag ≡ true
    → (term_with test fault (suc levels)).Whole t bytes
term_whole test fault levels t bytes w passes =
    subst (λ b. (term_with test fault (suc levels)).Whole t b) (sym w.same)
    (followed_whole (tag_of test fault) (λ tag. body (part levels) (tail levels) levels tag) w.tag t (w.tag ∷ []) w.rest (refl, passes) w.inside)

-- ---- lists

-- what a list ends in
abbrev list_end : TermValue → TermValue
list_end (cons first rest) = list_end rest
list_end other = other

chain-list_end : (t : TermValue) → chain (elements t) (list_end t) ≡ t
chain-list_end (integer z) = refl
chain-list_end (atom name) = refl
chain-list_end (tuple parts) = refl
chain-list_end (mapping keys values) = refl
chain-list_end nil = refl
chain-list_end (cons first rest) = ap (cons first) (chain-list_end rest)
chain-list_end (bits bs) = refl

chain-elements : (t : TermValue) → is_proper t ≡ true → chain (elements t) nil ≡ t
chain-elements (integer z) e = cc
chain-elements (atom name) e = cc
chain-elements (tuple parts) e = cc
chain-elements (mapping keys values) e = cc
chain-elements nil e = refl
chain-elements (cons first rest) e = ap (cons first) (chain-elements rest e)
chain-elements (bits bs) e = cc

is_proper-from : (t : TermValue) → IsProper t → is_proper t ≡ true
is_proper-from (integer z) p = absurd p
is_proper-from (atom name) p = absurd p
is_proper-from (tuple parts) p = absurd p
is_proper-from (mapping keys values) p = absurd p
is_proper-from nil p = refl
is_proper-from (cons first rest) p = is_proper-from rest p
is_proper-from (bits bs) p = absurd p

proper : (t : TermValue) → IsProper t → chain (elements t) nil ≡ t
proper t p = chain-elements t (is_proper-from t p)

list_end-not_list : (t : TermValue) → is_list t ≡ false → list_end t ≡ t
list_end-not_list (integer z) e = refl
list_end-not_list (atom name) e = refl
list_end-not_list (tuple parts) e = refl
list_end-not_list (mapping keys values) e = refl
list_end-not_list nil e = cc
list_end-not_list (cons first rest) e = cc
list_end-not_list (bits bs) e = refl

length-each : (t : TermValue) → length (canonical_each t) ≡ length (elements t)
length-each (integer z) = refl
length-each (atom name) = refl
length-each (tuple parts) = refl
length-each (mapping keys values) = refl
length-each nil = refl
length-each (cons first rest) = ap suc (length-each rest)
length-each (bits bs) = refl

concat-each : (t : TermValue) → concat (canonical_each t) ≡ flat_map canonical (elements t)
concat-each (integer z) = refl
concat-each (atom name) = refl
concat-each (tuple parts) = refl
concat-each (mapping keys values) = refl
concat-each nil = refl
concat-each (cons first rest) = ap (λ bytes. canonical first ++ bytes) (concat-each rest)
concat-each (bits bs) = refl

few-elements : (t : TermValue) → IsBounded t → length (elements t) < 2 ^ 32
few-elements (integer z) b = omega arith
few-elements (atom name) b = omega arith
few-elements (tuple parts) b = omega arith
few-elements (mapping keys values) b = omega arith
few-elements nil b = omega arith
few-elements (cons first rest) b = b.0
few-elements (bits bs) b = omega arith

-- how deep what follows an element of a list is
abbrev rest_depth : TermValue → ℕ
rest_depth t = cond (is_list t) (parts_depth t) (suc (parts_depth t))

rest_depth-proper : (t : TermValue) → IsProper t → rest_depth t ≡ parts_depth t
rest_depth-proper (integer z) p = absurd p
rest_depth-proper (atom name) p = absurd p
rest_depth-proper (tuple parts) p = absurd p
rest_depth-proper (mapping keys values) p = absurd p
rest_depth-proper nil p = refl
rest_depth-proper (cons first rest) p = refl
rest_depth-proper (bits bs) p = absurd p

-- no element is deeper than the list's parts
deepest-elements : (t : TermValue) → deepest (elements t) ≤ rest_depth t
deepest-elements (integer z) = omega arith
deepest-elements (atom name) = omega arith
deepest-elements (tuple parts) = omega arith
deepest-elements (mapping keys values) = omega arith
deepest-elements nil = omega arith
deepest-elements (cons first rest) = let rest = deepest-elements rest in omega arith
deepest-elements (bits bs) = omega arith

-- ---- pairs

keys-zip : (ks vs : List TermValue) → length ks ≡ length vs → map (λ p. p.0) (zip ks vs) ≡ ks
keys-zip [] vs e = refl
keys-zip (k ∷ ks) [] e = absurd (omega arith)
keys-zip (k ∷ ks) (v ∷ vs) e = ap (λ ls. k ∷ ls) (keys-zip ks vs (omega arith))

values-zip : (ks vs : List TermValue) → length ks ≡ length vs → map (λ p. p.1) (zip ks vs) ≡ vs
values-zip [] [] e = refl
values-zip [] (v ∷ vs) e = absurd (omega arith)
values-zip (k ∷ ks) [] e = absurd (omega arith)
values-zip (k ∷ ks) (v ∷ vs) e = ap (λ ls. v ∷ ls) (values-zip ks vs (omega arith))

all-zip : (P : TermValue → Type 0) (ks vs : List TermValue) → AllByRecursion P ks → AllByRecursion P vs → AllByRecursion (λ p. P p.0 × P p.1) (zip ks vs)
all-zip P [] vs a b = tt
all-zip P (k ∷ ks) [] a b = tt
all-zip P (k ∷ ks) (v ∷ vs) a b = ((a.0, b.0), all-zip P ks vs a.1 b.1)

-- ---- by induction over the value

-- what is spelled: the term itself, each element of a list, and what it ends in
record Canon (t : TermValue) : Type 0 where
  itself : (levels : ℕ) → parts_depth t ≤ levels → IsBounded t → AtLevel levels t (canonical t)
  each : (levels : ℕ) → rest_depth t ≤ levels → IsBounded t → AllByRecursion (λ u. (part levels).Whole u (canonical u)) (elements t)
  ending : (levels : ℕ) → 1 ≤ levels → rest_depth t ≤ levels → IsBounded t → (tail levels).Whole (list_end t) (canonical_end t)

part_whole : (t : TermValue) → Canon t → (levels : ℕ) → depth t ≤ levels → IsBounded t → (part levels).Whole t (canonical t)
part_whole t c zero h b = absurd (omega arith)
part_whole t c (suc levels) h b = let w = c.itself levels (omega arith) b in term_whole is_known (λ term x. Unsupported term x) levels t (canonical t) w w.known

-- a term that is no list
not_list : (t : TermValue) → is_list t ≡ false → ((levels : ℕ) → parts_depth t ≤ levels → IsBounded t → AtLevel levels t (canonical t)) → Canon t
not_list t e w = record {
  itself = w;
  each = λ levels h b. subst (λ us. AllByRecursion (λ u. (part levels).Whole u (canonical u)) us) (sym (elements-not_list t e)) tt;
  ending = λ levels one h b.
      whole_at (tail levels) t (list_end t) (canonical t) (canonical_end t) (sym (list_end-not_list t e)) (sym (canonical_end-not_list t e)) (last levels h b);
}
  where
    last : (levels : ℕ) → rest_depth t ≤ levels → IsBounded t → (tail levels).Whole t (canonical t)
    last zero h b = let d : rest_depth t ≡ suc (parts_depth t) = ap (λ x. cond x (parts_depth t) (suc (parts_depth t))) e in absurd (omega arith)
    last (suc levels) h b =
        let d : rest_depth t ≡ suc (parts_depth t) = ap (λ x. cond x (parts_depth t) (suc (parts_depth t))) e in
        let v = w levels (omega arith) b in
        term_whole begins_tail (λ term x. Unsupported term x) levels t (canonical t) v (v.ends e)

empty_list : (levels : ℕ) → AtLevel levels nil (NIL ∷ [])
empty_list levels = record { tag = 106; rest = []; same = refl; known = refl; ends = λ e. refl; inside = (refl, refl) }

empty_ending : (levels : ℕ) → 1 ≤ levels → (tail levels).Whole nil (NIL ∷ [])
unfolding empty_list
empty_ending zero one = absurd (omega arith)
empty_ending (suc levels) one = term_whole begins_tail (λ term x. Unsupported term x) levels nil (NIL ∷ []) (empty_list levels) refl

tuple_canon : (parts : TermValue) → Canon parts → (levels : ℕ) → parts_depth (tuple parts) ≤ levels → IsBounded (tuple parts)
    → AtLevel levels (tuple parts) (canonical (tuple parts))
tuple_canon parts c levels h b =
    let ts = elements parts in
    let same = ap tuple (proper parts b.0) in
    let deep = rest_depth-proper parts b.0 in
    let most = deepest-elements parts in
    let all = c.each levels (omega arith) b.1 in
    subst (λ t. AtLevel levels t (canonical t)) same
    (tagged_at (part levels) (tail levels) levels (tuple (chain ts nil)) _ _ (sym (canonical-tuple ts))
    (tuple_tagged (part levels) (tail levels) levels ts (few-elements parts b.1) (may_count levels ts (omega arith)) all))

map_canon : (ks vs : TermValue) → Canon ks → Canon vs → (levels : ℕ) → parts_depth (mapping ks vs) ≤ levels → IsBounded (mapping ks vs)
    → AtLevel levels (mapping ks vs) (canonical (mapping ks vs))
map_canon ks vs c d levels h b =
    let ps = zip (elements ks) (elements vs) in
    let first = keys-zip (elements ks) (elements vs) b.2 in
    let second = values-zip (elements ks) (elements vs) b.2 in
    let same : map_of ps ≡ mapping ks vs =
    ap (λ us. mapping (chain us nil) (chain (map (λ p. p.1) ps) nil)) first ∙ ap (λ us. mapping (chain (elements ks) nil) (chain us nil)) second
    ∙ ap (λ u. mapping u (chain (elements vs) nil)) (proper ks b.0) ∙ ap (mapping ks) (proper vs b.1) in
    let few : length ps < 2 ^ 32 = let size = sym (length-map ps (λ p. p.0)) ∙ ap length first in let most = few-elements ks b.4 in omega arith in
    let deep_ks = rest_depth-proper ks b.0 in
    let deep_vs = rest_depth-proper vs b.1 in
    let all =
    all-zip (λ u. (part levels).Whole u (canonical u)) (elements ks) (elements vs) (c.each levels (omega arith) b.4) (d.each levels (omega arith) b.5) in
    let deep : deepest_of_pairs ps ≤ levels = let e = sym (parts_depth-map_of ps) ∙ ap parts_depth same in omega arith in
    subst (λ t. AtLevel levels t (canonical t)) same
    (tagged_at (part levels) (tail levels) levels (map_of ps) _ _ (sym (canonical-map ps))
    (map_tagged (part levels) (tail levels) levels ps few (may_count_pairs levels ps deep) (subst AreAscending (sym first) b.3) all))

list_canon : (first rest : TermValue) → Canon first → Canon rest → (levels : ℕ) → parts_depth (cons first rest) ≤ levels → IsBounded (cons first rest)
    → AtLevel levels (cons first rest) (canonical (cons first rest))
list_canon first rest c d levels h b =
    let t = cons first rest in
    let ts = elements (cons first rest) in
    let few = few-elements (cons first rest) b in
    let most = deepest-elements (cons first rest) in
    let may = may_count levels ts (omega arith) in
    let parts = canonical first ∷ canonical_each rest in
    let each : AllByRecursion (λ u. (part levels).Whole u (canonical u)) ts = (part_whole first c levels (omega arith) b.1, d.each levels (omega arith) b.2) in
    ⊎_elim (λ e.
    let both = and_parts (is_proper t) (are_bytes ts) e in
    let bytes = and_parts (nat_le (length ts) 65535) (list_all is_byte ts) both.1 in
    tagged_at (part levels) (tail levels) levels t _ _ (sym (cond-true (is_proper t && are_bytes ts) _ _ e))
    (string_tagged (part levels) (tail levels) levels ts t (chain-elements t both.0) refl (leb-true (length ts) 65535 bytes.0) bytes.1 may))
    (λ e.
    let size : length parts ≡ length ts = ap suc (length-each rest) in
    let whole : concat parts ≡ flat_map canonical ts = ap (λ bytes. canonical first ++ bytes) (concat-each rest) in
    tagged_at (part levels) (tail levels) levels t _ _
    (sym (
    cond-false (is_proper t && are_bytes ts) _ _ e
    ∙ ap (λ n. head LIST 4 n ++ (concat parts ++ canonical_end rest)) size
    ∙ ap (λ bytes. head LIST 4 (length ts) ++ (bytes ++ canonical_end rest)) whole
    ))
    (list_tagged (part levels) (tail levels) levels ts (list_end rest) t (canonical_end rest) (chain-list_end t) refl (omega arith) few may each
    (d.ending levels (omega arith) (omega arith) b.2)))
    (cases_Bool (is_proper t && are_bytes ts))

canon : (t : TermValue) → Canon t
canon (integer z) = not_list (integer z) refl (λ levels h b. integer_tagged (part levels) (tail levels) levels z b)
canon (atom name) = not_list (atom name) refl (λ levels h b. atom_tagged (part levels) (tail levels) levels name b.0 b.1)
canon (tuple parts) = not_list (tuple parts) refl (tuple_canon parts (canon parts))
canon (mapping ks vs) = not_list (mapping ks vs) refl (map_canon ks vs (canon ks) (canon vs))
canon nil = record { itself = λ levels h b. empty_list levels; each = λ levels h b. tt; ending = λ levels one h b. empty_ending levels one }
canon (cons first rest) =
    let c = canon first in
    let d = canon rest in
    record {
      itself = list_canon first rest c d;
      each = λ levels h b. (part_whole first c levels (omega arith) b.1, d.each levels (omega arith) b.2);
      ending = λ levels one h b. d.ending levels one (omega arith) b.2;
    }
canon (bits bs) = not_list (bits bs) refl (λ levels h b. bits_tagged (part levels) (tail levels) levels bs b)

pub canonical_spells : (t : TermValue) → IsTerm t → Spells t (VERSION ∷ canonical t)
canonical_spells t term =
    let shallow = term.shallow in
    let w = (canon t).itself 255 (omega arith) term.bounded in
    followed_whole (tag_of (λ x. x == VERSION) (λ term x. NotVersion term)) (λ x. outermost) VERSION t (VERSION ∷ []) (canonical t) (refl, refl)
    (term_whole is_known (λ term x. cond (x == COMPRESSED) (Compressed term) (Unsupported term x)) 255 t (canonical t) w w.known)
