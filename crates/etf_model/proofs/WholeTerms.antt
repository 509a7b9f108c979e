-- The canonical spelling of tuples, lists and maps spells them where that of their parts does.
use Rattle.std.proofs.Common.{◌≡◌, ℕ, zero, suc, ◌^◌, ◌<◌, ◌≤◌, true, false, not, ◌==◌, cond, List, [], ◌∷◌, ◌++◌, length, map, ⊎_elim, refl, sym, ap, ◌∙◌}
use Rattle.std.proofs.Common.{subst, arith, append_assoc}
use Rattle.std.specs.List.{flat_map, list_any, list_all, AllByRecursion}
use Rattle.std.specs.Int.{bytes_high_first}
use Rattle.std.specs.declared.cmp.Ordering.TheVariants.{Less}
use Rattle.std.specs.Ordering.{is_eq, is_lt, ordering_reverse}
use Rattle.std.proofs.lemmas.Bool.{cond-true, cond-false, le-leb, lt-leb, ne_eqb, and_parts, or_from, not_from_false, cases_lt}
use Rattle.std.proofs.lemmas.List.{append-nil, length-map, map-append}
use Rattle.std.specs.Prelude.{pos, negsuc}
use Rattle.dets_term.specs.TermValue.{TermValue, integer, atom, tuple, mapping, nil, cons, bits, chain, map_of, is_list}
use Rattle.dets_term.specs.Order.{order, is_same}
use Rattle.dets_term.specs.OrderCode.{order_total}
use Rattle.dets_term.specs.IsTerm.{AreAscending}
use Rattle.dets_term.specs.Pairs.{keys, placed}
use Rattle.dets_term.specs.Parts.{deepest, deepest_of_pairs}
use Rattle.dets_term.specs.PairSorts.{all_above}
use Rattle.etf_model.specs.declared.fault.EtfFault.TheVariants.{RepeatedKey}
use Rattle.etf_model.specs.declared.tags.TheConstants.{STRING, LIST, MAP}
use Rattle.etf_model.specs.Format.{Format, byte, followed, tested, framed, changed, times, either}
use Rattle.etf_model.specs.Layout.{integers}
use Rattle.etf_model.specs.Spelling.{may_have_parts, count, tuple_of, no_tail, pairs_after}
use Rattle.etf_model.specs.Canonical.{canonical, head, tuple_head, is_byte, byte_value}
use Rattle.etf_model.proofs.WholeFormats.{value_after, whole_at, followed_whole, changed_whole, MayCount, count_whole, times_byte_whole, times_whole, value-1}
use Rattle.etf_model.proofs.WholeFormats.{value-2, value-4}
use Rattle.etf_model.proofs.WholeLeaves.{Tagged, tagged_at}

-- a term may have parts where levels are left for them
pub may_count : (levels : ℕ) (ts : List TermValue) → deepest ts ≤ levels → MayCount (may_have_parts levels) (length ts)
may_count zero [] h = refl
may_count zero (t ∷ ts) h = absurd (omega arith)
may_count (suc levels) ts h = tt

pub may_count_pairs : (levels : ℕ) (ps : List (TermValue × TermValue)) → deepest_of_pairs ps ≤ levels → MayCount (may_have_parts levels) (length ps)
may_count_pairs zero [] h = refl
may_count_pairs zero (p ∷ ps) h = absurd (omega arith)
may_count_pairs (suc levels) ps h = tt

-- the bytes of integers are these again
pub integers-bytes : (ts : List TermValue) → list_all is_byte ts ≡ true → integers (map byte_value ts) ≡ chain ts nil
integers-bytes [] all = refl
integers-bytes (t ∷ ts) all =
    let both = and_parts (is_byte t) (list_all is_byte ts) all in
    ap (λ u. cons u (integers (map byte_value ts))) (byte-again t both.0) ∙ ap (λ us. cons t us) (integers-bytes ts both.1)
  where
    byte-again : (t : TermValue) → is_byte t ≡ true → integer (pos (byte_value t)) ≡ t
    byte-again (integer (pos n)) e = refl
    byte-again (integer (negsuc n)) e = cc
    byte-again (atom name) e = cc
    byte-again (tuple parts) e = cc
    byte-again (mapping keys values) e = cc
    byte-again nil e = cc
    byte-again (cons first rest) e = cc
    byte-again (bits bs) e = cc

-- ---- keys that ascend are not repeated

apart : (k l : TermValue) → order l k ≡ Less → is_same k l ≡ false
apart k l e = ap is_eq (order_total.antisymm k l ∙ ap ordering_reverse e)

above : (k l : TermValue) (ks rest : List TermValue) → AllByRecursion (λ m. order l m ≡ Less) (ks ++ k ∷ rest) → order l k ≡ Less
above k l [] rest all = all.0
above k l (m ∷ ks) rest all = above k l ks rest all.1

none_same : (ks : List TermValue) (k : TermValue) (rest : List TermValue) → AreAscending (ks ++ k ∷ rest) → list_any (is_same k) ks ≡ false
none_same [] k rest up = refl
none_same (l ∷ ks) k rest up =
    or_from (is_same k l) (list_any (is_same k) ks) (apart k l (above k l ks rest (all_above l (ks ++ k ∷ rest) up.0 up.1))) (none_same ks k rest up.1)

-- a pair with a greater key goes last
last_placed : (seen : List (TermValue × TermValue)) (p : TermValue × TermValue) (rest : List TermValue) → AreAscending (keys seen ++ p.0 ∷ rest)
    → placed p seen ≡ seen ++ p ∷ []
last_placed [] p rest up = refl
last_placed (q ∷ seen) p rest up =
    let less = above p.0 q.0 (keys seen) rest (all_above q.0 (keys seen ++ p.0 ∷ rest) up.0 up.1) in
    ap (λ b. cond b (p ∷ q ∷ seen) (q ∷ placed p seen)) (ap is_lt (order_total.antisymm p.0 q.0 ∙ ap ordering_reverse less))
    ∙ ap (λ ps. q ∷ ps) (last_placed seen p rest up.1)

module _ (part tail : Format TermValue) (levels : ℕ) where
  -- the canonical spelling of a part spells it
  abbrev pub IsPart : TermValue → Type 0
  IsPart t = part.Whole t (canonical t)

  tuple_whole : (size : ℕ) (ts : List TermValue) → value_after 0 size (length ts) ≡ length ts → MayCount (may_have_parts levels) (length ts)
      → AllByRecursion IsPart ts
      → (tuple_of part levels size).Whole (tuple (chain ts nil)) (bytes_high_first size (length ts) ++ flat_map canonical ts)
  tuple_whole size ts value may all =
      followed_whole (count levels size) (λ n. changed (times n part) (λ ts. tuple (chain ts nil))) (length ts) (tuple (chain ts nil))
      (bytes_high_first size (length ts)) (flat_map canonical ts)
      (count_whole (may_have_parts levels) size (length ts) may value)
      (changed_whole (times (length ts) part) (λ ts. tuple (chain ts nil)) ts (flat_map canonical ts) (times_whole part canonical ts all))

  pub tuple_tagged : (ts : List TermValue) → length ts < 2 ^ 32 → MayCount (may_have_parts levels) (length ts) → AllByRecursion IsPart ts
      → Tagged part tail levels (tuple (chain ts nil)) (tuple_head (length ts) ++ flat_map canonical ts)
  tuple_tagged ts fits may all =
      let n = length ts in
      ⊎_elim (λ h. tagged_at part tail levels (tuple (chain ts nil)) _ _
      (ap (λ b. b ++ flat_map canonical ts) (sym (cond-true _ _ _ (le-leb n 255 (omega arith))))) (record {
        tag = 104;
        rest = bytes_high_first 1 n ++ flat_map canonical ts;
        same = refl;
        known = refl;
        ends = λ e. refl;
        inside = tuple_whole 1 ts (value-1 n (omega arith)) may all;
      }))
      (λ h. tagged_at part tail levels (tuple (chain ts nil)) _ _ (ap (λ b. b ++ flat_map canonical ts) (sym (cond-false _ _ _ (lt-leb n 255 h)))) (record {
        tag = 105;
        rest = bytes_high_first 4 n ++ flat_map canonical ts;
        same = refl;
        known = refl;
        ends = λ e. refl;
        inside = tuple_whole 4 ts (value-4 n fits) may all;
      }))
      (cases_lt n 256)

  pub string_tagged : (ts : List TermValue) (t : TermValue) → chain ts nil ≡ t → is_list t ≡ true → length ts ≤ 65535 → list_all is_byte ts ≡ true
      → MayCount (may_have_parts levels) (length ts)
      → Tagged part tail levels t (head STRING 2 (length ts) ++ map byte_value ts)
  string_tagged ts t e is fits all may =
      let n = length ts in
      let bytes = map byte_value ts in
      record {
        tag = 107;
        rest = bytes_high_first 2 n ++ bytes;
        same = refl;
        known = refl;
        ends = λ other. cc;
        inside = followed_whole (count levels 2) (λ n. changed (times n byte) integers) n t (bytes_high_first 2 n) bytes
            (count_whole (may_have_parts levels) 2 n may (value-2 n (omega arith)))
            (whole_at (changed (times n byte) integers) (integers bytes) t bytes bytes (integers-bytes ts all ∙ e) refl
            (changed_whole (times n byte) integers bytes bytes
            (subst (λ (k : ℕ). (times k byte).Whole bytes bytes) (length-map ts byte_value) (times_byte_whole bytes))));
      }

  pub list_tagged : (ts : List TermValue) (end t : TermValue) (ending : List ℕ) → chain ts end ≡ t → is_list t ≡ true → 0 < length ts → length ts < 2 ^ 32
      → MayCount (may_have_parts levels) (length ts)
      → AllByRecursion IsPart ts → tail.Whole end ending → Tagged part tail levels t (head LIST 4 (length ts) ++ (flat_map canonical ts ++ ending))
  list_tagged ts end t ending e is some fits may all last =
      let n = length ts in
      let other : (n == 0) ≡ false = ne_eqb n 0 (λ z. omega arith) in
      let ended : (either (n == 0) no_tail tail).Whole end ending = subst (λ b. (either b no_tail tail).Whole end ending) (sym other) last in
      record {
        tag = 108;
        rest = bytes_high_first 4 n ++ (flat_map canonical ts ++ ending);
        same = refl;
        known = refl;
        ends = λ other. cc;
        inside =
            followed_whole (count levels 4) (λ n. followed (times n part) (λ ts. changed (either (n == 0) no_tail tail) (λ end. chain ts end))) n t
            (bytes_high_first 4 n) (flat_map canonical ts ++ ending)
            (count_whole (may_have_parts levels) 4 n may (value-4 n fits))
            (followed_whole (times n part) (λ ts. changed (either (n == 0) no_tail tail) (λ end. chain ts end)) ts t (flat_map canonical ts) ending
            (times_whole part canonical ts all)
            (whole_at (changed (either (n == 0) no_tail tail) (λ end. chain ts end)) (chain ts end) t ending ending e refl
            (changed_whole (either (n == 0) no_tail tail) (λ end. chain ts end) end ending ended)));
      }

  -- ---- maps

  abbrev spelled_pair : (TermValue × TermValue) → List ℕ
  spelled_pair p = canonical p.0 ++ canonical p.1

  pairs_whole : (seen ps : List (TermValue × TermValue)) → AreAscending (keys (seen ++ ps)) → AllByRecursion (λ p. IsPart p.0 × IsPart p.1) ps
      → (pairs_after part seen (length ps)).Whole (seen ++ ps) (flat_map spelled_pair ps)
  pairs_whole seen [] up all = (append-nil seen, refl)
  pairs_whole seen (p ∷ ps) up all =
      let ascending = subst AreAscending (map-append (λ p. p.0) seen (p ∷ ps)) up in
      let new = none_same (keys seen) p.0 (keys ps) ascending in
      let last = last_placed seen p (keys ps) ascending in
      let next = append_assoc seen (p ∷ []) ps in
      let rest = pairs_whole (seen ++ p ∷ []) ps (subst (λ qs. AreAscending (keys qs)) (sym next) up) all.1 in
      whole_at (pairs_after part seen (suc (length ps))) (seen ++ p ∷ ps) (seen ++ p ∷ ps) _ _ refl
      (sym (append_assoc (canonical p.0) (canonical p.1) (flat_map spelled_pair ps)))
      (followed_whole (framed (tested part (λ k. not (list_any (is_same k) (keys seen))) (λ term k. RepeatedKey term)))
      (λ k. followed part (λ v. pairs_after part (placed (k, v) seen) (length ps))) p.0 (seen ++ p ∷ ps) (canonical p.0)
      (canonical p.1 ++ flat_map spelled_pair ps)
      (all.0.0, not_from_false _ new)
      (followed_whole part (λ v. pairs_after part (placed (p.0, v) seen) (length ps)) p.1 (seen ++ p ∷ ps) (canonical p.1) (flat_map spelled_pair ps) all.0.1
      (whole_at (pairs_after part (placed p seen) (length ps)) ((seen ++ p ∷ []) ++ ps) (seen ++ p ∷ ps) _ _ next refl
      (subst (λ qs. (pairs_after part qs (length ps)).Whole ((seen ++ p ∷ []) ++ ps) (flat_map spelled_pair ps)) (sym last) rest))))

  pub map_tagged : (ps : List (TermValue × TermValue)) → length ps < 2 ^ 32 → MayCount (may_have_parts levels) (length ps) → AreAscending (keys ps)
      → AllByRecursion (λ p. IsPart p.0 × IsPart p.1) ps
      → Tagged part tail levels (map_of ps) (head MAP 4 (length ps) ++ flat_map spelled_pair ps)
  map_tagged ps fits may up all =
      let n = length ps in
      record {
        tag = 116;
        rest = bytes_high_first 4 n ++ flat_map spelled_pair ps;
        same = refl;
        known = refl;
        ends = λ e. refl;
        inside = followed_whole (count levels 4) (λ n. changed (pairs_after part [] n) map_of) n (map_of ps) (bytes_high_first 4 n) (flat_map spelled_pair ps)
            (count_whole (may_have_parts levels) 4 n may (value-4 n fits))
            (changed_whole (pairs_after part [] n) map_of ps (flat_map spelled_pair ps) (pairs_whole [] ps up all));
      }
