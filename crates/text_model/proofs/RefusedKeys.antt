-- A token that is refused for a key ends one that stands in its map already, and is taken where keys may be repeated.
use Rattle.std.proofs.Common.{◌≡◌, ℕ, Bool, true, false, cond, List, [], ◌∷◌, ◌++◌, Ok, Err, inl, inr, refl, ap, ◌∙◌, sym, subst}
use Rattle.std.proofs.lemmas.List.{append-nil}
use Rattle.std.specs.List.{list_any}
use Rattle.dets_term.specs.TermValue.{TermValue}
use Rattle.dets_term.specs.Order.{is_same}
use Rattle.dets_term.specs.Pairs.{keys}
use Rattle.text_model.specs.declared.fault.TextWhy.{TextWhy}
use Rattle.text_model.specs.declared.fault.TextWhy.TheVariants.{RepeatedKey}
use Rattle.text_model.specs.declared.mark.Mark.TheVariants.{OpenMap}
use Rattle.text_model.specs.Token.{Token, mark}
use Rattle.text_model.specs.Grammar.{strict, IsPair, Text}
use Rattle.text_model.specs.Nest.{Frame, in_map, Begun, after, Nest, fresh, Taken, repeats_key, repeats_in, take}
use Rattle.text_model.specs.Located.{tokens_of, take_all}
use Rattle.text_model.specs.Fronts.{ArePairsBefore, Repeats}
use Rattle.text_model.specs.Faults.{with_repeats}
use Rattle.text_model.proofs.TakenSteps.{tokens_of-append}
use Rattle.text_model.proofs.KeysApart.{any_placed}
use Rattle.text_model.proofs.ItemsBefore.{AreBefore}
use Rattle.text_model.proofs.OpenTerms.{AreOpen, IsWhole}
use Rattle.text_model.proofs.TokensRead.{Reads}
use Rattle.text_model.proofs.NestsRead.{reads, is_at}
use Rattle.text_model.proofs.RepeatsDiffer.{Differs, differs}
use Rattle.text_model.proofs.Looser.{repeating_taken}

-- the first of some tokens begins at an offset
abbrev pub StartsAt : ℕ → List (ℕ × Token) → Type 0
StartsAt at [] = ⊥
StartsAt at (p ∷ ps) = p.0 ≡ at

-- ---- a token that is refused so

-- the key by which a token is refused
abbrev RepeatsAt : ℕ → List (ℕ × Token) → List Token → Type 0
RepeatsAt at ps tokens =
    (before : List (ℕ × Token)) × (key : List (ℕ × Token)) × (ps ≡ before ++ key) × StartsAt at key × Repeats tokens (tokens_of before)

pairs_before : (Part : TermValue → List Token → List Token → Type 0) (pairs : List (TermValue × TermValue)) (tokens rest : List Token)
    → AreBefore (IsPair Part) pairs tokens rest → ArePairsBefore Part pairs tokens rest
pairs_before Part [] tokens rest b = b
pairs_before Part (pair ∷ pairs) tokens rest (behind, first, b) = (behind, first, pairs_before Part pairs behind rest b)

-- a whole part of a map
frame_repeats : (bs : List Begun) (at start : ℕ) (frame : Frame) (t : TermValue) (ps : List (ℕ × Token))
    (w : IsWhole strict (record { start = at; frame = frame } ∷ bs) start t ps) → repeats_key frame t ≡ true → RepeatsAt start ps (tokens_of ps)
frame_repeats bs at start (in_map sorted) t ps w again = by_outside w.outside
  where
    by_outside : AreOpen strict w.levels (record { start = at; frame = in_map sorted } ∷ bs) w.before → RepeatsAt start ps (tokens_of ps)
    by_outside (outer, inside, parted, (pairs, same, apart, is), outside) = (
      w.before,
      (start, w.first) ∷ w.more,
      w.parted,
      refl,
      record {
        outside = tokens_of outer;
        inside = tokens_of inside;
        key_tokens = w.first ∷ tokens_of w.more;
        parted = ap tokens_of parted ∙ tokens_of-append outer ((at, mark OpenMap) ∷ inside);
        whole = ap tokens_of w.parted ∙ tokens_of-append w.before ((start, w.first) ∷ w.more);
        levels = w.levels;
        pairs = pairs;
        key = t;
        pairs_text = pairs_before (Text strict w.levels) pairs (tokens_of inside) [] (is (tokens_of inside) [] (sym (append-nil (tokens_of inside))));
        key_text = subst (λ l. Text strict w.levels t (w.first ∷ l) []) (append-nil (tokens_of w.more)) (w.text []);
        repeated = any_placed t pairs ∙ ap (λ qs. list_any (is_same t) (keys qs)) (sym same) ∙ again;
      },
    )
frame_repeats bs at start frame t ps w again = cc

whole_repeats : (bs : List Begun) (start : ℕ) (t : TermValue) (ps : List (ℕ × Token)) → IsWhole strict bs start t ps → repeats_in bs t ≡ true
    → RepeatsAt start ps (tokens_of ps)
whole_repeats [] start t ps w again = cc
whole_repeats (b ∷ bs) start t ps w again = frame_repeats bs b.start start b.frame t ps w again

refused_key : (b : Bool) (start at : ℕ) (n : Nest) → cond {A = Taken} b (Err (start, RepeatedKey)) (Ok n) ≡ Err (at, RepeatedKey) → (b ≡ true) × (start ≡ at)
refused_key true start at n e =
    let fault : (start, RepeatedKey) ≡ (at, RepeatedKey) = cc in (refl, ap (λ (f : ℕ × TextWhy). f.0) fault)
refused_key false start at n e = cc

read_repeats : (ps : List (ℕ × Token)) (at : ℕ) (o : Taken) → o ≡ Err (at, RepeatedKey) → Reads strict ps o → RepeatsAt at ps (tokens_of ps)
read_repeats ps at o e (inl (bs, start, t, is, whole)) =
    let refused = refused_key (repeats_in bs t) start at (record { begun = bs; place = after start t }) (sym is ∙ e) in
    subst (λ x. RepeatsAt x ps (tokens_of ps)) refused.1 (whole_repeats bs start t ps whole refused.0)
read_repeats ps at o e (inr (inl (m, is, here))) = cc
read_repeats ps at o e (inr (inr (fault, is, never))) =
    absurd (never (let same : fault ≡ (at, RepeatedKey) = cc in ap (λ (f : ℕ × TextWhy). f.1) same))

-- a token that is refused so ends a key that stands in its map already, and the offset is that of this key
pub refused_repeats : (ps : List (ℕ × Token)) (n : Nest) (start at : ℕ) (token : Token) → take_all strict fresh ps ≡ Ok n
    → take strict n start token ≡ Err (at, RepeatedKey)
    → (before : List (ℕ × Token)) × (key : List (ℕ × Token)) × (ps ++ (start, token) ∷ [] ≡ before ++ key) × StartsAt at key
    × Repeats (tokens_of ps ++ token ∷ []) (tokens_of before)
refused_repeats ps n start at token e f =
    let all = tokens_of-append ps ((start, token) ∷ []) in
    subst (λ l. RepeatsAt at (ps ++ (start, token) ∷ []) l) all
    (read_repeats (ps ++ (start, token) ∷ []) at (take strict n start token) f (reads strict n start token ps (is_at strict ps n e)))

-- and it is taken where keys may be repeated
never_repeats : (ps : List (ℕ × Token)) (at : ℕ) (o : Taken) → o ≡ Err (at, RepeatedKey) → Reads with_repeats ps o → ⊥
never_repeats ps at o e (inl (bs, start, t, is, whole)) = cc
never_repeats ps at o e (inr (inl (m, is, here))) = cc
never_repeats ps at o e (inr (inr (fault, is, never))) =
    never (let same : fault ≡ (at, RepeatedKey) = cc in ap (λ (f : ℕ × TextWhy). f.1) same)

pub repeated_taken : (ps : List (ℕ × Token)) (n : Nest) (start at : ℕ) (token : Token) → take_all strict fresh ps ≡ Ok n
    → take strict n start token ≡ Err (at, RepeatedKey) → (m : Nest) × (take with_repeats n start token ≡ Ok m)
repeated_taken ps n start at token e f = by (differs n start token)
  where
    by : Differs (take with_repeats n start token) (take strict n start token) → (m : Nest) × (take with_repeats n start token ≡ Ok m)
    by (inl same) =
        absurd (never_repeats (ps ++ (start, token) ∷ []) at (take with_repeats n start token) (same ∙ f)
        (reads with_repeats n start token ps (is_at with_repeats ps n (repeating_taken ps n e))))
    by (inr (bs, s, t, is, refused)) = (_, is)
