-- Where a text begins in some bytes, and that the limit on its length counts from there.
use Rattle.std.proofs.Common.{◌≡◌, ℕ, ◌+◌, ◌-◌, Bool, true, false, cond, ◌||◌, ◌==◌, List, [], ◌∷◌, ◌++◌, length, length-append, Some, Ok, Err, inl}
use Rattle.std.proofs.Common.{inr, refl, ap, ◌∙◌, sym, subst, arith}
use Rattle.text_model.specs.declared.fault.TextWhy.{TextWhy}
use Rattle.text_model.specs.Spelling.{is_white, IsBlank}
use Rattle.text_model.specs.Sentence.{BeginsAt, ends, longest}
use Rattle.text_model.specs.Faults.{IsBlankEnd}
use Rattle.text_model.specs.Nest.{fresh}
use Rattle.text_model.specs.Reader.{Lexeme, between, in_comment, State, Led, Sequence, whole, part, wrong, sequence, in_lexeme, fresh_state, is_gap}
use Rattle.text_model.specs.Reader.{is_blank, begin, comment_led, led}
use Rattle.text_model.specs.Progress.{going as all_read, failing as failed, counted, reach_by, no_progress, reach}
use Rattle.text_model.proofs.Runs.{Run, going, at_stop, failing, run, run_by}
use Rattle.text_model.proofs.Comes.{Comes}
use Rattle.text_model.proofs.ComesTokens.{no_blank}
use Rattle.text_model.proofs.RunsCome.{Goes, Tells, run_tells}
use Rattle.text_model.proofs.RowsBreak.{blank_end}
use Rattle.text_model.proofs.Limited.{by_limit, if_gt, limited}
use Rattle.text_model.proofs.GapWalks.{blank_walks, skips_comment_walks}
use Rattle.text_model.proofs.BlankFronts.{blank_at, counted_begun, reach_step, walk_reach, Front, all_blank, none_begins, begun, front_of, begin_begun}
use Rattle.text_model.proofs.BlanksRead.{walk_run, walk_end}
use Rattle.text_model.proofs.RunSteps.{fresh_goes, run_led, state_in}

comes_first : Comes [] fresh between
comes_first = record {
  tokens = [];
  taken = refl;
  blanks = [];
  blank = no_blank;
  spelled = λ more. refl;
  offset = refl;
  stop = λ t e. cc;
}

-- what a run over all bytes says of them
pub tells : (bytes : List ℕ) (r : Run) → run fresh_state 0 bytes ≡ r → Tells bytes r
tells bytes r e = subst (Tells bytes) e (run_tells [] fresh_state bytes comes_first)

-- ---- to the machine

begins_by : (o x : ℕ) (rest : List ℕ) → is_white x ≡ false → (x == 37) ≡ false
    → reach (blank_at between o) (x ∷ rest) ≡ by_limit o (run fresh_state o (x ∷ rest)) (o + length (x ∷ rest))
begins_by o x rest white comment =
    reach_step between o x rest ∙ by (begin fresh o x) refl
    ∙ ap (λ r. by_limit o r (o + length (x ∷ rest))) (sym (run_led fresh between o x rest (begin fresh o x) fresh_goes refl))
  where
    by : (d : Led) → begin fresh o x ≡ d
        → reach_by d (λ s. reach (counted (blank_at between o) s) rest) ≡ by_limit o (run_by o d (λ s. run s (o + 1) rest)) (o + length (x ∷ rest))
    by (Ok t) e =
        let offset : o + 1 + length rest ≡ o + length (x ∷ rest) = omega arith in
        ap (λ p. reach p rest) (counted_begun between t o (begin_begun o x t white comment e))
        ∙ limited t (o + 1) o rest (omega arith) (omega arith) ∙ ap (by_limit o (run t (o + 1) rest)) offset
    by (Err fault) e = sym (if_gt (o + longest) o _ _ (omega arith))

neither : (a b : Bool) → Some (a || b) ≡ Some false → (a ≡ false) × (b ≡ false)
neither true b e = cc
neither false true e = cc
neither false false e = (refl, refl)

begins_behind : (blanks at : List ℕ) → IsBlank blanks → ends false at ≡ Some false
    → reach no_progress (blanks ++ at) ≡ by_limit (length blanks) (run fresh_state 0 (blanks ++ at)) (length (blanks ++ at))
begins_behind blanks [] b e = cc
begins_behind blanks (x ∷ rest) b e =
    let test = neither (is_white x) (x == 37) e in
    let walks = blank_walks fresh blanks b in
    let none : 0 + length blanks ≡ length blanks = omega arith in
    let offset : length blanks + length (x ∷ rest) ≡ length (blanks ++ x ∷ rest) = sym (length-append blanks (x ∷ rest)) in
    walk_reach between between 0 blanks (x ∷ rest) walks ∙ ap (λ o. reach (blank_at between o) (x ∷ rest)) none
    ∙ begins_by (length blanks) x rest test.0 test.1
    ∙ ap (by_limit (length blanks) (run fresh_state (length blanks) (x ∷ rest))) offset
    ∙ ap (λ r. by_limit (length blanks) r (length (blanks ++ x ∷ rest)))
    (ap (λ o. run fresh_state o (x ∷ rest)) (sym none) ∙ sym (walk_run fresh between between 0 blanks (x ∷ rest) fresh_goes walks))

-- from where a text begins on the limit counts
pub begun_limited : (bytes at : List ℕ) (o : ℕ) → BeginsAt bytes at → length bytes ≡ o + length at
    → reach no_progress bytes ≡ by_limit o (run fresh_state 0 bytes) (length bytes)
begun_limited bytes at o b there =
    let blanks = b.skips.0 in
    let parted : bytes ≡ blanks ++ at = b.skips.2 in
    let same : length blanks ≡ o = omega (arith, ap length parted, length-append blanks at) in
    ap (reach no_progress) parted ∙ begins_behind blanks at b.skips.1 b.text
    ∙ ap (λ n. by_limit n (run fresh_state 0 (blanks ++ at)) (length (blanks ++ at))) same
    ∙ ap (λ l. by_limit o (run fresh_state 0 l) (length l)) (sym parted)

-- ---- and back

lexeme_of : Run → Lexeme
lexeme_of (going s) = s.lexeme
lexeme_of (at_stop t at rest) = between
lexeme_of (failing at o why) = between

gaps_apart : going (state_in fresh between) ≡ going (state_in fresh (in_comment [])) → ⊥
unfolding lexeme_of
gaps_apart e = let same : between ≡ in_comment [] = ap lexeme_of e in cc

-- bytes that lead to a state between two tokens are blanks
between_blank : (front : List ℕ) → run fresh_state 0 front ≡ going (state_in fresh between) → IsBlank front
between_blank front e =
    let goes : Goes front (state_in fresh between) = tells front (going (state_in fresh between)) e in
    by (blank_end front (state_in fresh between) goes.comes refl refl)
  where
    by : IsBlankEnd front → IsBlank front
    by (inl b) = b
    by (inr (cs, line, skips)) =
        let all : run fresh_state 0 front ≡ going (state_in fresh (in_comment [])) =
        walk_end fresh between (in_comment []) 0 front fresh_goes (skips_comment_walks fresh cs front line skips) in
        absurd (gaps_apart (sym e ∙ all))

line_goes : (b : Bool) (t : State) → in_lexeme fresh (cond b between (in_comment [])) ≡ Ok t → is_blank t ≡ false → ⊥
line_goes true t e f = cc
line_goes false t e f = cc

-- no token is begun behind a byte of a comment
comment_goes : (at : ℕ) (bytes : List ℕ) (s : Sequence) (t : State) → comment_led fresh at bytes s ≡ Ok t → is_blank t ≡ false → ⊥
comment_goes at bytes (whole c) t e f = line_goes (c == 10) t e f
comment_goes at bytes part t e f = cc
comment_goes at bytes wrong t e f = cc

begun_first : (at x : ℕ) (t : State) (v w : Bool) → is_white x ≡ v → (x == 37) ≡ w → begin fresh at x ≡ Ok t → is_blank t ≡ false
    → Some (is_white x || x == 37) ≡ Some false
begun_first at x t true w white comment e f = let is : in_lexeme fresh between ≡ Ok t = sym (rw white) ∙ e in cc
begun_first at x t false true white comment e f = let is : in_lexeme fresh (in_comment []) ≡ Ok t = sym (rw (white, comment)) ∙ e in cc
begun_first at x t false false white comment e f = rw (white, comment)

-- a byte behind which a token is begun is its first one
begun_at : (m : Lexeme) (front : List ℕ) (at x : ℕ) (rest : List ℕ) (t : State) → is_gap m ≡ true → run fresh_state 0 front ≡ going (state_in fresh m)
    → led fresh at x m ≡ Ok t → is_blank t ≡ false → BeginsAt (front ++ x ∷ rest) (x ∷ rest)
begun_at between front at x rest t g e d f = record {
  skips = (front, between_blank front e, refl);
  text = begun_first at x t (is_white x) (x == 37) refl refl d f;
}
begun_at (in_comment bytes) front at x rest t g e d f =
    absurd (comment_goes (at - length bytes) (bytes ++ x ∷ []) (sequence (bytes ++ x ∷ [])) t d f)
begun_at other front at x rest t g _ _ _ = cc

-- A text begins at an offset, from which on the limit counts; or none begins.
pub data View (bytes : List ℕ) : Type 0 where
  begins : (at : List ℕ) (o : ℕ) → BeginsAt bytes at → length bytes ≡ o + length at
      → reach no_progress bytes ≡ by_limit o (run fresh_state 0 bytes) (length bytes) → View bytes
  blanks : (m : Lexeme) → is_gap m ≡ true → reach no_progress bytes ≡ all_read (blank_at m (length bytes))
      → run fresh_state 0 bytes ≡ going (state_in fresh m) → View bytes
  fails : (last o : ℕ) (why : TextWhy) → reach no_progress bytes ≡ failed o why → run fresh_state 0 bytes ≡ failing last o why → View bytes

view_begun : (bytes at : List ℕ) (o : ℕ) → BeginsAt bytes at → length bytes ≡ o + length at → View bytes
view_begun bytes at o b there = begins at o b there (begun_limited bytes at o b there)

view_by : (bytes : List ℕ) → Front between 0 bytes → View bytes
view_by bytes (all_blank m g r u) = blanks m g (r ∙ ap (λ o. all_read (blank_at m o)) (let e : 0 + length bytes ≡ length bytes = omega arith in e)) u
view_by bytes (none_begins last o why r u) = fails last o why r u
view_by bytes (begun front x rest m t parted g u d f) =
    view_begun bytes (x ∷ rest) (length front)
    (subst (λ l. BeginsAt l (x ∷ rest)) (sym parted) (begun_at m front (0 + length front) x rest t g u d f))
    (ap length parted ∙ length-append front (x ∷ rest))

pub view : (bytes : List ℕ) → View bytes
view bytes = view_by bytes (front_of between 0 bytes refl)
