-- How the machine reads tokens one behind another.
use Rattle.std.proofs.Common.{◌≡◌, ℕ, ◌+◌, ◌-◌, ◌<◌, ◌≤◌, ◌⊎◌, Bool, true, false, cond, List, [], ◌∷◌, ◌++◌, length, length-append, None, Ok, refl}
use Rattle.std.proofs.Common.{ap, ◌∙◌, sym, subst, inl, inr, arith}
use Rattle.std.proofs.lemmas.Bool.{and_parts, or_left}
use Rattle.etf_model.specs.Layout.{integers}
use Rattle.text_model.specs.Token.{Token, mark, number, plain, quoted, string, sort_of, mark_bytes}
use Rattle.text_model.specs.Spelling.{Stands, Skips, Spells}
use Rattle.text_model.specs.Grammar.{Rules, strict, formal}
use Rattle.text_model.specs.Nest.{Nest, at_segment, wants, wants_segment, may_hold, refusal, string_refusal, leaf, take_bytes, take}
use Rattle.text_model.specs.Located.{SpellsTo, tokens_of, take_all}
use Rattle.text_model.specs.Reader.{why_of}
use Rattle.text_model.proofs.Comes.{IsGoing, IsNotStray}
use Rattle.text_model.proofs.ComesLengths.{characters_behind}
use Rattle.text_model.proofs.TokenStarts.{mark_some, name_some}
use Rattle.text_model.proofs.Looser.{IsLooser, looser_take, form_is_looser}
use Rattle.text_model.proofs.MayStand.{has_value, taken_passes}
use Rattle.text_model.proofs.ReachedNests.{IsReached}
use Rattle.text_model.proofs.Reaching.{reached_take}
use Rattle.text_model.proofs.Refused.{leaf_is, string_parts}
use Rattle.text_model.proofs.Runs.{run}
use Rattle.text_model.proofs.TakenSteps.{taken_before}
use Rattle.text_model.proofs.BlanksRead.{blanks_run}
use Rattle.text_model.proofs.WholeTokensRead.{may_be, MayRead, IsEnded, token_read, read_taken}
use Rattle.text_model.proofs.RunSteps.{at_token}
use Rattle.text_model.proofs.Going.{taken_going}
use Rattle.text_model.specs.declared.mark.Mark.{Mark}

-- ---- tokens that are taken may be read

string_hold : (rules : Rules) (n : Nest) (cs : List ℕ) → string_refusal rules n cs ≡ None → (cs ≡ []) ⊎ (may_hold rules n ≡ true)
string_hold rules n [] e = inl refl
string_hold rules n (c ∷ cs) e = inr (string_parts (refusal rules n) (may_hold rules n) e).1

pub string_holds_by : (rules : Rules) (n m : Nest) (at : ℕ) (cs : List ℕ) (b : Bool) → wants_segment n ≡ b
    → cond b (take_bytes rules n at cs) (leaf rules n at (integers cs) (string_refusal rules n cs)) ≡ Ok m → (cs ≡ []) ⊎ (may_hold rules n ≡ true)
string_holds_by rules n m at cs true w e = inr (or_left (at_segment n.begun) _ (and_parts (wants n.place) (at_segment n.begun) w).1)
string_holds_by rules n m at cs false w e = string_hold rules n cs (leaf_is rules n at (integers cs) (string_refusal rules n cs) m e).0

-- a token with a value, where it may stand by its form
pub formal_may_read : (n m : Nest) (at : ℕ) (token : Token) → has_value (sort_of token) ≡ true → take (formal 256) n at token ≡ Ok m → MayRead n at token
formal_may_read n m at (mark k) h e = cc
formal_may_read n m at (number z) h e = taken_passes (formal 256) n m at (number z) h e
formal_may_read n m at (plain cs) h e = taken_passes (formal 256) n m at (plain cs) h e
formal_may_read n m at (quoted cs) h e = taken_passes (formal 256) n m at (quoted cs) h e
formal_may_read n m at (string cs) h e =
    (taken_passes (formal 256) n m at (string cs) h e, string_holds_by (formal 256) n m at cs (wants_segment n) refl e)

value_may_read : (rules : Rules) (n m : Nest) (at : ℕ) (token : Token) → IsLooser (formal 256) rules → has_value (sort_of token) ≡ true
    → take rules n at token ≡ Ok m → MayRead n at token
value_may_read rules n m at token loose h e = formal_may_read n m at token h (looser_take (formal 256) rules n at token m loose e)

-- any token, and a mark where it is not stray
pub may_read : (rules : Rules) (n m : Nest) (at : ℕ) (token : Token) → IsLooser (formal 256) rules → take rules n at token ≡ Ok m
    → ((k : Mark) → token ≡ mark k → IsNotStray (why_of (take strict n at (mark k)))) → MayRead n at token
may_read rules n m at (mark k) loose e f = may_be n at k (f k refl)
may_read rules n m at (number z) loose e f = value_may_read rules n m at (number z) loose refl e
may_read rules n m at (plain cs) loose e f = value_may_read rules n m at (plain cs) loose refl e
may_read rules n m at (quoted cs) loose e f = value_may_read rules n m at (quoted cs) loose refl e
may_read rules n m at (string cs) loose e f = value_may_read rules n m at (string cs) loose refl e

pub taken_may_read : (n m : Nest) (at : ℕ) (token : Token) → take strict n at token ≡ Ok m → MayRead n at token
taken_may_read n m at token e =
    may_read strict n m at token form_is_looser e (λ k same f. let t = ap why_of (sym (ap (take strict n at) same) ∙ e) in cc)

-- ---- lengths and offsets

pub stands_shorter : (token : Token) (bytes behind : List ℕ) → Stands token bytes behind → length behind < length bytes
stands_shorter (mark m) bytes behind s = omega (arith, ap length s.1, length-append (mark_bytes m) behind, mark_some m)
stands_shorter (number z) bytes behind s =
    let i = s.1 in
    let some = i.some in
    omega (arith, ap length i.whole, length-append (cond i.minus (45 ∷ []) []) (i.digits ++ behind), length-append i.digits behind)
stands_shorter (plain cs) bytes behind s = omega (arith, ap length s.1.0, length-append cs behind, name_some cs s.0.0)
stands_shorter (quoted cs) bytes behind s = omega (arith, ap length s.1.1, characters_behind 39 cs s.1.0 (39 ∷ behind) s.1.2)
stands_shorter (string cs) bytes behind s = omega (arith, ap length s.1.1, characters_behind 34 cs s.1.0 (34 ∷ behind) s.1.2)

skips_shorter : (bytes rest : List ℕ) → Skips bytes rest → length rest ≤ length bytes
skips_shorter bytes rest s = omega (arith, ap length s.2, length-append s.0 rest)

spells_shorter : (total : ℕ) (ps : List (ℕ × Token)) (bytes rest : List ℕ) → SpellsTo total ps bytes rest → length rest ≤ length bytes
spells_shorter total [] bytes rest e = omega (arith, ap length e)
spells_shorter total (p ∷ ps) bytes rest e =
    omega (arith, skips_shorter bytes e.0 e.2, stands_shorter p.1 e.0 e.1 e.4, spells_shorter total ps e.1 rest e.5)

-- tokens with the offsets at which they begin
pub located : (tokens : List Token) (total : ℕ) (bytes rest : List ℕ) → length bytes ≤ total → Spells tokens bytes rest
    → (ps : List (ℕ × Token)) × (tokens_of ps ≡ tokens) × SpellsTo total ps bytes rest
located [] total bytes rest low e = ([], refl, e)
located (token ∷ tokens) total bytes rest low (here, behind, skips, stands, more) =
    let few = skips_shorter bytes here skips in
    let others = located tokens total behind rest (omega (arith, stands_shorter token here behind stands)) more in
    ((total - length here, token) ∷ others.0, ap (λ l. token ∷ l) others.1, (here, behind, skips, omega arith, stands, others.2))

-- ---- tokens

is_ended : (token : Token) (behind : List ℕ) → 0 < length behind → IsEnded token behind
is_ended (number z) behind some = some
is_ended (plain cs) behind some = some
is_ended other behind some = tt

-- tokens lead to the nest behind them, where the next one begins
pub tokens_run : (ps : List (ℕ × Token)) (n m : Nest) (at total : ℕ) (bytes middle rest : List ℕ) → IsReached strict n → IsGoing m → 0 < length rest
    → SpellsTo total ps bytes middle → Skips middle rest → take_all strict n ps ≡ Ok m → total ≡ at + length bytes
    → (next : ℕ) × (total ≡ next + length rest) × (run (at_token n) at bytes ≡ run (at_token m) next rest)
tokens_run [] n m at total bytes middle rest r goes some spells skips e there =
    let same : n ≡ m = cc in
    let few = skips_shorter middle rest skips in
    let next = total - length rest in
    let offset : total ≡ next + length rest = omega (arith, ap length spells) in (
      next,
      offset,
      ap (λ k. run (at_token k) at bytes) same
          ∙ blanks_run m at next bytes rest goes (subst (λ b. Skips b rest) (sym spells) skips) (omega arith),
    )
tokens_run (p ∷ ps) n m at total bytes middle rest r goes some (here, behind, blanks, offset, stands, more) skips e there =
    let first = taken_before (take strict n p.0 p.1) (λ k. take_all strict k ps) m e in
    let going_yet : IsGoing n = taken_going n first.0 p.0 p.1 r first.1 in
    let left : 0 < length behind = omega (arith, spells_shorter total ps behind middle more, skips_shorter middle rest skips) in
    let read = token_read n p.0 p.1 here behind going_yet (taken_may_read n first.0 p.0 p.1 first.1) (is_ended p.1 behind left) stands in
    let behind_it : p.0 + length here ≡ read.next + length behind = read.there in
    let further = tokens_run ps first.0 m read.next total behind middle rest (reached_take strict n first.0 p.0 p.1 r first.1) goes some more skips
    first.2 (offset ∙ behind_it) in (
      further.0,
      further.1,
      blanks_run n at p.0 bytes here going_yet blanks (omega arith)
          ∙ read_taken n first.0 p.0 p.1 here behind read first.1 ∙ further.2,
    )
