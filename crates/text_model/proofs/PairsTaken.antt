-- The machine takes the inside of a map, where it takes each part.
use Rattle.std.proofs.Common.{◌≡◌, ℕ, suc, ◌+◌, true, false, List, [], ◌∷◌, length, Ok, refl, ap, ◌∙◌, sym}
use Rattle.dets_term.specs.TermValue.{TermValue, map_of}
use Rattle.dets_term.specs.Pairs.{placed}
use Rattle.text_model.specs.declared.mark.Mark.TheVariants.{CloseBrace, Arrow}
use Rattle.text_model.specs.Token.{Token, mark}
use Rattle.text_model.specs.Grammar.{Rules, Closes, Enclosed, IsPair, InMap}
use Rattle.text_model.specs.Nest.{in_map, in_value, Begun, Place, want, opened, after, wants, completed}
use Rattle.text_model.specs.Located.{tokens_of}
use Rattle.text_model.proofs.TakenSteps.{Steps, step, steps_to}
use Rattle.text_model.proofs.Series.{joined, AllMay, Series, separated_taken}
use Rattle.text_model.proofs.PartsTaken.{TakesParts, within, part_anew, part_apart}
use Rattle.text_model.proofs.KeysApart.{put, joined-put, refuses_key, pairs_may}

-- a key, its arrow and its value
pub pair_taken : (rules : Rules) (levels : ℕ) (Part : TermValue → List Token → List Token → Type 0) (at : ℕ) (bs : List Begun)
    (sorted : List (TermValue × TermValue)) (pair : TermValue × TermValue) (place : Place) (ps : List (ℕ × Token)) (tokens rest : List Token)
    → TakesParts rules levels Part → levels + suc (length bs) ≡ rules.levels → refuses_key rules sorted pair ≡ false → wants place ≡ true
    → IsPair Part pair tokens rest → tokens_of ps ≡ tokens
    → (start : ℕ) × Steps rules (within at (in_map sorted) bs place) ps (λ late. Ok (within at (in_value sorted pair.0) bs (after start pair.1))) rest
pair_taken rules levels Part at bs sorted pair place ps tokens rest takes room anew w (behind, key, value) e =
    let first = part_anew rules levels Part at (in_map sorted) bs pair.0 place ps tokens (mark Arrow ∷ behind) takes room refl anew w key e in
    let arrow = step rules (within at (in_map sorted) bs (after first.start pair.0)) first.behind (λ late. Ok (within at (in_value sorted pair.0) bs want))
    (mark Arrow) behind (λ late. refl) first.same in
    let last = part_apart rules levels Part at (in_value sorted pair.0) bs pair.1 want arrow.behind behind rest takes room refl refl refl value arrow.same in (
      last.start,
      record {
        start = first.start;
        first = first.first;
        more = first.more;
        starts = first.starts;
        behind = last.behind;
        same = last.same;
        leads = first.leads ∙ arrow.leads ∙ last.leads;
      },
    )

map_series : (rules : Rules) (levels : ℕ) (Part : TermValue → List Token → List Token → Type 0) (at : ℕ) (bs : List Begun)
    → TakesParts rules levels Part → levels + suc (length bs) ≡ rules.levels → Series rules (List (TermValue × TermValue)) (IsPair Part) (Closes CloseBrace)
map_series rules levels Part at bs takes room = record {
  push = put;
  refuses = refuses_key rules;
  wanted = λ d place. within at (in_map d) bs place;
  whole = λ d pair start. within at (in_value d pair.0) bs (after start pair.1);
  ended = λ d. completed rules bs at (map_of d);
  item = λ d pair place ps tokens rest anew w part e. pair_taken rules levels Part at bs d pair place ps tokens rest takes room anew w part e;
  comma = λ d pair start late. refl;
  end = λ d pair start ps tokens rest closes e.
      step rules (within at (in_value d pair.0) bs (after start pair.1)) ps (λ late. completed rules bs at (map_of (placed pair d))) (mark CloseBrace) rest
      (λ late. refl) (e ∙ closes);
}

pairs_taken : (rules : Rules) (levels : ℕ) (Part : TermValue → List Token → List Token → Type 0) (at : ℕ) (bs : List Begun)
    (pairs : List (TermValue × TermValue)) (ps : List (ℕ × Token)) (tokens rest : List Token) → TakesParts rules levels Part
    → levels + suc (length bs) ≡ rules.levels → AllMay put (refuses_key rules) [] pairs → Enclosed (IsPair Part) CloseBrace pairs tokens rest
    → tokens_of ps ≡ tokens → Steps rules (within at (in_map []) bs opened) ps (λ late. completed rules bs at (map_of (joined put [] pairs))) rest
unfolding map_series
pairs_taken rules levels Part at bs [] ps tokens rest takes room may b e =
    step rules (within at (in_map []) bs opened) ps (λ late. completed rules bs at (map_of [])) (mark CloseBrace) rest (λ late. refl) (e ∙ b)
pairs_taken rules levels Part at bs (p ∷ pairs) ps tokens rest takes room may b e =
    separated_taken rules (List (TermValue × TermValue)) (IsPair Part) (Closes CloseBrace) (map_series rules levels Part at bs takes room) (p ∷ pairs) []
    opened ps tokens rest may refl b e

pub map_taken : (rules : Rules) (levels : ℕ) (Part : TermValue → List Token → List Token → Type 0) (at : ℕ) (bs : List Begun) (t : TermValue)
    (ps : List (ℕ × Token)) (tokens rest : List Token) → TakesParts rules levels Part → levels + suc (length bs) ≡ rules.levels
    → InMap rules Part t tokens rest → tokens_of ps ≡ tokens → Steps rules (within at (in_map []) bs opened) ps (λ late. completed rules bs at t) rest
map_taken rules levels Part at bs t ps tokens rest takes room (pairs, is, apart, b) e =
    steps_to rules (within at (in_map []) bs opened) ps (λ late. completed rules bs at (map_of (joined put [] pairs))) (λ late. completed rules bs at t) rest
    (pairs_taken rules levels Part at bs pairs ps tokens rest takes room (pairs_may rules pairs apart) b e)
    (λ late. ap (λ qs. completed rules bs at (map_of qs)) (joined-put [] pairs) ∙ ap (completed rules bs at) (sym is))
