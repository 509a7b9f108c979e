-- A mark behind a part: a comma, a bar or an arrow leaves its term open, and a closing mark makes it whole.
use Rattle.std.proofs.Common.{◌≡◌, ℕ, suc, List, [], ◌∷◌, ◌++◌, ap, ◌∙◌, sym, subst, append_assoc}
use Rattle.dets_term.specs.TermValue.{TermValue}
use Rattle.text_model.specs.declared.mark.Mark.{Mark}
use Rattle.text_model.specs.Token.{Token, mark}
use Rattle.text_model.specs.Grammar.{Rules, Form, Text}
use Rattle.text_model.specs.Nest.{Frame, Begun}
use Rattle.text_model.specs.Located.{tokens_of}
use Rattle.text_model.proofs.TakenSteps.{tokens_of-append}
use Rattle.text_model.proofs.OpenTerms.{opening, IsInside, AreOpen, IsWhole}
use Rattle.text_model.proofs.InsideTerms.{IsPartBy, with_mark, IsClosed}

-- more tokens inside an open term, and a mark
abbrev more_placed : List (ℕ × Token) → List (ℕ × Token) → ℕ → Mark → List (ℕ × Token)
more_placed inside own at m = inside ++ (own ++ (at, mark m) ∷ [])

tokens_of-more_placed : (inside own : List (ℕ × Token)) (at : ℕ) (m : Mark)
    → tokens_of (more_placed inside own at m) ≡ with_mark (tokens_of inside) (tokens_of own) m
tokens_of-more_placed inside own at m =
    tokens_of-append inside (own ++ (at, mark m) ∷ []) ∙ ap (λ l. tokens_of inside ++ l) (tokens_of-append own ((at, mark m) ∷ []))

parted_again : (outer inside own before ps : List (ℕ × Token)) (start at : ℕ) (token : Token) (m : Mark) → before ≡ outer ++ (start, token) ∷ inside
    → ps ≡ before ++ own → ps ++ (at, mark m) ∷ [] ≡ outer ++ (start, token) ∷ more_placed inside own at m
parted_again outer inside own before ps start at token m e f =
    ap (λ l. l ++ (at, mark m) ∷ []) (f ∙ ap (λ l. l ++ own) e) ∙ simp append_assoc

-- a term that stays open
pub still_open : (rules : Rules) (levels : ℕ) (start : ℕ) (frame other : Frame) (bs : List Begun) (before own ps : List (ℕ × Token)) (at : ℕ) (m : Mark)
    → ps ≡ before ++ own → AreOpen rules levels (record { start = start; frame = frame } ∷ bs) before → opening frame ≡ opening other
    → ((inside : List Token) → IsInside rules (Text rules levels) frame inside
    → IsInside rules (Text rules levels) other (with_mark inside (tokens_of own) m))
    → AreOpen rules levels (record { start = start; frame = other } ∷ bs) (ps ++ (at, mark m) ∷ [])
still_open rules levels start frame other bs before own ps at m e (outer, inside, parted, is, outside) same more = (
  outer,
  more_placed inside own at m,
  parted_again outer inside own before ps start at (mark (opening other)) m
      (parted ∙ ap (λ o. outer ++ (start, mark o) ∷ inside) same) e,
  subst (λ l. IsInside rules (Text rules levels) other l) (sym (tokens_of-more_placed inside own at m)) (more (tokens_of inside) is),
  outside,
)

-- a term that is whole by its closing mark
pub now_whole : (rules : Rules) (levels : ℕ) (start : ℕ) (frame : Frame) (bs : List Begun) (t : TermValue) (before own ps : List (ℕ × Token)) (at : ℕ)
    (m : Mark) → ps ≡ before ++ own → AreOpen rules levels (record { start = start; frame = frame } ∷ bs) before
    → ((inside : List Token) → IsInside rules (Text rules levels) frame inside
    → IsClosed rules (Text rules levels) (opening frame) t (with_mark inside (tokens_of own) m))
    → IsWhole rules bs start t (ps ++ (at, mark m) ∷ [])
now_whole rules levels start frame bs t before own ps at m e (outer, inside, parted, is, outside) closes = record {
  levels = suc levels;
  before = outer;
  first = mark (opening frame);
  more = more_placed inside own at m;
  parted = parted_again outer inside own before ps start at (mark (opening frame)) m parted e;
  outside = outside;
  text = λ rest.
      closes (tokens_of inside) is (tokens_of (more_placed inside own at m) ++ rest) rest (ap (λ l. l ++ rest) (tokens_of-more_placed inside own at m));
}

-- one without a part
pub whole_at_once : (rules : Rules) (levels : ℕ) (start : ℕ) (frame : Frame) (bs : List Begun) (t : TermValue) (outer ps : List (ℕ × Token)) (at : ℕ) (m : Mark)
    → ps ≡ outer ++ (start, mark (opening frame)) ∷ [] → AreOpen rules (suc levels) bs outer
    → ((rest : List Token) → Form rules (Text rules levels) t (mark (opening frame) ∷ mark m ∷ rest) rest)
    → IsWhole rules bs start t (ps ++ (at, mark m) ∷ [])
whole_at_once rules levels start frame bs t outer ps at m parted outside closes = record {
  levels = suc levels;
  before = outer;
  first = mark (opening frame);
  more = (at, mark m) ∷ [];
  parted = ap (λ l. l ++ (at, mark m) ∷ []) parted ∙ append_assoc outer _ ((at, mark m) ∷ []);
  outside = outside;
  text = closes;
}

-- ---- behind a whole part

pub part_open : (rules : Rules) (start : ℕ) (frame other : Frame) (bs : List Begun) (late : ℕ) (t : TermValue) (ps : List (ℕ × Token)) (at : ℕ) (m : Mark)
    → IsWhole rules (record { start = start; frame = frame } ∷ bs) late t ps → opening frame ≡ opening other
    → ((Part : TermValue → List Token → List Token → Type 0) (inside own : List Token) → IsInside rules Part frame inside → IsPartBy Part t own
    → IsInside rules Part other (with_mark inside own m))
    → (levels : ℕ) × AreOpen rules levels (record { start = start; frame = other } ∷ bs) (ps ++ (at, mark m) ∷ [])
part_open rules start frame other bs late t ps at m w same more = (
  w.levels,
  still_open rules w.levels start frame other bs w.before ((late, w.first) ∷ w.more) ps at m w.parted w.outside same
      (λ inside is. more (Text rules w.levels) inside (w.first ∷ tokens_of w.more) is w.text),
)

pub part_whole : (rules : Rules) (start : ℕ) (frame : Frame) (bs : List Begun) (t : TermValue) (late : ℕ) (u : TermValue) (ps : List (ℕ × Token)) (at : ℕ)
    (m : Mark) → IsWhole rules (record { start = start; frame = frame } ∷ bs) late u ps
    → ((Part : TermValue → List Token → List Token → Type 0) (inside own : List Token) → IsInside rules Part frame inside → IsPartBy Part u own
    → IsClosed rules Part (opening frame) t (with_mark inside own m))
    → IsWhole rules bs start t (ps ++ (at, mark m) ∷ [])
part_whole rules start frame bs t late u ps at m w closes =
    now_whole rules w.levels start frame bs t w.before ((late, w.first) ∷ w.more) ps at m w.parted w.outside
    (λ inside is. closes (Text rules w.levels) inside (w.first ∷ tokens_of w.more) is w.text)
