-- The machine takes the inside of a tuple and of a list, where it takes each part.
use Rattle.std.proofs.Common.{◌≡◌, ℕ, suc, ◌+◌, true, false, ◌&&◌, List, [], ◌∷◌, ◌++◌, length, Ok, refl, ap, ◌∙◌, sym, append_assoc, inl, inr}
use Rattle.std.proofs.Math.Bool.{and-false}
use Rattle.std.proofs.lemmas.List.{append-nil}
use Rattle.dets_term.specs.TermValue.{TermValue, tuple, nil, chain}
use Rattle.text_model.specs.declared.mark.Mark.TheVariants.{CloseBrace, CloseList, Bar}
use Rattle.text_model.specs.Token.{Token, mark}
use Rattle.text_model.specs.Grammar.{Rules, Closes, Enclosed, EndsList, InList}
use Rattle.text_model.specs.Nest.{Frame, in_tuple, in_list, in_tail, Begun, Place, want, opened, after, Nest, is_bits, wants, repeats_key, completed}
use Rattle.text_model.specs.Located.{tokens_of}
use Rattle.text_model.proofs.TakenSteps.{Steps, step, steps_on, at_start, steps_to}
use Rattle.text_model.proofs.Beginning.{Begins, completed_anew}
use Rattle.text_model.proofs.Series.{joined, AllMay, Series, separated_taken}

-- the machine takes texts of so many levels where a term may begin
abbrev pub TakesParts : Rules → ℕ → (TermValue → List Token → List Token → Type 0) → Type 0
TakesParts rules levels Part =
    (t : TermValue) (n : Nest) (ps : List (ℕ × Token)) (tokens rest : List Token) → Begins rules levels n → Part t tokens rest → tokens_of ps ≡ tokens
    → Steps rules n ps (λ start. completed rules n.begun start t) rest

-- in a term that is open
abbrev pub within : ℕ → Frame → List Begun → Place → Nest
within at frame bs place = record { begun = record { start = at; frame = frame } ∷ bs; place = place }

-- a part of an open term
pub part_anew : (rules : Rules) (levels : ℕ) (Part : TermValue → List Token → List Token → Type 0) (at : ℕ) (frame : Frame) (bs : List Begun)
    (t : TermValue) (place : Place) (ps : List (ℕ × Token)) (tokens rest : List Token) → TakesParts rules levels Part → levels + suc (length bs) ≡ rules.levels
    → is_bits frame ≡ false → (rules.distinct && repeats_key frame t) ≡ false → wants place ≡ true → Part t tokens rest → tokens_of ps ≡ tokens
    → Steps rules (within at frame bs place) ps (λ start. Ok (within at frame bs (after start t))) rest
part_anew rules levels Part at frame bs t place ps tokens rest takes room apart anew w part e =
    steps_to rules (within at frame bs place) ps (λ start. completed rules (record { start = at; frame = frame } ∷ bs) start t)
    (λ start. Ok (within at frame bs (after start t))) rest
    (takes t (within at frame bs place) ps tokens rest (record { wanted = w; apart = apart; room = room }) part e)
    (λ start. completed_anew rules (record { start = at; frame = frame } ∷ bs) start t anew)

-- a part of one that has no keys
pub part_apart : (rules : Rules) (levels : ℕ) (Part : TermValue → List Token → List Token → Type 0) (at : ℕ) (frame : Frame) (bs : List Begun)
    (t : TermValue) (place : Place) (ps : List (ℕ × Token)) (tokens rest : List Token) → TakesParts rules levels Part → levels + suc (length bs) ≡ rules.levels
    → is_bits frame ≡ false → repeats_key frame t ≡ false → wants place ≡ true → Part t tokens rest → tokens_of ps ≡ tokens
    → Steps rules (within at frame bs place) ps (λ start. Ok (within at frame bs (after start t))) rest
part_apart rules levels Part at frame bs t place ps tokens rest takes room apart none w part e =
    part_anew rules levels Part at frame bs t place ps tokens rest takes room apart (ap (λ b. rules.distinct && b) none ∙ and-false rules.distinct) w part e

-- one more part
abbrev push : List TermValue → TermValue → List TermValue
push ts t = ts ++ t ∷ []

joined-push : (ts us : List TermValue) → joined push ts us ≡ ts ++ us
joined-push ts [] = sym (append-nil ts)
joined-push ts (u ∷ us) = joined-push (push ts u) us ∙ append_assoc ts (u ∷ []) us

all_may : (us ts : List TermValue) → AllMay push (λ d t. false) ts us
all_may [] ts = tt
all_may (u ∷ us) ts = (refl, all_may us (push ts u))

-- ---- tuples

tuple_series : (rules : Rules) (levels : ℕ) (Part : TermValue → List Token → List Token → Type 0) (at : ℕ) (bs : List Begun)
    → TakesParts rules levels Part → levels + suc (length bs) ≡ rules.levels → Series rules (List TermValue) Part (Closes CloseBrace)
tuple_series rules levels Part at bs takes room = record {
  push = push;
  refuses = λ d t. false;
  wanted = λ d place. within at (in_tuple d) bs place;
  whole = λ d t start. within at (in_tuple d) bs (after start t);
  ended = λ d. completed rules bs at (tuple (chain d nil));
  item = λ d t place ps tokens rest may w part e.
      at_start rules _ ps (λ start. Ok (within at (in_tuple d) bs (after start t))) rest
      (part_apart rules levels Part at (in_tuple d) bs t place ps tokens rest takes room refl refl w part e);
  comma = λ d t start late. refl;
  end = λ d t start ps tokens rest closes e.
      step rules (within at (in_tuple d) bs (after start t)) ps (λ late. completed rules bs at (tuple (chain (push d t) nil))) (mark CloseBrace) rest
      (λ late. refl) (e ∙ closes);
}

pub tuple_taken : (rules : Rules) (levels : ℕ) (Part : TermValue → List Token → List Token → Type 0) (at : ℕ) (bs : List Begun) (parts : List TermValue)
    (ps : List (ℕ × Token)) (tokens rest : List Token) → TakesParts rules levels Part → levels + suc (length bs) ≡ rules.levels
    → Enclosed Part CloseBrace parts tokens rest → tokens_of ps ≡ tokens
    → Steps rules (within at (in_tuple []) bs opened) ps (λ late. completed rules bs at (tuple (chain parts nil))) rest
unfolding tuple_series
tuple_taken rules levels Part at bs [] ps tokens rest takes room b e =
    step rules (within at (in_tuple []) bs opened) ps (λ late. completed rules bs at (tuple nil)) (mark CloseBrace) rest (λ late. refl) (e ∙ b)
tuple_taken rules levels Part at bs (t ∷ ts) ps tokens rest takes room b e =
    steps_to rules (within at (in_tuple []) bs opened) ps (λ late. completed rules bs at (tuple (chain (joined push [] (t ∷ ts)) nil)))
    (λ late. completed rules bs at (tuple (chain (t ∷ ts) nil))) rest
    (separated_taken rules (List TermValue) Part (Closes CloseBrace) (tuple_series rules levels Part at bs takes room) (t ∷ ts) [] opened ps tokens rest
    (all_may (t ∷ ts) []) refl b e)
    (λ late. ap (λ us. completed rules bs at (tuple (chain us nil))) (joined-push [] (t ∷ ts)))

-- ---- lists

list_end : (rules : Rules) (levels : ℕ) (Part : TermValue → List Token → List Token → Type 0) (at : ℕ) (bs : List Begun) (tail : TermValue)
    (d : List TermValue) (t : TermValue) (start : ℕ) (ps : List (ℕ × Token)) (tokens rest : List Token)
    → TakesParts rules levels Part → levels + suc (length bs) ≡ rules.levels → EndsList Part tail tokens rest → tokens_of ps ≡ tokens
    → Steps rules (within at (in_list d) bs (after start t)) ps (λ late. completed rules bs at (chain (push d t) tail)) rest
list_end rules levels Part at bs tail d t start ps tokens rest takes room (inl (none, closes)) e =
    step rules (within at (in_list d) bs (after start t)) ps (λ late. completed rules bs at (chain (push d t) tail)) (mark CloseList) rest
    (λ late. ap (λ u. completed rules bs at (chain (push d t) u)) (sym none)) (e ∙ closes)
list_end rules levels Part at bs tail d t start ps tokens rest takes room (inr (behind, bar, part)) e =
    steps_on rules (within at (in_list d) bs (after start t)) ps (λ late. within at (in_tail (push d t)) bs want)
    (completed rules bs at (chain (push d t) tail)) behind rest
    (step rules (within at (in_list d) bs (after start t)) ps (λ late. Ok (within at (in_tail (push d t)) bs want)) (mark Bar) behind (λ late. refl) (e ∙ bar))
    (λ late qs same.
    steps_on rules (within at (in_tail (push d t)) bs want) qs (λ last. within at (in_tail (push d t)) bs (after last tail))
    (completed rules bs at (chain (push d t) tail)) (mark CloseList ∷ rest) rest
    (part_apart rules levels Part at (in_tail (push d t)) bs tail want qs behind (mark CloseList ∷ rest) takes room refl refl refl part same)
    (λ last rs same_last.
    step rules (within at (in_tail (push d t)) bs (after last tail)) rs (λ later. completed rules bs at (chain (push d t) tail)) (mark CloseList) rest
    (λ later. refl) same_last))

list_series : (rules : Rules) (levels : ℕ) (Part : TermValue → List Token → List Token → Type 0) (at : ℕ) (bs : List Begun) (tail : TermValue)
    → TakesParts rules levels Part → levels + suc (length bs) ≡ rules.levels → Series rules (List TermValue) Part (EndsList Part tail)
list_series rules levels Part at bs tail takes room = record {
  push = push;
  refuses = λ d t. false;
  wanted = λ d place. within at (in_list d) bs place;
  whole = λ d t start. within at (in_list d) bs (after start t);
  ended = λ d. completed rules bs at (chain d tail);
  item = λ d t place ps tokens rest may w part e.
      at_start rules _ ps (λ start. Ok (within at (in_list d) bs (after start t))) rest
      (part_apart rules levels Part at (in_list d) bs t place ps tokens rest takes room refl refl w part e);
  comma = λ d t start late. refl;
  end = λ d t start ps tokens rest ends e. list_end rules levels Part at bs tail d t start ps tokens rest takes room ends e;
}

pub list_taken : (rules : Rules) (levels : ℕ) (Part : TermValue → List Token → List Token → Type 0) (at : ℕ) (bs : List Begun) (t : TermValue)
    (ps : List (ℕ × Token)) (tokens rest : List Token) → TakesParts rules levels Part → levels + suc (length bs) ≡ rules.levels
    → InList Part t tokens rest → tokens_of ps ≡ tokens → Steps rules (within at (in_list []) bs opened) ps (λ late. completed rules bs at t) rest
unfolding list_series
list_taken rules levels Part at bs t ps tokens rest takes room (inl (empty, closes)) e =
    step rules (within at (in_list []) bs opened) ps (λ late. completed rules bs at t) (mark CloseList) rest
    (λ late. ap (completed rules bs at) (sym empty)) (e ∙ closes)
list_taken rules levels Part at bs t ps tokens rest takes room (inr (parts, tail, is, b)) e =
    steps_to rules (within at (in_list []) bs opened) ps (λ late. completed rules bs at (chain (joined push [] parts) tail))
    (λ late. completed rules bs at t) rest
    (separated_taken rules (List TermValue) Part (EndsList Part tail) (list_series rules levels Part at bs tail takes room) parts [] opened ps tokens rest
    (all_may parts []) refl b e)
    (λ late. ap (λ us. completed rules bs at (chain us tail)) (joined-push [] parts) ∙ ap (completed rules bs at) (sym is))
