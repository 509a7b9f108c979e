-- The machine takes tokens with their offsets one after the other.
use Rattle.std.proofs.Common.{◌≡◌, ℕ, List, [], ◌∷◌, ◌++◌, map, Ok, Err, refl, ap, ◌∙◌, sym}
use Rattle.text_model.specs.Token.{Token}
use Rattle.text_model.specs.Grammar.{Rules}
use Rattle.text_model.specs.Nest.{Nest, Taken, take, fresh}
use Rattle.text_model.specs.Located.{tokens_of, take_next, take_all}

-- Some tokens lead from a nest to what the offset of the first one tells, and the rest is behind them.
pub record Steps (rules : Rules) (n : Nest) (ps : List (ℕ × Token)) (taken : ℕ → Taken) (rest : List Token) : Type 0 where
  pub start : ℕ
  pub first : Token
  pub more : List (ℕ × Token)
  pub starts : ps ≡ (start, first) ∷ more
  pub behind : List (ℕ × Token)
  pub same : tokens_of behind ≡ rest
  pub leads : take_all rules n ps ≡ take_next (taken start) (λ m. take_all rules m behind)

-- one token
pub step : (rules : Rules) (n : Nest) (ps : List (ℕ × Token)) (taken : ℕ → Taken) (token : Token) (rest : List Token)
    → ((at : ℕ) → take rules n at token ≡ taken at) → tokens_of ps ≡ token ∷ rest → Steps rules n ps taken rest
step rules n [] taken token rest t e = cc
step rules n (p ∷ ps) taken token rest t e =
    let first : p.1 ≡ token = cc in
    record {
      start = p.0;
      first = p.1;
      more = ps;
      starts = refl;
      behind = ps;
      same = (let more : tokens_of ps ≡ rest = cc in more);
      leads = ap (λ o. take_next o (λ m. take_all rules m ps)) (ap (λ o. take rules n p.0 o) first ∙ t p.0);
    }

-- a token that leads to a nest, and more tokens
pub steps : (rules : Rules) (n : Nest) (ps : List (ℕ × Token)) (next : ℕ → Nest) (taken : ℕ → Taken) (between rest : List Token)
    → Steps rules n ps (λ start. Ok (next start)) between
    → ((start : ℕ) (qs : List (ℕ × Token)) → tokens_of qs ≡ between → Steps rules (next start) qs (λ late. taken start) rest)
    → Steps rules n ps taken rest
steps rules n ps next taken between rest s more =
    let m = more s.start s.behind s.same in
    record { start = s.start; first = s.first; more = s.more; starts = s.starts; behind = m.behind; same = m.same; leads = s.leads ∙ m.leads }

-- where all of them count by what is behind them
pub steps_on : (rules : Rules) (n : Nest) (ps : List (ℕ × Token)) (next : ℕ → Nest) (taken : Taken) (between rest : List Token)
    → Steps rules n ps (λ start. Ok (next start)) between
    → ((start : ℕ) (qs : List (ℕ × Token)) → tokens_of qs ≡ between → Steps rules (next start) qs (λ late. taken) rest)
    → Steps rules n ps (λ late. taken) rest
steps_on rules n ps next taken between rest s more = steps rules n ps next (λ late. taken) between rest s more

-- where they lead by the offset that it is
pub at_start : (rules : Rules) (n : Nest) (ps : List (ℕ × Token)) (taken : ℕ → Taken) (rest : List Token) → Steps rules n ps taken rest
    → (start : ℕ) × Steps rules n ps (λ late. taken start) rest
at_start rules n ps taken rest s = (
  s.start,
  record { start = s.start; first = s.first; more = s.more; starts = s.starts; behind = s.behind; same = s.same; leads = s.leads },
)

-- to another name of where they lead
pub steps_to : (rules : Rules) (n : Nest) (ps : List (ℕ × Token)) (taken other : ℕ → Taken) (rest : List Token) → Steps rules n ps taken rest
    → ((at : ℕ) → taken at ≡ other at) → Steps rules n ps other rest
steps_to rules n ps taken other rest s e = record {
  start = s.start;
  first = s.first;
  more = s.more;
  starts = s.starts;
  behind = s.behind;
  same = s.same;
  leads = s.leads ∙ ap (λ o. take_next o (λ m. take_all rules m s.behind)) (e s.start);
}

pub take_all-append : (rules : Rules) (n : Nest) (ps qs : List (ℕ × Token))
    → take_all rules n (ps ++ qs) ≡ take_next (take_all rules n ps) (λ m. take_all rules m qs)
take_all-append rules n [] qs = refl
take_all-append rules n (p ∷ ps) qs = by_first (take rules n p.0 p.1) (λ m. take_all-append rules m ps qs)
  where
    by_first : (o : Taken) → ((m : Nest) → take_all rules m (ps ++ qs) ≡ take_next (take_all rules m ps) (λ k. take_all rules k qs))
        → take_next o (λ m. take_all rules m (ps ++ qs)) ≡ take_next (take_next o (λ m. take_all rules m ps)) (λ m. take_all rules m qs)
    by_first (Ok m) more = more m
    by_first (Err fault) more = refl

-- a nest that more tokens lead to was led to before
pub taken_before : (o : Taken) (next : Nest → Taken) (n : Nest) → take_next o next ≡ Ok n → (m : Nest) × (o ≡ Ok m) × (next m ≡ Ok n)
taken_before (Ok m) next n e = (m, refl, e)
taken_before (Err fault) next n e = cc

-- one more token
pub take_all_push : (rules : Rules) (n m k : Nest) (ps : List (ℕ × Token)) (at : ℕ) (token : Token) → take_all rules n ps ≡ Ok m
    → take rules m at token ≡ Ok k → take_all rules n (ps ++ (at, token) ∷ []) ≡ Ok k
take_all_push rules n m k ps at token e f =
    take_all-append rules n ps ((at, token) ∷ []) ∙ ap (λ o. take_next o (λ l. take_all rules l ((at, token) ∷ []))) e
    ∙ ap (λ o. take_next o (λ l. Ok l)) f

-- the nest in front of the last of some tokens
pub last_taken : (rules : Rules) (ps : List (ℕ × Token)) (p : ℕ × Token) (n : Nest) → take_all rules fresh (ps ++ p ∷ []) ≡ Ok n
    → (m : Nest) × (take_all rules fresh ps ≡ Ok m) × (take rules m p.0 p.1 ≡ Ok n)
last_taken rules ps p n e =
    let both = taken_before (take_all rules fresh ps) (λ m. take_all rules m (p ∷ [])) n (sym (take_all-append rules fresh ps (p ∷ [])) ∙ e) in
    let one = taken_before (take rules both.0 p.0 p.1) (λ k. Ok k) n both.2 in
    (both.0, both.1, one.1 ∙ one.2)

pub next_taken : (rules : Rules) (n k : Nest) (ps : List (ℕ × Token)) (at : ℕ) (token : Token) → take_all rules fresh ps ≡ Ok n
    → take_all rules fresh (ps ++ (at, token) ∷ []) ≡ Ok k → take rules n at token ≡ Ok k
next_taken rules n k ps at token e f =
    let last = last_taken rules ps (at, token) k f in
    let there = last.1 in
    let same : n ≡ last.0 = cc in
    ap (λ m. take rules m at token) same ∙ last.2

-- tokens at some offset
abbrev pub placed_at : List Token → List (ℕ × Token)
placed_at tokens = map (λ token. (0, token)) tokens

pub tokens_of-placed_at : (tokens : List Token) → tokens_of (placed_at tokens) ≡ tokens
tokens_of-placed_at [] = refl
tokens_of-placed_at (token ∷ tokens) = ap (λ l. token ∷ l) (tokens_of-placed_at tokens)

-- tokens with offsets in two parts, as their tokens are
pub parted_as : (ps : List (ℕ × Token)) (xs ys : List Token) → tokens_of ps ≡ xs ++ ys
    → (us : List (ℕ × Token)) × (vs : List (ℕ × Token)) × (ps ≡ us ++ vs) × (tokens_of us ≡ xs) × (tokens_of vs ≡ ys)
parted_as ps [] ys e = ([], ps, refl, refl, e)
parted_as [] (x ∷ xs) ys e = cc
parted_as (p ∷ ps) (x ∷ xs) ys e =
    let more = parted_as ps xs ys (let tail : tokens_of ps ≡ xs ++ ys = cc in tail) in
    let first : p.1 ≡ x = cc in
    (p ∷ more.0, more.1, ap (λ l. p ∷ l) more.2, ap (λ l. p.1 ∷ l) more.3 ∙ ap (λ y. y ∷ xs) first, more.4)

pub tokens_of-append : (ps qs : List (ℕ × Token)) → tokens_of (ps ++ qs) ≡ tokens_of ps ++ tokens_of qs
tokens_of-append [] qs = refl
tokens_of-append (p ∷ ps) qs = ap (λ l. p.1 ∷ l) (tokens_of-append ps qs)
