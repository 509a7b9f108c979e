-- The last of some tokens that are taken, by the place that it leaves.
use Rattle.std.proofs.Common.{◌≡◌, ℕ, ℤ, ◌<◌, true, Ok, List, [], ◌∷◌, ◌++◌, length, length-append, append_assoc, refl, ap, ◌∙◌, sym, subst, arith}
use Rattle.std.proofs.lemmas.List.{same_from_push}
use Rattle.dets_term.specs.TermValue.{TermValue}
use Rattle.text_model.specs.declared.mark.Mark.TheVariants.{Colon, FullStop}
use Rattle.text_model.specs.Token.{Token, mark, number}
use Rattle.text_model.specs.Grammar.{Rules}
use Rattle.text_model.specs.Nest.{Place, want, value, colon, stopped, Nest, fresh, wants, take_colon, take}
use Rattle.text_model.specs.Located.{tokens_of, take_all}
use Rattle.text_model.proofs.Refused.{cond_ok}
use Rattle.text_model.proofs.TakenSteps.{tokens_of-append, last_taken}
use Rattle.text_model.proofs.Parted.{last_of}
use Rattle.text_model.proofs.LastSteps.{IsLeft, left_by}

pub record IsLastTaken (rules : Rules) (ps : List (ℕ × Token)) (n : Nest) : Type 0 where
  pub front : List (ℕ × Token)
  pub at : ℕ
  pub token : Token
  pub nest : Nest
  pub whole : ps ≡ front ++ (at, token) ∷ []
  pub before : take_all rules fresh front ≡ Ok nest
  pub taken : take rules nest at token ≡ Ok n

last_of_taken : (rules : Rules) (ps : List (ℕ × Token)) (n : Nest) → 0 < length ps → take_all rules fresh ps ≡ Ok n → IsLastTaken rules ps n
last_of_taken rules ps n some e =
    let l = last_of ps some in
    let t = last_taken rules l.0 l.1 n (ap (take_all rules fresh) (sym l.2) ∙ e) in
    record { front = l.0; at = l.1.0; token = l.1.1; nest = t.0; whole = l.2; before = t.1; taken = t.2 }

-- it left the place
left_at : (rules : Rules) (ps : List (ℕ × Token)) (n : Nest) (place : Place) → 0 < length ps → take_all rules fresh ps ≡ Ok n → n.place ≡ place
    → (l : IsLastTaken rules ps n) × IsLeft l.nest l.at l.token n.begun place
left_at rules ps n place some e f =
    let l = last_of_taken rules ps n some e in
    (l, subst (λ q. IsLeft l.nest l.at l.token n.begun q) f (left_by rules l.nest n l.at l.token l.taken))

-- nothing was taken where a term must begin and none is open
pub nothing_taken : (rules : Rules) (ps : List (ℕ × Token)) (n : Nest) → take_all rules fresh ps ≡ Ok n → n.place ≡ want → length n.begun ≡ 0 → ps ≡ []
nothing_taken rules [] n e f g = refl
nothing_taken rules (p ∷ ps) n e f g = let l = left_at rules (p ∷ ps) n want (omega arith) e f in let some = l.1 in absurd (omega arith)

-- a token was taken unless a term must begin
pub some_taken : (rules : Rules) (ps : List (ℕ × Token)) (n : Nest) → take_all rules fresh ps ≡ Ok n → (n.place ≡ want → ⊥) → 0 < length ps
some_taken rules [] n e f = let same : fresh ≡ n = cc in absurd (f (sym (ap (λ (m : Nest). m.place) same)))
some_taken rules (p ∷ ps) n e f = omega arith

pub stop_last : (rules : Rules) (ps : List (ℕ × Token)) (n : Nest) (t : TermValue) → take_all rules fresh ps ≡ Ok n → n.place ≡ stopped t
    → (l : IsLastTaken rules ps n) × (l.token ≡ mark FullStop)
stop_last rules ps n t e f = left_at rules ps n (stopped t) (some_taken rules ps n e (λ g. cc)) e f

value_by : (ps front : List (ℕ × Token)) (at start : ℕ) (token : Token) (v : ℤ) → ps ≡ front ++ (at, token) ∷ [] → start ≡ at → token ≡ number v
    → ps ≡ front ++ (start, number v) ∷ []
value_by ps front at start token v e f g = e ∙ ap (λ a. front ++ (a, token) ∷ []) (sym f) ∙ ap (λ t. front ++ (start, t) ∷ []) g

pub value_last : (rules : Rules) (ps : List (ℕ × Token)) (n : Nest) (start : ℕ) (v : ℤ) → take_all rules fresh ps ≡ Ok n → n.place ≡ value start v
    → (front : List (ℕ × Token)) × (ps ≡ front ++ (start, number v) ∷ [])
value_last rules ps n start v e f =
    let l = left_at rules ps n (value start v) (some_taken rules ps n e (λ g. cc)) e f in
    (l.0.front, value_by ps l.0.front l.0.at start l.0.token v l.0.whole l.1.0 l.1.1)

colon_by : (ps front more : List (ℕ × Token)) (at start : ℕ) (token : Token) (v : ℤ) → ps ≡ front ++ (at, token) ∷ [] → token ≡ mark Colon
    → front ≡ more ++ (start, number v) ∷ [] → ps ≡ more ++ (start, number v) ∷ (at, mark Colon) ∷ []
colon_by ps front more at start token v e f g =
    e ∙ ap (λ t. front ++ (at, t) ∷ []) f ∙ ap (λ l. l ++ (at, mark Colon) ∷ []) g ∙ append_assoc more ((start, number v) ∷ []) ((at, mark Colon) ∷ [])

pub colon_last : (rules : Rules) (ps : List (ℕ × Token)) (n : Nest) (start : ℕ) (v : ℤ) → take_all rules fresh ps ≡ Ok n → n.place ≡ colon start v
    → (front : List (ℕ × Token)) × (at : ℕ) × (ps ≡ front ++ (start, number v) ∷ (at, mark Colon) ∷ [])
colon_last rules ps n start v e f =
    let l = left_at rules ps n (colon start v) (some_taken rules ps n e (λ g. cc)) e f in
    let w = value_last rules l.0.front l.0.nest start v l.0.before l.1.1 in
    (w.0, l.0.at, colon_by ps l.0.front w.0 l.0.at start l.0.token v l.0.whole l.1.0 w.1)

-- ---- no colon is the last token where something may begin

colon_leaves : (rules : Rules) (n m : Nest) (at : ℕ) (place : Place) → take_colon rules n at place ≡ Ok m → wants m.place ≡ true → ⊥
colon_leaves rules n m at (value start v) e w =
    let same = (cond_ok _ _ (record n { place = colon start v }) m e).1 in
    let place : wants (colon start v) ≡ true = ap (λ (k : Nest). wants k.place) same ∙ w in
    cc
colon_leaves rules n m at other e w = cc

pub no_colon_last : (rules : Rules) (ps : List (ℕ × Token)) (n : Nest) (front : List Token) → take_all rules fresh ps ≡ Ok n → wants n.place ≡ true
    → tokens_of ps ≡ front ++ mark Colon ∷ [] → ⊥
no_colon_last rules ps n front e w f =
    let l = last_of_taken rules ps n (some_read ps front f) e in
    let both : tokens_of l.front ++ l.token ∷ [] ≡ front ++ mark Colon ∷ [] =
    sym (tokens_of-append l.front ((l.at, l.token) ∷ [])) ∙ sym (ap tokens_of l.whole) ∙ f in
    let is : l.token ≡ mark Colon = (same_from_push (tokens_of l.front) front l.token (mark Colon) both).1 in
    colon_leaves rules l.nest n l.at l.nest.place (sym (ap (take rules l.nest l.at) is) ∙ l.taken) w
  where
    some_read : (ps : List (ℕ × Token)) (front : List Token) → tokens_of ps ≡ front ++ mark Colon ∷ [] → 0 < length ps
    some_read [] front e = absurd (omega (arith, ap length e, length-append front (mark Colon ∷ [])))
    some_read (p ∷ ps) front e = omega arith
