-- Reading one thing after another.
use Rattle.std.proofs.Common.{◌≡◌, ℕ, zero, suc, Bool, List, ◌∷◌, Ok, Err, refl}
use Rattle.etf_model.specs.declared.fault.EtfFault.{EtfFault}
use Rattle.etf_model.specs.Format.{Format, Position, Reading, go_on, followed, changed, times}
use Rattle.etf_model.specs.Spelling.{term_with}

pub go_on_twice : {A B C : Type 0} (r : Reading A) (f : A → Position → Reading B) (g : B → Position → Reading C)
    → go_on (go_on r f) g ≡ go_on r (λ x b. go_on (f x b) g)
go_on_twice (Ok r) f g = refl
go_on_twice (Err fault) f g = refl

-- behind each value
last_step : {A B C : Type 0} (r : Reading (List A)) (u : A) (f : List A → B) (R : B → Position → Reading C)
    → go_on (go_on (go_on r (λ us b. Ok (u ∷ us, b))) (λ us b. Ok (f us, b))) R
    ≡ go_on (go_on r (λ us b. Ok (f (u ∷ us), b))) R
last_step (Ok r) u f R = refl
last_step (Err fault) u f R = refl

first_step : {A B C : Type 0} (r : Reading A) (rest : Position → Reading (List A)) (f : List A → B) (R : B → Position → Reading C)
    → go_on (go_on (go_on r (λ u b. go_on (rest b) (λ us b. Ok (u ∷ us, b)))) (λ us b. Ok (f us, b))) R
    ≡ go_on r (λ u b. go_on (go_on (rest b) (λ us b. Ok (f (u ∷ us), b))) R)
first_step (Ok r) rest f R = last_step (rest r.1) r.0 f R
first_step (Err fault) rest f R = refl

-- the first of some, and then the others
pub times-first : {A B C : Type 0} (F : Format A) (n : ℕ) (f : List A → B) (start : ℕ) (position : Position) (R : B → Position → Reading C)
    → go_on ((changed (times (suc n) F) f).read start position) R
    ≡ go_on (F.read start position) (λ u b. go_on ((changed (times n F) (λ us. f (u ∷ us))).read start b) R)
times-first F n f start position R = first_step (F.read start position) (λ b. (times n F).read start b) f R

-- a term is read alike whatever term it stands in
pub whichever_term : (test : ℕ → Bool) (fault : ℕ → ℕ → EtfFault) (levels s t : ℕ) (position : Position)
    → (term_with test fault levels).read s position ≡ (term_with test fault levels).read t position
whichever_term test fault zero s t position = refl
whichever_term test fault (suc levels) s t position = refl

-- the first of some, the others, and then what stands behind them
last_part : {A B C : Type 0} (r : Reading (List A)) (u : A) (next : List A → Position → Reading B) (R : B → Position → Reading C)
    → go_on (go_on (go_on r (λ us b. Ok (u ∷ us, b))) next) R ≡ go_on (go_on r (λ us b. next (u ∷ us) b)) R
last_part (Ok r) u next R = refl
last_part (Err fault) u next R = refl

first_part : {A B C : Type 0} (r : Reading A) (rest : Position → Reading (List A)) (next : List A → Position → Reading B) (R : B → Position → Reading C)
    → go_on (go_on (go_on r (λ u b. go_on (rest b) (λ us b. Ok (u ∷ us, b)))) next) R
    ≡ go_on r (λ u b. go_on (go_on (rest b) (λ us b. next (u ∷ us) b)) R)
first_part (Ok r) rest next R = last_part (rest r.1) r.0 next R
first_part (Err fault) rest next R = refl

pub times-first-followed : {A B C : Type 0} (F : Format A) (n : ℕ) (G : List A → Format B) (start : ℕ) (position : Position) (R : B → Position → Reading C)
    → go_on ((followed (times (suc n) F) G).read start position) R
    ≡ go_on (F.read start position) (λ u b. go_on ((followed (times n F) (λ us. G (u ∷ us))).read start b) R)
times-first-followed F n G start position R = first_part (F.read start position) (λ b. (times n F).read start b) (λ us b. (G us).read start b) R
