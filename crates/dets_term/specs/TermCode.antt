-- A code of term values, by which proofs tell them apart: a value in reverse Polish notation, read back with
-- a stack.
use Rattle.std.specs.Prelude.{◌≡◌, ℕ, zero, suc, ℤ, Bool, List, [], ◌∷◌, ◌⊎◌, refl}
use Rattle.std.specs.Coded.{Coded, code_by, coded_ℕ, coded_ℤ, coded_bool, coded_list, coded⊎}
use mathlib.Core.Logic.{inl, inr}
use mathlib.Core.Path.{◌∙◌, ap}
use Rattle.term_model.specs.TermValue.{TermValue, integer, atom, tuple, mapping, nil, cons, bits}

-- an integer, an atom, a bit string, or by its number: 0 nil, 1 a tuple of the value before, 2 a map of the two
-- before, any other a cons of these
abbrev pub Symbol : Type 0
Symbol = ℤ ⊎ (List ℕ ⊎ (List Bool ⊎ ℕ))

abbrev pub symbols : TermValue → List Symbol → List Symbol
symbols (integer z) rest = inl z ∷ rest
symbols (atom name) rest = inr (inl name) ∷ rest
symbols (tuple parts) rest = symbols parts (inr (inr (inr 1)) ∷ rest)
symbols (mapping keys values) rest = symbols keys (symbols values (inr (inr (inr 2)) ∷ rest))
symbols nil rest = inr (inr (inr 0)) ∷ rest
symbols (cons first rest) after = symbols first (symbols rest (inr (inr (inr 3)) ∷ after))
symbols (bits bs) rest = inr (inr (inl bs)) ∷ rest

-- the stack with its top in a tuple, and with its two topmost values joined
abbrev pub wrap_top : List TermValue → List TermValue
wrap_top [] = []
wrap_top (t ∷ stack) = tuple t ∷ stack

abbrev pub join_top : (TermValue → TermValue → TermValue) → List TermValue → List TermValue
join_top f [] = []
join_top f (t ∷ []) = []
join_top f (second ∷ first ∷ stack) = f first second ∷ stack

-- the stack behind a number
abbrev pub stack_by : ℕ → List TermValue → List TermValue
stack_by zero stack = nil ∷ stack
stack_by (suc zero) stack = wrap_top stack
stack_by (suc (suc zero)) stack = join_top mapping stack
stack_by (suc (suc (suc n))) stack = join_top cons stack

-- behind a symbol, and behind some symbols
abbrev pub stack_with : Symbol → List TermValue → List TermValue
stack_with (inl z) stack = integer z ∷ stack
stack_with (inr (inl name)) stack = atom name ∷ stack
stack_with (inr (inr (inl bs))) stack = bits bs ∷ stack
stack_with (inr (inr (inr n))) stack = stack_by n stack

abbrev pub stack_after : List Symbol → List TermValue → List TermValue
stack_after [] stack = stack
stack_after (symbol ∷ rest) stack = stack_after rest (stack_with symbol stack)

abbrev pub top : List TermValue → TermValue
top [] = nil
top (t ∷ stack) = t

pub stack_after-symbols : (t : TermValue) (rest : List Symbol) (stack : List TermValue) → stack_after (symbols t rest) stack ≡ stack_after rest (t ∷ stack)
stack_after-symbols (integer z) rest stack = refl
stack_after-symbols (atom name) rest stack = refl
stack_after-symbols (tuple parts) rest stack = stack_after-symbols parts (inr (inr (inr 1)) ∷ rest) stack
stack_after-symbols (mapping keys values) rest stack =
    stack_after-symbols keys (symbols values (inr (inr (inr 2)) ∷ rest)) stack ∙ stack_after-symbols values (inr (inr (inr 2)) ∷ rest) (keys ∷ stack)
stack_after-symbols nil rest stack = refl
stack_after-symbols (cons first rest) after stack =
    stack_after-symbols first (symbols rest (inr (inr (inr 3)) ∷ after)) stack ∙ stack_after-symbols rest (inr (inr (inr 3)) ∷ after) (first ∷ stack)
stack_after-symbols (bits bs) rest stack = refl

pub top-stack_after : (t : TermValue) → top (stack_after (symbols t []) []) ≡ t
top-stack_after t = ap top (stack_after-symbols t [] [])

abbrev pub coded_term : Coded TermValue
coded_term =
    code_by (List Symbol) (coded_list (coded⊎ coded_ℤ (coded⊎ (coded_list coded_ℕ) (coded⊎ (coded_list coded_bool) coded_ℕ)))) (λ t. symbols t [])
    (λ ts. top (stack_after ts [])) top-stack_after
