-- Which values are terms: the limits on depth, sizes, atoms and integers, and the order of a map's keys. The limits
-- are this project's own.
use Rattle.std.specs.Prelude.{◌≡◌, ℕ, ◌*◌, ◌-◌, ◌<◌, ◌≤◌, ◌^◌, true, cond, nat_lt, nat_le, Result, Ok, Err, List, [], ◌∷◌, length, FitsSigned}
use Rattle.std.specs.Int.{w128}
use Rattle.std.specs.declared.cmp.Ordering.TheVariants.{Less}
use Rattle.std.specs.Str.{all_scalars}
use Rattle.term_model.specs.declared.term_fault.TermFault.{TermFault}
use Rattle.term_model.specs.declared.term_fault.TermFault.TheVariants.{Depth, ManyParts}
use Rattle.term_model.specs.TermValue.{TermValue, integer, atom, tuple, mapping, nil, cons, bits, elements, depth}
use Rattle.term_model.specs.BitString.{bits_of}
use Rattle.term_model.specs.Order.{order}

-- a proper list: it ends in nil
abbrev pub IsProper : TermValue → Type 0
IsProper nil = Unit {0}
IsProper (cons first rest) = IsProper rest
IsProper other = ⊥

-- less than the first of these keys, where there is one
abbrev pub Precedes : TermValue → List TermValue → Type 0
Precedes k [] = Unit {0}
Precedes k (l ∷ ls) = order k l ≡ Less

-- each key is less than the next one
abbrev pub AreAscending : List TermValue → Type 0
AreAscending [] = Unit {0}
AreAscending (k ∷ ks) = Precedes k ks × AreAscending ks

-- all limits of a term but that on depth
abbrev pub IsBounded : TermValue → Type 0
IsBounded (integer z) = FitsSigned w128 z
IsBounded (atom name) = (length name ≤ 255) × (all_scalars name ≡ true)
IsBounded (tuple parts) = IsProper parts × IsBounded parts
IsBounded (mapping keys values) = IsProper keys × IsProper values × (length (elements keys) ≡ length (elements values))
    × AreAscending (elements keys) × IsBounded keys × IsBounded values
IsBounded nil = Unit {0}
IsBounded (cons first rest) = (length (elements (cons first rest)) < 2 ^ 32) × IsBounded first × IsBounded rest
IsBounded (bits bs) = length bs ≤ 8 * (2 ^ 32 - 1)

-- a term: a value within all limits
pub record IsTerm (t : TermValue) : Type 0 where
  pub shallow : depth t ≤ 256
  pub bounded : IsBounded t

-- What is answered for a term of this many parts and this depth: too many parts come before too many levels.
abbrev pub limited : {A : Type 0} → ℕ → ℕ → A → Result A TermFault
limited parts levels made = cond (nat_lt parts (2 ^ 32)) (cond (nat_le levels 256) (Ok made) (Err Depth)) (Err ManyParts)

-- what building a term of this many parts answers
abbrev pub built : ℕ → TermValue → Result TermValue TermFault
built parts t = limited parts (depth t) t

-- what building a bit string of these bytes answers
abbrev pub bits_built : List ℕ → ℕ → Result TermValue TermFault
bits_built bytes used = cond (nat_lt (length bytes) (2 ^ 32)) (Ok (bits (bits_of bytes used))) (Err ManyParts)
