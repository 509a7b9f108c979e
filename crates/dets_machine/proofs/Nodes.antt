-- What a node says of the term that it shows.
use Rattle.std.proofs.Common.{◌≡◌, ℕ, false, nat_eq, nat_lt, List, [], ◌∷◌, length, slice_get, Some, None, refl, ap, arith}
use Rattle.std.proofs.lemmas.Bool.Decides.{nat_tests}
use Rattle.dets_term.specs.declared.term.Node.{Node}
use Rattle.dets_term.specs.declared.term.Node.TheVariants.{Int, Atom, Tuple, Map, List as ListNode, Improper, Bits}
use Rattle.dets_term.specs.TermValue.{TermValue, atom, tuple, nil, chain}
use Rattle.dets_term.specs.Node.{shown, IsSound}
use Rattle.run_model.specs.Command.{name_of}
use Rattle.run_model.specs.Step.{is_empty_list, is_filled_tuple}
use Rattle.run_model.specs.InMemory.{command_of, operation, of_three_parts}

-- a list of three by its elements
pub three : (ts : List TermValue) (a b c : TermValue) → length ts ≡ 3 → Some a ≡ slice_get ts 0 → Some b ≡ slice_get ts 1 → Some c ≡ slice_get ts 2
    → ts ≡ a ∷ b ∷ c ∷ []
three [] a b c n p q r = absurd (omega arith)
three (x ∷ []) a b c n p q r = absurd (omega arith)
three (x ∷ y ∷ []) a b c n p q r = absurd (omega arith)
three (x ∷ y ∷ z ∷ []) a b c n p q r = cc
three (x ∷ y ∷ z ∷ w ∷ more) a b c n p q r = absurd (omega arith)

-- no other tuple is a command, and no other term
pub command_of_other_tuple : (ts : List TermValue) → (length ts ≡ 3 → ⊥) → command_of (tuple (chain ts nil)) ≡ None
command_of_other_tuple [] other = refl
command_of_other_tuple (x ∷ []) other = refl
command_of_other_tuple (x ∷ y ∷ []) other = refl
command_of_other_tuple (x ∷ y ∷ z ∷ []) other = absurd (other (omega arith))
command_of_other_tuple (x ∷ y ∷ z ∷ w ∷ more) other = refl

pub command_of_other : (n : Node) → IsSound n → ((ts : List TermValue) → n ≡ Tuple ts → ⊥) → command_of (shown n) ≡ None
command_of_other (Int v) sound other = refl
command_of_other (Atom name) sound other = refl
command_of_other (Tuple parts) sound other = absurd (other parts refl)
command_of_other (Map pairs) sound other = refl
command_of_other (ListNode []) sound other = refl
command_of_other (ListNode (t ∷ ts)) sound other = refl
command_of_other (Improper [] tail) sound other = absurd (let some = sound.0 in omega arith)
command_of_other (Improper (t ∷ ts) tail) sound other = refl
command_of_other (Bits bytes used) sound other = refl

pub name_of_other : (n : Node) → IsSound n → ((name : List ℕ) → n ≡ Atom name → ⊥) → None ≡ name_of (shown n)
name_of_other (Int v) sound other = refl
name_of_other (Atom name) sound other = absurd (other name refl)
name_of_other (Tuple parts) sound other = refl
name_of_other (Map pairs) sound other = refl
name_of_other (ListNode []) sound other = refl
name_of_other (ListNode (t ∷ ts)) sound other = refl
name_of_other (Improper [] tail) sound other = absurd (let some = sound.0 in omega arith)
name_of_other (Improper (t ∷ ts) tail) sound other = refl
name_of_other (Bits bytes used) sound other = refl

pub is_empty_list-chain : (ts : List TermValue) → nat_eq (length ts) 0 ≡ is_empty_list (chain ts nil)
is_empty_list-chain [] = refl
is_empty_list-chain (t ∷ ts) = grind (arith, nat_tests)

pub is_empty_list_other : (n : Node) → IsSound n → ((ts : List TermValue) → n ≡ ListNode ts → ⊥) → false ≡ is_empty_list (shown n)
is_empty_list_other (Int v) sound other = refl
is_empty_list_other (Atom name) sound other = refl
is_empty_list_other (Tuple parts) sound other = refl
is_empty_list_other (Map pairs) sound other = refl
is_empty_list_other (ListNode parts) sound other = absurd (other parts refl)
is_empty_list_other (Improper [] tail) sound other = absurd (let some = sound.0 in omega arith)
is_empty_list_other (Improper (t ∷ ts) tail) sound other = refl
is_empty_list_other (Bits bytes used) sound other = refl

pub is_filled_tuple-tuple : (ts : List TermValue) → nat_lt 0 (length ts) ≡ is_filled_tuple (tuple (chain ts nil))
is_filled_tuple-tuple [] = refl
is_filled_tuple-tuple (t ∷ ts) = grind (arith, nat_tests)

pub is_filled_tuple_other : (n : Node) → IsSound n → ((ts : List TermValue) → n ≡ Tuple ts → ⊥) → false ≡ is_filled_tuple (shown n)
is_filled_tuple_other (Int v) sound other = refl
is_filled_tuple_other (Atom name) sound other = refl
is_filled_tuple_other (Tuple parts) sound other = absurd (other parts refl)
is_filled_tuple_other (Map pairs) sound other = refl
is_filled_tuple_other (ListNode []) sound other = refl
is_filled_tuple_other (ListNode (t ∷ ts)) sound other = refl
is_filled_tuple_other (Improper [] tail) sound other = absurd (let some = sound.0 in omega arith)
is_filled_tuple_other (Improper (t ∷ ts) tail) sound other = refl
is_filled_tuple_other (Bits bytes used) sound other = refl

-- what is asked by a client and an operation that are atoms
pub operation-of_three_parts : (client op argument : TermValue) (a b : List ℕ) → Some a ≡ name_of client → Some b ≡ name_of op
    → operation b argument ≡ of_three_parts client op argument
operation-of_three_parts (atom client) (atom name) argument a b p q = ap (λ (n : List ℕ). operation n argument) (let e : b ≡ name = cc in e)
operation-of_three_parts client op argument a b p q = cc
