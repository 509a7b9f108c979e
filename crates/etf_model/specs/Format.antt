-- What a format is, and how formats are put together. This project's own.
use Rattle.std.specs.Prelude.{◌≡◌, ℕ, zero, suc, ◌+◌, Bool, true, false, cond, ◌⊎◌, List, [], ◌∷◌, ◌++◌, length, Result, Ok, Err}
use Rattle.etf_model.specs.declared.fault.EtfFault.{EtfFault}
use Rattle.etf_model.specs.declared.fault.EtfFault.TheVariants.{Short}

-- a position in some bytes: its offset and what is left
pub record Position : Type 0 where
  pub offset : ℕ
  pub left : List ℕ

-- what reading answers: a value and the position behind it, or the fault
abbrev pub Reading : Type 0 → Type 0
Reading A = Result (A × Position) EtfFault

-- A format of values: which bytes are whole and of which value; which bytes end too early and break no rule; and which
-- bytes break a rule with their last byte, where they begin at an offset, inside the term at another one. Beside these
-- relations what reading at a position answers, inside the term at an offset.
pub record Format (A : Type 0) : Type 1 where
  pub Whole : A → List ℕ → Type 0
  pub Part : List ℕ → Type 0
  pub Break : (term here : ℕ) → List ℕ → EtfFault → Type 0
  pub read : (term : ℕ) → Position → Reading A

-- the byte at a position
abbrev pub first_byte : ℕ → List ℕ → Reading ℕ
first_byte here [] = Err Short
first_byte here (x ∷ rest) = Ok (x, record { offset = here + 1; left = rest })

-- one byte
abbrev pub byte : Format ℕ
byte = record {
  Whole = λ x bytes. bytes ≡ x ∷ [];
  Part = λ bytes. bytes ≡ [];
  Break = λ term here bytes fault. ⊥;
  read = λ term position. first_byte position.offset position.left;
}

-- no byte, with this value
abbrev pub give : {A : Type 0} → A → Format A
give value = record {
  Whole = λ x bytes. (x ≡ value) × (bytes ≡ []);
  Part = λ bytes. ⊥;
  Break = λ term here bytes fault. ⊥;
  read = λ term position. Ok (value, position);
}

-- a front with its value and length, and what follows it
pub record FrontAndRest {A : Type 0} (P : A → List ℕ → Type 0) (Q : ℕ → A → List ℕ → Type 0) (bytes : List ℕ) : Type 0 where
  pub value : A
  pub front : List ℕ
  pub rest : List ℕ
  pub first : P value front
  pub second : Q (length front) value rest
  pub whole : bytes ≡ front ++ rest

-- to go on behind a value
abbrev pub go_on : {A B : Type 0} → Reading A → (A → Position → Reading B) → Reading B
go_on (Ok r) next = next r.0 r.1
go_on (Err fault) next = Err fault

-- One format and then another, which may depend on the value of the first. A part or a break stands in the first, or
-- behind a whole of it in the second.
abbrev pub followed : {A B : Type 0} → Format A → (A → Format B) → Format B
followed F G = record {
  Whole = λ y bytes. FrontAndRest F.Whole (λ n x rest. (G x).Whole y rest) bytes;
  Part = λ bytes. F.Part bytes ⊎ FrontAndRest F.Whole (λ n x rest. (G x).Part rest) bytes;
  Break = λ term here bytes fault. F.Break term here bytes fault
      ⊎ FrontAndRest F.Whole (λ n x rest. (G x).Break term (here + n) rest fault) bytes;
  read = λ term position. go_on (F.read term position) (λ x behind. (G x).read term behind);
}

-- a value that passes a test, or the fault
abbrev pub judged : {A : Type 0} → Bool → EtfFault → A → Position → Reading A
judged passes fault x behind = cond passes (Ok (x, behind)) (Err fault)

-- A format whose values are to pass a test. One that does not breaks a rule with its last byte.
abbrev pub tested : {A : Type 0} → Format A → (A → Bool) → (ℕ → A → EtfFault) → Format A
tested {A} F test fault = record {
  Whole = λ x bytes. F.Whole x bytes × (test x ≡ true);
  Part = F.Part;
  Break = λ term here bytes f. F.Break term here bytes f
      ⊎ ((x : A) × F.Whole x bytes × (test x ≡ false) × (f ≡ fault term x));
  read = λ term position. go_on (F.read term position) (λ x behind. judged (test x) (fault term x) x behind);
}

-- a format that begins a term of its own: faults inside are told with the offset at which it begins
abbrev pub framed : {A : Type 0} → Format A → Format A
framed F = record {
  Whole = F.Whole;
  Part = F.Part;
  Break = λ term here bytes fault. F.Break here here bytes fault;
  read = λ term position. F.read position.offset position;
}

-- the value of a format, changed
abbrev pub changed : {A B : Type 0} → Format A → (A → B) → Format B
changed F f = followed F (λ x. give (f x))

-- one of two formats
abbrev pub either : {A : Type 0} → Bool → Format A → Format A → Format A
either true F G = F
either false F G = G

-- a format so many times
abbrev pub times : {A : Type 0} → ℕ → Format A → Format (List A)
times zero F = give []
times (suc n) F = followed F (λ x. changed (times n F) (λ xs. x ∷ xs))

-- a term that cannot stand here, whatever its bytes are
abbrev pub refused : {A : Type 0} → (ℕ → EtfFault) → Format A
refused fault = record {
  Whole = λ x bytes. ⊥;
  Part = λ bytes. ⊥;
  Break = λ term here bytes f. (bytes ≡ []) × (f ≡ fault here);
  read = λ term position. Err (fault position.offset);
}
