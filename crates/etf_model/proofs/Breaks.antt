-- Breaks in front of the same bytes, and at other offsets, of any format that is exact and sharp.
use Rattle.std.proofs.Common.{◌≡◌, ℕ, ◌+◌, List, [], ◌∷◌, ◌++◌, Err, ◌⊎◌, inl, inr, refl, ap, ◌∙◌, sym, subst, append-nil}
use Rattle.etf_model.specs.declared.fault.EtfFault.{EtfFault}
use Rattle.etf_model.specs.Format.{Reading, Format}
use Rattle.etf_model.specs.Exact.{IsExact}
use Rattle.etf_model.specs.Sharp.{IsSharp}
use Rattle.etf_model.specs.Moved.{moved}
use Rattle.etf_model.proofs.Moving.{IsMoving}
use Rattle.etf_model.specs.Beginnings.{OneOfThree, one_of_three, whole_or_break, break_or_part}

-- ---- two fronts of the same bytes

-- a front and more is the other one
abbrev IsWithin : (front other : List ℕ) → Type 0
IsWithin front other = (k : ℕ) × (more : List ℕ) × (other ≡ front ++ (k ∷ more))

fronts : (front rest other more : List ℕ) → front ++ rest ≡ other ++ more → (front ≡ other) ⊎ (IsWithin front other ⊎ IsWithin other front)
fronts [] rest [] more e = inl refl
fronts [] rest (y ∷ other) more e = inr (inl (y, other, refl))
fronts (x ∷ front) rest [] more e = inr (inr (x, front, refl))
fronts (x ∷ front) rest (y ∷ other) more e =
    let same : x ≡ y = cc in
    let rests : front ++ rest ≡ other ++ more = cc in
    with_rest same (fronts front rest other more rests)
  where
    with_rest : x ≡ y → (front ≡ other) ⊎ (IsWithin front other ⊎ IsWithin other front)
        → (x ∷ front ≡ y ∷ other) ⊎ (IsWithin (x ∷ front) (y ∷ other) ⊎ IsWithin (y ∷ other) (x ∷ front))
    with_rest same (inl e) = inl (cc)
    with_rest same (inr (inl (k, tail, e))) = inr (inl (k, tail, cc))
    with_rest same (inr (inr (k, tail, e))) = inr (inr (k, tail, cc))

-- what is within one more byte is within the others
within_one_more : (front tail part : List ℕ) (k last : ℕ) → front ++ (k ∷ tail) ≡ part ++ last ∷ [] → (rest : List ℕ) × (part ≡ front ++ rest)
within_one_more [] tail part k last e = (part, refl)
within_one_more (x ∷ front) tail [] k last e =
    let none : front ++ (k ∷ tail) ≡ [] = cc in absurd (not_none front none)
  where
    not_none : (front : List ℕ) → front ++ (k ∷ tail) ≡ [] → ⊥
    not_none [] n = cc
    not_none (y ∷ ys) n = cc
within_one_more (x ∷ front) tail (y ∷ part) k last e =
    let same : x ≡ y = cc in
    let rests : front ++ (k ∷ tail) ≡ part ++ last ∷ [] = cc in
    let more = within_one_more front tail part k last rests in
    (more.0, (let found : part ≡ front ++ more.0 = more.1 in cc))

-- ---- one break

module _ {A : Type 0} (F : Format A) (f : IsExact F) (s : IsSharp F) where
  -- no break stands in front of the last byte of another
  not_within : (start : ℕ) (front other : List ℕ) (why how : EtfFault) → F.Break start start front why → F.Break start start other how → IsWithin front other
      → ⊥
  not_within start front other why how b c (k, more, e) =
      let one = s.break_sharp start start other how c in
      let inside = within_one_more front more one.front k one.last (sym e ∙ one.whole) in
      break_or_part F f start one.front (why, record { front = front; rest = inside.0; holds = b; whole = inside.1 }) one.holds

  same_break : (start : ℕ) (front other : List ℕ) (why how : EtfFault) → F.Break start start front why → F.Break start start other how
      → (front ≡ other) ⊎ (IsWithin front other ⊎ IsWithin other front) → front ≡ other
  same_break start front other why how b c (inl e) = e
  same_break start front other why how b c (inr (inl w)) = absurd (not_within start front other why how b c w)
  same_break start front other why how b c (inr (inr w)) = absurd (not_within start other front how why c b w)

  pub one_break : (start : ℕ) (front rest other more : List ℕ) (why how : EtfFault) → F.Break start start front why → F.Break start start other how
      → front ++ rest ≡ other ++ more → (front ≡ other) × (why ≡ how)
  one_break start front rest other more why how b c e =
      let same : ◌≡◌ {A = Reading A} (Err why) (Err how) =
      sym (f.break_read start start front rest why b) ∙ ap (λ l. F.read start (record { offset = start; left = l })) e
      ∙ f.break_read start start other more how c in
      (same_break start front other why how b c (fronts front rest other more e), (let faults : why ≡ how = cc in faults))

-- ---- at another offset

module _ {A : Type 0} (F : Format A) (f : IsExact F) (s : IsSharp F) (m : IsMoving F) where
  moved_back : (start n : ℕ) (bytes : List ℕ) (fault : EtfFault) → F.Break (start + n) (start + n) bytes fault → OneOfThree F f start bytes
      → (g : EtfFault) × (fault ≡ moved n g) × F.Break start start bytes g
  moved_back start n bytes fault b (inl whole) =
      absurd (whole_or_break F f (start + n) bytes whole (fault, record { front = bytes; rest = []; holds = b; whole = sym (append-nil bytes) }))
  moved_back start n bytes fault b (inr (inr part)) =
      absurd (break_or_part F f (start + n) bytes (fault, record { front = bytes; rest = []; holds = b; whole = sym (append-nil bytes) }) part)
  moved_back start n bytes fault b (inr (inl (g, c))) =
      let same =
      one_break F f s (start + n) bytes [] c.front c.rest fault (moved n g) b (m.break_moves n start start c.front g c.holds) (append-nil bytes ∙ c.whole) in
      (g, same.1, subst (λ l. F.Break start start l g) (sym same.0) c.holds)

  -- what breaks a rule at one offset does so at each
  pub break_moved : (start n : ℕ) (bytes : List ℕ) (fault : EtfFault) → F.Break (start + n) (start + n) bytes fault
      → (g : EtfFault) × (fault ≡ moved n g) × F.Break start start bytes g
  break_moved start n bytes fault b = moved_back start n bytes fault b (one_of_three F f start bytes)
