-- What bytes begin with, of any format that is exact.
use Rattle.std.proofs.Common.{◌≡◌, ◌≢◌, ℕ, ◌+◌, List, [], ◌++◌, length, Ok, Err, ◌⊎◌, inl, inr, refl, ap, ◌∙◌, sym, append-nil}
use Rattle.etf_model.specs.declared.fault.EtfFault.{EtfFault}
use Rattle.etf_model.specs.declared.fault.EtfFault.TheVariants.{Short}
use Rattle.etf_model.specs.Format.{Position, Reading, Format}
use Rattle.etf_model.specs.Exact.{IsExact}
use Rattle.etf_model.specs.Fronts.{Begins}
use Rattle.etf_model.specs.Exactness.{same_answer}

which_fault : (fault : EtfFault) → (fault ≡ Short) ⊎ (fault ≢ Short)
which_fault Short = inl refl
which_fault other = inr (λ e. cc)

module _ {A : Type 0} (F : Format A) (f : IsExact F) where
  -- what reading bytes that begin at an offset answers
  abbrev pub reading : ℕ → List ℕ → Reading A
  reading start bytes = F.read start (record { offset = start; left = bytes })

  -- a value, a break
  abbrev pub BeginsWhole : List ℕ → Type 0
  BeginsWhole bytes = (x : A) × Begins (F.Whole x) bytes

  abbrev pub BeginsBreak : ℕ → List ℕ → Type 0
  BeginsBreak start bytes = (fault : EtfFault) × Begins (λ front. F.Break start start front fault) bytes

  -- ---- two values in front of the same bytes

  pub same_whole : (x y : A) (front rest other more : List ℕ) → F.Whole x front → F.Whole y other → front ++ rest ≡ other ++ more → (x ≡ y) × (rest ≡ more)
  same_whole x y front rest other more v w e =
      let same = same_answer x y (record { offset = 0 + length front; left = rest }) (record { offset = 0 + length other; left = more })
      (sym (f.whole_read 0 0 x front rest v) ∙ ap (reading 0) e ∙ f.whole_read 0 0 y other more w) in
      (same.0, ap (λ (p : Position). p.left) same.1)

  pub no_proper_prefix : (x y : A) (bytes rest : List ℕ) → F.Whole x bytes → F.Whole y (bytes ++ rest) → rest ≡ []
  no_proper_prefix x y bytes rest v w = (same_whole x y bytes rest (bytes ++ rest) [] v w (sym (append-nil (bytes ++ rest)))).1

  -- ---- one of three

  abbrev pub OneOfThree : ℕ → List ℕ → Type 0
  OneOfThree start bytes = BeginsWhole bytes ⊎ (BeginsBreak start bytes ⊎ F.Part bytes)

  by_fault : (start : ℕ) (bytes : List ℕ) (fault : EtfFault) → reading start bytes ≡ Err fault → (fault ≡ Short) ⊎ (fault ≢ Short) → OneOfThree start bytes
  by_fault start bytes fault e (inl short) = inr (inr (f.read_part start (record { offset = start; left = bytes }) (e ∙ ap Err short)))
  by_fault start bytes fault e (inr other) = inr (inl (fault, f.read_break start (record { offset = start; left = bytes }) fault e other))

  by_reading : (start : ℕ) (bytes : List ℕ) (r : Reading A) → reading start bytes ≡ r → OneOfThree start bytes
  by_reading start bytes (Ok (x, behind)) e =
      let b = f.read_whole start (record { offset = start; left = bytes }) x behind e in
      inl (x, record { front = b.front; rest = behind.left; holds = b.holds; whole = b.bytes })
  by_reading start bytes (Err fault) e = by_fault start bytes fault e (which_fault fault)

  pub one_of_three : (start : ℕ) (bytes : List ℕ) → OneOfThree start bytes
  one_of_three start bytes = by_reading start bytes (reading start bytes) refl

  -- ---- and no two

  pub whole_or_break : (start : ℕ) (bytes : List ℕ) → BeginsWhole bytes → BeginsBreak start bytes → ⊥
  whole_or_break start bytes (x, s) (fault, b) =
      let answered = f.whole_read start start x s.front s.rest s.holds in
      let refused = f.break_read start start b.front b.rest fault b.holds in
      let same : reading start (s.front ++ s.rest) ≡ reading start (b.front ++ b.rest) = ap (reading start) (sym s.whole ∙ b.whole) in
      let clash : ◌≡◌ {A = Reading A} (Ok (x, record { offset = start + length s.front; left = s.rest })) (Err fault) = sym answered ∙ same ∙ refused in
      cc

  pub whole_or_part : (bytes : List ℕ) → BeginsWhole bytes → F.Part bytes → ⊥
  whole_or_part bytes (x, s) p =
      let answered = f.whole_read 0 0 x s.front s.rest s.holds in
      let clash : ◌≡◌ {A = Reading A} (Ok (x, record { offset = 0 + length s.front; left = s.rest })) (Err Short) =
      sym answered ∙ ap (reading 0) (sym s.whole) ∙ f.part_read 0 0 bytes p in
      cc

  pub break_or_part : (start : ℕ) (bytes : List ℕ) → BeginsBreak start bytes → F.Part bytes → ⊥
  break_or_part start bytes (fault, b) p =
      let same : ◌≡◌ {A = Reading A} (Err fault) (Err Short) =
      sym (f.break_read start start b.front b.rest fault b.holds) ∙ ap (reading start) (sym b.whole) ∙ f.part_read start start bytes p in
      let short : fault ≡ Short = cc in
      f.break_fault start start b.front fault b.holds short
