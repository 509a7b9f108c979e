-- Lemmas: the reading of a format that is put together agrees with its relations where its parts' do.
use Rattle.std.proofs.Common.{◌≡◌, ◌≢◌, ℕ, ◌+◌, Bool, true, false, List, [], ◌∷◌, ◌++◌, length, length-append, Ok, Err, inl, inr, refl, ap, ◌∙◌, sym, subst}
use Rattle.std.proofs.Common.{append_assoc, arith}
use Rattle.etf_model.specs.declared.fault.EtfFault.{EtfFault}
use Rattle.etf_model.specs.declared.fault.EtfFault.TheVariants.{Short}
use Rattle.etf_model.specs.Format.{Position, Reading, Format, first_byte, byte, give, go_on, followed, judged, tested, framed}
use Rattle.etf_model.specs.Exact.{Between, IsExact}
use Rattle.etf_model.specs.Fronts.{Begins}
use Rattle.etf_model.specs.Kept.{IsKept}

-- one answer is of one value and one position
pub same_answer : {A : Type 0} (x y : A) (p q : Position) → ◌≡◌ {A = Reading A} (Ok (x, p)) (Ok (y, q)) → (x ≡ y) × (p ≡ q)
same_answer {A} x y p q e =
    let pairs : ◌≡◌ {A = A × Position} (x, p) (y, q) = cc in
    (ap (λ r. r.0) pairs, ap (λ r. r.1) pairs)

-- ---- one byte and none

byte_whole : (here : ℕ) (left : List ℕ) (x : ℕ) (behind : Position) → first_byte here left ≡ Ok (x, behind)
    → Between (λ bytes. bytes ≡ x ∷ []) (record { offset = here; left = left }) behind
byte_whole here [] x behind e = cc
byte_whole here (y ∷ rest) x behind e =
    let same = same_answer y x (record { offset = here + 1; left = rest }) behind e in
    subst (λ (p : Position). Between (λ bytes. bytes ≡ x ∷ []) (record { offset = here; left = y ∷ rest }) p) same.1
    (record { front = y ∷ []; holds = ap (λ z. z ∷ []) same.0; bytes = refl; offset = refl })

byte_part : (here : ℕ) (left : List ℕ) → first_byte here left ≡ Err Short → left ≡ []
byte_part here [] e = refl
byte_part here (y ∷ rest) e = cc

byte_break : (here : ℕ) (left : List ℕ) (fault : EtfFault) → first_byte here left ≡ Err fault → fault ≢ Short → ⊥
byte_break here [] fault e other = let same : fault ≡ Short = cc in other same
byte_break here (y ∷ rest) fault e other = cc

pub byte-exact : IsExact byte
byte-exact = record {
  read_whole = λ term position x behind e. byte_whole position.offset position.left x behind e;
  read_part = λ term position e. byte_part position.offset position.left e;
  read_break = λ term position fault e other. absurd (byte_break position.offset position.left fault e other);
  whole_read = λ term here x front rest e. rw e;
  part_read = λ term here bytes e. rw e;
  break_read = λ term here front rest fault e. absurd e;
  break_fault = λ term here bytes fault e. absurd e;
}

pub give-exact : {A : Type 0} (value : A) → IsExact (give value)
give-exact {A} value = record {
  read_whole = λ term position x behind e.
      let same = same_answer value x position behind e in
      record {
        front = [];
        holds = (sym same.0, refl);
        bytes = ap (λ (p : Position). p.left) same.1;
        offset = ap (λ (p : Position). p.offset) (sym same.1) ∙ (let none : position.offset ≡ position.offset + 0 = omega arith in none);
      };
  read_part = λ term position e. let clash : ⊥ = cc in absurd clash;
  read_break = λ term position fault e other. let clash : ⊥ = cc in absurd clash;
  whole_read = λ term here x front rest h.
      let e : here ≡ here + 0 = omega arith in
      rw (h.1, h.0) (ap (λ (n : ℕ). Ok (value, record { offset = n; left = rest })) e);
  part_read = λ term here bytes h. absurd h;
  break_read = λ term here front rest fault h. absurd h;
  break_fault = λ term here bytes fault h. absurd h;
}

-- ---- one behind the other; the second only where it is read

module _ {A B : Type 0} (F : Format A) (G : A → Format B) (f : IsExact F) (g : (x : A) (front : List ℕ) → F.Whole x front → IsExact (G x)) where
  -- how the second reads behind the first
  abbrev behind_first : ℕ → A → Position → Reading B
  behind_first term x behind = (G x).read term behind

  followed_whole : (term : ℕ) (position : Position) (y : B) (behind : Position) (r : Reading A) → F.read term position ≡ r
      → go_on r (behind_first term) ≡ Ok (y, behind) → Between ((followed F G).Whole y) position behind
  followed_whole term position y behind (Err fault) e h = cc
  followed_whole term position y behind (Ok (x, mid)) e h =
      let first = f.read_whole term position x mid e in
      let second = (g x first.front first.holds).read_whole term mid y behind h in
      record {
        front = first.front ++ second.front;
        holds = record { value = x; front = first.front; rest = second.front; first = first.holds; second = second.holds; whole = refl };
        bytes = first.bytes ∙ ap (λ l. first.front ++ l) second.bytes ∙ sym (append_assoc first.front second.front behind.left);
        offset = omega (arith, first.offset, second.offset, length-append first.front second.front);
      }

  followed_part : (term : ℕ) (position : Position) (r : Reading A) → F.read term position ≡ r
      → go_on r (behind_first term) ≡ Err Short → (followed F G).Part position.left
  followed_part term position (Err fault) e h = let same : fault ≡ Short = cc in inl (f.read_part term position (e ∙ ap Err same))
  followed_part term position (Ok (x, mid)) e h =
      let first = f.read_whole term position x mid e in
      inr (record {
        value = x;
        front = first.front;
        rest = mid.left;
        first = first.holds;
        second = (g x first.front first.holds).read_part term mid h;
        whole = first.bytes;
      })

  followed_break : (term : ℕ) (position : Position) (fault : EtfFault) (r : Reading A) → F.read term position ≡ r
      → go_on r (behind_first term) ≡ Err fault → fault ≢ Short → Begins (λ front. (followed F G).Break term position.offset front fault) position.left
  followed_break term position fault (Err other) e h more =
      let same : other ≡ fault = cc in
      let first = f.read_break term position fault (e ∙ ap Err same) more in
      record { front = first.front; rest = first.rest; holds = inl first.holds; whole = first.whole }
  followed_break term position fault (Ok (x, mid)) e h more =
      let first = f.read_whole term position x mid e in
      let second = (g x first.front first.holds).read_break term mid fault h more in
      record {
        front = first.front ++ second.front;
        rest = second.rest;
        holds =
            inr (record {
              value = x;
              front = first.front;
              rest = second.front;
              first = first.holds;
              second = subst (λ n. (G x).Break term n second.front fault) first.offset second.holds;
              whole = refl;
            });
        whole = first.bytes ∙ ap (λ l. first.front ++ l) second.whole ∙ sym (append_assoc first.front second.front second.rest);
      }

  -- reading a whole of the first and then the second
  past_first : (term here : ℕ) (x : A) (front rest bytes : List ℕ) → F.Whole x front → bytes ≡ front ++ rest
      → go_on (F.read term (record { offset = here; left = bytes })) (behind_first term) ≡ (G x).read term
      (record { offset = here + length front; left = rest })
  past_first term here x front rest bytes h e =
      ap (λ l. go_on (F.read term (record { offset = here; left = l })) (behind_first term)) e
      ∙ ap (λ r. go_on r (behind_first term)) (f.whole_read term here x front rest h)

  whole_followed : (term here : ℕ) (y : B) (bytes rest : List ℕ) → (followed F G).Whole y bytes
      → (followed F G).read term (record { offset = here; left = bytes ++ rest }) ≡ Ok (y, record { offset = here + length bytes; left = rest })
  whole_followed term here y bytes rest j =
      let offset : here + length j.front + length j.rest ≡ here + length bytes = omega (arith, ap length j.whole, length-append j.front j.rest) in
      past_first term here j.value j.front (j.rest ++ rest) (bytes ++ rest) j.first (ap (λ l. l ++ rest) j.whole ∙ append_assoc j.front j.rest rest)
      ∙ (g j.value j.front j.first).whole_read term (here + length j.front) y j.rest rest j.second
      ∙ ap (λ (n : ℕ). Ok (y, record { offset = n; left = rest })) offset

  part_followed : (term here : ℕ) (bytes : List ℕ) → (followed F G).Part bytes
      → (followed F G).read term (record { offset = here; left = bytes }) ≡ Err Short
  part_followed term here bytes (inl p) = ap (λ r. go_on r (behind_first term)) (f.part_read term here bytes p)
  part_followed term here bytes (inr j) =
      past_first term here j.value j.front j.rest bytes j.first j.whole ∙ (g j.value j.front j.first).part_read term (here + length j.front) j.rest j.second

  break_followed : (term here : ℕ) (bytes rest : List ℕ) (fault : EtfFault) → (followed F G).Break term here bytes fault
      → (followed F G).read term (record { offset = here; left = bytes ++ rest }) ≡ Err fault
  break_followed term here bytes rest fault (inl p) = ap (λ r. go_on r (behind_first term)) (f.break_read term here bytes rest fault p)
  break_followed term here bytes rest fault (inr j) =
      past_first term here j.value j.front (j.rest ++ rest) (bytes ++ rest) j.first (ap (λ l. l ++ rest) j.whole ∙ append_assoc j.front j.rest rest)
      ∙ (g j.value j.front j.first).break_read term (here + length j.front) j.rest rest fault j.second

  followed_fault : (term here : ℕ) (bytes : List ℕ) (fault : EtfFault) → (followed F G).Break term here bytes fault → fault ≢ Short
  followed_fault term here bytes fault (inl p) = f.break_fault term here bytes fault p
  followed_fault term here bytes fault (inr j) = (g j.value j.front j.first).break_fault term (here + length j.front) j.rest fault j.second

  pub followed-exact : IsExact (followed F G)
  followed-exact = record {
    read_whole = λ term position y behind e. followed_whole term position y behind (F.read term position) refl e;
    read_part = λ term position e. followed_part term position (F.read term position) refl e;
    read_break = λ term position fault e other. followed_break term position fault (F.read term position) refl e other;
    whole_read = whole_followed;
    part_read = part_followed;
    break_read = break_followed;
    break_fault = followed_fault;
  }

-- ---- a test

module _ {A : Type 0} (F : Format A) (test : A → Bool) (fault : ℕ → A → EtfFault) (f : IsExact F)
    (g : (term : ℕ) (x : A) → test x ≡ false → fault term x ≢ Short) where
  abbrev judge : ℕ → A → Position → Reading A
  judge term x behind = judged (test x) (fault term x) x behind

  judged_whole : (term : ℕ) (position mid : Position) (x y : A) (behind : Position) (b : Bool) → test x ≡ b → Between (F.Whole x) position mid
      → judged b (fault term x) x mid ≡ Ok (y, behind) → Between ((tested F test fault).Whole y) position behind
  judged_whole term position mid x y behind false t w h = cc
  judged_whole term position mid x y behind true t w h =
      let same = same_answer x y mid behind h in
      subst (λ (p : Position). Between ((tested F test fault).Whole y) position p) same.1
      (subst (λ z. Between ((tested F test fault).Whole z) position mid) same.0
      (record { front = w.front; holds = (w.holds, t); bytes = w.bytes; offset = w.offset }))

  tested_whole : (term : ℕ) (position : Position) (y : A) (behind : Position) (r : Reading A) → F.read term position ≡ r
      → go_on r (judge term) ≡ Ok (y, behind) → Between ((tested F test fault).Whole y) position behind
  tested_whole term position y behind (Err other) e h = cc
  tested_whole term position y behind (Ok (x, mid)) e h = judged_whole term position mid x y behind (test x) refl (f.read_whole term position x mid e) h

  judged_part : (term : ℕ) (x : A) (mid : Position) (b : Bool) → test x ≡ b → judged b (fault term x) x mid ≡ Err Short → ⊥
  judged_part term x mid true t h = cc
  judged_part term x mid false t h = let same : fault term x ≡ Short = cc in g term x t same

  tested_part : (term : ℕ) (position : Position) (r : Reading A) → F.read term position ≡ r → go_on r (judge term) ≡ Err Short → F.Part position.left
  tested_part term position (Err other) e h = let same : other ≡ Short = cc in f.read_part term position (e ∙ ap Err same)
  tested_part term position (Ok (x, mid)) e h = absurd (judged_part term x mid (test x) refl h)

  judged_break : (term : ℕ) (position mid : Position) (x : A) (why : EtfFault) (b : Bool) → test x ≡ b → Between (F.Whole x) position mid
      → judged b (fault term x) x mid ≡ Err why → Begins (λ front. (tested F test fault).Break term position.offset front why) position.left
  judged_break term position mid x why true t w h = cc
  judged_break term position mid x why false t w h =
      let same : why ≡ fault term x = cc in
      record { front = w.front; rest = mid.left; holds = inr (x, w.holds, t, same); whole = w.bytes }

  tested_break : (term : ℕ) (position : Position) (why : EtfFault) (r : Reading A) → F.read term position ≡ r
      → go_on r (judge term) ≡ Err why → why ≢ Short → Begins (λ front. (tested F test fault).Break term position.offset front why) position.left
  tested_break term position why (Err other) e h more =
      let same : other ≡ why = cc in
      let first = f.read_break term position why (e ∙ ap Err same) more in
      record { front = first.front; rest = first.rest; holds = inl first.holds; whole = first.whole }
  tested_break term position why (Ok (x, mid)) e h more = judged_break term position mid x why (test x) refl (f.read_whole term position x mid e) h

  whole_tested : (term here : ℕ) (x : A) (front rest : List ℕ) → (tested F test fault).Whole x front
      → (tested F test fault).read term (record { offset = here; left = front ++ rest }) ≡ Ok (x, record { offset = here + length front; left = rest })
  whole_tested term here x front rest h =
      ap (λ r. go_on r (judge term)) (f.whole_read term here x front rest h.0)
      ∙ ap (λ b. judged b (fault term x) x (record { offset = here + length front; left = rest })) h.1

  break_tested : (term here : ℕ) (front rest : List ℕ) (why : EtfFault) → (tested F test fault).Break term here front why
      → (tested F test fault).read term (record { offset = here; left = front ++ rest }) ≡ Err why
  break_tested term here front rest why (inl p) = ap (λ r. go_on r (judge term)) (f.break_read term here front rest why p)
  break_tested term here front rest why (inr (x, w, t, same)) =
      ap (λ r. go_on r (judge term)) (f.whole_read term here x front rest w)
      ∙ ap (λ b. judged b (fault term x) x (record { offset = here + length front; left = rest })) t
      ∙ ap Err (sym same)

  tested_fault : (term here : ℕ) (front : List ℕ) (why : EtfFault) → (tested F test fault).Break term here front why → why ≢ Short
  tested_fault term here front why (inl p) = f.break_fault term here front why p
  tested_fault term here front why (inr (x, w, t, same)) = λ e. g term x t (sym same ∙ e)

  pub tested-exact : IsExact (tested F test fault)
  tested-exact = record {
    read_whole = λ term position y behind e. tested_whole term position y behind (F.read term position) refl e;
    read_part = λ term position e. tested_part term position (F.read term position) refl e;
    read_break = λ term position why e other. tested_break term position why (F.read term position) refl e other;
    whole_read = whole_tested;
    part_read = λ term here bytes p. ap (λ r. go_on r (judge term)) (f.part_read term here bytes p);
    break_read = break_tested;
    break_fault = tested_fault;
  }

-- ---- the others

pub framed-exact : {A : Type 0} (F : Format A) → IsExact F → IsExact (framed F)
framed-exact F f = record {
  read_whole = λ term position x behind e. f.read_whole position.offset position x behind e;
  read_part = λ term position e. f.read_part position.offset position e;
  read_break = λ term position fault e other. f.read_break position.offset position fault e other;
  whole_read = λ term here x front rest h. f.whole_read here here x front rest h;
  part_read = λ term here bytes h. f.part_read here here bytes h;
  break_read = λ term here front rest fault h. f.break_read here here front rest fault h;
  break_fault = λ term here bytes fault h. f.break_fault here here bytes fault h;
}

pub exact-kept : IsKept (λ A F. IsExact F)
exact-kept = record {
  of_byte = byte-exact;
  of_give = give-exact;
  of_followed = followed-exact;
  of_tested = λ F test fault tells some f. tested-exact F test fault f (λ term x _. tells.not_short term x);
  of_framed = framed-exact;
}
