-- A format that is put together is sharp where its parts are.
use Rattle.std.proofs.Common.{◌≡◌, ℕ, Bool, List, [], ◌∷◌, ◌++◌, ◌⊎◌, inl, inr, refl, ap, ◌∙◌, sym, append_assoc, append-nil}
use Rattle.etf_model.specs.declared.fault.EtfFault.{EtfFault}
use Rattle.etf_model.specs.Format.{Format, byte, give, followed, tested, framed}
use Rattle.etf_model.specs.Sharp.{IsSharp, HasBytes}
use Rattle.etf_model.specs.Fronts.{OneMore}
use Rattle.etf_model.specs.Kept.{IsKept}

pub byte-sharp : IsSharp byte
byte-sharp = record {
  break_sharp = λ term here bytes fault h. absurd h;
  whole_sharp = λ x bytes h. inr (record { front = []; last = x; holds = refl; whole = h });
}

pub give-sharp : {A : Type 0} (value : A) → IsSharp (give value)
give-sharp value = record { break_sharp = λ term here bytes fault h. absurd h; whole_sharp = λ x bytes h. inl h.1 }

-- ---- one behind the other; the second only where it is read

module _ {A B : Type 0} (F : Format A) (G : A → Format B) (f : IsSharp F) (g : (x : A) (front : List ℕ) → F.Whole x front → IsSharp (G x)) where
  in_first : (bytes : List ℕ) → OneMore F.Part bytes → OneMore (followed F G).Part bytes
  in_first bytes one = record { front = one.front; last = one.last; holds = inl one.holds; whole = one.whole }

  in_second : (x : A) (front rest bytes : List ℕ) → F.Whole x front → bytes ≡ front ++ rest → OneMore (G x).Part rest → OneMore (followed F G).Part bytes
  in_second x front rest bytes w e one = record {
    front = front ++ one.front;
    last = one.last;
    holds = inr (record { value = x; front = front; rest = one.front; first = w; second = one.holds; whole = refl });
    whole = e ∙ ap (λ l. front ++ l) one.whole ∙ sym (append_assoc front one.front (one.last ∷ []));
  }

  followed_broken : (term here : ℕ) (bytes : List ℕ) (fault : EtfFault) → (followed F G).Break term here bytes fault → OneMore (followed F G).Part bytes
  followed_broken term here bytes fault (inl h) = in_first bytes (f.break_sharp term here bytes fault h)
  followed_broken term here bytes fault (inr j) =
      in_second j.value j.front j.rest bytes j.first j.whole ((g j.value j.front j.first).break_sharp term _ j.rest fault j.second)

  none_behind : (front rest bytes : List ℕ) → bytes ≡ front ++ rest → rest ≡ [] → bytes ≡ front
  none_behind front rest bytes e n = e ∙ ap (λ l. front ++ l) n ∙ append-nil front

  ends_first : (front bytes : List ℕ) → bytes ≡ front → (front ≡ []) ⊎ OneMore F.Part front → (bytes ≡ []) ⊎ OneMore (followed F G).Part bytes
  ends_first front bytes e (inl n) = inl (e ∙ n)
  ends_first front bytes e (inr one) = inr (in_first bytes (record { front = one.front; last = one.last; holds = one.holds; whole = e ∙ one.whole }))

  ends_second : (x : A) (front rest bytes : List ℕ) → F.Whole x front → bytes ≡ front ++ rest → (rest ≡ []) ⊎ OneMore (G x).Part rest
      → (bytes ≡ []) ⊎ OneMore (followed F G).Part bytes
  ends_second x front rest bytes w e (inl n) = ends_first front bytes (none_behind front rest bytes e n) (f.whole_sharp x front w)
  ends_second x front rest bytes w e (inr one) = inr (in_second x front rest bytes w e one)

  pub followed-sharp : IsSharp (followed F G)
  followed-sharp = record {
    break_sharp = followed_broken;
    whole_sharp = λ y bytes j. ends_second j.value j.front j.rest bytes j.first j.whole ((g j.value j.front j.first).whole_sharp y j.rest j.second);
  }

-- ---- the others

not_empty : {P : List ℕ → Type 0} (bytes : List ℕ) → (bytes ≡ [] → ⊥) → (bytes ≡ []) ⊎ OneMore P bytes → OneMore P bytes
not_empty bytes some (inl n) = absurd (some n)
not_empty bytes some (inr one) = one

tested_broken : {A : Type 0} (F : Format A) (test : A → Bool) (fault : ℕ → A → EtfFault) → IsSharp F → HasBytes F
    → (term here : ℕ) (bytes : List ℕ) (why : EtfFault) → (tested F test fault).Break term here bytes why → OneMore F.Part bytes
tested_broken F test fault f some term here bytes why (inl h) = f.break_sharp term here bytes why h
tested_broken F test fault f some term here bytes why (inr (x, w, t, same)) = not_empty bytes (some x bytes w) (f.whole_sharp x bytes w)

pub tested-sharp : {A : Type 0} (F : Format A) (test : A → Bool) (fault : ℕ → A → EtfFault) → IsSharp F → HasBytes F → IsSharp (tested F test fault)
tested-sharp F test fault f some = record {
  break_sharp = tested_broken F test fault f some;
  whole_sharp = λ x bytes h. f.whole_sharp x bytes h.0;
}

pub framed-sharp : {A : Type 0} (F : Format A) → IsSharp F → IsSharp (framed F)
framed-sharp F f = record {
  break_sharp = λ term here bytes fault h. f.break_sharp here here bytes fault h;
  whole_sharp = λ x bytes h. f.whole_sharp x bytes h;
}

pub sharp-kept : IsKept (λ A F. IsSharp F)
sharp-kept = record {
  of_byte = byte-sharp;
  of_give = give-sharp;
  of_followed = followed-sharp;
  of_tested = λ F test fault tells some f. tested-sharp F test fault f some;
  of_framed = framed-sharp;
}
