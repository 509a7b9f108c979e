-- The breaks of a format that is put together move with the offset where those of its parts do.
use Rattle.std.proofs.Common.{◌≡◌, ℕ, ◌+◌, Bool, List, length, inl, inr, ap, ◌∙◌, subst, arith}
use Rattle.etf_model.specs.declared.fault.EtfFault.{EtfFault}
use Rattle.etf_model.specs.Format.{Format, byte, give, followed, tested, framed}
use Rattle.etf_model.specs.Moved.{moved}
use Rattle.etf_model.specs.Kept.{IsKept}

-- so many bytes further on a format has the same breaks, with faults moved so
pub record IsMoving {A : Type 0} (F : Format A) : Type 0 where
  pub break_moves : (n term here : ℕ) (bytes : List ℕ) (fault : EtfFault) → F.Break term here bytes fault → F.Break (term + n) (here + n) bytes (moved n fault)

pub byte_moves : IsMoving byte
byte_moves = record { break_moves = λ n term here bytes fault h. absurd h }

pub give_moves : {A : Type 0} (value : A) → IsMoving (give value)
give_moves value = record { break_moves = λ n term here bytes fault h. absurd h }

module _ {A B : Type 0} (F : Format A) (G : A → Format B) (f : IsMoving F) (g : (x : A) (front : List ℕ) → F.Whole x front → IsMoving (G x)) where
  followed_break : (n term here : ℕ) (bytes : List ℕ) (fault : EtfFault) → (followed F G).Break term here bytes fault
      → (followed F G).Break (term + n) (here + n) bytes (moved n fault)
  followed_break n term here bytes fault (inl h) = inl (f.break_moves n term here bytes fault h)
  followed_break n term here bytes fault (inr j) =
      let offset : here + length j.front + n ≡ here + n + length j.front = omega arith in
      inr (record {
        value = j.value;
        front = j.front;
        rest = j.rest;
        first = j.first;
        second =
            subst (λ k. (G j.value).Break (term + n) k j.rest (moved n fault)) offset
            ((g j.value j.front j.first).break_moves n term (here + length j.front) j.rest fault j.second);
        whole = j.whole;
      })

  pub followed_moves : IsMoving (followed F G)
  followed_moves = record { break_moves = followed_break }

module _ {A : Type 0} (F : Format A) (test : A → Bool) (fault : ℕ → A → EtfFault) (f : IsMoving F)
    (g : (n term : ℕ) (x : A) → moved n (fault term x) ≡ fault (term + n) x) where
  tested_break : (n term here : ℕ) (bytes : List ℕ) (why : EtfFault) → (tested F test fault).Break term here bytes why
      → (tested F test fault).Break (term + n) (here + n) bytes (moved n why)
  tested_break n term here bytes why (inl h) = inl (f.break_moves n term here bytes why h)
  tested_break n term here bytes why (inr (x, w, t, same)) = inr (x, w, t, ap (moved n) same ∙ g n term x)

  pub tested_moves : IsMoving (tested F test fault)
  tested_moves = record { break_moves = tested_break }

pub framed_moves : {A : Type 0} (F : Format A) → IsMoving F → IsMoving (framed F)
framed_moves F f = record { break_moves = λ n term here bytes fault h. f.break_moves n here here bytes fault h }

pub moving-kept : IsKept (λ A F. IsMoving F)
moving-kept = record {
  of_byte = byte_moves;
  of_give = give_moves;
  of_followed = followed_moves;
  of_tested = λ F test fault tells some f. tested_moves F test fault f tells.moves;
  of_framed = framed_moves;
}
