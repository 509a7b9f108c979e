-- Answers to bytes, by what reading them answers.
use Rattle.std.proofs.Common.{◌≡◌, ℕ, ◌+◌, List, [], ◌∷◌, ◌++◌, length, take, Ok, Err, refl, ap, ◌∙◌, sym, subst, length-append, arith}
use Rattle.etf_model.specs.declared.fault.EtfFault.{EtfFault}
use Rattle.etf_model.specs.declared.fault.EtfFault.TheVariants.{Short, Memory}
use Rattle.etf_model.specs.Format.{Position, Format}
use Rattle.etf_model.specs.Exact.{IsExact}
use Rattle.etf_model.specs.Answers.{IsFront, Answers}

take_front : (front rest : List ℕ) → take (length front) (front ++ rest) ≡ front
take_front [] rest = refl
take_front (x ∷ front) rest = ap (λ l. x ∷ l) (take_front front rest)

module _ {A : Type 0} (F : Format A) (f : IsExact F) where
  -- what is read from the front of some bytes that begin at an offset
  pub front_read : (start : ℕ) (before behind : Position) (x : A) (count : ℕ) → before.offset ≡ start → behind.offset ≡ start + count
      → F.read start before ≡ Ok (x, behind)
      → IsFront F before.left x count
  front_read start before behind x count begins same e =
      let between = f.read_whole start before x behind e in
      let long : count ≡ length between.front = omega (arith, between.offset) in
      record {
        fits = omega (arith, ap length between.bytes, length-append between.front behind.left);
        whole =
            subst (λ l. F.Whole x l) (sym
            (ap (λ n. take n before.left) long ∙ ap (λ l. take (length between.front) l) between.bytes ∙ take_front between.front behind.left)) between.holds;
      }

  -- a fault that is read
  pub fault_read : (start : ℕ) (bytes : List ℕ) (fault : EtfFault) → F.read start (record { offset = start; left = bytes }) ≡ Err fault
      → Answers F start bytes (Err fault)
  fault_read start bytes Short e = f.read_part start (record { offset = start; left = bytes }) e
  fault_read start bytes Memory e = tt
  fault_read start bytes other e = f.read_break start (record { offset = start; left = bytes }) other e (λ s. cc)
