-- Reading that goes on at a later position.
use Rattle.std.proofs.Common.{◌≡◌, ℕ, ◌+◌, ◌≤◌, List, [], ◌++◌, length, Ok, refl, ap, sym, ◌∙◌, arith, append_assoc, length-append}
use Rattle.etf_model.specs.Exact.{IsExact, Between}
use Rattle.etf_model.specs.Format.{Format, Position, Reading}
use Rattle.etf_codec.specs.GoesOn.{GoesOn}

-- nothing was read
pub stays : {A : Type 0} (R : Position → Reading A) (position : Position) → GoesOn R R position position
stays R position = record { front = []; holds = λ more. refl; bytes = refl; offset = let none : position.offset ≡ position.offset + 0 = omega arith in none }

-- at the later position
pub goes_on_here : {A : Type 0} (R S : Position → Reading A) (before behind : Position) → GoesOn R S before behind → R before ≡ S behind
goes_on_here R S before behind g = ap (λ l. R (record { offset = before.offset; left = l })) g.bytes ∙ g.holds behind.left

-- and on from there
pub goes_on_then : {A : Type 0} (R S T : Position → Reading A) (before between behind : Position) → GoesOn R S before between → GoesOn S T between behind
    → GoesOn R T before behind
goes_on_then R S T before between behind g h = record {
  front = g.front ++ h.front;
  holds = λ more. ap (λ l. R (record { offset = before.offset; left = l })) (append_assoc g.front h.front more) ∙ g.holds (h.front ++ more) ∙ h.holds more;
  bytes = g.bytes ∙ ap (λ l. g.front ++ l) h.bytes ∙ sym (append_assoc g.front h.front behind.left);
  offset = omega (arith, g.offset, h.offset, length-append g.front h.front);
}

-- what reads the same in both positions
pub goes_on_as : {A B : Type 0} (R S : Position → Reading A) (Q T : Position → Reading B) (before behind : Position) → GoesOn R S before behind
    → ((here later : List ℕ) → R (record { offset = before.offset; left = here }) ≡ S (record { offset = behind.offset; left = later })
    → Q (record { offset = before.offset; left = here }) ≡ T (record { offset = behind.offset; left = later }))
    → GoesOn Q T before behind
goes_on_as R S Q T before behind g same = record {
  front = g.front;
  holds = λ more. same (g.front ++ more) more (g.holds more);
  bytes = g.bytes;
  offset = g.offset;
}

-- the reading of a value does not look at what follows
pub whatever_follows : {A : Type 0} (F : Format A) → IsExact F → (term : ℕ) (before behind : Position) (x : A) → F.read term before ≡ Ok (x, behind)
    → GoesOn (F.read term) (λ position. Ok (x, position)) before behind
whatever_follows F exact term before behind x e =
    let w = exact.read_whole term before x behind e in
    record {
      front = w.front;
      holds = λ more. exact.whole_read term before.offset x w.front more w.holds ∙ ap (λ (n : ℕ). Ok (x, record { offset = n; left = more })) (sym w.offset);
      bytes = w.bytes;
      offset = w.offset;
    }

-- no more is left than was
pub no_longer : {P : List ℕ → Type 0} (before behind : Position) → Between P before behind → length behind.left ≤ length before.left
no_longer before behind w = omega (arith, ap length w.bytes, length-append w.front behind.left)
