-- Lemmas: a command keeps a ledger in order, and when it is full.
use Rattle.std.proofs.Common.{◌≡◌, ◌≤◌, ℕ, ◌*◌, List, [], ◌∷◌}
use Rattle.std.proofs.Common.{Result, Ok, Err, refl, ap, ◌∙◌, subst, arith}
use Rattle.std.proofs.Math.Nat.{mul-le-mul_left}
use Rattle.space_model.specs.Least.{log2}
use Rattle.space_model.specs.Ledger.{Ledger}
use Rattle.space_model.specs.Ledger.{Touch, serve, after_served, serve_all, or_before}
use Rattle.space_model.specs.Ledger.{after_command, made}
use Rattle.space_model.specs.LedgerOrder.{IsFullAt, IsInOrder, Serves}
use Rattle.space_model.proofs.Serving.{wider, serve_order, serve_only, serve_full}

all_step : (size : ℕ) (t : Touch) (ts : List Touch) (l new : Ledger) (r : Result Ledger ℕ) → serve size l t ≡ r
    → after_served r (λ next. serve_all size next ts) ≡ Ok new → (mid : Ledger) × (serve size l t ≡ Ok mid) × (serve_all size mid ts ≡ Ok new)
all_step size t ts l new (Ok mid) is e = (mid, is, e)
all_step size t ts l new (Err exp) is e = absurd (cc e)

pub all_order : (size : ℕ) (ts : List Touch) (l new : Ledger) → serve_all size l ts ≡ Ok new → IsInOrder size l → IsInOrder size new
all_order size [] l new e o = let same : l ≡ new = cc e in subst (λ (m : Ledger). IsInOrder size m) same o
all_order size (t ∷ ts) l new e o =
    let s = all_step size t ts l new (serve size l t) refl e in
    all_order size ts s.0 new s.2 (serve_order size l s.0 t s.1 o)

pub all_only : (size : ℕ) (ts : List Touch) (l new : Ledger) → serve_all size l ts ≡ Ok new → Serves l new
all_only size [] l new e =
    let same : l ≡ new = cc e in
    subst (λ (m : Ledger). Serves l m) same (record { max = refl; filed = refl; standing = refl; segments = omega arith })
all_only size (t ∷ ts) l new e =
    let s = all_step size t ts l new (serve size l t) refl e in
    let first = serve_only size l s.0 t s.1 in
    let rest = all_only size ts s.0 new s.2 in
    let a = first.segments in
    let b = rest.segments in
    record { max = rest.max ∙ first.max; filed = rest.filed ∙ first.filed; standing = rest.standing ∙ first.standing; segments = omega (arith, a, b) }

or_before_order : (size : ℕ) (ts : List Touch) (l : Ledger) (r : Result Ledger ℕ) → serve_all size l ts ≡ r → IsInOrder size l → IsInOrder size (or_before l r)
or_before_order size ts l (Ok new) e o = all_order size ts l new e o
or_before_order size ts l (Err exp) e o =
    let filed = o.filed in
    let most = o.at_most in
    let room : size * l.segments ≤ size * l.max = mul-le-mul_left size most in
    record {
      filed = omega (arith, filed, most);
      at_most = omega arith;
      runs = λ r a. wider (log2 size) (size * l.segments) (size * l.max) r room (o.runs r a);
      apart = o.apart;
      pending = o.pending;
      standing = o.standing;
    }

-- whether it is full or not
pub command_order : (size : ℕ) (ts : List Touch) (l : Ledger) → IsInOrder size l → IsInOrder size (after_command size l ts)
command_order size ts l o = or_before_order size ts l (serve_all size l ts) refl o

pub made_order : (size max : ℕ) → IsInOrder size (made max)
made_order size max = record { filed = omega arith; at_most = omega arith; runs = λ r a. absurd a; apart = tt; pending = tt; standing = tt }

-- where a command is full one of its keys is, after those before it were served
full_first : (size : ℕ) (t : Touch) (ts : List Touch) (l : Ledger) (exp : ℕ) (r : Result Ledger ℕ) → serve size l t ≡ r → IsInOrder size l
    → ((mid : Ledger) → serve size l t ≡ Ok mid → serve_all size mid ts ≡ Err exp → IsFullAt size mid ts exp)
    → after_served r (λ next. serve_all size next ts) ≡ Err exp → IsFullAt size l (t ∷ ts) exp
full_first size t ts l exp (Err e) is o later full =
    let same : e ≡ exp = cc full in
    record { front = []; touch = t; behind = ts; parts = refl; before = l; served = refl; full = serve_full size l t exp o.at_most (is ∙ ap Err same) }
full_first size t ts l exp (Ok mid) is o later full =
    let f = later mid is full in
    record {
      front = t ∷ f.front;
      touch = f.touch;
      behind = f.behind;
      parts = ap (λ us. t ∷ us) f.parts;
      before = f.before;
      served = ap (λ (q : Result Ledger ℕ). after_served q (λ next. serve_all size next f.front)) is ∙ f.served;
      full = f.full;
    }

pub full_at : (size : ℕ) (ts : List Touch) (l : Ledger) (exp : ℕ) → IsInOrder size l → serve_all size l ts ≡ Err exp → IsFullAt size l ts exp
full_at size [] l exp o e = absurd (cc e)
full_at size (t ∷ ts) l exp o e =
    full_first size t ts l exp (serve size l t) refl o (λ mid is rest. full_at size ts mid exp (serve_order size l mid t is o) rest) e
