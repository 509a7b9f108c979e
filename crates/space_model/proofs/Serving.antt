-- Lemmas: serving touched keys keeps a ledger in order, and when it is full.
use Rattle.std.proofs.Common.{◌≡◌, ◌≤◌, ◌⊎◌, inl, inr, ⊎_elim, ℕ, zero, suc, ◌+◌, ◌-◌, ◌*◌, Bool, true, false, cond, List, ◌++◌, map}
use Rattle.std.proofs.Common.{Option, Some, None, Ok, Err, refl, sym, ap, subst, arith}
use Rattle.std.specs.Prelude.{filter_map, ◌==◌}
use Rattle.std.proofs.Math.Nat.{mul-le-mul_left}
use Rattle.std.proofs.lemmas.Bool.{eqb-true}
use Rattle.space_model.specs.Least.{log2}
use Rattle.space_model.specs.Runs.{Run, run, place}
use Rattle.space_model.specs.Apart.{In, Pairs, Apart, IsRun}
use Rattle.space_model.specs.Ledger.{Standing, Packed, Pending, Ledger, packed_run, held, packed_of, with_pending, Placed, or_grown, place_growing}
use Rattle.space_model.specs.Ledger.{Touch, pending_at, served_at, kept_run, served_with, served, serve, exponent}
use Rattle.space_model.specs.LedgerOrder.{IsInOrder, IsFirstPlace, IsFull, Serves}
use Rattle.space_model.proofs.Members.{in_append, in_front, in_behind, pairs_append, pairs_front, pairs_behind, pairs_cross}
use Rattle.space_model.proofs.Minima.{first_and_rest}
use Rattle.space_model.proofs.Places.{place_is_run, place_is_apart}
use Rattle.space_model.proofs.Pendings.{keys_apart, run_with_pending, runs_apart, runs_kept}

-- ---- a place with more segments

placed_here : (size : ℕ) (runs : List Run) (exp s more u : ℕ) (at : Placed) → place size s runs exp ≡ Some u
    → Some (record { segments = s; unit = u }) ≡ Some at
    → IsFirstPlace size runs exp s more at
placed_here size runs exp s more u at is same =
    let here : record { segments = s; unit = u } ≡ at = cc same in
    subst (λ (a : Placed). IsFirstPlace size runs exp s more a) here
    (record { least = omega arith; most = omega arith; is_place = is; needed = λ f low high. absurd (omega (arith, low, high)) })

grown_last : (size : ℕ) (runs : List Run) (exp s : ℕ) (at : Placed) (o : Option ℕ) → place size s runs exp ≡ o → or_grown o s (λ grown. None) ≡ Some at
    → IsFirstPlace size runs exp s 0 at
grown_last size runs exp s at (Some u) is e = placed_here size runs exp s 0 u at is e
grown_last size runs exp s at None is e = absurd (cc e)

grown_step : (size : ℕ) (runs : List Run) (exp s more : ℕ) (at : Placed) (o : Option ℕ) → place size s runs exp ≡ o
    → or_grown o s (λ grown. place_growing size runs exp grown more) ≡ Some at
    → (place_growing size runs exp (s + 1) more ≡ Some at → IsFirstPlace size runs exp (s + 1) more at) → IsFirstPlace size runs exp s (suc more) at
grown_step size runs exp s more at (Some u) is e go = placed_here size runs exp s (suc more) u at is e
grown_step size runs exp s more at None is e go =
    let f = go e in
    let a = f.least in
    let b = f.most in
    record {
      least = omega (arith, a);
      most = omega (arith, b);
      is_place = f.is_place;
      needed = first_and_rest (λ t. place size t runs exp ≡ None) s at.segments is f.needed;
    }

pub grows : (size : ℕ) (runs : List Run) (exp s more : ℕ) (at : Placed) → place_growing size runs exp s more ≡ Some at → IsFirstPlace size runs exp s more at
grows size runs exp s zero at e = grown_last size runs exp s at (place size s runs exp) refl e
grows size runs exp s (suc more) at e = grown_step size runs exp s more at (place size s runs exp) refl e (λ next. grows size runs exp (s + 1) more at next)

full_last : (size : ℕ) (runs : List Run) (exp s : ℕ) (o : Option ℕ) → place size s runs exp ≡ o → or_grown o s (λ grown. None) ≡ None
    → place size s runs exp ≡ None
full_last size runs exp s (Some u) is e = absurd (cc e)
full_last size runs exp s None is e = is

full_step : (size : ℕ) (runs : List Run) (exp s more : ℕ) (o : Option ℕ) → or_grown o s (λ grown. place_growing size runs exp grown more) ≡ None
    → place_growing size runs exp (s + 1) more ≡ None
full_step size runs exp s more (Some u) e = absurd (cc e)
full_step size runs exp s more None e = e

-- where no segment may be added any more there is no place
pub full_at_last : (size : ℕ) (runs : List Run) (exp s more : ℕ) → place_growing size runs exp s more ≡ None → place size (s + more) runs exp ≡ None
full_at_last size runs exp s zero e = subst (λ (n : ℕ). place size n runs exp ≡ None) (omega arith) (full_last size runs exp s (place size s runs exp) refl e)
full_at_last size runs exp s (suc more) e =
    subst (λ (n : ℕ). place size n runs exp ≡ None) (omega arith)
    (full_at_last size runs exp (s + 1) more (full_step size runs exp s more (place size s runs exp) e))

-- ---- a pending block gets a run

pub swapped : (r q : Run) → Apart r q → Apart q r
swapped r q p = ⊎_elim (λ l. inr l) (λ l. inl l) p

pub wider : (top units more : ℕ) (r : Run) → units ≤ more → IsRun top units r → IsRun top more r
wider top units more r l is = let ends = is.ends in record { exp = is.exp; aligned = is.aligned; ends = omega (arith, ends, l) }

runs_from : (standing : List Standing) (ps : List Pending) (new : Pending) (r : Run)
    → In r (map (λ s. s.run) standing ++ filter_map packed_run (with_pending ps new))
    → (packed_run new ≡ Some r) ⊎ In r (map (λ s. s.run) standing ++ filter_map packed_run ps)
runs_from standing ps new r a = ⊎_elim
    (λ s. inr (in_front (map (λ t. t.run) standing) (filter_map packed_run ps) r s))
    (λ p. ⊎_elim (λ n. inl n) (λ old. inr (in_behind (map (λ t. t.run) standing) (filter_map packed_run ps) r old)) (run_with_pending ps new r p))
    (in_append (map (λ t. t.run) standing) (filter_map packed_run (with_pending ps new)) r a)

-- With one more segment or none a key gets a run that is apart from all held ones, or no run.
pub given_order : (size : ℕ) (l : Ledger) (segments : ℕ) (new : Pending) → IsInOrder size l → l.segments ≤ segments → segments ≤ l.max
    → ((r : Run) → packed_run new ≡ Some r → IsRun (log2 size) (size * segments) r) → ((r q : Run) → packed_run new ≡ Some r → In q (held l) → Apart r q)
    → IsInOrder size (record l { segments = segments; pending = with_pending l.pending new })
given_order size l segments new o least most fits apart =
    let filed = o.filed in
    let front = map (λ (s : Standing). s.run) l.standing in
    let old = filter_map packed_run l.pending in
    let room : size * l.segments ≤ size * segments = mul-le-mul_left size least in
    record {
      filed = omega (arith, filed, least);
      at_most = most;
      runs = λ r a. ⊎_elim (λ n. fits r n) (λ there. wider (log2 size) (size * l.segments) (size * segments) r room (o.runs r there))
          (runs_from l.standing l.pending new r a);
      apart = pairs_append Apart front (filter_map packed_run (with_pending l.pending new)) (pairs_front Apart front old o.apart)
          (runs_apart Apart l.pending new
          (record {
            before = λ r q e a. apart r q e (in_behind front old q a);
            behind = λ r q e a. swapped r q (apart r q e (in_behind front old q a));
          })
          (pairs_behind Apart front old o.apart))
          (λ s r a b. ⊎_elim (λ n. swapped r s (apart r s n (in_front front old s a))) (λ there. pairs_cross Apart front old o.apart s r a there)
          (run_with_pending l.pending new r b));
      pending = keys_apart l.pending new o.pending;
      standing = o.standing;
    }

-- a key whose pending block keeps its run
pub kept_order : (size : ℕ) (l : Ledger) (new : Pending) (q : Packed) → IsInOrder size l → packed_run new ≡ Some q.run → packed_of l.pending new.key ≡ Some q
    → IsInOrder size (record l { pending = with_pending l.pending new })
kept_order size l new q o same is =
    let runs = ap (λ (rs : List Run). map (λ (s : Standing). s.run) l.standing ++ rs) (runs_kept l.pending new q same is) in
    record {
      filed = o.filed;
      at_most = o.at_most;
      runs = λ r a. o.runs r (subst (λ (rs : List Run). In r rs) runs a);
      apart = subst (λ (rs : List Run). Pairs Apart rs) (sym runs) o.apart;
      pending = keys_apart l.pending new o.pending;
      standing = o.standing;
    }

-- ---- serving one touched key

kept_is : (o : Option Packed) (exp : ℕ) (r : Run) → kept_run o exp ≡ Some r → (q : Packed) × (o ≡ Some q) × (q.run ≡ r) × (r.exp ≡ exp)
kept_is None exp r e = absurd (cc e)
kept_is (Some q) exp r e = by_test q exp r (q.run.exp == exp) refl e
  where
    by_test : (q : Packed) (exp : ℕ) (r : Run) (b : Bool) → (q.run.exp == exp) ≡ b → cond b (Some q.run) None ≡ Some r
        → (p : Packed) × (Some q ≡ Some p) × (p.run ≡ r) × (r.exp ≡ exp)
    by_test q exp r true t e = let same : q.run ≡ r = cc e in (q, refl, same, subst (λ (x : Run). x.exp ≡ exp) same (eqb-true q.run.exp exp t))
    by_test q exp r false t e = absurd (cc e)

-- what serving a key with a new payload gives it
pub record IsServed (size : ℕ) (l new : Ledger) (key : List ℕ) (bytes : ℕ) : Type 0 where
  pub at : Run
  pub exp : at.exp ≡ exponent bytes
  pub segments : ℕ
  pub least : l.segments ≤ segments
  pub ledger : record l { segments = segments; pending = with_pending l.pending (pending_at key bytes at) } ≡ new
  pub order : IsInOrder size l → IsInOrder size new

served_place : (size : ℕ) (l new : Ledger) (key : List ℕ) (bytes : ℕ) (o : Option Placed)
    → place_growing size (held l) (exponent bytes) l.segments (l.max - l.segments) ≡ o → served_at l key bytes (exponent bytes) o ≡ Ok new
    → IsServed size l new key bytes
served_place size l new key bytes None is e = absurd (cc e)
served_place size l new key bytes (Some at) is e =
    let f = grows size (held l) (exponent bytes) l.segments (l.max - l.segments) at is in
    let least = f.least in
    let most = f.most in
    let r = run at.unit (exponent bytes) in
    let same : record l { segments = at.segments; pending = with_pending l.pending (pending_at key bytes r) } ≡ new = cc e in
    record {
      at = r;
      exp = refl;
      segments = at.segments;
      least = least;
      ledger = same;
      order = λ o. let below = o.at_most in
          subst (λ (m : Ledger). IsInOrder size m) same (given_order size l at.segments (pending_at key bytes r) o least (omega (arith, most, below))
          (λ q is_new. subst (λ (x : Run). IsRun (log2 size) (size * at.segments) x) (cc is_new)
          (place_is_run (log2 size) (size * at.segments) (held l) (exponent bytes) at.unit f.is_place))
          (λ q h is_new a. subst (λ (x : Run). Apart x h) (cc is_new)
          (place_is_apart (log2 size) (size * at.segments) (held l) (exponent bytes) at.unit h f.is_place a)));
    }

served_run : (size : ℕ) (l new : Ledger) (key : List ℕ) (bytes : ℕ) (o : Option Run) → kept_run (packed_of l.pending key) (exponent bytes) ≡ o
    → served_with size l key bytes (exponent bytes) o ≡ Ok new → IsServed size l new key bytes
served_run size l new key bytes None is e =
    served_place size l new key bytes (place_growing size (held l) (exponent bytes) l.segments (l.max - l.segments)) refl e
served_run size l new key bytes (Some r) is e =
    let k = kept_is (packed_of l.pending key) (exponent bytes) r is in
    let same : record l { segments = l.segments; pending = with_pending l.pending (pending_at key bytes r) } ≡ new = cc e in
    record {
      at = r;
      exp = k.3;
      segments = l.segments;
      least = omega arith;
      ledger = same;
      order = λ o. subst (λ (m : Ledger). IsInOrder size m) same (kept_order size l (pending_at key bytes r) k.0 o (ap Some (sym k.2)) k.1);
    }

pub served_block : (size : ℕ) (l new : Ledger) (key : List ℕ) (bytes : ℕ) → served size l key (Some bytes) ≡ Ok new → IsServed size l new key bytes
served_block size l new key bytes e = served_run size l new key bytes (kept_run (packed_of l.pending key) (exponent bytes)) refl e

serves_touch : (size : ℕ) (l new : Ledger) (key : List ℕ) (bytes : Option ℕ) → served size l key bytes ≡ Ok new → IsInOrder size l → IsInOrder size new
serves_touch size l new key None e o =
    let none : Pending = record { key = key; packed = None } in
    let same : record l { pending = with_pending l.pending none } ≡ new = cc e in
    subst (λ (m : Ledger). IsInOrder size m) same
    (given_order size l l.segments none o (omega arith) o.at_most (λ r is. absurd (cc is)) (λ r q is a. absurd (cc is)))
serves_touch size l new key (Some bytes) e o = (served_block size l new key bytes e).order o

-- a touched key that is served leaves a ledger in order
pub serve_order : (size : ℕ) (l new : Ledger) (t : Touch) → serve size l t ≡ Ok new → IsInOrder size l → IsInOrder size new
serve_order size l new t e o = serves_touch size l new t.key t.bytes e o

serves_only : (size : ℕ) (l new : Ledger) (key : List ℕ) (bytes : Option ℕ) → served size l key bytes ≡ Ok new → Serves l new
serves_only size l new key None e =
    let same : record l { pending = with_pending l.pending (record { key = key; packed = None }) } ≡ new = cc e in
    subst (λ (m : Ledger). Serves l m) same (record { max = refl; filed = refl; standing = refl; segments = omega arith })
serves_only size l new key (Some bytes) e =
    let s = served_block size l new key bytes e in
    subst (λ (m : Ledger). Serves l m) s.ledger (record { max = refl; filed = refl; standing = refl; segments = s.least })

pub serve_only : (size : ℕ) (l new : Ledger) (t : Touch) → serve size l t ≡ Ok new → Serves l new
serve_only size l new t e = serves_only size l new t.key t.bytes e

-- ---- full

full_with : (size : ℕ) (l : Ledger) (key : List ℕ) (bytes exp : ℕ) (o : Option Placed)
    → place_growing size (held l) (exponent bytes) l.segments (l.max - l.segments) ≡ o → served_at l key bytes (exponent bytes) o ≡ Err exp
    → (exp ≡ exponent bytes) × (place size (l.segments + (l.max - l.segments)) (held l) exp ≡ None)
full_with size l key bytes exp (Some at) is e = absurd (cc e)
full_with size l key bytes exp None is e =
    let same : exponent bytes ≡ exp = cc e in (
      sym same,
      subst (λ (x : ℕ). place size (l.segments + (l.max - l.segments)) (held l) x ≡ None) same
          (full_at_last size (held l) (exponent bytes) l.segments (l.max - l.segments) is),
    )

full_run : (size : ℕ) (l : Ledger) (key : List ℕ) (bytes exp : ℕ) (o : Option Run) → served_with size l key bytes (exponent bytes) o ≡ Err exp
    → (exp ≡ exponent bytes) × (place size (l.segments + (l.max - l.segments)) (held l) exp ≡ None)
full_run size l key bytes exp (Some r) e = absurd (cc e)
full_run size l key bytes exp None e = full_with size l key bytes exp (place_growing size (held l) (exponent bytes) l.segments (l.max - l.segments)) refl e

pub full_touch : (size : ℕ) (l : Ledger) (key : List ℕ) (bytes : Option ℕ) (exp : ℕ) → l.segments ≤ l.max → served size l key bytes ≡ Err exp
    → IsFull size l bytes exp
full_touch size l key None exp fits e = absurd (cc e)
full_touch size l key (Some bytes) exp fits e =
    let f = full_run size l key bytes exp (kept_run (packed_of l.pending key) (exponent bytes)) e in
    let all : l.segments + (l.max - l.segments) ≡ l.max = omega (arith, fits) in
    record { payload = bytes; bytes_is = refl; exp_is = f.0; no_place = subst (λ (n : ℕ). place size n (held l) exp ≡ None) all f.1 }

pub serve_full : (size : ℕ) (l : Ledger) (t : Touch) (exp : ℕ) → l.segments ≤ l.max → serve size l t ≡ Err exp → IsFull size l t.bytes exp
serve_full size l t exp fits e = full_touch size l t.key t.bytes exp fits e
