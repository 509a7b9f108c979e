-- Lemmas: where a run is placed, and that there is no place only where no run is free.
use Rattle.std.proofs.Common.{◌≡◌, ◌≤◌, ◌<◌, inl, inr, ⊎_elim, ℕ, zero, suc, ◌+◌, ◌-◌, ◌*◌, ◌/◌, ◌%◌, ◌^◌, Bool, true, false, List, [], ◌∷◌, Option}
use Rattle.std.proofs.Common.{Some, None, refl, sym, ap, ◌∙◌, subst, arith}
use Rattle.std.specs.Prelude.{not, nat_lt}
use Rattle.std.specs.List.{list_any, list_all, range_with_len}
use Rattle.std.proofs.Math.Nat.{mul-le-mul_right}
use Rattle.std.proofs.Math.Pow.{pow_mono}
use Rattle.std.proofs.lemmas.Nat.{pow_pos, le-div, div-add-mod'}
use Rattle.std.proofs.lemmas.Bool.{cases_Bool, cases_lt, cases_order, both_ways, and_parts, and_from, and_cases, and_left, and_right}
use Rattle.std.proofs.lemmas.Bool.{or_from, le-leb, le-ltb, not-false, not_from_false, false_from_ne_true}
use Rattle.space_model.specs.Runs.{Run, run, end_of, meets, is_free, run_around, is_maximal, or_behind, lowest, or_larger, smallest, front_of_smallest}
use Rattle.space_model.proofs.Minima.{first_and_rest}
use Rattle.space_model.proofs.FreeRuns.{free_run, aligned_times, multiple}
use Rattle.space_model.specs.Apart.{In, Apart, IsRun, HasRoom, Precedes, IsPlace}

-- ---- the lowest of an exponent

pub record At (largest units : ℕ) (held : List Run) (exp from runs u : ℕ) : Type 0 where
  pub turns : ℕ
  pub below : turns < runs
  pub unit : u ≡ from + turns * 2 ^ exp
  pub maximal : is_maximal largest units held (run u exp) ≡ true
  pub lower : (j : ℕ) → j < turns → is_maximal largest units held (run (from + j * 2 ^ exp) exp) ≡ false

some_is : (a b : ℕ) → Some a ≡ Some b → a ≡ b
some_is a b e = cc e

-- what holds of each turn behind the first, and of the first, holds of each
turns_from : (P : ℕ → Type 0) (from size n : ℕ) → P from → ((j : ℕ) → j < n → P ((from + size) + j * size)) → (j : ℕ) → j < suc n → P (from + j * size)
turns_from P from size n first rest zero l = subst P (omega arith) first
turns_from P from size n first rest (suc j) l = subst P (omega arith) (rest j (omega arith))

lowest_step : (top units : ℕ) (held : List Run) (e n from u : ℕ) (t : Bool) → is_maximal top units held (run from e) ≡ t
    → or_behind t from (2 ^ e) (λ behind. lowest top units held e behind n) ≡ Some u
    → (lowest top units held e (from + 2 ^ e) n ≡ Some u → At top units held e (from + 2 ^ e) n u) → At top units held e from (suc n) u
lowest_step top units held e n from u true test is go =
    let same = some_is from u is in record {
      turns = 0;
      below = omega arith;
      unit = omega (arith, same);
      maximal = subst (λ x. is_maximal top units held (run x e) ≡ true) same test;
      lower = λ j l. absurd (omega (arith, l));
    }
lowest_step top units held e n from u false test is go =
    let a = go is in
    let at = a.unit in
    let b = a.below in
    record {
      turns = suc a.turns;
      below = omega (arith, b);
      unit = omega (arith, at);
      maximal = a.maximal;
      lower = turns_from (λ x. is_maximal top units held (run x e) ≡ false) from (2 ^ e) a.turns test a.lower;
    }

lowest_at : (top units : ℕ) (held : List Run) (e from n u : ℕ) → lowest top units held e from n ≡ Some u → At top units held e from n u
lowest_at top units held e from zero u is = absurd (cc is)
lowest_at top units held e from (suc n) u is =
    lowest_step top units held e n from u (is_maximal top units held (run from e)) refl is (λ more. lowest_at top units held e (from + 2 ^ e) n u more)

none_step : (top units : ℕ) (held : List Run) (e n from : ℕ) (t : Bool) → is_maximal top units held (run from e) ≡ t
    → or_behind t from (2 ^ e) (λ behind. lowest top units held e behind n) ≡ None
    → (lowest top units held e (from + 2 ^ e) n ≡ None → (j : ℕ) → j < n → is_maximal top units held (run ((from + 2 ^ e) + j * 2 ^ e) e) ≡ false)
    → (j : ℕ) → j < suc n → is_maximal top units held (run (from + j * 2 ^ e) e) ≡ false
none_step top units held e n from true test is go = absurd (cc is)
none_step top units held e n from false test is go = turns_from (λ x. is_maximal top units held (run x e) ≡ false) from (2 ^ e) n test (go is)

lowest_none : (top units : ℕ) (held : List Run) (e from n : ℕ) → lowest top units held e from n ≡ None
    → (j : ℕ) → j < n → is_maximal top units held (run (from + j * 2 ^ e) e) ≡ false
lowest_none top units held e from zero is j l = absurd (omega (arith, l))
lowest_none top units held e from (suc n) is j l =
    none_step top units held e n from (is_maximal top units held (run from e)) refl is (λ more. lowest_none top units held e (from + 2 ^ e) n more) j l

-- an aligned run in the units is among the runs of its exponent
among : (r : Run) (units : ℕ) → r.unit % 2 ^ r.exp ≡ 0 → end_of r ≤ units → r.unit / 2 ^ r.exp < units / 2 ^ r.exp
among r units aligned ends =
    let whole = multiple r.unit r.exp aligned in
    let more : suc (r.unit / 2 ^ r.exp) * 2 ^ r.exp ≤ units = omega (arith, whole, ends) in
    le-div (suc (r.unit / 2 ^ r.exp)) units (2 ^ r.exp) (pow_pos r.exp) more

-- where no run of an exponent is maximal from unit 0 on, none is
none_of_exponent : (top units : ℕ) (held : List Run) (r : Run) → lowest top units held r.exp 0 (units / 2 ^ r.exp) ≡ None → IsRun top units r
    → is_maximal top units held r ≡ true → ⊥
none_of_exponent top units held r none is maximal =
    let whole = multiple r.unit r.exp is.aligned in
    let fails = lowest_none top units held r.exp 0 (units / 2 ^ r.exp) none (r.unit / 2 ^ r.exp) (among r units is.aligned is.ends) in
    let here : 0 + r.unit / 2 ^ r.exp * 2 ^ r.exp ≡ r.unit = omega (arith, whole) in
    both_ways _ (subst (λ u. is_maximal top units held (run u r.exp) ≡ false) here fails) maximal

-- ---- the smallest exponent

pub record Larger (largest units : ℕ) (held : List Run) (exp n u : ℕ) : Type 0 where
  pub size : ℕ
  pub least : exp ≤ size
  pub most : size < exp + n
  pub at : At largest units held size 0 (units / 2 ^ size) u
  pub smaller : (d : ℕ) → exp ≤ d → d < size → lowest largest units held d 0 (units / 2 ^ d) ≡ None

smallest_step : (top units : ℕ) (held : List Run) (n e u : ℕ) (o : Option ℕ) → lowest top units held e 0 (units / 2 ^ e) ≡ o
    → or_larger o e (λ larger. smallest top units held larger n) ≡ Some u → (smallest top units held (e + 1) n ≡ Some u → Larger top units held (e + 1) n u)
    → Larger top units held e (suc n) u
smallest_step top units held n e u (Some x) low is go = record {
  size = e;
  least = omega arith;
  most = omega arith;
  at = lowest_at top units held e 0 (units / 2 ^ e) u (low ∙ is);
  smaller = λ d a b. absurd (omega (arith, a, b));
}
smallest_step top units held n e u None low is go =
    let l = go is in
    let a = l.least in
    let b = l.most in
    record {
      size = l.size;
      least = omega (arith, a);
      most = omega (arith, b);
      at = l.at;
      smaller = first_and_rest (λ d. lowest top units held d 0 (units / 2 ^ d) ≡ None) e l.size low l.smaller;
    }

smallest_at : (top units : ℕ) (held : List Run) (e n u : ℕ) → smallest top units held e n ≡ Some u → Larger top units held e n u
smallest_at top units held e zero u is = absurd (cc is)
smallest_at top units held e (suc n) u is =
    smallest_step top units held n e u (lowest top units held e 0 (units / 2 ^ e)) refl is (λ more. smallest_at top units held (e + 1) n u more)

all_none_step : (top units : ℕ) (held : List Run) (n e : ℕ) (o : Option ℕ) → lowest top units held e 0 (units / 2 ^ e) ≡ o
    → or_larger o e (λ larger. smallest top units held larger n) ≡ None
    → (smallest top units held (e + 1) n ≡ None → (d : ℕ) → e + 1 ≤ d → d < (e + 1) + n → lowest top units held d 0 (units / 2 ^ d) ≡ None)
    → (d : ℕ) → e ≤ d → d < e + suc n → lowest top units held d 0 (units / 2 ^ d) ≡ None
all_none_step top units held n e (Some x) low is go d a b = absurd (cc is)
all_none_step top units held n e None low is go d a b =
    first_and_rest (λ d. lowest top units held d 0 (units / 2 ^ d) ≡ None) e (e + suc n) low (λ c l m. go is c l (omega (arith, m))) d a b

all_none : (top units : ℕ) (held : List Run) (e n : ℕ) → smallest top units held e n ≡ None
    → (d : ℕ) → e ≤ d → d < e + n → lowest top units held d 0 (units / 2 ^ d) ≡ None
all_none top units held e zero is d a b = absurd (omega (arith, a, b))
all_none top units held e (suc n) is d a b =
    all_none_step top units held n e (lowest top units held e 0 (units / 2 ^ e)) refl is (λ more. all_none top units held (e + 1) n more) d a b

-- ---- the place

precedes : (top units : ℕ) (held : List Run) (exp u : ℕ) → (l : Larger top units held exp (suc top - exp) u) → (r : Run) → HasRoom top units held exp r
    → Precedes (run u l.size) r
precedes top units held exp u l r room = ⊎_elim
    (λ (same : r.exp ≡ l.size). ⊎_elim
    (λ (lower : r.unit < u).
    let at = l.at.unit in
    let whole = multiple r.unit r.exp room.is_run.aligned in
    let alike : r.unit / 2 ^ r.exp * 2 ^ r.exp ≡ r.unit / 2 ^ r.exp * 2 ^ l.size = ap (λ e. r.unit / 2 ^ r.exp * 2 ^ e) same in
    let turn : r.unit / 2 ^ r.exp < l.at.turns = fewer (r.unit / 2 ^ r.exp) l.at.turns (2 ^ l.size) (omega (arith, at, whole, alike, lower)) in
    let here : 0 + r.unit / 2 ^ r.exp * 2 ^ l.size ≡ r.unit = omega (arith, whole, alike) in
    let fails = subst (λ v. is_maximal top units held (run v l.size) ≡ false) here (l.at.lower (r.unit / 2 ^ r.exp) turn) in
    absurd (both_ways _ (subst (λ e. is_maximal top units held (run r.unit e) ≡ false) (sym same) fails) room.maximal))
    (λ (high : u ≤ r.unit). inr (sym same, high)) (cases_lt r.unit u))
    (λ apart. ⊎_elim
    (λ (less : r.exp < l.size). absurd (none_of_exponent top units held r (l.smaller r.exp room.enough less) room.is_run room.maximal))
    (λ (more : l.size < r.exp). inl more) apart)
    (cases_order r.exp l.size)
  where
    fewer : (a b n : ℕ) → a * n < b * n → a < b
    fewer a b n l = ⊎_elim (λ (x : a < b). x) (λ (x : b ≤ a). absurd (let m : b * n ≤ a * n = mul-le-mul_right n x in omega (arith, l, m))) (cases_lt a b)

too_few : (top units : ℕ) (held : List Run) (exp u n : ℕ) → n ≡ 0 → smallest top units held exp n ≡ Some u → ⊥
too_few top units held exp u zero e is = cc is
too_few top units held exp u (suc n) e is = omega (arith, e)

-- a run that has a place is at most of the largest exponent
pub place_fits : (top units : ℕ) (held : List Run) (exp u : ℕ) → front_of_smallest top units held exp ≡ Some u → exp ≤ top
place_fits top units held exp u is = ⊎_elim
    (λ (l : exp < suc top). omega (arith, l))
    (λ (l : suc top ≤ exp). absurd (too_few top units held exp u (suc top - exp) (omega (arith, l)) is))
    (cases_lt exp (suc top))

pub place_is : (top units : ℕ) (held : List Run) (exp u : ℕ) → front_of_smallest top units held exp ≡ Some u → IsPlace top units held exp u
place_is top units held exp u is =
    let fits = place_fits top units held exp u is in
    let l = smallest_at top units held exp (suc top - exp) u is in
    let least = l.least in
    let most = l.most in
    let at = l.at.unit in
    let free = free_run units held (run u l.size) (and_parts _ _ l.at.maximal).0 in
    record {
      size = l.size;
      has_room = record {
        enough = least;
        is_run = record {
          exp = omega (arith, most, fits);
          aligned = aligned_times u l.at.turns l.size l.size (omega arith) (omega (arith, at));
          ends = free.0;
        };
        maximal = l.at.maximal;
      };
      first = precedes top units held exp u l;
    }

-- A place is aligned, lies in the units, and meets no held run.
pub place_is_run : (top units : ℕ) (held : List Run) (exp u : ℕ) → front_of_smallest top units held exp ≡ Some u → IsRun top units (run u exp)
place_is_run top units held exp u is =
    let fits = place_fits top units held exp u is in
    let l = smallest_at top units held exp (suc top - exp) u is in
    let least = l.least in
    let at = l.at.unit in
    let free = free_run units held (run u l.size) (and_parts _ _ l.at.maximal).0 in
    let more : 2 ^ exp ≤ 2 ^ l.size = pow_mono least in
    let ends : u + 2 ^ l.size ≤ units = free.0 in
    record { exp = fits; aligned = aligned_times u l.at.turns exp l.size least (omega (arith, at)); ends = omega (arith, more, ends) }

pub place_is_apart : (top units : ℕ) (held : List Run) (exp u : ℕ) (q : Run) → front_of_smallest top units held exp ≡ Some u → In q held
    → Apart (run u exp) q
place_is_apart top units held exp u q is a =
    let l = smallest_at top units held exp (suc top - exp) u is in
    let least = l.least in
    let free = free_run units held (run u l.size) (and_parts _ _ l.at.maximal).0 in
    let more : 2 ^ exp ≤ 2 ^ l.size = pow_mono least in
    ⊎_elim (λ (x : u + 2 ^ l.size ≤ q.unit). inl (omega (arith, x, more))) (λ x. inr x) (free.1 q a)

-- ---- no place

not_all : (test : ℕ → Bool) (from n : ℕ) → list_all (λ e. not (test e)) (range_with_len from n) ≡ false
    → (e : ℕ) × (from ≤ e) × (e < from + n) × (test e ≡ true)
not_all test from zero is = absurd (cc is)
not_all test from (suc n) is = ⊎_elim
    (λ here. (from, omega arith, omega arith, not-false _ here))
    (λ later. let f = not_all test (from + 1) n later in let a = f.1 in let b = f.2 in (f.0, omega (arith, a), omega (arith, b), f.3))
    (and_cases (not (test from)) (list_all (λ e. not (test e)) (range_with_len (from + 1) n)) is)

pub record InMaximal (top units : ℕ) (held : List Run) (exp : ℕ) : Type 0 where
  pub around : Run
  pub enough : exp ≤ around.exp
  pub is_run : IsRun top units around
  pub maximal : is_maximal top units held around ≡ true

is_run_around : (top units : ℕ) (held : List Run) (u e : ℕ) → e ≤ top → is_free units held (run_around u e) ≡ true → IsRun top units (run_around u e)
is_run_around top units held u e fits free =
    let whole = div-add-mod' u (2 ^ e) in
    let back : u - u % 2 ^ e ≡ u / 2 ^ e * 2 ^ e = omega (arith, whole) in
    record { exp = fits; aligned = aligned_times (u - u % 2 ^ e) (u / 2 ^ e) e e (omega arith) back; ends = (free_run units held (run_around u e) free).0 }

-- a free run lies in a maximal one
maximal_around : (top units : ℕ) (held : List Run) (n : ℕ) (r : Run) → top ≤ r.exp + n → IsRun top units r → is_free units held r ≡ true
    → InMaximal top units held r.exp
maximal_around top units held zero r bound is free =
    let none : top - r.exp ≡ 0 = omega (arith, bound) in
    let tested : list_all (λ e. not (is_free units held (run_around r.unit e))) (range_with_len (r.exp + 1) (top - r.exp)) ≡ true =
    ap (λ m. list_all (λ e. not (is_free units held (run_around r.unit e))) (range_with_len (r.exp + 1) m)) none in
    record { around = r; enough = omega arith; is_run = is; maximal = and_from _ _ free tested }
maximal_around top units held (suc n) r bound is free = ⊎_elim
    (λ all. record { around = r; enough = omega arith; is_run = is; maximal = and_from _ _ free all })
    (λ some.
    let f = not_all (λ e. is_free units held (run_around r.unit e)) (r.exp + 1) (top - r.exp) some in
    let low = f.1 in
    let high = f.2 in
    let fits = is.exp in
    let m = maximal_around top units held n (run_around r.unit f.0) (omega (arith, low, bound))
    (is_run_around top units held r.unit f.0 (omega (arith, high, fits)) f.3) f.3 in
    let enough = m.enough in
    record { around = m.around; enough = omega (arith, low, enough); is_run = m.is_run; maximal = m.maximal })
    (cases_Bool (list_all (λ e. not (is_free units held (run_around r.unit e))) (range_with_len (r.exp + 1) (top - r.exp))))

-- where there is no place no run of this size or a larger one is free
pub no_place : (top units : ℕ) (held : List Run) (exp : ℕ) (r : Run) → front_of_smallest top units held exp ≡ None → exp ≤ r.exp → IsRun top units r
    → is_free units held r ≡ false
no_place top units held exp r none enough is = false_from_ne_true _ (λ free.
    let m = maximal_around top units held top r (omega arith) is free in
    let more = m.enough in
    let fits = m.is_run.exp in
    none_of_exponent top units held m.around
    (all_none top units held exp (suc top - exp) none m.around.exp (omega (arith, more, enough)) (omega (arith, more, enough, fits))) m.is_run m.maximal)

-- and where there is one, one is free
pub place_is_free : (top units : ℕ) (held : List Run) (exp u : ℕ) → front_of_smallest top units held exp ≡ Some u → is_free units held (run u exp) ≡ true
place_is_free top units held exp u is =
    and_from _ _ (le-leb (end_of (run u exp)) units (place_is_run top units held exp u is).ends)
    (not_from_false _ (none_of (run u exp) held (λ q a. meets-apart (run u exp) q (place_is_apart top units held exp u q is a))))
  where
    meets-apart : (r q : Run) → Apart r q → meets r q ≡ false
    meets-apart r q apart = ⊎_elim
        (λ (l : end_of r ≤ q.unit). and_right (nat_lt r.unit (end_of q)) (nat_lt q.unit (end_of r)) (le-ltb q.unit (end_of r) l))
        (λ (l : end_of q ≤ r.unit). and_left (nat_lt r.unit (end_of q)) (nat_lt q.unit (end_of r)) (le-ltb r.unit (end_of q) l)) apart

    none_of : (r : Run) (runs : List Run) → ((q : Run) → In q runs → meets r q ≡ false) → list_any (meets r) runs ≡ false
    none_of r [] f = refl
    none_of r (q ∷ qs) f = or_from _ _ (f q (inl refl)) (none_of r qs (λ x a. f x (inr a)))
