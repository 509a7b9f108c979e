-- The taken runs that marks show.
use Rattle.std.proofs.Common.{◌≡◌, ◌≤◌, ◌<◌, ◌≢◌, inl, inr, ⊎_elim, ℕ, zero, suc, ◌+◌, true, false, cond, List, [], ◌∷◌, length, Option, Some, None}
use Rattle.std.proofs.Common.{refl, sym, ap, ◌∙◌, subst, arith}
use Rattle.std.specs.Prelude.{not, ◌&&◌, ◌==◌, nat_lt}
use Rattle.space_model.specs.Runs.{Run, run}
use Rattle.space_model.specs.Apart.{In, Pairs}
use Rattle.buddy_space.specs.declared.marks.Mark.{Mark}
use Rattle.buddy_space.specs.SpaceState.{Before, with_run, is_same, without}
use Rattle.buddy_space.specs.Marks.{mark_at, begun, with_begun, taken_from}

abbrev pub begun_at : List Mark → ℕ → Option ℕ
begun_at marks unit = begun (mark_at marks unit)

lt_true : (a b : ℕ) → a < b → nat_lt a b ≡ true
lt_true a b l = grind arith

lt_false : (a b : ℕ) → b ≤ a → nat_lt a b ≡ false
lt_false a b l = grind arith

eq_self : (a : ℕ) → (a == a) ≡ true
eq_self a = grind arith

eq_false : (a b : ℕ) → a ≢ b → (a == b) ≡ false
eq_false a b n = grind arith

pub same_self : (r : Run) → is_same r r ≡ true
same_self r = ap (λ b. b && (r.exp == r.exp)) (eq_self r.unit) ∙ eq_self r.exp

pub other_unit : (r q : Run) → r.unit ≢ q.unit → is_same r q ≡ false
other_unit r q n = ap (λ b. b && (r.exp == q.exp)) (eq_false r.unit q.unit n)

-- ---- where the runs are

later : (n : ℕ) (o : Option ℕ) (rs : List Run) (q : Run) → In q (with_begun n o rs) → (In q rs → suc n ≤ q.unit) → n ≤ q.unit
later n None rs q a rest = let l = rest a in omega (arith, l)
later n (Some e) rs q a rest = ⊎_elim (λ here. let u = ap (λ (r : Run). r.unit) here in omega (arith, u)) (λ b. let l = rest b in omega (arith, l)) a

not_before : (n : ℕ) (xs : List Mark) (q : Run) → In q (taken_from n xs) → n ≤ q.unit
not_before n [] q a = absurd a
not_before n (x ∷ xs) q a = later n (begun x) (taken_from (suc n) xs) q a (not_before (suc n) xs q)

ascends : (n : ℕ) (o : Option ℕ) (rs : List Run) → ((q : Run) → In q rs → suc n ≤ q.unit) → Pairs Before rs → Pairs Before (with_begun n o rs)
ascends n None rs behind p = p
ascends n (Some e) rs behind p = (λ q a. behind q a, p)

pub ascending : (n : ℕ) (xs : List Mark) → Pairs Before (taken_from n xs)
ascending n [] = tt
ascending n (x ∷ xs) = ascends n (begun x) (taken_from (suc n) xs) (not_before (suc n) xs) (ascending (suc n) xs)

-- a taken run is marked at its first unit
pub record IsBegun (n : ℕ) (xs : List Mark) (r : Run) : Type 0 where
  pub place : ℕ
  pub unit : r.unit ≡ n + place
  pub begins : begun_at xs place ≡ Some r.exp

begun_first : (n : ℕ) (x : Mark) (xs : List Mark) (o : Option ℕ) (r : Run) → begun x ≡ o → In r (with_begun n o (taken_from (suc n) xs))
    → (In r (taken_from (suc n) xs) → IsBegun (suc n) xs r) → IsBegun n (x ∷ xs) r
begun_first n x xs None r is a rest =
    let b = rest a in let u = b.unit in record { place = suc b.place; unit = omega (arith, u); begins = b.begins }
begun_first n x xs (Some e) r is a rest = ⊎_elim
    (λ here. record {
      place = 0;
      unit = let u = ap (λ (r : Run). r.unit) here in omega (arith, u);
      begins = is ∙ ap (λ (r : Run). Some r.exp) here;
    })
    (λ later. let b = rest later in let u = b.unit in record { place = suc b.place; unit = omega (arith, u); begins = b.begins }) a

begun_in : (n : ℕ) (xs : List Mark) (r : Run) → In r (taken_from n xs) → IsBegun n xs r
begun_in n [] r a = absurd a
begun_in n (x ∷ xs) r a = begun_first n x xs (begun x) r refl a (begun_in (suc n) xs r)

pub begins_at : (xs : List Mark) (r : Run) → In r (taken_from 0 xs) → begun_at xs r.unit ≡ Some r.exp
begins_at xs r a = let b = begun_in 0 xs r a in let u = b.unit in
    let same : b.place ≡ r.unit = omega (arith, u) in subst (λ k. begun_at xs k ≡ Some r.exp) same b.begins

-- and where a mark says so a run is taken
in_later : (n : ℕ) (o : Option ℕ) (rs : List Run) (q : Run) → In q rs → In q (with_begun n o rs)
in_later n None rs q a = a
in_later n (Some e) rs q a = inr a

in_taken : (n : ℕ) (xs : List Mark) (k e m : ℕ) → m ≡ n + k → begun_at xs k ≡ Some e → In (run m e) (taken_from n xs)
in_taken n [] k e m at is = absurd (cc is)
in_taken n (x ∷ xs) zero e m at is =
    let same : n ≡ m = omega (arith, at) in
    subst (λ (o : Option ℕ). In (run m e) (with_begun n o (taken_from (suc n) xs))) (sym is) (inl (ap (λ u. run u e) same))
in_taken n (x ∷ xs) (suc k) e m at is =
    in_later n (begun x) (taken_from (suc n) xs) (run m e) (in_taken (suc n) xs k e m (omega (arith, at)) is)

pub is_taken : (xs : List Mark) (unit exp : ℕ) → begun_at xs unit ≡ Some exp → In (run unit exp) (taken_from 0 xs)
is_taken xs unit exp is = in_taken 0 xs unit exp unit (omega arith) is

-- ---- marks that change

abbrev AgreeBut : List Mark → List Mark → ℕ → Type 0
AgreeBut xs ys unit = (k : ℕ) → k ≢ unit → begun_at xs k ≡ begun_at ys k

pub taken_same : (n : ℕ) (xs ys : List Mark) → length xs ≡ length ys → ((k : ℕ) → begun_at xs k ≡ begun_at ys k) → taken_from n xs ≡ taken_from n ys
taken_same n [] [] long same = refl
taken_same n [] (y ∷ ys) long same = absurd (omega (arith, long))
taken_same n (x ∷ xs) [] long same = absurd (omega (arith, long))
taken_same n (x ∷ xs) (y ∷ ys) long same =
    ap (λ o. with_begun n o (taken_from (suc n) xs)) (same 0)
    ∙ ap (λ rs. with_begun n (begun y) rs) (taken_same (suc n) xs ys (omega (arith, long)) (λ k. same (suc k)))

pub first_place : (r : Run) (rs : List Run) → ((q : Run) → In q rs → r.unit < q.unit) → with_run r rs ≡ r ∷ rs
first_place r [] before = refl
first_place r (q ∷ qs) before = ap (λ b. cond b (r ∷ q ∷ qs) (q ∷ with_run r qs)) (lt_true r.unit q.unit (before q (inl refl)))

passes : (n m e : ℕ) (o : Option ℕ) (rs : List Run) → n ≤ m → with_begun n o (with_run (run m e) rs) ≡ with_run (run m e) (with_begun n o rs)
passes n m e None rs l = refl
passes n m e (Some k) rs l = sym (ap (λ b. cond b (run m e ∷ run n k ∷ rs) (run n k ∷ with_run (run m e) rs)) (lt_false m n l))

more_at : (n : ℕ) (xs ys : List Mark) (k e m : ℕ) → m ≡ n + k → length xs ≡ length ys → AgreeBut xs ys k → begun_at xs k ≡ None → begun_at ys k ≡ Some e
    → taken_from n ys ≡ with_run (run m e) (taken_from n xs)
more_at n xs [] k e m at long same was is = absurd (cc is)
more_at n [] (y ∷ ys) k e m at long same was is = absurd (omega (arith, long))
more_at n (x ∷ xs) (y ∷ ys) zero e m at long same was is =
    let here : n ≡ m = omega (arith, at) in
    let rest : taken_from (suc n) ys ≡ taken_from (suc n) xs =
    sym (taken_same (suc n) xs ys (omega (arith, long)) (λ k. same (suc k) (omega arith))) in
    ap (λ o. with_begun n o (taken_from (suc n) ys)) is ∙ ap (λ u. run u e ∷ taken_from (suc n) ys) here
    ∙ ap (λ rs. run m e ∷ rs) rest
    ∙ sym (first_place (run m e) (taken_from (suc n) xs) (λ q a. let l = not_before (suc n) xs q a in omega (arith, l, here)))
    ∙ sym (ap (λ o. with_run (run m e) (with_begun n o (taken_from (suc n) xs))) was)
more_at n (x ∷ xs) (y ∷ ys) (suc k) e m at long same was is =
    ap (λ rs. with_begun n (begun y) rs)
    (more_at (suc n) xs ys k e m (omega (arith, at)) (omega (arith, long)) (λ j ne. same (suc j) (λ h. ne (omega (arith, h)))) was is)
    ∙ passes n m e (begun y) (taken_from (suc n) xs) (omega (arith, at))
    ∙ sym (ap (λ o. with_run (run m e) (with_begun n o (taken_from (suc n) xs))) (same 0 (omega arith)))

pub taken_more : (xs ys : List Mark) (r : Run) → length xs ≡ length ys → AgreeBut xs ys r.unit → begun_at xs r.unit ≡ None → begun_at ys r.unit ≡ Some r.exp
    → taken_from 0 ys ≡ with_run r (taken_from 0 xs)
taken_more xs ys r long same was is = more_at 0 xs ys r.unit r.exp r.unit (omega arith) long same was is

pub stays : (r q : Run) (qs : List Run) → is_same r q ≡ false → without r (q ∷ qs) ≡ q ∷ without r qs
stays r q qs is = ap (λ b. cond (not b) (q ∷ without r qs) (without r qs)) is

pub goes : (r : Run) (qs : List Run) → without r (r ∷ qs) ≡ without r qs
goes r qs = ap (λ b. cond (not b) (r ∷ without r qs) (without r qs)) (same_self r)

pub none_goes : (r : Run) (rs : List Run) → ((q : Run) → In q rs → r.unit ≢ q.unit) → without r rs ≡ rs
none_goes r [] others = refl
none_goes r (q ∷ qs) others =
    stays r q qs (other_unit r q (others q (inl refl))) ∙ ap (λ rs. q ∷ rs) (none_goes r qs (λ x a. others x (inr a)))

leaves : (n m e : ℕ) (o : Option ℕ) (rs : List Run) → n < m → with_begun n o (without (run m e) rs) ≡ without (run m e) (with_begun n o rs)
leaves n m e None rs l = refl
leaves n m e (Some k) rs l = sym (stays (run m e) (run n k) rs (other_unit (run m e) (run n k) (omega (arith, l))))

fewer_at : (n : ℕ) (xs ys : List Mark) (k e m : ℕ) → m ≡ n + k → length xs ≡ length ys → AgreeBut xs ys k → begun_at xs k ≡ Some e → begun_at ys k ≡ None
    → taken_from n ys ≡ without (run m e) (taken_from n xs)
fewer_at n [] ys k e m at long same was is = absurd (cc was)
fewer_at n (x ∷ xs) [] k e m at long same was is = absurd (omega (arith, long))
fewer_at n (x ∷ xs) (y ∷ ys) zero e m at long same was is =
    let here : n ≡ m = omega (arith, at) in
    let rest : taken_from (suc n) ys ≡ taken_from (suc n) xs =
    sym (taken_same (suc n) xs ys (omega (arith, long)) (λ k. same (suc k) (omega arith))) in
    ap (λ o. with_begun n o (taken_from (suc n) ys)) is ∙ rest
    ∙ sym (none_goes (run m e) (taken_from (suc n) xs) (λ q a. let l = not_before (suc n) xs q a in omega (arith, l, here)))
    ∙ sym (goes (run m e) (taken_from (suc n) xs))
    ∙ sym (ap (λ u. without (run m e) (run u e ∷ taken_from (suc n) xs)) here)
    ∙ sym (ap (λ o. without (run m e) (with_begun n o (taken_from (suc n) xs))) was)
fewer_at n (x ∷ xs) (y ∷ ys) (suc k) e m at long same was is =
    ap (λ rs. with_begun n (begun y) rs)
    (fewer_at (suc n) xs ys k e m (omega (arith, at)) (omega (arith, long)) (λ j ne. same (suc j) (λ h. ne (omega (arith, h)))) was is)
    ∙ leaves n m e (begun y) (taken_from (suc n) xs) (omega (arith, at))
    ∙ sym (ap (λ o. without (run m e) (with_begun n o (taken_from (suc n) xs))) (same 0 (omega arith)))

pub taken_fewer : (xs ys : List Mark) (r : Run) → length xs ≡ length ys → AgreeBut xs ys r.unit → begun_at xs r.unit ≡ Some r.exp → begun_at ys r.unit ≡ None
    → taken_from 0 ys ≡ without r (taken_from 0 xs)
taken_fewer xs ys r long same was is = fewer_at 0 xs ys r.unit r.exp r.unit (omega arith) long same was is
