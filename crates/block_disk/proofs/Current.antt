-- Which header a file has, by the gates and bodies of its two copies.
use Rattle.std.proofs.Common.{◌≡◌, ◌≤◌, ◌∙◌, ℕ, Bool, true, false, cond, List, length, Some, None, Result, Ok, Err, refl, sym, ap, subst, arith}
use Rattle.std.proofs.Common.{inl, inr, ⊎_elim}
use Rattle.std.specs.Prelude.{min, not, ◌⊎◌}
use Rattle.std.proofs.lemmas.Bool.{cases_lt, or_parts}
use Rattle.host_model.specs.Disk.{DiffersIn, range, is_in}
use Rattle.host_model.specs.Tearing.{IsWithin, absorbed}
use Rattle.file_model.specs.declared.head.Head.{Head}
use Rattle.file_model.specs.declared.head.Located.{Located}
use Rattle.file_model.specs.declared.head.Unreadable.{Unreadable}
use Rattle.file_model.specs.declared.head.Unreadable.TheVariants.{NotDets}
use Rattle.file_model.specs.Layout.{page_size, copy_at, is_open_at, page_of, segments_within}
use Rattle.file_model.specs.Header.{body_in, head_in, head_of_copy, head_of, located}
use Rattle.space_model.specs.Sizes.{segment_units}
use Rattle.block_disk.specs.Places.{the_page}
use Rattle.block_disk.specs.Answer.{copies_by}
use Rattle.block_disk.specs.Copies.{is_open_copy, copy_body, Stands}
use Rattle.block_disk.proofs.Pages.{gate_in_page, body_in_page, head_by_page, found_in, found_by, located_long, located_short}

head_cases : (page : List ℕ) (a b : Bool)
    → head_of_copy page (cond a (Some false) (cond b (Some true) None))
    ≡ cond a (head_in (body_in page false)) (cond b (head_in (body_in page true)) (Err NotDets))
head_cases page true b = refl
head_cases page false true = refl
head_cases page false false = refl

head_by_copies : (f : List ℕ) → page_size ≤ length f
    → head_of f ≡ cond (is_open_copy false f) (head_in (copy_body false f)) (cond (is_open_copy true f) (head_in (copy_body true f)) (Err NotDets))
head_by_copies f l =
    let a = gate_in_page f false in
    let b = gate_in_page f true in
    let x = body_in_page f false in
    let y = body_in_page f true in
    head_by_page f l ∙ head_cases (page_of f) (is_open_at (page_of f) (copy_at false)) (is_open_at (page_of f) (copy_at true))
    ∙ (λ i. cond (a i) (head_in (x i)) (cond (b i) (head_in (y i)) (Err NotDets)))

first_open : {X : Type 0} (a b : Bool) (x y z : X) → a ≡ true → cond a x (cond b y z) ≡ x
first_open a b x y z e = rw e refl

second_open : {X : Type 0} (a b : Bool) (x y z : X) → a ≡ false → b ≡ true → cond a x (cond b y z) ≡ y
second_open a b x y z e d = rw (e, d) refl

-- a copy whose gate is open is current where it is the first or the other one's gate is closed
pub current_is : (second : Bool) (f : List ℕ) → page_size ≤ length f → is_open_copy second f ≡ true
    → (second ≡ false) ⊎ (is_open_copy (not second) f ≡ false) → head_of f ≡ head_in (copy_body second f)
current_is false f l o first = head_by_copies f l ∙ first_open (is_open_copy false f) (is_open_copy true f) _ _ _ o
current_is true f l o (inl e) = absurd (cc e)
current_is true f l o (inr e) = head_by_copies f l ∙ second_open (is_open_copy false f) (is_open_copy true f) _ _ _ e o

-- ---- what is located

located_by : (f : List ℕ) (a b : Bool) → page_size ≤ length f → is_open_copy false f ≡ a → is_open_copy true f ≡ b
    → located f ≡ found_by (page_of f) (length f) (copies_by a b)
located_by f a b l ea eb =
    let ga = gate_in_page f false ∙ ea in
    let gb = gate_in_page f true ∙ eb in
    located_long f l ∙ (λ i. found_by (page_of f) (length f) (copies_by (ga i) (gb i)))

abbrev pub the_located : Bool → Head → List ℕ → Located
the_located second h f = record { head = h; second = second; other_gate = false; whole = min h.segments (segments_within segment_units (length f)) }

found_current : (second : Bool) (h : Head) (f : List ℕ) → head_in (copy_body second f) ≡ Ok h
    → found_in second false (length f) (head_in (body_in (page_of f) second)) ≡ Ok (the_located second h f)
found_current second h f e = ap (λ r. found_in second false (length f) r) (ap head_in (body_in_page f second) ∙ e)

-- the header of a copy that is current while the other one's gate is closed
pub located_current : (second : Bool) (h : Head) (f : List ℕ) → Stands second false h f → located f ≡ Ok (the_located second h f)
located_current false h f s = located_by f true false s.page s.current s.gate ∙ found_current false h f s.head
located_current true h f s = located_by f false true s.page s.gate s.current ∙ found_current true h f s.head

stands_found : (f : List ℕ) (l : Located) (second other : Bool) (r : Result Head Unreadable) → found_in second other (length f) r ≡ Ok l
    → page_size ≤ length f → is_open_copy second f ≡ true → is_open_copy (not second) f ≡ other → head_in (copy_body second f) ≡ r
    → (second ≡ false) ⊎ (other ≡ false) → Stands l.second l.other_gate l.head f
stands_found f l second other (Err why) e page o g h first = absurd (cc e)
stands_found f l second other (Ok head) e page o g h first =
    let found : Located = record { head = head; second = second; other_gate = other; whole = min head.segments (segments_within segment_units (length f)) } in
    let same : found ≡ l = cc e in
    subst (λ (x : Located). Stands x.second x.other_gate x.head f) same
    (record { page = page; current = o; gate = g; head = h; first = first })

stands_by : (f : List ℕ) (l : Located) (a b : Bool) → page_size ≤ length f → is_open_copy false f ≡ a → is_open_copy true f ≡ b
    → found_by (page_of f) (length f) (copies_by a b) ≡ Ok l → Stands l.second l.other_gate l.head f
stands_by f l true b page ea eb e =
    stands_found f l false b (head_in (body_in (page_of f) false)) e page ea eb (ap head_in (sym (body_in_page f false))) (inl refl)
stands_by f l false true page ea eb e =
    stands_found f l true false (head_in (body_in (page_of f) true)) e page eb ea (ap head_in (sym (body_in_page f true))) (inr refl)
stands_by f l false false page ea eb e = absurd (cc e)

pub stands_located : (f : List ℕ) (l : Located) → located f ≡ Ok l → Stands l.second l.other_gate l.head f
stands_located f l e = ⊎_elim
    (λ short. absurd (cc (located_short f short, e)))
    (λ page. stands_by f l (is_open_copy false f) (is_open_copy true f) page refl refl
    (sym (located_by f (is_open_copy false f) (is_open_copy true f) page refl refl) ∙ e))
    (cases_lt (length f) page_size)

-- ---- one change of the page after another

page_within : IsWithin (range 0 page_size) the_page
page_within = record { outside = λ k e. (or_parts (is_in (range 0 page_size) k) false e).0; reached = λ n. omega arith }

pub page_then : (a b c : List ℕ) → DiffersIn the_page a b → DiffersIn the_page b c → DiffersIn the_page a c
page_then a b c p q = absorbed (range 0 page_size) the_page a b c page_within p q

pub length_same : (a b : List ℕ) → page_size ≤ length a → DiffersIn the_page a b → length b ≡ length a
length_same a b l d = let shorter = d.no_shorter in let longer = d.no_longer in omega arith
