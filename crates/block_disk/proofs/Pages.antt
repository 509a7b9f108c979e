-- The header's page of a file: its gates and bodies, and the header that is located.
use Rattle.std.proofs.Common.{◌≡◌, ◌≤◌, ◌<◌, ◌+◌, ◌-◌, ◌∙◌, ℕ, Bool, true, false, cond, ◌==◌, List, length, take, drop, slice_range, slice_index}
use Rattle.std.proofs.Common.{Option, Some, None, Result, Ok, Err, refl, sym, ap, arith}
use Rattle.std.specs.Prelude.{min, not, nat_lt}
use Rattle.std.proofs.lemmas.Bool.{cond-false, cond-true, le-ltb, lt-ltb}
use Rattle.std.proofs.lemmas.List.{drop-take, take-take, get_or-take}
use Rattle.file_model.specs.declared.head.Head.{Head}
use Rattle.file_model.specs.declared.head.Located.{Located}
use Rattle.file_model.specs.declared.head.Unreadable.{Unreadable}
use Rattle.file_model.specs.declared.head.Unreadable.TheVariants.{NotDets}
use Rattle.file_model.specs.Layout.{page_size, copy_at, body_at, body_size, open_byte, is_open_at, page_of, segments_within}
use Rattle.file_model.specs.Header.{current_copy, body_in, head_in, head_of_copy, head_of_page, head_of, located_at, located}
use Rattle.space_model.specs.Sizes.{segment_units}
use Rattle.block_disk.specs.Answer.{copies_by, copies_in}

-- ---- a part of a front is a part of the whole

part_of_front : (xs : List ℕ) (n i j : ℕ) → i ≤ j → j ≤ n → slice_range (slice_range xs 0 n) i j ≡ slice_range xs i j
part_of_front xs n i j l m =
    let rest : ℕ = n - i in
    let size : n - 0 ≡ i + rest = omega arith in
    ap (λ e. take (j - i) (drop i (take e xs))) size ∙ ap (take (j - i)) (drop-take i rest xs) ∙ take-take (j - i) rest (drop i xs) (omega arith)

index_of_front : (xs : List ℕ) (n k : ℕ) → k < n → slice_index (slice_range xs 0 n) k ≡ slice_index xs k
index_of_front xs n k l = get_or-take (n - 0) xs k 0 (omega arith)

copy_within : (second : Bool) → copy_at second < 513
copy_within true = omega arith
copy_within false = omega arith

body_within : (second : Bool) → body_at second + body_size ≤ page_size
body_within true = omega arith
body_within false = omega arith

pub gate_in_page : (image : List ℕ) (second : Bool) → is_open_at (page_of image) (copy_at second) ≡ is_open_at image (copy_at second)
gate_in_page image second = let l = copy_within second in ap (λ x. x == open_byte) (index_of_front image page_size (copy_at second) (omega arith))

pub body_in_page : (image : List ℕ) (second : Bool) → body_in (page_of image) second ≡ slice_range image (body_at second) (body_at second + body_size)
body_in_page image second = part_of_front image page_size (body_at second) (body_at second + body_size) (omega arith) (body_within second)

-- the copies by the front of a page
gate_of_front : (image : List ℕ) (second : Bool) → is_open_at (slice_range image 0 513) (copy_at second) ≡ is_open_at (page_of image) (copy_at second)
gate_of_front image second =
    ap (λ x. x == open_byte) (index_of_front image 513 (copy_at second) (copy_within second)) ∙ sym (gate_in_page image second)

pub copies_of_front : (image : List ℕ)
    → copies_by (is_open_at (slice_range image 0 513) 0) (is_open_at (slice_range image 0 513) 512) ≡ copies_in (page_of image)
copies_of_front image =
    let a = gate_of_front image false in
    let b = gate_of_front image true in
    λ i. copies_by (a i) (b i)

-- ---- what is located

abbrev pub found_in : Bool → Bool → ℕ → Result Head Unreadable → Result Located Unreadable
found_in second other size (Err why) = Err why
found_in second other size (Ok h) =
    Ok (record { head = h; second = second; other_gate = other; whole = min h.segments (segments_within segment_units size) })

abbrev pub found_by : List ℕ → ℕ → Option (Bool × Bool) → Result Located Unreadable
found_by page size None = Err NotDets
found_by page size (Some p) = found_in p.0 p.1 size (head_in (body_in page p.0))

with_other : (page : List ℕ) (size : ℕ) (second other : Bool) (r : Result Head Unreadable) → is_open_at page (copy_at (not second)) ≡ other
    → located_at page size (Some second) r ≡ found_in second other size r
with_other page size second other (Err why) e = refl
with_other page size second other (Ok h) e =
    ap (λ (x : Bool). Ok (record { head = h; second = second; other_gate = x; whole = min h.segments (segments_within segment_units size) })) e

by_gates : (page : List ℕ) (size : ℕ) (a b : Bool) → is_open_at page (copy_at false) ≡ a → is_open_at page (copy_at true) ≡ b
    → located_at page size (cond a (Some false) (cond b (Some true) None)) (head_of_copy page (cond a (Some false) (cond b (Some true) None)))
    ≡ found_by page size (copies_by a b)
by_gates page size true b ea eb = with_other page size false b (head_in (body_in page false)) eb
by_gates page size false true ea eb = with_other page size true false (head_in (body_in page true)) ea
by_gates page size false false ea eb = refl

pub head_by_page : (image : List ℕ) → page_size ≤ length image → head_of image ≡ head_of_page (page_of image)
unfolding head_of
head_by_page image l = cond-false (nat_lt (length image) page_size) (Err NotDets) (head_of_page (page_of image)) (le-ltb _ _ l)

pub located_long : (image : List ℕ) → page_size ≤ length image → located image ≡ found_by (page_of image) (length image) (copies_in (page_of image))
located_long image l =
    ap (located_at (page_of image) (length image) (current_copy (page_of image))) (head_by_page image l)
    ∙ by_gates (page_of image) (length image) (is_open_at (page_of image) (copy_at false)) (is_open_at (page_of image) (copy_at true)) refl refl

pub located_short : (image : List ℕ) → length image < page_size → located image ≡ Err NotDets
unfolding head_of
located_short image l =
    ap (located_at (page_of image) (length image) (current_copy (page_of image)))
    (cond-true (nat_lt (length image) page_size) (Err NotDets) (head_of_page (page_of image)) (lt-ltb _ _ l))
