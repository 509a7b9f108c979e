-- The segments that count, in a file with this header.
use Rattle.std.proofs.Common.{◌≡◌, ◌≤◌, ◌*◌, ℕ, Bool, true, false, cond, not, ◌==◌, List, length, slice_index, Option, Some, None, Result, Ok, Err, refl, ap, arith, subst, ⊎_elim}
use Rattle.std.specs.Prelude.{min, nat_lt, nat_le}
use Rattle.std.proofs.lemmas.Bool.{and_parts, leb-true, ltb-false, cases_lt}
use Rattle.term_model.specs.declared.kind.Kind.{Kind}
use Rattle.file_model.specs.declared.head.FileState.{FileState}
use Rattle.file_model.specs.declared.head.Head.{Head}
use Rattle.file_model.specs.declared.head.Located.{Located}
use Rattle.file_model.specs.declared.head.Unreadable.{Unreadable}
use Rattle.file_model.specs.declared.head.Unreadable.TheVariants.{NotDets}
use Rattle.file_model.specs.Layout.{page_size, page_of, segment_at, whole_segments}
use Rattle.file_model.specs.LayoutLaws.{whole_ends}
use Rattle.space_model.specs.Sizes.{segment_units}
use Rattle.file_model.specs.Header.{most_segments, the_version, is_allowed, may_name, units_per_segment, has_zeros, head_with, head_in, kind_of, state_of}
use Rattle.file_model.specs.Header.{current_copy, body_in, head_of_copy, head_of, number_at, index_of, segments_of}
use Rattle.file_model.specs.View.{view, view_of}
use Rattle.repair_scan.specs.Progress.{units_with}

allowed_if : (h j : Head) (t : Bool) → is_allowed h ≡ t → cond t (Ok h) (Err NotDets) ≡ Ok j → is_allowed j ≡ true
allowed_if h j true is e = let same : h ≡ j = cc e in subst (λ x. is_allowed x ≡ true) same is
allowed_if h j false is e = absurd (cc e)

allowed_with : (body : List ℕ) (s : Option FileState) (k : Option Kind) (j : Head) → head_with body s k ≡ Ok j → is_allowed j ≡ true
allowed_with body None k j e = absurd (cc e)
allowed_with body (Some s) None j e = absurd (cc e)
allowed_with body (Some s) (Some k) j e =
    let h : Head = record {
      version = the_version;
      state = s;
      kind = k;
      keypos = number_at body 8;
      segments = number_at body 12;
      max_segments = number_at body 16;
      index = index_of (number_at body 20);
    } in
    allowed_if h j (is_allowed h) refl e

-- what a test that fails gives is no header
if_passed : (t : Bool) (r : Result Head Unreadable) (why : Unreadable) (j : Head) → cond t (Err why) r ≡ Ok j → r ≡ Ok j
if_passed true r why j e = absurd (cc e)
if_passed false r why j e = e

if_zeros : (t : Bool) (r : Result Head Unreadable) (j : Head) → cond t r (Err NotDets) ≡ Ok j → r ≡ Ok j
if_zeros true r j e = e
if_zeros false r j e = absurd (cc e)

allowed_in : (body : List ℕ) (j : Head) → head_in body ≡ Ok j → is_allowed j ≡ true
allowed_in body j e =
    allowed_with body (state_of (slice_index body 5)) (kind_of (slice_index body 6)) j
    (if_zeros (has_zeros body) _ j (if_passed (not (slice_index body 4 == the_version)) _ _ j (if_passed _ _ _ j e)))

allowed_copy : (page : List ℕ) (copy : Option Bool) (j : Head) → head_of_copy page copy ≡ Ok j → is_allowed j ≡ true
allowed_copy page None j e = absurd (cc e)
allowed_copy page (Some second) j e = allowed_in (body_in page second) j e

pub allowed_head : (image : List ℕ) (j : Head) → head_of image ≡ Ok j → is_allowed j ≡ true
unfolding head_of
allowed_head image j e = allowed_copy (page_of image) (current_copy (page_of image)) j (if_passed (nat_lt (length image) page_size) _ _ j e)

few_segments : (h : Head) → is_allowed h ≡ true → h.segments ≤ most_segments
few_segments h e =
    let p0 = and_parts (h.version == the_version) _ e in
    let p1 = and_parts (nat_le 1 h.keypos) _ p0.1 in
    let p2 = and_parts (nat_le h.keypos 65535) _ p1.1 in
    let p3 = and_parts (nat_le 1 h.max_segments) _ p2.1 in
    let p4 = and_parts (nat_le h.max_segments most_segments) _ p3.1 in
    let p5 = and_parts (nat_le h.segments h.max_segments) (may_name h.state (units_per_segment h * h.segments) h.index) p4.1 in
    let most : h.max_segments ≤ most_segments = leb-true h.max_segments most_segments p4.0 in
    let segments : h.segments ≤ h.max_segments = leb-true h.segments h.max_segments p5.0 in
    omega arith

-- what is seen of so many segments is what is seen of the file
pub seen_whole : (f : List ℕ) (l : Located) (n : ℕ)
    → (head_of f ≡ Ok l.head) × (current_copy (page_of f) ≡ Some l.second) × (l.whole ≡ segments_of l.head f) → n ≡ min l.whole most_segments
    → view l.head (units_with l.head n f) ≡ view_of l.head f
seen_whole f l n at e =
    let few = few_segments l.head (allowed_head f l.head at.0) in
    let least : segments_of l.head f ≤ l.head.segments = omega arith in
    let same : n ≡ segments_of l.head f = omega (arith, at.2) in
    ap (λ n. view l.head (units_with l.head n f)) same

-- ---- they lie in the file

not_taken : (t : Bool) (r : Result Head Unreadable) (why : Unreadable) (j : Head) → cond t (Err why) r ≡ Ok j → t ≡ false
not_taken true r why j e = absurd (cc e)
not_taken false r why j e = refl

page_read : (image : List ℕ) (j : Head) → head_of image ≡ Ok j → page_size ≤ length image
unfolding head_of
page_read image j e = ltb-false (length image) page_size (not_taken (nat_lt (length image) page_size) _ _ j e)

pub in_file : (f : List ℕ) (l : Located) → (head_of f ≡ Ok l.head) × (current_copy (page_of f) ≡ Some l.second) × (l.whole ≡ segments_of l.head f)
    → l.whole ≤ whole_segments segment_units f
in_file f l at = omega (arith, at.2)

pub counted_whole : (f : List ℕ) (l : Located) → (head_of f ≡ Ok l.head) × (current_copy (page_of f) ≡ Some l.second) × (l.whole ≡ segments_of l.head f)
    → segment_at segment_units l.whole ≤ length f
counted_whole f l at = ⊎_elim
    (λ some. whole_ends segment_units l.whole f (omega arith) some (in_file f l at))
    (λ none. let page = page_read f l.head at.0 in omega (arith, page, none))
    (cases_lt 0 l.whole)
