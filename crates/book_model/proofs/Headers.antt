-- A header that is read has fields that are allowed, and its file has a whole page.
use Rattle.std.proofs.Common.{◌≡◌, ◌≤◌, ⊎_elim, ℕ, Bool, true, false, cond, List, length, Option, Some, None, Result, Ok, Err, refl, subst}
use Rattle.std.specs.Prelude.{not, ◌==◌, nat_lt, slice_index, slice_range, bytes_eq}
use Rattle.std.proofs.lemmas.Bool.{cases_Bool, ltb-false}
use Rattle.term_model.specs.declared.kind.Kind.{Kind}
use Rattle.file_model.specs.declared.head.Head.{Head}
use Rattle.file_model.specs.declared.head.FileState.{FileState}
use Rattle.file_model.specs.declared.head.Unreadable.{Unreadable}
use Rattle.file_model.specs.declared.head.Unreadable.TheVariants.{NotDets, Version}
use Rattle.file_model.specs.Layout.{page_size, page_of}
use Rattle.file_model.specs.Header.{the_version, magic, state_of, kind_of, is_allowed, has_zeros, number_at, index_of, head_with, head_in, body_in, head_of_copy, current_copy, head_of}

abbrev Read : Result Head Unreadable → Type 0
Read r = (h : Head) → r ≡ Ok h → is_allowed h ≡ true

refused : (why : Unreadable) → Read (Err why)
refused why h e = absurd (cc e)

allowed_if : (g : Head) (t : Bool) → is_allowed g ≡ t → (h : Head) → cond t (Ok g) (Err NotDets) ≡ Ok h → is_allowed h ≡ true
allowed_if g true test h e = let same : g ≡ h = cc e in subst (λ x. is_allowed x ≡ true) same test
allowed_if g false test h e = absurd (cc e)

either_read : (t : Bool) (a b : Result Head Unreadable) → Read a → Read b → Read (cond t a b)
either_read true a b x y = x
either_read false a b x y = y

-- the header that a body names
abbrev named : List ℕ → FileState → Kind → Head
named body state kind = record {
  version = the_version;
  state = state;
  kind = kind;
  keypos = number_at body 8;
  segments = number_at body 12;
  max_segments = number_at body 16;
  index = index_of (number_at body 20);
}

with_read : (body : List ℕ) (state : Option FileState) (kind : Option Kind) → Read (head_with body state kind)
with_read body None kind = refused NotDets
with_read body (Some state) None = refused NotDets
with_read body (Some state) (Some kind) = allowed_if (named body state kind) (is_allowed (named body state kind)) refl

body_read : (body : List ℕ) → Read (head_in body)
body_read body = either_read (not (bytes_eq (slice_range body 0 4) magic)) _ _ (refused NotDets)
    (either_read (not (slice_index body 4 == the_version)) _ _ (refused (Version (slice_index body 4)))
    (either_read (has_zeros body) _ _ (with_read body (state_of (slice_index body 5)) (kind_of (slice_index body 6))) (refused NotDets)))

copy_read : (page : List ℕ) (o : Option Bool) → Read (head_of_copy page o)
copy_read page None = refused NotDets
copy_read page (Some second) = body_read (body_in page second)

pub allowed_of : (image : List ℕ) (h : Head) → head_of image ≡ Ok h → is_allowed h ≡ true
unfolding head_of
allowed_of image h e = either_read (nat_lt (length image) page_size) _ _ (refused NotDets) (copy_read (page_of image) (current_copy (page_of image))) h e

pub page_there : (image : List ℕ) (h : Head) → head_of image ≡ Ok h → page_size ≤ length image
unfolding head_of
page_there image h e = ⊎_elim
    (λ short. absurd (cc (rw short at e))) (λ long. ltb-false (length image) page_size long) (cases_Bool (nat_lt (length image) page_size))
