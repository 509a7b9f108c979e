-- What an opening answers by what it reads.
use Rattle.std.proofs.Common.{◌≡◌, ⊎_elim, ℕ, Bool, true, false, cond, List, length, Option, Some, None, Result, Ok, Err, refl, sym, ap, ◌∙◌, subst}
use Rattle.std.specs.Prelude.{nat_lt}
use Rattle.file_model.specs.declared.head.Head.{Head}
use Rattle.file_model.specs.declared.head.Located.{Located}
use Rattle.file_model.specs.declared.head.Unreadable.{Unreadable}
use Rattle.file_model.specs.declared.head.Unreadable.TheVariants as unreadable
use Rattle.file_model.specs.Layout.{page_size, page_of}
use Rattle.file_model.specs.Header.{current_copy, head_of_copy, head_of, located_at, located}
use Rattle.block_disk.specs.declared.fault.HeadFault.{HeadFault}
use Rattle.block_disk.specs.declared.fault.HeadFault.TheVariants as header
use Rattle.block_disk.specs.Answer.{Answers}
use Rattle.run_model.specs.declared.options.OpenOptions.{OpenOptions}
use Rattle.table_core.specs.declared.open_fault.OpenFault.{OpenFault}
use Rattle.table_core.specs.declared.open_fault.OpenFault.TheVariants.{Disk, NoFile, NotDets, Version, TypeMismatch, KeyposMismatch, NeedsRepair, Memory}
use Rattle.table_core.specs.Answering.{or_else, fault_with, IsFault, IsAnsweredBy, header_fault}

-- ---- a header that is not located is not read

abbrev Placed : List ℕ → Option Bool → Result Head Unreadable → Type 0
Placed page copy r = (size : ℕ) (why : Unreadable) → located_at page size copy r ≡ Err why → r ≡ Err why

-- a copy that is current has a place
placed_some : (page : List ℕ) (second : Bool) (r : Result Head Unreadable) → Placed page (Some second) r
placed_some page second (Err w) size why e = let same : w ≡ why = cc e in ap (λ x. Err x) same
placed_some page second (Ok h) size why e = absurd (cc e)

-- without one no header is read
placed_none : (page : List ℕ) (short : Bool) → Placed page None (cond short (Err unreadable.NotDets) (head_of_copy page None))
placed_none page true size why e = let same : unreadable.NotDets ≡ why = cc e in ap (λ x. Err x) same
placed_none page false size why e = let same : unreadable.NotDets ≡ why = cc e in ap (λ x. Err x) same

placed : (page : List ℕ) (short : Bool) (copy : Option Bool) → Placed page copy (cond short (Err unreadable.NotDets) (head_of_copy page copy))
placed page short None = placed_none page short
placed page short (Some second) = placed_some page second (cond short (Err unreadable.NotDets) (head_of_copy page (Some second)))

unread : (f : List ℕ) (why : Unreadable) → located f ≡ Err why → head_of f ≡ Err why
unfolding head_of
unread f why e = placed (page_of f) (nat_lt (length f) page_size) (current_copy (page_of f)) (length f) why e

-- ---- the fault of a header

refused : (options : OpenOptions) (f : List ℕ) (why : HeadFault) (r : Result Located Unreadable) → located f ≡ r
    → Answers (Err why) r → IsFault (fault_with options f (head_of f)) (header_fault why)
refused options f header.Disk r is a = tt
refused options f header.NotDets (Ok l) is a = absurd (⊎_elim (λ e. cc e) (λ e. cc e) a)
refused options f header.NotDets (Err unreadable.NotDets) is a = ap (fault_with options f) (unread f unreadable.NotDets is)
refused options f header.NotDets (Err (unreadable.Version n)) is a = absurd (⊎_elim (λ e. cc e) (λ e. cc e) a)
refused options f (header.Version number) (Ok l) is a = absurd (⊎_elim (λ e. cc e) (λ e. cc e) a)
refused options f (header.Version number) (Err unreadable.NotDets) is a = absurd (⊎_elim (λ e. cc e) (λ e. cc e) a)
refused options f (header.Version number) (Err (unreadable.Version n)) is a = ⊎_elim
    (λ e. absurd (cc e))
    (λ e. let same : n ≡ number = cc e in
    ap (fault_with options f) (unread f (unreadable.Version n) is) ∙ ap (λ m. Some (Version m)) same)
    a

-- what is answered for a header that is not read
pub by_header : {A : Type 0} (options : OpenOptions) (f : List ℕ) (why : HeadFault) (r : Result A OpenFault) → Answers (Err why) (located f)
    → r ≡ Err (header_fault why) → IsAnsweredBy (fault_with options f (head_of f)) r
by_header options f why r a is =
    subst (λ x. IsAnsweredBy (fault_with options f (head_of f)) x) (sym is) (refused options f why (located f) refl a)

-- ---- answers of the judgements

-- the first of two faults
first_fault : (o p : Option OpenFault) (fault : OpenFault) → IsFault o fault → IsFault (or_else o p) fault
first_fault o p Disk a = tt
first_fault o p Memory a = tt
first_fault o p NoFile a = ap (λ x. or_else x p) a
first_fault o p NotDets a = ap (λ x. or_else x p) a
first_fault o p (Version n) a = ap (λ x. or_else x p) a
first_fault o p (TypeMismatch kind) a = ap (λ x. or_else x p) a
first_fault o p (KeyposMismatch keypos) a = ap (λ x. or_else x p) a
first_fault o p NeedsRepair a = ap (λ x. or_else x p) a

pub by_first : {A : Type 0} (o p q : Option OpenFault) (fault : OpenFault) (r : Result A OpenFault) → q ≡ or_else o p → IsFault o fault
    → r ≡ Err fault → IsAnsweredBy q r
by_first o p q fault r is a made =
    subst (λ x. IsAnsweredBy q x) (sym made) (subst (λ x. IsFault x fault) (sym is) (first_fault o p fault a))

pub by_second : {A : Type 0} (o p q : Option OpenFault) (fault : OpenFault) (r : Result A OpenFault) → q ≡ or_else o p → o ≡ None → IsFault p fault
    → r ≡ Err fault → IsAnsweredBy q r
by_second o p q fault r is none a made =
    subst (λ x. IsAnsweredBy q x) (sym made) (subst (λ x. IsFault x fault) (sym (is ∙ ap (λ x. or_else x p) none)) a)
