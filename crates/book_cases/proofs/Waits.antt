-- The pending keys whose new blocks begin at a unit.
use Rattle.std.proofs.Common.{◌≡◌, ℕ, length, Some}
use Rattle.std.proofs.lemmas.List.{length-map}
use Rattle.space_model.specs.Apart.{In}
use Rattle.space_model.proofs.Members.{in_filter_map, mapped_in}
use Rattle.file_model.specs.declared.entry.Entry.{Entry}
use Rattle.write_cache.specs.declared.pending.Pending.{Pending}
use Rattle.write_cache.specs.Waiting.{Waiting, states_of}
use Rattle.book_model.specs.Book.{pending_entry, pending_entries}

-- the new block of a key begins elsewhere
abbrev pub Elsewhere : ℕ → Pending → Type 0
Elsewhere unit s = (f : Entry) → pending_entry s ≡ Some f → f.unit ≡ unit → ⊥

pub all_elsewhere : (w : Waiting) (unit : ℕ) → ((s : Pending) → In s (states_of w) → Elsewhere unit s)
    → (f : Entry) → In f (pending_entries w) → f.unit ≡ unit → ⊥
all_elsewhere w unit each f a =
    let r = in_filter_map (λ e. pending_entry e.1) w f a in each r.0.1 (mapped_in (λ e. e.1) w r.0 r.1) f r.2

pub length-states_of : (w : Waiting) → length (states_of w) ≡ length w
length-states_of w = length-map w (λ e. e.1)
