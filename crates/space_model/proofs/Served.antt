-- Lemmas: what is pending of a key that was served, and of other keys.
use Rattle.std.proofs.Common.{◌≡◌, ℕ, false, cond, List, [], ◌∷◌, ◌++◌, Option, Some, None, Ok, refl, sym, ap, ◌∙◌, subst}
use Rattle.std.specs.Prelude.{bytes_eq}
use Rattle.space_model.specs.Ledger.{Pending, Ledger, Touch, is_pending, packed_of, with_pending, pending_at, served, serve}
use Rattle.space_model.specs.LedgerOrder.{HasBlock, pending_keys}
use Rattle.space_model.proofs.Pendings.{found_new, found_other, order_kept}
use Rattle.space_model.proofs.Serving.{served_block}

-- the pending keys are those before, with one that has another block
record Replaces (l new : Ledger) (key : List ℕ) (bytes : Option ℕ) : Type 0 where
  pub next : Pending
  pub key_is : next.key ≡ key
  pub pending : new.pending ≡ with_pending l.pending next

replaced : (size : ℕ) (l new : Ledger) (key : List ℕ) (bytes : Option ℕ) → served size l key bytes ≡ Ok new → Replaces l new key bytes
replaced size l new key None e =
    let none : Pending = record { key = key; packed = None } in
    let same : record l { pending = with_pending l.pending none } ≡ new = cc e in
    record { next = none; key_is = refl; pending = ap (λ (m : Ledger). m.pending) (sym same) }
replaced size l new key (Some bytes) e =
    let s = served_block size l new key bytes e in
    record { next = pending_at key bytes s.at; key_is = refl; pending = ap (λ (m : Ledger). m.pending) (sym s.ledger) }

pub served_packed : (size : ℕ) (l new : Ledger) (touch : Touch) (bytes : ℕ) → touch.bytes ≡ Some bytes → serve size l touch ≡ Ok new
    → HasBlock new.pending touch.key bytes
served_packed size l new touch bytes is e =
    let s = served_block size l new touch.key bytes (ap (λ o. served size l touch.key o) (sym is) ∙ e) in
    let pending = ap (λ (m : Ledger). m.pending) (sym s.ledger) in
    record {
      at = s.at;
      exp = s.exp;
      found = ap (λ (ps : List Pending). packed_of ps touch.key) pending ∙ found_new l.pending (pending_at touch.key bytes s.at);
    }

pub served_none : (size : ℕ) (l new : Ledger) (touch : Touch) → touch.bytes ≡ None → serve size l touch ≡ Ok new → packed_of new.pending touch.key ≡ None
served_none size l new touch is e =
    let none : Pending = record { key = touch.key; packed = None } in
    let f : served size l touch.key None ≡ Ok new = ap (λ o. served size l touch.key o) (sym is) ∙ e in
    let same : record l { pending = with_pending l.pending none } ≡ new = cc f in
    ap (λ (m : Ledger). packed_of m.pending touch.key) (sym same) ∙ found_new l.pending none

pub served_other : (size : ℕ) (l new : Ledger) (touch : Touch) (key : List ℕ) → bytes_eq touch.key key ≡ false → serve size l touch ≡ Ok new
    → packed_of new.pending key ≡ packed_of l.pending key
served_other size l new touch key other e =
    let r = replaced size l new touch.key touch.bytes e in
    ap (λ (ps : List Pending). packed_of ps key) r.pending
    ∙ found_other l.pending r.next key (subst (λ (k : List ℕ). bytes_eq k key ≡ false) (sym r.key_is) other)

pub served_order : (size : ℕ) (l new : Ledger) (touch : Touch) → serve size l touch ≡ Ok new
    → pending_keys new.pending ≡ cond (is_pending l.pending touch.key) (pending_keys l.pending) (pending_keys l.pending ++ touch.key ∷ [])
served_order size l new touch e =
    let r = replaced size l new touch.key touch.bytes e in
    ap pending_keys r.pending ∙ order_kept l.pending r.next
    ∙ ap (λ (k : List ℕ). cond (is_pending l.pending k) (pending_keys l.pending) (pending_keys l.pending ++ k ∷ [])) r.key_is
