-- The header while it is changed, step by step.
use Rattle.std.proofs.Common.{◌≡◌, ◌≤◌, ◌∙◌, ℕ, Bool, true, false, List, length, Ok, refl, ap, arith, inl, inr, ⊎_elim}
use Rattle.std.specs.Prelude.{not, ◌⊎◌}
use Rattle.std.proofs.lemmas.Bool.{cases_Bool}
use Rattle.host_model.specs.Disk.{DiffersIn}
use Rattle.host_model.specs.Torn.{DiffersIn-refl}
use Rattle.file_model.specs.declared.head.Head.{Head}
use Rattle.file_model.specs.Layout.{page_size}
use Rattle.file_model.specs.Header.{body_of, head_in, head_of}
use Rattle.block_disk.specs.Places.{the_page}
use Rattle.block_disk.specs.Copies.{HasHeader, HasEither, is_open_copy, copy_body, SameCopy, TearsGate, WritesGate, TearsBody, WritesBody}
use Rattle.block_disk.specs.Copies.{Stands, IsReady, Prepares, IsCurrent}
use Rattle.block_disk.proofs.Current.{current_is, page_then}

own_copy : (s : Bool) (x z : List ℕ) → SameCopy (not (not s)) x z → SameCopy s x z
own_copy true x z p = p
own_copy false x z p = p

own_shut : (s : Bool) (z : List ℕ) → is_open_copy s z ≡ false → is_open_copy (not (not s)) z ≡ false
own_shut true z e = e
own_shut false z e = e

page_kept : (x z : List ℕ) → page_size ≤ length x → DiffersIn the_page x z → page_size ≤ length z
page_kept x z l d = omega (arith, d.no_shorter)

-- ---- before any step

pub header_here : (s o : Bool) (h : Head) (x : List ℕ) → Stands s o h x → HasHeader h x x
header_here s o h x st = record {
  header = current_is s x st.page st.current (⊎_elim (λ a. inl a) (λ b. inr (st.gate ∙ b)) st.first) ∙ st.head;
  outside = DiffersIn-refl the_page x;
}

pub current_here : (s o : Bool) (h : Head) (x : List ℕ) → o ≡ false → Stands s o h x → IsCurrent s h x x
current_here s o h x e st = record {
  stands = record { page = st.page; current = st.current; gate = st.gate ∙ e; head = st.head; first = inr refl };
  outside = DiffersIn-refl the_page x;
}

pub either_of : (old new : Head) (x z : List ℕ) → HasHeader old x z → HasEither old new x z
either_of old new x z p = record { header = inl p.header; outside = p.outside }

-- ---- the other copy's gate is closed

pub kept_by_closing : (s o : Bool) (h : Head) (x z : List ℕ) → o ≡ true → Stands s o h x → TearsGate (not s) x z → HasHeader h x z
kept_by_closing s o h x z e st t =
    let own = own_copy s x z t.other in
    let first : s ≡ false = ⊎_elim (λ a. a) (λ b. absurd (cc (e, b))) st.first in
    record {
      header = current_is s z (page_kept x z st.page t.outside) (own.gate ∙ st.current) (inl first) ∙ ap head_in own.body ∙ st.head;
      outside = t.outside;
    }

pub closed_then : (s o : Bool) (h : Head) (x z : List ℕ) → Stands s o h x → WritesGate (not s) false x z → IsCurrent s h x z
closed_then s o h x z st w =
    let t = w.torn in
    let own = own_copy s x z t.other in
    record {
      stands = record {
        page = page_kept x z st.page t.outside;
        current = own.gate ∙ st.current;
        gate = w.gate;
        head = ap head_in own.body ∙ st.head;
        first = inr refl;
      };
      outside = t.outside;
    }

-- ---- the other copy's body is written

pub kept_by_body : (s : Bool) (h : Head) (x y z : List ℕ) → IsCurrent s h x y → TearsBody (not s) y z → HasHeader h x z
kept_by_body s h x y z c t =
    let st = c.stands in
    let own = own_copy s y z t.other in
    record {
      header = current_is s z (page_kept y z st.page t.outside) (own.gate ∙ st.current) (inr (t.gate ∙ st.gate)) ∙ ap head_in own.body ∙ st.head;
      outside = page_then x y z c.outside t.outside;
    }

pub prepared_then : (s : Bool) (h next : Head) (x y z : List ℕ) → head_in (body_of next) ≡ Ok next → IsCurrent s h x y
    → WritesBody (not s) (body_of next) y z → Prepares s h next x z
prepared_then s h next x y z back c w =
    let st = c.stands in
    let t = w.torn in
    let own = own_copy s y z t.other in
    record {
      ready = record {
        stands = record {
          page = page_kept y z st.page t.outside;
          current = own.gate ∙ st.current;
          gate = t.gate ∙ st.gate;
          head = ap head_in own.body ∙ st.head;
          first = inr refl;
        };
        body = ap head_in w.body ∙ back;
      };
      outside = page_then x y z c.outside t.outside;
    }

-- ---- the other copy's gate is opened

opening_header : (s : Bool) (old next : Head) (x z : List ℕ) → IsReady s old next x → TearsGate (not s) x z → (head_of z ≡ Ok old) ⊎ (head_of z ≡ Ok next)
opening_header false old next x z r t =
    let st = r.stands in
    inl (current_is false z (page_kept x z st.page t.outside) (t.other.gate ∙ st.current) (inl refl) ∙ ap head_in t.other.body ∙ st.head)
opening_header true old next x z r t =
    let st = r.stands in
    let page = page_kept x z st.page t.outside in
    ⊎_elim
    (λ o. inr (current_is false z page o (inl refl) ∙ ap head_in t.body ∙ r.body))
    (λ shut. inl (current_is true z page (t.other.gate ∙ st.current) (inr shut) ∙ ap head_in t.other.body ∙ st.head))
    (cases_Bool (is_open_copy false z))

pub either_by_opening : (s : Bool) (old next : Head) (x z : List ℕ) → IsReady s old next x → TearsGate (not s) x z → HasEither old next x z
either_by_opening s old next x z r t = record { header = opening_header s old next x z r t; outside = t.outside }

-- both gates are open then
pub record BothOpen (s : Bool) (old next : Head) (before now : List ℕ) : Type 0 where
  pub page : page_size ≤ length now
  pub own : head_in (copy_body s now) ≡ Ok old
  pub other_open : is_open_copy (not s) now ≡ true
  pub other : head_in (copy_body (not s) now) ≡ Ok next
  pub outside : DiffersIn the_page before now

pub opened_then : (s : Bool) (old next : Head) (x y : List ℕ) → IsReady s old next x → WritesGate (not s) true x y → BothOpen s old next x y
opened_then s old next x y r w =
    let st = r.stands in
    let t = w.torn in
    record {
      page = page_kept x y st.page t.outside;
      own = ap head_in (own_copy s x y t.other).body ∙ st.head;
      other_open = w.gate;
      other = ap head_in t.body ∙ r.body;
      outside = t.outside;
    }

-- ---- this copy's gate is closed

closing_header : (s : Bool) (old next : Head) (x y z : List ℕ) → BothOpen s old next x y → TearsGate s y z
    → (head_of z ≡ Ok old) ⊎ (head_of z ≡ Ok next)
closing_header true old next x y z b t =
    inr (current_is false z (page_kept y z b.page t.outside) (t.other.gate ∙ b.other_open) (inl refl) ∙ ap head_in t.other.body ∙ b.other)
closing_header false old next x y z b t =
    let page = page_kept y z b.page t.outside in
    ⊎_elim
    (λ o. inl (current_is false z page o (inl refl) ∙ ap head_in t.body ∙ b.own))
    (λ shut. inr (current_is true z page (t.other.gate ∙ b.other_open) (inr shut) ∙ ap head_in t.other.body ∙ b.other))
    (cases_Bool (is_open_copy false z))

pub either_by_closing : (s : Bool) (old next : Head) (x y z : List ℕ) → BothOpen s old next x y → TearsGate s y z → HasEither old next x z
either_by_closing s old next x y z b t = record { header = closing_header s old next x y z b t; outside = page_then x y z b.outside t.outside }

pub switched_then : (s : Bool) (old next : Head) (x y z : List ℕ) → BothOpen s old next x y → WritesGate s false y z → IsCurrent (not s) next x z
switched_then s old next x y z b w =
    let t = w.torn in
    record {
      stands = record {
        page = page_kept y z b.page t.outside;
        current = t.other.gate ∙ b.other_open;
        gate = own_shut s z w.gate;
        head = ap head_in t.other.body ∙ b.other;
        first = inr refl;
      };
      outside = page_then x y z b.outside t.outside;
    }

-- ---- the steps joined

pub either_then : (s : Bool) (old next : Head) (x y z : List ℕ) → Prepares s old next x y → HasEither old next y z → HasEither old next x z
either_then s old next x y z p q = record { header = q.header; outside = page_then x y z p.outside q.outside }

pub current_then : (s : Bool) (old next : Head) (x y z : List ℕ) → Prepares s old next x y → IsCurrent (not s) next y z → IsCurrent (not s) next x z
current_then s old next x y z p q = record { stands = q.stands; outside = page_then x y z p.outside q.outside }
