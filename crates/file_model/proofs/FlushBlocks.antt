-- The blocks of a flush once its bodies stand.
use Rattle.std.proofs.Common.{◌≡◌, ◌≤◌, ◌<◌, ◌⊎◌, inl, inr, ⊎_elim, ℕ, ◌+◌, ◌^◌, true, false, ◌==◌, List, [], ◌∷◌, length, Ok, refl, sym, ap, ◌∙◌, subst, arith}
use Rattle.std.specs.Prelude.{not}
use Rattle.std.proofs.lemmas.Bool.{both_ways, or_cases, and_parts, not-true, eqb-true}
use Rattle.host_model.specs.Disk.{DiffersIn}
use Rattle.host_model.specs.Writes.{ranges_of, LieInside}
use Rattle.host_model.specs.WritesLaws.{DiffersIn-writes, length_kept}
use Rattle.file_model.specs.declared.head.Head.{Head}
use Rattle.file_model.specs.Header.{located}
use Rattle.file_model.specs.Block.{Block}
use Rattle.file_model.specs.View.{Units, units_in}
use Rattle.file_model.specs.Taken.{table_of}
use Rattle.file_model.specs.Gates.{Gates, StandsOpen, NoneMeet, NoneShareKeys, SeenAlike, either, MayFlush, is_among, opened, closed}
use Rattle.file_model.specs.Images.{ImagesAgree}
use Rattle.file_model.specs.BodyWrites.{Body, body_writes, MeetsNone, RunsApart, MayWrite, IsPacked, StandsPacked}
use Rattle.file_model.specs.Flush.{IsNew, OtherKeys, IsFlushable, news, with_bodies, table_in}
use Rattle.file_model.proofs.Seen.{view_same}
use Rattle.file_model.proofs.Local.{are_read, images_seen}
use Rattle.file_model.proofs.BodyWrites.{bodies_torn, bodies_inside, begin_inside, bodies_stand}
use Rattle.file_model.proofs.Members.{In, of_all, of_pairs}

pub record BodyAt (bodies : List Body) (u : ℕ) : Type 0 where
  pub body : Body
  pub among : In body bodies
  pub at : body.unit ≡ u

pub body_at : (bodies : List Body) (u : ℕ) → is_among (news bodies) u ≡ true → BodyAt bodies u
body_at [] u e = absurd (cc e)
body_at (b ∷ bs) u e = ⊎_elim
    (λ here. record { body = b; among = inl refl; at = eqb-true b.unit u here })
    (λ later. let r = body_at bs u later in record { body = r.body; among = inr r.among; at = r.at })
    (or_cases (b.unit == u) (is_among (news bs) u) e)

-- a block that is new, at a unit
pub record NewAt (n : ℕ) (h : Head) (bodies : List Body) (u : ℕ) (b : Block) : Type 0 where
  pub body : Body
  pub among : In body bodies
  pub at : body.unit ≡ u
  pub packed : IsPacked n h body b

-- What is known once the bodies stand: of the image, of the blocks that stood and of the new ones, and of the gates.
pub record Prepared (n : ℕ) (h : Head) (bodies : List Body) (olds image : List ℕ) (old now : Units) (after : Gates) : Type 0 where
  pub header : located (with_bodies n bodies image) ≡ located image
  pub table : table_in n h (with_bodies n bodies image) ≡ table_in n h image
  pub long : length (with_bodies n bodies image) ≡ length image
  pub seen : SeenAlike old now
  pub packed : (b : Body) → In b bodies → StandsPacked n h (with_bodies n bodies image) b
  pub was_there : (u : ℕ) (b : Block) → u < now.count → now.is_open u ≡ true → now.stands u ≡ Ok b → StandsOpen old.is_open old u b
  pub new_there : (u : ℕ) (b : Block) → is_among (news bodies) u ≡ true → now.stands u ≡ Ok b → NewAt n h bodies u b
  pub is_after : (u : ℕ) → after u ≡ true → ((now.is_open u ≡ true) ⊎ (is_among (news bodies) u ≡ true)) × (is_among olds u ≡ false)
  pub may_flush : MayFlush h now now.is_open after

module _ (n : ℕ) (h : Head) (bodies : List Body) (olds image : List ℕ) (some : 0 < n) (can : IsFlushable n h bodies olds image) where
  abbrev old : Units
  old = units_in n h image

  abbrev mid : List ℕ
  mid = with_bodies n bodies image

  abbrev now : Units
  now = units_in n h mid

  abbrev after : Gates
  after = closed olds (opened (news bodies) now.is_open)

  -- ---- the bodies

  may_write : MayWrite n h bodies image
  may_write = record { page = can.page; room = can.room; blocks = can.taken.blocks; free = can.free }

  inside : LieInside (body_writes n bodies) image
  inside = bodies_inside n image bodies can.room

  torn_image : (z : List ℕ) → DiffersIn (ranges_of (body_writes n bodies)) image z → (located z ≡ located image) × ImagesAgree n h image z
  torn_image z d = bodies_torn n h bodies image z some may_write d

  table_torn : (z : List ℕ) → DiffersIn (ranges_of (body_writes n bodies)) image z → table_in n h z ≡ table_in n h image
  table_torn z d = ap table_of (view_same h old (units_in n h z) (images_seen n h image z (torn_image z d).1))

  mid_differs : DiffersIn (ranges_of (body_writes n bodies)) image mid
  mid_differs = DiffersIn-writes (body_writes n bodies) image (begin_inside (body_writes n bodies) image inside)

  mid_long : length mid ≡ length image
  mid_long = length_kept (body_writes n bodies) image mid inside mid_differs

  seen : SeenAlike old now
  seen = images_seen n h image mid (torn_image mid mid_differs).1

  packed_stands : (b : Body) → In b bodies → StandsPacked n h mid b
  packed_stands b a = of_all (StandsPacked n h mid) bodies b (bodies_stand n h bodies image some can.room can.apart) a

  new_of : (b : Body) → In b bodies → IsNew n h olds image b
  new_of b a = of_all (IsNew n h olds image) bodies b can.new a

  -- ---- old and new blocks

  -- a block that stood
  was_there : (u : ℕ) (b : Block) → u < now.count → now.is_open u ≡ true → now.stands u ≡ Ok b → StandsOpen old.is_open old u b
  was_there u b l o e =
      let below : u < old.count = let c = seen.count in omega arith in
      let opened : old.is_open u ≡ true = sym (seen.gates u below) ∙ o in
      record { inside = below; opened = opened; stands = sym (seen.behind u below opened) ∙ e }

  new_there : (u : ℕ) (b : Block) → is_among (news bodies) u ≡ true → now.stands u ≡ Ok b → NewAt n h bodies u b
  new_there u b a e =
      let r = body_at bodies u a in
      let own = new_of r.body r.among in
      let stands : now.stands u ≡ Ok own.block = subst (λ x. now.stands x ≡ Ok own.block) r.at (packed_stands r.body r.among own.block own.packed) in
      let same : own.block ≡ b = cc (stands, e) in
      record { body = r.body; among = r.among; at = r.at; packed = subst (IsPacked n h r.body) same own.packed }

  -- the block of a body is one
  same_block : (b : Body) → In b bodies → (s t : Block) → IsPacked n h b s → IsPacked n h b t → s ≡ t
  same_block b a s t p q =
      let first = packed_stands b a s p in
      let second = packed_stands b a t q in
      cc (first, second)

  replaced : (b : Body) → In b bodies → (t : Block) → IsPacked n h b t → (u : ℕ) (s : Block) → StandsOpen old.is_open old u s → s.key ≡ t.key
      → is_among olds u ≡ true
  replaced b a t p u s there same =
      let own = new_of b a in
      own.replaces u s there (same ∙ ap (λ (x : Block). x.key) (same_block b a t own.block p own.packed))

  classified : (u : ℕ) → either now.is_open after u ≡ true → (now.is_open u ≡ true) ⊎ (is_among (news bodies) u ≡ true)
  classified u o = ⊎_elim
      (λ was. inl was)
      (λ is. or_cases (now.is_open u) (is_among (news bodies) u) (and_parts (opened (news bodies) now.is_open u) (not (is_among olds u)) is).0)
      (or_cases (now.is_open u) (after u) o)

  -- ---- they do not meet

  meets_none : (u w : ℕ) (b c : Block) → StandsOpen old.is_open old u b → NewAt n h bodies w c → (u + 2 ^ b.exp ≤ w) ⊎ (w + 2 ^ c.exp ≤ u)
  meets_none u w b c x y =
      let f = of_all (MeetsNone old) bodies y.body can.free y.among u b x in
      let at = y.at in
      let size : 2 ^ c.exp ≡ 2 ^ y.body.exp = ap (λ e. 2 ^ e) y.packed.exp in
      ⊎_elim (λ l. inl (omega arith)) (λ l. inr (omega arith)) f

  news_apart : (u w : ℕ) (b c : Block) → NewAt n h bodies u b → NewAt n h bodies w c → u < w → (u + 2 ^ b.exp ≤ w) ⊎ (w + 2 ^ c.exp ≤ u)
  news_apart u w b c x y l =
      let at = x.at in
      let there = y.at in
      let size : 2 ^ b.exp ≡ 2 ^ x.body.exp = ap (λ e. 2 ^ e) x.packed.exp in
      let other : 2 ^ c.exp ≡ 2 ^ y.body.exp = ap (λ e. 2 ^ e) y.packed.exp in
      ⊎_elim
      (λ same. absurd (let units : x.body.unit ≡ y.body.unit = ap (λ (z : Body). z.unit) same in omega arith))
      (λ apart. ⊎_elim
      (λ p. ⊎_elim (λ q. inl (omega arith)) (λ q. inr (omega arith)) p)
      (λ p. ⊎_elim (λ q. inr (omega arith)) (λ q. inl (omega arith)) p)
      apart)
      (of_pairs RunsApart bodies x.body y.body can.apart x.among y.among)

  first_ends : (u w p q : ℕ) → u < w → (u + p ≤ w) ⊎ (w + q ≤ u) → u + p ≤ w
  first_ends u w p q l apart = ⊎_elim (λ a. a) (λ b. absurd (omega arith)) apart

  swapped : (u w p q : ℕ) → (u + p ≤ w) ⊎ (w + q ≤ u) → (w + q ≤ u) ⊎ (u + p ≤ w)
  swapped u w p q apart = ⊎_elim (λ a. inr a) (λ b. inl b) apart

  none_meet : NoneMeet (either now.is_open after) now
  none_meet u w b c x y l = ⊎_elim
      (λ u_old. ⊎_elim
      (λ w_old. can.taken.apart u w b c (was_there u b x.inside u_old x.stands) (was_there w c y.inside w_old y.stands) l)
      (λ w_new. first_ends u w (2 ^ b.exp) (2 ^ c.exp) l (meets_none u w b c (was_there u b x.inside u_old x.stands) (new_there w c w_new y.stands)))
      (classified w y.opened))
      (λ u_new. ⊎_elim
      (λ w_old. first_ends u w (2 ^ b.exp) (2 ^ c.exp) l
      (swapped w u (2 ^ c.exp) (2 ^ b.exp) (meets_none w u c b (was_there w c y.inside w_old y.stands) (new_there u b u_new x.stands))))
      (λ w_new. first_ends u w (2 ^ b.exp) (2 ^ c.exp) l (news_apart u w b c (new_there u b u_new x.stands) (new_there w c w_new y.stands) l))
      (classified w y.opened))
      (classified u x.opened)

  -- ---- they share no key

  keys_before : NoneShareKeys now.is_open now
  keys_before u w b c x y l same =
      can.taken.keys u w b c (was_there u b x.inside x.opened x.stands) (was_there w c y.inside y.opened y.stands) l same

  is_after : (u : ℕ) → after u ≡ true → ((now.is_open u ≡ true) ⊎ (is_among (news bodies) u ≡ true)) × (is_among olds u ≡ false)
  is_after u o =
      let p = and_parts (opened (news bodies) now.is_open u) (not (is_among olds u)) o in
      (or_cases (now.is_open u) (is_among (news bodies) u) p.0, not-true _ p.1)

  news_share_none : (u w : ℕ) (b c : Block) → NewAt n h bodies u b → NewAt n h bodies w c → u < w → b.key ≡ c.key → ⊥
  news_share_none u w b c x y l same =
      let at = x.at in
      let there = y.at in
      ⊎_elim
      (λ one. let units : x.body.unit ≡ y.body.unit = ap (λ (z : Body). z.unit) one in omega arith)
      (λ apart. ⊎_elim (λ p. p b c x.packed y.packed same) (λ p. p c b y.packed x.packed (sym same)) apart)
      (of_pairs (OtherKeys n h) bodies x.body y.body can.keys x.among y.among)

  keys_after : NoneShareKeys after now
  keys_after u w b c x y l same =
      let p = is_after u x.opened in
      let q = is_after w y.opened in
      ⊎_elim
      (λ u_old. ⊎_elim
      (λ w_old. can.taken.keys u w b c (was_there u b x.inside u_old x.stands) (was_there w c y.inside w_old y.stands) l same)
      (λ w_new.
      let new = new_there w c w_new y.stands in
      both_ways _ p.1 (replaced new.body new.among c new.packed u b (was_there u b x.inside u_old x.stands) same))
      q.0)
      (λ u_new. ⊎_elim
      (λ w_old.
      let new = new_there u b u_new x.stands in
      both_ways _ q.1 (replaced new.body new.among b new.packed w c (was_there w c y.inside w_old y.stands) (sym same)))
      (λ w_new. news_share_none u w b c (new_there u b u_new x.stands) (new_there w c w_new y.stands) l same)
      q.0)
      p.0

  may_flush : MayFlush h now now.is_open after
  may_flush = record { read = are_read n h mid; apart = none_meet; keys_before = keys_before; keys_after = keys_after }

  pub prepared : Prepared n h bodies olds image old now after
  prepared = record {
    header = (torn_image mid mid_differs).0;
    table = table_torn mid mid_differs;
    long = mid_long;
    seen = seen;
    packed = packed_stands;
    was_there = was_there;
    new_there = new_there;
    is_after = is_after;
    may_flush = may_flush;
  }
