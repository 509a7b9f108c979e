-- What the writes of a flush leave, seen by the units of the file.
use Rattle.std.proofs.Common.{◌≡◌, ◌≤◌, ◌<◌, inl, inr, ⊎_elim, ℕ, true, ◌==◌, ◌&&◌, ◌||◌, List, [], ◌∷◌, length, Ok, refl, sym, ap, ◌∙◌, subst, arith}
use Rattle.std.specs.Prelude.{not}
use Rattle.std.specs.List.{AllByRecursion}
use Rattle.std.proofs.lemmas.Bool.{or_left, or_right, or_cases, eq-eqb, eqb-true}
use Rattle.host_model.specs.Disk.{DiffersIn}
use Rattle.host_model.specs.Torn.{length-written_at}
use Rattle.host_model.specs.Writes.{Write, ranges_of, with_write, BeginInside, LieInside}
use Rattle.host_model.specs.WritesLaws.{DiffersIn-writes, length_kept}
use Rattle.space_model.specs.Apart.{In}
use Rattle.file_model.specs.declared.head.Head.{Head}
use Rattle.file_model.specs.Layout.{segment_end, open_byte, closed_byte}
use Rattle.file_model.specs.LayoutLaws.{in_segment, segment_ends, unit_whole}
use Rattle.file_model.specs.Header.{located, segments_in}
use Rattle.file_model.specs.Block.{Block}
use Rattle.file_model.specs.View.{Units, units_in}
use Rattle.file_model.specs.Gates.{is_among, opened, closed}
use Rattle.file_model.specs.Images.{ImagesAgree}
use Rattle.file_model.specs.GateWrites.{gate_writes, AreWhole, OnlyGatesDiffer}
use Rattle.file_model.specs.BodyWrites.{Body, body_writes, HasRoom, IsPacked, StandsPacked}
use Rattle.file_model.specs.Flush.{IsFlushable, news, with_bodies, with_news, without_olds}
use Rattle.book_model.specs.Below.{WriteLaws}
use Rattle.book_model.proofs.Blocks.{of_all, open_unit, unit_open}

-- ---- writes that end inside a file

other_length : (ws : List Write) (file image : List ℕ) → length image ≡ length file → LieInside ws file → LieInside ws image
other_length [] file image long inside = tt
other_length (w ∷ ws) file image long inside = (let first = inside.0 in omega arith, other_length ws file image long inside.1)

begin_inside : (ws : List Write) (file : List ℕ) → LieInside ws file → BeginInside ws file
begin_inside [] file inside = tt
begin_inside (w ∷ ws) file inside =
    let first = inside.0 in
    let long : length (with_write file w) ≡ length file = let l = length-written_at w.at w.bytes file (omega arith) in omega arith in
    (omega arith, begin_inside ws (with_write file w) (other_length ws file (with_write file w) long inside.1))

bodies_inside : (n : ℕ) (image : List ℕ) (bodies : List Body) → AllByRecursion (HasRoom n image) bodies → LieInside (body_writes n bodies) image
bodies_inside n image [] room = tt
bodies_inside n image (b ∷ bs) room = (
  (let f = room.0.fits in let e = room.0.ends in let w = room.0.whole in omega arith),
  bodies_inside n image bs room.1,
)

gates_inside : (n byte : ℕ) (us image : List ℕ) → 0 < n → AreWhole n us image → LieInside (gate_writes n byte us) image
gates_inside n byte [] image some whole = tt
gates_inside n byte (u ∷ us) image some whole =
    let a = in_segment n u some in
    let e = segment_ends n u in
    let w = whole u (or_left (u == u) (is_among us u) (eq-eqb u u refl)) in
    let below = a.gate_below in
    let from = a.unit_from in
    let ends = a.unit_ends in
    (omega arith, gates_inside n byte us image some (λ x among. whole x (or_right (u == x) (is_among us x) among)))

pub record BodyAt (bodies : List Body) (u : ℕ) : Type 0 where
  pub body : Body
  pub among : In body bodies
  pub at : body.unit ≡ u

pub body_at : (bodies : List Body) (u : ℕ) → is_among (news bodies) u ≡ true → BodyAt bodies u
body_at [] u e = absurd (cc e)
body_at (b ∷ bs) u e = ⊎_elim
    (λ here. record { body = b; among = inl refl; at = eqb-true b.unit u here })
    (λ later. let r = body_at bs u later in record { body = r.body; among = inr r.among; at = r.at })
    (or_cases (b.unit == u) (is_among (news bs) u) e)

pub among_news : (bodies : List Body) (b : Body) → In b bodies → is_among (news bodies) b.unit ≡ true
among_news [] b a = absurd a
among_news (x ∷ xs) b a = ⊎_elim
    (λ here. or_left (x.unit == b.unit) (is_among (news xs) b.unit) (eq-eqb x.unit b.unit (ap (λ (y : Body). y.unit) here)))
    (λ later. or_right (x.unit == b.unit) (is_among (news xs) b.unit) (among_news xs b later))
    a

-- ---- the file when all is written

module _ (laws : WriteLaws) (n : ℕ) (h : Head) (bodies : List Body) (olds file : List ℕ) (some : 0 < n) (can : IsFlushable n h bodies olds file) where
  abbrev old : Units
  old = units_in n h file

  abbrev mid : List ℕ
  mid = with_bodies n bodies file

  abbrev open_file : List ℕ
  open_file = with_news n bodies file

  abbrev done : List ℕ
  done = without_olds n bodies olds file

  abbrev now : Units
  now = units_in n h done

  mid_differs : DiffersIn (ranges_of (body_writes n bodies)) file mid
  mid_differs = DiffersIn-writes (body_writes n bodies) file (begin_inside (body_writes n bodies) file (bodies_inside n file bodies can.room))

  mid_long : length mid ≡ length file
  mid_long = length_kept (body_writes n bodies) file mid (bodies_inside n file bodies can.room) mid_differs

  agree : ImagesAgree n h file mid
  agree = (laws.torn_bodies n h bodies file mid some (record { page = can.page; room = can.room; blocks = can.taken.blocks; free = can.free }) mid_differs).1

  -- what stood behind an open gate still stands there
  mid_stands : (u : ℕ) → u < old.count → old.is_open u ≡ true → (units_in n h mid).stands u ≡ old.stands u
  mid_stands u l o =
      let there = unit_open old.is_open old.stands old.count 0 u (omega arith) (omega arith) o in
      let same = ap (λ v. v.open_units) (laws.seen n h file mid agree) in
      let r = open_unit (units_in n h mid).is_open (units_in n h mid).stands (units_in n h mid).count 0 (record { unit = u; stands = old.stands u })
      (subst (λ os. In (record { unit = u; stands = old.stands u }) os) (sym same) there) in
      sym r.is

  news_whole : AreWhole n (news bodies) mid
  news_whole u a =
      let r = body_at bodies u a in
      let whole = (of_all (HasRoom n file) bodies r.body can.room r.among).whole in
      let long = mid_long in
      subst (λ x. segment_end n x ≤ length mid) r.at (omega arith)

  open_differs : OnlyGatesDiffer n (news bodies) mid open_file
  open_differs =
      let writes = gate_writes n open_byte (news bodies) in
      let page = can.page in
      let long = mid_long in
      laws.torn_gates n open_byte (news bodies) mid open_file some (omega arith) news_whole
      (DiffersIn-writes writes mid (begin_inside writes mid (gates_inside n open_byte (news bodies) mid some news_whole)))

  olds_whole : AreWhole n olds open_file
  olds_whole u a =
      let inside = unit_whole n u (segments_in n h file) file some (can.counted u a) (omega arith) in
      let long = mid_long in
      let same = open_differs.long in
      omega arith

  done_differs : OnlyGatesDiffer n olds open_file done
  done_differs =
      let writes = gate_writes n closed_byte olds in
      let page = can.page in
      let long = mid_long in
      let same = open_differs.long in
      laws.torn_gates n closed_byte olds open_file done some (omega arith) olds_whole
      (DiffersIn-writes writes open_file (begin_inside writes open_file (gates_inside n closed_byte olds open_file some olds_whole)))

  done_long : length done ≡ length file
  done_long = done_differs.long ∙ open_differs.long ∙ mid_long

  count_of : (image : List ℕ) → length image ≡ length file → (units_in n h image).count ≡ old.count
  count_of image long = rw long refl

  pub now_count : now.count ≡ old.count
  now_count = count_of done done_long

  pub now_stands : (u : ℕ) → u < old.count → now.stands u ≡ (units_in n h mid).stands u
  now_stands u l =
      let in_mid = count_of mid mid_long in
      let in_open = count_of open_file (open_differs.long ∙ mid_long) in
      done_differs.behind h u (omega arith) ∙ open_differs.behind h u (omega arith)

  pub stays : (u : ℕ) → u < old.count → old.is_open u ≡ true → now.stands u ≡ old.stands u
  stays u l o = now_stands u l ∙ mid_stands u l o

  pub comes : (b : Body) (t : Block) → In b bodies → IsPacked n h b t → b.unit < old.count → now.stands b.unit ≡ Ok t
  comes b t a packed l = now_stands b.unit l ∙ of_all (StandsPacked n h mid) bodies b (laws.bodies_stand n h bodies file some can.room can.apart) a t packed

  pub gates : (u : ℕ) → u < old.count → now.is_open u ≡ closed olds (opened (news bodies) old.is_open) u
  gates u l =
      laws.gates_closed n olds open_file u some olds_whole
      ∙ ap (λ g. g && not (is_among olds u)) (laws.gates_opened n (news bodies) mid u some news_whole)
      ∙ ap (λ g. (g || is_among (news bodies) u) && not (is_among olds u)) (agree.gates u l)

  pub header : located done ≡ located file
  header = (laws.flushed n h bodies olds file some can).header
