-- What torn and whole writes of bodies leave of an image.
use Rattle.std.proofs.Common.{◌≡◌, ◌≤◌, ◌<◌, ◌⊎◌, inl, inr, ⊎_elim, ℕ, ◌+◌, ◌-◌, ◌*◌, ◌^◌, false, ◌==◌, List, [], ◌∷◌, ◌++◌, length, take, drop}
use Rattle.std.proofs.Common.{refl, sym, ap, ◌∙◌, arith, slice_range, length-take, length-drop}
use Rattle.std.specs.Prelude.{min}
use Rattle.std.specs.List.{AllByRecursion}
use Rattle.std.proofs.Math.Seq.{take-add}
use Rattle.std.proofs.lemmas.Bool.{or_from}
use Rattle.std.proofs.lemmas.List.{ext_get_or, get_or-take, get_or-drop, drop-drop}
use Rattle.host_model.specs.Disk.{Range, in_doubt, is_in, DiffersIn}
use Rattle.host_model.specs.Torn.{outside_ranges, is_in-below, is_in-above, same_at, length-written_at}
use Rattle.host_model.specs.Writes.{Write, end_of, range_of, ranges_of, with_write, with_writes, LieInside, BeginInside, IsApart, AreApart, ReadBack}
use Rattle.host_model.specs.WritesLaws.{length_kept, ReadBack-writes}
use Rattle.file_model.specs.declared.head.Head.{Head}
use Rattle.space_model.specs.Sizes.{unit_size}
use Rattle.file_model.specs.Layout.{page_size, run_size, gate_at, unit_at, segment_end, open_byte, page_of, unit_bytes}
use Rattle.file_model.specs.LayoutLaws.{in_segment, gate_apart_from_unit, run_before, runs_apart}
use Rattle.file_model.specs.Header.{located}
use Rattle.file_model.specs.Block.{Block, standing}
use Rattle.file_model.specs.View.{Units, units_in}
use Rattle.file_model.specs.Gates.{StandsOpen}
use Rattle.file_model.specs.Images.{judged_size, ImagesAgree}
use Rattle.file_model.specs.BodyWrites.{Body, body_write, body_writes, HasRoom, MeetsNone, RunsApart, Pairs, MayWrite, StandsPacked}
use Rattle.file_model.proofs.Local.{judged_fits}
use Rattle.file_model.proofs.GateWrites.{same_index, located_same, count_same}

-- ---- where the writes are

body_end : (n : ℕ) (image : List ℕ) (b : Body) → HasRoom n image b → end_of (body_write n b) ≤ segment_end n b.unit
body_end n image b room = omega (arith, room.fits, room.ends)

-- no byte of one run is one of a body in a run apart from it
run_off : (n : ℕ) (image : List ℕ) (u units : ℕ) (b : Body) (k : ℕ) → 0 < n → HasRoom n image b
    → (u + units ≤ b.unit) ⊎ (b.unit + 2 ^ b.exp ≤ u) → unit_at n u ≤ k → k < unit_at n u + unit_size * units → k < segment_end n u
    → is_in (range_of (body_write n b)) k ≡ false
run_off n image u units b k some room apart from below inside = ⊎_elim
    (λ before.
    let e = run_before n u b.unit units (k + 1) some before (omega arith) (omega arith) in
    is_in-below (range_of (body_write n b)) k (omega (arith, e)))
    (λ behind.
    let e = runs_apart n b.unit u (2 ^ b.exp) some room.ends behind in
    is_in-above (range_of (body_write n b)) k (omega (arith, room.fits, e)))
    apart

gate_off : (n : ℕ) (image : List ℕ) (u : ℕ) (b : Body) → 0 < n → HasRoom n image b → is_in (range_of (body_write n b)) (gate_at n u) ≡ false
gate_off n image u b some room =
    let e = body_end n image b room in
    ⊎_elim
    (λ below. is_in-below (range_of (body_write n b)) (gate_at n u) below)
    (λ above. is_in-above (range_of (body_write n b)) (gate_at n u) (omega (arith, e)))
    (gate_apart_from_unit n u b.unit some)

page_off : (n : ℕ) (b : Body) (k : ℕ) → 0 < n → k < page_size → is_in (range_of (body_write n b)) k ≡ false
page_off n b k some l = let i = in_segment n b.unit some in is_in-below (range_of (body_write n b)) k (omega (arith, i.unit_behind_page))

-- ---- of all bodies

gates_off : (n : ℕ) (image : List ℕ) (bodies : List Body) (u : ℕ) → 0 < n → AllByRecursion (HasRoom n image) bodies
    → in_doubt (ranges_of (body_writes n bodies)) (gate_at n u) ≡ false
gates_off n image [] u some room = refl
gates_off n image (b ∷ bs) u some room = or_from _ _ (gate_off n image u b some room.0) (gates_off n image bs u some room.1)

pages_off : (n : ℕ) (bodies : List Body) (k : ℕ) → 0 < n → k < page_size → in_doubt (ranges_of (body_writes n bodies)) k ≡ false
pages_off n [] k some l = refl
pages_off n (b ∷ bs) k some l = or_from _ _ (page_off n b k some l) (pages_off n bs k some l)

blocks_off : (n : ℕ) (image : List ℕ) (bodies : List Body) (units : Units) (u : ℕ) (t : Block) (k : ℕ) → 0 < n → AllByRecursion (HasRoom n image) bodies
    → AllByRecursion (MeetsNone units) bodies → StandsOpen units.is_open units u t → unit_at n u ≤ k → k < unit_at n u + run_size t.exp → k < segment_end n u
    → in_doubt (ranges_of (body_writes n bodies)) k ≡ false
blocks_off n image [] units u t k some room free there a b c = refl
blocks_off n image (x ∷ xs) units u t k some room free there a b c = or_from _ _
    (run_off n image u (2 ^ t.exp) x k some room.0 (free.0 u t there) a b c)
    (blocks_off n image xs units u t k some room.1 free.1 there a b c)

pub bodies_inside : (n : ℕ) (image : List ℕ) (bodies : List Body) → AllByRecursion (HasRoom n image) bodies → LieInside (body_writes n bodies) image
bodies_inside n image [] room = tt
bodies_inside n image (b ∷ bs) room = (
  (let e = body_end n image b room.0 in let w = room.0.whole in omega arith),
  bodies_inside n image bs room.1,
)

-- ---- bytes

-- the first bytes of a part are as before where they are not in doubt
first_bytes : (ranges : List Range) (a c m : ℕ) (old new : List ℕ) → DiffersIn ranges old new → length new ≡ length old
    → ((k : ℕ) → a ≤ k → k < a + m → k < c → in_doubt ranges k ≡ false) → take m (slice_range new a c) ≡ take m (slice_range old a c)
first_bytes ranges a c m old new d long free =
    let n = c - a in
    ext_get_or 0 _ _ (simp (length-take, length-drop) (omega arith)) (λ k b.
    let w : k < min m (min n (length new - a)) = simp (length-take, length-drop) at b in
    let one : k < m = omega arith in
    let two : k < n = omega arith in
    let same = same_at new old (a + k) 0 (d.outside (a + k) (free (a + k) (omega arith) (omega arith) (omega arith))) (omega arith) in
    get_or-take m (take n (drop a new)) k 0 one ∙ get_or-take n (drop a new) k 0 two ∙ get_or-drop a new k 0 ∙ same.1
    ∙ sym (get_or-take m (take n (drop a old)) k 0 one ∙ get_or-take n (drop a old) k 0 two ∙ get_or-drop a old k 0))

-- a part of a list in two
slice_join : (xs : List ℕ) (a b c : ℕ) → a ≤ b → b ≤ c → slice_range xs a c ≡ slice_range xs a b ++ slice_range xs b c
slice_join xs a b c l m =
    let sum : c - a ≡ (b - a) + (c - b) = omega arith in
    let back : a + (b - a) ≡ b = omega arith in
    ap (λ n. take n (drop a xs)) sum ∙ take-add (b - a) (c - b) (drop a xs)
    ∙ ap (λ ys. take (b - a) (drop a xs) ++ take (c - b) ys) (drop-drop (b - a) a xs ∙ ap (λ n. drop n xs) back)

-- ---- torn

pub bodies_torn : (n : ℕ) (h : Head) (bodies : List Body) (old new : List ℕ) → 0 < n → MayWrite n h bodies old
    → DiffersIn (ranges_of (body_writes n bodies)) old new → (located new ≡ located old) × ImagesAgree n h old new
bodies_torn n h bodies old new some may d =
    let writes = body_writes n bodies in
    let long : length new ≡ length old = length_kept writes old new (bodies_inside n old bodies may.room) d in
    let front : page_of new ≡ page_of old = outside_ranges (ranges_of writes) 0 page_size old new d may.page (λ k a b. pages_off n bodies k some b) in (
      located_same old new long front,
      record {
        count = count_same n h old new long;
        gates = λ u l. ap (λ x. x == open_byte) (same_index new old (gate_at n u) (d.outside (gate_at n u) (gates_off n old bodies u some may.room)));
        bytes = λ u l o.
            let t = may.blocks u l o in
            let fits = judged_fits n h.kind h.keypos u (unit_bytes n old u) t.0 t.1 in
            let there : StandsOpen (units_in n h old).is_open (units_in n h old) u t.0 = record { inside = l; opened = o; stands = t.1 } in
            first_bytes (ranges_of writes) (unit_at n u) (segment_end n u) (judged_size n u (unit_bytes n old u)) old new d long
            (λ k a b c. blocks_off n old bodies (units_in n h old) u t.0 k some may.room may.free there a (omega (arith, fits)) c);
      },
    )

-- ---- whole

with_same_length : (ws : List Write) (old new : List ℕ) → length new ≡ length old → LieInside ws old → LieInside ws new
with_same_length [] old new long inside = tt
with_same_length (w ∷ ws) old new long inside = (let l = inside.0 in omega arith, with_same_length ws old new long inside.1)

-- writes that end inside a file begin inside it
pub begin_inside : (ws : List Write) (file : List ℕ) → LieInside ws file → BeginInside ws file
begin_inside [] file inside = tt
begin_inside (w ∷ ws) file inside =
    let first = inside.0 in
    let long : length (with_write file w) ≡ length file = let l = length-written_at w.at w.bytes file (omega arith) in omega arith in
    (omega arith, begin_inside ws (with_write file w) (with_same_length ws file (with_write file w) long inside.1))

writes_apart : (n : ℕ) (image : List ℕ) (b c : Body) → 0 < n → HasRoom n image b → HasRoom n image c → RunsApart b c
    → (end_of (body_write n b) ≤ (body_write n c).at) ⊎ (end_of (body_write n c) ≤ (body_write n b).at)
writes_apart n image b c some rb rc apart = ⊎_elim
    (λ l. let e = runs_apart n b.unit c.unit (2 ^ b.exp) some rb.ends l in inl (omega (arith, rb.fits, e)))
    (λ l. let e = runs_apart n c.unit b.unit (2 ^ c.exp) some rc.ends l in inr (omega (arith, rc.fits, e)))
    apart

apart_from : (n : ℕ) (image : List ℕ) (b : Body) (bs : List Body) → 0 < n → HasRoom n image b → AllByRecursion (HasRoom n image) bs
    → AllByRecursion (RunsApart b) bs → IsApart (body_write n b) (body_writes n bs)
apart_from n image b [] some own room apart = tt
apart_from n image b (c ∷ cs) some own room apart =
    (writes_apart n image b c some own room.0 apart.0, apart_from n image b cs some own room.1 apart.1)

all_apart : (n : ℕ) (image : List ℕ) (bs : List Body) → 0 < n → AllByRecursion (HasRoom n image) bs → Pairs RunsApart bs → AreApart (body_writes n bs)
all_apart n image [] some room apart = tt
all_apart n image (b ∷ bs) some room apart = (apart_from n image b bs some room.0 room.1 apart.0, all_apart n image bs some room.1 apart.1)

-- a body that is read back stands at the front of its unit
body_in_front : (n : ℕ) (old new : List ℕ) (b : Body) → HasRoom n old b
    → slice_range new (unit_at n b.unit) (end_of (body_write n b)) ≡ b.bytes
    → unit_bytes n new b.unit ≡ b.bytes ++ slice_range new (end_of (body_write n b)) (segment_end n b.unit)
body_in_front n old new b room read =
    let e = body_end n old b room in
    slice_join new (unit_at n b.unit) (end_of (body_write n b)) (segment_end n b.unit) (omega arith) e
    ∙ ap (λ bytes. bytes ++ slice_range new (end_of (body_write n b)) (segment_end n b.unit)) read

all_stand : (n : ℕ) (h : Head) (old new : List ℕ) (bs : List Body) → AllByRecursion (HasRoom n old) bs → ReadBack (body_writes n bs) new
    → AllByRecursion (StandsPacked n h new) bs
all_stand n h old new [] room read = tt
all_stand n h old new (b ∷ bs) room read = (
  (λ t packed. ap (standing n h.kind h.keypos b.unit) (body_in_front n old new b room.0 read.0)
      ∙ packed.stands (slice_range new (end_of (body_write n b)) (segment_end n b.unit))),
  all_stand n h old new bs room.1 read.1,
)

pub bodies_stand : (n : ℕ) (h : Head) (bodies : List Body) (old : List ℕ) → 0 < n → AllByRecursion (HasRoom n old) bodies → Pairs RunsApart bodies
    → AllByRecursion (StandsPacked n h (with_writes (body_writes n bodies) old)) bodies
bodies_stand n h bodies old some room apart =
    let writes = body_writes n bodies in
    let begin = begin_inside writes old (bodies_inside n old bodies room) in
    all_stand n h old (with_writes writes old) bodies room (ReadBack-writes writes old (all_apart n old bodies some room apart) begin)
