-- A flush: the bodies of new blocks are written, then their gates are opened, and then those of the blocks that go are
-- closed. What it needs of a file, and what each key has after it. This project's own.
use Rattle.std.specs.Prelude.{◌≡◌, ◌≤◌, ◌<◌, ℕ, true, false, List, [], map, length}
use Rattle.std.specs.List.{AllByRecursion}
use Rattle.host_model.specs.Writes.{with_writes}
use Rattle.term_model.specs.TermValue.{TermValue}
use Rattle.table_model.specs.Table.{Table, objects_of}
use Rattle.file_model.specs.declared.head.Head.{Head}
use Rattle.file_model.specs.Layout.{page_size, open_byte, closed_byte}
use Rattle.file_model.specs.Header.{located}
use Rattle.file_model.specs.Block.{Block}
use Rattle.file_model.specs.View.{units_in, view}
use Rattle.file_model.specs.Taken.{table_of}
use Rattle.file_model.specs.Gates.{StandsOpen, OpenAtTaken, OldOrNew, is_among}
use Rattle.file_model.specs.GateWrites.{gate_writes, AreOpen}
use Rattle.file_model.specs.BodyWrites.{Body, body_writes, HasRoom, MeetsNone, RunsApart, Pairs, IsPacked}

-- ---- what it needs

-- A new block: its gate is closed, and a block of its key is among those that go.
pub record IsNew (per_segment : ℕ) (h : Head) (olds image : List ℕ) (b : Body) : Type 0 where
  pub block : Block
  pub packed : IsPacked per_segment h b block
  pub inside : b.unit < (units_in per_segment h image).count
  pub shut : (units_in per_segment h image).is_open b.unit ≡ false
  pub replaces : (u : ℕ) (s : Block) → StandsOpen (units_in per_segment h image).is_open (units_in per_segment h image) u s → s.key ≡ block.key
      → is_among olds u ≡ true

abbrev pub OtherKeys : ℕ → Head → Body → Body → Type 0
OtherKeys per_segment h b c = (s t : Block) → IsPacked per_segment h b s → IsPacked per_segment h c t → s.key ≡ t.key → ⊥

-- New blocks, the units of the blocks that go, and an image whose open gates stand at taken units alone.
pub record IsFlushable (per_segment : ℕ) (h : Head) (bodies : List Body) (olds image : List ℕ) : Type 0 where
  pub page : page_size ≤ length image
  pub taken : OpenAtTaken (units_in per_segment h image)
  pub room : AllByRecursion (HasRoom per_segment image) bodies
  pub free : AllByRecursion (MeetsNone (units_in per_segment h image)) bodies
  pub new : AllByRecursion (IsNew per_segment h olds image) bodies
  -- no two new blocks meet or share a key
  pub apart : Pairs RunsApart bodies
  pub keys : Pairs (OtherKeys per_segment h) bodies
  -- the units of the blocks that go are open
  pub counted : (u : ℕ) → is_among olds u ≡ true → u < (units_in per_segment h image).count
  pub go : AreOpen per_segment olds image

-- ---- the images between its steps

abbrev pub news : List Body → List ℕ
news bodies = map (λ b. b.unit) bodies

-- the bodies stand
abbrev pub with_bodies : ℕ → List Body → List ℕ → List ℕ
with_bodies per_segment bodies image = with_writes (body_writes per_segment bodies) image

-- and their gates are open
abbrev pub with_news : ℕ → List Body → List ℕ → List ℕ
with_news per_segment bodies image = with_writes (gate_writes per_segment open_byte (news bodies)) (with_bodies per_segment bodies image)

-- and those of the old blocks are closed
abbrev pub without_olds : ℕ → List Body → List ℕ → List ℕ → List ℕ
without_olds per_segment bodies olds image = with_writes (gate_writes per_segment closed_byte olds) (with_news per_segment bodies image)

abbrev pub table_in : ℕ → Head → List ℕ → Table
table_in per_segment h image = table_of (view h (units_in per_segment h image))

-- the table when all is done
abbrev pub flushed : ℕ → Head → List Body → List ℕ → List ℕ → Table
flushed per_segment h bodies olds image = table_in per_segment h (without_olds per_segment bodies olds image)

-- ---- what a stop may leave

-- The header is as before, and each key has what it had or what it is to have.
pub record IsBetween (per_segment : ℕ) (h : Head) (bodies : List Body) (olds old now : List ℕ) : Type 0 where
  pub header : located now ≡ located old
  pub table : OldOrNew (table_in per_segment h old) (flushed per_segment h bodies olds old) (table_in per_segment h now)

-- What each key is to have: that of its new block, nothing where its old block goes and none comes, and else what it had.
pub record IsFlushed (per_segment : ℕ) (h : Head) (bodies : List Body) (olds image : List ℕ) : Type 0 where
  pub header : located (without_olds per_segment bodies olds image) ≡ located image
  pub comes : AllByRecursion (λ b. (t : Block) → IsPacked per_segment h b t → objects_of (flushed per_segment h bodies olds image) t.key ≡ t.objects) bodies
  pub goes : (u : ℕ) (s : Block) → StandsOpen (units_in per_segment h image).is_open (units_in per_segment h image) u s → is_among olds u ≡ true
      → AllByRecursion (λ b. (t : Block) → IsPacked per_segment h b t → t.key ≡ s.key → ⊥) bodies
      → objects_of (flushed per_segment h bodies olds image) s.key ≡ []
  pub stays : (k : TermValue) → AllByRecursion (λ b. (t : Block) → IsPacked per_segment h b t → t.key ≡ k → ⊥) bodies
      → ((u : ℕ) (s : Block) → StandsOpen (units_in per_segment h image).is_open (units_in per_segment h image) u s → s.key ≡ k → is_among olds u ≡ false)
      → objects_of (flushed per_segment h bodies olds image) k ≡ objects_of (table_in per_segment h image) k
