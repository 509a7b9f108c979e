-- Commands one after the other over books in memory, as worked rows write them. This project's own.
use Prim.Native.String.{String}
use Rattle.std.specs.Prelude.{ℕ, false, ◌==◌, List, [], ◌∷◌, codes, find, map, replicate, Option, Some, None, option_map}
use Rattle.term_model.specs.Hash.{hash_of}
use Rattle.term_model.specs.declared.kind.Kind.TheVariants.{Set}
use Rattle.space_model.specs.Sizes.{head_size}
use Rattle.file_model.specs.declared.block.Packed.{Packed}
use Rattle.file_model.specs.declared.entry.Entry.{Entry}
use Rattle.file_model.specs.declared.head.Located.{Located}
use Rattle.file_model.specs.declared.head.FileState.TheVariants.{Dirty}
use Rattle.write_cache.specs.Waiting.{state_of}
use Rattle.book_model.specs.declared.change.Change.{Change}
use Rattle.book_model.specs.Book.{Book, pending_entry}
use Rattle.book_model.specs.Planning.{planned}
use Rattle.book_model.specs.OfFile.{placed_at}
use Rattle.book_model.specs.Flushing.{settled}

-- a set that was just made, with at most so many segments
abbrev pub place_with : ℕ → ℕ → Located
place_with segments max = record {
  head = record { version = 1; state = Dirty; kind = Set; keypos = 1; segments = segments; max_segments = max; index = None };
  second = false;
  other_gate = false;
  whole = segments;
}

abbrev pub made : ℕ → Book
made max = record {
  place = place_with 0 max;
  space = record { segments = 0; taken = []; deferred = [] };
  directory = [];
  cache = [];
}

-- a block with one object, of 2 ^ exp units; its bytes do not matter here
abbrev pub block : ℕ → Packed
block exp = record { exp = exp; count = 1; block = replicate head_size 0 }

-- the entry of a key: that of its pending block, or else the one with its hash
abbrev pub or_filed : Option (Option Entry) → Option Entry → Option Entry
or_filed (Some pending) filed = pending
or_filed None filed = filed

abbrev pub entry_for : Book → List ℕ → Option Entry
entry_for b key = or_filed (option_map pending_entry (state_of b.cache key)) (find (λ e. e.hash == hash_of key) b.directory)

-- a key, and the exponent of its new block, none where no object is left
pub record Touch : Type 0 where
  pub key : List ℕ
  pub exp : Option ℕ

abbrev pub gets : String → ℕ → Touch
gets key exp = record { key = codes key; exp = Some exp }

abbrev pub loses : String → Touch
loses key = record { key = codes key; exp = None }

abbrev pub change : Book → Touch → Change
change b t = record { key = t.key; hash = hash_of t.key; old = entry_for b t.key; next = option_map block t.exp }

abbrev pub changes : Book → List Touch → List Change
changes b touches = map (change b) touches

-- a command of these touched keys, and some commands of one key each
abbrev pub command : ℕ → Book → List Touch → Book
command segment_units b touches = planned segment_units b (changes b touches)

abbrev pub after_each : ℕ → Book → List Touch → Book
after_each segment_units b [] = b
after_each segment_units b (t ∷ ts) = after_each segment_units (command segment_units b (t ∷ [])) ts

-- a flush, with the header's new number of segments
abbrev pub flushed : Book → Book
flushed b = settled (placed_at b (place_with b.space.segments b.place.head.max_segments))
