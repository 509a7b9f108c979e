-- The hash of a key, by the bytes of its canonical spelling behind the byte 131. This project's own.
use Rattle.std.specs.Prelude.{ℕ, List, ◌∷◌}
use Rattle.term_model.specs.Hash.{hash_of}
use Rattle.etf_model.specs.declared.tags.TheConstants.{VERSION}

abbrev pub hash_behind : List ℕ → ℕ
hash_behind bytes = hash_of (VERSION ∷ bytes)
