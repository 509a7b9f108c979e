-- The terms that readers read. This project's own.
use Rattle.std.specs.Prelude.{◌≡◌, ℕ, Bool, true, false, List, [], Result, Ok, Err, ◌⊎◌}
use Rattle.dets_term.specs.TermValue.{TermValue, atom, parts_depth, elements}
use Rattle.etf_model.specs.declared.fault.EtfFault.{EtfFault}
use Rattle.etf_model.specs.declared.fault.EtfFault.TheVariants.{Memory, BadAtom}
use Rattle.etf_model.specs.Layout.{is_name, characters}

-- a term without parts
abbrev pub IsLeaf : TermValue → Type 0
IsLeaf t = (parts_depth t ≡ 0) × (elements t ≡ [])

-- What bytes are as an atom's text, in UTF-8 or else in Latin-1. Memory may be wanting only where they are one.
abbrev pub IsAtomOf : Bool → List ℕ → ℕ → Result TermValue EtfFault → Type 0
IsAtomOf utf8 bytes term (Ok t) = (is_name utf8 bytes ≡ true) × (t ≡ atom (characters utf8 bytes))
IsAtomOf utf8 bytes term (Err fault) = ((is_name utf8 bytes ≡ true) × (fault ≡ Memory)) ⊎ ((is_name utf8 bytes ≡ false) × (fault ≡ BadAtom term))
