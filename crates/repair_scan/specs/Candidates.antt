-- What is read at one open unit. This project's own.
use Rattle.std.specs.Prelude.{◌≡◌, ℕ, List, [], ◌∷◌, Option, None, Result, Ok, Err}
use Rattle.std.specs.Cow.{cow_slice_items}
use Rattle.term_model.specs.TermValue.{TermValue, key}
use Rattle.term_model.specs.IsTerm.{IsTerm}
use Rattle.etf_model.specs.Canonical.{canonical}
use Rattle.file_model.specs.declared.reject.Reason.{Reason}
use Rattle.file_model.specs.Block.{Block, Standing}
use Rattle.file_model.specs.Taken.{entry_of}
use Rattle.repair_scan.specs.declared.candidate.Candidate.{Candidate}

-- what is known of the block at a unit without its objects
pub record IsOfBlock (u : ℕ) (b : Block) (c : Candidate) : Type 0 where
  pub unit : b.unit ≡ u
  pub entry : c.entry ≡ entry_of b
  pub key : cow_slice_items c.key ≡ canonical b.key
  pub term : IsTerm b.key

abbrev pub IsRead : ℕ → Result Candidate Reason → Standing → Type 0
IsRead u (Ok c) s = (b : Block) × (s ≡ Ok b) × IsOfBlock u b c
IsRead u (Err reason) s = s ≡ Err reason

abbrev pub first_key : ℕ → List TermValue → Option TermValue
first_key keypos [] = None
first_key keypos (first ∷ rest) = key first keypos
