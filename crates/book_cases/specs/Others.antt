-- Changes of a command that do not meet. This project's own.
use Rattle.book_model.specs.declared.change.Change.{Change}
use Rattle.book_model.specs.Planning.{OtherKey, OtherEntry}

-- a change has another key and another entry
pub record IsOther (earlier change : Change) : Type 0 where
  pub key : OtherKey earlier change
  pub entry : OtherEntry earlier change
