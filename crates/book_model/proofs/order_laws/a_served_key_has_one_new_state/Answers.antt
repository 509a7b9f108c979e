use Rattle.book_model.proofs.Waits.{put_again}
use Rattle.book_model.proofs.order_laws.a_served_key_has_one_new_state.Goals as goal

pub returns-clause-twice : goal.returns-clause-twice
returns-clause-twice c = put_again

pub returns-clause-moved : goal.returns-clause-moved
returns-clause-moved c = λ b change p segments unit. put_again b.cache change.key _ _
