use Rattle.book_model.proofs.below.the_ledger_below.Goals as goal

pub returns : goal.returns
returns c = record {
  same_place = c.a_place_depends_on_the_held_runs_alone.ensures;
  put = c.the_ledger_goes_along.ensures.put;
  block = c.the_ledger_goes_along.ensures.block;
}
