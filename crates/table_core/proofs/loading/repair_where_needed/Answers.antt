use Rattle.table_core.proofs.Marked.{keeps_itself}
use Rattle.table_core.proofs.Loaded.{ready_repaired, ready_as_it_is}
use Rattle.table_core.proofs.loading.repair_where_needed.Goals as goal

pub returns-in_ok-repair-clause-ready : goal.returns-in_ok-repair-clause-ready
returns-in_ok-repair-clause-ready g c = record {
  told = λ f told.
      let t = c.in_ok-repair.ensures.repaired.told f told in
      (t.0, t.1, ready_repaired c.args.read.now.place.head c.repair.new.place f t.0 t.2);
  untold = c.in_ok-repair.ensures.repaired.untold;
}

pub returns-else-force-clause-ready : goal.returns-else-force-clause-ready
returns-else-force-clause-ready g c = record {
  told = λ f told. (
    f,
    told,
    ready_as_it_is c.args.read.now.place c.args.read.now.found c.args.read.now.needs_repair f (c.requires.read f told) c.if-read.false,
  );
  untold = λ none. none;
}

pub returns-else-force-clause-file : goal.returns-else-force-clause-file
returns-else-force-clause-file g c = record {
  told = λ f told.
      (f, told, keeps_itself c.what_a_repair_leaves.ensures c.args.read.now.place f (c.requires.read f told).place_is);
  untold = λ none. none;
}
