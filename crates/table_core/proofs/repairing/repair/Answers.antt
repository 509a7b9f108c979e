use Rattle.std.proofs.lemmas.Result.{on_ok_weaker}
use Rattle.host_model.specs.Images.{images_then}
use Rattle.repair_scan.specs.Found.{KeepsTable}
use Rattle.store_model.specs.Keeping.{Keeps}
use Rattle.table_core.specs.Repairing.{IsMarked}
use Rattle.table_core.proofs.Repaired.{keeps_closing, repaired, rejects_there}
use Rattle.table_core.proofs.repairing.repair.Goals as goal

pub returns-clause-settled : goal.returns-clause-settled
returns-clause-settled g c =
    on_ok_weaker c.close_rejects.result (λ lasting. lasting c.in_ok-mark_for_repair.ensures.settled) c.close_rejects.ensures.lasting

pub returns-clause-any_moment : goal.returns-clause-any_moment
returns-clause-any_moment g c f told =
    let laws = c.what_a_repair_leaves.ensures in
    let h = c.args.place.now.head in
    let q = c.mark_for_repair.new.place in
    let old = g.H.Host.shows c.args.host.now in
    let mid = g.H.Host.shows c.mark_for_repair.new.host in
    let marked = c.in_ok-mark_for_repair.ensures.marked in
    images_then (Keeps h) (IsMarked h q) (KeepsTable q.head) (Keeps h) old mid (g.H.Host.shows c.close_rejects.new.host) f told
    c.mark_for_repair.ensures.only_disk.said (λ z k. k) (λ y z m k. keeps_closing laws h q f y m z k) marked
    (c.mark_for_repair.ensures.any_moment f told)
    (λ y e. c.close_rejects.ensures.any_moment c.in_ok-mark_for_repair.ensures.settled y e q.head
    (rejects_there h q c.args.found.now.rejects old.file mid.file laws c.requires.rejects marked y e))

pub returns-clause-file : goal.returns-clause-file
returns-clause-file g c =
    let laws = c.what_a_repair_leaves.ensures in
    let h = c.args.place.now.head in
    let q = c.mark_for_repair.new.place in
    let old = g.H.Host.shows c.args.host.now in
    let mid = g.H.Host.shows c.mark_for_repair.new.host in
    let marked = c.in_ok-mark_for_repair.ensures.marked in
    record {
      told = λ f told.
          let t = marked.told f told in
          let u = c.close_rejects.ensures.table.told t.0 t.1 in (
            u.0,
            u.1,
            keeps_closing laws h q f t.0 t.2 u.0 (u.2 q.head
                (rejects_there h q c.args.found.now.rejects old.file mid.file laws c.requires.rejects marked t.0 t.1)),
          );
      untold = λ none. c.close_rejects.ensures.table.untold (marked.untold none);
    }

pub returns-clause-repaired : goal.returns-clause-repaired
returns-clause-repaired g c =
    let laws = c.what_a_repair_leaves.ensures in
    let h = c.args.place.now.head in
    let q = c.mark_for_repair.new.place in
    let old = g.H.Host.shows c.args.host.now in
    let mid = g.H.Host.shows c.mark_for_repair.new.host in
    let marked = c.in_ok-mark_for_repair.ensures.marked in
    on_ok_weaker c.close_rejects.result (λ none. record {
      told = λ f told.
          let t = marked.told f told in
          let u = c.close_rejects.ensures.table.told t.0 t.1 in
          let are = rejects_there h q c.args.found.now.rejects old.file mid.file laws c.requires.rejects marked t.0 t.1 in
          (u.0, u.1, repaired laws h q f t.0 t.2 u.0 (u.2 q.head are) (none t.0 t.1 q.head are u.0 u.1));
      untold = λ no_file. c.close_rejects.ensures.table.untold (marked.untold no_file);
    }) c.close_rejects.ensures.none_left
