use Rattle.std.proofs.Common.{◌≡◌, ◌∙◌, ℕ, List, Some, refl, sym, ap, subst}
use Rattle.host_model.specs.Disk.{WhereTold}
use Rattle.host_model.specs.Host.{Shown}
use Rattle.host_model.specs.Images.{LeavesImages, images_weaker, images_then}
use Rattle.file_model.specs.declared.head.Head.{Head}
use Rattle.repair_scan.specs.declared.found.Found.{Found}
use Rattle.flush_engine.specs.Meaning.{book_of}
use Rattle.store_model.specs.Keeping.{Keeps}
use Rattle.table_core.proofs.Marked.{keeps_itself}
use Rattle.table_core.proofs.Loaded.{loaded}
use Rattle.table_core.proofs.loading.load.Goals as goal

-- the file as it is, and then images that keep its table
still_then : (h : Head) (old mid new : Shown) (f : List ℕ) → old.file ≡ Some f → mid.said ≡ old.said → mid.file ≡ old.file → Keeps h f f
    → LeavesImages old mid (λ image. image ≡ f) → WhereTold mid.file (λ y. LeavesImages mid new (Keeps h y)) → LeavesImages old new (Keeps h f)
still_then h old mid new f told said same itself first later =
    images_then (λ x z. z ≡ x) (λ x y. y ≡ x) (Keeps h) (Keeps h) old mid new f told said
    (λ z e. subst (Keeps h f) (sym e) itself) (λ y z e k. subst (λ x. Keeps h x z) e k)
    (record { told = λ x e. (x, same ∙ e, refl); untold = λ none. same ∙ none }) first later

pub returns-in_err-settle-clause-any_moment : goal.returns-in_err-settle-clause-any_moment
returns-in_err-settle-clause-any_moment g c settled f told =
    let h = c.args.read.place.head in
    images_weaker (λ image. image ≡ f) (Keeps h f) (g.H.Host.shows c.args.host.now) (g.H.Host.shows c.settle.new.host)
    (λ image e. subst (Keeps h f) (sym e) (keeps_itself c.what_a_repair_leaves.ensures c.args.read.place f (c.requires.read f told).place_is))
    (c.settle.ensures.any_moment settled f told)

pub returns-in_err-repair_where_needed-clause-any_moment : goal.returns-in_err-repair_where_needed-clause-any_moment
returns-in_err-repair_where_needed-clause-any_moment g c settled f told =
    still_then c.args.read.place.head (g.H.Host.shows c.args.host.now) (g.H.Host.shows c.settle.new.host)
    (g.H.Host.shows c.repair_where_needed.new.host) f told c.settle.ensures.only_disk.said c.settle.ensures.file
    (keeps_itself c.what_a_repair_leaves.ensures c.args.read.place f (c.requires.read f told).place_is)
    (c.settle.ensures.any_moment settled f told) c.repair_where_needed.ensures.any_moment

pub returns-in_err-opened_book-clause-any_moment : goal.returns-in_err-opened_book-clause-any_moment
returns-in_err-opened_book-clause-any_moment g c settled f told =
    still_then c.args.read.place.head (g.H.Host.shows c.args.host.now) (g.H.Host.shows c.settle.new.host)
    (g.H.Host.shows c.repair_where_needed.new.host) f told c.settle.ensures.only_disk.said c.settle.ensures.file
    (keeps_itself c.what_a_repair_leaves.ensures c.args.read.place f (c.requires.read f told).place_is)
    (c.settle.ensures.any_moment settled f told) c.repair_where_needed.ensures.any_moment

pub returns-clause-any_moment : goal.returns-clause-any_moment
returns-clause-any_moment g c settled f told =
    still_then c.args.read.place.head (g.H.Host.shows c.args.host.now) (g.H.Host.shows c.settle.new.host)
    (g.H.Host.shows c.repair_where_needed.new.host) f told c.settle.ensures.only_disk.said c.settle.ensures.file
    (keeps_itself c.what_a_repair_leaves.ensures c.args.read.place f (c.requires.read f told).place_is)
    (c.settle.ensures.any_moment settled f told) c.repair_where_needed.ensures.any_moment

pub returns-clause-loaded : goal.returns-clause-loaded
returns-clause-loaded g c =
    let h = c.args.read.place.head in
    let q = c.repair_where_needed.new.read.place in
    let ready = c.in_ok-repair_where_needed.ensures.ready in
    record {
      told = λ f told.
          let t = ready.told f (c.settle.ensures.file ∙ told) in (
            t.0,
            t.1,
            loaded h q f t.0 (book_of c.in_ok-opened_book.field-0) c.repair_where_needed.new.read.found.entries t.2
                c.in_ok-opened_book.ensures.place c.in_ok-opened_book.ensures.segments
                (ap (λ (x : Found). x.entries) c.repair_where_needed.ensures.found ∙ (c.requires.read f told).entries)
                c.in_ok-opened_book.ensures.of_file,
          );
      untold = λ none. ready.untold (c.settle.ensures.file ∙ none);
    }
