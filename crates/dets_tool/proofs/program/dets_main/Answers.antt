use Rattle.std.proofs.Common.{◌≡◌, ℕ, List, Some, ◌∙◌, sym, subst}
use Rattle.dets_tool.specs.declared.job.Job.{Job}
use Rattle.dets_tool.specs.declared.job.Job.TheVariants.{Check}
use Rattle.dets_tool.specs.Job.{stated_job, RanJob}
use Rattle.dets_tool.proofs.Jobs.{no_words_kept, whole_job_is_served}
use Rattle.dets_tool.proofs.program.dets_main.Goals as goal

-- the words ask for one job
one_job : (words : List (List ℕ)) (made job : Job) → stated_job words ≡ Some made → stated_job words ≡ Some job → made ≡ job
one_job words made job is asked =
    let both : Some made ≡ Some job = sym is ∙ asked in
    cc

pub returns-in-Ok-clause-whole : goal.returns-in-Ok-clause-whole
returns-in-Ok-clause-whole g c = λ job stream words told ended whole.
    let same = one_job c.args.words.now c.in-Ok.job job c.in-Ok.ensures.ok words in
    whole_job_is_served job stream.left whole c.do_job.result _ _ _
    (subst (λ j. RanJob j c.do_job.result stream.left (g.S.Source.told c.do_job.new.source) (g.H.Host.shows c.args.host.now).said
    (g.H.Host.shows c.do_job.new.host).said) same (c.do_job.ensures.run stream told ended))

pub returns-in-Ok-clause-check : goal.returns-in-Ok-clause-check
returns-in-Ok-clause-check g c = λ path file words told.
    c.do_job.ensures.check path file (one_job c.args.words.now c.in-Ok.job (Check path) c.in-Ok.ensures.ok words) told

pub returns-in-Err-Memory-clause-run : goal.returns-in-Err-Memory-clause-run
returns-in-Err-Memory-clause-run g c = λ job stream words told ended. no_words_kept job stream _ _ told ended
