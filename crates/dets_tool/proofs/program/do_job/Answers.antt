use Rattle.dets_tool.proofs.program.do_job.Goals as goal

pub returns-in-Run-clause-run : goal.returns-in-Run-clause-run
returns-in-Run-clause-run g c = λ stream told ended. rw c.in-Run.is (c.run.ensures.ran stream told ended)

pub returns-in-Show-clause-run : goal.returns-in-Show-clause-run
returns-in-Show-clause-run g c = λ stream told ended. rw c.in-Show.is (c.run-in-Show.ensures.ran stream told ended)

pub returns-in-Encode-clause-run : goal.returns-in-Encode-clause-run
returns-in-Encode-clause-run g c = λ stream told ended. rw c.in-Encode.is (c.run-in-Encode.ensures.ran stream told ended)

pub returns-in-Decode-clause-run : goal.returns-in-Decode-clause-run
returns-in-Decode-clause-run g c = λ stream told ended. rw c.in-Decode.is (c.run-in-Decode.ensures.ran stream told ended)
