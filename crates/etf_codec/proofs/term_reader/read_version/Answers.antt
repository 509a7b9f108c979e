use Rattle.std.proofs.Common.{◌≡◌, ◌==◌, ◌∙◌, false, Err, ap, sym, arith}
use Rattle.std.proofs.lemmas.Bool.Decides.{nat_tests}
use Rattle.etf_model.specs.declared.fault.EtfFault.TheVariants.{Short, NotVersion}
use Rattle.etf_model.specs.declared.tags.TheConstants.{VERSION}
use Rattle.etf_codec.proofs.Bytes.{go_on_err, test_fails}
use Rattle.etf_codec.proofs.ReaderSteps.{version_there, version_missing}
use Rattle.etf_codec.proofs.term_reader.read_version.Goals as goal

pub returns-in_err-version-clause-reads : goal.returns-in_err-version-clause-reads
returns-in_err-version-clause-reads c =
    version_missing c.args.cursor.now c.byte.new.self c.from_residual.result _ c.from_residual.ensures.1 c.in_err-version.ensures.stays
    (c.in_err-version.ensures.reads c.args.cursor.now.offset)

pub returns-then-version-clause-reads : goal.returns-then-version-clause-reads
returns-then-version-clause-reads c =
    let apart : (c.in_ok-version.version == VERSION) ≡ false = grind (arith, nat_tests) in (
      go_on_err _ _ _ (test_fails _ c.in_ok-version.version c.byte.new.self (λ x. x == VERSION) (λ x. NotVersion c.args.cursor.now.offset)
          (c.in_ok-version.ensures.reads c.args.cursor.now.offset) apart)
          ∙ ap (λ start. Err (NotVersion start)) (sym c.offset-start.ensures),
      λ short. let clash : NotVersion c.offset-start.result ≡ Short = short in cc,
    )

pub returns-clause-reads : goal.returns-clause-reads
returns-clause-reads c =
    version_there c.args.cursor.now c.byte.new.self c.in_ok-version.version c.if-version.false (c.in_ok-version.ensures.reads c.args.cursor.now.offset)
