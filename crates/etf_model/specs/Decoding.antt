-- What decoding answers. This project's own.
use Rattle.std.specs.Prelude.{ℕ, List, Result}
use Rattle.dets_term.specs.TermValue.{TermValue}
use Rattle.etf_model.specs.declared.fault.EtfFault.{EtfFault}
use Rattle.etf_model.specs.Answers.{Answers}
use Rattle.etf_model.specs.Spelling.{spelling}

-- A term and the number of bytes in front that spell it. Short where the bytes end before a term does and break no
-- rule. Any other fault where a front of them breaks a rule with its last byte, so that this is the fault. Want of
-- memory may take the place of any answer.
abbrev pub IsDecoding : List ℕ → Result (TermValue × ℕ) EtfFault → Type 0
IsDecoding bytes answer = Answers spelling 0 bytes answer
