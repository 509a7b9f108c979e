-- Lemmas: the reading of a spelling agrees with its relations, and no break of one is that a term is too
-- long, or want of memory.
use Rattle.std.proofs.Common.{ℕ}
use Rattle.etf_model.specs.declared.fault.EtfFault.TheVariants.{LongTerm, Memory}
use Rattle.etf_model.specs.Exact.{IsExact}
use Rattle.etf_model.specs.Spelling.{number, count, body_of, spelling}
use Rattle.etf_model.specs.Exactness.{exact-kept}
use Rattle.etf_model.specs.StrayFaults.{Lacks, lacks-kept, memory_is_stray, long_is_stray}
use Rattle.etf_model.specs.SpellingKept.{number-kept, count-kept, body_of-kept, spelling-kept}

pub spelling-exact : IsExact spelling
spelling-exact = spelling-kept (λ A F. IsExact F) exact-kept

pub spelling_lacks_long : (at : ℕ) → Lacks (LongTerm at) spelling
spelling_lacks_long at = spelling-kept (λ A F. Lacks (LongTerm at) F) (lacks-kept (LongTerm at) (long_is_stray at))

pub spelling_lacks_memory : Lacks Memory spelling
spelling_lacks_memory = spelling-kept (λ A F. Lacks Memory F) (lacks-kept Memory memory_is_stray)

-- ---- its parts

pub number-exact : (size : ℕ) → IsExact (number size)
number-exact size = number-kept (λ A F. IsExact F) exact-kept size

pub count-exact : (levels size : ℕ) → IsExact (count levels size)
count-exact levels size = count-kept (λ A F. IsExact F) exact-kept levels size

pub body_of-exact : (levels tag : ℕ) → IsExact (body_of levels tag)
body_of-exact levels tag = body_of-kept (λ A F. IsExact F) exact-kept levels tag
