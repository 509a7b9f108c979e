-- A fault that is told is within the input or at its end.
use Rattle.std.proofs.Common.{◌≡◌, ℕ, ◌+◌, ◌≤◌, Bool, true, false, List, [], ◌++◌, length, length-append, inl, inr, arith}
use Rattle.text_model.specs.declared.fault.TextWhy.{TextWhy}
use Rattle.text_model.specs.declared.fault.TextWhy.TheVariants.{BadToken, BadUtf8, Depth, IntegerRange, RepeatedKey, Unfinished, TooLong}
use Rattle.text_model.specs.Token.{Token}
use Rattle.text_model.specs.Faults.{IsNextToken, FaultOf}
use Rattle.text_model.specs.Script.{fault, no_term, IsFault, IsAnswer}

next_within : (bytes : List ℕ) (tokens : List Token) (at : ℕ) (rest : List ℕ) → IsNextToken bytes tokens at rest → at ≤ length bytes
next_within bytes tokens at rest n = let offset : length bytes ≡ at + length rest = n.well.offset in omega arith

fault_within : (bytes : List ℕ) (at : ℕ) (why : TextWhy) → FaultOf bytes at why → at ≤ length bytes
fault_within bytes at BadToken (inl b, short) = next_within bytes b.tokens at b.rest b.next
fault_within bytes at BadToken (inr b, short) = next_within bytes b.before at b.last.first b.last.begins
fault_within bytes at BadUtf8 (inl b, short) = omega (arith, b.there)
fault_within bytes at BadUtf8 (inr b, short) = omega (arith, b.there)
fault_within bytes at Depth (b, short) = next_within bytes b.tokens at b.rest b.next
fault_within bytes at IntegerRange (b, short) = next_within bytes b.tokens at b.rest b.next
fault_within bytes at RepeatedKey (b, short) = next_within bytes b.before at b.last.first b.last.begins
fault_within bytes at Unfinished b = omega (arith, b.end)
fault_within bytes at TooLong b = omega (arith, b.there)

either_within : (finished : Bool) (bytes : List ℕ) (at : ℕ) (why : TextWhy) → IsFault finished bytes at why → at ≤ length bytes
either_within true bytes at why f = fault_within bytes at why f
either_within false bytes at why f = omega (arith, fault_within (bytes ++ []) at why (f []), length-append bytes [])

pub answer_within : (finished : Bool) (bytes : List ℕ) (at : ℕ) (why : TextWhy) → IsAnswer finished bytes (no_term (fault at why)) → at ≤ length bytes
answer_within finished bytes at why a = either_within finished bytes at why a.1
