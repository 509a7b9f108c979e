-- Faults in bytes that begin at another offset.
use Rattle.std.specs.Prelude.{ℕ, ◌+◌}
use Rattle.etf_model.specs.declared.fault.EtfFault.{EtfFault}
use Rattle.etf_model.specs.declared.fault.EtfFault.TheVariants.{Short, NotVersion, Unsupported, Compressed, IntegerRange, BadAtom, BadBits, RepeatedKey, Depth}
use Rattle.etf_model.specs.declared.fault.EtfFault.TheVariants.{LongTerm, Memory}

-- a fault so many bytes further on
abbrev pub moved : ℕ → EtfFault → EtfFault
moved n Short = Short
moved n (NotVersion at) = NotVersion (at + n)
moved n (Unsupported at tag) = Unsupported (at + n) tag
moved n (Compressed at) = Compressed (at + n)
moved n (IntegerRange at) = IntegerRange (at + n)
moved n (BadAtom at) = BadAtom (at + n)
moved n (BadBits at) = BadBits (at + n)
moved n (RepeatedKey at) = RepeatedKey (at + n)
moved n (Depth at) = Depth (at + n)
moved n (LongTerm at) = LongTerm (at + n)
moved n Memory = Memory
