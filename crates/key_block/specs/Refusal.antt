-- Why a payload has no term, by the fault of its decoding. This project's own.
use Rattle.etf_model.specs.declared.fault.EtfFault.{EtfFault}
use Rattle.etf_model.specs.declared.fault.EtfFault.TheVariants.{Memory as NoMemoryToDecode}
use Rattle.key_block.specs.declared.fault.BlockFault.{BlockFault}
use Rattle.key_block.specs.declared.fault.BlockFault.TheVariants.{NotTerm, Memory}

abbrev pub refusal : EtfFault → BlockFault
refusal NoMemoryToDecode = Memory
refusal other = NotTerm
