-- What a reading refuses is in the stream itself, and never that the input is cut.
use Rattle.zst_model.specs.declared.refusals.stream_fault.StreamFault.{StreamFault}
use Rattle.zst_model.specs.declared.refusals.stream_fault.StreamFault.TheVariants as faults
use Rattle.zst_stream.specs.Reading.{Outcome, waiting, faulty, complete}

-- a fault of the stream itself
abbrev pub IsFound : StreamFault → Type 0
IsFound (faults.Grammar at flaw) = Unit {0}
IsFound (faults.Checksum at stated found) = Unit {0}
IsFound (faults.Unsupported at lack) = Unit {0}
IsFound (faults.Truncated at) = ⊥

-- a reading that ends by a fault ends by such a one
abbrev pub FindsAtEnd : Outcome → Type 0
FindsAtEnd waiting = Unit {0}
FindsAtEnd (faulty fault) = IsFound fault
FindsAtEnd complete = Unit {0}
