-- How far a reader is.
use Rattle.std.specs.Prelude.{ℕ, Option, Some, None, Result, Ok, Err}
use Rattle.zst_record.specs.declared.head.Head.{Head}
use Rattle.zst_model.specs.declared.refusals.stream_fault.StreamFault.{StreamFault}
use Rattle.zst_model.specs.declared.refusals.stream_fault.StreamFault.TheVariants.{Truncated}
use Rattle.zst_stream.specs.Reading.{Closing, closing}
use Rattle.zst_reader.specs.declared.mark.Mark.{Mark}
use Rattle.zst_reader.specs.declared.mark.Mark.TheVariants.{Open, Failed, Ended}

abbrev pub mark_by : Option Closing → Mark
mark_by None = Open
mark_by (Some c) = Ended

-- after END nothing more is found
abbrev pub mark_after : Head → Mark
mark_after head = mark_by (closing head)

-- what the end of the input means after so many bytes
abbrev pub finish_of : Mark → ℕ → Result (Unit {0}) StreamFault
finish_of Open pushed = Err (Truncated pushed)
finish_of (Failed fault) pushed = Err fault
finish_of Ended pushed = Ok tt
