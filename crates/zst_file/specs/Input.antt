-- What an input shows.
use Rattle.zst_outside.specs.States.{SourceState}
use Rattle.zst_file.specs.Streams.{text_of, is_ended}
use Rattle.zst_file.specs.declared.input.Input.{Input}

-- what it gave so far, by its calls
abbrev pub input_state : {R : Type 0} → Input R → SourceState
input_state it = record { given = text_of it.log.events; ended = is_ended it.log.events; faults = it.faults }

-- the reader under it
abbrev pub reader_of : {R : Type 0} → Input R → R
reader_of it = it.inner
