-- How a note spells an event.
use Rattle.std.specs.Prelude.{ℕ, zero, suc, Bool, List, slice_index, ◌==◌}
use Rattle.zst_file.specs.Event.{Event, read, wrote, synced, gave, took}

-- the event of this kind, at this place or with so much room
abbrev pub spelled : ℕ → ℕ → Bool → List ℕ → Event
spelled zero place done bytes = read place done bytes
spelled (suc zero) place done bytes = wrote place done bytes
spelled (suc (suc zero)) place done bytes = synced done
spelled (suc (suc (suc zero))) place done bytes = gave place bytes
spelled (suc (suc (suc (suc more)))) place done bytes = took bytes

-- the numbers are a kind, a place, and 1 for success
abbrev pub event_of : List ℕ → List ℕ → Event
event_of numbers bytes = spelled (slice_index numbers 0) (slice_index numbers 1) (slice_index numbers 2 == 1) bytes
