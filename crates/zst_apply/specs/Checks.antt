-- What is judged of a range of bytes before it is taken as a range of indices, in the order of the definition.
use Rattle.std.specs.Prelude.{ℕ, ◌==◌, ◌||◌, ◌&&◌, not, Result, Ok}
use Rattle.zst_model.specs.declared.refusals.apply_fault.ApplyFault.{ApplyFault}
use Rattle.zst_model.specs.declared.refusals.apply_fault.ApplyFault.TheVariants.{SizeDiffers, Unaligned, NotUserData}
use Rattle.zst_model.specs.states.AppliedItems.{is_unaligned, unless}
use Rattle.zst_record.specs.Formats.{to_end}

-- WRITE: a whole block, at a multiple of the block size
abbrev pub write_check : (size offset count : ℕ) → Result (Unit {0}) ApplyFault
write_check size offset count = unless (not (count == size)) SizeDiffers (unless (is_unaligned size offset) Unaligned (Ok tt))

-- FREE: multiples of the block size; a length to the end isn't one
abbrev pub free_check : (size offset count : ℕ) → Result (Unit {0}) ApplyFault
free_check size offset count = unless (is_unaligned size offset || (not (count == to_end) && is_unaligned size count)) Unaligned (Ok tt)

-- REDACT: user data, and multiples of the block size
abbrev pub redact_check : (kind size offset count : ℕ) → Result (Unit {0}) ApplyFault
redact_check kind size offset count = unless (not (kind == 19 || kind == 23)) NotUserData (unless (is_unaligned size offset || is_unaligned size count) Unaligned (Ok tt))
