-- FREE and REDACT: what they fill a range of an object with.
use Rattle.std.specs.Prelude.{ℕ, Result}
use Rattle.zst_model.specs.declared.refusals.apply_fault.ApplyFault.{ApplyFault}
use Rattle.zst_model.specs.declared.states.item.Change.{Change}
use Rattle.zst_model.specs.declared.states.item.Change.TheVariants.{Redact}
use Rattle.zst_dnode.specs.declared.dnode.Dnode.{Dnode}
use Rattle.zst_stream.specs.Items.{free_change}
use Rattle.zst_apply.specs.Checks.{free_check, redact_check}
use Rattle.zst_apply.specs.declared.blocks.Fill.{Fill}
use Rattle.zst_apply.specs.declared.blocks.Fill.TheVariants as fills

-- the change that a record of it says
abbrev pub change_of : Fill → (offset count : ℕ) → Change
change_of fills.Holes offset count = free_change offset count
change_of fills.Redacted offset count = Redact offset count

-- what is judged of the range first
abbrev pub range_check : Fill → Dnode → (offset count : ℕ) → Result (Unit {0}) ApplyFault
range_check fills.Holes dnode offset count = free_check dnode.block_size offset count
range_check fills.Redacted dnode offset count = redact_check dnode.type_ dnode.block_size offset count
