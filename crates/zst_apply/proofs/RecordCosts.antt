-- What a record's block takes of the free sectors.
use Rattle.std.proofs.Common.{◌≡◌, ℕ, ◌+◌, ◌/◌, subst, arith}
use Rattle.std.specs.Prelude.{Option}
use Rattle.zst_block.specs.IoStates.{IoState}
use Rattle.zst_block.specs.IoCalls.{Works}
use Rattle.zst_block.specs.declared.fault.BlockFault.{BlockFault}
use Rattle.zst_block.proofs.IoCallLemmas.{Works-more}

-- a block has as many sectors as the record states of its payload
pub works_sized : {count size : ℕ} {old new : IoState} {stop : Option BlockFault} → count ≡ size
    → Works (640 + count / 512) (count / 512) old new stop → Works (size / 512 + 640) (size / 512) old new stop
works_sized {old = old} {new = new} {stop = stop} is works =
    subst (λ (n : ℕ). Works (n / 512 + 640) (n / 512) old new stop) is (Works-more (omega arith) works)
