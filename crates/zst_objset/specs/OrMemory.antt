-- What a call tells that works on an object set and may want memory.
use Rattle.std.specs.Prelude.{Option, None, Result, Ok, Err}
use Rattle.zst_block.specs.declared.fault.BlockFault.{BlockFault}
use Rattle.zst_tree.specs.Faults.{IfFault}
use Rattle.zst_tree.specs.declared.or_memory.OrMemory.{OrMemory}
use Rattle.zst_tree.specs.declared.or_memory.OrMemory.TheVariants.{Fault, Memory}
use Rattle.zst_objset.specs.Answers as sets
use Rattle.zst_objset.specs.Damage.{DamageFact, IfSetDamaged}
use Rattle.zst_objset.specs.declared.fault.ObjFault.{ObjFault}

-- the block fault at which it stopped
abbrev pub stop_of : {T : Type 0} → Result T (OrMemory ObjFault) → Option BlockFault
stop_of (Ok value) = None
stop_of {T = T} (Err (Fault fault)) = sets.stop_of {T = T} (Err fault)
stop_of (Err Memory) = None

-- it is so of the damage that it tells
abbrev pub IfTold : {T : Type 0} → Result T (OrMemory ObjFault) → DamageFact → Type 0
IfTold {T = T} result P = IfFault result (λ fault. IfSetDamaged {T = T} (Err fault) P)
