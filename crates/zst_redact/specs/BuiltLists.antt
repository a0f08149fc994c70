-- What the building of a redaction bookmark's list answers.
use Rattle.std.specs.Prelude.{◌≡◌, ◌≤◌, ◌<◌, true, length, Option, Some, None, Result, Ok, Err}
use Rattle.zst_block.specs.declared.fault.BlockFault.{BlockFault}
use Rattle.zst_model.specs.declared.states.cell.Run.{Run}
use Rattle.zst_model.specs.fields.Lists.{Runs}
use Rattle.zst_model.specs.fields.PushedRuns.{IsFull, PushesRun}
use Rattle.zst_model.specs.pools.Limits.{most_runs}
use Rattle.zst_tree.specs.Indices.{IsNoDamage}
use Rattle.zst_tree.specs.Faults.{IfFault}
use Rattle.zst_tree.specs.declared.or_memory.OrMemory.{OrMemory}
use Rattle.zst_tree.specs.declared.or_memory.OrMemory.TheVariants.{Fault, Memory}
use Rattle.zst_objset.specs.Damage.{DamageFact, IfDamage}
use Rattle.zst_redact.specs.declared.fault.RedactFault.{RedactFault}
use Rattle.zst_redact.specs.declared.fault.RedactFault.TheVariants.{Limit, Block}

-- the list is given, where it isn't too long; it is refused where it is; and no damage is told
abbrev pub BuildsList : Runs → Result Runs (OrMemory RedactFault) → Type 0
BuildsList list (Ok value) = (value ≡ list) × (length list ≤ most_runs)
BuildsList list (Err (Fault Limit)) = most_runs < length list
BuildsList list (Err (Fault (Block fault))) = IsNoDamage fault
BuildsList list (Err Memory) = Unit {0}

-- a run is put in, or the list is full
abbrev pub PutsRun : Runs → Runs → Run → Result (Unit {0}) (OrMemory RedactFault) → Type 0
PutsRun old new run (Ok done) = PushesRun old new run true
PutsRun old new run (Err (Fault Limit)) = IsFull old new run.object run.first
PutsRun old new run (Err (Fault (Block fault))) = ⊥
PutsRun old new run (Err Memory) = Unit {0}

-- the block fault of a fault
abbrev pub block_of : RedactFault → Option BlockFault
block_of Limit = None
block_of (Block fault) = Some fault

-- the block fault at which a call stopped
abbrev pub stop_of : {T : Type 0} → Result T (OrMemory RedactFault) → Option BlockFault
stop_of (Ok value) = None
stop_of (Err (Fault fault)) = block_of fault
stop_of (Err Memory) = None

-- it is so of the damage that a fault tells
abbrev pub IfBlock : RedactFault → DamageFact → Type 0
IfBlock Limit P = Unit {0}
IfBlock (Block fault) P = IfDamage fault P

-- and of that which a call tells
abbrev pub IfTold : {T : Type 0} → Result T (OrMemory RedactFault) → DamageFact → Type 0
IfTold result P = IfFault result (λ fault. IfBlock fault P)
