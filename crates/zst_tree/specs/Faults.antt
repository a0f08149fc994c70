-- What a call answers that has faults of its own, and that may want memory.
use Rattle.std.specs.Prelude.{Option, Some, None, Result, Ok, Err}
use Rattle.zst_tree.specs.declared.or_memory.OrMemory.{OrMemory}
use Rattle.zst_tree.specs.declared.or_memory.OrMemory.TheVariants.{Fault, Memory}

-- the fault that a call told, or none where it went well or wanted memory
abbrev pub fault_of : {T F : Type 0} → Result T (OrMemory F) → Option F
fault_of (Ok value) = None
fault_of (Err (Fault fault)) = Some fault
fault_of (Err Memory) = None

-- what it gives is so, or so is the fault that it tells
abbrev pub GivesOrTells : {T F : Type 0} → (T → Type 0) → (F → Type 0) → Result T (OrMemory F) → Type 0
GivesOrTells Is Told (Ok value) = Is value
GivesOrTells Is Told (Err (Fault fault)) = Told fault
GivesOrTells Is Told (Err Memory) = Unit {0}

-- it is so of the fault that it tells
abbrev pub IfFault : {T F : Type 0} → Result T (OrMemory F) → (F → Type 0) → Type 0
IfFault (Ok value) Told = Unit {0}
IfFault (Err (Fault fault)) Told = Told fault
IfFault (Err Memory) Told = Unit {0}
