-- How the parts of a command follow one another.
use Rattle.std.specs.Prelude.{Err}
use Rattle.std.proofs.Common.{◌≡◌, Bool, true, false, ◌||◌, refl, sym, ap, ◌∙◌}
use Rattle.zst_pool.specs.Faults.{is_disk_fault}
use Rattle.zst_pool.specs.declared.fault.PoolFault.{PoolFault}
use Rattle.zst_pool.specs.declared.fault.PoolFault.TheVariants.{Plan, CannotApply, Redacted, Full, Damaged, DiskFault, Failed, OutOfMemory}

-- a fault is the disk's whatever the part would have given
pub disk_fault_same : (T U : Type 0) (fault : PoolFault) → is_disk_fault {T = T} (Err fault) ≡ is_disk_fault {T = U} (Err fault)
disk_fault_same T U (Plan fault) = refl
disk_fault_same T U (CannotApply fault) = refl
disk_fault_same T U (Redacted object block) = refl
disk_fault_same T U (Full need largest) = refl
disk_fault_same T U (Damaged sector stated found) = refl
disk_fault_same T U DiskFault = refl
disk_fault_same T U Failed = refl
disk_fault_same T U OutOfMemory = refl

pub or_false : (b : Bool) → b ≡ (b || false)
or_false true = refl
or_false false = refl

pub failed_then : (first mid last disk : Bool) → mid ≡ (first || false) → last ≡ (mid || disk) → last ≡ (first || disk)
failed_then first mid last disk one two = two ∙ ap (λ b. b || disk) (one ∙ sym (or_false first))
