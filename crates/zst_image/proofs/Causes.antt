-- What a fault of leaves or of a commit says of the disk.
use Rattle.std.specs.Prelude.{Result, Ok, Err, false}
use Rattle.std.proofs.Common.{◌≡◌, inl, inr, ℕ, refl, sym, ap, subst, ◌≤◌, arith}
use Rattle.zst_block.specs.IoCalls as blocks
use Rattle.zst_block.specs.declared.fault.BlockFault.TheVariants as block_faults
use Rattle.zst_fletcher.specs.WeightSum.{parts_of}
use Rattle.zst_outside.specs.Causes.{Rose-earlier}
use Rattle.zst_outside.specs.Images.{DiskState, OnlyReads, OnlyReads-then}
use Rattle.zst_uber.specs.DiskCalls.{HasDiskCause, ReadsOrFails}
use Rattle.zst_uber.specs.declared.uber.Uber.{Uber}
use Rattle.zst_leaves.specs.Damage.{TellsText}
use Rattle.zst_extents.specs.ExtentReads.{TellsExtents}
use Rattle.zst_tree.specs.Indices.{IsNoDamage}
use Rattle.zst_tree.specs.Faults.{GivesOrTells, fault_of}
use Rattle.zst_tree.specs.declared.or_memory.OrMemory.{OrMemory}
use Rattle.zst_block.specs.declared.fault.BlockFault.{BlockFault}
use Rattle.zst_tree.specs.declared.or_memory.OrMemory.TheVariants.{Fault, Memory}
use Rattle.zst_image.specs.Faults.{stop_of_commit}
use Rattle.zst_image.specs.OpenAnswers.{HasNoDir, IsOpenFault, LoadFault, ReadFault, TellsFault}
use Rattle.zst_image.specs.declared.open_fault.OpenFault.{OpenFault}
use Rattle.zst_image.specs.declared.open_fault.OpenFault.TheVariants as opens
use Rattle.zst_image.specs.declared.commit_fault.CommitFault.{CommitFault}
use Rattle.zst_image.specs.declared.commit_fault.CommitFault.TheVariants as commits

-- a call that read leaves fell by the disk only where its count of faults rose
pub leaves_cause : (T U : Type 0) (before now : ℕ) (fault : OrMemory BlockFault) (answer : OpenFault) → IsOpenFault fault answer → blocks.HasCause before now (fault_of {T = T} (Err fault))
    → HasDiskCause {T = U} opens.DiskFault before now (Err answer)
leaves_cause T U before now (Fault (block_faults.Full need largest)) answer is cause = absurd is
leaves_cause T U before now (Fault (block_faults.Damaged sector stated found)) answer is cause = record { later = cause.later; fault = λ fell. absurd (cc (is, fell)) }
leaves_cause T U before now (Fault block_faults.DiskFault) answer is cause = record { later = cause.later; fault = λ fell. cause.fault refl }
leaves_cause T U before now Memory answer is cause = record { later = cause.later; fault = λ fell. absurd (cc (is, fell)) }

pub leaves_load : (fault : OrMemory BlockFault) (answer : OpenFault) → IsOpenFault fault answer → LoadFault answer
leaves_load (Fault (block_faults.Full need largest)) answer is = absurd is
leaves_load (Fault (block_faults.Damaged sector stated found)) answer is = subst LoadFault (sym is) tt
leaves_load (Fault block_faults.DiskFault) answer is = subst LoadFault (sym is) tt
leaves_load Memory answer is = subst LoadFault (sym is) tt

-- where the leaves were there, the disk or the memory failed
pub leaves_read : (T : Type 0) (Is : T → Type 0) (fault : OrMemory BlockFault) (answer : OpenFault) → IsOpenFault fault answer → GivesOrTells Is IsNoDamage (Err fault) → ReadFault answer
leaves_read T Is (Fault (block_faults.Full need largest)) answer is gives = absurd is
leaves_read T Is (Fault (block_faults.Damaged sector stated found)) answer is gives = absurd gives
leaves_read T Is (Fault block_faults.DiskFault) answer is gives = subst ReadFault (sym is) tt
leaves_read T Is Memory answer is gives = subst ReadFault (sym is) tt

-- and so did a commit
pub commit_cause : {T : Type 0} (before now : ℕ) (result : Result T CommitFault) → blocks.HasCause before now (stop_of_commit result) → HasDiskCause commits.DiskFault before now result
commit_cause {T = T} before now result cause = record { later = cause.later; fault = λ is. cause.fault (ap (λ (r : Result T CommitFault). stop_of_commit r) is) }

-- E25 of a directory that isn't of its layout tells its root
pub tells_root : (disk : DiskState) (uber : Uber) (answer : OpenFault) → HasNoDir disk uber → answer ≡ opens.Damaged uber.dir_root.sector (parts_of uber.dir_root.sum) (parts_of uber.dir_root.sum) → TellsFault disk uber answer
tells_root disk uber answer why is = subst (TellsFault disk uber) (sym is) (inr (inr (record { why = why; sector_is = refl; stated_is = refl; found_is = refl })))

-- and E25 of its leaves what their read tells
pub tells_leaves : (T : Type 0) (disk : DiskState) (uber : Uber) (fault : OrMemory BlockFault) (answer : OpenFault) → IsOpenFault fault answer
    → TellsText {T = T} uber.end disk.seen disk.size uber.dir_levels uber.dir_root uber.dir_bytes (Err fault) → TellsFault disk uber answer
tells_leaves T disk uber (Fault (block_faults.Full need largest)) answer is tells = absurd is
tells_leaves T disk uber (Fault (block_faults.Damaged sector stated found)) answer is tells = subst (TellsFault disk uber) (sym is) (inr (inl tells))
tells_leaves T disk uber (Fault block_faults.DiskFault) answer is tells = subst (TellsFault disk uber) (sym is) tt
tells_leaves T disk uber Memory answer is tells = subst (TellsFault disk uber) (sym is) tt

-- and E25 of the extents what their read tells
pub tells_extents : (T : Type 0) (disk : DiskState) (uber : Uber) (fault : OrMemory BlockFault) (answer : OpenFault) → IsOpenFault fault answer
    → TellsExtents {T = T} uber.end disk.seen disk.size uber.free_levels uber.free_root uber.free_count uber.end (Err fault) → TellsFault disk uber answer
tells_extents T disk uber (Fault (block_faults.Full need largest)) answer is tells = absurd is
tells_extents T disk uber (Fault (block_faults.Damaged sector stated found)) answer is tells = subst (TellsFault disk uber) (sym is) (inl tells)
tells_extents T disk uber (Fault block_faults.DiskFault) answer is tells = subst (TellsFault disk uber) (sym is) tt
tells_extents T disk uber Memory answer is tells = subst (TellsFault disk uber) (sym is) tt

-- a commit reads no block, so it stops at none that is damaged
pub never_damaged : {T : Type 0} (made : Result T CommitFault) → blocks.is_damage (stop_of_commit made) ≡ false
never_damaged (Ok value) = refl
never_damaged (Err (commits.Full need largest)) = refl
never_damaged (Err commits.DiskFault) = refl
never_damaged (Err commits.OutOfMemory) = refl

-- a call that reads, after others that only read
pub reads_then : {T F : Type 0} {fault : F} {result : Result T F} (old mid new : DiskState) → OnlyReads old mid → old.faults ≤ mid.faults → ReadsOrFails fault mid new result → ReadsOrFails fault old new result
reads_then old mid new first later second = record {
  reads = OnlyReads-then old mid new first second.reads;
  cause = record { later = omega (arith, later, second.cause.later); fault = λ is. Rose-earlier old.faults mid.faults new.faults later (second.cause.fault is) };
}

-- and the same refusal of a call of another value
pub reads_refused : {S T F : Type 0} {fault told : F} (old new : DiskState) → ReadsOrFails {T = S} fault old new (Err told) → ReadsOrFails {T = T} fault old new (Err told)
reads_refused {S} {T} {F} {fault} {told} old new reads = record {
  reads = reads.reads;
  cause = record { later = reads.cause.later; fault = λ is. reads.cause.fault (let same : told ≡ fault = cc is in ap (λ (f : F). Err f) same) };
}
