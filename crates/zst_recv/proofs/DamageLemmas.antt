-- Which damage a feed tells, and which fault of the stream.
use Rattle.std.proofs.Common.{◌≡◌, ◌⊎◌, inl, inr, ℕ, List, [], ◌++◌, Some, None, Result, Err, sym, ap, ◌∙◌, subst}
use Rattle.zst_outside.specs.Images.{DiskState}
use Rattle.zst_space.specs.FreeSectors.{FreeSectors}
use Rattle.zst_block.specs.declared.fault.BlockFault.TheVariants as blocks
use Rattle.zst_objset.specs.Damage.{DamageFact, IfSetDamaged}
use Rattle.zst_objset.specs.declared.fault.ObjFault.{ObjFault}
use Rattle.zst_objset.specs.declared.fault.ObjFault.TheVariants as sets
use Rattle.zst_image.specs.Bodies.{free_by}
use Rattle.zst_image.specs.declared.pool_state.PoolState.{PoolState}
use Rattle.zst_pool.specs.Calls.{IsCallFault}
use Rattle.zst_pool.specs.declared.fault.PoolFault.{PoolFault}
use Rattle.zst_pool.specs.declared.fault.PoolFault.TheVariants as pools
use Rattle.zst_plan.specs.declared.receive.RecvAsk.{RecvAsk}
use Rattle.zst_recv.specs.Damage.{IsDamagedFeed}
use Rattle.zst_model.specs.declared.refusals.stream_fault.StreamFault.{StreamFault}
use Rattle.zst_record.specs.Heads.{Covered}
use Rattle.zst_stream.specs.Findings.{FindsAtEnd, IsFound}
use Rattle.zst_stream.specs.Reading.{FrontOf, Reading, faulty, reading, waiting}
use Rattle.zst_stream.proofs.Growth.{front}
use Rattle.zst_recv.specs.Faults.{IsFeedFault, IsRecordFault, of_record, stop_of}
use Rattle.zst_recv.specs.declared.fault.RecvFault.{RecvFault}
use Rattle.zst_recv.specs.declared.fault.RecvFault.TheVariants as faults
use Rattle.zst_recv.specs.declared.stage.Stage as coded

-- what applying a record tells as damaged
pub told_record : (Is : DamageFact) (T : Type 0) (index : ℕ) (fault : ObjFault) (sector : ℕ) (stated found : List ℕ) → IfSetDamaged {T = T} (Err fault) Is
    → of_record index fault ≡ faults.Pool (pools.Damaged sector stated found) → Is sector stated found
told_record Is T index (sets.CannotApply fault) sector stated found told is = absurd cc
told_record Is T index (sets.Redacted object block) sector stated found told is = absurd cc
told_record Is T index (sets.Limit which number) sector stated found told is = absurd cc
told_record Is T index (sets.Block (blocks.Full need largest)) sector stated found told is = absurd cc
told_record Is T index (sets.Block (blocks.Damaged at says finds)) sector stated found told is =
    let one : at ≡ sector = cc in
    let two : says ≡ stated = cc in
    let three : finds ≡ found = cc in
    subst (λ (n : ℕ). Is n stated found) one (subst (λ (l : List ℕ). Is at l found) two (subst (λ (l : List ℕ). Is at says l) three told))
told_record Is T index (sets.Block blocks.DiskFault) sector stated found told is = absurd cc

-- the fault that was answered
abbrev pub refused : (T : Type 0) → RecvFault → Result T RecvFault
refused T fault = Err fault

pub err_told : (T : Type 0) (fault other : RecvFault) → refused T fault ≡ refused T other → fault ≡ other
err_told T fault other is = cc

-- where no block stopped it, no damage is told
pub told_none : (result : Result (Unit {0}) RecvFault) (sector : ℕ) (stated found : List ℕ) → stop_of result ≡ None → result ≡ Err (faults.Pool (pools.Damaged sector stated found)) → ⊥
told_none result sector stated found none is =
    let some : stop_of result ≡ Some (blocks.Damaged sector stated found) = ap (λ (r : Result (Unit {0}) RecvFault). stop_of r) is in
    cc

-- a commit tells none
pub told_call : (fault : PoolFault) (sector : ℕ) (stated found : List ℕ) → IsCallFault fault → faults.Pool fault ≡ faults.Pool (pools.Damaged sector stated found) → ⊥
told_call fault sector stated found known is = let same : fault ≡ pools.Damaged sector stated found = cc in subst IsCallFault same known

-- what a feed tells over its pool's free sectors
pub damaged_renewed : (old one : DiskState) (space : FreeSectors) (kept same : PoolState) (ask : RecvAsk) (text : List ℕ) (was before : coded.Stage) (sector : ℕ) (stated found : List ℕ) → one ≡ old → space ≡ free_by kept.body → same ≡ kept → was ≡ before
    → IsDamagedFeed one space same.dir ask text was sector stated found → IsDamagedFeed old (free_by kept.body) kept.dir ask text before sector stated found
damaged_renewed old one space kept same ask text was before sector stated found disk free stays at damaged =
    subst (λ (d : DiskState). IsDamagedFeed d (free_by kept.body) kept.dir ask text before sector stated found) disk
    (subst (λ (s : FreeSectors). IsDamagedFeed one s kept.dir ask text before sector stated found) free
    (subst (λ (k : PoolState). IsDamagedFeed one space k.dir ask text before sector stated found) stays
    (subst (λ (b : coded.Stage). IsDamagedFeed one space same.dir ask text b sector stated found) at damaged)))

-- ---- faults of the stream

-- a record tells none
pub record_known : (fault : RecvFault) → IsRecordFault fault → IsFeedFault fault
record_known (faults.Pool fault) known = known
record_known (faults.Stream fault) known = absurd known
record_known (faults.CannotApply index fault) known = tt

pub no_stream : (fault : RecvFault) (told : StreamFault) → IsRecordFault fault → fault ≡ faults.Stream told → ⊥
no_stream fault told known is = subst IsRecordFault is known

-- the one that a reading ends with
pub told_stream : (text : List ℕ) (handed : List Covered) (one other : StreamFault) → reading text ≡ record { covered = handed; outcome = faulty one } → faults.Stream one ≡ faults.Stream other → (reading text).outcome ≡ faulty other
told_stream text handed one other is same = let fault : one ≡ other = cc in ap (λ (r : Reading). r.outcome) is ∙ ap (λ (f : StreamFault). faulty f) fault

-- and it is found in the stream, never that it is cut
pub found_stream : (text : List ℕ) (handed : List Covered) (fault : StreamFault) → reading text ≡ record { covered = handed; outcome = faulty fault } → FindsAtEnd (reading text).outcome → IsFound fault
found_stream text handed fault is found = subst (λ (r : Reading). FindsAtEnd r.outcome) is found

-- what is faulty stays so, however the text goes on
pub faulty_still : (whole read rest : List ℕ) (fault : StreamFault) → whole ≡ read ++ rest → (reading read).outcome ≡ faulty fault → (reading whole).outcome ≡ faulty fault
faulty_still whole read rest fault is told = subst (λ (t : List ℕ). (reading t).outcome ≡ faulty fault) (sym is) (by f.outcome)
  where
    f : FrontOf (reading read) (reading (read ++ rest))
    f = front read rest

    by : ((reading read).outcome ≡ waiting) ⊎ (((reading read).outcome ≡ (reading (read ++ rest)).outcome) × (f.others ≡ [])) → (reading (read ++ rest)).outcome ≡ faulty fault
    by (inl waits) = let e : waiting ≡ faulty fault = sym waits ∙ told in absurd (cc e)
    by (inr same) = sym same.0 ∙ told
