-- What dropping all that isn't kept of a pool, and opening it again, make of it.
use Rattle.std.proofs.Common.{◌≡◌, ℕ, Bool, true, false, List, Some, Ok, Err, refl, sym, ap, ◌∙◌, subst}
use Rattle.std.specs.Prelude.{OnOk, Result}
use Rattle.zst_outside.specs.Images.{DiskState, OnlyReads}
use Rattle.zst_outside.specs.declared.disk.Disk.{Ghosts}
use Rattle.zst_block.specs.IoStates.{IsHonest, disk_of}
use Rattle.zst_block.specs.declared.io.Io.{Io}
use Rattle.zst_uber.specs.Slots.{latest}
use Rattle.zst_uber.specs.declared.uber.Uber.{Uber}
use Rattle.zst_image.proofs.OnePool.{ExtentsAreOne}
use Rattle.zst_image.proofs.OpenAnswers.{extents_before, extents_there}
use Rattle.zst_image.specs.Bodies.{Body, behind_end}
use Rattle.zst_image.specs.OpenAnswers as openings
use Rattle.zst_dir.specs.Rows.{Rows}
use Rattle.zst_image.specs.Commits.{HasItsExtents, Ready}
use Rattle.zst_image.specs.Faults.{open_refusal}
use Rattle.zst_image.specs.Reads.{Reads, ReadsAs, kept_rows}
use Rattle.zst_image.specs.declared.open_fault.OpenFault.{OpenFault}
use Rattle.zst_image.specs.declared.open_fault.OpenFault.TheVariants as opens
use Rattle.zst_image.specs.declared.pool_state.PoolState.{PoolState}
use Rattle.zst_model.specs.declared.refusals.refusal.Refusal.{Refusal}
use Rattle.zst_model.specs.declared.refusals.refusal.Refusal.TheVariants as refusals
use Rattle.zst_model.specs.pools.KeptPool.{kept_of}
use Rattle.zst_model.specs.pools.Pool.{Pool}
use Rattle.zst_pool.specs.Calls.{IsAtRest}
use Rattle.zst_pool.specs.ReopenedPools.{OpensBy, Reopens, failed_after, reopened}
use Rattle.zst_pool.specs.declared.pool.Pool as pools
use Rattle.zst_sessions.proofs.ReadPools.{ready_read, rests_read}
use Rattle.zst_sessions.specs.EngineSteps.{kept_pool}
use Rattle.zst_sessions.specs.Endings.{FindsNoMemory, IsOpened, LosesDisk, OpeningEnds, OpensAgain}

-- the answer with the number of the pool that is then kept
abbrev pub told : PoolState → Result (Unit {0}) OpenFault → Result ℕ Refusal
told kept (Ok done) = Ok kept.body.uber.number
told kept (Err fault) = Err (open_refusal fault)

-- a pool that works after a refusal worked before
worked : (failed : Bool) (fault : OpenFault) → failed_after failed (Err fault) ≡ false → failed ≡ false
worked failed (opens.Damaged sector stated found) is = is
worked failed opens.NoPool is = is
worked failed (opens.BadVersion version) is = is
worked failed opens.DiskFault is = absurd (cc)
worked failed opens.OutOfMemory is = is

-- and one that worked before works after any but the disk's
still_after : (failed : Bool) (fault : OpenFault) → ¬ (fault ≡ opens.DiskFault) → failed ≡ false → failed_after failed (Err fault) ≡ false
still_after failed (opens.Damaged sector stated found) alive is = is
still_after failed opens.NoPool alive is = is
still_after failed (opens.BadVersion version) alive is = is
still_after failed opens.DiskFault alive is = absurd (alive refl)
still_after failed opens.OutOfMemory alive is = is

-- an opening is never refused as a full disk
never_full : (fault : OpenFault) (need largest : ℕ) → ¬ (open_refusal fault ≡ refusals.Full need largest)
never_full (opens.Damaged sector stated found) need largest is = cc is
never_full opens.NoPool need largest is = cc is
never_full (opens.BadVersion version) need largest is = cc is
never_full opens.DiskFault need largest is = cc is
never_full opens.OutOfMemory need largest is = cc is

-- the body that an opening read is the one that was kept, where their sectors have the same, and the extents of the one that was kept stand in sectors that it leaves not free
one_kept : ExtentsAreOne → (disk : DiskState) (old new : Body) (bytes : List ℕ) (rows : Rows) → openings.IsOpened disk bytes new rows → Ready disk old → new.uber ≡ old.uber → HasItsExtents disk old → new ≡ old
one_kept one disk old new bytes rows is ready same has =
    let again : Ready disk (record { uber = new.uber; free = old.free }) = subst (λ (u : Uber). Ready disk (record { uber = u; free = old.free })) (sym same) ready in
    let stood = extents_there old new.uber disk.seen disk.seen same refl has in
    let found = extents_before new.uber new.free disk.seen disk.seen refl is.extents in
    let free = one disk.seen (behind_end new.uber) new.uber.free_levels new.uber.free_root new.uber.free_count new.uber.end new.free old.free is.is_body.fits.end is.apart again.apart found stood in
    let made : ◌≡◌ {A = Body} (record { uber = new.uber; free = new.free }) (record { uber = old.uber; free = old.free }) = cc (same, free) in
    made

module _ {D : Type 0} {g : Ghosts D} (old mid new : pools.Pool D g)
    (rests : (tight : Bool) (disk : D) (running : Pool) → IsAtRest tight (g.state disk) old.kept running → IsAtRest tight (g.state disk) mid.kept (kept_of running))
    (rows : mid.kept ≡ record old.kept { dir = kept_rows old.kept.dir }) (io : mid.io ≡ old.io) where
  -- what the opening makes of a pool at rest, where it gives one
  abbrev RestsAgain : Result (Unit {0}) OpenFault → Type 0
  RestsAgain result = (tight : Bool) (body : Body) (rows : Rows) (pool : Pool) → IsHonest new.io → ReadsAs tight body rows pool (disk_of mid.io).seen → OnOk result (IsAtRest tight (disk_of new.io) new.kept pool)

  -- what is read of the disk is as before
  read_so : (body : Body) (rows : Rows) (pool : Pool) → ReadsAs true body rows pool (disk_of old.io).seen → ReadsAs true body rows pool (disk_of mid.io).seen
  read_so body rows pool = subst (λ (i : Io D g). ReadsAs true body rows pool (disk_of i).seen) (sym io)

  only_reads : OnlyReads (disk_of mid.io) (disk_of new.io) → OnlyReads (disk_of old.io) (disk_of new.io)
  only_reads = subst (λ (i : Io D g). OnlyReads (disk_of i) (disk_of new.io)) io

  same_body : mid.kept.body ≡ old.kept.body
  same_body = ap (λ (k : PoolState). k.body) rows

  module _ (ready : old.io.failed ≡ false → Ready (disk_of old.io) old.kept.body) where
    -- the next commit can be made after a refusal as before
    ready_still : (fault : OpenFault) → Reopens mid new (Err fault) → new.io.failed ≡ false → Ready (disk_of new.io) new.kept.body
    ready_still fault reopens works =
        let was : old.io.failed ≡ false = sym (ap (λ (i : Io D g). i.failed) io) ∙ worked mid.io.failed fault (sym reopens.failed ∙ works) in
        subst (λ (k : PoolState). Ready (disk_of new.io) k.body) (sym reopens.kept)
        (subst (λ (body : Body). Ready (disk_of new.io) body) (sym same_body) (ready_read (disk_of old.io) (disk_of new.io) old.kept (only_reads reopens.reads) (ready was)))

    -- and what is kept of the pool is at rest
    rests_still : (fault : OpenFault) → Reopens mid new (Err fault) → (running : Pool) → IsAtRest true (disk_of old.io) old.kept running → IsAtRest true (disk_of new.io) new.kept (kept_of running)
    rests_still fault reopens running rested =
        subst (λ (k : PoolState). IsAtRest true (disk_of new.io) k (kept_of running)) (sym reopens.kept)
        (rests_read true (disk_of old.io) (disk_of new.io) mid.kept (kept_of running) (only_reads reopens.reads) (rests true old.io.disk.now running rested))

    refused_ends : (fault : OpenFault) → OpensBy (disk_of mid.io) (disk_of new.io) (Err fault) → Reopens mid new (Err fault) → (running : Pool) → (disk_of new.io).honest → Reads true (kept_of running) (disk_of old.io).seen
        → (old.io.failed ≡ false → IsAtRest true (disk_of old.io) old.kept running) → OpeningEnds (kept_pool old) (kept_pool new) (kept_of running) (Err (open_refusal fault))
    refused_ends (opens.Damaged sector stated found) by reopens running honest (body, its, reads) rest = absurd (by.there true body its (kept_of running) honest (read_so body its (kept_of running) reads))
    refused_ends opens.NoPool by reopens running honest (body, its, reads) rest = absurd (by.there true body its (kept_of running) honest (read_so body its (kept_of running) reads))
    refused_ends (opens.BadVersion version) by reopens running honest (body, its, reads) rest = absurd (by.there true body its (kept_of running) honest (read_so body its (kept_of running) reads))
    refused_ends opens.DiskFault by reopens running honest reads rest = LosesDisk refl reopens.failed
    refused_ends opens.OutOfMemory by reopens running honest reads rest =
        FindsNoMemory refl (reopens.failed ∙ ap (λ (i : Io D g). i.failed) io) (λ works. rests_still opens.OutOfMemory reopens running (rest works))

    pub opened_again : ExtentsAreOne → (result : Result (Unit {0}) OpenFault) → OpensBy (disk_of mid.io) (disk_of new.io) (reopened new.kept result) → RestsAgain result → Reopens mid new result
        → OpensAgain (kept_pool old) (kept_pool new) (told new.kept result)
    opened_again one (Ok done) by again reopens = record {
      reads = only_reads reopens.reads;
      never_full = λ need largest is. absurd (cc is);
      ready = λ works. reopens.works.ready;
      works = λ alive was. reopens.failed;
      body = λ was honest has.
          let is = by.answer honest in
          let still : Ready (disk_of mid.io) old.kept.body = subst (λ (i : Io D g). Ready (disk_of i) old.kept.body) (sym io) (ready was) in
          let uber =
          still.only (reopens.reads.honest honest) new.kept.body.uber
          (record { stands = subst (λ (bytes : List ℕ). latest (disk_of mid.io).seen ≡ Some bytes) is.3.is_body.spelled is.2; fits = is.3.is_body.fits; in_range = is.3.is_body.in_range }) in
          one_kept one (disk_of mid.io) old.kept.body new.kept.body is.0 is.1 is.3 still uber (subst (λ (i : Io D g). HasItsExtents (disk_of i) old.kept.body) (sym io) has);
      ends = λ running honest reads rest.
          let rested = again true reads.0 reads.1 (kept_of running) honest (read_so reads.0 reads.1 (kept_of running) reads.2) in
          IsOpened (ap (λ (n : ℕ). Ok n) (sym rested.rests.reads.described.number)) reopens.failed rested;
    }
    opened_again one (Err fault) by again reopens = record {
      reads = only_reads reopens.reads;
      never_full = λ need largest is. never_full fault need largest (let same : open_refusal fault ≡ refusals.Full need largest = cc is in same);
      ready = ready_still fault reopens;
      works = λ alive was. reopens.failed ∙ still_after mid.io.failed fault (λ is. alive (ap told_fault is)) (ap (λ (i : Io D g). i.failed) io ∙ was);
      body = λ was honest has. ap (λ (k : PoolState). k.body) reopens.kept ∙ same_body;
      ends = refused_ends fault by reopens;
    }
      where
        told_fault : OpenFault → Result ℕ Refusal
        told_fault f = Err (open_refusal f)
