-- What a commit answers, as a command's answer.
use Rattle.std.specs.Prelude.{Result, Ok, Err, IfErr, IfOk, OnErr}
use Rattle.std.proofs.Common.{◌≡◌, ℕ, ◌+◌, ◌<◌, ◌≤◌, ◌^◌, Bool, false, true, ◌||◌, List, length, refl, sym, ap, subst, ◌∙◌, arith}
use Rattle.std.proofs.lemmas.Result.{IfOk-weaker}
use Rattle.zst_space.specs.FreeSectors.{FreeSectors}
use Rattle.zst_block.specs.Blocks.{SparesTaken}
use Rattle.zst_block.specs.IoCalls as blocks
use Rattle.zst_block.specs.IoCalls.{IsBlockLength, TakesAtMost}
use Rattle.zst_block.proofs.TakenSectors.{takes_more}
use Rattle.zst_block.specs.IoStates.{IoState}
use Rattle.zst_dir.specs.Rows.{Rows}
use Rattle.zst_dir.specs.Spelling.{dir_bytes}
use Rattle.zst_image.specs.Commits.{CommittedDir, HasItsExtents, KeepsDisk, Ready, RefusedDir, commit_sectors}
use Rattle.zst_image.specs.Bodies.{free_by, Body}
use Rattle.zst_image.specs.Faults.{stop_of_commit}
use Rattle.zst_uber.specs.DiskCalls as calls
use Rattle.zst_image.specs.declared.commit_fault.CommitFault.{CommitFault}
use Rattle.zst_image.specs.declared.commit_fault.CommitFault.TheVariants.{Full, DiskFault, OutOfMemory}
use Rattle.zst_image.specs.declared.pool_state.PoolState.{PoolState}
use Rattle.zst_pool.specs.Calls.{CallGrows, IsCallFault}
use Rattle.zst_pool.specs.Events.{EndsCommit, FollowsBy}
use Rattle.zst_pool.specs.Faults.{HasDiskCause, is_disk_fault, of_committed}
use Rattle.zst_pool.specs.declared.fault.PoolFault.{PoolFault}
use Rattle.zst_pool.specs.declared.fault.PoolFault.TheVariants.{Damaged, Failed}
use Rattle.zst_pool.specs.declared.fault.PoolFault.TheVariants as faults
use Rattle.zst_pool.proofs.CommandParts.{or_false}
use Rattle.zst_pool.proofs.Room.{commit-more}

pub committed_open : (made : Result PoolState CommitFault) → ¬ (of_committed made ≡ Err Failed)
committed_open (Ok kept) = λ is. cc
committed_open (Err (Full need largest)) = λ is. cc
committed_open (Err DiskFault) = λ is. cc
committed_open (Err OutOfMemory) = λ is. cc

pub committed_ok : (P : PoolState → Type 0) (made : Result PoolState CommitFault) → IfOk made P → IfOk (of_committed made) P
committed_ok P (Ok kept) is = is
committed_ok P (Err fault) is = tt

pub committed_err : (P : Type 0) (made : Result PoolState CommitFault) → OnErr made P → OnErr (of_committed made) P
committed_err P (Ok kept) is = tt
committed_err P (Err fault) is = is

-- the disk failed where it did in the commit
pub committed_fails : (made : Result PoolState CommitFault) → blocks.fails (stop_of_commit made) ≡ is_disk_fault (of_committed made)
committed_fails (Ok kept) = refl
committed_fails (Err (Full need largest)) = refl
committed_fails (Err DiskFault) = refl
committed_fails (Err OutOfMemory) = refl

pub committed_cause : (before now : ℕ) (made : Result PoolState CommitFault) → calls.HasDiskCause DiskFault before now made → HasDiskCause before now (of_committed made)
committed_cause before now (Ok kept) cause = record { later = cause.later; fault = λ is. absurd (cc (is)) }
committed_cause before now (Err (Full need largest)) cause = record { later = cause.later; fault = λ is. absurd (cc (is)) }
committed_cause before now (Err DiskFault) cause = record { later = cause.later; fault = λ is. cause.fault refl }
committed_cause before now (Err OutOfMemory) cause = record { later = cause.later; fault = λ is. absurd (cc (is)) }

pub committed_sound : (made : Result PoolState CommitFault) (sector : ℕ) (stated found : List ℕ) → ¬ (of_committed made ≡ Err (Damaged sector stated found))
committed_sound (Ok kept) sector stated found = λ is. cc
committed_sound (Err (Full need largest)) sector stated found = λ is. cc
committed_sound (Err DiskFault) sector stated found = λ is. cc
committed_sound (Err OutOfMemory) sector stated found = λ is. cc

committed_full : (made : Result PoolState CommitFault) (need largest : ℕ) → of_committed made ≡ Err (faults.Full need largest) → made ≡ Err (Full need largest)
committed_full (Ok kept) need largest is = absurd (cc)
committed_full (Err (Full other longest)) need largest is = cc
committed_full (Err DiskFault) need largest is = absurd (cc)
committed_full (Err OutOfMemory) need largest is = absurd (cc)

committed_known : (made : Result PoolState CommitFault) → ((need largest : ℕ) → made ≡ Err (Full need largest) → largest < need) → IfErr (of_committed made) IsCallFault
committed_known (Ok kept) shorter = tt
committed_known (Err (Full need largest)) shorter = shorter need largest refl
committed_known (Err DiskFault) shorter = tt
committed_known (Err OutOfMemory) shorter = tt

-- a refused commit wrote into free sectors alone, unless the disk failed
committed_spares : (made : Result PoolState CommitFault) (body : Body) (old new : IoState) → RefusedDir body old new made → ¬ (of_committed made ≡ Err faults.DiskFault) → OnErr (of_committed made) (SparesTaken old.space old.disk.seen new.disk.seen)
committed_spares (Ok kept) body old new refused apart = tt
committed_spares (Err (Full need largest)) body old new refused apart = let fills = refused.fills (λ is. cc) in fills.seen
committed_spares (Err DiskFault) body old new refused apart = absurd (apart refl)
committed_spares (Err OutOfMemory) body old new refused apart = let fills = refused.fills (λ is. cc) in fills.seen

-- what holds of a commit's answer holds of a call's that is the same
module _ (made : Result PoolState CommitFault) (answer : Result PoolState PoolFault) (is : answer ≡ of_committed made) where
  pub answers_ok : (P : PoolState → Type 0) → IfOk made P → IfOk answer P
  answers_ok P holds = subst (λ (r : Result PoolState PoolFault). IfOk r P) (sym is) (committed_ok P made holds)

  pub answers_err : (P : Type 0) → OnErr made P → OnErr answer P
  answers_err P holds = subst (λ (r : Result PoolState PoolFault). OnErr r P) (sym is) (committed_err P made holds)

  pub answers_spares : (body : Body) (old new : IoState) → RefusedDir body old new made → ¬ (answer ≡ Err faults.DiskFault) → OnErr answer (SparesTaken old.space old.disk.seen new.disk.seen)
  answers_spares body old new refused apart =
      subst (λ (r : Result PoolState PoolFault). OnErr r (SparesTaken old.space old.disk.seen new.disk.seen)) (sym is) (committed_spares made body old new refused (λ fell. apart (is ∙ fell)))

  pub answers_full : (need largest : ℕ) → answer ≡ Err (faults.Full need largest) → made ≡ Err (Full need largest)
  answers_full need largest full = committed_full made need largest (sym is ∙ full)

  pub answers_known : ((need largest : ℕ) → made ≡ Err (Full need largest) → largest < need) → IfErr answer IsCallFault
  answers_known shorter = subst (λ (r : Result PoolState PoolFault). IfErr r IsCallFault) (sym is) (committed_known made shorter)

  pub answers_fails : (before : Bool) {now : Bool} → now ≡ (before || blocks.fails (stop_of_commit made)) → now ≡ (before || is_disk_fault answer)
  answers_fails before fell = fell ∙ ap (λ b. before || b) (committed_fails made ∙ ap is_disk_fault (sym is))

  pub answers_cause : (before now : ℕ) → calls.HasDiskCause DiskFault before now made → HasDiskCause before now answer
  answers_cause before now cause = subst (HasDiskCause before now) (sym is) (committed_cause before now made cause)

  -- it ends as the commit does, whatever that made free
  pub ends_as : (kept : PoolState) (old new : IoState) → IfOk made (λ next. Ready new.disk next.body) → IfOk made (λ next. new.space ≡ free_by next.body) → IfOk made (λ next. HasItsExtents new.disk next.body)
      → (new.failed ≡ false → OnErr made (Ready new.disk kept.body)) → KeepsDisk (blocks.fails (stop_of_commit made)) false old new → calls.HasDiskCause DiskFault old.disk.faults new.disk.faults made → EndsCommit kept old new answer
  ends_as kept old new ready space extents stays disk cause = record {
    ready = answers_ok (λ next. Ready new.disk next.body) ready;
    stays = λ works. answers_err (Ready new.disk kept.body) (stays works);
    disk = record { size = disk.size; failed = answers_fails old.failed disk.failed; told = λ whole. disk.told refl; honest = disk.honest; same = disk.same };
    cause = answers_cause old.disk.faults new.disk.faults cause;
    space = answers_ok (λ next. new.space ≡ free_by next.body) space;
    extents = answers_ok (λ next. HasItsExtents new.disk next.body) extents;
  }

  pub answers_ends : (kept : PoolState) (dir : Rows) (old new : IoState) → IfOk made (CommittedDir kept.body dir old new) → RefusedDir kept.body old new made → KeepsDisk (blocks.fails (stop_of_commit made)) false old new
      → calls.HasDiskCause DiskFault old.disk.faults new.disk.faults made → EndsCommit kept old new answer
  answers_ends kept dir old new done refused disk cause = ends_as kept old new
      (IfOk-weaker made (CommittedDir kept.body dir old new) (λ next. Ready new.disk next.body) (λ next is. is.ready) done)
      (IfOk-weaker made (CommittedDir kept.body dir old new) (λ next. new.space ≡ free_by next.body) (λ next is. sym is.space) done)
      (IfOk-weaker made (CommittedDir kept.body dir old new) (λ next. HasItsExtents new.disk next.body) (λ next is. is.extents) done)
      refused.stays disk cause

  -- what is kept then has the rows that were committed
  pub answers_rows : (body : Body) (dir : Rows) (old new : IoState) → IfOk made (CommittedDir body dir old new) → IfOk answer (λ next. next.dir ≡ dir)
  answers_rows body dir old new done = answers_ok (λ next. next.dir ≡ dir) (IfOk-weaker made (CommittedDir body dir old new) (λ next. next.dir ≡ dir) (λ next is. is.dir) done)

  -- and follows by the directory that was committed
  pub answers_follows : (kept : PoolState) (dir : Rows) (old new : IoState) → kept.body.uber.number < 2 ^ 63 → old.space.sectors ≡ kept.body.uber.sectors → TakesAtMost (commit_sectors (length (dir_bytes dir)) (length old.space.free)) (IsBlockLength 16) old.space new.space
      → IfOk made (CommittedDir kept.body dir old new) → IfOk answer (FollowsBy old.space kept dir)
  answers_follows kept dir old new below sectors takes done = answers_ok (FollowsBy old.space kept dir)
      (IfOk-weaker made (CommittedDir kept.body dir old new) (FollowsBy old.space kept dir) (λ next is. record {
        rows = is.dir;
        number = is.number;
        below = below;
        sectors = ap (λ (s : FreeSectors). s.sectors) is.space ∙ takes.sectors ∙ sectors;
        takes = subst (TakesAtMost (commit_sectors (length (dir_bytes dir)) (length old.space.free)) (IsBlockLength 16) old.space) (sym is.space) takes;
      }) done)

-- rows that were committed have the partial states of the rows that they are
pub rows_left : {dir rows : Rows} → dir ≡ rows → (answer : Result PoolState PoolFault) → IfOk answer (λ next. next.dir ≡ dir) → IfOk answer (λ next. next.dir.partials ≡ rows.partials)
rows_left is (Ok next) same = ap (λ (r : Rows). r.partials) (same ∙ is)
rows_left is (Err fault) same = tt

pub disk_told : false ≡ true → ⊥
disk_told same = cc

-- a call that fell before it did anything, and not at the disk, ends as it began
pub ends_idle : (kept : PoolState) (io : IoState) (fault : PoolFault) (answer : Result PoolState PoolFault) → answer ≡ Err fault → is_disk_fault {T = PoolState} (Err fault) ≡ false → Ready io.disk kept.body → EndsCommit kept io io answer
ends_idle kept io fault answer fell apart ready = record {
  ready = subst (λ (r : Result PoolState PoolFault). IfOk r (λ next. Ready io.disk next.body)) (sym fell) tt;
  stays = λ works. subst (λ (r : Result PoolState PoolFault). OnErr r (Ready io.disk kept.body)) (sym fell) ready;
  disk = record { size = refl; failed = or_false io.failed ∙ ap (λ b. io.failed || b) (sym never); told = λ whole. refl; honest = λ told. told; same = refl };
  cause = record { later = omega arith; fault = λ disk. absurd (disk_told (sym never ∙ ap is_disk_fault disk)) };
  space = subst (λ (r : Result PoolState PoolFault). IfOk r (λ next. io.space ≡ free_by next.body)) (sym fell) tt;
  extents = subst (λ (r : Result PoolState PoolFault). IfOk r (λ next. HasItsExtents io.disk next.body)) (sym fell) tt;
}
  where
    never : is_disk_fault answer ≡ false
    never = ap is_disk_fault fell ∙ apart

-- what such a call committed over rows that are no more than 2,048 bytes longer
pub call_grows : (space : FreeSectors) (kept : PoolState) (dir : Rows) (answer : Result PoolState PoolFault) → length (dir_bytes dir) ≤ length (dir_bytes kept.dir) + 2048 → IfOk answer (FollowsBy space kept dir) → IfOk answer (CallGrows space kept)
call_grows space kept dir (Ok next) longer follows =
    let same = ap (λ (rows : Rows). length (dir_bytes rows)) follows.rows in
    let extents = length space.free in
    let more = commit-more (length (dir_bytes dir)) (length (dir_bytes kept.dir) + 2048) extents extents longer (omega arith) in
    record {
      number = follows.number;
      directory = omega (arith, same, longer);
      sectors = follows.sectors;
      takes = takes_more (commit_sectors (length (dir_bytes dir)) extents) (commit_sectors (length (dir_bytes kept.dir) + 2048) extents) space (free_by next.body) more follows.takes;
    }
call_grows space kept dir (Err fault) longer follows = tt
