-- What a reclaim makes of a pool at rest, and what of its blocks stands then, from what was found and what its commit did.
use Rattle.std.specs.Prelude.{Result, Ok, Err, IfErr, IfOk, OnErr, OnOk}
use Rattle.std.proofs.Common.{◌≡◌, ◌⊎◌, ◌↔◌, inl, inr, ℕ, ◌+◌, ◌<◌, ◌^◌, Bool, List, refl, sym, ap, ◌∙◌, subst, arith, length}
use Rattle.zst_outside.specs.Images.{DiskState, IsSynced, Leaves-then, Leaves-weaker, OnlyReads, OnlyReads-none}
use Rattle.zst_space.specs.FreeSectors.{FreeSectors, IsFree}
use Rattle.zst_marks.specs.Marks.{IsMarked}
use Rattle.zst_block.specs.Blocks.{FillsFree, Has, IsBlock, KeepsBlocks, SparesTaken}
use Rattle.zst_block.specs.IoStates.{IoState}
use Rattle.zst_block.specs.declared.ptr.Ptr.{Ptr}
use Rattle.zst_block.proofs.BlocksLaws.{FillsFree-reads, Has-fewer, Has-spared, SparesTaken-fewer}
use Rattle.zst_extents.proofs.Stored.{FillsFree-less}
use Rattle.zst_model.specs.declared.refusals.refusal.Refusal.{Refusal}
use Rattle.zst_model.specs.pools.KeptPool.{kept_of}
use Rattle.zst_model.specs.pools.Pool.{Pool, IsPool}
use Rattle.zst_model.specs.pools.Step.{Stepped, committed}
use Rattle.zst_dir.specs.Rows.{IsLawful, Rows}
use Rattle.zst_image.specs.Bodies.{free_by}
use Rattle.zst_image.specs.Commits.{Commits, NextIs, Ready, RefusedDir, Stays}
use Rattle.zst_image.specs.FreedCommits.{FreedDir, IsFreedFull, TakesForFreed}
use Rattle.zst_image.specs.Reads.{Rests, RunsBy, bound_of}
use Rattle.zst_image.specs.declared.commit_fault.CommitFault.{CommitFault}
use Rattle.zst_image.specs.declared.commit_fault.CommitFault.TheVariants as commits
use Rattle.zst_image.specs.declared.pool_state.PoolState.{PoolState}
use Rattle.zst_image.proofs.CommitLemmas.{Commits-over-more}
use Rattle.zst_image.proofs.Growth.{RunsBy-grows}
use Rattle.zst_roots.specs.Held.{HeldReaches}
use Rattle.zst_roots.specs.ReachedRows.{RowsReach}
use Rattle.zst_roots.specs.Unreached.{IsFoundFor, IsReached, StaysReached}
use Rattle.zst_roots.specs.declared.held.HeldBlocks.{HeldBlocks}
use Rattle.zst_roots.specs.declared.unreached.UnreachedSectors.{UnreachedSectors}
use Rattle.zst_pool.specs.Calls.{IsAtRest}
use Rattle.zst_pool.specs.Checks.{next_of}
use Rattle.zst_pool.specs.CommandRuns.{Did, kept_after}
use Rattle.zst_pool.specs.Faults.{of_commit, of_committed}
use Rattle.zst_pool.specs.FoundCommits.{CommitsFound, over_found}
use Rattle.zst_pool.specs.Reclaims.{AreUnreached, FindsAllReached, Reclaimed, Reclaims, SparesReached, TakesUnreached}
use Rattle.zst_pool.specs.RowChanges.{RunsAs}
use Rattle.zst_pool.specs.StepAnswers.{BeforeOrAfter}
use Rattle.zst_pool.specs.declared.fault.PoolFault.{PoolFault}
use Rattle.zst_pool.specs.declared.fault.PoolFault.TheVariants as faults
use Rattle.zst_pool.proofs.Bounds.{RunsBy-later}
use Rattle.zst_pool.proofs.CheckLemmas.{below_last_number}
use Rattle.zst_pool.proofs.CommandEnds.{did}
use Rattle.zst_pool.proofs.PoolsAtRest.{RunsBy-next, few_guids, kept_is_next, next_lawful, rest_runs}
use Rattle.zst_pool.proofs.UnreachedSectors.{all_are, all_left, are_unreached, before_freed, before_written, described_written, exactly_left, fewer_beside, free_still, may_be_left, runs_freed, runs_written, same_unreached, with_freed, with_written, written_behind}

-- what was read before doesn't matter to what a command did
pub did_before : {tight : Bool} (old mid new : DiskState) (kept : PoolState) (running : Pool) (definition : Result Stepped Refusal) (result : Result PoolState PoolFault) → OnlyReads old mid → IsAtRest tight old kept running
    → Did tight mid new kept running definition result → Did tight old new kept running definition result
did_before {tight = tight} old mid new kept running definition result reads rested did = record {
  moments = Leaves-then old mid new (BeforeOrAfter tight running definition) (BeforeOrAfter tight running definition)
      (Leaves-weaker old mid old.images (BeforeOrAfter tight running definition) reads.time (λ c was. inl (kept.body, rested.rows, rested.rests.each c was))) did.moments (λ c is. is);
  answer = did.answer;
}

-- what stands unless the disk failed
stood : (P : Type 0) (fault : CommitFault) → Stays P fault → ¬ (fault ≡ commits.DiskFault) → P
stood P (commits.Full need largest) is apart = is
stood P commits.DiskFault is apart = absurd (apart refl)
stood P commits.OutOfMemory is apart = is

-- a full disk is told as one
full_commit : (fault : CommitFault) (need largest : ℕ) → of_commit fault ≡ faults.Full need largest → fault ≡ commits.Full need largest
full_commit (commits.Full other longest) need largest is = cc
full_commit commits.DiskFault need largest is = absurd (cc)
full_commit commits.OutOfMemory need largest is = absurd (cc)

-- what is so of the blocks that a read gave is so of those that it gave before
pub spared_before : (held : List HeldBlocks) (old mid new : DiskState) (before after : PoolState) → mid.seen ≡ old.seen → SparesReached held mid new before after → SparesReached held old new before after
spared_before held old mid new before after same spares = record {
  over = spares.over;
  more = spares.more;
  unreached = λ sector reached. spares.unreached sector (subst (λ (seen : List ℕ). RowsReach (IsBlock seen) before.dir sector ⊎ HeldReaches (IsBlock seen) held sector) (sym same) reached);
  blocks = subst (λ (seen : List ℕ). KeepsBlocks seen spares.over new.seen (free_by after.body)) same spares.blocks;
}

pub reclaims_before : {T : Type 0} (held : List HeldBlocks) (old mid new : DiskState) (before after : PoolState) (left : FreeSectors) (result : Result T PoolFault) → mid.seen ≡ old.seen → Reclaims held mid new before after left result → Reclaims held old new before after left result
reclaims_before held old mid new before after left result same is = record {
  done = subst (λ (seen : List ℕ). OnOk result (Reclaimed seen held before after)) same is.done;
  full = subst (λ (seen : List ℕ). IfErr result (λ fault. (need largest : ℕ) → fault ≡ faults.Full need largest → FindsAllReached seen before held left need largest)) same is.full;
  spares = λ apart. subst (λ (seen : List ℕ). OnErr result ((space : FreeSectors) → AreUnreached seen before held space → SparesTaken space seen new.seen)) same (is.spares apart);
}

-- the commit of a reclaim, over what was found on a disk where nothing was pending
module _ (held : List HeldBlocks) (mid new : IoState) (kept : PoolState) (found : UnreachedSectors) (result : Result PoolState PoolFault) (fits : IsFoundFor kept.body.uber found) (ready : Ready mid.disk kept.body)
    (marked : (sector : ℕ) → sector < kept.body.uber.end → IsMarked found.marks sector ↔ StaysReached (IsBlock mid.disk.seen) kept.dir held sector)
    (unreached : (sector : ℕ) → sector < kept.body.uber.end → IsFree found.space sector ↔ ¬ IsReached (IsBlock mid.disk.seen) kept.body.uber kept.dir held sector) (commit : CommitsFound kept found mid new result) where
  -- what may be written, beside what the body leaves free
  abbrev written : FreeSectors
  written = with_written kept found fits

  -- nothing was written yet
  fills_none : FillsFree mid.disk written mid.disk found.space
  fills_none = FillsFree-less mid.disk mid.disk written written found.space (fewer_beside (free_by kept.body) found.space fits.end) (FillsFree-reads mid.disk mid.disk written (OnlyReads-none mid.disk))

  -- what stood where nothing may be written still stands, by the body from before
  still_stands : SparesTaken found.space mid.disk.seen new.disk.seen → KeepsBlocks mid.disk.seen written new.disk.seen (free_by kept.body)
  still_stands spares ptr bytes has =
      let over = SparesTaken-fewer written found.space mid.disk.seen new.disk.seen (fewer_beside (free_by kept.body) found.space fits.end) spares in
      Has-fewer new.disk.seen written (free_by kept.body) ptr bytes (free_still (free_by kept.body) found.space.free) (Has-spared written mid.disk.seen new.disk.seen ptr bytes over has)

  -- what stood where nothing is made free stands by the next one
  stands_next : (next : PoolState) → ((ptr : Ptr) (bytes : List ℕ) → Has mid.disk.seen (all_left kept found fits) ptr bytes → Has new.disk.seen (free_by next.body) ptr bytes) → KeepsBlocks mid.disk.seen (with_freed kept found fits) new.disk.seen (free_by next.body)
  stands_next next keeps ptr bytes has =
      keeps ptr bytes (Has-fewer mid.disk.seen (with_freed kept found fits) (all_left kept found fits) ptr bytes (fewer_beside (free_by kept.body) (all_left kept found fits) refl) has)

  -- what was committed, and what a refusal left
  made_done : (after : PoolState) → commit.made ≡ Ok after → FreedDir kept.body kept.dir found.marks (over_found found mid) new after
  made_done after same = subst (λ (r : Result PoolState CommitFault). IfOk r (FreedDir kept.body kept.dir found.marks (over_found found mid) new)) same commit.done

  made_spares : (fault : CommitFault) → commit.made ≡ Err fault → ¬ (◌≡◌ {A = Result PoolState CommitFault} (Err fault) (Err commits.DiskFault)) → SparesTaken found.space mid.disk.seen new.disk.seen
  made_spares fault same apart =
      let refused = subst (λ (r : Result PoolState CommitFault). RefusedDir kept.body (over_found found mid) new r) same commit.refused in
      let fills = refused.fills apart in
      fills.seen

  -- what the rows reach and sessions hold still stands
  spared_by : (made : Result PoolState CommitFault) → commit.made ≡ made → ¬ (made ≡ Err commits.DiskFault) → SparesReached held mid.disk new.disk kept (kept_after kept (of_committed made))
  spared_by (Ok after) same apart =
      let done = made_done after same in
      record {
        over = with_freed kept found fits;
        more = free_still (free_by kept.body) (all_left kept found fits).free;
        unreached = before_freed kept found fits mid.disk.seen held marked unreached;
        blocks = stands_next after (done.blocks (all_left kept found fits) (all_are kept found fits));
      }
  spared_by (Err fault) same apart = record {
    over = written;
    more = free_still (free_by kept.body) found.space.free;
    unreached = λ sector reached. before_written kept found fits mid.disk.seen held marked unreached sector (inl (inr reached));
    blocks = still_stands (made_spares fault same apart);
  }

  pub spared_so : ¬ (result ≡ Err faults.DiskFault) → SparesReached held mid.disk new.disk kept (kept_after kept result)
  spared_so apart = subst (λ (r : Result PoolState PoolFault). SparesReached held mid.disk new.disk kept (kept_after kept r)) (sym commit.answers)
      (spared_by commit.made refl (λ is. apart (commit.answers ∙ ap (λ (r : Result PoolState CommitFault). of_committed r) is)))

  -- E24 comes only where nothing unreached was long enough
  full_so : (need largest : ℕ) → IsFreedFull kept.dir found.marks found.space new.space need largest → FindsAllReached mid.disk.seen kept held new.space need largest
  full_so need largest is = record {
    writable = found.space;
    unreached = are_unreached kept found fits mid.disk.seen held marked unreached;
    taken = is.taken;
    full_after = is.full_after;
    count = is.count;
    may_be_left = may_be_left kept found fits mid.disk.seen held marked unreached is.taken is.count is.may_leave;
    few = is.few;
    before = is.before;
  }

  -- what was taken of what nothing reached
  taken_so : (count : ℕ) (left : FreeSectors) → TakesForFreed kept.dir count found.marks found.space left → TakesUnreached mid.disk.seen kept held count found.space left
  taken_so count left is =
      let enough = is.enough in
      record {
        taken = enough.taken;
        after = enough.after;
        enough = enough.enough;
        most = enough.most;
        may_be_left = may_be_left kept found fits mid.disk.seen held marked unreached enough.taken enough.most enough.may_leave;
        few = enough.few;
        takes = is.takes;
      }

  -- what was made free, and what was taken and written for it
  reclaims_by : (made : Result PoolState CommitFault) → commit.made ≡ made → Reclaims held mid.disk new.disk kept (kept_after kept (of_committed made)) new.space (of_committed made)
  reclaims_by (Ok after) same =
      let done = made_done after same in
      record {
        done = record {
          rows = done.dir;
          number = done.number;
          sectors = done.sectors;
          writable = found.space;
          unreached = are_unreached kept found fits mid.disk.seen held marked unreached;
          left = done.left;
          takes = taken_so (length after.body.free) done.left done.takes;
          end = done.end;
          exact = exactly_left kept found fits mid.disk.seen held marked unreached done.left after done.exact;
        };
        full = tt;
        spares = λ apart. tt;
      }
  reclaims_by (Err fault) same = record {
    done = tt;
    full = λ need largest is.
        let told = subst (λ (r : Result PoolState CommitFault). IfErr r (λ f. (n l : ℕ) → f ≡ commits.Full n l → IsFreedFull kept.dir found.marks found.space new.space n l)) same commit.full in
        full_so need largest (told need largest (full_commit fault need largest is));
    spares = λ apart space are.
        SparesTaken-fewer space found.space mid.disk.seen new.disk.seen (same_unreached kept found fits mid.disk.seen held marked unreached space are)
        (made_spares fault same (λ is. apart (ap (λ (r : Result PoolState CommitFault). of_committed r) is)));
  }

  pub reclaims_so : Reclaims held mid.disk new.disk kept (kept_after kept result) new.space result
  reclaims_so = subst (λ (r : Result PoolState PoolFault). Reclaims held mid.disk new.disk kept (kept_after kept r) new.space r) (sym commit.answers) (reclaims_by commit.made refl)

  module _ {tight : Bool} (running : Pool) (told : new.disk.honest) (rested : IsAtRest tight mid.disk kept running) (synced : IsSynced mid.disk) (lawful : IsLawful kept.dir) (below : kept.body.uber.number < 2 ^ 63) where
    abbrev left : FreeSectors
    left = all_left kept found fits

    all_has : (ptr : Ptr) (bytes : List ℕ) → Has mid.disk.seen (with_freed kept found fits) ptr bytes → Has mid.disk.seen left ptr bytes
    all_has ptr bytes has = Has-fewer mid.disk.seen (with_freed kept found fits) left ptr bytes (fewer_beside (free_by kept.body) left refl) has

    -- the rows stand over all that is left marked
    runs : RunsAs tight (Has mid.disk.seen left) kept running
    runs =
        let is = rest_runs mid.disk kept running rested in
        record {
          id = is.id;
          number = is.number;
          guids = is.guids;
          runs_by = RunsBy-grows mid.disk.seen (with_freed kept found fits) mid.disk.seen left all_has kept.dir running (runs_freed kept found fits mid.disk.seen held marked unreached (bound_of tight running.number) running is.runs_by);
          lawful = is.lawful;
        }

    runs_later : RunsBy (bound_of tight (running.number + 1)) (Has mid.disk.seen left) kept.dir running
    runs_later = RunsBy-later tight running.number (running.number + 1) (omega arith) (Has mid.disk.seen left) kept.dir running runs.runs_by

    next_is : NextIs tight (Has mid.disk.seen left) kept.body kept.body.uber.guids kept.dir (kept_of (next_of running).pool)
    next_is = kept_is_next (Has mid.disk.seen left) kept running running kept.body.uber.guids kept.dir lawful runs refl refl runs.guids (few_guids (Has mid.disk.seen left) kept running runs) below runs_later

    lawful_next : IsPool (next_of running).pool
    lawful_next = next_lawful (Has mid.disk.seen left) kept running running kept.body.uber.guids kept.dir lawful runs refl refl runs.guids (few_guids (Has mid.disk.seen left) kept running runs) below runs_later

    event : Commits tight mid.disk new.disk kept.body rested.rows (kept_of running) (kept_of (next_of running).pool) commit.made
    event = Commits-over-more mid.disk mid.disk new.disk written found.space new.space kept.body rested.rows (kept_of running) (kept_of (next_of running).pool) commit.made rested.rests synced
        (written_behind kept found fits mid.disk ready) (free_still (free_by kept.body) found.space.free)
        (described_written kept found fits mid.disk.seen held marked unreached rested.rows (kept_of running) rested.lasting rested.rests.reads.described) fills_none
        (commit.over tight left (kept_of (next_of running).pool) told (all_are kept found fits) next_is)

    -- so the next pool is at rest after it
    rests_after : (made : Result PoolState CommitFault) → commit.made ≡ made → IfOk made (λ after. IsAtRest tight new.disk after (next_of running).pool)
    rests_after (Err fault) same = tt
    rests_after (Ok after) same =
        let done = made_done after same in
        let rests = subst (Commits tight mid.disk new.disk kept.body rested.rows (kept_of running) (kept_of (next_of running).pool)) same event in
        record {
          rows = after.dir;
          lasting = refl;
          rests = rests.answer;
          runs_by = subst (λ (r : Rows). RunsBy (bound_of tight (running.number + 1)) (Has new.disk.seen (free_by after.body)) r (next_of running).pool) (sym done.dir)
              (RunsBy-next (Has new.disk.seen (free_by after.body)) kept.dir running (running.number + 1)
              (RunsBy-grows mid.disk.seen left new.disk.seen (free_by after.body) (done.blocks left (all_are kept found fits)) kept.dir running runs_later));
          lawful = lawful_next;
        }

    -- and after a refusal that isn't the disk's the one before is
    rests_before : (made : Result PoolState CommitFault) → commit.made ≡ made → ¬ (made ≡ Err commits.DiskFault) → OnErr made (IsAtRest tight new.disk kept running)
    rests_before (Ok after) same apart = tt
    rests_before (Err fault) same apart =
        let rests = subst (Commits tight mid.disk new.disk kept.body rested.rows (kept_of running) (kept_of (next_of running).pool)) same event in
        record {
          rows = rested.rows;
          lasting = rested.lasting;
          rests = stood (Rests tight new.disk kept.body rested.rows (kept_of running)) fault rests.answer (λ is. apart (ap (λ (f : CommitFault). Err f) is));
          runs_by = RunsBy-grows mid.disk.seen written new.disk.seen (free_by kept.body) (still_stands (made_spares fault same apart)) kept.dir running
              (runs_written kept found fits mid.disk.seen held marked unreached (bound_of tight running.number) running rested.runs_by);
          lawful = rested.lawful;
        }

    -- it did what its definition makes of the pool
    pub did_so : Did tight mid.disk new.disk kept running (committed running) result
    did_so = subst (Did tight mid.disk new.disk kept running (committed running)) (sym commit.answers)
        (did mid.disk new.disk kept rested.rows running (committed running) (next_of running) (below_last_number running (omega (arith, runs.number, below))) commit.made event (rests_after commit.made refl) (rests_before commit.made refl))
