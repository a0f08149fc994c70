-- A pool stays at rest while blocks alone are written, and comes to rest as the next one after a commit.
use Rattle.std.specs.Prelude.{Result, Ok, Err, IfOk, OnErr}
use Rattle.std.proofs.Common.{◌≡◌, ℕ, ◌+◌, ◌≤◌, ◌<◌, ◌^◌, Bool, false, true, List, filter, Option, refl, sym, ap, ◌∙◌, subst, arith}
use Rattle.std.proofs.lemmas.List.Elements.{All-contains, filter_passes}
use Rattle.zst_outside.specs.Images.{DiskState, Leaves, Leaves-weaker, OnlyReads-none}
use Rattle.zst_space.specs.FreeSectors.{FreeSectors}
use Rattle.zst_block.specs.Blocks.{FillsFree, FitsDisk, Has, Spared}
use Rattle.zst_block.specs.IoStates.{IoState}
use Rattle.zst_block.proofs.BlocksLaws.{FillsFree-reads, FillsFree-then, Has-spared, IsTaken-label, KeepsBlocks-fills}
use Rattle.zst_extents.proofs.ApartExtents.{IsSpaceFrom-apart}
use Rattle.zst_image.specs.Bodies.{Body, behind_end, free_by}
use Rattle.zst_model.specs.pools.KeptPool.{kept_of}
use Rattle.zst_model.specs.pools.Limits.{last_guid, last_number}
use Rattle.zst_model.specs.pools.Pool.{Pool, Partial, IsPool}
use Rattle.zst_model.proofs.FilteredLists.{filter_all}
use Rattle.zst_model.proofs.KeptPools.{all_stay}
use Rattle.zst_tree.specs.Indices.{Blocks}
use Rattle.zst_dir.specs.Rows.{Rows, IsLawful}
use Rattle.zst_dir.specs.declared.rows.Partial.{Partial as Row}
use Rattle.zst_dir.proofs.DroppedPartials.{partials_left}
use Rattle.zst_image.specs.declared.commit_fault.CommitFault.{CommitFault}
use Rattle.zst_image.specs.declared.commit_fault.CommitFault.TheVariants as commits
use Rattle.zst_image.specs.declared.pool_state.PoolState.{PoolState}
use Rattle.zst_image.specs.Commits.{Commits, CommittedDir, NextIs, Ready}
use Rattle.zst_image.specs.Reads.{IsNamedBy, PartialIs, Reads, Rests, RowsAre, RunsBy, bound_of, kept_rows}
use Rattle.zst_image.proofs.CommitLemmas.{ReadsAs-spared, Ready-fills, Rests-fills}
use Rattle.zst_image.proofs.Growth.{PartialIs-grows, RunsBy-grows}
use Rattle.zst_image.proofs.PlainReads.{Rests-plain, RunsBy-plain}
use Rattle.zst_image.proofs.KeptPartials.{images_keep}
use Rattle.zst_pool.specs.Calls.{CanCommit, IsAtRest, IsUnderWay}
use Rattle.zst_pool.specs.Checks.{next_of}
use Rattle.zst_pool.specs.RowChanges.{RunsAs}
use Rattle.zst_pool.proofs.LawfulPools.{rows_make_pools}
use Rattle.zst_dir.proofs.Matches.{filter-Match}
use Rattle.zst_pool.proofs.NamedPools.{rows_named}

-- the sectors that are free by a body that is ready fit its disk
pub free_by_fits : (disk : DiskState) (body : Body) → Ready disk body → FitsDisk disk.size (free_by body)
free_by_fits disk body ready = record { extents = IsSpaceFrom-apart 8 (free_by body) ready.in_range.end.1 ready.apart; sectors = ready.in_range.sectors }

-- and so do those behind its end
pub behind_end_fits : (disk : DiskState) (body : Body) → Ready disk body → FitsDisk disk.size (behind_end body.uber)
behind_end_fits disk body ready = record { extents = record { end = ready.in_range.end.1; extents = ready.in_range.end.0 }; sectors = ready.in_range.sectors }

-- before its first part an event wrote nothing
pub fills_none : (old : DiskState) (space : FreeSectors) (body : Body) → space ≡ free_by body → FillsFree old (free_by body) old space
fills_none old space body free = subst (λ (s : FreeSectors). FillsFree old s old space) free (FillsFree-reads old old space (OnlyReads-none old))

-- what a part of an event wrote leaves the disk as ready for its commit as it was
pub ready_after : (old new : DiskState) (space less : FreeSectors) (body : Body) → space ≡ free_by body → FillsFree old space new less → Ready old body → Ready new body
ready_after old new space less body free fills ready =
    Ready-fills old new space less body (IsTaken-label old.size space (subst (FitsDisk old.size) (sym free) (free_by_fits old body ready))) fills ready

-- from a disk that is ready, over the sectors that a body leaves free, the next commit can be made
pub commit_next_of : (disk : DiskState) (space : FreeSectors) (body : Body) → space ≡ free_by body → Ready disk body → CanCommit disk space body
commit_next_of disk space body free ready = record { fits = subst (FitsDisk disk.size) (sym free) (free_by_fits disk body ready); sectors = ap (λ (s : FreeSectors). s.sectors) free; ready = ready }

-- and over those behind its end alone
pub commit_behind : (disk : DiskState) (space : FreeSectors) (body : Body) → space ≡ behind_end body.uber → Ready disk body → CanCommit disk space body
commit_behind disk space body free ready = record { fits = subst (FitsDisk disk.size) (sym free) (behind_end_fits disk body ready); sectors = ap (λ (s : FreeSectors). s.sectors) free; ready = ready }

-- it can still be made after blocks alone were written
pub commit_still : (old new : DiskState) (space less : FreeSectors) (kept : PoolState) → CanCommit old space kept.body → FillsFree old space new less → FitsDisk new.size less → less.sectors ≡ space.sectors → CanCommit new less kept.body
commit_still old new space less kept can fills fits sectors =
    record { fits = fits; sectors = sectors ∙ can.sectors; ready = Ready-fills old new space less kept.body (IsTaken-label old.size space can.fits) fills can.ready }

-- and a partial state is still there
pub partial_still : (bound : Option ℕ) (old new : DiskState) (space less : FreeSectors) (row : Row) (partial : Partial) → PartialIs bound (Has old.seen space) row partial → FillsFree old space new less → PartialIs bound (Has new.seen less) row partial
partial_still bound old new space less row partial is fills = PartialIs-grows old.seen space new.seen less (KeepsBlocks-fills old new space less fills) bound row partial is

-- what is kept names the pool that it stands for, and counts its guids
module _ {tight : Bool} (has : Blocks) (kept : PoolState) (running : Pool) (runs : RunsAs tight has kept running) where
  pub runs_named : IsNamedBy kept.body kept.dir running
  runs_named = record { id = runs.id; number = runs.number; guids = runs.guids; are_named = rows_named has kept.dir running runs.runs_by }

  pub few_guids : kept.body.uber.guids ≤ last_guid
  few_guids = subst (λ (n : ℕ). n ≤ last_guid) runs.guids runs.lawful.guids

-- what is kept stands for the pool at rest, and names it
module _ {tight : Bool} (now : DiskState) (kept : PoolState) (running : Pool) (rested : IsAtRest tight now kept running) where
  pub rest_runs : RunsAs tight (Has now.seen (free_by kept.body)) kept running
  rest_runs = let is = rested.rests.reads.described in record { id = is.id; number = is.number; guids = is.guids; runs_by = rested.runs_by; lawful = rested.lawful }

  pub rest_named : IsNamedBy kept.body kept.dir running
  rest_named = runs_named (Has now.seen (free_by kept.body)) kept running rest_runs

  -- an event begins
  pub begun : (space : FreeSectors) → space ≡ free_by kept.body → IsUnderWay tight now now space kept running
  begun space free = record { rested = rested; fills = fills_none now space kept.body free }

module _ {tight : Bool} (start now : DiskState) (space : FreeSectors) (kept : PoolState) (running : Pool) (way : IsUnderWay tight start now space kept running) where
  -- the blocks that the rows name are still there
  pub way_runs : RunsAs tight (Has now.seen space) kept running
  way_runs =
      let is = way.rested.rests.reads.described in
      record {
        id = is.id;
        number = is.number;
        guids = is.guids;
        runs_by = RunsBy-grows start.seen (free_by kept.body) now.seen space (KeepsBlocks-fills start now (free_by kept.body) space way.fills) kept.dir running way.rested.runs_by;
        lawful = way.rested.lawful;
      }

  -- so the pool is at rest as it was, and each image between reads as what is kept of it
  pub rests_on : IsAtRest tight now kept running
  rests_on = record {
    rows = way.rested.rows;
    lasting = way.rested.lasting;
    rests = Rests-fills start now space kept.body way.rested.rows (kept_of running) way.fills way.rested.rests;
    runs_by =
        RunsBy-grows start.seen (free_by kept.body) now.seen (free_by kept.body) (λ ptr bytes has. Has-spared (free_by kept.body) start.seen now.seen ptr bytes way.fills.seen has) kept.dir running way.rested.runs_by;
    lawful = way.rested.lawful;
  }

  pub since : Leaves start now (Reads tight (kept_of running))
  since =
      Leaves-weaker start now (Spared (free_by kept.body) start) (Reads tight (kept_of running)) way.fills.time
      (λ c from. (kept.body, way.rested.rows, ReadsAs-spared kept.body way.rested.rows (kept_of running) from.0 c from.2 (way.rested.rests.each from.0 from.1)))

  -- what else was written into free sectors leaves it so
  pub rests_still : (new : DiskState) (less : FreeSectors) → FillsFree now space new less → IsUnderWay tight start new less kept running
  rests_still new less fills = record { rested = way.rested; fills = FillsFree-then start now new (free_by kept.body) space less way.fills fills }

-- the rows stand for the pool of the next commit as for this one
pub RunsBy-next : {bound : Option ℕ} (has : Blocks) (rows : Rows) (next : Pool) (number : ℕ) → RunsBy bound has rows next → RunsBy bound has rows (record next { number = number })
RunsBy-next has rows next number is = record { datasets = is.datasets; snapshots = is.snapshots; bookmarks = is.bookmarks; partials = is.partials }

-- the rows of a pool that runs stand for what is kept of it
pub kept_are : {bound : Option ℕ} (has : Blocks) (rows : Rows) (running : Pool) → RunsBy bound has rows running → RowsAre bound has rows (kept_of running)
kept_are {bound = bound} has rows running runs = record {
  datasets = runs.datasets;
  snapshots = runs.snapshots;
  bookmarks = runs.bookmarks;
  partials = filter-Match (PartialIs bound has) (λ row. row.keep) (λ partial. partial.keep) (λ x y is. sym is.named.keep) rows.partials running.partials runs.partials;
}

-- the rows that last are all that last of them
pub kept_twice : (rows : Rows) → kept_rows (kept_rows rows) ≡ kept_rows rows
kept_twice rows =
    let left = filter (λ (row : Row). row.keep) rows.partials in
    ap (λ (partials : List Row). record rows { partials = partials })
    (filter_all (λ (row : Row). row.keep) left (λ row there. All-contains (λ (r : Row). r.keep ≡ true) left row (filter_passes (λ (r : Row). r.keep) rows.partials) there))

-- and what is kept of that is all of it
pub kept_again : (running : Pool) → kept_of (kept_of running) ≡ kept_of running
kept_again running = all_stay (kept_of running) (filter_passes (λ (partial : Partial). partial.keep) running.partials)

-- the next pool, of which these lawful rows are to be committed
module _ {tight : Bool} (has : Blocks) (kept : PoolState) (running next : Pool) (guids : ℕ) (dir : Rows) (lawful : IsLawful dir) (runs : RunsAs tight has kept running) (id : next.id ≡ running.id) (number : next.number ≡ running.number)
    (counter : next.guids ≡ guids) (few : guids ≤ last_guid) (below : kept.body.uber.number < 2 ^ 63) (runs_by : RunsBy (bound_of tight (running.number + 1)) has dir next) where
  -- it is lawful
  pub next_lawful : IsPool (next_of next).pool
  unfolding last_number
  next_lawful =
      let is = runs.lawful.id in
      rows_make_pools has dir (next_of next).pool lawful (RunsBy-next has dir next (next.number + 1) runs_by) (omega (arith, id, is.0), omega (arith, id, is.1)) (omega (arith, number, runs.number, below)) (omega (arith, counter, few))

  -- and what is kept of it is the next pool of the body
  pub kept_is_next : NextIs tight has kept.body guids dir (kept_of (next_of next).pool)
  kept_is_next =
      let done = (next_of next).pool in
      let rows = kept_are has dir done (RunsBy-next has dir next (next.number + 1) (subst (λ (n : ℕ). RunsBy (bound_of tight (n + 1)) has dir next) (sym number) runs_by)) in
      record {
        id = id ∙ runs.id;
        number = ap (λ n. n + 1) (number ∙ runs.number);
        guid_counter = counter;
        rows_are = rows;
        lawful = rows_make_pools has (kept_rows dir) (kept_of done) (partials_left (λ row. row.keep) dir lawful) rows next_lawful.id next_lawful.number next_lawful.guids;
      }

-- what was committed holds the pool's blocks
runs_after : {bound : Option ℕ} (old new : IoState) (body : Body) (dir : Rows) (next : Pool) (made : Result PoolState CommitFault) → RunsBy bound (Has old.disk.seen old.space) dir next
    → IfOk made (CommittedDir body dir old new) → IfOk made (λ kept. RunsBy bound (Has new.disk.seen (free_by kept.body)) kept.dir next)
runs_after {bound = bound} old new body dir next (Ok kept) runs is =
    subst (λ (r : Rows). RunsBy bound (Has new.disk.seen (free_by kept.body)) r next) (sym is.dir) (RunsBy-grows old.disk.seen old.space new.disk.seen (free_by kept.body) is.blocks dir next runs)
runs_after {bound = bound} old new body dir next (Err fault) runs is = tt

-- so after a commit the next pool is at rest
pub rests_next : {tight : Bool} (start : DiskState) (old new : IoState) (kept : PoolState) (rows dir : Rows) (running next : Pool) (made : Result PoolState CommitFault)
    → Commits tight start new.disk kept.body rows (kept_of running) (kept_of (next_of next).pool) made → next.number ≡ running.number → RunsBy (bound_of tight (running.number + 1)) (Has old.disk.seen old.space) dir next → IsPool (next_of next).pool
    → IfOk made (CommittedDir kept.body dir old new) → IfOk made (λ kept. IsAtRest tight new.disk kept (next_of next).pool)
rests_next {tight = tight} start old new kept rows dir running next made commits number runs lawful committed =
    let has = Has old.disk.seen old.space in
    let over = subst (λ (n : ℕ). RunsBy (bound_of tight (n + 1)) has dir next) (sym number) runs in
    go made commits (runs_after old new kept.body dir (next_of next).pool made (RunsBy-next has dir next (next.number + 1) over) committed)
  where
    go : (r : Result PoolState CommitFault) → Commits tight start new.disk kept.body rows (kept_of running) (kept_of (next_of next).pool) r
        → IfOk r (λ kept. RunsBy (bound_of tight (next.number + 1)) (Has new.disk.seen (free_by kept.body)) kept.dir (next_of next).pool) → IfOk r (λ kept. IsAtRest tight new.disk kept (next_of next).pool)
    go (Ok after) commits runs = record { rows = after.dir; lasting = refl; rests = commits.answer; runs_by = runs; lawful = lawful }
    go (Err fault) commits runs = tt

-- and after a refusal that isn't the disk's the one before is
pub rests_unless : {tight : Bool} (start old new : DiskState) (space less : FreeSectors) (kept : PoolState) (running : Pool) (made : Result PoolState CommitFault) → IsUnderWay tight start old space kept running
    → (¬ (made ≡ Err commits.DiskFault) → OnErr made (FillsFree old space new less)) → ¬ (made ≡ Err commits.DiskFault) → OnErr made (IsAtRest tight new kept running)
rests_unless start old new space less kept running (Ok after) way fills apart = tt
rests_unless start old new space less kept running (Err fault) way fills apart = rests_on start new less kept running (rests_still start old space kept running way new less (fills apart))

-- so a pool that was just opened is at rest
pub rests_opened : {tight : Bool} (disk : DiskState) (kept : PoolState) (rows : Rows) (pool : Pool) → Rests tight disk kept.body rows pool → kept.dir ≡ kept_rows rows → IsAtRest tight disk kept pool
rests_opened {tight = tight} disk kept rows pool rests same = record {
  rows = rows;
  lasting = ap kept_rows same ∙ kept_twice rows;
  rests = subst (λ (p : Pool). Rests tight disk kept.body rows p) (sym (all_stay pool (images_keep kept.body rows pool disk.seen rests.reads))) rests;
  runs_by = subst (λ (r : Rows). RunsBy (bound_of tight pool.number) (Has disk.seen (free_by kept.body)) r pool) (sym same) rests.reads.described.rows_are;
  lawful = rests.reads.described.lawful;
}

-- and a pool at rest by tight sets is at rest
pub rest_plain : {tight : Bool} (now : DiskState) (kept : PoolState) (running : Pool) → IsAtRest tight now kept running → IsAtRest false now kept running
rest_plain now kept running rested = record {
  rows = rested.rows;
  lasting = rested.lasting;
  rests = Rests-plain now kept.body rested.rows (kept_of running) rested.rests;
  runs_by = RunsBy-plain (Has now.seen (free_by kept.body)) kept.dir running rested.runs_by;
  lawful = rested.lawful;
}
