-- What a redaction does, from what its parts do.
use Rattle.std.specs.Prelude.{Option, None, Some, Result, Ok, Err}
use Rattle.std.proofs.Common.{◌≡◌, ℕ, ◌+◌, ◌≤◌, ◌<◌, Bool, false, List, length, refl, sym, ap, ◌∙◌, subst, arith}
use Rattle.zst_space.specs.FreeSectors.{FreeSectors}
use Rattle.zst_block.specs.Blocks.{Has}
use Rattle.zst_block.specs.IoCalls as blocks
use Rattle.zst_block.specs.IoStates.{IoState}
use Rattle.zst_block.specs.declared.fault.BlockFault.{BlockFault}
use Rattle.zst_block.proofs.IoCallLemmas.{Works-after, Works-block, Works-looks, Works-more}
use Rattle.zst_list.specs.StoredLists.{HasList, list_sectors}
use Rattle.zst_model.specs.declared.refusals.faults.Quantity.TheVariants as quantities
use Rattle.zst_model.specs.declared.refusals.refusal.Refusal.{Refusal}
use Rattle.zst_model.specs.fields.Lists.{Runs}
use Rattle.zst_model.specs.pools.Limits.{most_runs}
use Rattle.zst_model.specs.pools.Pool.{Pool, inserted, is_before, snapshot_named}
use Rattle.zst_model.specs.pools.Pool as plain
use Rattle.zst_model.specs.pools.Step.{committed, find_each, guids_of, redaction_of, with_redaction}
use Rattle.zst_model.specs.refusals.Refusal.{refusal_of}
use Rattle.zst_model.proofs.PassedLimits.{over, within_limit}
use Rattle.zst_tree.specs.Indices.{Blocks}
use Rattle.zst_tree.specs.declared.tree.Tree.{Tree}
use Rattle.zst_dir.specs.RowNames.{AreNamed, Match, NamesSnapshot}
use Rattle.zst_dir.specs.Rows.{Rows}
use Rattle.zst_dir.specs.declared.rows.Snapshot.{Snapshot}
use Rattle.zst_dir.proofs.Matches.{Match-alike}
use Rattle.zst_image.specs.Bodies.{free_by}
use Rattle.zst_image.specs.Reads.{RunsBy, SnapshotIs, bound_of}
use Rattle.zst_image.specs.declared.pool_state.PoolState.{PoolState}
use Rattle.zst_pool.specs.Calls.{IsAtRest}
use Rattle.zst_pool.specs.Checks.{JudgesCommit}
use Rattle.zst_pool.specs.Cost.{Cost, redact_cost, redaction_sectors}
use Rattle.zst_pool.specs.Faults.{StepFault}
use Rattle.zst_pool.specs.Heads.{Stops}
use Rattle.zst_pool.specs.Lineage.{with_marked}
use Rattle.zst_pool.specs.Queries.{stop_at}
use Rattle.zst_pool.specs.Redactions.{MakesList, Redacts, if_short, left_of, redaction_row, row_guids, rows_of}
use Rattle.zst_pool.specs.RowChanges.{MakesRows, RunsAs}
use Rattle.zst_pool.specs.declared.fault.PoolFault.{PoolFault}
use Rattle.zst_pool.specs.declared.fault.PoolFault.TheVariants.{Plan, CannotApply, Redacted, Full, Damaged, DiskFault, Failed, OutOfMemory}
use Rattle.zst_pool.proofs.Bounds.{RunsBy-later}
use Rattle.zst_pool.proofs.CommandParts.{disk_fault_same}
use Rattle.zst_pool.proofs.CommandRuns.{Wrote}
use Rattle.zst_pool.proofs.NamedPools.{rows_named}
use Rattle.zst_pool.proofs.PoolsAtRest.{few_guids}
use Rattle.zst_pool.proofs.QuerySteps.{fails_told}
use Rattle.zst_pool.proofs.RedactionRows.{each_alike, redaction_runs, same_guids}
use Rattle.zst_pool.proofs.Room.{TakesSo}

-- a command stops as its own fault tells
pub own_stops : (fault : PoolFault) → ¬ (fault ≡ Failed) → Stops (stop_at fault) fault
own_stops fault open_still = record {
  fails = fails_told (Err fault) ∙ disk_fault_same (List (List ℕ)) (Unit {0}) fault;
  told = λ whole. whole;
  disk = λ is. ap stop_at is;
  full = λ need largest is. ap stop_at is;
  open_still = open_still;
}

-- a longer list takes no fewer sectors
list-more : (count more : ℕ) → count ≤ more → list_sectors count ≤ list_sectors more
list-more count more le = omega (arith, le)

-- a part that only read wrote nothing
pub looks_wrote : (kept : PoolState) (cost : Cost) (old new : IoState) {stop : Option BlockFault} → old.space ≡ free_by kept.body → blocks.Looks old new stop → Wrote kept cost old new stop
looks_wrote kept cost old new {stop = stop} free looks =
    let read = λ (block list : ℕ). subst (λ (space : FreeSectors). TakesSo cost.cells block list (record old { space = space }) new stop) free (Works-looks looks) in
    ((0, omega arith, read 0 cost.most_list), λ running told rests. read (cost.block running) (cost.list running))

-- one that read, and then wrote a list of so many runs
pub list_wrote : (kept : PoolState) (of : List ℕ) (words : List (List ℕ)) (old mid new : IoState) {stop : Option BlockFault} (count : ℕ) → old.space ≡ free_by kept.body → blocks.Looks old mid None → blocks.Works (list_sectors count) 16 mid new stop
    → count ≤ most_runs → ((running : Pool) → new.disk.honest → IsAtRest false old.disk kept running → redaction_sectors (snapshot_named of running) (find_each words running) ≡ list_sectors count)
    → Wrote kept (redact_cost of words) old new stop
list_wrote kept of words old mid new {stop = stop} count free looks works few exact =
    let wrote = λ (list : ℕ) (le : list_sectors count ≤ list).
    subst (λ (space : FreeSectors). TakesSo 0 0 list (record old { space = space }) new stop) free (Works-more (omega (arith, le)) (Works-block (Works-after looks works))) in (
      (0, omega arith, wrote (list_sectors most_runs) (list-more count most_runs few)),
      λ running told rests. wrote (redaction_sectors (snapshot_named of running) (find_each words running)) (omega (arith, exact running told rests)),
    )

-- what the making of a list is refused for, the definition is
pub list_refused : (bookmark : plain.Bookmark) (pool : Pool) (fault : PoolFault) → MakesList bookmark.runs (Err fault) → StepFault (Unit {0}) (if_short bookmark pool) fault
list_refused bookmark pool (Plan fault) is = (over quantities.Runs most_runs (length bookmark.runs) (committed (with_marked bookmark pool)) is.1 ∙ ap (λ f. Err (refusal_of f)) (sym is.0), tt)
list_refused bookmark pool (CannotApply fault) is = absurd is
list_refused bookmark pool (Redacted object block) is = absurd is
list_refused bookmark pool (Full need largest) is = absurd is
list_refused bookmark pool (Damaged sector stated found) is = absurd is
list_refused bookmark pool DiskFault is = tt
list_refused bookmark pool Failed is = absurd is
list_refused bookmark pool OutOfMemory is = tt

-- a list that is short enough is committed
pub short_left : (bookmark : plain.Bookmark) (pool : Pool) → length bookmark.runs ≤ most_runs → if_short bookmark pool ≡ committed (with_marked bookmark pool)
short_left bookmark pool few = within_limit quantities.Runs most_runs (length bookmark.runs) (committed (with_marked bookmark pool)) few

module _ (of name : List ℕ) (words : List (List ℕ)) (kept : PoolState) (row : Snapshot) (rows : List Snapshot) (same : rows ≡ rows_of words kept.dir) (running : Pool) (redacts : Redacts kept.dir of name words running row) where
  -- the sectors of its list are those of what it lists
  pub sectors_are : (list : Runs) → list ≡ left_of redacts.taken redacts.redactions → redaction_sectors (snapshot_named of running) (find_each words running) ≡ list_sectors (length list)
  sectors_are list is =
      ap (λ (o : Option plain.Snapshot). redaction_sectors o (find_each words running)) redacts.there
      ∙ ap (λ (r : Result (List plain.Snapshot) Refusal). redaction_sectors (Some redacts.taken) r) redacts.found
      ∙ ap (λ (l : Runs). list_sectors (length l)) (sym is)

  -- the guids of its rows are those of its snapshots
  pub guids_are : AreNamed kept.dir running → row_guids rows ≡ guids_of redacts.redactions
  guids_are are =
      same_guids rows redacts.redactions
      (subst (λ (rs : List Snapshot). Match NamesSnapshot rs redacts.redactions) (sym same)
      (each_alike NamesSnapshot kept.dir.snapshots running.snapshots are.snapshots (rows_of words kept.dir) redacts.redactions redacts.each))

  module _ {bound : Option ℕ} (has : Blocks) (runs : RunsBy bound has kept.dir running) where
    -- its rows stand for its snapshots
    pub own_stands : SnapshotIs bound has row redacts.taken
    own_stands = Match-alike (SnapshotIs bound has) kept.dir.snapshots running.snapshots row redacts.taken runs.snapshots redacts.place

    rest_stand : Match (SnapshotIs bound has) rows redacts.redactions
    rest_stand =
        subst (λ (rs : List Snapshot). Match (SnapshotIs bound has) rs redacts.redactions) (sym same)
        (each_alike (SnapshotIs bound has) kept.dir.snapshots running.snapshots runs.snapshots (rows_of words kept.dir) redacts.redactions redacts.each)

  -- where the pool was at rest, the list that is built is what they leave
  pub list_made : (old : IoState) (result : Result Runs PoolFault) → old.space ≡ free_by kept.body
      → ((taken : plain.Snapshot) (redactions : List plain.Snapshot) → SnapshotIs None (Has old.disk.seen old.space) row taken → Match (SnapshotIs None (Has old.disk.seen old.space)) rows redactions → MakesList (left_of taken redactions) result)
      → IsAtRest false old.disk kept running → MakesList (left_of redacts.taken redacts.redactions) result
  list_made old result free makes rests =
      let has = Has old.disk.seen old.space in
      let runs = subst (λ (space : FreeSectors). RunsBy None (Has old.disk.seen space) kept.dir running) (sym free) rests.runs_by in
      makes redacts.taken redacts.redactions (own_stands has runs) (rest_stand has runs)

  -- the rows with its bookmark stand for what the definition makes
  pub redaction_makes : {tight : Bool} (has : Blocks) → RunsAs tight has kept running → (list : Runs) (tree : Tree) (dir : Rows) → 0 < length rows → MakesList (left_of redacts.taken redacts.redactions) (Ok list)
      → JudgesCommit {T = Tree} (with_marked (redaction_of name redacts.taken redacts.redactions) running) (Ok tree) → HasList has tree.levels tree.root (length list) list
      → dir ≡ record kept.dir { bookmarks = inserted (λ a b. is_before a.name b.name) (redaction_row name row (row_guids rows) (length list) tree) kept.dir.bookmarks }
      → MakesRows tight has (with_redaction of name words running) running kept.body.uber.guids dir
  redaction_makes {tight = tight} has runs list tree dir some made commits stands dir_is =
      let bookmark = redaction_of name redacts.taken redacts.redactions in
      let next = with_marked bookmark running in
      let later = RunsBy-later tight running.number (running.number + 1) (omega arith) has kept.dir running runs.runs_by in
      let there = subst (λ (l : Runs). HasList has tree.levels tree.root (length list) l) made.0 stands in
      let guids = guids_are (rows_named has kept.dir running runs.runs_by) in
      record {
        next = next;
        made = redacts.left ∙ short_left bookmark running made.1 ∙ commits;
        id = refl;
        number = refl;
        guid_counter = runs.guids;
        few = few_guids has kept running runs;
        runs_by = subst (λ (d : Rows). RunsBy (bound_of tight (running.number + 1)) has d next) (sym dir_is)
            (redaction_runs has kept.dir running later name row rows redacts.taken redacts.redactions (length list) tree some (own_stands has later) guids there);
      }
