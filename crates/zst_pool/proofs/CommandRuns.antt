-- What a command does, from what its parts do.
use Rattle.std.specs.Prelude.{Option, None, Result, Ok, Err, IfErr, IfOk, OnErr}
use Rattle.std.proofs.Common.{◌≡◌, inl, inr, ℕ, ◌+◌, ◌≤◌, ◌^◌, Bool, false, ◌||◌, List, length, refl, sym, ap, ◌∙◌, subst, arith}
use Rattle.std.proofs.lemmas.Result.{IfOk-weaker}
use Rattle.zst_outside.specs.Causes.{Rose-earlier}
use Rattle.zst_space.specs.FreeSectors.{FreeSectors}
use Rattle.zst_block.specs.Blocks.{Has, FillsFree, KeepsBlocks, SparesTaken}
use Rattle.zst_block.specs.IoCalls as blocks
use Rattle.zst_block.specs.IoStates.{IoState}
use Rattle.zst_block.specs.declared.fault.BlockFault.{BlockFault}
use Rattle.zst_block.proofs.BlocksLaws.{FillsFree-then, KeepsBlocks-fills}
use Rattle.zst_block.proofs.IoCallLemmas.{Looks-none, Works-looks, Works-more}
use Rattle.zst_model.specs.declared.refusals.refusal.Refusal.{Refusal}
use Rattle.zst_model.specs.states.DatedState.{DatedState}
use Rattle.zst_model.specs.states.AppliedItems.{◌>>=◌}
use Rattle.zst_model.specs.pools.Pool.{Pool, IsPool}
use Rattle.zst_model.specs.pools.Step.{Stepped, committed, last_number, on_head}
use Rattle.zst_tree.specs.declared.tree.ObjSet.{ObjSet}
use Rattle.zst_objset.specs.Sets.{SetHolds}
use Rattle.zst_dir.specs.Rows.{Rows}
use Rattle.zst_dir.specs.Spelling.{dir_bytes}
use Rattle.zst_pool.specs.Checks.{FindsHead, with_head_of}
use Rattle.zst_block.specs.declared.fault.BlockFault.TheVariants as block_faults
use Rattle.zst_objset.specs.Damage.{DamageFact}
use Rattle.zst_objset.specs.declared.fault.ObjFault.TheVariants as set_faults
use Rattle.zst_model.specs.declared.refusals.plan_fault.PlanFault.{PlanFault}
use Rattle.zst_model.specs.refusals.Refusal.{refusal_of}
use Rattle.zst_pool.specs.Calls.{IsAtRest}
use Rattle.zst_pool.specs.Cost.{Cost, FindsLess, HasNoRoom, MakesNamed, Spends}
use Rattle.zst_pool.specs.Damage.{HasHead, IsOf, OfHead}
use Rattle.zst_tree.specs.declared.or_memory.OrMemory.TheVariants.{Fault}
use Rattle.zst_pool.proofs.HeadAnswers.{memory_stops, plan_stops}
use Rattle.zst_pool.specs.Faults.{StepFault, is_disk_fault, of_committed}
use Rattle.zst_pool.specs.Heads.{ChangedHead, ChangesHead, Stops, Works, rested}
use Rattle.zst_objset.specs.OrMemory.{IfTold, stop_of}
use Rattle.zst_dir.specs.RowNames.{AreNamed}
use Rattle.zst_image.specs.Bodies.{free_by}
use Rattle.zst_image.specs.Reads.{DatasetIs, RunsBy, SetIs, bound_of}
use Rattle.zst_pool.specs.CommandRuns.{Did, Ran, Runs, as_kept}
use Rattle.zst_image.specs.Commits.{CommittedDir, HasItsExtents, KeepsDisk, Ready, RefusedDir, TakesForDir}
use Rattle.zst_pool.specs.declared.fault.PoolFault.{PoolFault}
use Rattle.zst_pool.specs.declared.fault.PoolFault.TheVariants.{Damaged, DiskFault, OutOfMemory, Plan}
use Rattle.zst_tree.specs.declared.or_memory.OrMemory.{OrMemory}
use Rattle.zst_objset.specs.declared.fault.ObjFault.{ObjFault}
use Rattle.zst_image.specs.Faults.{stop_of_commit}
use Rattle.zst_uber.specs.DiskCalls.{HasDiskCause}
use Rattle.zst_image.specs.declared.commit_fault.CommitFault.{CommitFault}
use Rattle.zst_image.specs.declared.commit_fault.CommitFault.TheVariants as commits
use Rattle.zst_image.specs.declared.pool_state.PoolState.{PoolState}
use Rattle.zst_pool.proofs.Bounds.{SetIs-later}
use Rattle.zst_pool.proofs.CommandEnds.{fell}
use Rattle.zst_pool.proofs.PoolsAtRest.{begun, rest_plain, way_runs}
use Rattle.zst_pool.proofs.CommitAnswers.{committed_cause, committed_err, committed_fails, committed_ok, committed_open}
use Rattle.zst_dir.proofs.Matches.{Match-alike}
use Rattle.zst_pool.proofs.NamedPools.{rows_named}
use Rattle.zst_pool.proofs.CommandParts.{disk_fault_same, failed_then}
use Rattle.zst_pool.proofs.Room.{TakesSo, commit-more, spends_fell, spends_full, spends_grows}
use Rattle.zst_pool.proofs.TakenSectors.{fewer_extents}

-- what a command wrote before it fell or came to its commit: at most so much, and in a pool as much as it costs there
abbrev pub Wrote : PoolState → Cost → (old new : IoState) → Option BlockFault → Type 0
Wrote kept cost old new stop =
    ((block : ℕ) × (block ≤ cost.most) × TakesSo cost.cells block cost.most_list (rested old.disk old.failed old.checksum_errors old.reference kept) new stop)
    × ((running : Pool) → new.disk.honest → IsAtRest false old.disk kept running → TakesSo cost.cells (cost.block running) (cost.list running) (rested old.disk old.failed old.checksum_errors old.reference kept) new stop)

-- what changes a head takes as much of no list
pub wrote_head : (kept : PoolState) (cost : Cost) (old new : IoState) (stop : Option BlockFault) → ((block : ℕ) × (block ≤ cost.most) × Works cost.cells block (rested old.disk old.failed old.checksum_errors old.reference kept) new stop)
    → ((running : Pool) → new.disk.honest → IsAtRest false old.disk kept running → Works cost.cells (cost.block running) (rested old.disk old.failed old.checksum_errors old.reference kept) new stop) → Wrote kept cost old new stop
wrote_head kept cost old new stop works exact = ((works.0, works.1, Works-more (omega arith) works.2), λ running told rests. Works-more (omega arith) (exact running told rests))

module _ (definition : Pool → Result Stepped Refusal) (cost : Cost) (kept : PoolState) where
  -- a command that fell once it had written into free sectors alone
  pub runs_fell : (old new : IoState) {stop : Option BlockFault} (fault : PoolFault) {answer : Result PoolState PoolFault} → answer ≡ Err fault → Ready new.disk kept.body → Stops stop fault → Wrote kept cost old new stop
      → ((running : Pool) → new.disk.honest → IsAtRest false old.disk kept running → StepFault (Unit {0}) (definition running) fault) → Ran definition cost kept old new answer
  runs_fell old new fault same ready stops wrote refused =
      let one = wrote.0 in
      let works = one.2 in
      let fell_so : Ran definition cost kept old new (Err fault) = record {
        did = λ tight running told rests. fell old.disk new.disk new.space kept running (record { rested = rests; fills = works.fills }) (definition running) fault (refused running told (rest_plain old.disk kept running rests));
        open_still = λ is. stops.open_still (cc);
        spends = (one.0, one.1, spends_fell kept cost.cells one.0 cost.most_list fault stops works);
        exact = λ running told rests. spends_fell kept cost.cells (cost.block running) (cost.list running) fault stops (wrote.1 running told rests);
        short = λ running told rests need largest same.
            let worked = wrote.1 running told rests in
            let full = worked.full need largest (stops.full need largest same) in
            inl (omega (arith, full.before));
        spares = λ apart. works.fills.seen;
        commits = record {
          ready = tt;
          stays = λ standing. ready;
          disk = record {
            size = works.fills.size;
            failed = works.failed ∙ ap (λ (b : Bool). old.failed || b) (stops.fails ∙ disk_fault_same (Unit {0}) PoolState fault);
            told = λ whole. works.told (stops.told whole);
            honest = works.fills.honest;
            same = works.same;
          };
          cause = record { later = works.cause.later; fault = λ is. works.cause.fault (stops.disk (cc)) };
          space = tt;
          extents = tt;
        };
        blocks = tt;
      } in
      subst (Ran definition cost kept old new) (sym same) fell_so

  -- one that came to its commit
  pub runs_committed : (old mid new : IoState) (dir : Rows) (made : Result PoolState CommitFault) {answer : Result PoolState PoolFault} → answer ≡ of_committed made
      → Wrote kept cost old mid None
      → ((tight : Bool) (running : Pool) → new.disk.honest → IsAtRest tight old.disk kept running → Did tight old.disk new.disk kept running (definition running) (of_committed made))
      → length (dir_bytes dir) ≤ length (dir_bytes kept.dir) + 1024 → ((running : Pool) → new.disk.honest → IsAtRest false old.disk kept running → MakesNamed (definition running) dir)
      → IfOk made (CommittedDir kept.body dir mid new) → TakesForDir dir mid.space new.space made → RefusedDir kept.body mid new made → KeepsDisk (blocks.fails (stop_of_commit made)) false mid new
      → HasDiskCause commits.DiskFault mid.disk.faults new.disk.faults made → Ran definition cost kept old new answer
  runs_committed old mid new dir made is wrote did grows makes done takes refused keeps cause =
      let one = wrote.0 in
      let works = one.2 in
      let answer = of_committed made in
      let disk = committed_cause mid.disk.faults new.disk.faults made cause in
      -- the blocks that were there before the command are there by this body
      let Stand = λ (next : PoolState). KeepsBlocks old.disk.seen (free_by kept.body) new.disk.seen (free_by next.body) in
      let runs : Ran definition cost kept old new answer = record {
        did = did;
        open_still = committed_open made;
        spends = (one.0, one.1, spends made done takes one.0 cost.most_list works);
        exact = λ running told rests. spends made done takes (cost.block running) (cost.list running) (wrote.1 running (keeps.honest told) rests);
        short = λ running told rests. finds_less made takes running (makes running told rests) (wrote.1 running (keeps.honest told) rests);
        spares = λ apart. spares made works.fills refused apart;
        commits = record {
          ready = committed_ok (λ next. Ready new.disk next.body) made (IfOk-weaker made (CommittedDir kept.body dir mid new) (λ next. Ready new.disk next.body) (λ next is. is.ready) done);
          stays = λ standing. committed_err (Ready new.disk kept.body) made (refused.stays standing);
          disk = record {
            size = keeps.size ∙ works.fills.size;
            failed = failed_then old.failed mid.failed new.failed (is_disk_fault answer) works.failed (keeps.failed ∙ ap (λ (b : Bool). mid.failed || b) (committed_fails made));
            told = λ whole. keeps.told refl ∙ works.told refl;
            honest = λ told. works.fills.honest (keeps.honest told);
            same = keeps.same ∙ works.same;
          };
          cause = record { later = omega (arith, works.cause.later, disk.later); fault = λ is. Rose-earlier old.disk.faults mid.disk.faults new.disk.faults works.cause.later (disk.fault is) };
          space = committed_ok (λ next. new.space ≡ free_by next.body) made (IfOk-weaker made (CommittedDir kept.body dir mid new) (λ next. new.space ≡ free_by next.body) (λ next is. sym is.space) done);
          extents = committed_ok (λ next. HasItsExtents new.disk next.body) made (IfOk-weaker made (CommittedDir kept.body dir mid new) (λ next. HasItsExtents new.disk next.body) (λ next is. is.extents) done);
        };
        blocks =
            committed_ok Stand made
            (IfOk-weaker made (CommittedDir kept.body dir mid new) Stand (λ next is ptr bytes has. is.blocks ptr bytes (KeepsBlocks-fills old.disk mid.disk (free_by kept.body) mid.space works.fills ptr bytes has)) done);
      } in
      subst (Ran definition cost kept old new) (sym is) runs
    where
      spends : (r : Result PoolState CommitFault) → IfOk r (CommittedDir kept.body dir mid new) → TakesForDir dir mid.space new.space r
          → (block list : ℕ) → TakesSo cost.cells block list (rested old.disk old.failed old.checksum_errors old.reference kept) mid None → Spends cost.cells block list kept new.space as_kept (of_committed r)
      spends (Ok next) done takes block list works =
          record {
            full = tt;
            grows = spends_grows kept cost.cells block list dir works takes.takes grows next (sym done.space);
            directory = subst (λ (rows : Rows). length (dir_bytes rows) ≤ length (dir_bytes kept.dir) + 1024) (sym done.dir) grows;
          }
      spends (Err (commits.Full need largest)) done takes block list works =
          let told = spends_full kept cost.cells block list dir works takes.takes grows need largest (takes.full need largest refl) in
          record {
            full = λ n l same.
                let needed : need ≡ n = cc in
                let left : largest ≡ l = cc in
                subst (λ (m : ℕ). HasNoRoom cost.cells block list kept.body kept.dir new.space m l) needed (subst (λ (m : ℕ). HasNoRoom cost.cells block list kept.body kept.dir new.space need m) left told);
            grows = tt;
            directory = tt;
          }
      spends (Err commits.DiskFault) done takes block list works = record { full = λ n l same. absurd (cc); grows = tt; directory = tt }
      spends (Err commits.OutOfMemory) done takes block list works = record { full = λ n l same. absurd (cc); grows = tt; directory = tt }

      finds_less : (r : Result PoolState CommitFault) → TakesForDir dir mid.space new.space r → (running : Pool) → MakesNamed (definition running) dir
          → TakesSo cost.cells (cost.block running) (cost.list running) (rested old.disk old.failed old.checksum_errors old.reference kept) mid None → IfErr (of_committed r) (FindsLess cost.cells (cost.block running) (cost.list running) kept.body (definition running))
      finds_less (Ok next) takes running named works = tt
      finds_less (Err (commits.Full need largest)) takes running named works = λ n l same.
          let told = takes.full need largest refl in
          let more = commit-more (length (dir_bytes dir)) (length (dir_bytes dir)) (length mid.space.free) (length kept.body.free) (omega arith) (fewer_extents works.takes) in
          inr (dir, named, omega (arith, told.before, works.takes.longest, more))
      finds_less (Err commits.DiskFault) takes running named works = λ n l same. absurd (cc)
      finds_less (Err commits.OutOfMemory) takes running named works = λ n l same. absurd (cc)

      spares : (r : Result PoolState CommitFault) → FillsFree old.disk (free_by kept.body) mid.disk mid.space → RefusedDir kept.body mid new r → ¬ (of_committed r ≡ Err DiskFault)
          → OnErr (of_committed r) (SparesTaken (free_by kept.body) old.disk.seen new.disk.seen)
      spares (Ok next) first second apart = tt
      spares (Err (commits.Full need largest)) first second apart = let both = FillsFree-then old.disk mid.disk new.disk (free_by kept.body) mid.space new.space first (second.fills (λ is. cc)) in both.seen
      spares (Err commits.DiskFault) first second apart = absurd (apart refl)
      spares (Err commits.OutOfMemory) first second apart = let both = FillsFree-then old.disk mid.disk new.disk (free_by kept.body) mid.space new.space first (second.fills (λ is. cc)) in both.seen

-- before its first part a command wrote nothing
pub idle_wrote : (kept : PoolState) (cost : Cost) (io : IoState) (stop : Option BlockFault) → stop ≡ None → io.space ≡ free_by kept.body → Wrote kept cost io io stop
idle_wrote kept cost io stop none free =
    let start = rested io.disk io.failed io.checksum_errors io.reference kept in
    let idle = λ (block list : ℕ). subst (TakesSo cost.cells block list start io) (sym none)
    (subst (λ (space : FreeSectors). TakesSo cost.cells block list start (record io { space = space }) None) (sym free) (Works-looks (Looks-none start))) in
    ((0, omega arith, idle 0 cost.most_list), λ running told rests. idle (cost.block running) (cost.list running))

module _ (definition : Pool → Result Stepped Refusal) (cost : Cost) (kept : PoolState) where
  -- one that fell before it did anything
  pub runs_idle : {io : IoState} (fault : PoolFault) {answer : Result PoolState PoolFault} → answer ≡ Err fault → io.space ≡ free_by kept.body → Ready io.disk kept.body → Stops None fault
      → ((running : Pool) → IsAtRest false io.disk kept running → StepFault (Unit {0}) (definition running) fault) → Ran definition cost kept io io answer
  runs_idle {io = io} fault same free ready stops refused =
      runs_fell definition cost kept io io fault same ready stops (idle_wrote kept cost io None refl free) (λ running told rests. refused running rests)

-- what is so of each damage that is answered
pub told_of : (Is : DamageFact) (answer : Result PoolState PoolFault) → ((sector : ℕ) (stated found : List ℕ) → answer ≡ Err (Damaged sector stated found) → Is sector stated found) → IfErr answer (IsOf Is)
told_of Is (Ok kept) is = tt
told_of Is (Err fault) is = λ sector stated found same. is sector stated found (ap (λ (f : PoolFault). Err f) same)

module _ (definition : Pool → Result Stepped Refusal) (cost : Cost) (damage : DamageFact) (kept : PoolState) where
  -- a command that tells no damage
  pub runs_sound : {old new : IoState} (answer : Result PoolState PoolFault) → ((sector : ℕ) (stated found : List ℕ) → ¬ (answer ≡ Err (Damaged sector stated found)))
      → Ran definition cost kept old new answer → Runs definition cost damage kept old new answer
  runs_sound answer never ran = record { ran = ran; damaged = λ told. told_of damage answer (λ sector stated found is. absurd (never sector stated found is)) }

  -- one that fell before it did anything, for a plan or for memory
  pub runs_planned : {io : IoState} (plan : PlanFault) {answer : Result PoolState PoolFault} → answer ≡ Err (Plan plan) → io.space ≡ free_by kept.body → Ready io.disk kept.body
      → ((running : Pool) → IsAtRest false io.disk kept running → definition running ≡ Err (refusal_of plan)) → Runs definition cost damage kept io io answer
  runs_planned {io = io} plan {answer = answer} same free ready refused =
      runs_sound answer (λ sector stated found is. cc) (runs_idle definition cost kept {io = io} (Plan plan) same free ready (plan_stops None plan refl) (λ running rested. (refused running rested, tt)))

  pub runs_starved : {io : IoState} {answer : Result PoolState PoolFault} → answer ≡ Err OutOfMemory → io.space ≡ free_by kept.body → Ready io.disk kept.body
      → Runs definition cost damage kept io io answer
  runs_starved {io = io} {answer = answer} same free ready =
      runs_sound answer (λ sector stated found is. cc) (runs_idle definition cost kept {io = io} OutOfMemory same free ready (memory_stops None refl) (λ running rested. tt))

-- one that changed the head of a dataset, or fell as that did
pub runs_head : (definition : Pool → Result Stepped Refusal) (cost : Cost) (kept : PoolState) (name : List ℕ) (Is : FreeSectors → ObjSet → DamageFact) (old mid : IoState) {new : IoState} (set : ObjSet) (changed : Result (Unit {0}) (OrMemory ObjFault)) (answer : Result PoolState PoolFault)
    → old.space ≡ free_by kept.body → HasHead kept.dir name set → (mid.disk.honest → IfTold changed (Is old.space set)) → (new.disk.honest → mid.disk.honest)
    → ((sector : ℕ) (stated found : List ℕ) → answer ≡ Err (Damaged sector stated found) → changed ≡ Err (Fault (set_faults.Block (block_faults.Damaged sector stated found))))
    → Ran definition cost kept (rested old.disk old.failed old.checksum_errors old.reference kept) new answer → Runs definition cost (OfHead kept.dir name (Is (free_by kept.body))) kept old new answer
runs_head definition cost kept name Is old mid {new = new} set changed answer free there tells falls same ran = record {
  ran = subst (λ (space : FreeSectors). Ran definition cost kept (record old { space = space }) new answer) (sym free) ran;
  damaged = λ told. told_of (OfHead kept.dir name (Is (free_by kept.body))) answer (λ sector stated found is.
      let over = subst (λ (s : FreeSectors). IfTold changed (Is s set)) free (tells (falls told)) in
      (set, there, subst (λ (r : Result (Unit {0}) (OrMemory ObjFault)). IfTold r (Is (free_by kept.body) set)) (same sector stated found is) over));
}

-- the number of the next commit, of a pool
number_is : (number next : ℕ) (pool : Pool) → IsPool pool → pool.number ≡ number → (number ≤ 2 ^ 63 → next ≡ number + 1) → pool.number + 1 ≡ next
unfolding last_number
number_is number next pool lawful same is = let le : number ≤ 2 ^ 63 = omega (arith, same, lawful.number) in omega (arith, same, is le)

-- what a set holds that was opened
head_there : {bound : Option ℕ} (kept : PoolState) (name : List ℕ) (io : IoState) (was : ObjSet) (pool : Pool) → RunsBy bound (Has io.disk.seen io.space) kept.dir pool → FindsHead kept.dir name pool (Ok was)
    → (head : DatedState) × SetIs bound (Has io.disk.seen io.space) was head × ((change : DatedState → Result DatedState Refusal) → on_head name pool change ≡ (change head >>= λ after. committed (with_head_of name after pool)))
head_there {bound = bound} kept name io was pool runs_by there =
    let has = Has io.disk.seen io.space in
    let stands = Match-alike (DatasetIs bound has) kept.dir.datasets pool.datasets there.0 there.1 runs_by.datasets there.2 in
    (there.1.head, subst (λ (set : ObjSet). SetIs bound has set there.1.head) there.3 stands.head, there.4)

-- a head that was opened and changed
pub changed_head : (kept : PoolState) (name : List ℕ) (make : Pool → DatedState → Result DatedState Refusal) (cost : Cost) (old new : IoState) {number : ℕ} {was set : ObjSet} {changed : Result (Unit {0}) (OrMemory ObjFault)}
    → old.space ≡ free_by kept.body → (kept.body.uber.number ≤ 2 ^ 63 → number ≡ kept.body.uber.number + 1)
    → ((pool : Pool) → AreNamed kept.dir pool → FindsHead kept.dir name pool (Ok was))
    → ((tight : Bool) (pool : Pool) (head : DatedState) → new.disk.honest → pool.number + 1 ≡ number → SetIs (bound_of tight number) (Has old.disk.seen old.space) was head
    → ChangesHead (bound_of tight number) (Has new.disk.seen new.space) set (make pool head) changed)
    → ((block : ℕ) × (block ≤ cost.most) × Works cost.cells block old new (stop_of changed))
    → ((pool : Pool) (head : DatedState) → new.disk.honest → SetHolds (Has old.disk.seen old.space) was head
    → ((change : DatedState → Result DatedState Refusal) → on_head name pool change ≡ (change head >>= λ after. committed (with_head_of name after pool)))
    → Works cost.cells (cost.block pool) old new (stop_of changed))
    → ChangedHead kept name make cost (rested old.disk old.failed old.checksum_errors old.reference kept) new set changed
changed_head kept name make cost old new {number = number} {was = was} {set = set} {changed = changed} free next found changes works exact =
    let over = λ (block : ℕ) (w : Works cost.cells block old new (stop_of changed)).
    subst (λ (space : FreeSectors). Works cost.cells block (record old { space = space }) new (stop_of changed)) free w in
    record {
      made = made_so;
      works = (works.0, works.1, over works.0 works.2);
      exact = λ running told rests. let there = head_of running rests in over (cost.block running) (exact running there.0 told there.1 there.2);
    }
  where
    head_of : {tight : Bool} (running : Pool) → IsAtRest tight old.disk kept running
        → (head : DatedState) × SetIs (bound_of tight running.number) (Has old.disk.seen old.space) was head
        × ((change : DatedState → Result DatedState Refusal) → on_head name running change ≡ (change head >>= λ after. committed (with_head_of name after running)))
    head_of running rests =
        let runs = way_runs old.disk old.disk old.space kept running (begun old.disk kept running rests old.space free) in
        head_there kept name old was running runs.runs_by (found running (rows_named (Has old.disk.seen old.space) kept.dir running runs.runs_by))

    made_so : {tight : Bool} (running : Pool) → new.disk.honest → IsAtRest tight old.disk kept running
        → (head : DatedState) × ChangesHead (bound_of tight (running.number + 1)) (Has new.disk.seen new.space) set (make running head) changed
        × (on_head name running (make running) ≡ (make running head >>= λ after. committed (with_head_of name after running)))
    made_so {tight = tight} running told rests =
        let runs = way_runs old.disk old.disk old.space kept running (begun old.disk kept running rests old.space free) in
        let there = head_of running rests in
        let is = number_is kept.body.uber.number number running runs.lawful runs.number next in
        let known = SetIs-later tight running.number number (omega (arith, is)) (Has old.disk.seen old.space) was there.0 there.1 in
        let changed_so = changes tight running there.0 told is known in
        (there.0, subst (λ (n : ℕ). ChangesHead (bound_of tight n) (Has new.disk.seen new.space) set (make running there.0) changed) (sym is) changed_so, there.2 (make running))
