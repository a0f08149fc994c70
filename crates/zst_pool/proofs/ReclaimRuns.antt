-- What a reclaim did, from what its parts did.
use Rattle.std.specs.Prelude.{Option, Some, None, Result, Ok, Err, IfOk, OnErr, false}
use Rattle.std.proofs.Common.{◌≡◌, ◌↔◌, inr, ℕ, ◌<◌, ◌^◌, ◌||◌, Bool, List, refl, sym, ap, ◌∙◌, subst, arith}
use Rattle.std.proofs.lemmas.Result.{IfOk-weaker}
use Rattle.zst_outside.specs.Causes.{Rose-earlier}
use Rattle.zst_outside.specs.Images.{IsSynced, OnlyReads-none}
use Rattle.zst_marks.specs.Marks.{IsMarked}
use Rattle.zst_space.specs.FreeSectors.{FreeSectors, IsFree}
use Rattle.zst_block.specs.Blocks.{IsBlock, KeepsBlocks, SparesTaken}
use Rattle.zst_block.specs.IoCalls as blocks
use Rattle.zst_block.specs.IoStates.{IoState}
use Rattle.zst_block.specs.declared.fault.BlockFault.{BlockFault}
use Rattle.zst_block.specs.declared.fault.BlockFault.TheVariants as block_faults
use Rattle.zst_block.proofs.BlocksLaws.{FillsFree-reads, IsTaken-label}
use Rattle.zst_block.proofs.IoCallLemmas.{Looks-none}
use Rattle.zst_model.specs.declared.refusals.plan_fault.PlanFault.{PlanFault}
use Rattle.zst_model.specs.declared.refusals.refusal.Refusal.{Refusal}
use Rattle.zst_model.specs.pools.Pool.{Pool}
use Rattle.zst_model.specs.pools.Step.{Stepped, committed}
use Rattle.zst_model.specs.refusals.Refusal.{refusal_of}
use Rattle.zst_objset.specs.Damage.{DamageFact, IfDamage}
use Rattle.zst_tree.specs.Faults.{GivesOrTells, IfFault, fault_of}
use Rattle.zst_tree.specs.Indices.{IsNoDamage}
use Rattle.zst_tree.specs.declared.or_memory.OrMemory.{OrMemory}
use Rattle.zst_tree.specs.declared.or_memory.OrMemory.TheVariants.{Fault, Memory}
use Rattle.zst_dir.specs.Rows.{IsLawful, Rows}
use Rattle.zst_dir.specs.declared.rows.Partial.{Partial}
use Rattle.zst_image.specs.Bodies.{free_by}
use Rattle.zst_image.specs.Commits.{HasItsExtents, Ready}
use Rattle.zst_image.specs.FreedCommits.{FreedDir}
use Rattle.zst_image.specs.Reads.{IsNamedBy}
use Rattle.zst_image.specs.declared.commit_fault.CommitFault.TheVariants as commits
use Rattle.zst_image.specs.declared.pool_state.PoolState.{PoolState}
use Rattle.zst_image.proofs.CommitLemmas.{over-refused}
use Rattle.zst_roots.specs.Unreached.{IsFoundFor, IsReached, StaysReached}
use Rattle.zst_roots.specs.declared.held.HeldBlocks.{HeldBlocks}
use Rattle.zst_roots.specs.declared.unreached.UnreachedSectors.{UnreachedSectors}
use Rattle.zst_pool.specs.Calls.{IsAtRest}
use Rattle.zst_pool.specs.Checks.{next_of}
use Rattle.zst_pool.specs.CommandRuns.{Carries, Did, ReclaimDid, RunsByPlan, kept_after}
use Rattle.zst_pool.specs.Cost.{Cost}
use Rattle.zst_pool.specs.Damage.{IsOf, reclaim_damage}
use Rattle.zst_pool.specs.Events.{EndsCommit}
use Rattle.zst_pool.specs.Faults.{StepFault, is_disk_fault, of_block, or_memory}
use Rattle.zst_pool.specs.FoundCommits.{CommitsFound, over_found}
use Rattle.zst_pool.specs.Heads.{Stops}
use Rattle.zst_pool.specs.Plans.{IsLast, Plans}
use Rattle.zst_pool.specs.Reclaims.{HeldStand, SparesReached}
use Rattle.zst_pool.specs.declared.fault.PoolFault.{PoolFault}
use Rattle.zst_pool.specs.declared.fault.PoolFault.TheVariants as faults
use Rattle.zst_pool.proofs.CheckLemmas.{below_last_number}
use Rattle.zst_pool.proofs.CommandEnds.{keeps}
use Rattle.zst_pool.proofs.CommandParts.{disk_fault_same, failed_then, or_false}
use Rattle.zst_pool.proofs.CommandRuns.{told_of as damage_of}
use Rattle.zst_pool.proofs.CommitAnswers.{answers_ok, committed_open, committed_sound, ends_as}
use Rattle.zst_pool.proofs.PlanLemmas.{gives_told, made_apart, no_plan-commit, plans_apart, plans_refused, told_or_last}
use Rattle.zst_pool.proofs.HeadAnswers.{memory_stops, plan_stops}
use Rattle.zst_pool.proofs.PoolsAtRest.{rest_plain}
use Rattle.zst_pool.proofs.QuerySteps.{ready_read, rests_read, since_read, spares_read}
use Rattle.zst_pool.proofs.StepCosts.{reclaims_idle, spared_still}
use Rattle.zst_pool.proofs.UnreachedSectors.{found_fits}
use Rattle.zst_pool.proofs.ReclaimedPools.{did_before, did_so, reclaims_before, reclaims_so, spared_before, spared_so}

-- a command that ran over the sectors that are free by the latest body did what each does
pub carries_run : (held : List HeldBlocks) (definition : Pool → Result Stepped Refusal) (cost : Cost) (damage : DamageFact) (numbers indices : ℕ) (lists : Bool) (left : List Partial → List Partial) (kept : PoolState) (old new : IoState) (result : Result PoolState PoolFault)
    → RunsByPlan definition cost damage numbers indices lists left kept old new result → Carries held definition damage numbers indices lists left kept old new result
carries_run held definition cost damage numbers indices lists left kept old new result does =
    let ran = does.runs.ran in
    record {
      moments = λ tight running told rested. let did = ran.did tight running told rested in did.moments;
      answer = λ tight running told rested standing. let did = ran.did tight running told rested in did.answer;
      open_still = ran.open_still;
      commits = ran.commits;
      spared = λ told apart. spared result ran.blocks (ran.spares apart);
      damaged = does.runs.damaged;
      plans = does.plans;
      partials = does.partials;
    }
  where
    spared : (r : Result PoolState PoolFault) → IfOk r (λ next. KeepsBlocks old.disk.seen (free_by kept.body) new.disk.seen (free_by next.body)) → OnErr r (SparesTaken (free_by kept.body) old.disk.seen new.disk.seen)
        → SparesReached held old.disk new.disk kept (kept_after kept r)
    spared (Ok next) blocks spares = record { over = free_by kept.body; more = λ sector free. free; unreached = λ sector reached free. free; blocks = blocks }
    spared (Err fault) blocks spares = spared_still held old.disk new.disk kept spares

-- a reclaim that fell before its commit, once it had read
reclaim_fell : (held : List HeldBlocks) (old new : IoState) (kept : PoolState) (stop : Option BlockFault) (fault : PoolFault) {answer : Result PoolState PoolFault} → answer ≡ Err fault → blocks.Looks old new stop → Stops stop fault → Ready old.disk kept.body
    → ((running : Pool) → new.disk.honest → IsAtRest false old.disk kept running → HeldStand old.disk kept.body held → StepFault (Unit {0}) (committed running) fault) → (new.disk.honest → IsOf (reclaim_damage held old.disk kept.body kept.dir) fault)
    → Plans {T = PoolState} committed 0 0 false kept (Err fault) → ReclaimDid held kept old new answer
reclaim_fell held old new kept stop fault same looks stops ready refused damaged plans =
    let reads = looks.reads in
    let fell_so : ReclaimDid held kept old new (Err fault) = record {
      carries = record {
        moments = λ tight running told rested. since_read old.disk new.disk kept reads running rested (committed running);
        answer = λ tight running told rested standing.
            keeps (IsAtRest tight new.disk kept running) (committed running) (rests_read old.disk new.disk kept reads running rested) fault (refused running told (rest_plain old.disk kept running rested) standing);
        open_still = λ is. stops.open_still (cc);
        commits = record {
          ready = tt;
          stays = λ standing. ready_read old.disk new.disk kept reads ready;
          disk = record {
            size = reads.size;
            failed = looks.failed ∙ ap (λ (b : Bool). old.failed || b) (stops.fails ∙ disk_fault_same (Unit {0}) PoolState fault);
            told = λ whole. looks.told (stops.told whole);
            honest = reads.honest;
            same = looks.same;
          };
          cause = record { later = looks.cause.later; fault = λ is. looks.cause.fault (stops.disk (cc)) };
          space = tt;
          extents = tt;
        };
        spared = λ told apart. spared_still held old.disk new.disk kept (spares_read old.disk new.disk kept reads);
        damaged = damaged;
        plans = plans;
        partials = tt;
      };
      reclaims = λ told. reclaims_idle held old.disk new.disk kept kept new.space fault (Err fault) refl reads (λ need largest is. looks.never_full need largest (stops.full need largest is));
    } in
    subst (ReclaimDid held kept old new) (sym same) fell_so

-- for the commit's number, before anything else
pub reclaim_planned : (held : List HeldBlocks) (io : IoState) (kept : PoolState) (plan : PlanFault) {answer : Result PoolState PoolFault} → answer ≡ Err (faults.Plan plan) → Ready io.disk kept.body → IsLast kept.body.uber.number plan
    → ((pool : Pool) → pool.number ≡ kept.body.uber.number → committed pool ≡ Err (refusal_of plan)) → ReclaimDid held kept io io answer
reclaim_planned held io kept plan same ready last refused =
    reclaim_fell held io io kept None (faults.Plan plan) same (Looks-none io) (plan_stops None plan refl) ready
    (λ running told rested standing. (refused running rested.rests.reads.described.number, tt)) (λ told sector stated found is. absurd (cc))
    (plans_refused committed 0 0 false kept plan refl (told_or_last 0 0 false kept.body plan (inr last)) (λ pool named. refused pool named.number))

-- the number of the next commit is left
accepts : (kept : PoolState) → kept.body.uber.number < 2 ^ 63 → (pool : Pool) → IsNamedBy kept.body kept.dir pool → gives_told (committed pool) ≡ false
accepts kept below pool named = made_apart (committed pool) (next_of pool) (below_last_number pool (omega (arith, named.number, below)))

-- what a read or a sync stopped at
block_stops : (fault : BlockFault) → Stops (Some fault) (of_block fault)
block_stops (block_faults.Full n l) = record {
  fails = refl;
  told = λ whole. whole;
  disk = λ is. absurd (cc);
  full = λ need largest is.
      let needed : n ≡ need = cc in
      let left : l ≡ largest = cc in
      ap (λ (m : ℕ). Some (block_faults.Full m l)) needed ∙ ap (λ (m : ℕ). Some (block_faults.Full need m)) left;
  open_still = λ is. cc;
}
block_stops (block_faults.Damaged sector stated found) = record { fails = refl; told = λ whole. whole; disk = λ is. absurd (cc); full = λ need largest is. absurd (cc); open_still = λ is. cc }
block_stops block_faults.DiskFault = record { fails = refl; told = λ whole. whole; disk = λ is. refl; full = λ need largest is. absurd (cc); open_still = λ is. cc }

-- a walk refuses no plan
walk_planned : (fault : OrMemory BlockFault) (plan : PlanFault) → ◌≡◌ {A = Result PoolState PoolFault} (Err (or_memory of_block fault)) (Err (faults.Plan plan)) → ⊥
walk_planned (Fault (block_faults.Full need largest)) plan is = cc
walk_planned (Fault (block_faults.Damaged sector stated found)) plan is = cc
walk_planned (Fault block_faults.DiskFault) plan is = cc
walk_planned Memory plan is = cc

module _ (T : Type 0) where
  walk_stops : (fault : OrMemory BlockFault) → Stops (fault_of {T = T} (Err fault)) (or_memory of_block fault)
  walk_stops (Fault fault) = block_stops fault
  walk_stops Memory = memory_stops None refl

  -- a pool at rest is walked: nothing is damaged, and nothing was to be written
  walk_refused : (fault : OrMemory BlockFault) (definition : Result Stepped Refusal) → ((need largest : ℕ) → ¬ (fault_of {T = T} (Err fault) ≡ Some (block_faults.Full need largest))) → GivesOrTells {T = T} (λ done. Unit {0}) IsNoDamage (Err fault)
      → StepFault (Unit {0}) definition (or_memory of_block fault)
  walk_refused (Fault (block_faults.Full need largest)) definition never tells = absurd (never need largest refl)
  walk_refused (Fault (block_faults.Damaged sector stated found)) definition never tells = tells
  walk_refused (Fault block_faults.DiskFault) definition never tells = tt
  walk_refused Memory definition never tells = tt

  -- and what is told as damaged is of what was walked
  walk_damaged : (Is : DamageFact) (fault : OrMemory BlockFault) → IfFault {T = T} (Err fault) (λ f. IfDamage f Is) → IsOf Is (or_memory of_block fault)
  walk_damaged Is (Fault (block_faults.Full need largest)) told = λ sector stated found is. absurd (cc)
  walk_damaged Is (Fault (block_faults.Damaged at said parts)) told = λ sector stated found is.
      let first : at ≡ sector = cc in
      let second : said ≡ stated = cc in
      let third : parts ≡ found = cc in
      subst (λ (n : ℕ). Is n stated found) first (subst (λ (l : List ℕ). Is at l found) second (subst (λ (l : List ℕ). Is at said l) third told))
  walk_damaged Is (Fault block_faults.DiskFault) told = λ sector stated found is. absurd (cc)
  walk_damaged Is Memory told = λ sector stated found is. absurd (cc)

  -- a reclaim that stopped at its sync or its walk
  pub reclaim_stopped : (held : List HeldBlocks) (old new : IoState) (kept : PoolState) (fault : OrMemory BlockFault) {answer : Result PoolState PoolFault} → answer ≡ Err (or_memory of_block fault) → blocks.Looks old new (fault_of {T = T} (Err fault)) → Ready old.disk kept.body
      → kept.body.uber.number < 2 ^ 63 → ((running : Pool) → new.disk.honest → IsAtRest false old.disk kept running → HeldStand old.disk kept.body held → GivesOrTells {T = T} (λ done. Unit {0}) IsNoDamage (Err fault))
      → (new.disk.honest → IfFault {T = T} (Err fault) (λ f. IfDamage f (reclaim_damage held old.disk kept.body kept.dir))) → ReclaimDid held kept old new answer
  reclaim_stopped held old new kept fault same looks ready below walks damaged =
      reclaim_fell held old new kept (fault_of {T = T} (Err fault)) (or_memory of_block fault) same looks (walk_stops fault) ready
      (λ running told rested standing. walk_refused fault (committed running) looks.never_full (walks running told rested standing)) (λ told. walk_damaged (reclaim_damage held old.disk kept.body kept.dir) fault (damaged told))
      (plans_apart committed 0 0 false kept (Err (or_memory of_block fault)) (accepts kept below) (λ plan is. absurd (walk_planned fault plan is)))

-- without memory for its directory nothing of it was committed
pub found_starved : (kept : PoolState) (found : UnreachedSectors) (io : IoState) (result : Result PoolState PoolFault) → result ≡ Err faults.OutOfMemory → Ready io.disk kept.body → IsFoundFor kept.body.uber found
    → CommitsFound kept found io (over_found found io) result
found_starved kept found io result same ready fits =
    let none = FillsFree-reads io.disk io.disk found.space (OnlyReads-none io.disk) in
    record {
      made = Err commits.OutOfMemory;
      answers = same;
      over = λ tight all next told are is. over-refused io.disk io.disk found.space found.space next commits.OutOfMemory (IsTaken-label io.disk.size found.space (found_fits io.disk kept found ready fits)) none;
      done = tt;
      full = λ need largest is. absurd (cc (is));
      refused = record { fills = λ apart. none; refused = refl; stays = λ sound. ready };
      disk = record { size = refl; failed = or_false io.failed; told = λ whole. refl; honest = λ told. told; same = refl };
      cause = record { later = omega arith; fault = λ is. absurd (cc (is)) };
    }

-- what only read before leaves how a commit ends
ends_looked : (old mid new : IoState) (space : FreeSectors) (kept : PoolState) (result : Result PoolState PoolFault) → blocks.Looks old mid None → EndsCommit kept (record mid { space = space }) new result → EndsCommit kept old new result
ends_looked old mid new space kept result looks ends = record {
  ready = ends.ready;
  stays = ends.stays;
  disk = record {
    size = ends.disk.size ∙ looks.reads.size;
    failed = failed_then old.failed mid.failed new.failed (is_disk_fault result) looks.failed ends.disk.failed;
    told = λ whole. ends.disk.told whole ∙ looks.told refl;
    honest = λ told. looks.reads.honest (ends.disk.honest told);
    same = ends.disk.same ∙ looks.same;
  };
  cause = record { later = omega (arith, looks.cause.later, ends.cause.later); fault = λ is. Rose-earlier old.disk.faults mid.disk.faults new.disk.faults looks.cause.later (ends.cause.fault is) };
  space = ends.space;
  extents = ends.extents;
}

-- what its commit made, over what was found
abbrev Freed : IoState → IoState → PoolState → UnreachedSectors → PoolState → Type 0
Freed mid new kept found = FreedDir kept.body kept.dir found.marks (over_found found mid) new

-- a reclaim that came to its commit
pub reclaim_committed : (held : List HeldBlocks) (old mid new : IoState) (kept : PoolState) (found : UnreachedSectors) (result : Result PoolState PoolFault) → blocks.Looks old mid None → IsSynced mid.disk → Ready old.disk kept.body → kept.body.uber.number < 2 ^ 63 → IsLawful kept.dir
    → IsFoundFor kept.body.uber found → (mid.disk.honest → (sector : ℕ) → sector < kept.body.uber.end → IsMarked found.marks sector ↔ StaysReached (IsBlock old.disk.seen) kept.dir held sector)
    → (mid.disk.honest → (sector : ℕ) → sector < kept.body.uber.end → IsFree found.space sector ↔ ¬ IsReached (IsBlock old.disk.seen) kept.body.uber kept.dir held sector) → CommitsFound kept found mid new result → ReclaimDid held kept old new result
reclaim_committed held old mid new kept found result looks synced ready below lawful fits marked unreached commit = record {
  carries = record {
    moments = λ tight running told rested. let did = did_all running told rested in did.moments;
    answer = λ tight running told rested standing. let did = did_all running told rested in did.answer;
    open_still = λ is. committed_open commit.made (sym commit.answers ∙ is);
    commits = ends_looked old mid new found.space kept result looks
        (ends_as commit.made result commit.answers kept (over_found found mid) new
        (IfOk-weaker commit.made (Freed mid new kept found) (λ next. Ready new.disk next.body) (λ next is. is.ready) commit.done)
        (IfOk-weaker commit.made (Freed mid new kept found) (λ next. new.space ≡ free_by next.body) (λ next is. sym is.space) commit.done)
        (IfOk-weaker commit.made (Freed mid new kept found) (λ next. HasItsExtents new.disk next.body) (λ next is. is.extents) commit.done) commit.refused.stays commit.disk commit.cause);
    spared = λ told apart. spared_before held old.disk mid.disk new.disk kept (kept_after kept result) looks.reads.seen (spared_so held mid new kept found result fits ready_mid (marks told) (frees told) commit apart);
    damaged = λ told. damage_of (reclaim_damage held old.disk kept.body kept.dir) result (λ sector stated parts is. absurd (committed_sound commit.made sector stated parts (sym commit.answers ∙ is)));
    plans = plans_apart committed 0 0 false kept result (accepts kept below) (λ plan is. absurd (no_plan-commit commit.made commit.answers plan is));
    partials = answers_ok commit.made result commit.answers (λ next. next.dir.partials ≡ kept.dir.partials)
        (IfOk-weaker commit.made (Freed mid new kept found) (λ next. next.dir.partials ≡ kept.dir.partials) (λ next is. ap (λ (r : Rows). r.partials) is.dir) commit.done);
  };
  reclaims = λ told. reclaims_before held old.disk mid.disk new.disk kept (kept_after kept result) new.space result looks.reads.seen (reclaims_so held mid new kept found result fits ready_mid (marks told) (frees told) commit);
}
  where
    ready_mid : Ready mid.disk kept.body
    ready_mid = ready_read old.disk mid.disk kept looks.reads ready

    marks : new.disk.honest → (sector : ℕ) → sector < kept.body.uber.end → IsMarked found.marks sector ↔ StaysReached (IsBlock mid.disk.seen) kept.dir held sector
    marks told = subst (λ (seen : List ℕ). (sector : ℕ) → sector < kept.body.uber.end → IsMarked found.marks sector ↔ StaysReached (IsBlock seen) kept.dir held sector) (sym looks.reads.seen) (marked (commit.disk.honest told))

    frees : new.disk.honest → (sector : ℕ) → sector < kept.body.uber.end → IsFree found.space sector ↔ ¬ IsReached (IsBlock mid.disk.seen) kept.body.uber kept.dir held sector
    frees told = subst (λ (seen : List ℕ). (sector : ℕ) → sector < kept.body.uber.end → IsFree found.space sector ↔ ¬ IsReached (IsBlock seen) kept.body.uber kept.dir held sector) (sym looks.reads.seen) (unreached (commit.disk.honest told))

    did_all : {tight : Bool} (running : Pool) → new.disk.honest → IsAtRest tight old.disk kept running → Did tight old.disk new.disk kept running (committed running) result
    did_all running told rested = did_before old.disk mid.disk new.disk kept running (committed running) result looks.reads rested
        (did_so held mid new kept found result fits ready_mid (marks told) (frees told) commit running told (rests_read old.disk mid.disk kept looks.reads running rested) synced lawful below)
