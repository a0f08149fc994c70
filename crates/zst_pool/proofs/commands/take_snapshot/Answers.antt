use Rattle.std.proofs.Common.{rules, refl, sym, ap, ◌∙◌, subst, ◌<◌, ◌≤◌, ◌+◌, ◌^◌, ◌≡◌, ℕ, false, arith}
use Rattle.std.specs.List.{list_any}
use Rattle.std.specs.Str.{bytes_eq}
use Rattle.zst_block.specs.Blocks.{Has}
use Rattle.zst_names.specs.Names.{dataset_of}
use Rattle.zst_model.specs.pools.Limits.{last_guid}
use Rattle.zst_model.specs.pools.Pool.{inserted}
use Rattle.zst_model.specs.pools.Step.{with_snapshot}
use Rattle.zst_model.proofs.Results.{err_is}
use Rattle.zst_pool.specs.Checks.{next_of, with_taken}
use Rattle.zst_image.specs.Reads.{DatasetIs, RunsBy, bound_of}
use Rattle.zst_dir.specs.Rows.{Rows, HasSnapshot, IsDatasetRow, snapshot_is_before}
use Rattle.zst_dir.specs.declared.rows.Partial.{Partial}
use Rattle.zst_dir.specs.declared.rows.Snapshot.{Snapshot}
use Rattle.zst_pool.specs.declared.fault.PoolFault.TheVariants.{OutOfMemory, Plan}
use Rattle.zst_pool.specs.Cost.{cells_only}
use Rattle.zst_pool.specs.Damage.{NoDamage}
use Rattle.zst_pool.proofs.Bounds.{RunsBy-later}
use Rattle.zst_pool.proofs.CommitAnswers.{rows_left}
use Rattle.zst_dir.proofs.Matches.{Match-alike}
use Rattle.zst_pool.proofs.NextPools.{snapshot_runs}
use Rattle.zst_pool.proofs.PlanLemmas.{made_apart, plans_apart, plans_refused, told_or_last}
use Rattle.zst_pool.proofs.PoolsAtRest.{rest_named, runs_named}
use Rattle.zst_pool.proofs.CommandRuns.{runs_planned, runs_starved}
use Rattle.zst_uber.specs.declared.uber.Uber.{Uber}
use Rattle.zst_pool.proofs.commands.take_snapshot.Goals as goal

pub new_snapshot-snapshot-requires-clause-row : goal.new_snapshot-snapshot-requires-clause-row
new_snapshot-snapshot-requires-clause-row g c =
    let there = c.in_ok-dataset.ensures.there in
    subst IsDatasetRow there.0.2 (c.in_ok-dataset.ensures.lawful.datasets there.0.0 c.in_ok-dataset.dataset.now there.0.1)

pub dir_with_snapshot-requires-clause-can : goal.dir_with_snapshot-requires-clause-can
dir_with_snapshot-requires-clause-can g c = record {
  absent =
      subst (λ (s : Snapshot). HasSnapshot c.args.kept.now.dir s.name → ⊥) (sym c.new_snapshot-snapshot.ensures.makes.same) c.in_ok-dataset.ensures.can.absent;
  free =
      subst (λ (s : Snapshot). list_any (λ (partial : Partial). bytes_eq partial.target (dataset_of 64 s.name)) c.args.kept.now.dir.partials ≡ false) (sym c.new_snapshot-snapshot.ensures.makes.same) c.in_ok-dataset.ensures.can.free;
}

pub dir_with_snapshot-requires-clause-dataset : goal.dir_with_snapshot-requires-clause-dataset
dir_with_snapshot-requires-clause-dataset g c =
    let there = c.in_ok-dataset.ensures.there in
    (c.in_ok-dataset.dataset.now, there.0, there.1 ∙ ap (λ (s : Snapshot). dataset_of 64 s.name) (sym c.new_snapshot-snapshot.ensures.makes.same))

-- one more guid than are below the last one
more_guids : (guids : ℕ) → guids + 1 < 2 ^ 32 → guids + 1 ≤ last_guid
unfolding last_guid
more_guids guids below = omega (arith, below)

pub returns : goal.returns
returns g c = record {
  does = record {
    runs =
        let kept = c.args.kept.now in
        let now = c.args.now in
        let name = c.args.name.now in
        let dir = c.in_ok-dir.ensures.makes.made
        ∙ ap (λ (s : Snapshot). record kept.dir { snapshots = inserted snapshot_is_before s kept.dir.snapshots }) c.new_snapshot-snapshot.ensures.makes.same in
        c.commit_rows.ensures.runs (with_snapshot now name) (λ tight image space running runs.
        let has = Has image space in
        let named = runs_named has kept running runs in
        let judged = c.in_ok-dataset.ensures.plans.judged running named.are_named named.number now named.guids in
        let stands = Match-alike (DatasetIs (bound_of tight running.number) has) kept.dir.datasets running.datasets c.in_ok-dataset.dataset.now judged.0 runs.runs_by.datasets judged.1 in
        let next = with_taken now name judged.0 running in
        record {
          next = next;
          made = judged.2;
          id = refl;
          number = refl;
          guid_counter = ap (λ (n : ℕ). n + 1) (runs.guids ∙ ap (λ (u : Uber). u.guids) (sym c.uber.ensures));
          few = subst (λ (u : Uber). u.guids + 1 ≤ last_guid) (sym c.uber.ensures) (more_guids kept.body.uber.guids c.in_ok-dataset.ensures.guids);
          runs_by = RunsBy-later tight running.number (running.number + 1) (omega arith) has _ next
              (subst (λ (r : Rows). RunsBy (bound_of tight running.number) has r next) (sym dir) (snapshot_runs has kept running now name c.in_ok-dataset.dataset.now judged.0 runs stands));
        });
    plans =
        let now = c.args.now in
        let name = c.args.name.now in
        plans_apart (with_snapshot now name) 0 0 false c.args.kept.now c.commit_rows.result
        (λ pool named.
        let judged = c.in_ok-dataset.ensures.plans.judged pool named.are_named named.number now named.guids in
        made_apart (with_snapshot now name pool) (next_of (with_taken now name judged.0 pool)) judged.2)
        (λ fault is. absurd (c.commit_rows.ensures.unplanned fault is));
    partials = rows_left c.in_ok-dir.ensures.makes.made c.commit_rows.result c.commit_rows.ensures.rows;
  };
}

pub returns-in_err-dataset : goal.returns-in_err-dataset
returns-in_err-dataset g c = record {
  does = record {
    runs =
        let kept = c.args.kept.now in
        let plan = c.in_err-dataset.field-0.0 in
        runs_planned (with_snapshot c.args.now c.args.name.now) (cells_only 0) NoDamage kept plan (err_is c.from_residual.result (Plan plan) c.from_residual.ensures.1) c.requires.begins.space c.requires.begins.ready
        (λ running rested.
        let named = rest_named (g.D.Disk.state c.args.io.now.disk.now) kept running rested in
        c.in_err-dataset.ensures.plans.judged running named.are_named named.number c.args.now named.guids);
    plans =
        let kept = c.args.kept.now in
        let fault = c.in_err-dataset.field-0.0 in
        plans_refused (with_snapshot c.args.now c.args.name.now) 0 0 false kept fault (err_is c.from_residual.result (Plan fault) c.from_residual.ensures.1)
        (told_or_last 0 0 false kept.body fault c.in_err-dataset.ensures.plans.refused)
        (λ pool named. c.in_err-dataset.ensures.plans.judged pool named.are_named named.number c.args.now named.guids);
    partials = search rules;
  };
}

pub returns-in_err-dir : goal.returns-in_err-dir
returns-in_err-dir g c = record {
  does = record {
    runs =
        let fell = c.from_residual-in_err-dir in
        runs_starved (with_snapshot c.args.now c.args.name.now) (cells_only 0) NoDamage c.args.kept.now (err_is fell.result OutOfMemory fell.ensures.1) c.requires.begins.space c.requires.begins.ready;
    plans =
        let now = c.args.now in
        let name = c.args.name.now in
        let fell = c.from_residual-in_err-dir in
        let answered = err_is fell.result OutOfMemory fell.ensures.1 in
        plans_apart (with_snapshot now name) 0 0 false c.args.kept.now fell.result
        (λ pool named.
        let judged = c.in_ok-dataset.ensures.plans.judged pool named.are_named named.number now named.guids in
        made_apart (with_snapshot now name pool) (next_of (with_taken now name judged.0 pool)) judged.2)
        (λ fault is. absurd (cc (answered, is)));
    partials = search rules;
  };
}
