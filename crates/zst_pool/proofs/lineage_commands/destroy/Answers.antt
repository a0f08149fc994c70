use Rattle.std.proofs.Common.{rules, [], sym, ◌∙◌, subst, ◌+◌, arith, false, ap, ◌≤◌}
use Rattle.zst_block.specs.Blocks.{Has}
use Rattle.zst_model.specs.pools.Step.{with_destroyed}
use Rattle.zst_model.proofs.Results.{err_is}
use Rattle.zst_dir.specs.Rows.{Rows}
use Rattle.zst_image.specs.Reads.{RunsBy, bound_of}
use Rattle.zst_pool.specs.Lineage.{pool_without}
use Rattle.zst_pool.specs.Cost.{cells_only}
use Rattle.zst_pool.specs.Damage.{NoDamage}
use Rattle.zst_pool.specs.declared.fault.PoolFault.TheVariants.{OutOfMemory, Plan}
use Rattle.zst_pool.proofs.Bounds.{RunsBy-later}
use Rattle.zst_pool.proofs.CommitAnswers.{rows_left}
use Rattle.zst_pool.proofs.LineageRows.{left_runs, same_guids, same_id, same_number}
use Rattle.zst_pool.proofs.PlanLemmas.{made_apart, plans_apart, plans_refused, plans_starved, told_or_last}
use Rattle.zst_pool.proofs.PoolsAtRest.{few_guids, rest_named, runs_named}
use Rattle.zst_pool.proofs.CommandRuns.{runs_planned, runs_starved}
use Rattle.zst_uber.specs.declared.uber.Uber.{Uber}
use Rattle.zst_model.specs.pools.Limits.{last_guid}
use Rattle.zst_pool.proofs.lineage_commands.destroy.Goals as goal

pub returns-in_err-going : goal.returns-in_err-going
returns-in_err-going g c = record {
  does = record {
    runs =
        let kept = c.args.kept.now in
        let plan = c.in_err-going.field-0.0 in
        runs_planned (with_destroyed [] c.args.name) (cells_only 0) NoDamage kept plan (err_is c.from_residual.result (Plan plan) c.from_residual.ensures.1) c.requires.begins.space c.requires.begins.ready
        (λ running rested. let named = rest_named (g.D.Disk.state c.args.io.now.disk.now) kept running rested in c.in_err-going.ensures.plans.judged running named.are_named named.number);
    plans =
        let kept = c.args.kept.now in
        let fault = c.in_err-going.field-0.0 in
        plans_refused (with_destroyed [] c.args.name) 0 0 false kept fault (err_is c.from_residual.result (Plan fault) c.from_residual.ensures.1) (told_or_last 0 0 false kept.body fault c.in_err-going.ensures.plans.refused)
        (λ pool named. c.in_err-going.ensures.plans.judged pool named.are_named named.number);
    partials = search rules;
  };
}

pub returns : goal.returns
returns g c = record {
  does = record {
    runs =
        let kept = c.args.kept.now in
        let going = c.in_ok-going.going in
        c.commit_rows.ensures.runs (with_destroyed [] c.args.name) (λ tight image space running runs.
        let has = Has image space in
        let named = runs_named has kept running runs in
        record {
          next = pool_without going running;
          made = c.in_ok-going.ensures.plans.judged running named.are_named named.number;
          id = same_id going running;
          number = same_number going running;
          guid_counter = same_guids going running ∙ runs.guids ∙ ap (λ (u : Uber). u.guids) (sym c.uber.ensures);
          few = subst (λ (u : Uber). u.guids ≤ last_guid) (sym c.uber.ensures) (few_guids has kept running runs);
          runs_by = RunsBy-later tight running.number (running.number + 1) (omega arith) has _ (pool_without going running)
              (subst (λ (r : Rows). RunsBy (bound_of tight running.number) has r (pool_without going running)) (sym c.in_ok-dir.ensures.makes.made) (left_runs has kept.dir running runs.runs_by going));
        });
    plans =
        plans_apart (with_destroyed [] c.args.name) 0 0 false c.args.kept.now c.commit_rows.result
        (λ pool named. made_apart (with_destroyed [] c.args.name pool) _ (c.in_ok-going.ensures.plans.judged pool named.are_named named.number))
        (λ fault is. absurd (c.commit_rows.ensures.unplanned fault is));
    partials = rows_left c.in_ok-dir.ensures.makes.made c.commit_rows.result c.commit_rows.ensures.rows;
  };
}

pub returns-in_err-dir : goal.returns-in_err-dir
returns-in_err-dir g c = record {
  does = record {
    runs =
        let fell = c.from_residual-in_err-dir in
        runs_starved (with_destroyed [] c.args.name) (cells_only 0) NoDamage c.args.kept.now (err_is fell.result OutOfMemory fell.ensures.1) c.requires.begins.space c.requires.begins.ready;
    plans =
        let fell = c.from_residual-in_err-dir in
        plans_starved (with_destroyed [] c.args.name) 0 0 false c.args.kept.now fell.result (err_is fell.result OutOfMemory fell.ensures.1)
        (λ pool named. made_apart (with_destroyed [] c.args.name pool) _ (c.in_ok-going.ensures.plans.judged pool named.are_named named.number));
    partials = search rules;
  };
}
