use Rattle.std.proofs.Common.{rules, refl, sym, ap, ◌∙◌, subst, length, arith, inl, inr, ◌≡◌, ◌+◌, false, ◌≤◌}
use Rattle.zst_block.specs.Blocks.{Has}
use Rattle.zst_model.specs.pools.Pool.{is_before, inserted, Pool}
use Rattle.zst_model.specs.pools.Step.{new_dataset, with_dataset}
use Rattle.zst_model.proofs.Results.{err_is}
use Rattle.std.specs.Prelude.{Ok}
use Rattle.zst_dir.specs.Rows.{Rows}
use Rattle.zst_dir.specs.Spelling.{dir_bytes}
use Rattle.zst_dir.specs.declared.rows.Dataset.{Dataset}
use Rattle.zst_pool.specs.Checks.{next_of, with_new}
use Rattle.zst_pool.specs.declared.fault.PoolFault.TheVariants.{OutOfMemory, Plan}
use Rattle.zst_pool.specs.Cost.{cells_only}
use Rattle.zst_pool.specs.Damage.{NoDamage}
use Rattle.zst_image.specs.Reads.{IsNamedBy, RunsBy, bound_of}
use Rattle.zst_pool.proofs.Bounds.{RunsBy-later}
use Rattle.zst_pool.proofs.CommitAnswers.{rows_left}
use Rattle.zst_pool.proofs.NextPools.{dataset_runs, new_row, new_row_is_new}
use Rattle.zst_pool.proofs.PoolsAtRest.{few_guids, rest_named, runs_named}
use Rattle.zst_pool.proofs.CommandRuns.{runs_planned, runs_starved}
use Rattle.zst_pool.proofs.PlanLemmas.{made_apart, plans_apart, plans_refused}
use Rattle.zst_pool.proofs.commands.make_dataset.Given.{Over}
use Rattle.zst_pool.proofs.commands.make_dataset.Goals.{In_ok-check_number}
use Rattle.zst_uber.specs.declared.uber.Uber.{Uber}
use Rattle.zst_model.specs.pools.Limits.{last_guid}
use Rattle.zst_pool.proofs.commands.make_dataset.Goals as goal

-- what the definition makes once both checks passed
made : (g : Over) (c : In_ok-check_number g) (pool : Pool) → IsNamedBy c.args.kept.now.body c.args.kept.now.dir pool
    → with_dataset (new_dataset c.args.kind c.args.name.now) pool ≡ Ok (next_of (with_new (new_dataset c.args.kind c.args.name.now) pool))
made g c pool named =
    let dataset = new_dataset c.args.kind c.args.name.now in
    c.in_ok-check_new_dataset.ensures.checks.judged pool named.are_named dataset refl ∙ c.in_ok-check_number.ensures.judged (with_new dataset pool) named.number

pub commit_rows-requires-clause-grows : goal.commit_rows-requires-clause-grows
commit_rows-requires-clause-grows g c = omega (arith, c.in_ok-add_dataset.ensures.grows, ap (λ (d : Rows). length (dir_bytes d)) c.in_ok-dir.ensures)

pub returns : goal.returns
returns g c = record {
  does = record {
    runs =
        let kept = c.args.kept.now in
        let kind = c.args.kind in
        let name = c.args.name.now in
        let dir = c.in_ok-add_dataset.ensures.added
        ∙ ap (λ (d : Rows). record d { datasets = inserted (λ (a b : Dataset). is_before a.name b.name) c.new_dataset.result d.datasets }) c.in_ok-dir.ensures
        ∙ ap (λ (row : Dataset). record kept.dir { datasets = inserted (λ (a b : Dataset). is_before a.name b.name) row kept.dir.datasets }) c.new_dataset.ensures.makes.same in
        c.commit_rows.ensures.runs (with_dataset (new_dataset kind name)) (λ tight image space running runs.
        let has = Has image space in
        let next = with_new (new_dataset kind name) running in
        record {
          next = next;
          made = made g (goal.at.returns g c).In_ok-check_number running (runs_named has kept running runs);
          id = refl;
          number = refl;
          guid_counter = runs.guids ∙ ap (λ (u : Uber). u.guids) (sym c.uber.ensures);
          few = subst (λ (u : Uber). u.guids ≤ last_guid) (sym c.uber.ensures) (few_guids has kept running runs);
          runs_by = subst (λ (r : Rows). RunsBy (bound_of tight (running.number + 1)) has r next) (sym dir)
              (dataset_runs has kept.dir running (new_row kind name) (new_dataset kind name) (RunsBy-later tight running.number (running.number + 1) (omega arith) has kept.dir running runs.runs_by)
              (new_row_is_new (bound_of tight (running.number + 1)) image space kind name));
        });
    plans =
        let at = (goal.at.returns g c).In_ok-check_number in
        let dataset = new_dataset c.args.kind c.args.name.now in
        plans_apart (with_dataset dataset) 0 0 false c.args.kept.now c.commit_rows.result
        (λ pool named. made_apart (with_dataset dataset pool) (next_of (with_new dataset pool)) (made g at pool named))
        (λ fault is. absurd (c.commit_rows.ensures.unplanned fault is));
    partials = rows_left (c.in_ok-add_dataset.ensures.added ∙ ap (λ (d : Rows). record d { datasets = inserted (λ (a b : Dataset). is_before a.name b.name) c.new_dataset.result d.datasets }) c.in_ok-dir.ensures) c.commit_rows.result c.commit_rows.ensures.rows;
  };
}

pub returns-in_err-add_dataset : goal.returns-in_err-add_dataset
returns-in_err-add_dataset g c = record {
  does = record {
    runs =
        let fell = c.from_residual-in_err-add_dataset in
        runs_starved (with_dataset (new_dataset c.args.kind c.args.name.now)) (cells_only 0) NoDamage c.args.kept.now (err_is fell.result OutOfMemory fell.ensures.1) c.requires.begins.space c.requires.begins.ready;
    plans =
        let fell = c.from_residual-in_err-add_dataset in
        let answered = err_is fell.result OutOfMemory fell.ensures.1 in
        let at = (goal.at.returns-in_err-add_dataset g c).In_ok-check_number in
        let dataset = new_dataset c.args.kind c.args.name.now in
        plans_apart (with_dataset dataset) 0 0 false c.args.kept.now fell.result
        (λ pool named. made_apart (with_dataset dataset pool) (next_of (with_new dataset pool)) (made g at pool named))
        (λ fault is. absurd (cc (answered, is)));
    partials = search rules;
  };
}

pub returns-in_err-dir : goal.returns-in_err-dir
returns-in_err-dir g c = record {
  does = record {
    runs =
        let fell = c.from_residual-in_err-dir in
        runs_starved (with_dataset (new_dataset c.args.kind c.args.name.now)) (cells_only 0) NoDamage c.args.kept.now (err_is fell.result OutOfMemory fell.ensures.1) c.requires.begins.space c.requires.begins.ready;
    plans =
        let fell = c.from_residual-in_err-dir in
        let answered = err_is fell.result OutOfMemory fell.ensures.1 in
        let at = (goal.at.returns-in_err-dir g c).In_ok-check_number in
        let dataset = new_dataset c.args.kind c.args.name.now in
        plans_apart (with_dataset dataset) 0 0 false c.args.kept.now fell.result
        (λ pool named. made_apart (with_dataset dataset pool) (next_of (with_new dataset pool)) (made g at pool named))
        (λ fault is. absurd (cc (answered, is)));
    partials = search rules;
  };
}

pub returns-in_err-check_new_dataset : goal.returns-in_err-check_new_dataset
returns-in_err-check_new_dataset g c = record {
  does = record {
    runs =
        let kept = c.args.kept.now in
        let plan = c.in_err-check_new_dataset.field-0.0 in
        let dataset = new_dataset c.args.kind c.args.name.now in
        runs_planned (with_dataset dataset) (cells_only 0) NoDamage kept plan (err_is c.from_residual.result (Plan plan) c.from_residual.ensures.1) c.requires.begins.space c.requires.begins.ready
        (λ running rested. let named = rest_named (g.D.Disk.state c.args.io.now.disk.now) kept running rested in c.in_err-check_new_dataset.ensures.checks.judged running named.are_named dataset refl);
    plans =
        let fault = c.in_err-check_new_dataset.field-0.0 in
        let dataset = new_dataset c.args.kind c.args.name.now in
        plans_refused (with_dataset dataset) 0 0 false c.args.kept.now fault (err_is c.from_residual.result (Plan fault) c.from_residual.ensures.1) (inl c.in_err-check_new_dataset.ensures.checks.rows)
        (λ pool named. c.in_err-check_new_dataset.ensures.checks.judged pool named.are_named dataset refl);
    partials = search rules;
  };
}

pub returns-in_err-check_number : goal.returns-in_err-check_number
returns-in_err-check_number g c = record {
  does = record {
    runs =
        let kept = c.args.kept.now in
        let plan = c.in_err-check_number.field-0.0 in
        let fell = c.from_residual-in_err-check_number in
        let dataset = new_dataset c.args.kind c.args.name.now in
        runs_planned (with_dataset dataset) (cells_only 0) NoDamage kept plan (err_is fell.result (Plan plan) fell.ensures.1) c.requires.begins.space c.requires.begins.ready
        (λ running rested.
        let named = rest_named (g.D.Disk.state c.args.io.now.disk.now) kept running rested in
        c.in_ok-check_new_dataset.ensures.checks.judged running named.are_named dataset refl ∙ c.in_err-check_number.ensures.judged (with_new dataset running) named.number);
    plans =
        let fault = c.in_err-check_number.field-0.0 in
        let fell = c.from_residual-in_err-check_number in
        let dataset = new_dataset c.args.kind c.args.name.now in
        plans_refused (with_dataset dataset) 0 0 false c.args.kept.now fault (err_is fell.result (Plan fault) fell.ensures.1) (inr (inr (inr c.in_err-check_number.ensures.last)))
        (λ pool named. c.in_ok-check_new_dataset.ensures.checks.judged pool named.are_named dataset refl ∙ c.in_err-check_number.ensures.judged (with_new dataset pool) named.number);
    partials = search rules;
  };
}
