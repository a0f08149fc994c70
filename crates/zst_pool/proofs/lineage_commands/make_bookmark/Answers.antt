use Rattle.std.proofs.Common.{rules, ◌≡◌, ℕ, List, refl, sym, ap, ◌∙◌, subst, ◌+◌, arith, false, ◌≤◌}
use Rattle.std.specs.List.{All}
use Rattle.zst_block.specs.Blocks.{Has}
use Rattle.zst_model.specs.pools.Pool.{is_before, inserted}
use Rattle.zst_model.specs.pools.Step.{bookmark_of, with_bookmark}
use Rattle.zst_model.proofs.Results.{err_is}
use Rattle.zst_dir.specs.Rows.{Rows}
use Rattle.zst_dir.specs.declared.rows.Bookmark.{Bookmark}
use Rattle.zst_image.specs.Reads.{RunsBy, bound_of}
use Rattle.zst_pool.specs.Lineage.{with_marked}
use Rattle.zst_pool.specs.Cost.{cells_only}
use Rattle.zst_pool.specs.Damage.{NoDamage}
use Rattle.zst_pool.specs.declared.fault.PoolFault.TheVariants.{OutOfMemory, Plan}
use Rattle.zst_pool.proofs.Bounds.{RunsBy-later}
use Rattle.zst_pool.proofs.CommitAnswers.{rows_left}
use Rattle.zst_pool.proofs.LineageRows.{bookmark_runs}
use Rattle.zst_pool.proofs.PlanLemmas.{made_apart, plans_apart, plans_refused, plans_starved, told_or_last}
use Rattle.zst_pool.proofs.PoolsAtRest.{few_guids, rest_named, runs_named}
use Rattle.zst_pool.proofs.CommandRuns.{runs_planned, runs_starved}
use Rattle.zst_uber.specs.declared.uber.Uber.{Uber}
use Rattle.zst_model.specs.pools.Limits.{last_guid}
use Rattle.zst_pool.proofs.lineage_commands.make_bookmark.Goals as goal

pub add_bookmark-requires-clause-row : goal.add_bookmark-requires-clause-row
add_bookmark-requires-clause-row g c = c.in_ok-row.ensures.new.row

pub add_bookmark-requires-clause-new : goal.add_bookmark-requires-clause-new
add_bookmark-requires-clause-new g c =
    let new = c.in_ok-row.ensures.new in
    subst (λ (r : Rows). All (λ (other : Bookmark). other.name ≡ c.in_ok-row.row.name → ⊥) r.bookmarks) (sym c.in_ok-dir.ensures)
    (subst (λ (n : List ℕ). All (λ (other : Bookmark). other.name ≡ n → ⊥) c.args.kept.now.dir.bookmarks) (sym new.named) new.absent)

pub returns-in_err-row : goal.returns-in_err-row
returns-in_err-row g c = record {
  does = record {
    runs =
        let kept = c.args.kept.now in
        let plan = c.in_err-row.field-0.0 in
        runs_planned (with_bookmark c.args.snapshot.now c.args.name.now) (cells_only 0) NoDamage kept plan (err_is c.from_residual.result (Plan plan) c.from_residual.ensures.1) c.requires.begins.space c.requires.begins.ready
        (λ running rested. let named = rest_named (g.D.Disk.state c.args.io.now.disk.now) kept running rested in c.in_err-row.ensures.plans.judged running named.are_named named.number);
    plans =
        let kept = c.args.kept.now in
        let fault = c.in_err-row.field-0.0 in
        plans_refused (with_bookmark c.args.snapshot.now c.args.name.now) 0 0 false kept fault (err_is c.from_residual.result (Plan fault) c.from_residual.ensures.1) (told_or_last 0 0 false kept.body fault c.in_err-row.ensures.plans.refused)
        (λ pool named. c.in_err-row.ensures.plans.judged pool named.are_named named.number);
    partials = search rules;
  };
}

pub returns-in_err-add_bookmark : goal.returns-in_err-add_bookmark
returns-in_err-add_bookmark g c = record {
  does = record {
    runs =
        let fell = c.from_residual-in_err-add_bookmark in
        runs_starved (with_bookmark c.args.snapshot.now c.args.name.now) (cells_only 0) NoDamage c.args.kept.now (err_is fell.result OutOfMemory fell.ensures.1) c.requires.begins.space c.requires.begins.ready;
    plans =
        let fell = c.from_residual-in_err-add_bookmark in
        plans_starved (with_bookmark c.args.snapshot.now c.args.name.now) 0 0 false c.args.kept.now fell.result (err_is fell.result OutOfMemory fell.ensures.1)
        (λ pool named. made_apart (with_bookmark c.args.snapshot.now c.args.name.now pool) _ (c.in_ok-row.ensures.plans.judged pool named.are_named named.number).4);
    partials = search rules;
  };
}

pub returns : goal.returns
returns g c = record {
  does = record {
    runs =
        let kept = c.args.kept.now in
        let name = c.args.name.now in
        let row = c.in_ok-row.row in
        let dir = c.in_ok-add_bookmark.ensures.added ∙ ap (λ (d : Rows). record d { bookmarks = inserted (λ (a b : Bookmark). is_before a.name b.name) row d.bookmarks }) c.in_ok-dir.ensures in
        c.commit_rows.ensures.runs (with_bookmark c.args.snapshot.now name) (λ tight image space running runs.
        let has = Has image space in
        let named = runs_named has kept running runs in
        let judged = c.in_ok-row.ensures.plans.judged running named.are_named named.number in
        let next = with_marked (bookmark_of name judged.1) running in
        let rows = dir ∙ ap (λ (b : Bookmark). record kept.dir { bookmarks = inserted (λ (x y : Bookmark). is_before x.name y.name) b kept.dir.bookmarks }) judged.3 in
        record {
          next = next;
          made = judged.4;
          id = refl;
          number = refl;
          guid_counter = runs.guids ∙ ap (λ (u : Uber). u.guids) (sym c.uber.ensures);
          few = subst (λ (u : Uber). u.guids ≤ last_guid) (sym c.uber.ensures) (few_guids has kept running runs);
          runs_by = RunsBy-later tight running.number (running.number + 1) (omega arith) has _ next
              (subst (λ (r : Rows). RunsBy (bound_of tight running.number) has r next) (sym rows) (bookmark_runs has kept.dir running runs.runs_by name judged.0 judged.1 judged.2));
        });
    plans =
        plans_apart (with_bookmark c.args.snapshot.now c.args.name.now) 0 0 false c.args.kept.now c.commit_rows.result
        (λ pool named. made_apart (with_bookmark c.args.snapshot.now c.args.name.now pool) _ (c.in_ok-row.ensures.plans.judged pool named.are_named named.number).4)
        (λ fault is. absurd (c.commit_rows.ensures.unplanned fault is));
    partials = rows_left (c.in_ok-add_bookmark.ensures.added ∙ ap (λ (d : Rows). record d { bookmarks = inserted (λ (a b : Bookmark). is_before a.name b.name) c.in_ok-row.row d.bookmarks }) c.in_ok-dir.ensures) c.commit_rows.result c.commit_rows.ensures.rows;
  };
}

pub returns-in_err-dir : goal.returns-in_err-dir
returns-in_err-dir g c = record {
  does = record {
    runs =
        let fell = c.from_residual-in_err-dir in
        runs_starved (with_bookmark c.args.snapshot.now c.args.name.now) (cells_only 0) NoDamage c.args.kept.now (err_is fell.result OutOfMemory fell.ensures.1) c.requires.begins.space c.requires.begins.ready;
    plans =
        let fell = c.from_residual-in_err-dir in
        plans_starved (with_bookmark c.args.snapshot.now c.args.name.now) 0 0 false c.args.kept.now fell.result (err_is fell.result OutOfMemory fell.ensures.1)
        (λ pool named. made_apart (with_bookmark c.args.snapshot.now c.args.name.now pool) _ (c.in_ok-row.ensures.plans.judged pool named.are_named named.number).4);
    partials = search rules;
  };
}
