use Rattle.std.proofs.Common.{rules, ◌≡◌, ◌∙◌, ◌∷◌, inl, inr, ◌<◌, ◌≤◌, true, List, length, Option, sym, ap, subst, arith}
use Rattle.std.specs.List.{All}
use Rattle.zst_block.specs.IoStates.{io_of}
use Rattle.zst_model.specs.pools.Step.{redaction_of, with_redaction}
use Rattle.zst_model.proofs.Results.{err_is}
use Rattle.zst_tree.specs.Damage.{IsSeen}
use Rattle.zst_dir.specs.Rows.{IsSnapshotRow}
use Rattle.zst_dir.specs.declared.rows.Snapshot.{Snapshot}
use Rattle.zst_redact.specs.Damage.{IsDamagedAmong}
use Rattle.zst_pool.specs.CommandRuns.{Runs}
use Rattle.zst_pool.specs.Cost.{redact_cost}
use Rattle.zst_pool.specs.Damage.{redact_damage}
use Rattle.zst_pool.specs.Redactions.{rows_of, sets_of, with_found}
use Rattle.zst_pool.specs.declared.fault.PoolFault.TheVariants.{OutOfMemory, Plan}
use Rattle.zst_pool.proofs.CommandRuns.{runs_planned, runs_starved}
use Rattle.zst_pool.proofs.PlanLemmas.{gives_told, plans_apart, plans_refused, plans_starved, short_apart}
use Rattle.zst_pool.proofs.PoolsAtRest.{rest_named}
use Rattle.zst_pool.proofs.redacts.make_redaction.Goals as goal

pub returns-in_err-row : goal.returns-in_err-row
returns-in_err-row g c = record {
  does =
      let kept = c.args.kept.now in
      let disk = g.D.Disk.state c.args.io.now.disk.now in
      let of = c.args.snapshot.now in
      let words = c.args.redactions.now in
      let definition = with_redaction of c.args.name.now words in
      let plan = c.in_err-row.field-0.0 in
      let answered = err_is c.from_residual.result (Plan plan) c.from_residual.ensures.1 in
      record {
        runs = runs_planned definition (redact_cost of words) (redact_damage disk (of ∷ words) kept.dir) kept plan answered c.requires.begins.space c.requires.begins.ready
            (λ running rested. let named = rest_named disk kept running rested in c.in_err-row.ensures.checks.judged running named.are_named);
        plans = plans_refused definition 0 0 true kept plan answered (inl c.in_err-row.ensures.checks.rows) (λ pool named. c.in_err-row.ensures.checks.judged pool named.are_named);
        partials = search rules;
      };
}

pub returns-in_err-rows : goal.returns-in_err-rows
returns-in_err-rows g c = record {
  does =
      let kept = c.args.kept.now in
      let disk = g.D.Disk.state c.args.io.now.disk.now in
      let of = c.args.snapshot.now in
      let name = c.args.name.now in
      let words = c.args.redactions.now in
      let definition = with_redaction of name words in
      let fell = c.from_residual-in_err-rows in
      let answered = err_is fell.result OutOfMemory fell.ensures.1 in
      record {
        runs = runs_starved definition (redact_cost of words) (redact_damage disk (of ∷ words) kept.dir) kept answered c.requires.begins.space c.requires.begins.ready;
        plans = plans_starved definition 0 0 true kept fell.result answered (λ pool named.
            let redacts = c.in_ok-row.ensures.checks.judged pool named.are_named in
            ap gives_told redacts.left ∙ short_apart (redaction_of name redacts.taken redacts.redactions) pool);
        partials = search rules;
      };
}

pub commit_redaction-requires-clause-rows : goal.commit_redaction-requires-clause-rows
commit_redaction-requires-clause-rows g c = subst (λ (rows : List Snapshot). All IsSnapshotRow rows) (sym c.as_slice.ensures.value) c.in_ok-rows.ensures.each

pub commit_redaction-requires-clause-some : goal.commit_redaction-requires-clause-some
commit_redaction-requires-clause-some g c =
    let long = ap (λ (rows : List Snapshot). length rows) (c.as_slice.ensures.value ∙ c.in_ok-rows.ensures.rows) ∙ c.in_ok-row.ensures.all in
    let some : 0 < length c.args.redactions.now = c.requires.words.3 in
    omega (arith, long, some)

pub commit_redaction-requires-clause-few : goal.commit_redaction-requires-clause-few
commit_redaction-requires-clause-few g c =
    let long = ap (λ (rows : List Snapshot). length rows) (c.as_slice.ensures.value ∙ c.in_ok-rows.ensures.rows) ∙ c.in_ok-row.ensures.all in
    let few : length c.args.redactions.now ≤ 16 = c.requires.words.4 in
    omega (arith, long, few)

pub returns : goal.returns
returns g c = record {
  does =
      let kept = c.args.kept.now in
      let disk = g.D.Disk.state c.args.io.now.disk.now in
      let of = c.args.snapshot.now in
      let name = c.args.name.now in
      let words = c.args.redactions.now in
      let row = c.in_ok-row.row.now in
      let definition = with_redaction of name words in
      let commit = c.commit_redaction.ensures in
      let same : c.as_slice.result.now ≡ rows_of words kept.dir = c.as_slice.ensures.value ∙ c.in_ok-rows.ensures.rows in
      let all : rows_of (of ∷ words) kept.dir ≡ row ∷ c.as_slice.result.now =
      ap (λ (o : Option Snapshot). with_found o (rows_of words kept.dir)) c.in_ok-row.ensures.found ∙ ap (λ (rows : List Snapshot). row ∷ rows) (sym same) in
      record {
        runs = subst (λ (rows : List Snapshot). Runs definition (redact_cost of words) (IsDamagedAmong (IsSeen disk.seen) disk.size (sets_of rows)) kept (io_of c.args.io.now) (io_of c.commit_redaction.new.io) c.commit_redaction.result) (sym all)
            (commit.runs of words same (λ pool are. c.in_ok-row.ensures.checks.judged pool are));
        plans = plans_apart definition 0 0 true kept c.commit_redaction.result
            (λ pool named.
            let redacts = c.in_ok-row.ensures.checks.judged pool named.are_named in
            ap gives_told redacts.left ∙ short_apart (redaction_of name redacts.taken redacts.redactions) pool)
            (λ fault is. inr (commit.limits fault is));
        partials = commit.partials;
      };
}
