use Rattle.std.specs.Prelude.{Ok, Result}
use Rattle.std.specs.Borrow.{Bor}
use Rattle.std.proofs.Common.{rules, ◌≡◌, ℕ, List, sym, ap, ◌∙◌, subst}
use Rattle.zst_names.specs.Names.{dataset_of}
use Rattle.zst_model.specs.declared.refusals.refusal.Refusal.{Refusal}
use Rattle.zst_model.specs.pools.Pool.{Pool, Dataset}
use Rattle.zst_model.specs.pools.Step.{Stepped, committed, on_dataset, with_snapshot}
use Rattle.zst_model.proofs.Results.{err_is}
use Rattle.zst_pool.specs.Checks.{FindsDataset, if_new_snapshot, if_guid_left, with_taken, JudgesSnapshot}
use Rattle.zst_dir.specs.RowNames.{AreNamed}
use Rattle.zst_dir.specs.Rows.{Rows}
use Rattle.zst_dir.specs.declared.rows.Dataset.{Dataset as Row}
use Rattle.std.specs.List.{list_any}
use Rattle.std.specs.Str.{bytes_eq}
use Rattle.std.proofs.Common.{false, inl, inr}
use Rattle.std.proofs.lemmas.Result.{err_from_is_err_and}
use Rattle.zst_pool.proofs.checks.plan_snapshot.Goals as goal
use Rattle.zst_pool.proofs.checks.plan_snapshot.Goals.{In_ok-check_guids}

-- what comes after each check
after_guids : ℕ → List ℕ → Pool → Dataset → Result Stepped Refusal
after_guids now name pool dataset = committed (with_taken now name dataset pool)

after_name : ℕ → List ℕ → Pool → Dataset → Result Stepped Refusal
after_name now name pool dataset = if_guid_left pool.guids (after_guids now name pool dataset)

after_dataset : ℕ → List ℕ → Pool → Dataset → Result Stepped Refusal
after_dataset now name pool dataset = if_new_snapshot name pool (after_name now name pool dataset)

pub returns-in_err-dataset-clause-plans : goal.returns-in_err-dataset-clause-plans
unfolding after_dataset after_name after_guids
returns-in_err-dataset-clause-plans c = record {
  number = search rules;
  refused =
      let p = err_from_is_err_and c.from_residual.result c.from_residual.ensures.1 in
      rw (p.1, p.2) (inl c.in_err-dataset.ensures.finds.rows);
  judged = λ pool are number now guids.
      let name = c.args.name.now in
      let is = ap (λ (n : List ℕ). on_dataset n pool (after_dataset now name pool)) (sym c.dataset.ensures)
      ∙ c.in_err-dataset.ensures.finds.judged pool are (after_dataset now name pool) in
      subst (JudgesSnapshot c.args.kept.now.dir now name pool) (sym (err_is c.from_residual.result c.in_err-dataset.field-0.0 c.from_residual.ensures.1)) is;
}

-- what is left of the definition once the dataset was found
opened : (rows : Rows) (now : ℕ) (name target : List ℕ) (pool : Pool) (row : Bor Row) → target ≡ dataset_of 64 name → (found : FindsDataset rows target pool (Ok row))
    → with_snapshot now name pool ≡ after_dataset now name pool found.0
unfolding after_dataset after_name after_guids
opened rows now name target pool row same found = ap (λ (n : List ℕ). on_dataset n pool (after_dataset now name pool)) (sym same) ∙ found.2 (after_dataset now name pool)

-- and once the snapshot is new, and a guid is left for it
numbered : (c : In_ok-check_guids) (now : ℕ) (pool : Pool) (are : AreNamed c.args.kept.now.dir pool) → pool.guids ≡ c.args.kept.now.body.uber.guids
    → with_snapshot now c.args.name.now pool ≡ after_guids now c.args.name.now pool (c.in_ok-dataset.ensures.finds.judged pool are).0
unfolding after_dataset after_name
numbered c now pool are guids =
    let name = c.args.name.now in
    let found = c.in_ok-dataset.ensures.finds.judged pool are in
    opened c.args.kept.now.dir now name c.dataset.result pool c.in_ok-dataset.dataset c.dataset.ensures found
    ∙ c.in_ok-check_new_snapshot.ensures.checks.judged pool are (after_name now name pool found.0)
    ∙ ap (λ (n : ℕ). if_guid_left n (after_guids now name pool found.0)) guids
    ∙ c.in_ok-check_guids.ensures.judged (after_guids now name pool found.0)

pub returns-in_err-check_new_snapshot-clause-plans : goal.returns-in_err-check_new_snapshot-clause-plans
unfolding after_dataset
returns-in_err-check_new_snapshot-clause-plans c = record {
  number = search rules;
  refused =
      let p = err_from_is_err_and c.from_residual-in_err-check_new_snapshot.result c.from_residual-in_err-check_new_snapshot.ensures.1 in
      rw (p.1, p.2) (inl c.in_err-check_new_snapshot.ensures.checks.rows);
  judged = λ pool are number now guids.
      let name = c.args.name.now in
      let fell = c.from_residual-in_err-check_new_snapshot in
      let found = c.in_ok-dataset.ensures.finds.judged pool are in
      subst (JudgesSnapshot c.args.kept.now.dir now name pool) (sym (err_is fell.result c.in_err-check_new_snapshot.field-0.0 fell.ensures.1))
      (opened c.args.kept.now.dir now name c.dataset.result pool c.in_ok-dataset.dataset c.dataset.ensures found ∙ c.in_err-check_new_snapshot.ensures.checks.judged pool are (after_name now name pool found.0));
}

pub returns-in_err-check_guids-clause-plans : goal.returns-in_err-check_guids-clause-plans
unfolding after_dataset after_name
returns-in_err-check_guids-clause-plans c = record {
  number = search rules;
  refused =
      let p = err_from_is_err_and c.from_residual-in_err-check_guids.result c.from_residual-in_err-check_guids.ensures.1 in
      rw (p.1, p.2) (inl c.in_err-check_guids.ensures.rows);
  judged = λ pool are number now guids.
      let name = c.args.name.now in
      let found = c.in_ok-dataset.ensures.finds.judged pool are in
      let is = opened c.args.kept.now.dir now name c.dataset.result pool c.in_ok-dataset.dataset c.dataset.ensures found
      ∙ c.in_ok-check_new_snapshot.ensures.checks.judged pool are (after_name now name pool found.0)
      ∙ ap (λ (n : ℕ). if_guid_left n (after_guids now name pool found.0)) guids
      ∙ c.in_err-check_guids.ensures.judged (after_guids now name pool found.0) in
      subst (JudgesSnapshot c.args.kept.now.dir now name pool) (sym (err_is c.from_residual-in_err-check_guids.result c.in_err-check_guids.field-0.0 c.from_residual-in_err-check_guids.ensures.1)) is;
}

pub returns-in_err-check_number-clause-plans : goal.returns-in_err-check_number-clause-plans
unfolding after_guids
returns-in_err-check_number-clause-plans c = record {
  number = search rules;
  refused =
      let p = err_from_is_err_and c.from_residual-in_err-check_number.result c.from_residual-in_err-check_number.ensures.1 in
      rw (p.1, p.2) (inr c.in_err-check_number.ensures.last);
  judged = λ pool are number now guids.
      let name = c.args.name.now in
      let fell = c.from_residual-in_err-check_number in
      let found = c.in_ok-dataset.ensures.finds.judged pool are in
      subst (JudgesSnapshot c.args.kept.now.dir now name pool) (sym (err_is fell.result c.in_err-check_number.field-0.0 fell.ensures.1))
      (numbered (goal.at.returns-in_err-check_number-clause-plans c).In_ok-check_guids now pool are guids ∙ c.in_err-check_number.ensures.judged (with_taken now name found.0 pool) number);
}

pub returns-clause-plans : goal.returns-clause-plans
unfolding after_guids
returns-clause-plans c = record {
  number = search rules;
  refused = search rules;
  judged = λ pool are number now guids.
      let found = c.in_ok-dataset.ensures.finds.judged pool are in
      let is = numbered (goal.at.returns-clause-plans c).In_ok-check_guids now pool are guids in
      (found.0, found.1, is ∙ c.in_ok-check_number.ensures.judged (with_taken now c.args.name.now found.0 pool) number);
}

pub returns-clause-there : goal.returns-clause-there
returns-clause-there c = let there = c.in_ok-dataset.ensures.there in (there.0, there.1 ∙ c.dataset.ensures)

pub returns-clause-can : goal.returns-clause-can
returns-clause-can c = record {
  absent = search rules;
  free = subst (λ (n : List ℕ). list_any (λ partial. bytes_eq partial.target n) c.args.kept.now.dir.partials ≡ false) c.dataset.ensures c.in_ok-dataset.ensures.free;
}
