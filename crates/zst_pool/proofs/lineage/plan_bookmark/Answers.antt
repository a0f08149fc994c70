use Rattle.std.proofs.Common.{rules, ◌≡◌, ◌⊎◌, ◌∙◌, ℕ, List, Some, true, not, bytes_eq, inl, inr, sym, ap, subst}
use Rattle.zst_names.specs.Names.{dataset_of}
use Rattle.zst_model.specs.declared.refusals.plan_fault.PlanFault.{PlanFault}
use Rattle.zst_model.specs.declared.refusals.subjects.Name.TheVariants as names
use Rattle.zst_model.specs.states.AppliedItems.{unless}
use Rattle.zst_model.specs.pools.Pool.{Pool, dataset_of_snapshot, snapshot_named}
use Rattle.zst_model.specs.pools.Pool as plain
use Rattle.zst_model.specs.pools.Step.{bookmark_of, committed, no_such, not_ancestor, or_else, with_bookmark}
use Rattle.zst_pool.specs.Lineage.{JudgesBookmark, if_new_bookmark, if_of_dataset, with_marked}
use Rattle.zst_pool.specs.Plans.{IsLast, is_by_rows}
use Rattle.zst_model.proofs.Results.{err_is}
use Rattle.zst_pool.proofs.CheckLemmas.{err_has}
use Rattle.zst_pool.proofs.lineage.plan_bookmark.Goals as goal

-- what the rows or the last number refuse
abbrev Refused : ℕ → PlanFault → Type 0
Refused number fault = (is_by_rows fault ≡ true) ⊎ IsLast number fault

-- what the definition makes once the snapshot is found
marks_found : (marked name : List ℕ) (pool : Pool) (taken : plain.Snapshot) → snapshot_named marked pool ≡ Some taken → taken.name ≡ marked
    → with_bookmark marked name pool ≡ if_of_dataset marked name (if_new_bookmark name pool (committed (with_marked (bookmark_of name taken) pool)))
marks_found marked name pool taken found named =
    let rest = λ (snapshot : plain.Snapshot). if_new_bookmark name pool (committed (with_marked (bookmark_of name snapshot) pool)) in
    ap (λ o. or_else (no_such (names.Snapshot marked)) o (λ snapshot. unless (not (bytes_eq (dataset_of_snapshot snapshot) (dataset_of 35 name))) (not_ancestor (names.Bookmark name) (names.Snapshot marked)) (rest snapshot))) found
    ∙ ap (λ (n : List ℕ). unless (not (bytes_eq (dataset_of 64 n) (dataset_of 35 name))) (not_ancestor (names.Bookmark name) (names.Snapshot marked)) (rest taken)) named

pub returns-in_err-row-clause-plans : goal.returns-in_err-row-clause-plans
returns-in_err-row-clause-plans c = record {
  number = search rules;
  refused = err_has (Refused c.args.kept.now.body.uber.number) c.from_residual.result c.in_err-row.field-0.0 c.from_residual.ensures.1 (inl c.in_err-row.ensures.finds.rows);
  judged = search rules;
}

pub returns-in_err-check_dataset-clause-plans : goal.returns-in_err-check_dataset-clause-plans
returns-in_err-check_dataset-clause-plans c = record {
  number = search rules;
  refused = err_has (Refused c.args.kept.now.body.uber.number) c.from_residual-in_err-check_dataset.result c.in_err-check_dataset.field-0.0 c.from_residual-in_err-check_dataset.ensures.1 (inl c.in_err-check_dataset.ensures.rows);
  judged = search rules;
}

pub returns-in_err-check_new_bookmark-clause-plans : goal.returns-in_err-check_new_bookmark-clause-plans
returns-in_err-check_new_bookmark-clause-plans c = record {
  number = search rules;
  refused = err_has (Refused c.args.kept.now.body.uber.number) c.from_residual-in_err-check_new_bookmark.result c.in_err-check_new_bookmark.field-0.0 c.from_residual-in_err-check_new_bookmark.ensures.1 (inl c.in_err-check_new_bookmark.ensures.checks.rows);
  judged = λ pool are number.
      let name = c.args.name.now in
      let found = c.in_ok-row.ensures.finds.judged pool are in
      let marked = with_marked (bookmark_of name found.0) pool in
      let fell = c.from_residual-in_err-check_new_bookmark in
      subst (JudgesBookmark c.args.kept.now.dir c.args.snapshot.now name pool) (sym (err_is fell.result c.in_err-check_new_bookmark.field-0.0 fell.ensures.1))
      (marks_found c.args.snapshot.now name pool found.0 found.2 found.3 ∙ c.in_ok-check_dataset.ensures.judged (if_new_bookmark name pool (committed marked)) ∙ c.in_err-check_new_bookmark.ensures.checks.judged pool are (committed marked));
}

pub returns-in_err-check_number-clause-plans : goal.returns-in_err-check_number-clause-plans
returns-in_err-check_number-clause-plans c = record {
  number = search rules;
  refused = err_has (Refused c.args.kept.now.body.uber.number) c.from_residual-in_err-check_number.result c.in_err-check_number.field-0.0 c.from_residual-in_err-check_number.ensures.1 (inr c.in_err-check_number.ensures.last);
  judged = λ pool are number.
      let name = c.args.name.now in
      let found = c.in_ok-row.ensures.finds.judged pool are in
      let marked = with_marked (bookmark_of name found.0) pool in
      let fell = c.from_residual-in_err-check_number in
      subst (JudgesBookmark c.args.kept.now.dir c.args.snapshot.now name pool) (sym (err_is fell.result c.in_err-check_number.field-0.0 fell.ensures.1))
      (marks_found c.args.snapshot.now name pool found.0 found.2 found.3 ∙ c.in_ok-check_dataset.ensures.judged (if_new_bookmark name pool (committed marked)) ∙ c.in_ok-check_new_bookmark.ensures.checks.judged pool are (committed marked) ∙ c.in_err-check_number.ensures.judged marked number);
}
