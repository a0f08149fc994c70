use Rattle.std.proofs.Common.{rules, ◌∙◌, List, ap, get_or}
use Rattle.zst_dir.specs.declared.rows.Snapshot.{Snapshot}
use Rattle.zst_plan.specs.ResumePlan.{find_from, find_marked, find_to, resumed_send}
use Rattle.zst_plan.proofs.SendChecks.{checks_found, refuses_from, refuses_list, refuses_to, token_send}
use Rattle.zst_plan.proofs.LookupLemmas.{row_names}
use Rattle.zst_plan.proofs.resume.resume_plan.Goals as goal

pub returns-in_err-snap-clause-plans : goal.returns-in_err-snap-clause-plans
returns-in_err-snap-clause-plans c = record {
  inside = search rules;
  found = λ pool are.
      let rows = c.args.dir.now in
      let token = c.args.token.now in
      refuses_to rows pool (find_to token pool) (find_from token pool) (find_marked token pool) (resumed_send token pool) (token_send token pool) c.from_residual.result c.in_err-snap.field-0.0 c.from_residual.ensures.1
      (c.in_err-snap.ensures.finds.found pool are);
}

pub returns-in_err-source-clause-plans : goal.returns-in_err-source-clause-plans
returns-in_err-source-clause-plans c = record {
  inside = search rules;
  found = λ pool are.
      let rows = c.args.dir.now in
      let token = c.args.token.now in
      refuses_from rows pool (find_to token pool) (find_from token pool) (find_marked token pool) (resumed_send token pool) (token_send token pool) c.from_residual-in_err-source.result c.in_ok-snap.snap c.in_err-source.field-0.0 c.from_residual-in_err-source.ensures.1
      (c.in_ok-snap.ensures.finds.found pool are) (λ snapshot at. c.in_err-source.ensures.found pool snapshot are (row_names rows pool are c.in_ok-snap.snap c.index-snapshots-snap.result snapshot at
      (c.index-snapshots-snap.is ∙ ap (λ (xs : List Snapshot). get_or xs c.in_ok-snap.snap c.index-snapshots-snap.result) c.snapshots.ensures)));
}

pub returns-in_err-book_t-clause-plans : goal.returns-in_err-book_t-clause-plans
returns-in_err-book_t-clause-plans c = record {
  inside = search rules;
  found = λ pool are.
      let rows = c.args.dir.now in
      let token = c.args.token.now in
      refuses_list rows pool (find_to token pool) (find_from token pool) (find_marked token pool) (resumed_send token pool) (token_send token pool) c.from_residual-in_err-book_t.result c.in_ok-snap.snap (c.in_ok-snap.ensures.finds.found pool are)
      c.in_ok-source.source (λ snapshot at. c.in_ok-source.ensures.found pool snapshot are (row_names rows pool are c.in_ok-snap.snap c.index-snapshots-snap.result snapshot at
      (c.index-snapshots-snap.is ∙ ap (λ (xs : List Snapshot). get_or xs c.in_ok-snap.snap c.index-snapshots-snap.result) c.snapshots.ensures))) c.in_err-book_t.field-0.0 c.from_residual-in_err-book_t.ensures.1
      (λ snapshot at. c.in_err-book_t.ensures.found pool snapshot are (row_names rows pool are c.in_ok-snap.snap c.index-snapshots-snap.result snapshot at
      (c.index-snapshots-snap.is ∙ ap (λ (xs : List Snapshot). get_or xs c.in_ok-snap.snap c.index-snapshots-snap.result) c.snapshots.ensures)));
}

pub returns-clause-plans : goal.returns-clause-plans
returns-clause-plans c = record {
  inside = search rules;
  found = λ pool are.
      let rows = c.args.dir.now in
      let token = c.args.token.now in
      checks_found rows pool (find_to token pool) (find_from token pool) (find_marked token pool) (resumed_send token pool) (token_send token pool) c.checked_plan.result c.in_ok-snap.snap (c.in_ok-snap.ensures.finds.found pool are)
      c.in_ok-source.source (λ snapshot at. c.in_ok-source.ensures.found pool snapshot are (row_names rows pool are c.in_ok-snap.snap c.index-snapshots-snap.result snapshot at
      (c.index-snapshots-snap.is ∙ ap (λ (xs : List Snapshot). get_or xs c.in_ok-snap.snap c.index-snapshots-snap.result) c.snapshots.ensures))) c.in_ok-book_t.book_t
      (λ snapshot at. c.in_ok-book_t.ensures.found pool snapshot are (row_names rows pool are c.in_ok-snap.snap c.index-snapshots-snap.result snapshot at
      (c.index-snapshots-snap.is ∙ ap (λ (xs : List Snapshot). get_or xs c.in_ok-snap.snap c.index-snapshots-snap.result) c.snapshots.ensures)))
      (λ snapshot from redaction at. c.checked_plan.ensures.exact pool snapshot from redaction are at);
}
