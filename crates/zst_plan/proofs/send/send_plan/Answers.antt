use Rattle.std.proofs.Common.{rules}
use Rattle.zst_model.specs.sends.SendPlan.{find_redaction, find_snapshot, find_source, send_plan}
use Rattle.zst_plan.proofs.SendChecks.{checks_found, named_send, refuses_from, refuses_list, refuses_to}
use Rattle.zst_plan.proofs.send.send_plan.Goals as goal

pub returns-in_err-snap-clause-plans : goal.returns-in_err-snap-clause-plans
returns-in_err-snap-clause-plans c = record {
  inside = search rules;
  found = λ pool are.
      let rows = c.args.dir.now in
      let ask = c.args.ask.now in
      refuses_to rows pool (find_snapshot ask.snap pool) (λ snapshot. find_source ask.from pool) (λ snapshot. find_redaction ask.redact pool) (send_plan ask pool) (named_send ask pool) c.from_residual.result c.in_err-snap.field-0.0 c.from_residual.ensures.1
      (c.in_err-snap.ensures.finds.found pool are);
}

pub returns-in_err-source-clause-plans : goal.returns-in_err-source-clause-plans
returns-in_err-source-clause-plans c = record {
  inside = search rules;
  found = λ pool are.
      let rows = c.args.dir.now in
      let ask = c.args.ask.now in
      refuses_from rows pool (find_snapshot ask.snap pool) (λ snapshot. find_source ask.from pool) (λ snapshot. find_redaction ask.redact pool) (send_plan ask pool) (named_send ask pool) c.from_residual-in_err-source.result c.in_ok-snap.snap c.in_err-source.field-0.0 c.from_residual-in_err-source.ensures.1
      (c.in_ok-snap.ensures.finds.found pool are) (λ snapshot at. c.in_err-source.ensures.found pool are);
}

pub returns-in_err-book_t-clause-plans : goal.returns-in_err-book_t-clause-plans
returns-in_err-book_t-clause-plans c = record {
  inside = search rules;
  found = λ pool are.
      let rows = c.args.dir.now in
      let ask = c.args.ask.now in
      refuses_list rows pool (find_snapshot ask.snap pool) (λ snapshot. find_source ask.from pool) (λ snapshot. find_redaction ask.redact pool) (send_plan ask pool) (named_send ask pool) c.from_residual-in_err-book_t.result c.in_ok-snap.snap (c.in_ok-snap.ensures.finds.found pool are)
      c.in_ok-source.source (λ snapshot at. c.in_ok-source.ensures.found pool are) c.in_err-book_t.field-0.0 c.from_residual-in_err-book_t.ensures.1 (λ snapshot at. c.in_err-book_t.ensures.found pool are);
}

pub returns-clause-plans : goal.returns-clause-plans
returns-clause-plans c = record {
  inside = search rules;
  found = λ pool are.
      let rows = c.args.dir.now in
      let ask = c.args.ask.now in
      checks_found rows pool (find_snapshot ask.snap pool) (λ snapshot. find_source ask.from pool) (λ snapshot. find_redaction ask.redact pool) (send_plan ask pool) (named_send ask pool) c.checked_plan.result c.in_ok-snap.snap (c.in_ok-snap.ensures.finds.found pool are)
      c.in_ok-source.source (λ snapshot at. c.in_ok-source.ensures.found pool are) c.in_ok-book_t.book_t (λ snapshot at. c.in_ok-book_t.ensures.found pool are)
      (λ snapshot from redaction at. c.checked_plan.ensures.exact pool snapshot from redaction are at);
}
