use Rattle.std.proofs.Common.{rules, ◌∙◌, sym, ap, Err}
use Rattle.zst_model.specs.declared.refusals.plan_fault.PlanFault.{PlanFault}
use Rattle.zst_model.specs.refusals.Refusal.{refusal_of}
use Rattle.zst_pool.proofs.BookmarkLists.{option_map-same}
use Rattle.zst_pool.proofs.RedactionRows.{each_found, first_refused, rows_as_many}
use Rattle.zst_pool.proofs.redactions.check_each.Goals as goal

pub returns-in-None-clause-all : goal.returns-in-None-clause-all
returns-in-None-clause-all c = rows_as_many c.args.dir.now c.args.names.now (sym (option_map-same _) ∙ sym c.first_absent.ensures ∙ c.in-None.is)

pub returns-in-None-clause-checks : goal.returns-in-None-clause-checks
returns-in-None-clause-checks c = record {
  rows = search rules;
  judged = λ pool are. each_found c.args.dir.now pool are c.args.names.now (sym (option_map-same _) ∙ sym c.first_absent.ensures ∙ c.in-None.is);
}

pub returns-in-Some-clause-checks : goal.returns-in-Some-clause-checks
returns-in-Some-clause-checks c = record {
  rows = search rules;
  judged = λ pool are.
      first_refused c.args.dir.now pool are c.args.names.now c.in-Some.name (sym (option_map-same _) ∙ sym c.first_absent.ensures ∙ c.in-Some.is)
      ∙ ap (λ (fault : PlanFault). Err (refusal_of fault)) (sym c.no_snapshot.ensures);
}
