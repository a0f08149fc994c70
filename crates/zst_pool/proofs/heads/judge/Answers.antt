use Rattle.std.proofs.Common.{rules, sym, ◌∙◌, inr, subst, ◌≡◌}
use Rattle.zst_block.specs.Blocks.{Has}
use Rattle.zst_pool.specs.Checks.{with_head_of}
use Rattle.zst_pool.proofs.HeadAnswers.{judged_accepted, judged_refused, answer_damaged, answer_well}
use Rattle.zst_model.specs.declared.refusals.plan_fault.PlanFault.{PlanFault}
use Rattle.zst_model.proofs.Results.{err_is}
use Rattle.zst_pool.specs.Plans.{IsLast}
use Rattle.zst_pool.specs.declared.fault.PoolFault.TheVariants.{Plan}
use Rattle.zst_pool.proofs.heads.judge.Goals as goal

pub returns-then-not-is_accepted-clause-judged : goal.returns-then-not-is_accepted-clause-judged
returns-then-not-is_accepted-clause-judged c = λ bound image space set name pool change number is.
    judged_refused (Has image space) set name pool change bound c.args.changed c.answer.result c.answer.ensures (sym c.is_accepted.ensures ∙ c.if-not-is_accepted.true) is

pub returns-clause-judged : goal.returns-clause-judged
returns-clause-judged c = λ bound image space set name pool change number is.
    judged_accepted (Has image space) set name pool change (λ after. c.in_ok-check_number.ensures.judged (with_head_of name after pool) number) bound c.args.changed c.answer-2.result c.answer-2.ensures
    (sym c.is_accepted.ensures ∙ c.if-not-is_accepted.false) is

pub returns-then-not-is_accepted-clause-refuses : goal.returns-then-not-is_accepted-clause-refuses
returns-then-not-is_accepted-clause-refuses c = record {
  damaged = λ sector stated found is. answer_damaged c.args.changed c.answer.result c.answer.ensures sector stated found is;
  last = search rules;
}

pub returns-then-not-is_accepted-clause-well : goal.returns-then-not-is_accepted-clause-well
returns-then-not-is_accepted-clause-well c = answer_well c.args.changed c.answer.result c.answer.ensures

pub returns-clause-refuses : goal.returns-clause-refuses
returns-clause-refuses c = record {
  damaged = λ sector stated found is. answer_damaged c.args.changed c.answer-2.result c.answer-2.ensures sector stated found is;
  last = search rules;
}

pub returns-clause-well : goal.returns-clause-well
returns-clause-well c = answer_well c.args.changed c.answer-2.result c.answer-2.ensures

pub returns-in_err-check_number-clause-refuses : goal.returns-in_err-check_number-clause-refuses
returns-in_err-check_number-clause-refuses c = record {
  damaged = search rules;
  last = λ fault is.
      let fell = c.in_err-check_number.field-0.0 in
      let answered = err_is c.from_residual.result (Plan fell) c.from_residual.ensures.1 in
      let same : fell ≡ fault = cc (answered, is) in
      inr (subst (λ (f : PlanFault). IsLast c.args.body.now.uber.number f) same c.in_err-check_number.ensures.last);
}
