use Rattle.std.proofs.Common.{rules, ◌≡◌, ◌==◌, ◌∙◌, ℕ, List, Result, Ok, Err, inl, inr, sym, ap}
use Rattle.std.specs.Prelude.{bit_and}
use Rattle.std.proofs.lemmas.Bool.{cases_Bool, eqb-true}
use Rattle.zst_model.specs.declared.refusals.faults.Lack.TheVariants as lacks
use Rattle.zst_model.specs.declared.refusals.plan_fault.PlanFault.{PlanFault}
use Rattle.zst_model.specs.declared.refusals.plan_fault.PlanFault.TheVariants as faults
use Rattle.zst_model.specs.declared.sends.header.Header.{Header}
use Rattle.zst_model.specs.sends.Features.{resuming}
use Rattle.zst_model.specs.states.AppliedItems.{◌>>=◌}
use Rattle.zst_plan.specs.Receipts.{IsBaseOf, IsRecvPlanOf}
use Rattle.zst_plan.specs.RecvPlan.{Begins, RecvPlan, base_for, fresh_plan, if_new, if_plain, if_room, snapshot_name}
use Rattle.zst_plan.specs.declared.receive.RecvPlan.TheVariants as plans
use Rattle.zst_plan.proofs.ReceiveChecks.{with_base}
use Rattle.zst_plan.proofs.receive.fresh_plan.Goals as goal
use Rattle.zst_plan.proofs.AlikeAnswers.{ok_alike, err_alike, refuses, answers}

pub returns-in_err-check_plain-clause-exact : goal.returns-in_err-check_plain-clause-exact
returns-in_err-check_plain-clause-exact c = λ pool component are tells named.
    let rows = c.args.dir.now in
    let header = c.args.header.now in
    let ask = c.args.ask.now in
    refuses (IsRecvPlanOf rows pool ask) c.from_residual.result (fresh_plan ask header component pool) c.in_err-check_plain.field-0.0 c.from_residual.ensures.1
    (c.in_err-check_plain.ensures (base_for ask header pool >>= with_base ask header component pool))

pub returns-in_err-base-clause-exact : goal.returns-in_err-base-clause-exact
returns-in_err-base-clause-exact c = λ pool component are tells named.
    let rows = c.args.dir.now in
    let header = c.args.header.now in
    let ask = c.args.ask.now in
    let fault = c.in_err-base.field-0.0 in
    refuses (IsRecvPlanOf rows pool ask) c.from_residual-in_err-base.result (fresh_plan ask header component pool) fault c.from_residual-in_err-base.ensures.1
    (c.in_ok-check_plain.ensures (base_for ask header pool >>= with_base ask header component pool)
    ∙ ap (λ r. r >>= with_base ask header component pool) (err_alike (IsBaseOf rows pool) fault (base_for ask header pool) (c.in_err-base.ensures.exact pool are tells)))

pub returns-in_err-check_contained-clause-exact : goal.returns-in_err-check_contained-clause-exact
returns-in_err-check_contained-clause-exact c = λ pool component are tells named.
    let rows = c.args.dir.now in
    let header = c.args.header.now in
    let ask = c.args.ask.now in
    let b = ok_alike (IsBaseOf rows pool) c.in_ok-base.base (base_for ask header pool) (c.in_ok-base.ensures.exact pool are tells) in
    refuses (IsRecvPlanOf rows pool ask) c.from_residual-in_err-check_contained.result (fresh_plan ask header component pool) c.in_err-check_contained.field-0.0 c.from_residual-in_err-check_contained.ensures.1
    (c.in_ok-check_plain.ensures (base_for ask header pool >>= with_base ask header component pool)
    ∙ ap (λ r. r >>= with_base ask header component pool) b.1
    ∙ c.in_err-check_contained.ensures pool b.0 (if_new (snapshot_name ask.target component) pool (if_room ask.target pool (Ok (Begins component b.0)))) are b.2)

pub returns-in_err-check_new-clause-exact : goal.returns-in_err-check_new-clause-exact
returns-in_err-check_new-clause-exact c = λ pool component are tells named.
    let rows = c.args.dir.now in
    let header = c.args.header.now in
    let ask = c.args.ask.now in
    let b = ok_alike (IsBaseOf rows pool) c.in_ok-base.base (base_for ask header pool) (c.in_ok-base.ensures.exact pool are tells) in
    let last = if_room ask.target pool (Ok (Begins component b.0)) in
    refuses (IsRecvPlanOf rows pool ask) c.from_residual-in_err-check_new.result (fresh_plan ask header component pool) c.in_err-check_new.field-0.0 c.from_residual-in_err-check_new.ensures.1
    (c.in_ok-check_plain.ensures (base_for ask header pool >>= with_base ask header component pool)
    ∙ ap (λ r. r >>= with_base ask header component pool) b.1
    ∙ c.in_ok-check_contained.ensures pool b.0 (if_new (snapshot_name ask.target component) pool last) are b.2
    ∙ ap (λ n. if_new n pool last) (sym named) ∙ c.in_err-check_new.ensures.exact pool last are)

pub returns-in_err-check_room-clause-exact : goal.returns-in_err-check_room-clause-exact
returns-in_err-check_room-clause-exact c = λ pool component are tells named.
    let rows = c.args.dir.now in
    let header = c.args.header.now in
    let ask = c.args.ask.now in
    let b = ok_alike (IsBaseOf rows pool) c.in_ok-base.base (base_for ask header pool) (c.in_ok-base.ensures.exact pool are tells) in
    let last = if_room ask.target pool (Ok (Begins component b.0)) in
    refuses (IsRecvPlanOf rows pool ask) c.from_residual-in_err-check_room.result (fresh_plan ask header component pool) c.in_err-check_room.field-0.0 c.from_residual-in_err-check_room.ensures.1
    (c.in_ok-check_plain.ensures (base_for ask header pool >>= with_base ask header component pool)
    ∙ ap (λ r. r >>= with_base ask header component pool) b.1
    ∙ c.in_ok-check_contained.ensures pool b.0 (if_new (snapshot_name ask.target component) pool last) are b.2
    ∙ ap (λ n. if_new n pool last) (sym named) ∙ c.in_ok-check_new.ensures.exact pool last are
    ∙ c.in_err-check_room.ensures pool (Ok (Begins component b.0)) are)

pub returns-clause-exact : goal.returns-clause-exact
returns-clause-exact c = λ pool component are tells named.
    let rows = c.args.dir.now in
    let header = c.args.header.now in
    let ask = c.args.ask.now in
    let base = c.in_ok-base.base in
    let b = ok_alike (IsBaseOf rows pool) base (base_for ask header pool) (c.in_ok-base.ensures.exact pool are tells) in
    let last = if_room ask.target pool (Ok (Begins component b.0)) in
    answers (IsRecvPlanOf rows pool ask) (plans.Begins c.args.name base.snapshot base.rolls) (Begins component b.0) (fresh_plan ask header component pool)
    (c.in_ok-check_plain.ensures (base_for ask header pool >>= with_base ask header component pool)
    ∙ ap (λ r. r >>= with_base ask header component pool) b.1
    ∙ c.in_ok-check_contained.ensures pool b.0 (if_new (snapshot_name ask.target component) pool last) are b.2
    ∙ ap (λ n. if_new n pool last) (sym named) ∙ c.in_ok-check_new.ensures.exact pool last are
    ∙ c.in_ok-check_room.ensures pool (Ok (Begins component b.0)) are)
    (named, b.2.0, b.2.1)

-- an answer that no check of E14 gives
abbrev other : Result RecvPlan PlanFault
other = Err (faults.Unsupported lacks.Kind)

-- what passes the check of E14 is no resumed stream
passes_plain : (target : List ℕ) (header : Header) → if_plain target header other ≡ other → bit_and header.features resuming ≡ 0
passes_plain target header is = elim (cases_Bool (bit_and header.features resuming == 0)) [
  | inl none ↦ eqb-true (bit_and header.features resuming) 0 none
  | inr some ↦
      let refused : Err (faults.NoPartial target) ≡ other = rw some at is in
      absurd (cc refused)
]

pub returns-clause-for_target : goal.returns-clause-for_target
returns-clause-for_target c = λ of_target. record {
  inside = c.in_ok-base.ensures.inside;
  new = search rules;
  plain = passes_plain c.args.ask.now.target c.args.header.now (c.in_ok-check_plain.ensures other);
}
