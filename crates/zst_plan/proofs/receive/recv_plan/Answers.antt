use Rattle.std.proofs.Common.{◌≡◌, ◌∙◌, List, ℕ, Some, None, sym, ap}
use Rattle.std.specs.Option.{option_map_or}
use Rattle.zst_model.specs.pools.Pool.{partial_of}
use Rattle.zst_plan.specs.Places.{StandsAt}
use Rattle.zst_plan.specs.Receipts.{IsRecvPlanOf}
use Rattle.zst_plan.specs.RecvPlan.{component_for, fresh_plan, recv_plan, resumed_plan, snapshot_name}
use Rattle.zst_plan.proofs.ReceiveChecks.{by_component, partials_find}
use Rattle.zst_plan.proofs.receive.recv_plan.Goals as goal
use Rattle.zst_plan.proofs.AlikeAnswers.{ok_alike, err_alike, none_alike, some_alike, refuses, hands_on}

pub returns-in_err-name-clause-exact : goal.returns-in_err-name-clause-exact
returns-in_err-name-clause-exact c = λ pool are tells.
    let rows = c.args.dir.now in
    let header = c.args.header.now in
    let ask = c.args.ask.now in
    let fault = c.in_err-name.field-0.0 in
    refuses (IsRecvPlanOf rows pool ask) c.from_residual.result (recv_plan ask header pool) fault c.from_residual.ensures.1
    (by_component ask header pool _ (err_alike (λ (found : List ℕ) (component : List ℕ). found ≡ snapshot_name ask.target component) fault (component_for ask header) c.in_err-name.ensures.exact))

pub returns-in-Some-clause-exact : goal.returns-in-Some-clause-exact
returns-in-Some-clause-exact c = λ pool are tells.
    let rows = c.args.dir.now in
    let header = c.args.header.now in
    let ask = c.args.ask.now in
    let n = ok_alike (λ (found : List ℕ) (component : List ℕ). found ≡ snapshot_name ask.target component) c.in_ok-name.name (component_for ask header) c.in_ok-name.ensures.exact in
    let found = some_alike (StandsAt rows.partials pool.partials) c.in-Some.place (partial_of ask.target pool) (partials_find rows pool are ask.target (Some c.in-Some.place) (sym c.in-Some.is ∙ c.partial.ensures)) in
    hands_on (IsRecvPlanOf rows pool ask) c.resumed_plan.result (recv_plan ask header pool) (resumed_plan header found.0)
    (by_component ask header pool _ n.1 ∙ ap (λ o. option_map_or (resumed_plan header) o (fresh_plan ask header n.0 pool)) found.1)
    (c.resumed_plan.ensures.exact pool ask found.0 are found.2)

pub returns-in-None-clause-exact : goal.returns-in-None-clause-exact
returns-in-None-clause-exact c = λ pool are tells.
    let rows = c.args.dir.now in
    let header = c.args.header.now in
    let ask = c.args.ask.now in
    let n = ok_alike (λ (found : List ℕ) (component : List ℕ). found ≡ snapshot_name ask.target component) c.in_ok-name.name (component_for ask header) c.in_ok-name.ensures.exact in
    let none = none_alike (StandsAt rows.partials pool.partials) (partial_of ask.target pool) (partials_find rows pool are ask.target None (sym c.in-None.is ∙ c.partial.ensures)) in
    hands_on (IsRecvPlanOf rows pool ask) c.fresh_plan.result (recv_plan ask header pool) (fresh_plan ask header n.0 pool)
    (by_component ask header pool _ n.1 ∙ ap (λ o. option_map_or (resumed_plan header) o (fresh_plan ask header n.0 pool)) none)
    (c.fresh_plan.ensures.exact pool n.0 are tells n.2)
