use Rattle.std.proofs.Common.{is_some, ◌∙◌, List, Some, None, get_or, sym, ap}
use Rattle.std.specs.Option.{option_map_or}
use Rattle.zst_dir.specs.RowNames.{NamesDataset}
use Rattle.zst_dir.specs.declared.rows.Dataset.{Dataset}
use Rattle.zst_model.specs.pools.Pool.{dataset_named}
use Rattle.zst_plan.specs.Places.{StandsAt}
use Rattle.zst_plan.specs.Receipts.{IsBaseOf, TellsHead}
use Rattle.zst_plan.specs.RecvPlan.{base_anew, base_for, base_onto}
use Rattle.zst_plan.proofs.LookupLemmas.{datasets_find}
use Rattle.zst_plan.proofs.receive.base.base_for.Goals as goal
use Rattle.zst_plan.proofs.AlikeAnswers.{at_names, none_alike, some_alike, hands_on}

pub returns-in-Some-clause-exact : goal.returns-in-Some-clause-exact
returns-in-Some-clause-exact c = λ pool are tells.
    let rows = c.args.dir.now in
    let header = c.args.header.now in
    let ask = c.args.ask.now in
    let place = c.in-Some.place in
    let row = c.index-datasets-place.result in
    let found = some_alike (StandsAt rows.datasets pool.datasets) place (dataset_named ask.target pool) (datasets_find rows pool are ask.target (Some place) (sym c.in-Some.is ∙ c.dataset.ensures)) in
    let is = c.index-datasets-place.is ∙ ap (λ (xs : List Dataset). get_or xs place row) c.datasets.ensures.same in
    hands_on (IsBaseOf rows pool) c.base_onto.result (base_for ask header pool) (base_onto ask header pool found.0)
    (ap (λ o. option_map_or (base_onto ask header pool) o (base_anew ask header pool)) found.1)
    (c.base_onto.ensures.exact pool found.0 are (at_names NamesDataset rows.datasets pool.datasets place row found.0 are.datasets found.2 is) (λ own. at_names TellsHead rows.datasets pool.datasets place row found.0 (tells own (ap (λ o. is_some o) found.1)) found.2 is))

pub returns-in-None-clause-exact : goal.returns-in-None-clause-exact
returns-in-None-clause-exact c = λ pool are tells.
    let rows = c.args.dir.now in
    let header = c.args.header.now in
    let ask = c.args.ask.now in
    let none = none_alike (StandsAt rows.datasets pool.datasets) (dataset_named ask.target pool) (datasets_find rows pool are ask.target None (sym c.in-None.is ∙ c.dataset.ensures)) in
    hands_on (IsBaseOf rows pool) c.base_anew.result (base_for ask header pool) (base_anew ask header pool)
    (ap (λ o. option_map_or (base_onto ask header pool) o (base_anew ask header pool)) none)
    (c.base_anew.ensures.found pool are)
