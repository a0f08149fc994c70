use Rattle.std.proofs.Common.{rules, ◌≡◌, ◌∙◌, [], Some, sym}
use Rattle.zst_plan.specs.Places.{StandsAt}
use Rattle.zst_plan.specs.Sources.{FoundSnapshot}
use Rattle.zst_plan.proofs.LookupLemmas.{rows_found, snapshot_row, value_found}
use Rattle.zst_plan.proofs.receive.containment.redacted_for.Goals as goal

pub returns : goal.returns
returns c = λ pool other are is.
    let rows = c.args.dir.now in
    let alike = rows_found (StandsAt rows.snapshots pool.snapshots) FoundSnapshot c.args.base.now.snapshot c.map-from.result other.snapshot
    (λ place row snapshot at is. snapshot_row rows pool are place row (Some snapshot) (search rules) is) c.map-from.ensures.cases is.0 in
    value_found FoundSnapshot c.map-from.result other.snapshot (λ snapshot. snapshot.redact) [] c.map_or_else.result
    (λ row snapshot made names. let is_its : c.map_or_else.result ≡ row.now.redact = search rules in is_its ∙ sym names.redact) (λ none. search rules) c.map_or_else.ensures alike
