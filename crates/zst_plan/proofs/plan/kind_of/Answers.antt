use Rattle.std.proofs.Common.{rules, ◌≡◌, ◌∙◌, sym}
use Rattle.zst_model.specs.pools.Pool.{dataset_named, dataset_of_snapshot}
use Rattle.zst_plan.specs.Sources.{FoundDataset}
use Rattle.zst_plan.proofs.LookupLemmas.{value_found}
use Rattle.zst_plan.proofs.plan.kind_of.Goals as goal

pub returns : goal.returns
returns c = λ pool to are names.
    value_found FoundDataset c.dataset_of.result (dataset_named (dataset_of_snapshot to) pool) (λ dataset. dataset.kind) 0 c.map_or.result
    (λ row dataset made is. let is_its : c.map_or.result ≡ row.now.kind = search rules in is_its ∙ sym is.kind) (λ none. none) c.map_or.ensures (c.dataset_of.ensures pool to are names)
