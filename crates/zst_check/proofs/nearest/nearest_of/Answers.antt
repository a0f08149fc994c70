use Rattle.std.proofs.Common.{ℕ, List, Some, sym, ap, ◌∙◌, subst}
use Rattle.zst_model.specs.pools.Ancestry.{InDataset}
use Rattle.zst_check.specs.Findings.{IsPlaced}
use Rattle.zst_check.specs.declared.states.State.{State}
use Rattle.zst_check.proofs.NearestPlaces.{at_dataset, at_partial}
use Rattle.zst_check.proofs.nearest.nearest_of.Goals as goal

pub returns-in-Snapshot : goal.returns-in-Snapshot
returns-in-Snapshot c = record {
  nearest = λ pool at snapshot are is dated placed.
      at_dataset pool snapshot at c.dataset.result (Some c.in-Snapshot.row.now.number) c.nearest_in.result
      (subst (λ (s : State). IsPlaced pool s at) c.in-Snapshot.is placed ∙ ap (λ (n : List ℕ). InDataset n (Some c.in-Snapshot.row.now.number)) (sym c.dataset.ensures))
      (c.nearest_in.ensures pool snapshot are is.named dated);
}

pub returns-in-Partial : goal.returns-in-Partial
returns-in-Partial c = record {
  nearest = λ pool at snapshot are is dated placed.
      at_partial pool snapshot at c.in-Partial.row.now c.nearest_in-in-Partial.result c.base_of.result is (subst (λ (s : State). IsPlaced pool s at) c.in-Partial.is placed)
      (c.nearest_in-in-Partial.ensures pool snapshot are is.named dated) (λ partial names. c.base_of.ensures pool partial snapshot are is.named names);
}
