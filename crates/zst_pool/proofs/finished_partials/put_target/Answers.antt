use Rattle.std.proofs.Common.{is_some, sym, ap, ◌∙◌, subst}
use Rattle.zst_dir.specs.Rows.{HasDataset}
use Rattle.zst_dir.specs.declared.rows.Dataset.{Dataset}
use Rattle.zst_dir.proofs.Lookups.{no_dataset}
use Rattle.zst_pool.proofs.finished_partials.put_target.Goals as goal

pub add_dataset-requires-clause-new : goal.add_dataset-requires-clause-new
add_dataset-requires-clause-new c =
    let dir = c.args.dir.now in
    subst (λ (row : Dataset). HasDataset dir row.name → ⊥) (sym c.dataset_from.ensures.makes.same)
    (no_dataset dir c.args.partial.now.target (ap is_some (sym c.dataset.ensures) ∙ sym c.is_some.ensures ∙ c.if-is_some.false))
