use Rattle.std.proofs.Common.{is_some, not, sym, ap, ◌∙◌, subst}
use Rattle.zst_names.specs.Names.{dataset_of}
use Rattle.zst_dir.specs.Rows.{HasDataset, HasSnapshot}
use Rattle.zst_dir.proofs.Lookups.{no_snapshot, has_dataset}
use Rattle.zst_pool_tests.proofs.dir.directories.add_snapshot.Goals as goal

pub add_snapshot-requires-clause-new : goal.add_snapshot-requires-clause-new
add_snapshot-requires-clause-new c = λ has.
    no_snapshot c.args.dir.now c.in_ok-name.name (ap is_some (sym c.snapshot.ensures) ∙ sym c.is_some.ensures ∙ c.if-is_some.false)
    (subst (HasSnapshot c.args.dir.now) c.snapshot-2.ensures.name has)

pub add_snapshot-requires-clause-dataset : goal.add_snapshot-requires-clause-dataset
add_snapshot-requires-clause-dataset c =
    subst (HasDataset c.args.dir.now) (c.dataset.ensures ∙ ap (dataset_of 64) (sym c.snapshot-2.ensures.name))
    (has_dataset c.args.dir.now c.dataset.result (ap is_some (sym c.dataset-2.ensures) ∙ c.is_none.ensures ∙ ap not c.if-is_none.false))
