use Rattle.std.proofs.Common.{is_some, sym, ap, ◌∙◌, subst}
use Rattle.zst_dir.specs.Rows.{HasDataset}
use Rattle.zst_dir.proofs.Lookups.{no_dataset}
use Rattle.zst_pool_tests.proofs.dir.directories.add_dataset.Goals as goal

pub add_dataset-requires-clause-new : goal.add_dataset-requires-clause-new
add_dataset-requires-clause-new c = λ has.
    no_dataset c.args.dir.now c.in_ok-name.name (ap is_some (sym c.dataset.ensures) ∙ sym c.is_some.ensures ∙ c.if-is_some.false)
    (subst (HasDataset c.args.dir.now) c.file_system.ensures.name has)
