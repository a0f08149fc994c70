use Rattle.std.proofs.Common.{List, subst, sym}
use Rattle.zst_dir.specs.declared.rows.Dataset.{Dataset}
use Rattle.zst_listing.proofs.RangeLaws.{InOrder, rising-in_order}
use Rattle.zst_listing.proofs.rows.push_target.Goals as goal

pub datasets_of-requires : goal.datasets_of-requires
datasets_of-requires c =
    subst (λ (rows : List Dataset). InOrder (λ row. row.name) rows) (sym c.datasets.ensures.same)
    (rising-in_order (λ (row : Dataset). row.name) c.args.dir.now.datasets c.datasets.ensures.lawful.ordered.datasets)
