use Rattle.std.proofs.Common.{◌≡◌, ◌++◌}
use Rattle.zst_fletcher.specs.Lanes.{lanes_of}
use Rattle.zst_fletcher.proofs.LaneRows.{by_four, lanes_of-row, added}
use Rattle.zst_fletcher.proofs.lanes.Lanes.add_row.Goals as goal

pub returns : goal.returns
returns c = λ before whole is.
    by_four (λ row. added c.args.self row ≡ lanes_of (before ++ row)) (λ p q r s. lanes_of-row p q r s before c.args.self whole is) c.args.row c.requires
