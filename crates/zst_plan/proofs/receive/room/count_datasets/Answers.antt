use Rattle.std.proofs.Common.{ap, ◌∙◌, ◌+◌, length}
use Rattle.zst_plan.proofs.receive.room.count_datasets.Goals as goal
use Rattle.zst_dir.proofs.NamedRows.{datasets_are_counted}

pub returns-clause-many : goal.returns-clause-many
returns-clause-many c = λ pool are.
    ap (λ xs. length xs + c.count_absent.result) c.datasets.ensures.same
    ∙ datasets_are_counted c.args.dir.now pool are c.count_absent.result c.count_absent.ensures.all
