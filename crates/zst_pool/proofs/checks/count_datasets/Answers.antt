use Rattle.std.proofs.Common.{ap, ◌∙◌, ◌+◌, length}
use Rattle.zst_pool.proofs.checks.count_datasets.Goals as goal
use Rattle.zst_dir.proofs.NamedRows.{datasets_are_counted}

pub returns : goal.returns
returns c = λ pool are.
    ap (λ xs. length xs + c.count_absent.result) c.datasets.ensures.same
    ∙ datasets_are_counted c.args.dir.now pool are c.count_absent.result c.count_absent.ensures.all
