use Rattle.std.proofs.Common.{rules, of_calls}
use Rattle.zst_check.proofs.LastSnapshots.{nearest_found}
use Rattle.zst_check.proofs.nearest.nearest_in.Goals as goal

pub returns : goal.returns
returns c = λ pool snapshot are named dated.
    nearest_found pool c.args.dataset.now c.args.bound c.last_below.result c.or_else.result (λ h origin. search (rules, of_calls)) dated (c.last_below.ensures pool are named) c.or_else.ensures snapshot
