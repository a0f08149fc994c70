use Rattle.std.proofs.Common.{rules}
use Rattle.zst_plan.proofs.TextMarks.{behind}
use Rattle.zst_plan.proofs.receive.name.behind_mark.Goals as goal

pub returns : goal.returns
returns c =
    let found = behind c.args.name.now c.mark_at.result c.map_or.result (λ place made. search rules) c.mark_at.ensures c.map_or.ensures in
    record { place = found.0; inside = found.1; component = found.2 }
