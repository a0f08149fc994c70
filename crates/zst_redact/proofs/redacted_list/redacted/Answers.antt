use Rattle.std.proofs.Common.{[]}
use Rattle.zst_block.specs.IoStates.{disk_of}
use Rattle.zst_tree.specs.Damage.{IsSeen}
use Rattle.zst_redact.proofs.Damage.{one_damaged}
use Rattle.zst_redact.proofs.redacted_list.redacted.Goals as goal

pub returns-clause-list : goal.returns-clause-list
returns-clause-list g c = λ state honest holds. c.counted.ensures.list state [] honest (record { snapshot = holds; each = tt })

pub returns-clause-short : goal.returns-clause-short
returns-clause-short g c = c.counted.ensures.short

pub returns-clause-damaged : goal.returns-clause-damaged
returns-clause-damaged g c = λ honest.
    let disk = disk_of c.args.io.now in
    one_damaged (IsSeen disk.seen) disk.size c.args.snap.now c.counted.result (c.counted.ensures.damaged honest)

pub returns-clause-looks : goal.returns-clause-looks
returns-clause-looks g c = c.counted.ensures.looks
