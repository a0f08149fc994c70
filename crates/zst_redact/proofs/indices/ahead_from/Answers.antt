use Rattle.zst_block.specs.IoStates.{disk_of}
use Rattle.zst_tree.specs.Damage.{IsSeen}
use Rattle.zst_redact.specs.Wanted.{sets_beside}
use Rattle.zst_redact.proofs.Damage.{first_damaged}
use Rattle.zst_redact.proofs.WantedIndices.{redacted_told}
use Rattle.zst_redact.proofs.indices.ahead_from.Goals as goal

pub returns-in-Unkept-clause-tells : goal.returns-in-Unkept-clause-tells
returns-in-Unkept-clause-tells g c = rw c.in-Unkept.is c.unkept_from.ensures.tells

pub returns-in-Unkept-clause-range : goal.returns-in-Unkept-clause-range
returns-in-Unkept-clause-range g c = c.unkept_from.ensures.range

pub returns-in-Unkept-clause-damaged : goal.returns-in-Unkept-clause-damaged
returns-in-Unkept-clause-damaged g c = rw c.in-Unkept.is c.unkept_from.ensures.damaged

pub returns-in-Unkept-clause-looks : goal.returns-in-Unkept-clause-looks
returns-in-Unkept-clause-looks g c = c.unkept_from.ensures.looks

pub returns-in-Redacted-clause-tells : goal.returns-in-Redacted-clause-tells
returns-in-Redacted-clause-tells g c = rw c.in-Redacted.is (λ own date dates map kept honest lawful is each.
    redacted_told own kept c.args.object c.args.from c.kind_from.result (c.kind_from.ensures.tells own date dates map honest lawful is))

pub returns-in-Redacted-clause-range : goal.returns-in-Redacted-clause-range
returns-in-Redacted-clause-range g c = c.kind_from.ensures.range

pub returns-in-Redacted-clause-damaged : goal.returns-in-Redacted-clause-damaged
returns-in-Redacted-clause-damaged g c = λ snap honest stands.
    let disk = disk_of c.args.io.now in
    first_damaged (IsSeen disk.seen) disk.size snap (sets_beside c.args.wanted) c.kind_from.result (c.kind_from.ensures.damaged snap honest stands)

pub returns-in-Redacted-clause-looks : goal.returns-in-Redacted-clause-looks
returns-in-Redacted-clause-looks g c = c.kind_from.ensures.looks
