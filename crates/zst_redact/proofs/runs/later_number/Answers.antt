use Rattle.std.proofs.Common.{[]}
use Rattle.zst_block.specs.IoStates.{disk_of}
use Rattle.zst_tree.specs.Damage.{IsSeen}
use Rattle.zst_redact.proofs.Damage.{first_damaged, rest_damaged}
use Rattle.zst_redact.proofs.WantedPairs.{numbers_passed}
use Rattle.zst_redact.proofs.runs.later_number.Goals as goal

pub returns-in-Unkept-clause-passes : goal.returns-in-Unkept-clause-passes
returns-in-Unkept-clause-passes g c = rw c.in-Unkept.is (λ state kept honest hold.
    numbers_passed state c.in-Unkept.number kept c.args.from c.number_from.result (c.number_from.ensures.passes kept honest hold.each))

pub returns-in-Unkept-clause-range : goal.returns-in-Unkept-clause-range
returns-in-Unkept-clause-range g c = c.number_from.ensures.range

pub returns-in-Unkept-clause-damaged : goal.returns-in-Unkept-clause-damaged
returns-in-Unkept-clause-damaged g c =
    let disk = disk_of c.args.io.now in
    rw c.in-Unkept.is (λ honest. rest_damaged (IsSeen disk.seen) disk.size c.args.snap.now c.in-Unkept.redactions.now c.number_from.result (c.number_from.ensures.damaged honest))

pub returns-in-Unkept-clause-looks : goal.returns-in-Unkept-clause-looks
returns-in-Unkept-clause-looks g c = c.number_from.ensures.looks

pub returns-in-Redacted-clause-passes : goal.returns-in-Redacted-clause-passes
returns-in-Redacted-clause-passes g c = rw c.in-Redacted.is (λ state kept honest hold. c.present_from.ensures.passes state honest hold.snapshot)

pub returns-in-Redacted-clause-range : goal.returns-in-Redacted-clause-range
returns-in-Redacted-clause-range g c = c.present_from.ensures.range

pub returns-in-Redacted-clause-damaged : goal.returns-in-Redacted-clause-damaged
returns-in-Redacted-clause-damaged g c =
    let disk = disk_of c.args.io.now in
    rw c.in-Redacted.is (λ honest. first_damaged (IsSeen disk.seen) disk.size c.args.snap.now [] c.present_from.result (c.present_from.ensures.damaged honest))

pub returns-in-Redacted-clause-looks : goal.returns-in-Redacted-clause-looks
returns-in-Redacted-clause-looks g c = c.present_from.ensures.looks
