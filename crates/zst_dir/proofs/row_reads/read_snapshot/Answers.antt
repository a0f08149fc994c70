use Rattle.std.proofs.Common.{arith, rules}
use Rattle.zst_dir.proofs.RowParts.{snapshot_parts}
use Rattle.zst_dir.proofs.row_reads.read_snapshot.Goals as goal

pub returns-in_err-name : goal.returns-in_err-name
returns-in_err-name c = record { fits = search rules; exact = grind (arith, snapshot_parts) }

pub returns-in_err-guid : goal.returns-in_err-guid
returns-in_err-guid c = record { fits = search rules; exact = grind (arith, snapshot_parts) }

pub returns-in_err-time : goal.returns-in_err-time
returns-in_err-time c = record { fits = search rules; exact = grind (arith, snapshot_parts) }

pub returns-in_err-number : goal.returns-in_err-number
returns-in_err-number c = record { fits = search rules; exact = grind (arith, snapshot_parts) }

pub returns-in_err-objects : goal.returns-in_err-objects
returns-in_err-objects c = record { fits = search rules; exact = grind (arith, snapshot_parts) }

pub returns-in_err-redact : goal.returns-in_err-redact
returns-in_err-redact c = record { fits = search rules; exact = grind (arith, snapshot_parts) }

pub returns : goal.returns
returns c = record { fits = search rules; exact = grind (arith, snapshot_parts) }
