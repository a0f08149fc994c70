use Rattle.std.proofs.Common.{arith, rules}
use Rattle.zst_dir.proofs.RowParts.{partial_parts}
use Rattle.zst_dir.proofs.row_reads.read_partial.Goals as goal

pub returns-in_err-target : goal.returns-in_err-target
returns-in_err-target c = record { fits = search rules; exact = grind (arith, partial_parts) }

pub returns-in_err-snapshot : goal.returns-in_err-snapshot
returns-in_err-snapshot c = record { fits = search rules; exact = grind (arith, partial_parts) }

pub returns-in_err-keep : goal.returns-in_err-keep
returns-in_err-keep c = record { fits = search rules; exact = grind (arith, partial_parts) }

pub returns-in_err-header : goal.returns-in_err-header
returns-in_err-header c = record { fits = search rules; exact = grind (arith, partial_parts) }

pub returns-in_err-base : goal.returns-in_err-base
returns-in_err-base c = record { fits = search rules; exact = grind (arith, partial_parts) }

pub returns-in_err-objects : goal.returns-in_err-objects
returns-in_err-objects c = record { fits = search rules; exact = grind (arith, partial_parts) }

pub returns-in_err-object : goal.returns-in_err-object
returns-in_err-object c = record { fits = search rules; exact = grind (arith, partial_parts) }

pub returns-in_err-offset : goal.returns-in_err-offset
returns-in_err-offset c = record { fits = search rules; exact = grind (arith, partial_parts) }

pub returns : goal.returns
returns c = record { fits = search rules; exact = grind (arith, partial_parts) }
