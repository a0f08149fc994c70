use Rattle.std.proofs.Common.{arith, rules}
use Rattle.zst_dir.proofs.RowParts.{front_parts}
use Rattle.zst_dir.proofs.row_reads.read_dataset.Goals as goal

pub returns-in_err-name : goal.returns-in_err-name
returns-in_err-name c = record { fits = search rules; exact = grind (arith, front_parts) }

pub returns-in_err-kind : goal.returns-in_err-kind
returns-in_err-kind c = record { fits = search rules; exact = grind (arith, front_parts) }

pub returns-in_err-origin : goal.returns-in_err-origin
returns-in_err-origin c = record { fits = search rules; exact = grind (arith, front_parts) }

pub returns-in_err-head : goal.returns-in_err-head
returns-in_err-head c = record { fits = search rules; exact = grind (arith, front_parts) }

pub returns-in_err-redact : goal.returns-in_err-redact
returns-in_err-redact c = record { fits = search rules; exact = grind (arith, front_parts) }

pub returns : goal.returns
returns c = record { fits = search rules; exact = grind (arith, front_parts) }
