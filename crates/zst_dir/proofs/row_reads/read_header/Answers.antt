use Rattle.std.proofs.Common.{arith, rules}
use Rattle.zst_dir.proofs.RowParts.{header_parts}
use Rattle.zst_dir.proofs.row_reads.read_header.Goals as goal

pub returns-in_err-kind : goal.returns-in_err-kind
returns-in_err-kind c = record { fits = search rules; exact = grind (arith, header_parts) }

pub returns-in_err-flags : goal.returns-in_err-flags
returns-in_err-flags c = record { fits = search rules; exact = grind (arith, header_parts) }

pub returns-in_err-features : goal.returns-in_err-features
returns-in_err-features c = record { fits = search rules; exact = grind (arith, header_parts) }

pub returns-in_err-time : goal.returns-in_err-time
returns-in_err-time c = record { fits = search rules; exact = grind (arith, header_parts) }

pub returns-in_err-to : goal.returns-in_err-to
returns-in_err-to c = record { fits = search rules; exact = grind (arith, header_parts) }

pub returns-in_err-from : goal.returns-in_err-from
returns-in_err-from c = record { fits = search rules; exact = grind (arith, header_parts) }

pub returns-in_err-name : goal.returns-in_err-name
returns-in_err-name c = record { fits = search rules; exact = grind (arith, header_parts) }

pub returns-in_err-redact : goal.returns-in_err-redact
returns-in_err-redact c = record { fits = search rules; exact = grind (arith, header_parts) }

pub returns-in_err-from_redact : goal.returns-in_err-from_redact
returns-in_err-from_redact c = record { fits = search rules; exact = grind (arith, header_parts) }

pub returns-then-not-go_together : goal.returns-then-not-go_together
returns-then-not-go_together c = record { fits = search rules; exact = grind (arith, header_parts) }

pub returns : goal.returns
returns c = record { fits = search rules; exact = grind (arith, header_parts) }
