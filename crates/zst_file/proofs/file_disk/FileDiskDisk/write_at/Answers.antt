use Rattle.std.proofs.Common.{rules}
use Rattle.zst_file.proofs.NotedCalls.{noted_write, noted_success}
use Rattle.zst_file.proofs.file_disk.FileDiskDisk.write_at.Goals as goal

pub returns-clause-written : goal.returns-clause-written
returns-clause-written g c = search (rules, noted_success)

pub returns-clause-writes : goal.returns-clause-writes
returns-clause-writes g c = search (rules, noted_write)
