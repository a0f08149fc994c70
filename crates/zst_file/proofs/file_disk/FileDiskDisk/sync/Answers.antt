use Rattle.std.proofs.Common.{rules}
use Rattle.zst_file.proofs.NotedCalls.{noted_sync}
use Rattle.zst_file.proofs.file_disk.FileDiskDisk.sync.Goals as goal

pub returns-clause-reads : goal.returns-clause-reads
returns-clause-reads g c = search (rules, noted_sync)
