use Rattle.std.proofs.Common.{◌≡◌, take, bytes_eq}
use Rattle.zst_names.specs.Names.{dataset_of}
use Rattle.zst_pool.specs.Partials.{last_where}
use Rattle.zst_pool.proofs.partials.latest_of.Given as goal

abbrev pub invariant-loop-snapshot : goal.invariant-loop-snapshot
invariant-loop-snapshot l = l.latest ≡ last_where (λ snapshot. bytes_eq (dataset_of 64 snapshot.name) l.name) (take l.snapshot-index l.snapshot-items)
