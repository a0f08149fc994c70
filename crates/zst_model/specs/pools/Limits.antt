-- The limits of a pool and of a command.
use Rattle.std.specs.Prelude.{ℕ, ◌-◌, ◌^◌}

-- a pool's number is at most this, and so are its guid counter and its datasets, snapshots and bookmarks
unfoldable pub last_number : ℕ
last_number = 2 ^ 63

unfoldable pub last_guid : ℕ
last_guid = 2 ^ 32 - 1

unfoldable pub most_datasets : ℕ
most_datasets = 256

unfoldable pub most_snapshots : ℕ
most_snapshots = 1024

unfoldable pub most_bookmarks : ℕ
most_bookmarks = 1024

-- the list of a redaction bookmark has at most so many runs
unfoldable pub most_runs : ℕ
most_runs = 65536

-- and its partial states at most this
unfoldable pub most_partials : ℕ
most_partials = 16

-- the most bytes that a command writes
abbrev pub largest_write : ℕ
largest_write = 2 ^ 20
