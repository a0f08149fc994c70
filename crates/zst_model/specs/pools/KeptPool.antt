-- The pool that runs, and the pool that its image keeps.
use Rattle.std.specs.Prelude.{◌≡◌, true, filter, All}
use Rattle.zst_model.specs.pools.Pool.{Pool}

-- each partial state of a pool is kept, as in every pool that an image keeps
abbrev pub KeepsAll : Pool → Type 0
KeepsAll pool = All (λ partial. partial.keep ≡ true) pool.partials

-- what the image keeps of a pool that runs: all but the partial states without `keep`, which last no longer than their sessions
-- (zfs-receive(8), -s). Commands, lists, names and limits meet the pool that runs.
abbrev pub kept_of : Pool → Pool
kept_of running = record running { partials = filter (λ partial. partial.keep) running.partials }
