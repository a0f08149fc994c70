-- What an image keeps of a pool that runs.
use Rattle.std.specs.Prelude.{◌≡◌, ℕ, Bool, true, false, List, [], ◌∷◌, None, Contains, codes}
use Rattle.zst_model.specs.pools.Pool.{Pool, Partial, IsPool}
use Rattle.zst_model.specs.pools.KeptPool.{KeepsAll, kept_of}
use Rattle.zst_model.specs.pools.Soundness.{Sound}
use Rattle.zst_laws.specs.CloneExample.{clones, receiving}
use Rattle.zst_laws.specs.StepExample.{new_pool}

-- what a receive has so far for this dataset, kept or not
abbrev pub receive_of : List ℕ → Bool → Partial
receive_of target keep = record receiving { target = target; keep = keep; base = None }

-- three receives run, of which one isn't kept
abbrev pub running : Pool
running = record (new_pool 1) { partials = receive_of (codes "tank/a") true ∷ receive_of (codes "tank/b") false ∷ receive_of (codes "tank/c") true ∷ [] }

-- the image has the two that are kept; a pool in which no receive is kept leaves none, and a pool whose receives are kept stays
abbrev pub TwoAreKept : Type 0
TwoAreKept =
    (kept_of running ≡ record (new_pool 1) { partials = receive_of (codes "tank/a") true ∷ receive_of (codes "tank/c") true ∷ [] })
    × (kept_of (record (new_pool 1) { partials = receive_of (codes "tank/b") false ∷ [] }) ≡ new_pool 1)
    × (kept_of clones ≡ clones)

-- the partial states that an image has are those that are kept, and all else is as in the pool that runs
abbrev pub KeptAreKept : Type 0
KeptAreKept =
    (pool : Pool)
    → KeepsAll (kept_of pool)
    × ((partial : Partial) → Contains (kept_of pool).partials partial → Contains pool.partials partial)
    × ((partial : Partial) → Contains pool.partials partial → partial.keep ≡ true → Contains (kept_of pool).partials partial)
    × (record (kept_of pool) { partials = pool.partials } ≡ pool)

-- a pool that keeps all of its partial states is what its image keeps, so that keeping twice is keeping once
abbrev pub KeepingIsDone : Type 0
KeepingIsDone = ((pool : Pool) → KeepsAll pool → kept_of pool ≡ pool) × ((pool : Pool) → kept_of (kept_of pool) ≡ kept_of pool)

-- what the image keeps of a lawful pool is lawful
abbrev pub KeptIsLawful : Type 0
KeptIsLawful = (pool : Pool) → IsPool pool → IsPool (kept_of pool)

-- and of a sound one sound
abbrev pub KeptIsSound : Type 0
KeptIsSound = (pool : Pool) → Sound pool → Sound (kept_of pool)
