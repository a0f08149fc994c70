-- What is kept of a pool.
use Rattle.std.proofs.Common.{◌≡◌, List, true, ap}
use Rattle.std.proofs.lemmas.List.Elements.{All-contains}
use Rattle.zst_model.specs.pools.KeptPool.{KeepsAll, kept_of}
use Rattle.zst_model.specs.pools.Pool.{Partial, Pool}
use Rattle.zst_model.proofs.FilteredLists.{filter_all}

-- a pool that keeps all its partial states is what is kept of it
pub all_stay : (pool : Pool) → KeepsAll pool → kept_of pool ≡ pool
all_stay pool all =
    ap (λ (partials : List Partial). record pool { partials = partials })
    (filter_all (λ partial. partial.keep) pool.partials (λ partial there. All-contains (λ p. p.keep ≡ true) pool.partials partial all there))
