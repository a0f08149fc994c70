-- The nearest snapshots before a state stand where they were found.
use Rattle.std.proofs.Common.{◌≡◌, ◌↔◌, ◌⊎◌, inl, inr, ℕ, List, Option, None, Contains, sym, subst}
use Rattle.std.proofs.lemmas.List.Elements.{All-contains}
use Rattle.zst_dir.specs.RowNames.{NamesPartial}
use Rattle.zst_dir.specs.declared.rows.Partial as row
use Rattle.zst_laws.specs.NearestSnapshots.{IsNearest, IsNearestIn}
use Rattle.zst_model.specs.pools.Ancestry.{IsBase, Place, InDataset, InPartial}
use Rattle.zst_model.specs.pools.Pool.{Pool, Partial, Snapshot, IsPool, HasDataset, dataset_of_snapshot}
use Rattle.zst_check.specs.Findings.{StandsAtPlace}

-- before what a dataset has at a number
pub at_dataset : (pool : Pool) (s : Snapshot) (at : Place) (name : List ℕ) (bound found : Option ℕ) → at ≡ InDataset name bound
    → IsNearestIn pool s name bound ↔ StandsAtPlace pool.snapshots found s → IsNearest pool s at ↔ (StandsAtPlace pool.snapshots found s ⊎ ⊥)
at_dataset pool s at name bound found is same =
    subst (λ (p : Place). IsNearest pool s p ↔ (StandsAtPlace pool.snapshots found s ⊎ ⊥)) (sym is) (λ near. inl (same.0 near), back)
  where
    back : StandsAtPlace pool.snapshots found s ⊎ ⊥ → IsNearestIn pool s name bound
    back (inl stands) = same.1 stands
    back (inr never) = absurd never

-- a dataset that a snapshot is nearest in is there
nearest_there : (pool : Pool) → IsPool pool → (s : Snapshot) (name : List ℕ) (bound : Option ℕ) → IsNearestIn pool s name bound → HasDataset pool name
nearest_there pool is s name bound (inl last) =
    subst (λ n. HasDataset pool n) last.0.named (All-contains (λ (x : Snapshot). HasDataset pool (dataset_of_snapshot x)) pool.snapshots s is.linked.snapshots last.0.there)
nearest_there pool is s name bound (inr first) = (first.0.dataset, first.0.there, first.0.named)

-- before what a partial state has so far
pub at_partial : (pool : Pool) (s : Snapshot) (at : Place) (own : row.Partial) (before base : Option ℕ) → IsPool pool
    → (placed : (partial : Partial) × Contains pool.partials partial × NamesPartial own partial × (at ≡ InPartial partial))
    → IsNearestIn pool s own.target None ↔ StandsAtPlace pool.snapshots before s → ((partial : Partial) → NamesPartial own partial → IsBase pool s partial ↔ StandsAtPlace pool.snapshots base s)
    → IsNearest pool s at ↔ (StandsAtPlace pool.snapshots before s ⊎ StandsAtPlace pool.snapshots base s)
at_partial pool s at own before base is placed same based =
    subst (λ (p : Place). IsNearest pool s p ↔ (StandsAtPlace pool.snapshots before s ⊎ StandsAtPlace pool.snapshots base s)) (sym placed.3) (go, back)
  where
    partial : Partial
    partial = placed.0

    names : NamesPartial own partial
    names = placed.2

    go : IsNearest pool s (InPartial partial) → StandsAtPlace pool.snapshots before s ⊎ StandsAtPlace pool.snapshots base s
    go (inl near) = inl (same.0 (subst (λ n. IsNearestIn pool s n None) names.target near.1))
    go (inr one) = inr ((based partial names).0 one)

    back : StandsAtPlace pool.snapshots before s ⊎ StandsAtPlace pool.snapshots base s → IsNearest pool s (InPartial partial)
    back (inl stands) = let near = subst (λ n. IsNearestIn pool s n None) (sym names.target) (same.1 stands) in inl (nearest_there pool is s partial.target None near, near)
    back (inr stands) = inr ((based partial names).1 stands)
