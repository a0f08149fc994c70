-- A command that makes a new dataset, a clone or none, keeps a pool sound.
use Rattle.std.proofs.Common.{◌≡◌, ◌⊎◌, inl, inr, ℕ, ◌+◌, ◌≤◌, List, Some, None, Contains, refl, subst, sym, ◌∙◌, ap, arith}
use Rattle.std.proofs.lemmas.List.Elements.{All-contains}
use Rattle.std.proofs.lemmas.Option.{same_Some}
use Rattle.zst_model.specs.pools.Pool.{Pool, Dataset, Snapshot, Partial, HasDataset, IsLinked, IsNamed, dataset_of_snapshot, is_before, inserted}
use Rattle.zst_model.specs.pools.Ancestry.{IsOrigin, Source, IsIn, StandsBefore, Earlier, AtOrigin, BeforeOrigin, dataset_of_source}
use Rattle.zst_model.specs.pools.Rows.{snapshot_row, head_row}
use Rattle.zst_model.specs.pools.Soundness.{Sound}
use Rattle.zst_model.specs.pools.Step.{new_dataset, clone_of}
use Rattle.zst_model.proofs.InsertedLaws.{contains-inserted, inserted_has_rest}
use Rattle.zst_model.proofs.DatedStates.{dated_higher}
use Rattle.zst_model.proofs.UniqueElements.{same_named}
use Rattle.zst_laws.proofs.pools.Ancestry.{HasOldOrigins, stood_before, marks_dataset, marks_number}
use Rattle.zst_laws.proofs.pools.Descent.{snapshot_has_row, StandsBy, Descends, source_dataset, head_stays}
use Rattle.zst_laws.proofs.pools.OtherDatasets.{with_datasets, KeepsDatasets}

-- the datasets with a new one in its place
abbrev pub with_new : Dataset → List Dataset → List Dataset
with_new row datasets = inserted (λ a b. is_before a.name b.name) row datasets

module _ (pool : Pool) (row : Dataset) (linked : IsLinked pool) (absent : HasDataset pool row.name → ⊥)
    (free : (partial : Partial) → Contains pool.partials partial → partial.target ≡ row.name → ⊥)
  where
    abbrev next_pool : Pool
    next_pool = with_datasets pool (with_new row pool.datasets)

    -- a dataset is the new one or an old one
    new_or_old : (dataset : Dataset) → Contains (with_new row pool.datasets) dataset → (row ≡ dataset) ⊎ Contains pool.datasets dataset
    new_or_old dataset there = contains-inserted (λ a b. is_before a.name b.name) row pool.datasets dataset there

    -- the origin of an old dataset is its old one
    new_origins : HasOldOrigins pool next_pool
    new_origins origin of has is = go (new_or_old is.dataset is.there)
      where
        go : (row ≡ is.dataset) ⊎ Contains pool.datasets is.dataset → IsOrigin pool origin of
        go (inl new) = absurd (absent (subst (HasDataset pool) (sym is.named ∙ sym (ap (λ d. d.name) new)) has))
        go (inr old) = record { dataset = is.dataset; there = old; named = is.named; snapshot_there = is.snapshot_there; is_origin = is.is_origin }

    -- and that of the new dataset is its own
    pub own_origin : (origin : Snapshot) → IsOrigin next_pool origin row.name → row.origin ≡ Some origin.name
    own_origin origin is = go (new_or_old is.dataset is.there)
      where
        go : (row ≡ is.dataset) ⊎ Contains pool.datasets is.dataset → row.origin ≡ Some origin.name
        go (inl new) = ap (λ d. d.origin) new ∙ is.is_origin
        go (inr old) = absurd (absent (is.dataset, old, is.named))

    -- it is no partial state's target
    old_target : (partial : Partial) → Contains pool.partials partial → (dataset : Dataset) → dataset.name ≡ partial.target
        → (row ≡ dataset) ⊎ Contains pool.datasets dataset → HasDataset pool partial.target
    old_target partial there dataset named (inl new) = absurd (free partial there (sym named ∙ sym (ap (λ d. d.name) new)))
    old_target partial there dataset named (inr old) = (dataset, old, named)

    -- each other head is as it was
    next_head : Descends pool next_pool (head_row (pool.number + 1) row) → (dataset : Dataset)
        → (row ≡ dataset) ⊎ Contains pool.datasets dataset → Descends pool next_pool (head_row (pool.number + 1) dataset)
    next_head new dataset (inl e) = subst (λ d. Descends pool next_pool (head_row (pool.number + 1) d)) e new
    next_head new dataset (inr old) = inl (head_stays pool next_pool linked new_origins refl dataset old)

    -- so a new dataset with a name that none has keeps the datasets, where its head comes from the pool or is a first
    pub dataset_keeps : Descends pool next_pool (head_row (pool.number + 1) row) → KeepsDatasets pool (with_new row pool.datasets)
    dataset_keeps new = record {
      origins = new_origins;
      names = λ of (dataset, there, named). (dataset, inserted_has_rest (λ a b. is_before a.name b.name) row pool.datasets dataset there, named);
      targets = λ partial here (dataset, there, named). old_target partial here dataset named (new_or_old dataset there);
      heads = λ dataset there. next_head new dataset (new_or_old dataset there);
    }

-- a dataset without objects: nothing stands before its head
pub new_is_first : (pool : Pool) (kind : ℕ) (name : List ℕ) (linked : IsLinked pool) (absent : HasDataset pool name → ⊥)
    → ((partial : Partial) → Contains pool.partials partial → partial.target ≡ name → ⊥)
    → Descends pool (with_datasets pool (with_new (new_dataset kind name) pool.datasets)) (head_row (pool.number + 1) (new_dataset kind name))
new_is_first pool kind name linked absent free = inr (record { none = none; dated = record { numbers = λ k. omega arith; indices = λ k i. omega arith } })
  where
    no_origin : (origin : Snapshot) → IsOrigin (with_datasets pool (with_new (new_dataset kind name) pool.datasets)) origin name → ⊥
    no_origin origin is = let none : None ≡ Some origin.name = own_origin pool (new_dataset kind name) linked absent free origin is in absurd (cc)

    none : (source : Source) → HasDataset pool (dataset_of_source source)
        → StandsBefore (with_datasets pool (with_new (new_dataset kind name) pool.datasets)) source name None → ⊥
    none source has (Earlier _ _ same below) = absent (subst (HasDataset pool) same has)
    none source has (AtOrigin _ _ origin is marks) = no_origin origin is
    none source has (BeforeOrigin _ _ origin is before) = no_origin origin is

-- a clone: its head comes from its snapshot, which is its own origin
module _ (pool : Pool) (name : List ℕ) (from : Dataset) (snapshot : Snapshot) (named : IsNamed pool) (linked : IsLinked pool) (sound : Sound pool)
    (there : Contains pool.snapshots snapshot) (absent : HasDataset pool name → ⊥)
    (free : (partial : Partial) → Contains pool.partials partial → partial.target ≡ name → ⊥)
  where
    abbrev clone : Dataset
    clone = clone_of name from snapshot

    abbrev cloned_pool : Pool
    cloned_pool = with_datasets pool (with_new clone pool.datasets)

    is_snapshot : (origin : Snapshot) → IsOrigin cloned_pool origin name → snapshot ≡ origin
    is_snapshot origin is =
        same_named pool.snapshots named.snapshots_differ snapshot origin there is.snapshot_there
        (same_Some snapshot.name origin.name (own_origin pool clone linked absent free origin is))

    clone_before : (source : Source) → IsIn pool source → StandsBefore cloned_pool source name None → StandsBy pool source (snapshot_row snapshot)
    clone_before source here (Earlier _ _ same below) = absurd (absent (subst (HasDataset pool) same (source_dataset pool linked sound source here)))
    clone_before source here (AtOrigin _ _ origin is marks) =
        let same = is_snapshot origin is in inr (record {
          snapshot = snapshot;
          there = there;
          own = record { dataset = marks_dataset source origin marks ∙ ap dataset_of_snapshot (sym same); number = marks_number source origin marks ∙ ap (λ s. s.number) (sym same) };
          is = refl;
        })
    clone_before source here (BeforeOrigin _ _ origin is before) =
        let of = All-contains (λ s. HasDataset pool (dataset_of_snapshot s)) pool.snapshots snapshot linked.snapshots there in
        inl (stood_before pool cloned_pool source linked (new_origins pool clone linked absent free) (dataset_of_snapshot snapshot) (Some snapshot.number) of
        (subst (λ s. StandsBefore cloned_pool source (dataset_of_snapshot s) (Some s.number)) (sym (is_snapshot origin is)) before))

    pub clone_comes : Descends pool cloned_pool (head_row (pool.number + 1) clone)
    clone_comes = inl (record {
      old = snapshot_row snapshot;
      there = snapshot_has_row pool snapshot there;
      before = λ source here is before. clone_before source here before;
      remembers = λ number state l h. h;
      agrees = λ earlier l h. h;
      dated = let l : snapshot.number ≤ pool.number = All-contains (λ s. s.number ≤ pool.number) pool.snapshots snapshot sound.dated.numbers there in
          dated_higher snapshot.number (pool.number + 1) (omega arith) snapshot.objects;
    })
