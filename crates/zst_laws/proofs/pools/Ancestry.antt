-- What stands before what, from one pool to another.
use Rattle.std.proofs.Common.{◌≡◌, inl, inr, ℕ, ◌<◌, ◌≤◌, List, Option, Some, None, All, Contains, ap, arith}
use Rattle.std.proofs.lemmas.List.Elements.{All-contains}
use Rattle.zst_model.specs.pools.Pool.{Pool, Snapshot, Partial, HasDataset, IsLinked, dataset_of_snapshot}
use Rattle.zst_model.specs.pools.Ancestry.{IsOrigin, IsBase, Source, OfSnapshot, OfBookmark, dataset_of_source, number_of_source, Marks, StandsBefore, Earlier, AtOrigin, BeforeOrigin, IsBeforeClone, BaseCounts, IsBeforePartial}

-- each origin of a pool is one of the other
abbrev pub HasOrigins : Pool → Pool → Type 0
HasOrigins other pool = (origin : Snapshot) (name : List ℕ) → IsOrigin pool origin name → IsOrigin other origin name

-- then what stands before in the pool does so in the other
pub stands_on : (pool other : Pool) (source : Source) → HasOrigins other pool → (name : List ℕ) (bound : Option ℕ)
    → StandsBefore pool source name bound → StandsBefore other source name bound
stands_on pool other source h name bound (Earlier _ _ same below) = Earlier name bound same below
stands_on pool other source h name bound (AtOrigin _ _ origin is marks) = AtOrigin name bound origin (h origin name is) marks
stands_on pool other source h name bound (BeforeOrigin _ _ origin is before) =
    BeforeOrigin name bound origin (h origin name is) (stands_on pool other source h (dataset_of_snapshot origin) (Some origin.number) before)

-- each origin that a dataset of the old pool has in the new one is its origin there
abbrev pub HasOldOrigins : Pool → Pool → Type 0
HasOldOrigins old new = (origin : Snapshot) (name : List ℕ) → HasDataset old name → IsOrigin new origin name → IsOrigin old origin name

-- then what stands before one of these datasets in the new pool did so in the old one
pub stood_before : (old new : Pool) (source : Source) → IsLinked old → HasOldOrigins old new → (name : List ℕ) (bound : Option ℕ)
    → HasDataset old name → StandsBefore new source name bound → StandsBefore old source name bound
stood_before old new source linked h name bound has (Earlier _ _ same below) = Earlier name bound same below
stood_before old new source linked h name bound has (AtOrigin _ _ origin is marks) = AtOrigin name bound origin (h origin name has is) marks
stood_before old new source linked h name bound has (BeforeOrigin _ _ origin is before) =
    let was = h origin name has is in
    let of = All-contains (λ s. HasDataset old (dataset_of_snapshot s)) old.snapshots origin linked.snapshots was.snapshot_there in
    BeforeOrigin name bound origin was (stood_before old new source linked h (dataset_of_snapshot origin) (Some origin.number) of before)

-- a partial state whose base is one of the other pool, and whose target is there in both or in neither: what stands before these in the
-- pool does so in the other
pub record IsAlike (other pool : Pool) (partial : Partial) : Type 0 where
  pub bases : (base : Snapshot) → IsBase pool base partial → IsBase other base partial
  pub target : HasDataset pool partial.target → HasDataset other partial.target
  pub target_back : HasDataset other partial.target → HasDataset pool partial.target
  pub before_target : (source : Source) → HasDataset other partial.target → StandsBefore pool source partial.target None → StandsBefore other source partial.target None
  pub before_base : (source : Source) (base : Snapshot) → IsBase other base partial
      → StandsBefore pool source (dataset_of_snapshot base) (Some base.number) → StandsBefore other source (dataset_of_snapshot base) (Some base.number)

base_counts_on : (pool other : Pool) (source : Source) (partial : Partial) → IsAlike other pool partial → BaseCounts pool source partial → BaseCounts other source partial
base_counts_on pool other (OfSnapshot snapshot) partial alike counts = tt
base_counts_on pool other (OfBookmark bookmark) partial alike counts = λ has. counts (alike.target_back has)

before_clone_on : (pool other : Pool) (source : Source) (partial : Partial) → IsAlike other pool partial → IsBeforeClone pool source partial → IsBeforeClone other source partial
before_clone_on pool other source partial alike clone =
    let is = alike.bases clone.base clone.is_base in record {
      base = clone.base;
      is_base = is;
      before = elim clone.before [
        | inl marks ↦ inl marks
        | inr before ↦ inr (alike.before_base source clone.base is before)
      ];
    }

-- then what stands before the partial state in the pool does so in the other
pub before_partial_on : (pool other : Pool) (source : Source) (partial : Partial) → IsAlike other pool partial → IsBeforePartial pool source partial → IsBeforePartial other source partial
before_partial_on pool other source partial alike (inl h) =
    let there = alike.target h.target in inl (record { target = there; before = alike.before_target source there h.before })
before_partial_on pool other source partial alike (inr h) =
    inr (base_counts_on pool other source partial alike h.0, before_clone_on pool other source partial alike h.1)

-- before the head of a dataset that isn't there stand the sources with its name alone
pub stands_before_none : (pool : Pool) (source : Source) (name : List ℕ) (bound : Option ℕ)
    → (HasDataset pool name → ⊥) → StandsBefore pool source name bound → dataset_of_source source ≡ name
stands_before_none pool source name bound absent (Earlier _ _ same below) = same
stands_before_none pool source name bound absent (AtOrigin _ _ origin is marks) = absurd (absent (is.dataset, is.there, is.named))
stands_before_none pool source name bound absent (BeforeOrigin _ _ origin is before) = absurd (absent (is.dataset, is.there, is.named))

-- a source has the dataset and the number of a snapshot that it marks
pub marks_dataset : (source : Source) (snapshot : Snapshot) → Marks source snapshot → dataset_of_source source ≡ dataset_of_snapshot snapshot
marks_dataset (OfSnapshot s) snapshot marks = ap dataset_of_snapshot marks
marks_dataset (OfBookmark b) snapshot marks = marks.dataset

pub marks_number : (source : Source) (snapshot : Snapshot) → Marks source snapshot → number_of_source source ≡ snapshot.number
marks_number (OfSnapshot s) snapshot marks = ap (λ x. x.number) marks
marks_number (OfBookmark b) snapshot marks = marks.number

-- a source with a number above all snapshots of the pool
abbrev pub IsAbove : Source → Pool → Type 0
IsAbove source pool = All (λ snapshot. snapshot.number < number_of_source source) pool.snapshots

above_number : (pool : Pool) (source : Source) → IsAbove source pool → (snapshot : Snapshot) → Contains pool.snapshots snapshot → snapshot.number < number_of_source source
above_number pool source above snapshot there = All-contains (λ s. s.number < number_of_source source) pool.snapshots snapshot above there

-- it marks no snapshot of the pool
pub above_marks : (pool : Pool) (source : Source) → IsAbove source pool → (snapshot : Snapshot) → Contains pool.snapshots snapshot → Marks source snapshot → ⊥
above_marks pool source above snapshot there marks =
    let less = above_number pool source above snapshot there in
    let same = marks_number source snapshot marks in omega arith

-- it stands before nothing up to its number
pub above_before : (pool : Pool) (source : Source) → IsAbove source pool → (name : List ℕ) (bound : ℕ) → bound ≤ number_of_source source
    → StandsBefore pool source name (Some bound) → ⊥
above_before pool source above name bound most (Earlier _ _ same below) = omega arith
above_before pool source above name bound most (AtOrigin _ _ origin is marks) = above_marks pool source above origin is.snapshot_there marks
above_before pool source above name bound most (BeforeOrigin _ _ origin is before) =
    let less = above_number pool source above origin is.snapshot_there in
    above_before pool source above (dataset_of_snapshot origin) origin.number (omega arith) before

-- and before the head of its own dataset alone
pub above_before_head : (pool : Pool) (source : Source) → IsAbove source pool → (name : List ℕ)
    → StandsBefore pool source name None → dataset_of_source source ≡ name
above_before_head pool source above name (Earlier _ _ same below) = same
above_before_head pool source above name (AtOrigin _ _ origin is marks) = absurd (above_marks pool source above origin is.snapshot_there marks)
above_before_head pool source above name (BeforeOrigin _ _ origin is before) =
    let less = above_number pool source above origin is.snapshot_there in
    absurd (above_before pool source above (dataset_of_snapshot origin) origin.number (omega arith) before)
