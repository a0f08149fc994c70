-- What holds of each kind of state holds of all; and where a state differs.
use Rattle.std.proofs.Common.{◌≡◌, inl, inr, ℕ, ◌≤◌, Contains}
use Rattle.std.proofs.lemmas.Bool.{cases_eq}
use Rattle.zst_model.specs.pools.Pool.{Pool, Dataset, Snapshot, Partial}
use Rattle.zst_model.specs.pools.Rows.{Row, rows, snapshot_row, head_row, partial_row}
use Rattle.zst_model.specs.states.DatedState.{DatedState}
use Rattle.zst_model.specs.states.State.{attr_at, content_at}
use Rattle.zst_laws.proofs.pools.Descent.{IsRow, SnapshotRow, HeadRow, PartialRow, row_cases}
use Rattle.zst_check.specs.FailingPlaces.{NumberDiffers, IndexDiffers}

-- what holds of the rows of snapshots, heads and partial states holds of each row
pub of_each_row : (pool : Pool) (P : Row → Type 0)
    → ((snapshot : Snapshot) → Contains pool.snapshots snapshot → P (snapshot_row snapshot))
    → ((dataset : Dataset) → Contains pool.datasets dataset → P (head_row pool.number dataset))
    → ((partial : Partial) → Contains pool.partials partial → P (partial_row pool.number partial))
    → (row : Row) → Contains (rows pool) row → P row
of_each_row pool P snapshots heads partials row there = go row (row_cases pool row there)
  where
    go : (r : Row) → IsRow pool r → P r
    go r (SnapshotRow snapshot here) = snapshots snapshot here
    go r (HeadRow dataset here) = heads dataset here
    go r (PartialRow partial here) = partials partial here

-- a number that is remembered differs where its content and its date aren't both the same
pub number_differs : (earlier : Snapshot) (later : DatedState) (k : ℕ) → later.number_date k ≤ earlier.number
    → ¬ ((attr_at (earlier.objects.state k) ≡ attr_at (later.state k)) × (earlier.objects.number_date k ≡ later.number_date k)) → NumberDiffers earlier later k
number_differs earlier later k dated not_same = record {
  remembered = dated;
  other = elim (cases_eq (earlier.objects.number_date k) (later.number_date k)) [
    | inl same ↦ inl (λ content. not_same (content, same))
    | inr other ↦ inr other
  ];
}

-- so does an index
pub index_differs : (earlier : Snapshot) (later : DatedState) (k i : ℕ) → later.index_date k i ≤ earlier.number
    → ¬ ((content_at (earlier.objects.state k) i ≡ content_at (later.state k) i) × (earlier.objects.index_date k i ≡ later.index_date k i)) → IndexDiffers earlier later k i
index_differs earlier later k i dated not_same = record {
  remembered = dated;
  other = elim (cases_eq (earlier.objects.index_date k i) (later.index_date k i)) [
    | inl same ↦ inl (λ content. not_same (content, same))
    | inr other ↦ inr other
  ];
}
