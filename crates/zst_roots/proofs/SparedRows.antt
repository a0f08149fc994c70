-- What rows reach on an image they reach on another one that has the bytes of these sectors.
use Rattle.std.proofs.Common.{inl, inr, ℕ, ◌<◌, List}
use Rattle.std.specs.Prelude.{◌↔◌}
use Rattle.std.specs.List.{Contains}
use Rattle.zst_block.specs.Blocks.{IsBlock}
use Rattle.zst_dir.specs.Rows.{Rows}
use Rattle.zst_dir.specs.declared.rows.Dataset.{Dataset}
use Rattle.zst_dir.specs.declared.rows.Snapshot.{Snapshot}
use Rattle.zst_dir.specs.declared.rows.Bookmark.{Bookmark}
use Rattle.zst_dir.specs.declared.rows.Partial.{Partial}
use Rattle.zst_reach.specs.Reached.{ReachesSector, SparesReached}
use Rattle.zst_reach.proofs.SparedSectors.{ReachesInSet-spared, ReachesSector-spared}
use Rattle.zst_roots.specs.ReachedRows.{HeadReaches, IsReachedBySome, ListReaches, PartialReaches, RowsReach, SnapshotReaches}

-- what each listed row reaches so it reaches otherwise too
some_over : {Row : Type 0} (rows : List Row) (reaches also : Row → ℕ → Type 0) (sector : ℕ) → ((row : Row) → Contains rows row → reaches row sector → also row sector) → IsReachedBySome rows reaches sector → IsReachedBySome rows also sector
some_over rows reaches also sector over is = record { row = is.row; listed = is.listed; reached = over is.row is.listed is.reached }

module _ (old new : List ℕ) (rows : Rows) (spares : SparesReached (RowsReach (IsBlock old) rows) old new) (sector : ℕ) where
  head_spared : (row : Dataset) → Contains rows.datasets row → HeadReaches (IsBlock old) row sector ↔ HeadReaches (IsBlock new) row sector
  head_spared row listed = ReachesInSet-spared old new row.head (record { size = spares.size; sectors = λ s reached. spares.sectors s (inl (record { row = row; listed = listed; reached = reached })) }) sector

  snapshot_spared : (row : Snapshot) → Contains rows.snapshots row → SnapshotReaches (IsBlock old) row sector ↔ SnapshotReaches (IsBlock new) row sector
  snapshot_spared row listed = ReachesInSet-spared old new row.objects (record { size = spares.size; sectors = λ s reached. spares.sectors s (inr (inl (record { row = row; listed = listed; reached = reached }))) }) sector

  partial_spared : (row : Partial) → Contains rows.partials row → PartialReaches (IsBlock old) row sector ↔ PartialReaches (IsBlock new) row sector
  partial_spared row listed = ReachesInSet-spared old new row.objects (record { size = spares.size; sectors = λ s reached. spares.sectors s (inr (inr (inl (record { row = row; listed = listed; reached = reached })))) }) sector

  text_spared : (row : Bookmark) → Contains rows.bookmarks row → 0 < row.runs → ReachesSector (IsBlock old) row.levels row.root sector ↔ ReachesSector (IsBlock new) row.levels row.root sector
  text_spared row listed some = ReachesSector-spared old new row.levels row.root (record { size = spares.size; sectors = λ s reached. spares.sectors s (inr (inr (inr (record { row = row; listed = listed; reached = (some, reached) })))) }) sector

  list_spared : (row : Bookmark) → Contains rows.bookmarks row → ListReaches (IsBlock old) row sector ↔ ListReaches (IsBlock new) row sector
  list_spared row listed = (λ is. (is.0, (text_spared row listed is.0).0 is.1), λ is. (is.0, (text_spared row listed is.0).1 is.1))

  rows_forth : RowsReach (IsBlock old) rows sector → RowsReach (IsBlock new) rows sector
  rows_forth (inl is) = inl (some_over rows.datasets (HeadReaches (IsBlock old)) (HeadReaches (IsBlock new)) sector (λ row listed. (head_spared row listed).0) is)
  rows_forth (inr (inl is)) = inr (inl (some_over rows.snapshots (SnapshotReaches (IsBlock old)) (SnapshotReaches (IsBlock new)) sector (λ row listed. (snapshot_spared row listed).0) is))
  rows_forth (inr (inr (inl is))) = inr (inr (inl (some_over rows.partials (PartialReaches (IsBlock old)) (PartialReaches (IsBlock new)) sector (λ row listed. (partial_spared row listed).0) is)))
  rows_forth (inr (inr (inr is))) = inr (inr (inr (some_over rows.bookmarks (ListReaches (IsBlock old)) (ListReaches (IsBlock new)) sector (λ row listed. (list_spared row listed).0) is)))

  rows_back : RowsReach (IsBlock new) rows sector → RowsReach (IsBlock old) rows sector
  rows_back (inl is) = inl (some_over rows.datasets (HeadReaches (IsBlock new)) (HeadReaches (IsBlock old)) sector (λ row listed. (head_spared row listed).1) is)
  rows_back (inr (inl is)) = inr (inl (some_over rows.snapshots (SnapshotReaches (IsBlock new)) (SnapshotReaches (IsBlock old)) sector (λ row listed. (snapshot_spared row listed).1) is))
  rows_back (inr (inr (inl is))) = inr (inr (inl (some_over rows.partials (PartialReaches (IsBlock new)) (PartialReaches (IsBlock old)) sector (λ row listed. (partial_spared row listed).1) is)))
  rows_back (inr (inr (inr is))) = inr (inr (inr (some_over rows.bookmarks (ListReaches (IsBlock new)) (ListReaches (IsBlock old)) sector (λ row listed. (list_spared row listed).1) is)))

  pub RowsReach-spared : RowsReach (IsBlock old) rows sector ↔ RowsReach (IsBlock new) rows sector
  RowsReach-spared = (rows_forth, rows_back)
