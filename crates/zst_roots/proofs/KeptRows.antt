-- What rows stand for they stand for where sectors become free that they don't reach.
use Rattle.std.proofs.Common.{inl, inr, ℕ, List, [], ◌∷◌, Option, Some, None}
use Rattle.std.specs.List.{All, Contains}
use Rattle.std.proofs.lemmas.List.Elements.{All-cons, All-nil, Contains-append_left, Contains-append_right, Contains-push}
use Rattle.zst_block.specs.Blocks.{Has, IsBlock}
use Rattle.zst_dir.specs.RowNames.{Match}
use Rattle.zst_dir.specs.Rows.{Rows}
use Rattle.zst_dir.specs.declared.rows.Partial.{Partial}
use Rattle.zst_image.specs.Reads.{BookmarkIs, DatasetIs, PartialIs, RunsBy, SetIs, SnapshotIs}
use Rattle.zst_image.proofs.OnePool.{SetIs-holds}
use Rattle.zst_list.specs.Spelling.{list_bytes}
use Rattle.zst_model.specs.pools.Pool as plain
use Rattle.zst_model.specs.pools.Pool.{Pool}
use Rattle.zst_model.specs.states.DatedState.{DatedState}
use Rattle.zst_reach.specs.ReachedSets.{ReachesInSet}
use Rattle.zst_reach.proofs.KeptSets.{FreeBefore, SetHolds-kept, SetIsTight-kept}
use Rattle.zst_reach.proofs.KeptTexts.{HasList-kept}
use Rattle.zst_space.specs.FreeSectors.{FreeSectors}
use Rattle.zst_tree.specs.Indices.{Blocks}
use Rattle.zst_tree.specs.declared.tree.ObjSet.{ObjSet}
use Rattle.zst_roots.specs.ReachedRows.{PartialReaches, RowsReach}
use Rattle.zst_roots.specs.StandingRows.{HeadStands, ListStands, PartialStands, SnapshotStands}

-- what is so of each listed row and of what it matches, is so of the lists
Match-listed : {A B : Type 0} (Is Also : A → B → Type 0) (xs : List A) (ys : List B) → ((x : A) → Contains xs x → (y : B) → Is x y → Also x y) → Match Is xs ys → Match Also xs ys
Match-listed Is Also [] [] also is = tt
Match-listed Is Also [] (y ∷ ys) also is = absurd is
Match-listed Is Also (x ∷ xs) [] also is = absurd is
Match-listed {A} Is Also (x ∷ xs) (y ∷ ys) also is =
    (also x (Contains-append_left (x ∷ []) xs x (Contains-push [] x)) y is.0, Match-listed Is Also xs ys (λ z listed. also z (Contains-append_right (x ∷ []) xs z listed)) is.1)

-- what is so of a row that matches something is so of each row of lists that match
Match-rows : {A B : Type 0} (Is : A → B → Type 0) (P : A → Type 0) → ((x : A) (y : B) → Is x y → P x) → (xs : List A) (ys : List B) → Match Is xs ys → All P xs
Match-rows Is P gives [] [] is = All-nil P
Match-rows Is P gives [] (y ∷ ys) is = absurd is
Match-rows Is P gives (x ∷ xs) [] is = absurd is
Match-rows Is P gives (x ∷ xs) (y ∷ ys) is = All-cons P x xs (gives x y is.0) (Match-rows Is P gives xs ys is.1)

module _ (image : List ℕ) (space more : FreeSectors) where
  -- a set is known as well
  pub SetIs-kept : (bound : Option ℕ) (set : ObjSet) (state : DatedState) → FreeBefore space more (ReachesInSet (IsBlock image) set) → SetIs bound (Has image space) set state → SetIs bound (Has image more) set state
  SetIs-kept None set state before is = SetHolds-kept image space more set state before is
  SetIs-kept (Some number) set state before is = (SetIsTight-kept image space more set state before is.0, is.1)

  -- so does the row of a partial state
  pub PartialIs-kept : (bound : Option ℕ) (row : Partial) (partial : plain.Partial) → FreeBefore space more (PartialReaches (IsBlock image) row) → PartialIs bound (Has image space) row partial → PartialIs bound (Has image more) row partial
  PartialIs-kept bound row partial before is = record { named = is.named; objects = SetIs-kept bound row.objects partial.objects before is.objects }

  pub RunsBy-kept : (bound : Option ℕ) (rows : Rows) (running : Pool) → RunsBy bound (Has image space) rows running → FreeBefore space more (RowsReach (IsBlock image) rows) → RunsBy bound (Has image more) rows running
  RunsBy-kept bound rows running is before = record {
    datasets = Match-listed (DatasetIs bound (Has image space)) (DatasetIs bound (Has image more)) rows.datasets running.datasets (λ row listed dataset stands. record {
      named = stands.named;
      head = SetIs-kept bound row.head dataset.head (λ sector reached. before sector (inl (record { row = row; listed = listed; reached = reached }))) stands.head;
    }) is.datasets;
    snapshots = Match-listed (SnapshotIs bound (Has image space)) (SnapshotIs bound (Has image more)) rows.snapshots running.snapshots (λ row listed snapshot stands. record {
      named = stands.named;
      objects = SetIs-kept bound row.objects snapshot.objects (λ sector reached. before sector (inr (inl (record { row = row; listed = listed; reached = reached })))) stands.objects;
    }) is.snapshots;
    bookmarks = Match-listed (BookmarkIs (Has image space)) (BookmarkIs (Has image more)) rows.bookmarks running.bookmarks (λ row listed bookmark stands. record {
      named = stands.named;
      list = HasList-kept image space more row.levels row.root row.runs bookmark.runs (λ some sector reached. before sector (inr (inr (inr (record { row = row; listed = listed; reached = (some, reached) }))))) stands.list;
      no_list = stands.no_list;
    }) is.bookmarks;
    partials = Match-listed (PartialIs bound (Has image space)) (PartialIs bound (Has image more)) rows.partials running.partials (λ row listed partial stands.
        PartialIs-kept bound row partial (λ sector reached. before sector (inr (inr (inl (record { row = row; listed = listed; reached = reached }))))) stands) is.partials;
  }

-- rows that stand for a pool that runs are walked
module _ (bound : Option ℕ) (has : Blocks) (rows : Rows) (running : Pool) (is : RunsBy bound has rows running) where
  pub heads_stand : All (HeadStands has) rows.datasets
  heads_stand = Match-rows (DatasetIs bound has) (HeadStands has) (λ row dataset stands. (dataset.head, SetIs-holds bound has row.head dataset.head stands.head)) rows.datasets running.datasets is.datasets

  pub snapshots_stand : All (SnapshotStands has) rows.snapshots
  snapshots_stand = Match-rows (SnapshotIs bound has) (SnapshotStands has) (λ row snapshot stands. (snapshot.objects, SetIs-holds bound has row.objects snapshot.objects stands.objects)) rows.snapshots running.snapshots is.snapshots

  pub partials_stand : All (PartialStands has) rows.partials
  partials_stand = Match-rows (PartialIs bound has) (PartialStands has) (λ row partial stands. (partial.objects, SetIs-holds bound has row.objects partial.objects stands.objects)) rows.partials running.partials is.partials

  pub lists_stand : All (ListStands has) rows.bookmarks
  lists_stand = Match-rows (BookmarkIs has) (ListStands has) (λ row bookmark stands some. (list_bytes bookmark.runs, stands.list.leaves some)) rows.bookmarks running.bookmarks is.bookmarks
