-- What stands for a pool names it.
use Rattle.std.proofs.Common.{List, [], ◌∷◌, map, refl, Option, ℕ}
use Rattle.zst_image.specs.Bodies.{Body}
use Rattle.zst_model.specs.pools.Pool.{Pool}
use Rattle.zst_tree.specs.Indices.{Blocks}
use Rattle.zst_dir.specs.Rows.{Rows}
use Rattle.zst_pool.specs.Plans.{bare_bookmark, bare_dataset, bare_partial, bare_pool, bare_snapshot}
use Rattle.zst_dir.specs.RowNames.{AreNamed, Match, NamesBookmark, NamesDataset, NamesPartial, NamesSnapshot}
use Rattle.zst_image.specs.Reads.{BookmarkIs, DatasetIs, IsNamedBy, PartialIs, RunsBy, SnapshotIs}
use Rattle.zst_image.proofs.Growth.{Match-weaker}

-- rows that stand for what a pool lists name it
pub rows_named : {bound : Option ℕ} (has : Blocks) (rows : Rows) (pool : Pool) → RunsBy bound has rows pool → AreNamed rows pool
rows_named {bound = bound} has rows pool is = record {
  datasets = Match-weaker (DatasetIs bound has) NamesDataset (λ row dataset stands. stands.named) rows.datasets pool.datasets is.datasets;
  snapshots = Match-weaker (SnapshotIs bound has) NamesSnapshot (λ row snapshot stands. stands.named) rows.snapshots pool.snapshots is.snapshots;
  bookmarks = Match-weaker (BookmarkIs has) NamesBookmark (λ row bookmark stands. stands.named) rows.bookmarks pool.bookmarks is.bookmarks;
  partials = Match-weaker (PartialIs bound has) NamesPartial (λ row partial stands. stands.named) rows.partials pool.partials is.partials;
}

-- rows name what is made of each of them
each_made : {A B : Type 0} (Named : A → B → Type 0) (make : A → B) → ((a : A) → Named a (make a)) → (xs : List A) → Match Named xs (map make xs)
each_made Named make of [] = tt
each_made Named make of (x ∷ xs) = (of x, each_made Named make of xs)

-- a body and its rows name the pool whose objects nothing touched
pub bare_is_named : (body : Body) (rows : Rows) → IsNamedBy body rows (bare_pool body rows)
bare_is_named body rows = record {
  id = refl;
  number = refl;
  guids = refl;
  are_named = record {
    datasets = each_made NamesDataset bare_dataset (λ row. record { name = refl; kind = refl; origin = refl; redact = refl }) rows.datasets;
    snapshots = each_made NamesSnapshot bare_snapshot (λ row. record { name = refl; guid = refl; time = refl; number = refl; redact = refl }) rows.snapshots;
    bookmarks = each_made NamesBookmark bare_bookmark (λ row. record { name = refl; guid = refl; time = refl; number = refl; redact = refl }) rows.bookmarks;
    partials = each_made NamesPartial bare_partial (λ row. record { target = refl; component = refl; keep = refl; header = refl; base = refl; point = refl }) rows.partials;
  };
}
