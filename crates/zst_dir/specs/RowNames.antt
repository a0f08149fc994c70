-- What the rows of a directory name: the datasets, snapshots, bookmarks and partial states of a pool, whatever their object sets and lists hold.
use Rattle.std.specs.Prelude.{◌≡◌, ◌⊎◌, List, [], ◌∷◌}
use Rattle.zst_model.specs.pools.Pool.{Pool}
use Rattle.zst_model.specs.pools.Pool as plain
use Rattle.zst_dir.specs.Rows.{Rows}
use Rattle.zst_dir.specs.declared.rows.Dataset.{Dataset}
use Rattle.zst_dir.specs.declared.rows.Snapshot.{Snapshot}
use Rattle.zst_dir.specs.declared.rows.Bookmark.{Bookmark}
use Rattle.zst_dir.specs.declared.rows.Partial.{Partial}

-- each element of a list matches the one at its place in the other, and there are as many
abbrev pub Match : {A B : Type 0} → (A → B → Type 0) → List A → List B → Type 0
Match Is [] [] = Unit {0}
Match Is [] (y ∷ ys) = ⊥
Match Is (x ∷ xs) [] = ⊥
Match Is (x ∷ xs) (y ∷ ys) = Is x y × Match Is xs ys

-- two elements stand at the same place of two lists
abbrev pub StandAlike : {A B : Type 0} → List A → List B → A → B → Type 0
StandAlike [] ys a b = ⊥
StandAlike (x ∷ xs) [] a b = ⊥
StandAlike (x ∷ xs) (y ∷ ys) a b = ((x ≡ a) × (y ≡ b)) ⊎ StandAlike xs ys a b

-- a dataset's row names this dataset, whatever its object set holds
pub record NamesDataset (row : Dataset) (dataset : plain.Dataset) : Type 0 where
  pub name : dataset.name ≡ row.name
  pub kind : dataset.kind ≡ row.kind
  pub origin : dataset.origin ≡ row.origin
  pub redact : dataset.redact ≡ row.redact

-- a snapshot's row names this snapshot, whatever its object set holds
pub record NamesSnapshot (row : Snapshot) (snapshot : plain.Snapshot) : Type 0 where
  pub name : snapshot.name ≡ row.name
  pub guid : snapshot.guid ≡ row.guid
  pub time : snapshot.time ≡ row.time
  pub number : snapshot.number ≡ row.number
  pub redact : snapshot.redact ≡ row.redact

-- a bookmark's row names this bookmark, whatever its list has
pub record NamesBookmark (row : Bookmark) (bookmark : plain.Bookmark) : Type 0 where
  pub name : bookmark.name ≡ row.name
  pub guid : bookmark.guid ≡ row.guid
  pub time : bookmark.time ≡ row.time
  pub number : bookmark.number ≡ row.number
  pub redact : bookmark.redact ≡ row.redact

-- a partial state's row names this partial state, whatever its object set holds
pub record NamesPartial (row : Partial) (partial : plain.Partial) : Type 0 where
  pub target : partial.target ≡ row.target
  pub component : partial.component ≡ row.snapshot
  pub keep : partial.keep ≡ row.keep
  pub header : partial.header ≡ row.header
  pub base : partial.base ≡ row.base
  pub point : partial.point ≡ row.point

-- the rows name what a pool that runs lists, whatever the object sets and the lists hold
pub record AreNamed (rows : Rows) (running : Pool) : Type 0 where
  pub datasets : Match NamesDataset rows.datasets running.datasets
  pub snapshots : Match NamesSnapshot rows.snapshots running.snapshots
  pub bookmarks : Match NamesBookmark rows.bookmarks running.bookmarks
  pub partials : Match NamesPartial rows.partials running.partials
