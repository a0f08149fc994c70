-- What is tested of the rows of a directory.
use Rattle.std.specs.Prelude.{ℕ, ◌≤◌, Bool, true, not, ◌||◌, ◌&&◌, ◌==◌, nat_lt, bytes_eq, List, Option, None, Some}
use Rattle.zst_dir.specs.declared.rows.Bookmark.{Bookmark}
use Rattle.zst_dir.specs.declared.rows.Snapshot.{Snapshot}
use Rattle.zst_model.specs.pools.Pool.{Pool, is_before}
use Rattle.zst_model.specs.pools.Pool as plain
use Rattle.zst_laws.specs.NearestSnapshots.{IsOneBelow}
use Rattle.zst_names.specs.Names.{dataset_of}

-- whether a number is below a bound; every number is below no bound
abbrev pub is_below : ℕ → Option ℕ → Bool
is_below number None = true
is_below number (Some bound) = nat_lt number bound

-- whether a snapshot stands before what a dataset has at a number (none: its head): its dataset stands before that one, or is that one, and its number is below
abbrev pub stands_below : List ℕ → Option ℕ → Snapshot → Bool
stands_below name bound row = is_before (dataset_of 64 row.name) name || (bytes_eq (dataset_of 64 row.name) name && is_below row.number bound)

-- the last snapshot of a dataset below a number
abbrev pub IsLastBelow : Pool → plain.Snapshot → List ℕ → Option ℕ → Type 0
IsLastBelow pool snapshot name bound =
    IsOneBelow pool.snapshots snapshot name bound × ((other : plain.Snapshot) → IsOneBelow pool.snapshots other name bound → other.number ≤ snapshot.number)

-- whether a snapshot has a bookmark's guid, where it is of its dataset and has its number
abbrev pub has_its_guid : Bookmark → Snapshot → Bool
has_its_guid bookmark snapshot =
    (not (snapshot.number == bookmark.number) || (snapshot.guid == bookmark.guid)) || not (bytes_eq (dataset_of 64 snapshot.name) (dataset_of 35 bookmark.name))
