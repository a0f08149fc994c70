-- Which snapshots a redaction bookmark was made of, as far as its pool has them.
use Rattle.std.specs.Prelude.{◌≡◌, ◌≢◌, ℕ, ◌<◌, Bool, List, length, Contains, bytes_eq, ◌==◌, ◌&&◌}
use Rattle.std.specs.List.{AllZip}
use Rattle.zst_dir.specs.RowNames.{StandAlike}
use Rattle.zst_dir.specs.declared.rows.Bookmark as marks
use Rattle.zst_dir.specs.declared.rows.Snapshot as rows
use Rattle.zst_model.specs.fields.Lists.{has_pair}
use Rattle.zst_model.specs.pools.Ancestry.{OfBookmark, OfSnapshot}
use Rattle.zst_model.specs.pools.Pool.{Bookmark, Pool, Snapshot}
use Rattle.zst_model.specs.pools.RedSet.{objects_of, red_set}
use Rattle.zst_names.specs.Names.{dataset_of}
use Rattle.zst_laws.specs.RedactionLists.{AreRedactions, Lists}
use Rattle.zst_laws.specs.RememberedStates.{IsOwn}
use Rattle.zst_laws.specs.SendPlans.{StandsBeforeSnapshot}
use Rattle.zst_tree.specs.declared.tree.ObjSet.{ObjSet}

-- whether a snapshot's row is of a bookmark's dataset and has its number
abbrev pub is_own_row : marks.Bookmark → rows.Snapshot → Bool
is_own_row row other = other.number == row.number && bytes_eq (dataset_of 64 other.name) (dataset_of 35 row.name)

-- a snapshot of the pool has this guid, and another one stands before it
pub record IsBehind (pool : Pool) (own : Snapshot) (guid : ℕ) (snapshot : Snapshot) : Type 0 where
  pub there : Contains pool.snapshots snapshot
  pub guid_is : snapshot.guid ≡ guid
  pub later : StandsBeforeSnapshot pool (OfSnapshot own) snapshot

-- and no other one is so
pub record IsOnlyBehind (pool : Pool) (own : Snapshot) (guid : ℕ) (snapshot : Snapshot) : Type 0 where
  pub behind : IsBehind pool own guid snapshot
  pub alone : (other : Snapshot) → IsBehind pool own guid other → other ≡ snapshot

-- a set is that of the row which stands where a snapshot does
pub record IsSetOf (all : List rows.Snapshot) (snapshots : List Snapshot) (set : ObjSet) (snapshot : Snapshot) : Type 0 where
  pub row : rows.Snapshot
  pub alike : StandAlike all snapshots row snapshot
  pub is_set : row.objects ≡ set

-- so is each of some sets, one for each of some snapshots
abbrev pub AreSetsOf : List rows.Snapshot → List Snapshot → List ObjSet → List Snapshot → Type 0
AreSetsOf all snapshots sets redactions = AllZip (IsSetOf all snapshots) sets redactions

-- whatever the pool is, a set is that of a snapshot's row
pub record IsSetOfRow (all : List rows.Snapshot) (set : ObjSet) : Type 0 where
  pub row : rows.Snapshot
  pub listed : Contains all row
  pub is_set : row.objects ≡ set

-- snapshots for which another one was redacted
abbrev pub Redactions : Type 0
Redactions = List Snapshot

-- part 4 of soundness holds of a bookmark
abbrev pub IsListed : Pool → Bookmark → Type 0
IsListed pool bookmark =
    (own : Snapshot) (redactions : List Snapshot) → 0 < length bookmark.redact → Contains pool.snapshots own → IsOwn (OfBookmark bookmark) own
    → AreRedactions pool own bookmark.redact redactions → Lists bookmark own redactions

-- a bookmark of one name doesn't list what these redaction snapshots leave of a snapshot of another name: at this pair
pub record DiffersFrom (bookmark : Bookmark) (own : Snapshot) (redactions : List Snapshot) (earlier later : List ℕ) (object block : ℕ) : Type 0 where
  pub named : bookmark.name ≡ earlier
  pub own_named : own.name ≡ later
  pub differs : has_pair bookmark.runs object block ≢ red_set own.objects.state own.number (objects_of redactions) object block
