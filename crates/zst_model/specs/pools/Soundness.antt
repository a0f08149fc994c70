-- Which pools are sound: what a later state hasn't dated since is as it was in each snapshot before it.
use Rattle.std.specs.Prelude.{ℕ, ◌<◌, ◌≤◌, ◌≡◌, true, All, AllPairs, Contains}
use Rattle.zst_model.specs.states.State.{attr_at, content_at, is_number, index_bound}
use Rattle.zst_model.specs.states.DatedState.{DatedState}
use Rattle.zst_model.specs.pools.Pool.{Pool, Snapshot, Bookmark, HasDataset, dataset_of_snapshot, dataset_of_bookmark}
use Rattle.zst_model.specs.pools.Ancestry.{IsOrigin, OfSnapshot, IsBefore}
use Rattle.zst_model.specs.pools.Rows.{Row, rows}

-- each number and index that the later state dates at or below the snapshot's number has in the snapshot the same content and the same date
pub record Agrees (earlier : Snapshot) (later : DatedState) : Type 0 where
  pub numbers : (k : ℕ) → is_number k ≡ true → later.number_date k ≤ earlier.number → attr_at (earlier.objects.state k) ≡ attr_at (later.state k)
  pub number_dates : (k : ℕ) → is_number k ≡ true → later.number_date k ≤ earlier.number → earlier.objects.number_date k ≡ later.number_date k
  pub indices : (k i : ℕ) → is_number k ≡ true → i < index_bound → later.index_date k i ≤ earlier.number → content_at (earlier.objects.state k) i ≡ content_at (later.state k) i
  pub index_dates : (k i : ℕ) → is_number k ≡ true → i < index_bound → later.index_date k i ≤ earlier.number → earlier.objects.index_date k i ≡ later.index_date k i

-- part 1: each snapshot agrees with each row that it stands before
abbrev pub Agree : Pool → Type 0
Agree pool = (earlier : Snapshot) (later : Row) → Contains pool.snapshots earlier → Contains (rows pool) later → IsBefore pool (OfSnapshot earlier) later.place → Agrees earlier later.objects

-- no date of the state exceeds the number
pub record DatedUpTo (number : ℕ) (state : DatedState) : Type 0 where
  pub numbers : (k : ℕ) → state.number_date k ≤ number
  pub indices : (k i : ℕ) → state.index_date k i ≤ number

-- part 2: each row is dated up to its number, no snapshot's number exceeds the pool's, and the snapshots of a dataset rise in number above its origin
pub record Dated (pool : Pool) : Type 0 where
  pub states : All (λ row. DatedUpTo row.number row.objects) (rows pool)
  pub numbers : All (λ snapshot. snapshot.number ≤ pool.number) pool.snapshots
  pub rise : AllPairs (λ a b. dataset_of_snapshot a ≡ dataset_of_snapshot b → a.number < b.number) pool.snapshots
  pub above : (origin later : Snapshot) → Contains pool.snapshots later → IsOrigin pool origin (dataset_of_snapshot later) → origin.number < later.number

-- a bookmark is of a dataset that is there, is numbered above its origin and not above the pool, and has the guid of the snapshot with its number where that still stands
pub record IsBookmarkOf (pool : Pool) (bookmark : Bookmark) : Type 0 where
  pub dataset : HasDataset pool (dataset_of_bookmark bookmark)
  pub above : (origin : Snapshot) → IsOrigin pool origin (dataset_of_bookmark bookmark) → origin.number < bookmark.number
  pub number : bookmark.number ≤ pool.number
  pub guid : (snapshot : Snapshot) → Contains pool.snapshots snapshot → dataset_of_snapshot snapshot ≡ dataset_of_bookmark bookmark → snapshot.number ≡ bookmark.number → bookmark.guid ≡ snapshot.guid

-- A sound pool, by three of its four parts, which each event keeps. Part 4, on what redaction bookmarks list, is AreListed of zst_laws, beside
-- what sources remember: it stays so only as long as no two snapshots have one guid.
pub record Sound (pool : Pool) : Type 0 where
  pub agree : Agree pool
  pub dated : Dated pool
  pub bookmarks : All (IsBookmarkOf pool) pool.bookmarks
