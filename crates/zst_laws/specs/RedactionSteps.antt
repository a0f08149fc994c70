-- What commands keep of the lists of redaction bookmarks.
use Rattle.std.specs.Prelude.{◌≡◌, ℕ, ◌<◌, ◌⊎◌, List, length, Contains, Ok}
use Rattle.zst_model.specs.declared.pools.command.Command.{Command}
use Rattle.zst_model.specs.pools.Ancestry.{IsOrigin}
use Rattle.zst_model.specs.pools.Pool.{Pool, Snapshot, Bookmark, HasDataset, IsPool}
use Rattle.zst_model.specs.pools.Sessions.{Held}
use Rattle.zst_model.specs.pools.Soundness.{Sound}
use Rattle.zst_model.specs.pools.Step.{Stepped, stepped, IsCommand}
use Rattle.zst_laws.specs.RedactionLists.{AreListed, HaveNewGuids, HaveOwnGuids}

-- What redaction bookmarks list stays so through each command, and the bookmark that a redaction makes lists what its redaction snapshots leave of its
-- snapshot, as long as no two snapshots have one guid and no new one has a guid of a redaction bookmark.
abbrev pub StepsKeepLists : Type 0
StepsKeepLists =
    (held : List Held) (now : ℕ) (command : Command) (pool : Pool) (after : Stepped)
    → IsCommand command → IsPool pool → Sound pool → HaveOwnGuids pool → AreListed pool → stepped held now command pool ≡ Ok after → HaveNewGuids pool after.pool
    → AreListed after.pool

-- the snapshots of a pool and the origins of its old datasets are those of another pool, but for later snapshots
pub record OnlyAddsTo (pool after : Pool) : Type 0 where
  pub origins : (origin : Snapshot) (name : List ℕ) → HasDataset pool name → IsOrigin after origin name → IsOrigin pool origin name
  pub snapshots : (snapshot : Snapshot) → Contains after.snapshots snapshot → Contains pool.snapshots snapshot ⊎ (pool.number < snapshot.number)

-- no redaction bookmark is new
abbrev pub HasNoNewLists : Pool → Pool → Type 0
HasNoNewLists pool after = (bookmark : Bookmark) → Contains after.bookmarks bookmark → Contains pool.bookmarks bookmark ⊎ (length bookmark.redact ≡ 0)

-- what redaction bookmarks list stays so in such a pool: what a receive leaves is one
abbrev pub ListsAreKept : Type 0
ListsAreKept =
    (pool after : Pool) → IsPool pool → Sound pool → OnlyAddsTo pool after → HasNoNewLists pool after → HaveOwnGuids pool → HaveNewGuids pool after → AreListed pool → AreListed after
