-- What stands before what in a pool with a clone of a clone.
use Rattle.std.specs.Prelude.{ℕ, true, List, [], ◌∷◌, Option, Some, None, All, codes}
use Rattle.zst_model.specs.declared.sends.header.Header.{Header}
use Rattle.zst_model.specs.pools.Pool.{Pool, Dataset, Snapshot, Bookmark, Partial, untouched}
use Rattle.zst_model.specs.pools.Rows.{snapshot_row}
use Rattle.zst_model.specs.pools.Ancestry.{IsMadeOf, Source, OfSnapshot, OfBookmark, Place, InDataset, InPartial, IsBefore}

-- two snapshots of `tank/a`, which the commits 3 and 5 made, and one of `tank/b`, which commit 8 made
abbrev pub first : Snapshot
first = record { name = codes "tank/a@s"; guid = 4294967297; time = 0; number = 3; objects = untouched; redact = [] }

abbrev pub second : Snapshot
second = record { name = codes "tank/a@t"; guid = 4294967298; time = 0; number = 5; objects = untouched; redact = [] }

abbrev pub inner : Snapshot
inner = record { name = codes "tank/b@u"; guid = 4294967299; time = 0; number = 8; objects = untouched; redact = [] }

-- a file system with this origin
abbrev pub dataset : List ℕ → Option (List ℕ) → Dataset
dataset name origin = record { name = name; kind = 2; origin = origin; head = untouched; redact = [] }

-- a bookmark of this snapshot
abbrev pub bookmark : List ℕ → Snapshot → Bookmark
bookmark name snapshot = record { name = name; guid = snapshot.guid; time = snapshot.time; number = snapshot.number; redact = []; runs = [] }

abbrev pub of_first : Bookmark
of_first = bookmark (codes "tank/a#s") first

abbrev pub of_second : Bookmark
of_second = bookmark (codes "tank/a#t") second

-- the header of an increment from the snapshot of `tank/b`
abbrev pub header : Header
header = record { kind = 2; flags = 0; features = 0; time = 0; to = 4294967300; from = inner.guid; name = codes "tank/b@v"; resume = None; redact = []; from_redact = [] }

-- what a receive of it has so far for `tank/d`, which isn't there
abbrev pub receiving : Partial
receiving = record { target = codes "tank/d"; component = codes "v"; keep = true; header = header; base = Some inner.name; objects = untouched; point = record { object = 0; offset = 0 } }

-- `tank/b` is a clone of the first snapshot of `tank/a`, and `tank/c` of the snapshot of `tank/b`
abbrev pub clones : Pool
clones = record {
  id = 1;
  number = 9;
  guids = 3;
  datasets = dataset (codes "tank/a") None ∷ dataset (codes "tank/b") (Some first.name) ∷ dataset (codes "tank/c") (Some inner.name) ∷ [];
  snapshots = first ∷ second ∷ inner ∷ [];
  bookmarks = of_first ∷ of_second ∷ [];
  partials = receiving ∷ [];
}

-- the places of its states: the snapshots, the heads, and what is received
abbrev pub at_first : Place
at_first = (snapshot_row first).place

abbrev pub at_second : Place
at_second = (snapshot_row second).place

abbrev pub at_inner : Place
at_inner = (snapshot_row inner).place

abbrev pub at_head : List ℕ → Place
at_head name = InDataset name None

abbrev pub at_received : Place
at_received = InPartial receiving

-- a source stands before each of these places, and before none of those
pub record Stands (source : Source) (these those : List Place) : Type 0 where
  pub before : All (IsBefore clones source) these
  pub not_before : All (λ place. IsBefore clones source place → ⊥) those

-- what came of the clone of the first snapshot
abbrev pub of_clone : List Place
of_clone = at_inner ∷ at_head (codes "tank/b") ∷ at_head (codes "tank/c") ∷ at_received ∷ []

-- the first snapshot and its bookmark stand before all but the snapshot itself, through both clones
abbrev pub FirstStands : Source → Type 0
FirstStands source = Stands source (at_second ∷ at_head (codes "tank/a") ∷ of_clone) (at_first ∷ [])

-- the second snapshot and its bookmark stand before their dataset's head, and before nothing of the clone
abbrev pub SecondStands : Source → Type 0
SecondStands source = Stands source (at_head (codes "tank/a") ∷ []) (at_first ∷ at_second ∷ of_clone)

-- the clone's snapshot stands before its head, its own clone and what is received from it, and before nothing of its origin's dataset
abbrev pub InnerStands : Source → Type 0
InnerStands source = Stands source (at_head (codes "tank/b") ∷ at_head (codes "tank/c") ∷ at_received ∷ []) (at_first ∷ at_second ∷ at_head (codes "tank/a") ∷ at_inner ∷ [])

-- what stands before what, of all the sources and places of the pool
abbrev pub ClonesStand : Type 0
ClonesStand =
    FirstStands (OfSnapshot first) × FirstStands (OfBookmark of_first)
    × SecondStands (OfSnapshot second) × SecondStands (OfBookmark of_second)
    × InnerStands (OfSnapshot inner)

-- a bookmark is made of the snapshot whose dataset, guid and number it has, and of none that differs in one of them
abbrev pub MadeOfOne : Type 0
MadeOfOne =
    IsMadeOf of_first first
    × (IsMadeOf of_first second → ⊥)
    × (IsMadeOf (record of_first { guid = second.guid }) first → ⊥)
    × (IsMadeOf (record of_first { number = second.number }) first → ⊥)
    × (IsMadeOf (record of_first { name = codes "tank/b#s" }) first → ⊥)
