-- How far the items of a view reach.
use Rattle.std.specs.Prelude.{ℕ, ◌≡◌, ◌+◌, ◌*◌, ◌≤◌, List, [], ◌∷◌, length}
use Rattle.zst_model.specs.declared.sends.header.Header.{Header}
use Rattle.zst_model.specs.declared.sends.header.Point.{Point}
use Rattle.zst_model.specs.declared.states.item.Change.{Change}
use Rattle.zst_model.specs.declared.states.item.Change.TheVariants.{Put, Redact, Write}
use Rattle.zst_model.specs.declared.states.item.Item.{Item}
use Rattle.zst_model.specs.declared.states.item.Item.TheVariants.{FreeObjects, At}
use Rattle.zst_model.specs.sends.Inclusion.{Choice}
use Rattle.zst_model.specs.sends.Items.{items}
use Rattle.zst_model.specs.sends.View.{view_of}
use Rattle.zst_model.specs.states.DatedState.{DatedState}
use Rattle.zst_model.specs.states.State.{IsState, index_bound}

-- where an item stands: in the object of the last OBJECT before it, with the size of its blocks
pub record Place : Type 0 where
  pub object : ℕ
  pub block_size : ℕ

-- OBJECT alone leads to another
abbrev pub place_behind_change : Place → ℕ → Change → Place
place_behind_change place k (Put head bonus keep_spill max_block) = record { object = k; block_size = head.block_size }
place_behind_change place k _ = place

abbrev pub place_behind : Place → Item → Place
place_behind place (FreeObjects first count) = place
place_behind place (At k change) = place_behind_change place k change

-- a WRITE stands at an index below 2^43 of an object whose blocks are as long as its bytes; a REDACT is of the object where it stands, and ends
-- there at such an index
abbrev pub IsNearChange : Place → ℕ → Change → Type 0
IsNearChange place k (Write offset type bytes) = offset + length bytes ≤ index_bound * length bytes
IsNearChange place k (Redact offset count) = (k ≡ place.object) × (offset + count ≤ index_bound * place.block_size)
IsNearChange place k _ = Unit {0}

abbrev pub IsNear : Place → Item → Type 0
IsNear place (FreeObjects first count) = Unit {0}
IsNear place (At k change) = IsNearChange place k change

-- each of these does so behind those before it
abbrev pub AreNear : Place → List Item → Type 0
AreNear place [] = Unit {0}
AreNear place (item ∷ rest) = IsNear place item × AreNear (place_behind place item) rest

-- So do those of the view of a lawful snapshot, behind whatever stands before them.
abbrev pub ItemsAreNear : Type 0
ItemsAreNear =
    (header : Header) (snap : DatedState) (choice : Choice) (point : Point) (place : Place) → IsState snap.state → AreNear place (items (view_of header snap choice) point)
