-- What the indices of an object have: contents and dates, by a tree and the size of a block.
use Rattle.std.specs.Prelude.{◌≡◌, ℕ, ◌^◌, ◌<◌, ◌≤◌, length, Option, None, Some}
use Rattle.zst_block.specs.Ptr.{hole_of}
use Rattle.zst_block.specs.declared.ptr.Ptr.{Ptr}
use Rattle.zst_dnode.specs.declared.dnode.Dnode.{Dnode}
use Rattle.zst_dnode.specs.declared.slot.Slot.{Slot}
use Rattle.zst_dnode.specs.declared.slot.Slot.TheVariants.{Absent, There}
use Rattle.zst_objset.specs.Dnodes.{tree_of}
use Rattle.zst_model.specs.states.State.{Content, Empty, BytesOf, RedactedOf, index_bound}
use Rattle.zst_tree.specs.Indices.{Blocks, Map, TreeIs}
use Rattle.zst_compare.specs.Agreement.{IsKept, IsOther}
use Rattle.zst_compare.specs.declared.trees.Indices.{Indices}

-- the indices of an object
abbrev pub indices_in : Dnode → Indices
indices_in dnode = record { tree = tree_of dnode; size = dnode.block_size }

-- those of the number of a slot: of an absent one they are holes of its date
abbrev pub indices_at : Slot → Indices
indices_at (Absent date) = record { tree = record { levels = 0; past = date; root = hole_of date }; size = 0 }
indices_at (There dnode) = indices_in dnode

-- two maps have the same leaves from one index on and below another, of those below 2^44
pub record Alike (one other : Map) (from below : ℕ) : Type 0 where
  pub same : (index : ℕ) → from ≤ index → index < below → index < 2 ^ 44 → one index ≡ other index

-- a pointer stands for this content of an object with blocks of this size
abbrev pub ContentIs : Blocks → ℕ → Ptr → Content → Type 0
ContentIs has size ptr Empty = ptr.kind ≡ 0
ContentIs has size ptr (BytesOf bytes) = (ptr.kind ≡ 1) × has ptr bytes × (length bytes ≡ size)
ContentIs has size ptr (RedactedOf bytes) = (ptr.kind ≡ 2) × (bytes ≡ size)

-- the tree has these contents with these dates
pub record HasContents (has : Blocks) (indices : Indices) (contents : ℕ → Content) (dates : ℕ → ℕ) : Type 0 where
  pub map : Map
  pub tree : TreeIs has indices.tree map
  pub contents_are : (i : ℕ) → i < index_bound → ContentIs has indices.size (map i) (contents i)
  pub dates_are : (i : ℕ) → i < index_bound → (map i).number ≡ dates i

module _ (number : ℕ) (was : ℕ → Content) (was_dates : ℕ → ℕ) (now : ℕ → Content) (now_dates : ℕ → ℕ) where
  -- the indices from one on and below another are kept
  abbrev pub AreKept : ℕ → ℕ → Type 0
  AreKept from below = (i : ℕ) → from ≤ i → i < below → i < index_bound → IsKept number (was i) (was_dates i) (now i) (now_dates i)

  -- what comes of comparing one index, and those behind it that have the same pointers: they are kept below another, or this one isn't
  abbrev pub ComparesRun : ℕ → Option ℕ → Type 0
  ComparesRun index None = (index < index_bound) × IsOther number (was index) (was_dates index) (now index) (now_dates index)
  ComparesRun index (Some below) = AreKept index below

  -- what comes of comparing all
  abbrev pub ComparesAll : Option ℕ → Type 0
  ComparesAll None = AreKept 0 index_bound
  ComparesAll (Some index) = (index < index_bound) × IsOther number (was index) (was_dates index) (now index) (now_dates index)
