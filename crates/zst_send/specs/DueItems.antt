-- What comes next in a stream, as the code keeps it, and the items that it is.
use Rattle.std.specs.Prelude.{◌≡◌, ℕ, ◌+◌, ◌*◌, ◌^◌, ◌<◌, ◌≤◌, ◌==◌, ◌&&◌, Bool, true, false, pred, if◌then◌else◌, List, [], ◌∷◌, ◌++◌, length, map, take, Option, Some, None, IfSome}
use Rattle.zst_block.specs.declared.ptr.Ptr.{Ptr}
use Rattle.zst_dnode.specs.Dnode.{DnodeFits}
use Rattle.zst_dnode.specs.declared.dnode.Dnode.{Dnode}
use Rattle.zst_model.specs.declared.states.attr.ObjectHead.{ObjectHead}
use Rattle.zst_model.specs.declared.states.cell.Cell.{Cell}
use Rattle.zst_model.specs.declared.states.cell.Cell.TheVariants as cells
use Rattle.zst_model.specs.declared.states.item.Change.TheVariants as changes
use Rattle.zst_model.specs.declared.states.item.Item.{Item}
use Rattle.zst_model.specs.declared.states.item.Item.TheVariants.{At, FreeObjects}
use Rattle.zst_model.specs.sends.Items.{spill_change}
use Rattle.zst_model.specs.states.State.{is_spill_size}
use Rattle.zst_objset.specs.Dnodes.{SpillIs}
use Rattle.zst_traverse.specs.declared.walk_entry.WalkEntry.{WalkEntry}
use Rattle.zst_traverse.specs.declared.walk_entry.WalkEntry.TheVariants as found
use Rattle.zst_tree.specs.Indices.{Blocks}
use Rattle.zst_send.specs.declared.due_items.DueItems.{DueItems}
use Rattle.zst_send.specs.declared.due_items.DueItems.TheVariants.{Absent, Object, Spill, Tail, Holes, Redacted, Block}

-- ---- what the walk found, as it is due

-- so many indices of an object that are alike
abbrev pub due_pairs : ℕ → ℕ → ℕ → ℕ → ℕ → Cell → Ptr → DueItems
due_pairs k first count type size cells.Hole ptr = Holes k (first * size) (count * size)
due_pairs k first count type size cells.Redacted ptr = Redacted k (first * size) (count * size)
due_pairs k first count type size cells.Data ptr = Block k type (first * size) ptr

-- what is found is due, where the point's object has this type and blocks of this size
abbrev pub due_of : WalkEntry → ℕ → ℕ → DueItems
due_of (found.Object number dnode) type size = Object number dnode
due_of (found.Gone first count) type size = Absent first count
due_of (found.Pairs k first count what ptr) type size = due_pairs k first count type size what ptr

-- what is due behind the OBJECT of an object: its SPILL, where it has one, and the FREE of its tail
abbrev pub opened : ℕ → Dnode → DueItems
opened k dnode = if dnode.spill.kind == 0 then Tail k (dnode.end * dnode.block_size) else Spill k dnode.spill (dnode.end * dnode.block_size)

-- what is due once the first record was put
abbrev pub behind : DueItems → Option DueItems
behind (Absent first count) = None
behind (Object k dnode) = Some (opened k dnode)
behind (Spill k ptr tail) = Some (Tail k tail)
behind (Tail k offset) = None
behind (Holes k offset length) = None
behind (Redacted k offset length) = None
behind (Block k type offset ptr) = None

-- ---- runs

-- what is found next may lengthen it
abbrev pub is_run : DueItems → Bool
is_run (Absent first count) = true
is_run (Object k dnode) = false
is_run (Spill k ptr tail) = false
is_run (Tail k offset) = false
is_run (Holes k offset length) = true
is_run (Redacted k offset length) = true
is_run (Block k type offset ptr) = false

-- the count of its numbers or of its bytes
abbrev pub size_of_run : DueItems → ℕ
size_of_run (Absent first count) = count
size_of_run (Object k dnode) = 0
size_of_run (Spill k ptr tail) = 0
size_of_run (Tail k offset) = 0
size_of_run (Holes k offset length) = length
size_of_run (Redacted k offset length) = length
size_of_run (Block k type offset ptr) = 0

-- a run and what is found next, as one run, where they are of one kind and touch
abbrev pub joined_due : DueItems → Option DueItems → Option DueItems
joined_due (Absent first count) (Some (Absent next more)) = if first + count == next then Some (Absent first (count + more)) else None
joined_due (Holes k offset length) (Some (Holes j next more)) = if k == j && offset + length == next then Some (Holes k offset (length + more)) else None
joined_due (Redacted k offset length) (Some (Redacted j next more)) = if k == j && offset + length == next then Some (Redacted k offset (length + more)) else None
joined_due _ _ = None

-- ---- the items that are due

-- the bytes of the largest block, and of the largest spill block
abbrev pub longest_payload : ℕ
longest_payload = 131072

-- the type, the bonus type and the block size that a dnode has
abbrev pub head_in : Dnode → ObjectHead
head_in dnode = record { type_ = dnode.type_; bonus_type = dnode.bonus_type; block_size = dnode.block_size }

-- the first of them
abbrev pub IsFirst : Blocks → DueItems → Item → Type 0
IsFirst has (Absent first count) item = item ≡ FreeObjects first count
IsFirst has (Object k dnode) item = item ≡ At k (changes.Put (head_in dnode) (take dnode.bonus_len dnode.bonus) false (pred dnode.end))
IsFirst has (Spill k ptr tail) item = (bytes : List ℕ) × has ptr bytes × (length bytes ≤ longest_payload) × (item ≡ At k (changes.Spill bytes))
IsFirst has (Tail k offset) item = item ≡ At k (changes.FreeFrom offset)
IsFirst has (Holes k offset length) item = item ≡ At k (changes.Free offset length)
IsFirst has (Redacted k offset length) item = item ≡ At k (changes.Redact offset length)
IsFirst has (Block k type offset ptr) item = (bytes : List ℕ) × has ptr bytes × (length bytes ≤ longest_payload) × (item ≡ At k (changes.Write offset type bytes))

-- those behind it: only an object's opening has more than one
abbrev pub AreBehind : Blocks → DueItems → List Item → Type 0
AreBehind has (Absent first count) items = items ≡ []
AreBehind has (Object k dnode) items =
    (spill : Option (List ℕ)) × SpillIs has dnode.spill spill × IfSome spill (λ bytes. length bytes ≤ longest_payload) × (items ≡ map (At k) (spill_change spill ++ (changes.FreeFrom (dnode.end * dnode.block_size) ∷ [])))
AreBehind has (Spill k ptr tail) items = items ≡ At k (changes.FreeFrom tail) ∷ []
AreBehind has (Tail k offset) items = items ≡ []
AreBehind has (Holes k offset length) items = items ≡ []
AreBehind has (Redacted k offset length) items = items ≡ []
AreBehind has (Block k type offset ptr) items = items ≡ []

-- the items that are due, over the blocks that are there
pub record AreDue (has : Blocks) (due : DueItems) (items : List Item) : Type 0 where
  pub first : Item
  pub later : List Item
  pub are : items ≡ first ∷ later
  pub is_first : IsFirst has due first
  pub are_behind : AreBehind has due later

-- those of what is held, where something is
abbrev pub AreHeld : Blocks → Option DueItems → List Item → Type 0
AreHeld has None items = items ≡ []
AreHeld has (Some due) items = AreDue has due items

-- ---- ranges, whatever the image

-- what is due is in its range
abbrev pub DueFits : DueItems → Type 0
DueFits (Absent first count) = (0 < count) × (first + count ≤ 2 ^ 48)
DueFits (Object k dnode) = DnodeFits dnode
DueFits (Spill k ptr tail) = (ptr.kind ≡ 1) × (is_spill_size ptr.length ≡ true)
DueFits (Tail k offset) = Unit {0}
DueFits (Holes k offset length) = (0 < length) × (offset + length ≤ 2 ^ 60)
DueFits (Redacted k offset length) = (0 < length) × (offset + length ≤ 2 ^ 60)
DueFits (Block k type offset ptr) = Unit {0}

-- the block that its first record has
abbrev pub block_of : DueItems → Option Ptr
block_of (Absent first count) = None
block_of (Object k dnode) = None
block_of (Spill k ptr tail) = Some ptr
block_of (Tail k offset) = None
block_of (Holes k offset length) = None
block_of (Redacted k offset length) = None
block_of (Block k type offset ptr) = Some ptr
