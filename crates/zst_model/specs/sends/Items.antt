-- The items of a view, from a point on.
use Rattle.std.specs.Prelude.{ℕ, zero, suc, pred, ◌+◌, ◌*◌, false, List, [], ◌∷◌, ◌++◌, map, flat_map, Option, Some, None, option_map, if◌then◌else◌, nat_lt, nat_le, ◌==◌}
use Rattle.zst_model.specs.declared.states.attr.Attr.{Attr}
use Rattle.zst_model.specs.declared.states.attr.ObjectHead.{ObjectHead}
use Rattle.zst_model.specs.declared.sends.header.Point.{Point}
use Rattle.zst_model.specs.declared.states.item.Change.{Change}
use Rattle.zst_model.specs.declared.states.item.Change.TheVariants.{Put, Spill, FreeFrom, Free, Redact, Write}
use Rattle.zst_model.specs.declared.states.item.Item.{Item}
use Rattle.zst_model.specs.declared.states.item.Item.TheVariants.{FreeObjects, At}
use Rattle.zst_model.specs.states.State.{Block, Hole, Redacted, Data, number_bound}
use Rattle.zst_model.specs.sends.View.{ObjectView, Shown, Left, Gone, There, View}

-- `count` numbers from the first on, rising
unfoldable pub rising : ℕ → ℕ → List ℕ
rising first zero = []
rising first (suc count) = first ∷ rising (suc first) count

-- the change that gives the block of one index: WRITE for data, FREE for a hole, REDACT for a redacted block, and none where it isn't included
abbrev pub block_change : Attr → ℕ → Option Block → List Change
block_change attr i None = []
block_change attr i (Some Hole) = Free (i * attr.block_size) attr.block_size ∷ []
block_change attr i (Some Redacted) = Redact (i * attr.block_size) attr.block_size ∷ []
block_change attr i (Some (Data bytes)) = Write (i * attr.block_size) attr.type_ bytes ∷ []

-- an index has its change where its place is at or past the offset
abbrev pub change_at : ObjectView → ℕ → ℕ → List Change
change_at object offset i =
    if nat_le offset (i * object.attr.block_size)
    then block_change object.attr i (object.blocks i)
    else []

-- the changes of the included indices from an offset on, by rising index
abbrev pub block_changes : ObjectView → ℕ → List Change
block_changes object offset = flat_map (change_at object offset) (rising 0 object.end)

-- the object's type, bonus type and block size
abbrev pub head_of : Attr → ObjectHead
head_of attr = record { type_ = attr.type_; bonus_type = attr.bonus_type; block_size = attr.block_size }

-- OBJECT: no spill stays, and the greatest index is stated
abbrev pub put_change : ObjectView → Change
put_change object = Put (head_of object.attr) object.attr.bonus false (pred object.end)

-- SPILL where there is one
abbrev pub spill_change : Option (List ℕ) → List Change
spill_change None = []
spill_change (Some bytes) = Spill bytes ∷ []

-- the FREE of all that stands past the end
abbrev pub tail_change : ObjectView → Change
tail_change object = FreeFrom (object.end * object.attr.block_size)

-- OBJECT, SPILL and the tail FREE, which are sent again where a stream is resumed in the object
abbrev pub opening : ObjectView → List Change
opening object = put_change object ∷ (spill_change object.attr.spill ++ (tail_change object ∷ []))

-- the items of one number, with its blocks from the offset on
abbrev pub number_items : ℕ → ℕ → Shown → List Item
number_items k offset Left = []
number_items k offset Gone = FreeObjects k 1 ∷ []
number_items k offset (There object) = map (At k) (opening object ++ block_changes object offset)

-- the numbers before the point's have no items, and the point's own has its blocks from the point's offset on
abbrev pub items_at : View → Point → ℕ → List Item
items_at view point k =
    if nat_lt k point.object
    then []
    else number_items k (if k == point.object then point.offset else 0) (view.shown k)

-- one item for each absent number and each included index, by rising number and index
unfoldable pub single_items : View → Point → List Item
single_items view point = flat_map (items_at view point) (rising 1 (pred number_bound))

-- two changes of one kind whose ranges touch, as one
abbrev pub join_changes : Change → Change → Option Change
join_changes (Free o m) (Free p n) = if o + m == p then Some (Free o (m + n)) else None
join_changes (Redact o m) (Redact p n) = if o + m == p then Some (Redact o (m + n)) else None
join_changes _ _ = None

-- two items of one kind whose ranges touch, as one
abbrev pub join : Item → Item → Option Item
join (FreeObjects first m) (FreeObjects next n) = if first + m == next then Some (FreeObjects first (m + n)) else None
join (At k c) (At j d) = if k == j then option_map (At k) (join_changes c d) else None
join _ _ = None

-- the item in front of the list, or what it and the first of the list are together
abbrev pub before_item : Item → Option Item → Item → List Item → List Item
before_item x (Some both) y ys = both ∷ ys
before_item x None y ys = x ∷ y ∷ ys

-- the item in front of the list, joined with the first where they touch
abbrev pub before : Item → List Item → List Item
before x [] = x ∷ []
before x (y ∷ ys) = before_item x (join x y) y ys

-- the list with all neighbours joined that touch
abbrev pub joined : List Item → List Item
joined [] = []
joined (x ∷ xs) = before x (joined xs)

-- the items of a view from a point on: each run is as long as it can be
abbrev pub items : View → Point → List Item
items view point = joined (single_items view point)

-- the point at which a stream that isn't resumed begins
abbrev pub origin : Point
origin = record { object = 0; offset = 0 }
