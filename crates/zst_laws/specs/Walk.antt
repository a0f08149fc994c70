-- What a walk over a view has left, and how it goes on.
use Rattle.std.specs.Prelude.{◌≡◌, ℕ, ◌+◌, ◌*◌, ◌<◌, ◌≤◌, Bool, true, false, List, [], ◌∷◌, ◌++◌, flat_map, map, pred, Some, None, if◌then◌else◌, nat_lt, ◌==◌}
use Rattle.zst_model.specs.declared.states.attr.Attr.{Attr}
use Rattle.zst_model.specs.declared.sends.header.Point.{Point}
use Rattle.zst_model.specs.declared.states.item.Change.TheVariants.{Free, Redact, Write}
use Rattle.zst_model.specs.declared.states.item.Change.{Change}
use Rattle.zst_model.specs.declared.states.item.Item.{Item}
use Rattle.zst_model.specs.declared.states.item.Item.TheVariants.{At, FreeObjects}
use Rattle.zst_model.specs.states.State.{Block, Hole, Redacted, Data, is_number, number_bound}
use Rattle.zst_model.specs.sends.View.{View, ObjectView, Shown, Left, Gone, There}
use Rattle.zst_model.specs.sends.Items.{joined, single_items, rising, number_items, block_changes, block_change, opening}

-- what is left of the point's own number once its opening was given
abbrev pub number_rest : ℕ → ℕ → Shown → List Item
number_rest k offset Left = []
number_rest k offset Gone = []
number_rest k offset (There object) = map (At k) (block_changes object offset)

-- what is left of a number: none of it below the point's, and the point's own with its slot, or without it
abbrev pub left_at : View → Point → Bool → ℕ → List Item
left_at view point slot k =
    if nat_lt k point.object
    then []
    else (if k == point.object
    then (if slot then number_items k point.offset (view.shown k) else number_rest k point.offset (view.shown k))
    else number_items k 0 (view.shown k))

-- the single items that are left at or after a point, with the slot of the point's own number or without it
unfoldable pub walk_left : View → Point → Bool → List Item
walk_left view point slot = flat_map (left_at view point slot) (rising 1 (pred number_bound))

-- nothing is left below a number
abbrev pub NothingBelow : View → Point → Bool → ℕ → Type 0
NothingBelow view point slot k = (j : ℕ) → j < k → left_at view point slot j ≡ []

-- from a point with its slot a walk has the items from that point
abbrev pub WalkBegins : Type 0
WalkBegins = (view : View) (point : Point) → walk_left view point true ≡ single_items view point

-- a walk ends where nothing is left of any number
abbrev pub WalkEnds : Type 0
WalkEnds = (view : View) (point : Point) (slot : Bool) → NothingBelow view point slot number_bound → walk_left view point slot ≡ []

-- where an object is the first that is left, its opening comes next, and its blocks are left
abbrev pub ObjectIsNext : Type 0
ObjectIsNext =
    (view : View) (point : Point) (slot : Bool) (k : ℕ) (object : ObjectView)
    → is_number k ≡ true → NothingBelow view point slot k → point.object ≤ k → (slot ≡ false → point.object < k) → view.shown k ≡ There object
    → let offset = if k == point.object then point.offset else 0 in
    walk_left view point slot ≡ map (At k) (opening object) ++ walk_left view (record { object = k; offset = offset }) false

-- where an absent number is the first that is left, it comes next, and what follows it is left
abbrev pub GoneIsNext : Type 0
GoneIsNext =
    (view : View) (point : Point) (slot : Bool) (k : ℕ)
    → is_number k ≡ true → NothingBelow view point slot k → point.object ≤ k → (slot ≡ false → point.object < k) → view.shown k ≡ Gone
    → walk_left view point slot ≡ FreeObjects k 1 ∷ walk_left view (record { object = k + 1; offset = 0 }) true

-- where a block of the point's object is the first that is included, it comes next, and what follows it is left
abbrev pub BlockIsNext : Type 0
BlockIsNext =
    (view : View) (point : Point) (object : ObjectView) (i : ℕ) (block : Block)
    → is_number point.object ≡ true → view.shown point.object ≡ There object
    → 0 < object.attr.block_size → i < object.end → point.offset ≤ i * object.attr.block_size
    → ((j : ℕ) → j < i → point.offset ≤ j * object.attr.block_size → object.blocks j ≡ None) → object.blocks i ≡ Some block
    → walk_left view point false ≡ map (At point.object) (block_change object.attr i (Some block))
    ++ walk_left view (record { object = point.object; offset = (i + 1) * object.attr.block_size }) false

-- where a run of absent numbers is the first that is left, it is one item, and what follows it is left
abbrev pub GoneRunIsNext : Type 0
GoneRunIsNext =
    (view : View) (point : Point) (slot : Bool) (k count : ℕ)
    → 0 < k → 0 < count → k + count ≤ number_bound → NothingBelow view point slot k → point.object ≤ k → (slot ≡ false → point.object < k)
    → ((j : ℕ) → k ≤ j → j < k + count → view.shown j ≡ Gone)
    → joined (walk_left view point slot) ≡ joined (FreeObjects k count ∷ walk_left view (record { object = k + count; offset = 0 }) true)

-- the change that gives a run of equal blocks: of holes, of redacted blocks, or of one block of data
abbrev pub run_change : Attr → ℕ → ℕ → Block → Change
run_change attr i count Hole = Free (i * attr.block_size) (count * attr.block_size)
run_change attr i count Redacted = Redact (i * attr.block_size) (count * attr.block_size)
run_change attr i count (Data bytes) = Write (i * attr.block_size) attr.type_ bytes

-- where a run of holes, of redacted blocks, or of one block of data is the first that is included, it is one item, and what follows it is left
abbrev pub BlockRunIsNext : Type 0
BlockRunIsNext =
    (view : View) (point : Point) (object : ObjectView) (i count : ℕ) (block : Block)
    → is_number point.object ≡ true → view.shown point.object ≡ There object
    → 0 < object.attr.block_size → 0 < count → i + count ≤ object.end → point.offset ≤ i * object.attr.block_size
    → ((j : ℕ) → j < i → point.offset ≤ j * object.attr.block_size → object.blocks j ≡ None)
    → ((j : ℕ) → i ≤ j → j < i + count → object.blocks j ≡ Some block)
    → ((bytes : List ℕ) → block ≡ Data bytes → count ≡ 1)
    → joined (walk_left view point false)
    ≡ joined (At point.object (run_change object.attr i count block) ∷ walk_left view (record { object = point.object; offset = (i + count) * object.attr.block_size }) false)
