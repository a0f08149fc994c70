-- Where a send's walk stands, and what is left there.
use Rattle.std.specs.Prelude.{◌≡◌, ◌+◌, ◌*◌, ◌<◌, ◌≤◌, ◌==◌, true, false, if◌then◌else◌, List, [], ◌∷◌, ◌++◌, Option, Some, None, IfSome}
use Rattle.zst_model.specs.declared.states.item.Item.{Item}
use Rattle.zst_model.specs.sends.Items.{joined}
use Rattle.zst_model.specs.sends.View.{View}
use Rattle.zst_model.specs.states.DatedState.{DatedState}
use Rattle.zst_model.specs.states.State.{Object as Plain}
use Rattle.zst_laws.specs.Walk.{walk_left}
use Rattle.zst_traverse.specs.declared.walk_entry.WalkEntry.{WalkEntry}
use Rattle.zst_traverse.specs.declared.walk_entry.WalkEntry.TheVariants.{Object, Gone, Pairs}
use Rattle.zst_tree.specs.Indices.{Blocks}
use Rattle.zst_send.specs.DueItems.{AreDue, AreHeld, DueFits, IsFirst, longest_payload}
use Rattle.zst_send.specs.declared.due_items.DueItems.{DueItems}
use Rattle.zst_send.specs.declared.walk_position.WalkPosition.{WalkPosition}
use Rattle.zst_send.specs.declared.walk.Walk.{Walk}

-- ---- moving on

-- the position behind what was found: in an object behind its opening or its run, and behind a run of numbers at the next number
abbrev pub position_after : WalkPosition → WalkEntry → WalkPosition
position_after position (Object number dnode) = record {
  point = record { object = number; offset = if number == position.point.object then position.point.offset else 0 };
  slot = false;
  type_ = dnode.type_;
  block_size = dnode.block_size;
}
position_after position (Gone first count) = record position { point = record { object = first + count; offset = 0 }; slot = true }
position_after position (Pairs k first count what ptr) = record position { point = record { object = k; offset = (first + count) * position.block_size }; slot = false }

-- ---- what a position stands for

-- a passed number is that of an object of this type, with blocks of this size
pub record IsPassed (snap : DatedState) (position : WalkPosition) : Type 0 where
  pub object : Plain
  pub there : snap.state position.point.object ≡ Some object
  pub type_is : position.type_ ≡ object.attr.type_
  pub size_is : position.block_size ≡ object.attr.block_size

-- the position is one of this state
abbrev pub IsPositionOf : DatedState → WalkPosition → Type 0
IsPositionOf snap position = position.slot ≡ false → IsPassed snap position

-- the single items that are left of a view behind a position
abbrev pub left_behind : View → WalkPosition → List Item
left_behind view position = walk_left view position.point position.slot

-- what is found at a position comes first of what is left there, and what is left behind it comes next; where nothing is found, nothing is left
abbrev pub GoesTo : Blocks → DatedState → View → WalkPosition → WalkPosition → Option DueItems → Type 0
GoesTo has snap view old new None = (left_behind view old ≡ []) × (left_behind view new ≡ []) × IsPositionOf snap new
GoesTo has snap view old new (Some due) =
    (items : List Item) × AreDue has due items × (joined (left_behind view old) ≡ joined (items ++ left_behind view new)) × IsPositionOf snap new

-- ---- what a walk stands for

-- a walk holds these items, and goes on at a position of this state
pub record IsWalk (has : Blocks) (snap : DatedState) (walk : Walk) (held : List Item) : Type 0 where
  pub held_are : AreHeld has walk.held held
  pub position_is : IsPositionOf snap walk.position

-- the items that are left of a view: those that are held, and those behind the position, each run as long as it can be
abbrev pub items_left : View → Walk → List Item → List Item
items_left view walk held = joined (held ++ left_behind view walk.position)

-- what is due comes first of the items that are left, then those behind the position; where nothing is due, none is left
abbrev pub ComesFirst : Blocks → DatedState → View → List Item → WalkPosition → Option DueItems → Type 0
ComesFirst has snap view left new None = (left ≡ []) × IsPositionOf snap new
ComesFirst has snap view left new (Some due) = (items : List Item) × AreDue has due items × (left ≡ joined (items ++ left_behind view new)) × IsPositionOf snap new

-- what comes next is the first item that is left, and where nothing comes, none is left
abbrev pub Gives : Blocks → DatedState → View → List Item → Walk → Option DueItems → Type 0
Gives has snap view left new None = (left ≡ []) × IsWalk has snap new []
Gives has snap view left new (Some due) =
    (first : Item) × (held : List Item) × IsFirst has due first × IsWalk has snap new held × (left ≡ first ∷ items_left view new held)

-- ---- ranges, whatever the image

-- the block size is one that an object may have
pub record PositionFits (position : WalkPosition) : Type 0 where
  pub some : 0 < position.block_size
  pub most : position.block_size ≤ longest_payload

-- a walk's position and what it holds are in their ranges
pub record WalkFits (walk : Walk) : Type 0 where
  pub position : PositionFits walk.position
  pub held : IfSome walk.held DueFits
