-- What a cut leaves, and how a resumed send completes it.
use Rattle.std.specs.Prelude.{◌≡◌, ◌<◌, ◌≤◌, ◌⊎◌, List, ◌++◌, Ok}
use Rattle.zst_model.specs.declared.sends.header.Point.{Point}
use Rattle.zst_model.specs.declared.states.item.Item.{Item}
use Rattle.zst_model.specs.states.State.{State}
use Rattle.zst_model.specs.sends.View.{View, IsView}
use Rattle.zst_model.specs.sends.Items.{items, origin}
use Rattle.zst_model.specs.states.AppliedItems.{apply_all}
use Rattle.zst_model.specs.sends.Points.{point_of}
use Rattle.zst_model.specs.sends.Target.{target}
use Rattle.zst_model.specs.sends.CutReceives.{StandsFor}

-- the items from a point on make the target of each state that stands for that point
abbrev pub ResumeIsExact : Type 0
ResumeIsExact =
    (view : View) (base : State) (point : Point) (x : State)
    → IsView view → StandsFor view base point x
    → apply_all (items view point) x ≡ target view base

-- where the send can be applied at all, the base stands for the start
abbrev pub StartStands : Type 0
StartStands = (view : View) (base whole : State) → IsView view → target view base ≡ Ok whole → StandsFor view base origin base

-- cut after any of its items, a send from a point leaves what stands for the point that it came to
abbrev pub CutStands : Type 0
CutStands =
    (view : View) (base : State) (point : Point) (x : State) (done rest : List Item) (y : State)
    → IsView view → StandsFor view base point x → done ++ rest ≡ items view point → apply_all done x ≡ Ok y
    → StandsFor view base (point_of point done) y

-- a point that is another one or stands after it: by object, and then by offset
abbrev pub IsAtOrAfter : (point later : Point) → Type 0
IsAtOrAfter point later = (point.object < later.object) ⊎ ((point.object ≡ later.object) × (point.offset ≤ later.offset))

-- the items of a send from a point never lead back
abbrev pub PointsRise : Type 0
PointsRise = (view : View) (point : Point) (done rest : List Item) → IsView view → done ++ rest ≡ items view point → IsAtOrAfter point (point_of point done)
