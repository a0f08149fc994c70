-- How runs are joined.
use Rattle.std.specs.Prelude.{◌≡◌, List, [], ◌∷◌, Some, None}
use Rattle.zst_model.specs.declared.sends.header.Point.{Point}
use Rattle.zst_model.specs.declared.states.item.Item.{Item}
use Rattle.zst_model.specs.sends.View.{View}
use Rattle.zst_model.specs.sends.Items.{items, join, joined}

-- no two neighbours join
abbrev pub NoneJoin : List Item → Type 0
NoneJoin [] = Unit {0}
NoneJoin (x ∷ []) = Unit {0}
NoneJoin (x ∷ y ∷ ys) = (join x y ≡ None) × NoneJoin (y ∷ ys)

-- runs of absent numbers, of holes and of redacted blocks are as long as they can be
abbrev pub RunsAreMaximal : Type 0
RunsAreMaximal = (view : View) (point : Point) → NoneJoin (items view point)

-- an item that is held back goes into the next where they touch, and otherwise stands by itself
abbrev pub HeldGoesOn : Type 0
HeldGoesOn =
    (held next : Item) (rest : List Item)
    → ((both : Item) → join held next ≡ Some both → joined (held ∷ next ∷ rest) ≡ joined (both ∷ rest))
    × (join held next ≡ None → joined (held ∷ next ∷ rest) ≡ held ∷ joined (next ∷ rest))
