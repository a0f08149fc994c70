-- A receive that is cut and resumed, any number of times.
use Rattle.std.specs.Prelude.{◌≡◌, ℕ, List, [], ◌∷◌, ◌++◌, Some, Ok}
use Rattle.zst_model.specs.declared.sends.header.Header.{Header}
use Rattle.zst_model.specs.declared.sends.header.Point.{Point}
use Rattle.zst_model.specs.declared.states.item.Item.{Item}
use Rattle.zst_model.specs.states.State.{State, IsState, no_objects}
use Rattle.zst_model.specs.states.DatedState.{DatedState}
use Rattle.zst_model.specs.sends.Inclusion.{Pairs}
use Rattle.zst_model.specs.sends.View.{View, IsView, view_of}
use Rattle.zst_model.specs.sends.Items.{items, origin}
use Rattle.zst_model.specs.states.AppliedItems.{apply_all}
use Rattle.zst_model.specs.sends.Points.{point_of}
use Rattle.zst_model.specs.sends.Target.{target, redacted, CanRedact}
use Rattle.zst_model.specs.sends.CutReceives.{StandsFor}
use Rattle.zst_laws.specs.ExactSends.{full}
use Rattle.zst_laws.specs.Commits.{Commit, apply_commits, AreLater}

-- A receive in sessions, from a point and a state to a whole: each one but the last is cut after some first items of what is left, and
-- the next one goes on from the point that it came to; the last one has all that is left.
abbrev pub Receives : View → Point → State → List (List Item) → State → Type 0
Receives view point x [] whole = apply_all (items view point) x ≡ Ok whole
Receives view point x (done ∷ later) whole =
    (rest : List Item) × (y : State) × (done ++ rest ≡ items view point) × (apply_all done x ≡ Ok y)
    × Receives view (point_of point done) y later whole

-- wherever it is cut, a receive that has come to its end has the target
abbrev pub CutsAreExact : Type 0
CutsAreExact =
    (view : View) (base : State) (point : Point) (x : State) (cuts : List (List Item)) (whole : State)
    → IsView view → StandsFor view base point x → Receives view point x cuts whole → target view base ≡ Ok whole

-- what a cut receive has can always be completed
abbrev pub CutsComplete : Type 0
CutsComplete =
    (view : View) (base : State) (point : Point) (x : State) → IsView view → StandsFor view base point x
    → (whole : State) × Receives view point x [] whole

-- a full stream, received from nothing in any sessions, is exactly its snapshot, with the listed pairs redacted and no other changed
abbrev pub FullCutsAreExact : Type 0
FullCutsAreExact =
    (header : Header) (snap : DatedState) (redact : Pairs) (cuts : List (List Item)) (whole : State)
    → IsState snap.state → CanRedact snap.state redact
    → Receives (view_of header snap (full redact)) origin no_objects cuts whole → whole ≡ redacted snap.state redact

-- the increment from a snapshot, received over it in any sessions, is exactly what the commits after it left, with the listed pairs redacted
-- and no other changed
abbrev pub IncrementCutsAreExact : Type 0
IncrementCutsAreExact =
    (header : Header) (snap after : DatedState) (number : ℕ) (commits : List Commit) (source redact : Pairs) (cuts : List (List Item)) (whole : State)
    → IsState snap.state → AreLater number commits snap → apply_commits commits snap ≡ Ok after → CanRedact after.state redact
    → Receives (view_of header after (record { from = Some number; source = source; redact = redact })) origin snap.state cuts whole
    → whole ≡ redacted after.state redact
