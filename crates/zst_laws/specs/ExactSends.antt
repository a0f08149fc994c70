-- What a whole send gives.
use Rattle.std.specs.Prelude.{◌≡◌, ℕ, Bool, true, false, Option, Some, None, Ok}
use Rattle.zst_model.specs.declared.sends.header.Header.{Header}
use Rattle.zst_model.specs.declared.sends.header.Point.{Point}
use Rattle.zst_model.specs.states.State.{Object, State, IsState, is_hole, no_objects}
use Rattle.zst_model.specs.states.DatedState.{DatedState}
use Rattle.zst_model.specs.sends.Inclusion.{Pairs, Choice, no_pairs}
use Rattle.zst_model.specs.sends.View.{IsView, view_of}
use Rattle.zst_model.specs.sends.Items.{items}
use Rattle.zst_model.specs.sends.Target.{target, redacted, CanRedact, BaseOk}

-- over a base that is fit for it, a send gives exactly its snapshot, with the listed pairs redacted and no other changed
abbrev pub SendIsExact : Type 0
SendIsExact =
    (base : State) (header : Header) (snap : DatedState) (choice : Choice)
    → IsState base → IsState snap.state → CanRedact snap.state choice.redact → BaseOk base snap choice
    → target (view_of header snap choice) base ≡ Ok (redacted snap.state choice.redact)

-- a lawful snapshot with a lawful choice has a lawful view
abbrev pub SnapshotHasView : Type 0
SnapshotHasView =
    (header : Header) (snap : DatedState) (choice : Choice)
    → IsState snap.state → CanRedact snap.state choice.redact → IsView (view_of header snap choice)

-- what a send gives is lawful again
abbrev pub RedactedIsState : Type 0
RedactedIsState = (state : State) (pairs : Pairs) → IsState state → CanRedact state pairs → IsState (redacted state pairs)

-- what a full stream is asked: every number and every pair below an end
abbrev pub full : Pairs → Choice
full redact = record { from = None; source = no_pairs; redact = redact }

-- a full stream gives exactly its snapshot from nothing, with the listed pairs redacted and no other changed
abbrev pub FullIsExact : Type 0
FullIsExact =
    (header : Header) (snap : DatedState) (redact : Pairs)
    → IsState snap.state → CanRedact snap.state redact
    → target (view_of header snap (full redact)) no_objects ≡ Ok (redacted snap.state redact)

-- two objects that differ in the bytes of these indices alone
abbrev pub DifferAt : (ℕ → Bool) → Option Object → Option Object → Type 0
DifferAt pairs None None = Unit {0}
DifferAt pairs None (Some b) = ⊥
DifferAt pairs (Some a) None = ⊥
DifferAt pairs (Some a) (Some b) =
    (a.attr ≡ b.attr)
    × ((i : ℕ) → pairs i ≡ false → a.blocks i ≡ b.blocks i)
    × ((i : ℕ) → pairs i ≡ true → is_hole (a.blocks i) ≡ is_hole (b.blocks i))

-- snapshots that differ in the bytes of pairs to redact alone have equal views
abbrev pub ViewsAgree : Type 0
ViewsAgree =
    (header : Header) (a b : DatedState) (choice : Choice) → a.number_date ≡ b.number_date → a.index_date ≡ b.index_date
    → ((k : ℕ) → DifferAt (choice.redact k) (a.state k) (b.state k)) → view_of header a choice ≡ view_of header b choice

-- so they are sent alike: the same items stand in their streams from every point on
abbrev pub StreamsAgree : Type 0
StreamsAgree =
    (header : Header) (a b : DatedState) (choice : Choice) (point : Point) → a.number_date ≡ b.number_date → a.index_date ≡ b.index_date
    → ((k : ℕ) → DifferAt (choice.redact k) (a.state k) (b.state k)) → items (view_of header a choice) point ≡ items (view_of header b choice) point
