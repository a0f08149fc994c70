-- What commits make of a snapshot, and that the increment from it gives exactly this.
use Rattle.std.specs.Prelude.{◌≡◌, ℕ, ◌<◌, List, [], ◌∷◌, Some, Result, Ok}
use Rattle.zst_model.specs.declared.refusals.apply_fault.ApplyFault.{ApplyFault}
use Rattle.zst_model.specs.declared.sends.header.Header.{Header}
use Rattle.zst_model.specs.declared.states.item.Item.{Item}
use Rattle.zst_model.specs.states.State.{IsState}
use Rattle.zst_model.specs.states.AppliedItems.{◌>>=◌}
use Rattle.zst_model.specs.states.DatedState.{DatedState, apply_all_dated}
use Rattle.zst_model.specs.sends.Inclusion.{Pairs}
use Rattle.zst_model.specs.sends.View.{view_of}
use Rattle.zst_model.specs.sends.Target.{target, redacted, CanRedact, Remembers}
use Rattle.zst_laws.specs.Dates.{AreLawfulItems}

-- a commit: its number, and the items that it applies
pub record Commit : Type 0 where
  pub number : ℕ
  pub items : List Item

-- one commit after another, up to the first fault
abbrev pub apply_commits : List Commit → DatedState → Result DatedState ApplyFault
apply_commits [] snap = Ok snap
apply_commits (commit ∷ rest) snap = apply_all_dated commit.number commit.items snap >>= apply_commits rest

-- commits of lawful items, each with a number past this one
abbrev pub AreLater : ℕ → List Commit → DatedState → Type 0
AreLater number [] snap = Unit {0}
AreLater number (commit ∷ rest) snap =
    (number < commit.number) × AreLawfulItems commit.items snap.state
    × ((after : DatedState) → apply_all_dated commit.number commit.items snap ≡ Ok after → AreLater number rest after)

-- what later commits leave is lawful and still remembers the snapshot
abbrev pub HistoryRemembers : Type 0
HistoryRemembers =
    (snap after : DatedState) (number : ℕ) (commits : List Commit)
    → IsState snap.state → AreLater number commits snap → apply_commits commits snap ≡ Ok after
    → IsState after.state × Remembers after number snap.state

-- the increment from a snapshot gives exactly what the commits after it left, with the listed pairs redacted and no other changed
abbrev pub IncrementIsExact : Type 0
IncrementIsExact =
    (header : Header) (snap after : DatedState) (number : ℕ) (commits : List Commit) (source redact : Pairs)
    → IsState snap.state → AreLater number commits snap → apply_commits commits snap ≡ Ok after → CanRedact after.state redact
    → target (view_of header after (record { from = Some number; source = source; redact = redact })) snap.state ≡ Ok (redacted after.state redact)
