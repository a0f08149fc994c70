-- What commits make of a snapshot, and that the increment from it gives exactly this.
use Rattle.std.proofs.Common.{subst, ◌≡◌, ℕ, List, [], ◌∷◌, Some, Ok}
use Rattle.zst_model.specs.states.State.{State, IsState}
use Rattle.zst_model.specs.states.DatedState.{DatedState}
use Rattle.zst_model.specs.sends.Inclusion.{Choice}
use Rattle.zst_model.specs.sends.Target.{Remembers}
use Rattle.zst_model.specs.states.DatedState.{apply_all_dated}
use Rattle.zst_model.proofs.Results.{ok_parts, bind_ok}
use Rattle.zst_laws.specs.Commits.{Commit, apply_commits, AreLater, HistoryRemembers, IncrementIsExact}
use Rattle.zst_laws.proofs.histories.Dates.{remembered_itself, remembered_through}
use Rattle.zst_laws.proofs.sends.ExactSends.{send_exact}
use Rattle.zst_laws.proofs.sends.ViewLaws.{before_base}

-- what is remembered stays so under later commits
history : (snap after : DatedState) (number : ℕ) (commits : List Commit) (state : State)
    → IsState snap.state → Remembers snap number state → AreLater number commits snap → apply_commits commits snap ≡ Ok after
    → IsState after.state × Remembers after number state
history snap after number [] state s h later applied =
    subst (λ d. IsState d.state × Remembers d number state) (ok_parts _ _ applied) (s, h)
history snap after number (commit ∷ rest) state s h later applied =
    let found = bind_ok (apply_all_dated commit.number commit.items snap) (apply_commits rest) after applied in
    let stepped = remembered_through snap found.0 number commit.number commit.items state s later.1 later.0 h found.1 in
    history found.0 after number rest state stepped.0 stepped.1 (later.2 found.0 found.1) found.2

pub history_remembered : HistoryRemembers
history_remembered snap after number commits s later applied =
    history snap after number commits snap.state s (remembered_itself snap number) later applied

pub increment_exact : IncrementIsExact
increment_exact header snap after number commits source redact s later applied can =
    let found = history_remembered snap after number commits s later applied in
    let choice : Choice = record { from = Some number; source = source; redact = redact } in
    send_exact snap.state header after choice s found.0 can (before_base snap.state after number source redact s found.0 found.1)
