-- Which states are fit as a base.
use Rattle.std.specs.Prelude.{◌≡◌, ℕ, ◌≤◌, true, ◌⊎◌, Some}
use Rattle.zst_model.specs.states.State.{State, IsState, end_at}
use Rattle.zst_model.specs.states.DatedState.{DatedState}
use Rattle.zst_model.specs.sends.Inclusion.{Pairs, Choice, includes_pair, includes_number}
use Rattle.zst_laws.specs.ExactSends.{full}
use Rattle.zst_model.specs.sends.Target.{BaseOk, Remembers, redacted}

-- each lawful state is fit as the base of a full stream
abbrev pub AnyIsFullBase : Type 0
AnyIsFullBase = (base : State) (snap : DatedState) (redact : Pairs) → IsState base → IsState snap.state → BaseOk base snap (full redact)

-- a state that the snapshot remembers of the source's number is fit as a base
abbrev pub BeforeIsBase : Type 0
BeforeIsBase =
    (base : State) (snap : DatedState) (number : ℕ) (source redact : Pairs)
    → IsState base → IsState snap.state → Remembers snap number base
    → BaseOk base snap (record { from = Some number; source = source; redact = redact })

-- a pair that the send writes anew: it is included, or its number is and it is at or past the end
abbrev pub IsRewritten : DatedState → Choice → ℕ → ℕ → Type 0
IsRewritten snap choice k i = (includes_pair snap choice k i ≡ true) ⊎ ((includes_number snap choice k ≡ true) × (end_at (snap.state k) ≤ i))

-- a base stays fit with pairs redacted that the send writes anew
abbrev pub RedactedIsBase : Type 0
RedactedIsBase =
    (base : State) (snap : DatedState) (choice : Choice) (pairs : Pairs)
    → BaseOk base snap choice → ((k i : ℕ) → pairs k i ≡ true → IsRewritten snap choice k i)
    → BaseOk (redacted base pairs) snap choice
