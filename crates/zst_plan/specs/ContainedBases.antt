-- That an increment which is contained in a redacted base covers the snapshots that the base was redacted for.
use Rattle.std.specs.Prelude.{◌≡◌, ◌<◌, ℕ, true, List, [], length, Some}
use Rattle.zst_model.specs.pools.Ancestry.{Source, OfSnapshot}
use Rattle.zst_model.specs.pools.Pool.{Snapshot}
use Rattle.zst_model.specs.sends.Headers.{Sent, guid_of_source, header_of}
use Rattle.zst_laws.specs.RedactionLists.{IsCovered}
use Rattle.zst_plan.specs.RecvPlan.{is_contained}

-- neither what is sent nor a snapshot that it is sent from was redacted before
pub record SendsWhole (sent : Sent) : Type 0 where
  pub snapshot : sent.snapshot.redact ≡ []
  pub source : (earlier : Snapshot) → sent.source ≡ Some (OfSnapshot earlier) → earlier.redact ≡ []

-- what is sent so from a source covers these guids where the plan of a receive finds it contained in a base that was redacted for them
abbrev pub ContainedIsCovered : Type 0
ContainedIsCovered =
    (sent : Sent) (source : Source) (guids : List ℕ) → SendsWhole sent → sent.source ≡ Some source → 0 < guid_of_source source → 0 < length guids
    → is_contained guids (header_of sent) ≡ true → IsCovered sent guids
