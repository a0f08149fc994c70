-- What is redacted of a snapshot as the source of a send, and which redacted states are fit as bases of that send.
use Rattle.std.specs.Prelude.{◌≡◌, ℕ, ◌<◌, true, List, length, Some, Contains}
use Rattle.zst_model.specs.pools.Ancestry.{OfSnapshot}
use Rattle.zst_model.specs.pools.Pool.{Pool, Snapshot, IsPool}
use Rattle.zst_model.specs.pools.RedSet.{red_set, redacted_pairs}
use Rattle.zst_model.specs.pools.Soundness.{Sound}
use Rattle.zst_model.specs.sends.Headers.{Sent, IsOf, choice_of, source_list}
use Rattle.zst_model.specs.sends.Inclusion.{Pairs}
use Rattle.zst_model.specs.sends.Target.{BaseOk, CanRedact, redacted}
use Rattle.zst_model.specs.states.DatedState.{DatedState}
use Rattle.zst_model.specs.states.State.{State, IsState, index_bound, is_number}
use Rattle.zst_laws.specs.SendPlans.{StandsBeforeSnapshot}

-- what is redacted for some snapshots is redacted for fewer of them too
abbrev pub RedSetsGrow : Type 0
RedSetsGrow =
    (state : State) (number : ℕ) (fewer more : List DatedState) → ((kept : DatedState) → Contains fewer kept → Contains more kept)
    → (k i : ℕ) → red_set state number more k i ≡ true → red_set state number fewer k i ≡ true

-- the list of a source that has redaction guids has exactly what is redacted in it
abbrev pub SourceListsRedacted : Type 0
SourceListsRedacted =
    (source : Snapshot) (k i : ℕ) → 0 < length source.redact → is_number k ≡ true → i < index_bound
    → source_list (Some (OfSnapshot source)) k i ≡ redacted_pairs source.objects.state k i

-- an increment from a snapshot that was received redacted fits each base that lacks no more of the state that it was made of than the snapshot does
abbrev pub LessRedactedIsBase : Type 0
LessRedactedIsBase =
    (pool : Pool) (sent : Sent) (source : Snapshot) (state : State) (less more : Pairs)
    → IsPool pool → Sound pool → IsOf pool sent → sent.source ≡ Some (OfSnapshot source) → 0 < length source.redact
    → StandsBeforeSnapshot pool (OfSnapshot source) sent.snapshot
    → IsState state → CanRedact state more → source.objects.state ≡ redacted state more
    → ((k i : ℕ) → less k i ≡ true → more k i ≡ true)
    → BaseOk (redacted state less) sent.snapshot.objects (choice_of sent)
