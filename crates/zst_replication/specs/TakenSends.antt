-- What was sent is taken.
use Rattle.std.specs.Prelude.{ℕ, ◌≡◌, ◌≤◌, ◌+◌, ◌++◌, List, [], ◌∷◌, length, Some, None, Ok}
use Rattle.zst_model.specs.declared.refusals.faults.Quantity.TheVariants as quantities
use Rattle.zst_model.specs.declared.refusals.refusal.Refusal.{Refusal}
use Rattle.zst_model.specs.declared.refusals.refusal.Refusal.TheVariants as refusals
use Rattle.zst_model.specs.pools.KeptPool.{kept_of}
use Rattle.zst_model.specs.pools.Limits.{last_number, most_datasets, most_partials, most_snapshots}
use Rattle.zst_model.specs.pools.Pool.{Partial, Pool, IsPool, partial_of}
use Rattle.zst_model.specs.pools.Step.{count_datasets}
use Rattle.zst_model.specs.sends.Headers.{Sent, header_of}
use Rattle.zst_model.specs.states.State.{State}
use Rattle.zst_plan.specs.RecvPlan.{Base, Begins, component_for, recv_plan}
use Rattle.zst_plan.specs.declared.receive.RecvAsk.{RecvAsk}
use Rattle.zst_recv.specs.Feeds.{receives}
use Rattle.zst_recv.specs.ReceiveSteps.{Stops, pool_of}
use Rattle.zst_replication.specs.FeedFaults.{IsRefused}
use Rattle.zst_replication.specs.Replicas.{AreOfStream, IsSendable, MatchesBase}
use Rattle.zst_replication.specs.Resumption.{GivesRest, IsUnderway}

-- E23 of what a commit counts: partial states, datasets, snapshots, and the commits themselves
abbrev pub IsOfCommit : Refusal → Type 0
IsOfCommit (refusals.Limit quantities.Partials most) = Unit {0}
IsOfCommit (refusals.Limit quantities.Datasets most) = Unit {0}
IsOfCommit (refusals.Limit quantities.Snapshots most) = Unit {0}
IsOfCommit (refusals.Limit quantities.Number most) = Unit {0}
IsOfCommit _ = ⊥

-- However it is cut into pieces, and wherever it is cut off, the stream of what was sent is refused by nothing once its plan passes, but where a
-- commit passes a limit of the pool: its reading finds no fault, and each of its records applies.
abbrev pub SentIsTaken : Type 0
SentIsTaken =
    (sent : Sent) (ask : RecvAsk) (start pool after : Pool) (component : List ℕ) (base : Base) (pieces : List (List ℕ)) (piece : List ℕ) (refusal : Refusal)
    → IsSendable sent None → IsPool start → partial_of ask.target start ≡ None → MatchesBase sent ask start
    → recv_plan ask (header_of sent) start ≡ Ok (Begins component base) → AreOfStream (pieces ++ piece ∷ []) sent None
    → IsRefused ask start pieces piece pool after refusal → IsOfCommit refusal

-- So is the stream of the rest of it, for a partial state that is on its way: its plan passes, and it is refused by nothing but a limit.
abbrev pub RestIsTaken : Type 0
RestIsTaken =
    (sent also : Sent) (state : State) (ask : RecvAsk) (start pool after : Pool) (partial : Partial) (component : List ℕ) (pieces : List (List ℕ)) (piece : List ℕ) (refusal : Refusal)
    → IsPool start → IsUnderway sent ask.target state start partial → GivesRest sent also partial.point → component_for ask (header_of sent) ≡ Ok component
    → AreOfStream (pieces ++ piece ∷ []) also (Some partial.point) → IsRefused ask start pieces piece pool after refusal → IsOfCommit refusal

-- a pool's number can rise by one with each of these pieces
abbrev pub CanCount : Pool → List (List ℕ) → Type 0
CanCount start pieces = start.number + length pieces ≤ last_number

-- Where its plan passes, which asks for room, the stream of what was sent is refused by nothing at all.
abbrev pub SentIsAccepted : Type 0
SentIsAccepted =
    (sent : Sent) (ask : RecvAsk) (start after : Pool) (component : List ℕ) (base : Base) (pieces : List (List ℕ)) (refusal : Refusal)
    → IsSendable sent None → IsPool start → partial_of ask.target start ≡ None → MatchesBase sent ask start
    → recv_plan ask (header_of sent) start ≡ Ok (Begins component base) → AreOfStream pieces sent None → CanCount start pieces
    → receives ask start pieces ≡ Stops after refusal → ⊥

-- a pool is within the limits of a commit: its partial states, its datasets with the targets that are absent, and its snapshots with the partial states
pub record IsInLimits (pool : Pool) : Type 0 where
  pub partials : length pool.partials ≤ most_partials
  pub datasets : count_datasets pool ≤ most_datasets
  pub snapshots : length pool.snapshots + length pool.partials ≤ most_snapshots

-- So it is of the rest, in a pool within its limits.
abbrev pub RestIsAccepted : Type 0
RestIsAccepted =
    (sent also : Sent) (state : State) (ask : RecvAsk) (start after : Pool) (partial : Partial) (component : List ℕ) (pieces : List (List ℕ)) (refusal : Refusal)
    → IsPool start → IsInLimits start → IsUnderway sent ask.target state start partial → GivesRest sent also partial.point
    → component_for ask (header_of sent) ≡ Ok component → AreOfStream pieces also (Some partial.point) → CanCount start pieces
    → receives ask start pieces ≡ Stops after refusal → ⊥

-- Whatever is read, a receive into a pool within its limits leaves it so: the one that runs, and what the image keeps of it.
abbrev pub ReceivesStayInLimits : Type 0
ReceivesStayInLimits =
    (ask : RecvAsk) (pool : Pool) (pieces : List (List ℕ)) → IsInLimits pool
    → IsInLimits (pool_of (receives ask pool pieces)) × IsInLimits (kept_of (pool_of (receives ask pool pieces)))
