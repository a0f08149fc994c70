-- What abort makes of a pool, what it leaves, and when it is refused.
use Rattle.std.specs.Prelude.{◌≡◌, ◌≢◌, ℕ, ◌+◌, true, List, [], ◌∷◌, Some, None, Ok, Err, Contains, codes}
use Rattle.zst_model.specs.declared.pools.command.Command.TheVariants as commands
use Rattle.zst_model.specs.declared.refusals.faults.Quantity.TheVariants as quantities
use Rattle.zst_model.specs.declared.refusals.refusal.Refusal.TheVariants as refusals
use Rattle.zst_model.specs.pools.Sessions.{Held, Holds, Claims, busy_session}
use Rattle.zst_model.specs.pools.Pool.{Pool, Partial, partial_of}
use Rattle.zst_model.specs.pools.Step.{Stepped, stepped, no_partial}
use Rattle.zst_laws.specs.HoldingSessions.{HasClaim}
use Rattle.zst_laws.specs.KeptPools.{receive_of}
use Rattle.zst_laws.specs.LineageExample.{Says}
use Rattle.zst_laws.specs.StepExample.{new_pool, gives}
use Rattle.zst_laws.specs.StepRefusals.{Refuses}

-- the partial state of the target is gone, and those of other targets stay; nothing else changes
abbrev pub AbortedGoes : Type 0
AbortedGoes =
    (held : List Held) (now : ℕ) (target : List ℕ) (pool : Pool) (after : Stepped)
    → stepped held now (commands.Abort target) pool ≡ Ok after
    → (partial_of target after.pool ≡ None)
    × ((other : List ℕ) → other ≢ target → partial_of other after.pool ≡ partial_of other pool)
    × (after.pool ≡ record pool { number = pool.number + 1; partials = after.pool.partials })

-- E14: there is no partial state of the target, whatever sessions have
abbrev pub NothingToAbort : Type 0
NothingToAbort = (pool : Pool) (target : List ℕ) → partial_of target pool ≡ None → Refuses pool (commands.Abort target) (no_partial target)

-- and it comes only where there is none
abbrev pub OnlyNothingToAbort : Type 0
OnlyNothingToAbort =
    (held : List Held) (now : ℕ) (target : List ℕ) (pool : Pool)
    → stepped held now (commands.Abort target) pool ≡ Err (no_partial target) → partial_of target pool ≡ None

-- E23 of an abort, after all else
abbrev pub AbortHasNoNumber : Type 0
AbortHasNoNumber =
    (pool : Pool) (target : List ℕ) (partial : Partial) (held : List Held) (now : ℕ)
    → partial_of target pool ≡ Some partial → ((one : Held) → Contains held one → HasClaim target one → ⊥) → pool.number ≡ 9223372036854775808
    → stepped held now (commands.Abort target) pool ≡ Err (refusals.Limit quantities.Number 9223372036854775808)

-- a pool with these partial states, as commit `number` leaves it
abbrev pub pool_of : ℕ → List Partial → Pool
pool_of number partials = record (new_pool 1) { number = number; partials = partials }

-- receives into `tank/b` and `tank/c`
abbrev pub two_received : Pool
two_received = pool_of 1 (receive_of (codes "tank/b") true ∷ receive_of (codes "tank/c") true ∷ [])

-- an abort of the first leaves the second, also while a send from its target runs; while a session receives into it, and where nothing
-- was received, it is refused
abbrev pub AbortLeavesOthers : Type 0
AbortLeavesOthers =
    (now : ℕ)
    → (stepped (Holds 4 (codes "tank/b@s") ∷ []) now (commands.Abort (codes "tank/b")) two_received ≡ gives (codes "ok 2") (pool_of 2 (receive_of (codes "tank/c") true ∷ [])))
    × (stepped (Claims 4 (codes "tank/b") ∷ []) now (commands.Abort (codes "tank/b")) two_received ≡ Err (busy_session 4))
    × (stepped [] now (commands.Abort (codes "tank/a")) two_received ≡ Err (no_partial (codes "tank/a")))
    × Says (no_partial (codes "tank/a")) 14 (codes "no partial: tank/a")
