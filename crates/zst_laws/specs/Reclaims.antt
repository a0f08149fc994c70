-- What reclaim makes of a pool, and when it is refused.
use Rattle.std.specs.Prelude.{◌≡◌, ◌↔◌, ℕ, ◌+◌, ◌<◌, ◌≤◌, List, [], ◌∷◌, Ok, Err, codes}
use Rattle.zst_model.specs.declared.pools.command.Command.TheVariants as commands
use Rattle.zst_model.specs.declared.refusals.faults.Quantity.TheVariants as quantities
use Rattle.zst_model.specs.declared.refusals.refusal.Refusal.{Refusal}
use Rattle.zst_model.specs.declared.refusals.refusal.Refusal.TheVariants as refusals
use Rattle.zst_model.specs.pools.AnswerLines.{ok_line}
use Rattle.zst_model.specs.pools.KeptPool.{kept_of}
use Rattle.zst_model.specs.pools.Sessions.{Held, Holds, Claims}
use Rattle.zst_model.specs.pools.Pool.{Pool}
use Rattle.zst_model.specs.pools.Step.{Stepped, stepped}
use Rattle.zst_laws.specs.KeptPools.{running}
use Rattle.zst_laws.specs.StepExample.{gives}

-- the number goes on by one and is told, and under its old number the pool is the one before: the one that runs, and what its image keeps
abbrev pub ReclaimChangesNumber : Type 0
ReclaimChangesNumber =
    (held : List Held) (now : ℕ) (pool : Pool) (after : Stepped)
    → stepped held now commands.Reclaim pool ≡ Ok after
    → (after.pool.number ≡ pool.number + 1)
    × (after.reply ≡ ok_line after.pool.number ∷ [])
    × (record after.pool { number = pool.number } ≡ pool)
    × (record (kept_of after.pool) { number = pool.number } ≡ kept_of pool)

-- E23 comes exactly where no number is left, at 2^63 in a lawful pool, and no other refusal ever does; with a number left it is accepted
abbrev pub ReclaimHasNoNumber : Type 0
ReclaimHasNoNumber =
    (held : List Held) (now : ℕ) (pool : Pool)
    → ((refusal : Refusal)
    → (stepped held now commands.Reclaim pool ≡ Err refusal) ↔ ((9223372036854775808 ≤ pool.number) × (refusal ≡ refusals.Limit quantities.Number 9223372036854775808)))
    × (pool.number < 9223372036854775808 → (after : Stepped) × (stepped held now commands.Reclaim pool ≡ Ok after))

-- three receives stay, of which one isn't kept and lasts no longer than its session, while that session and a send run
abbrev pub ReclaimLeavesReceives : Type 0
ReclaimLeavesReceives =
    (now : ℕ)
    → stepped (Claims 4 (codes "tank/b") ∷ Holds 5 (codes "tank/a@s") ∷ []) now commands.Reclaim running ≡ gives (codes "ok 2") (record running { number = 2 })
