-- What commands keep of a pool.
use Rattle.std.specs.Prelude.{◌≡◌, ℕ, ◌^◌, ◌<◌, not, Ok, List, filter, bytes_eq}
use Rattle.zst_model.specs.declared.pools.command.Command.{Command}
use Rattle.zst_model.specs.declared.pools.command.Command.TheVariants as commands
use Rattle.zst_model.specs.pools.Sessions.{Held}
use Rattle.zst_model.specs.pools.KeptPool.{KeepsAll}
use Rattle.zst_model.specs.pools.Pool.{Pool, Partial, IsPool}
use Rattle.zst_model.specs.pools.Soundness.{Sound}
use Rattle.zst_model.specs.pools.Step.{Stepped, stepped, IsCommand}

-- a command makes a lawful pool of a lawful pool, at any time that fits 64 bits
abbrev pub StepsKeepPools : Type 0
StepsKeepPools =
    (held : List Held) (now : ℕ) (command : Command) (pool : Pool) (after : Stepped)
    → IsCommand command → now < 2 ^ 64 → IsPool pool → stepped held now command pool ≡ Ok after → IsPool after.pool

-- a command makes a sound pool of a sound pool
abbrev pub StepsKeepSound : Type 0
StepsKeepSound =
    (held : List Held) (now : ℕ) (command : Command) (pool : Pool) (after : Stepped)
    → IsCommand command → IsPool pool → Sound pool → stepped held now command pool ≡ Ok after → Sound after.pool

-- what a command leaves of the partial states: an abort all but that of its target, and each other command all
abbrev pub partials_after : Command → List Partial → List Partial
partials_after (commands.Abort target) partials = filter (λ partial. not (bytes_eq partial.target target)) partials
partials_after _ partials = partials

-- each of these stays as it is
abbrev pub StepsKeepPartials : Type 0
StepsKeepPartials =
    (held : List Held) (now : ℕ) (command : Command) (pool : Pool) (after : Stepped)
    → stepped held now command pool ≡ Ok after → after.pool.partials ≡ partials_after command pool.partials

-- so a pool that keeps all of them keeps all of them
abbrev pub StepsKeepKept : Type 0
StepsKeepKept =
    (held : List Held) (now : ℕ) (command : Command) (pool : Pool) (after : Stepped)
    → stepped held now command pool ≡ Ok after → KeepsAll pool → KeepsAll after.pool
