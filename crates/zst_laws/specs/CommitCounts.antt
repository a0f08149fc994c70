-- Which commands commit, and how the pool's number counts the commits.
use Rattle.std.specs.Prelude.{◌≡◌, ℕ, ◌+◌, true, false, Ok, List}
use Rattle.zst_model.specs.declared.pools.command.Command.{Command}
use Rattle.zst_model.specs.pools.Sessions.{Held}
use Rattle.zst_model.specs.pools.Pool.{Pool}
use Rattle.zst_model.specs.pools.Step.{Stepped, commits, stepped}

-- an accepted command that commits raises the pool's number by one
abbrev pub CommitsCount : Type 0
CommitsCount =
    (held : List Held) (now : ℕ) (command : Command) (pool : Pool) (after : Stepped)
    → stepped held now command pool ≡ Ok after → commits command ≡ true → after.pool.number ≡ pool.number + 1

-- an accepted command that commits nothing leaves the pool equal
abbrev pub AnswersKeep : Type 0
AnswersKeep =
    (held : List Held) (now : ℕ) (command : Command) (pool : Pool) (after : Stepped)
    → stepped held now command pool ≡ Ok after → commits command ≡ false → after.pool ≡ pool
