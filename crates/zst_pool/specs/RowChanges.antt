-- What a command makes of the rows of a directory, where it changes them alone.
use Rattle.std.specs.Prelude.{◌≡◌, ◌+◌, ◌≤◌, ℕ, Bool, List, length, Result, Ok, IfOk}
use Rattle.zst_space.specs.FreeSectors.{FreeSectors}
use Rattle.zst_block.specs.Blocks.{Has}
use Rattle.zst_model.specs.declared.refusals.refusal.Refusal.{Refusal}
use Rattle.zst_model.specs.pools.Limits.{last_guid}
use Rattle.zst_model.specs.pools.Pool.{Pool, IsPool}
use Rattle.zst_model.specs.pools.Step.{Stepped}
use Rattle.zst_tree.specs.Indices.{Blocks}
use Rattle.zst_dir.specs.Rows.{Rows}
use Rattle.zst_dir.specs.Spelling.{dir_bytes}
use Rattle.zst_image.specs.Reads.{RunsBy, bound_of}
use Rattle.zst_image.specs.declared.pool_state.PoolState.{PoolState}
use Rattle.zst_pool.specs.Checks.{next_of}

-- over these blocks what is kept stands for a lawful pool that runs, by tight sets where that is said
pub record RunsAs (tight : Bool) (has : Blocks) (kept : PoolState) (running : Pool) : Type 0 where
  pub id : running.id ≡ kept.body.uber.id
  pub number : running.number ≡ kept.body.uber.number
  pub guids : running.guids ≡ kept.body.uber.guids
  pub runs_by : RunsBy (bound_of tight running.number) has kept.dir running
  pub lawful : IsPool running

-- the definition accepts, and what it makes of the pool runs by these rows and has this guid counter
pub record MakesRows (tight : Bool) (has : Blocks) (definition : Result Stepped Refusal) (running : Pool) (guids : ℕ) (rows : Rows) : Type 0 where
  pub next : Pool
  pub made : definition ≡ Ok (next_of next)
  pub id : next.id ≡ running.id
  pub number : next.number ≡ running.number
  pub guid_counter : next.guids ≡ guids
  pub few : guids ≤ last_guid
  pub runs_by : RunsBy (bound_of tight (running.number + 1)) has rows next

-- it does so of each pool that what is kept may stand for
abbrev pub MakesOfEach : (Pool → Result Stepped Refusal) → PoolState → ℕ → Rows → Type 0
MakesOfEach definition kept guids rows =
    (tight : Bool) (image : List ℕ) (space : FreeSectors) (running : Pool) → RunsAs tight (Has image space) kept running → MakesRows tight (Has image space) (definition running) running guids rows

-- rows that are made of others: which they are, and by how many bytes their directory is longer at most
pub record MakesDir {E : Type 0} (more : ℕ) (old next : Rows) (result : Result Rows E) : Type 0 where
  pub made : IfOk result (λ rows. rows ≡ next)
  pub grows : IfOk result (λ rows. length (dir_bytes rows) ≤ length (dir_bytes old) + more)

-- a row that is made so is one of a directory
pub record MakesRow {T : Type 0} (IsRow : T → Type 0) (made result : T) : Type 0 where
  pub same : result ≡ made
  pub row : IsRow result
