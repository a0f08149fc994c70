-- What the line `gen` makes of the pool of an image, and why it ends.
use Rattle.std.specs.Prelude.{ℕ, ◌+◌, ◌*◌, ◌≡◌, ◌⊎◌, ◌<◌, ◌≤◌, Bool, IfErr, List, [], ◌∷◌, length, take, codes, decimal, Result, Ok, Err, Some}
use Rattle.std.specs.List.{concat, slice_get}
use Rattle.zst_outside.specs.Images.{DiskState, Leaves, OnlyReads}
use Rattle.zst_space.specs.FreeSectors.{FreeSectors}
use Rattle.zst_block.specs.Blocks.{KeepsBlocks}
use Rattle.zst_image.specs.Bodies.{Body, free_by}
use Rattle.zst_model.specs.declared.pools.command.Command.{Command}
use Rattle.zst_model.specs.declared.refusals.refusal.Refusal.{Refusal}
use Rattle.zst_model.specs.declared.refusals.refusal.Refusal.TheVariants as refusals
use Rattle.zst_model.specs.pools.KeptPool.{kept_of}
use Rattle.zst_model.specs.pools.Pool.{Pool}
use Rattle.zst_model.specs.pools.Step.{stepped}
use Rattle.zst_model.specs.states.AppliedItems.{◌>>=◌}
use Rattle.zst_gen.specs.Generated.{generated}
use Rattle.zst_dir.specs.Rows.{Rows}
use Rattle.zst_dir.specs.Spelling.{dir_bytes}
use Rattle.zst_image.specs.Commits.{Ready}
use Rattle.zst_image.specs.Reads.{Reads}
use Rattle.zst_image.specs.declared.pool_state.PoolState.{PoolState}
use Rattle.zst_pool.specs.Calls.{IsAtRest}
use Rattle.zst_pool.specs.Cost.{Grows, HasNoRoom, cost_of, most_sectors}
use Rattle.zst_pool.specs.PartialRows.{rows_after}
use Rattle.zst_sessions.specs.FullPools.{CommandIsShort}
use Rattle.zst_run.specs.Commands.{IsPoolRefusal, OfStepping, Opens, SaysOfOpening, as_kept}
use Rattle.zst_run.specs.Receives.{Keeps}

-- commands one after another, each of which is accepted
unfoldable pub stepped_all : (now : ℕ) → List Command → Pool → Result Pool Refusal
stepped_all now [] pool = Ok pool
stepped_all now (command ∷ rest) pool = stepped [] now command pool >>= λ done. stepped_all now rest done.pool

-- so many of the first commands that make content of so many objects
abbrev pub first_made : (now steps count : ℕ) → Pool → Result Pool Refusal
first_made now steps count pool = stepped_all now (take count (generated steps)) pool

-- the line: the objects, their blocks that are written, their holes, the bytes of those blocks, and the pool's number
abbrev pub gen_line : (steps number : ℕ) → List ℕ
gen_line steps number = concat (
    codes "gen " ∷ decimal steps ∷ codes " blocks " ∷ decimal (224 * steps) ∷ codes " holes " ∷ decimal (31 * steps)
    ∷ codes " bytes " ∷ decimal (224 * steps * 131072) ∷ codes " number " ∷ decimal number ∷ [])

-- an image that reads as what is kept of the pool that some first commands make
abbrev pub ReadsMade : (tight : Bool) → (now steps : ℕ) → Pool → List ℕ → Type 0
ReadsMade tight now steps pool image = (n : ℕ) × (after : Pool) × (first_made now steps n pool ≡ Ok after) × Reads tight (kept_of after) image

-- an image that stood before the line, or such a one
abbrev pub OldOrMade : (tight : Bool) → DiskState → (now steps : ℕ) → Pool → List ℕ → Type 0
OldOrMade tight here now steps pool image = here.images image ⊎ ReadsMade tight now steps pool image

-- these commands were accepted, and what is kept of the pool that they made stands
pub record Made (tight : Bool) (now : ℕ) (commands : List Command) (pool : Pool) (here' : DiskState) : Type 0 where
  pub after : Pool
  pub is : stepped_all now commands pool ≡ Ok after
  pub keeps : Keeps tight here' after

-- some first commands were accepted and stand, and there are more
pub record StoppedAt (tight : Bool) (now steps : ℕ) (pool : Pool) (here' : DiskState) : Type 0 where
  pub count : ℕ
  pub more : count < length (generated steps)
  pub made : Made tight now (take count (generated steps)) pool here'

-- The command with this number found no room, on the pool that those before it made, and by the body by which that rests still.
pub record NextFindsNoRoom (tight : Bool) (now steps number : ℕ) (pool : Pool) (here' : DiskState) (need largest : ℕ) : Type 0 where
  pub command : Command
  pub is_next : slice_get (generated steps) number ≡ Some command
  pub running : Pool
  pub is : first_made now steps number pool ≡ Ok running
  pub kept : PoolState
  pub rests : IsAtRest tight here' kept running
  pub left : FreeSectors
  pub short : HasNoRoom (cost_of command).cells ((cost_of command).block running) ((cost_of command).list running) kept.body kept.dir left need largest

-- How it ends, and what then stands: all commands were accepted, and the line tells it; else some were, which stand, and the next one is
-- refused: as the definition says; E24 where the definition accepts it, and the longest extent that is then free is shorter than what is needed; or E32. Nothing is damaged.
abbrev pub GenEnds : (tight : Bool) → (now steps : ℕ) → Pool → DiskState → Result (List (List ℕ)) Refusal → Type 0
GenEnds tight now steps pool here' (Ok lines) = (made : Made tight now (generated steps) pool here') × (lines ≡ gen_line steps made.after.number ∷ [])
GenEnds tight now steps pool here' (Err refusals.DiskFault) = Unit {0}
GenEnds tight now steps pool here' (Err (refusals.Full need largest)) =
    (stop : StoppedAt tight now steps pool here') × NextFindsNoRoom tight now steps stop.count pool here' need largest × ((after : Pool) × (first_made now steps (stop.count + 1) pool ≡ Ok after))
GenEnds tight now steps pool here' (Err refusals.OutOfMemory) = StoppedAt tight now steps pool here'
GenEnds tight now steps pool here' (Err (refusals.Damaged sector stated found)) = ⊥
GenEnds tight now steps pool here' (Err refusals.NoPool) = ⊥
GenEnds tight now steps pool here' (Err (refusals.BadVersion number)) = ⊥
GenEnds tight now steps pool here' (Err refusal) = (stop : StoppedAt tight now steps pool here') × (first_made now steps (stop.count + 1) pool ≡ Err refusal)

-- What a command that was done makes of what a pool keeps, whatever the image is: with data of so many sectors, no more than it may write whatever is there, it takes no more than it costs at most; and the directory has at most 1,024 bytes more.
pub record CommandGrew (command : Command) (before after : PoolState) : Type 0 where
  pub block : ℕ
  pub most : block ≤ (cost_of command).most
  pub grows : Grows (most_sectors (cost_of command).cells block (cost_of command).most_list before.dir (length before.body.free)) block before.body after.body
  pub directory : length (dir_bytes after.dir) ≤ length (dir_bytes before.dir) + 1024
  pub partials : after.dir.partials ≡ rows_after command before.dir.partials

-- so it grows from what is kept at first to what is kept then, as these commands are done one after another
abbrev pub GrewAlong : List Command → (first kept : PoolState) → Type 0
GrewAlong [] first kept = kept ≡ first
GrewAlong (command ∷ rest) first kept = (next : PoolState) × CommandGrew command first next × GrewAlong rest next kept

-- E24 of one of the commands, whatever the image is: those before it were done, and it found no room by what was kept then, by whose body a commit can still be made
pub record OneIsShort (steps : ℕ) (first : PoolState) (here' : DiskState) (need largest : ℕ) : Type 0 where
  pub number : ℕ
  pub command : Command
  pub is_next : slice_get (generated steps) number ≡ Some command
  pub kept : PoolState
  pub grew : GrewAlong (take number (generated steps)) first kept
  pub ready : Ready here' kept.body
  pub left : FreeSectors
  pub short : CommandIsShort command kept left need largest

-- The commands on a pool that was opened by this body and these rows, whether or not the image reads as a pool: whatever the answer, but for E28, each
-- block still stands that stood in sectors which the body left not free, and E24 is that of one of them.
pub record GenRan (steps : ℕ) (here here' : DiskState) (answer : Result (List (List ℕ)) Refusal) (body : Body) (rows : Rows) : Type 0 where
  pub opens : Opens here body rows
  pub stood : ¬ (answer ≡ Err refusals.DiskFault) → KeepsBlocks here.seen (free_by body) here'.seen (free_by body)
  pub full : (need largest : ℕ) → answer ≡ Err (refusals.Full need largest) → OneIsShort steps (as_kept body rows) here' need largest

-- The commands that make content of so many objects, on the pool of an image: at every moment, and in the end, each image stood before them, or reads as
-- what is kept of the pool that some first ones make, by tight object sets where it stood so.
pub record Generating (now steps : ℕ) (here here' : DiskState) (answer : Result (List (List ℕ)) Refusal) : Type 0 where
  pub moments : (tight : Bool) (pool : Pool) → here'.honest → Reads tight pool here.seen → Leaves here here' (OldOrMade tight here now steps pool)
  pub images : (tight : Bool) (pool : Pool) → here'.honest → Reads tight pool here.seen → (c : List ℕ) → here'.images c → OldOrMade tight here now steps pool c
  pub ends : (tight : Bool) (pool : Pool) → here'.honest → Reads tight pool here.seen → GenEnds tight now steps pool here' answer
  pub opened : here'.honest → SaysOfOpening (OnlyReads here here') here (GenRan steps here here' answer) answer
  pub refused : IfErr answer (IsPoolRefusal OfStepping here here')
  pub later : here.faults ≤ here'.faults
