-- What commands make of an object that is there.
use Rattle.std.specs.Prelude.{◌≡◌, ℕ, List, [], ◌∷◌, replicate, Option, Some, None, Ok, codes, if◌then◌else◌, ◌==◌}
use Rattle.zst_model.specs.declared.pools.command.Command.{Command}
use Rattle.zst_model.specs.declared.pools.command.Command.TheVariants as commands
use Rattle.zst_model.specs.states.State.{Data, Empty, BytesOf, attr_at, content_at}
use Rattle.zst_model.specs.states.DatedState.{DatedState}
use Rattle.zst_model.specs.pools.Sessions.{Held}
use Rattle.zst_model.specs.pools.Pool.{Pool, Dataset, dataset_named, untouched}
use Rattle.zst_model.specs.pools.Step.{Stepped, stepped}
use Rattle.zst_laws.specs.LineExample.{pool_of, two_objects}
use Rattle.zst_laws.specs.Meanings.{object_of}

-- the command is accepted, and leaves a head of `tank/a` of which this holds
abbrev pub LeavesHead : Command → Pool → (DatedState → Type 0) → Type 0
LeavesHead command pool Holds =
    (held : List Held) (now : ℕ) → (made : Stepped) × (stepped held now command pool ≡ Ok made)
    × (dataset : Dataset) × (dataset_named (codes "tank/a") made.pool ≡ Some dataset) × Holds dataset.head

-- `object` with this spill on the object 1, which has a spill
abbrev pub put_with : Option (List ℕ) → Command
put_with spill = commands.Object (codes "tank/a") 1 (record { type_ = 19; bonus_type = 7; block_size = 1024 }) (5 ∷ []) spill

-- the object has all of its attributes from the command: the spill that was there goes
abbrev pub ObjectIsReplaced : Type 0
ObjectIsReplaced =
    LeavesHead (put_with None) (pool_of two_objects)
    (λ head. attr_at (head.state 1) ≡ Some (record { type_ = 19; bonus_type = 7; block_size = 1024; bonus = 5 ∷ []; spill = None }))
    × LeavesHead (put_with (Some (6 ∷ []))) (pool_of two_objects)
    (λ head. attr_at (head.state 1) ≡ Some (record { type_ = 19; bonus_type = 7; block_size = 1024; bonus = 5 ∷ []; spill = Some (6 ∷ []) }))

-- a file each of whose blocks has bytes of its index
abbrev pub full_file : DatedState
full_file = record untouched { state = λ k. if k == 1 then Some (object_of 19 512 (λ i. Data (replicate 512 i))) else None }

-- `punch` of two blocks from block 1 on makes these two holes
abbrev pub RangeIsPunched : Type 0
RangeIsPunched =
    LeavesHead (commands.Punch (codes "tank/a") 1 1 2) (pool_of full_file)
    (λ head. (content_at (head.state 1) 0 ≡ BytesOf (replicate 512 0)) × (content_at (head.state 1) 1 ≡ Empty)
    × (content_at (head.state 1) 2 ≡ Empty) × (content_at (head.state 1) 3 ≡ BytesOf (replicate 512 3)))
