-- What `list` and `read` answer, letter by letter.
use Rattle.std.specs.Prelude.{◌≡◌, ℕ, List, [], ◌∷◌, ◌++◌, replicate, true, Option, Some, None, Result, Ok, Err, codes, if◌then◌else◌, ◌==◌}
use Rattle.zst_model.specs.declared.pools.command.Command.TheVariants as commands
use Rattle.zst_model.specs.declared.sends.header.Header.{Header}
use Rattle.zst_model.specs.declared.refusals.subjects.Name.TheVariants as names
use Rattle.zst_model.specs.declared.refusals.refusal.Refusal.{Refusal}
use Rattle.zst_model.specs.declared.refusals.refusal.Refusal.TheVariants as refusals
use Rattle.zst_model.specs.states.State.{Block, Hole, Redacted, Data, Object}
use Rattle.zst_model.specs.states.DatedState.{DatedState}
use Rattle.zst_model.specs.pools.Sessions.{Held}
use Rattle.zst_model.specs.pools.Pool.{Pool, Dataset, Snapshot, Bookmark, Partial, untouched}
use Rattle.zst_model.specs.pools.Step.{Stepped, stepped}
use Rattle.zst_laws.specs.Meanings.{object_of}
use Rattle.zst_laws.specs.StepExample.{new_pool}

-- a command answers these lines and leaves the pool
abbrev pub answers : List (List ℕ) → Pool → Result Stepped Refusal
answers lines pool = Ok (record { reply = lines; pool = pool })

-- a dataset without objects
abbrev pub dataset_of_kind : ℕ → List ℕ → Option (List ℕ) → Dataset
dataset_of_kind kind name origin = record { name = name; kind = kind; origin = origin; head = untouched; redact = [] }

-- a snapshot without objects
abbrev pub snapshot_with : List ℕ → ℕ → ℕ → ℕ → List ℕ → Snapshot
snapshot_with name guid time number redact = record { name = name; guid = guid; time = time; number = number; objects = untouched; redact = redact }

-- a redaction bookmark of the snapshot with the number 5, with two guids and one run
abbrev pub marked : Bookmark
marked = record {
  name = codes "tank/a#m";
  guid = 4294967297;
  time = 1700000000;
  number = 5;
  redact = 11 ∷ 12 ∷ [];
  runs = record { object = 1; first = 0; count = 3 } ∷ [];
}

-- a receive of the snapshot with this guid that came to this point
abbrev pub begun : Header → List ℕ → ℕ → ℕ → ℕ → Partial
begun header target guid object offset = record {
  target = target;
  component = codes "p";
  keep = true;
  header = record header { to = guid; from = 8 };
  base = None;
  objects = untouched;
  point = record { object = object; offset = offset };
}

-- a pool with a file system, a clone, a volume, three snapshots, a bookmark, and two partial states, one of them of an absent dataset
abbrev pub mixed : Header → Pool
mixed header = record (new_pool 1) {
  number = 12;
  guids = 3;
  datasets = dataset_of_kind 2 (codes "tank/a") None ∷ dataset_of_kind 2 (codes "tank/b") (Some (codes "tank/a@s")) ∷ dataset_of_kind 3 (codes "tank/v") None ∷ [];
  snapshots = snapshot_with (codes "tank/a@s") 4294967297 1700000000 5 []
      ∷ snapshot_with (codes "tank/a@r") 4294967298 1700000001 6 []
      ∷ snapshot_with (codes "tank/v@t") 4294967299 7 8 (3 ∷ 5 ∷ 9 ∷ []) ∷ [];
  bookmarks = marked ∷ [];
  partials = begun header (codes "tank/a") 12884901889 1 512 ∷ begun header (codes "tank/new") 12379813738877118345 7 1536 ∷ [];
}

-- its lines: by name, and in a name the dataset, its snapshots by number, its bookmarks, and its partial state
abbrev pub PoolIsListed : Type 0
PoolIsListed =
    (held : List Held) (now : ℕ) (header : Header)
    → stepped held now commands.List (mixed header)
    ≡ answers (codes "fs tank/a origin none"
    ∷ codes "snapshot tank/a@s guid 0000000100000001 time 1700000000 number 5 redacted 0"
    ∷ codes "snapshot tank/a@r guid 0000000100000002 time 1700000001 number 6 redacted 0"
    ∷ codes "bookmark tank/a#m guid 0000000100000001 number 5 redacted 2 runs 1"
    ∷ codes "partial tank/a guid 0000000300000001 point 1 512"
    ∷ codes "fs tank/b origin tank/a@s"
    ∷ codes "partial tank/new guid abcdef0123456789 point 7 1536"
    ∷ codes "volume tank/v origin none"
    ∷ codes "snapshot tank/v@t guid 0000000100000003 time 7 number 8 redacted 3" ∷ []) (mixed header)

-- a bonus of three bytes, a spill of 512, and data in block 1
abbrev pub whole_blocks : ℕ → Block
whole_blocks i = if i == 1 then Data (replicate 1024 1) else Hole

abbrev pub whole_object : Object
whole_object = record {
  attr = record { type_ = 20; bonus_type = 44; block_size = 1024; bonus = 1 ∷ 2 ∷ 3 ∷ []; spill = Some (replicate 512 9) };
  blocks = whole_blocks;
}

-- a redacted block 4 alone
abbrev pub redacted_fifth : ℕ → Block
redacted_fifth i = if i == 4 then Redacted else Hole

-- a state with an object 1 and a file 3
abbrev pub two_objects : DatedState
two_objects = record untouched { state = λ k. if k == 1 then Some whole_object else (if k == 3 then Some (object_of 19 512 redacted_fifth) else None) }

-- a pool with the dataset `tank/a`, which has this head
abbrev pub pool_of : DatedState → Pool
pool_of head = record (new_pool 1) { datasets = record (dataset_of_kind 2 (codes "tank/a") None) { head = head } ∷ [] }

-- the lines of its objects, by number
abbrev pub ObjectsAreListed : Type 0
ObjectsAreListed =
    (held : List Held) (now : ℕ)
    → stepped held now (commands.ListObjects (names.Dataset (codes "tank/a"))) (pool_of two_objects)
    ≡ answers (codes "object 1 type 20 size 1024 bonustype 44 bonus 3 spill 512 end 2"
    ∷ codes "object 3 type 19 size 512 bonustype 0 bonus 0 spill none end 5" ∷ []) (pool_of two_objects)

-- a file with data, a redacted block and a hole
abbrev pub three_kinds : DatedState
three_kinds = record untouched {
  state = λ k.
      if k == 1
      then Some (object_of 19 512 (λ i. if i == 0 then Data (171 ∷ 205 ∷ 239 ∷ 1 ∷ replicate 508 0) else (if i == 1 then Redacted else Hole)))
      else None;
}

-- data is read in lower-case hexadecimal, a hole by its word, and a redacted block is refused
abbrev pub BlocksAreRead : Type 0
BlocksAreRead =
    (held : List Held) (now : ℕ) → let pool : Pool = pool_of three_kinds in
    (stepped held now (commands.Read (names.Dataset (codes "tank/a")) 1 0) pool ≡ answers ((codes "data abcdef01" ++ replicate 1016 48) ∷ []) pool)
    × (stepped held now (commands.Read (names.Dataset (codes "tank/a")) 1 1) pool ≡ Err (refusals.Redacted 1 1))
    × (stepped held now (commands.Read (names.Dataset (codes "tank/a")) 1 2) pool ≡ answers (codes "hole" ∷ []) pool)
