-- A clone and a bookmark of a snapshot that goes, and a rollback past a bookmark.
use Rattle.std.specs.Prelude.{◌≡◌, ℕ, true, false, List, [], ◌∷◌, Some, None, Err, codes}
use Rattle.zst_model.specs.declared.pools.command.Command.TheVariants as commands
use Rattle.zst_model.specs.declared.refusals.subjects.Name.TheVariants as names
use Rattle.zst_model.specs.declared.refusals.refusal.Refusal.{Refusal}
use Rattle.zst_model.specs.pools.Pool.{Pool, Dataset, Snapshot, Bookmark, untouched}
use Rattle.zst_model.specs.pools.Step.{stepped, busy_clone, busy_bookmark, busy_snapshot}
use Rattle.zst_model.specs.states.DatedState.{DatedState}
use Rattle.zst_model.specs.refusals.Refusal.{number_of, text_of}
use Rattle.zst_laws.specs.FileExample.{small, rewritten}
use Rattle.zst_laws.specs.LineExample.{answers}
use Rattle.zst_laws.specs.StepExample.{new_pool, with_tank, gives}

-- a refusal has this number and this text
pub record Says (refusal : Refusal) (number : ℕ) (text : List ℕ) : Type 0 where
  pub numbered : number_of refusal ≡ number
  pub worded : text_of refusal ≡ text

-- a snapshot of `tank/a` that commit `number` made of this head, as the pool's first
abbrev pub taken : List ℕ → ℕ → ℕ → ℕ → DatedState → Snapshot
taken name guid time number objects = record { name = name; guid = guid; time = time; number = number; objects = objects; redact = [] }

-- the bookmark `tank/a#m` of a snapshot
abbrev pub mark : Snapshot → Bookmark
mark snapshot = record { name = codes "tank/a#m"; guid = snapshot.guid; time = snapshot.time; number = snapshot.number; redact = []; runs = [] }

-- `tank/a` without objects, its snapshot, and a clone of that
abbrev pub tank : Dataset
tank = record { name = codes "tank/a"; kind = 2; origin = None; head = untouched; redact = [] }

abbrev pub tank_snapshot : ℕ → Snapshot
tank_snapshot now = taken (codes "tank/a@s") 4294967297 now 3 untouched

abbrev pub tank_clone : Dataset
tank_clone = record { name = codes "tank/c"; kind = 2; origin = Some (codes "tank/a@s"); head = untouched; redact = [] }

-- the pool 1 with this number, and these datasets, snapshots and bookmarks
abbrev pub pool_with : ℕ → List Dataset → List Snapshot → List Bookmark → Pool
pool_with number datasets snapshots bookmarks = record (new_pool 1) { number = number; guids = 1; datasets = datasets; snapshots = snapshots; bookmarks = bookmarks }

-- a clone keeps its origin from being destroyed; when it is gone, the origin goes too, and its bookmark stays
abbrev pub CloneHoldsOrigin : Type 0
CloneHoldsOrigin =
    (now : ℕ) → let snapshot = tank_snapshot now in
    (stepped [] now (commands.Fs (codes "tank/a")) (new_pool 1) ≡ gives (codes "ok 2") (with_tank 2 untouched))
    × (stepped [] now (commands.Snapshot (codes "tank/a@s")) (with_tank 2 untouched) ≡ gives (codes "ok 3") (pool_with 3 (tank ∷ []) (snapshot ∷ []) []))
    × (stepped [] now (commands.Clone (codes "tank/a@s") (codes "tank/c")) (pool_with 3 (tank ∷ []) (snapshot ∷ []) [])
    ≡ gives (codes "ok 4") (pool_with 4 (tank ∷ tank_clone ∷ []) (snapshot ∷ []) []))
    × (stepped [] now (commands.Bookmark (codes "tank/a@s") (codes "tank/a#m")) (pool_with 4 (tank ∷ tank_clone ∷ []) (snapshot ∷ []) [])
    ≡ gives (codes "ok 5") (pool_with 5 (tank ∷ tank_clone ∷ []) (snapshot ∷ []) (mark snapshot ∷ [])))
    × (stepped [] now (commands.Destroy (names.Snapshot (codes "tank/a@s"))) (pool_with 5 (tank ∷ tank_clone ∷ []) (snapshot ∷ []) (mark snapshot ∷ []))
    ≡ Err (busy_clone (codes "tank/c")))
    × (stepped [] now (commands.Destroy (names.Dataset (codes "tank/c"))) (pool_with 5 (tank ∷ tank_clone ∷ []) (snapshot ∷ []) (mark snapshot ∷ []))
    ≡ gives (codes "ok 6") (pool_with 6 (tank ∷ []) (snapshot ∷ []) (mark snapshot ∷ [])))
    × (stepped [] now (commands.Destroy (names.Snapshot (codes "tank/a@s"))) (pool_with 6 (tank ∷ []) (snapshot ∷ []) (mark snapshot ∷ []))
    ≡ gives (codes "ok 7") (pool_with 7 (tank ∷ []) [] (mark snapshot ∷ [])))
    × (stepped [] now commands.List (pool_with 7 (tank ∷ []) [] (mark snapshot ∷ []))
    ≡ answers (codes "fs tank/a origin none" ∷ codes "bookmark tank/a#m guid 0000000100000001 number 3 redacted 0 runs 0" ∷ []) (pool_with 7 (tank ∷ []) [] (mark snapshot ∷ [])))

-- the snapshots `tank/a@s1` of the small file, and `tank/a@s2` of the file that was written again
abbrev pub first_taken : ℕ → Snapshot
first_taken now = taken (codes "tank/a@s1") 4294967297 now 5 small

abbrev pub second_taken : ℕ → Snapshot
second_taken now = taken (codes "tank/a@s2") 4294967298 now 7 rewritten

-- the pool with this number, guid counter and head of `tank/a`, and with these snapshots and bookmarks
abbrev pub tank_with : ℕ → ℕ → DatedState → List Snapshot → List Bookmark → Pool
tank_with number guids head snapshots bookmarks = record (with_tank number head) { guids = guids; snapshots = snapshots; bookmarks = bookmarks }

-- a bookmark of a later snapshot keeps a head from being rolled back, also where that snapshot is gone; with -r it goes
abbrev pub MarkHoldsHead : Type 0
MarkHoldsHead =
    (now : ℕ) → let first = first_taken now in let second = second_taken now in
    (stepped [] now (commands.Snapshot (codes "tank/a@s1")) (with_tank 4 small) ≡ gives (codes "ok 5") (tank_with 5 1 small (first ∷ []) []))
    × (stepped [] now (commands.Write (codes "tank/a") 1 0 (170 ∷ [])) (tank_with 5 1 small (first ∷ []) []) ≡ gives (codes "ok 6") (tank_with 6 1 rewritten (first ∷ []) []))
    × (stepped [] now (commands.Snapshot (codes "tank/a@s2")) (tank_with 6 1 rewritten (first ∷ []) []) ≡ gives (codes "ok 7") (tank_with 7 2 rewritten (first ∷ second ∷ []) []))
    × (stepped [] now (commands.Rollback false (codes "tank/a@s1")) (tank_with 7 2 rewritten (first ∷ second ∷ []) []) ≡ Err (busy_snapshot (codes "tank/a@s2")))
    × (stepped [] now (commands.Bookmark (codes "tank/a@s2") (codes "tank/a#m")) (tank_with 7 2 rewritten (first ∷ second ∷ []) [])
    ≡ gives (codes "ok 8") (tank_with 8 2 rewritten (first ∷ second ∷ []) (mark second ∷ [])))
    × (stepped [] now (commands.Destroy (names.Snapshot (codes "tank/a@s2"))) (tank_with 8 2 rewritten (first ∷ second ∷ []) (mark second ∷ []))
    ≡ gives (codes "ok 9") (tank_with 9 2 rewritten (first ∷ []) (mark second ∷ [])))
    × (stepped [] now (commands.Rollback false (codes "tank/a@s1")) (tank_with 9 2 rewritten (first ∷ []) (mark second ∷ [])) ≡ Err (busy_bookmark (codes "tank/a#m")))
    × (stepped [] now (commands.Rollback true (codes "tank/a@s1")) (tank_with 9 2 rewritten (first ∷ []) (mark second ∷ [])) ≡ gives (codes "ok 10") (tank_with 10 2 small (first ∷ []) []))

-- what the holders of the examples are called
abbrev pub HoldersAreTold : Type 0
HoldersAreTold =
    Says (busy_clone (codes "tank/c")) 5 (codes "busy: clone tank/c")
    × Says (busy_bookmark (codes "tank/a#m")) 5 (codes "busy: bookmark tank/a#m")
    × Says (busy_snapshot (codes "tank/a@s2")) 5 (codes "busy: snapshot tank/a@s2")
