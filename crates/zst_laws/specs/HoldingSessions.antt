-- Which session has a thing that is named, and which commands it holds back.
use Rattle.std.specs.Prelude.{◌≡◌, ℕ, ◌≤◌, Bool, true, false, List, [], ◌∷◌, Some, None, Result, Err, Contains, codes}
use Rattle.zst_model.specs.declared.pools.command.Command.{Command}
use Rattle.zst_model.specs.declared.pools.command.Command.TheVariants as commands
use Rattle.zst_model.specs.declared.refusals.subjects.Name.TheVariants as names
use Rattle.zst_model.specs.declared.refusals.refusal.Refusal.{Refusal}
use Rattle.zst_model.specs.pools.Sessions.{Held, Holds, Claims, id_of, least_id, session_with, session_into, busy_session, unless_busy}
use Rattle.zst_model.specs.pools.Pool.{Pool, Dataset, Snapshot, Partial, dataset_named, snapshot_named, partial_of}
use Rattle.zst_model.specs.pools.Step.{Stepped, stepped}
use Rattle.zst_model.specs.refusals.Refusal.{number_of, text_of}
use Rattle.zst_laws.specs.Lineage.{IsNewer}
use Rattle.zst_laws.specs.StepRefusals.{dataset_before}

-- sends of snapshots of `tank/a` and `tank/ab`, and receives into `tank/b` and `tank/a`
abbrev pub five_sessions : List Held
five_sessions =
    Holds 9 (codes "tank/a@s") ∷ Claims 4 (codes "tank/b") ∷ Holds 7 (codes "tank/a@t")
    ∷ Holds 3 (codes "tank/ab@s") ∷ Claims 5 (codes "tank/a") ∷ []

-- a snapshot is held by its own send, and a dataset by sends of its snapshots and by its receive; no bookmark is held
abbrev pub SessionsHave : Type 0
SessionsHave =
    (session_with (names.Snapshot (codes "tank/a@s")) five_sessions ≡ Some 9)
    × (session_with (names.Snapshot (codes "tank/a@t")) five_sessions ≡ Some 7)
    × (session_with (names.Snapshot (codes "tank/b@s")) five_sessions ≡ None)
    × (session_with (names.Dataset (codes "tank/a")) five_sessions ≡ Some 5)
    × (session_with (names.Dataset (codes "tank/b")) five_sessions ≡ Some 4)
    × (session_with (names.Dataset (codes "tank/ab")) five_sessions ≡ Some 3)
    × (session_with (names.Dataset (codes "tank/c")) five_sessions ≡ None)
    × (session_with (names.Bookmark (codes "tank/a#s")) five_sessions ≡ None)

-- for `abort` a dataset's receive counts alone
abbrev pub ClaimsCountAlone : Type 0
ClaimsCountAlone =
    (session_into (codes "tank/a") five_sessions ≡ Some 5)
    × (session_into (codes "tank/b") five_sessions ≡ Some 4)
    × (session_into (codes "tank/ab") five_sessions ≡ None)

-- the session that is named passes the test and has no greater id than any other that passes; and none is named only where none passes
abbrev pub LeastIsNamed : Type 0
LeastIsNamed =
    (test : Held → Bool) (held : List Held)
    → ((id : ℕ) → least_id test held ≡ Some id
    → ((one : Held) × Contains held one × (test one ≡ true) × (id_of one ≡ id))
    × ((other : Held) → Contains held other → test other ≡ true → id ≤ id_of other))
    × (least_id test held ≡ None → (other : Held) → Contains held other → test other ≡ false)

-- E5 names the session, and comes exactly where there is one
abbrev pub BusySessions : Type 0
BusySessions =
    (id : ℕ) (rest : Result Stepped Refusal)
    → (unless_busy (Some id) rest ≡ Err (busy_session id))
    × (unless_busy None rest ≡ rest)
    × (number_of (busy_session id) ≡ 5)
    × (text_of (busy_session 7) ≡ codes "busy: session 7")

-- a command that looks at what sessions have: one that destroys a dataset or snapshots, or gives up a partial state
abbrev pub asks_sessions : Command → Bool
asks_sessions (commands.Rollback destroys snapshot) = destroys
asks_sessions (commands.Destroy (names.Dataset name)) = true
asks_sessions (commands.Destroy (names.Snapshot name)) = true
asks_sessions (commands.Abort dataset) = true
asks_sessions _ = false

-- no other command depends on what is held: so neither does a rollback without -r, nor a destroy of a bookmark
abbrev pub StepsAskNoSession : Type 0
StepsAskNoSession =
    (held other : List Held) (now : ℕ) (command : Command) (pool : Pool)
    → asks_sessions command ≡ false → stepped held now command pool ≡ stepped other now command pool

-- a session that has a dataset holds a snapshot of it or claims it
abbrev pub HasOf : List ℕ → Held → Type 0
HasOf name (Holds id snapshot) = dataset_before snapshot ≡ name
HasOf name (Claims id dataset) = dataset ≡ name

-- one that has a snapshot holds it
abbrev pub HasThis : List ℕ → Held → Type 0
HasThis name (Holds id snapshot) = snapshot ≡ name
HasThis name (Claims id dataset) = ⊥

-- one that receives into a dataset claims it
abbrev pub HasClaim : List ℕ → Held → Type 0
HasClaim name (Holds id snapshot) = ⊥
HasClaim name (Claims id dataset) = dataset ≡ name

-- a session holds a snapshot of the pool that is newer than this one
abbrev pub HasNewer : Snapshot → Pool → Held → Type 0
HasNewer snapshot pool (Holds id name) = (newer : Snapshot) × Contains pool.snapshots newer × IsNewer snapshot newer × (newer.name ≡ name)
HasNewer snapshot pool (Claims id dataset) = ⊥

-- of the sessions that have a thing this one has the least id
pub record IsLeastWith (has : Held → Type 0) (held : List Held) (one : Held) : Type 0 where
  pub there : Contains held one
  pub has_it : has one
  pub least : (other : Held) → Contains held other → has other → id_of one ≤ id_of other

-- a dataset that a session has isn't destroyed
abbrev pub HeldDatasetStays : Type 0
HeldDatasetStays =
    (pool : Pool) (name : List ℕ) (dataset : Dataset) (held : List Held) (one : Held) (now : ℕ)
    → dataset_named name pool ≡ Some dataset → IsLeastWith (HasOf name) held one
    → stepped held now (commands.Destroy (names.Dataset name)) pool ≡ Err (busy_session (id_of one))

-- nor is a snapshot
abbrev pub HeldSnapshotStays : Type 0
HeldSnapshotStays =
    (pool : Pool) (name : List ℕ) (snapshot : Snapshot) (held : List Held) (one : Held) (now : ℕ)
    → snapshot_named name pool ≡ Some snapshot → IsLeastWith (HasThis name) held one
    → stepped held now (commands.Destroy (names.Snapshot name)) pool ≡ Err (busy_session (id_of one))

-- and a rollback with -r destroys no newer snapshot that a session holds
abbrev pub HeldNewerStays : Type 0
HeldNewerStays =
    (pool : Pool) (name : List ℕ) (snapshot : Snapshot) (held : List Held) (one : Held) (now : ℕ)
    → snapshot_named name pool ≡ Some snapshot → IsLeastWith (HasNewer snapshot pool) held one
    → stepped held now (commands.Rollback true name) pool ≡ Err (busy_session (id_of one))

-- nor is a partial state given up that a session receives into; a send from its target holds nothing back
abbrev pub HeldTargetStays : Type 0
HeldTargetStays =
    (pool : Pool) (target : List ℕ) (partial : Partial) (held : List Held) (one : Held) (now : ℕ)
    → partial_of target pool ≡ Some partial → IsLeastWith (HasClaim target) held one
    → stepped held now (commands.Abort target) pool ≡ Err (busy_session (id_of one))

-- a session has nothing that a command is to destroy or to give up
abbrev pub LeavesFree : Pool → Command → Held → Type 0
LeavesFree pool (commands.Rollback true name) one = (snapshot : Snapshot) → snapshot_named name pool ≡ Some snapshot → HasNewer snapshot pool one → ⊥
LeavesFree pool (commands.Destroy (names.Dataset name)) one = HasOf name one → ⊥
LeavesFree pool (commands.Destroy (names.Snapshot name)) one = HasThis name one → ⊥
LeavesFree pool (commands.Abort target) one = HasClaim target one → ⊥
LeavesFree pool _ one = Unit {0}

-- where no session has such a thing, each command is as without sessions
abbrev pub FreeOnesGo : Type 0
FreeOnesGo =
    (pool : Pool) (command : Command) (held : List Held) (now : ℕ)
    → ((one : Held) → Contains held one → LeavesFree pool command one) → stepped held now command pool ≡ stepped [] now command pool
