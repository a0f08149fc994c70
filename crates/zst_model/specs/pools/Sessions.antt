-- What open sessions hold and claim of a pool, and which of them has a thing that is named.
use Rattle.std.specs.Prelude.{ℕ, Bool, false, min, List, [], ◌∷◌, Option, Some, None, Result, Err, bytes_eq, if◌then◌else◌}
use Rattle.zst_names.specs.Names.{dataset_of}
use Rattle.zst_model.specs.declared.refusals.subjects.Holder.TheVariants as holders
use Rattle.zst_model.specs.declared.refusals.subjects.Name.{Name}
use Rattle.zst_model.specs.declared.refusals.subjects.Name.TheVariants as names
use Rattle.zst_model.specs.declared.refusals.plan_fault.PlanFault.TheVariants as plans
use Rattle.zst_model.specs.declared.refusals.refusal.Refusal.{Refusal}
use Rattle.zst_model.specs.declared.refusals.refusal.Refusal.TheVariants as refusals

-- what the session with this id has: a send holds its snapshot, and a receive claims its target, which need not be there yet
pub data Held : Type 0 where
  Holds : (id : ℕ) (snapshot : List ℕ) → Held
  Claims : (id : ℕ) (dataset : List ℕ) → Held

-- the session's id
abbrev pub id_of : Held → ℕ
id_of (Holds id snapshot) = id
id_of (Claims id dataset) = id

-- whether it claims this dataset
abbrev pub has_claimed : List ℕ → Held → Bool
has_claimed name (Holds id snapshot) = false
has_claimed name (Claims id dataset) = bytes_eq dataset name

-- whether it has what is named: it holds the snapshot, or it holds a snapshot of the dataset or claims the dataset; no session has a bookmark
abbrev pub has_named : Name → Held → Bool
has_named (names.Snapshot name) (Holds id snapshot) = bytes_eq snapshot name
has_named (names.Snapshot name) (Claims id dataset) = false
has_named (names.Dataset name) (Holds id snapshot) = bytes_eq (dataset_of 64 snapshot) name
has_named (names.Dataset name) (Claims id dataset) = has_claimed name (Claims id dataset)
has_named (names.Bookmark name) one = false

-- the lesser of an id and another, where there is another
abbrev pub lesser : ℕ → Option ℕ → ℕ
lesser id None = id
lesser id (Some other) = min id other

-- the least id of those that pass the test
abbrev pub least_id : (Held → Bool) → List Held → Option ℕ
least_id test [] = None
least_id test (one ∷ rest) = if test one then Some (lesser (id_of one) (least_id test rest)) else least_id test rest

-- the session that has what is named, the one with the least id of several
abbrev pub session_with : Name → List Held → Option ℕ
session_with name held = least_id (has_named name) held

-- for `abort` the claim alone counts (zfs-receive(8), -A)
abbrev pub session_into : List ℕ → List Held → Option ℕ
session_into dataset held = least_id (has_claimed dataset) held

-- E5: this session has it
abbrev pub busy_session : ℕ → Refusal
busy_session id = refusals.Plan (plans.Busy (holders.Session id))

-- E5 where a session has it, and otherwise the rest
abbrev pub unless_busy : {A : Type 0} → Option ℕ → Result A Refusal → Result A Refusal
unless_busy None rest = rest
unless_busy (Some id) rest = Err (busy_session id)
