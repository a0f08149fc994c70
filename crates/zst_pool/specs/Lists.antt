-- What a pool tells of a bookmark's list.
use Rattle.std.specs.Prelude.{◌≡◌, ◌≢◌, ℕ, List, [], ◌∷◌, Option, Some, None, Result, Ok, Err, find, bytes_eq, IfSome}
use Rattle.zst_block.specs.declared.fault.BlockFault.TheVariants as blocks
use Rattle.zst_tree.specs.declared.or_memory.OrMemory.TheVariants.{Fault}
use Rattle.zst_list.specs.StoredLists.{HasList, TellsList}
use Rattle.zst_model.specs.fields.Lists.{Runs}
use Rattle.zst_model.specs.declared.refusals.subjects.AbsentSubject.TheVariants as missing
use Rattle.zst_model.specs.declared.refusals.subjects.Name.TheVariants as names
use Rattle.zst_model.specs.declared.refusals.plan_fault.PlanFault.TheVariants as plans
use Rattle.zst_model.specs.pools.Pool as plain
use Rattle.zst_tree.specs.Indices.{Blocks}
use Rattle.zst_dir.specs.Rows.{Rows}
use Rattle.zst_dir.specs.declared.rows.Bookmark.{Bookmark}
use Rattle.zst_pool.specs.declared.fault.PoolFault.{PoolFault}
use Rattle.zst_pool.specs.declared.fault.PoolFault.TheVariants as faults

-- the row of a bookmark
abbrev pub row_named : List ℕ → Rows → Option Bookmark
row_named name rows = find (λ bookmark. bytes_eq bookmark.name name) rows.bookmarks

-- a bookmark that nothing redacted has no list, and one that these guids redacted has its runs
abbrev pub list_by : List ℕ → Runs → Option Runs
list_by [] runs = None
list_by (guid ∷ guids) runs = Some runs

-- the disk failed, or no memory was left
abbrev pub IsOutside : PoolFault → Type 0
IsOutside (faults.Plan fault) = ⊥
IsOutside (faults.CannotApply fault) = ⊥
IsOutside (faults.Redacted object block) = ⊥
IsOutside (faults.Full need largest) = ⊥
IsOutside (faults.Damaged sector stated found) = ⊥
IsOutside faults.DiskFault = Unit {0}
IsOutside faults.Failed = ⊥
IsOutside faults.OutOfMemory = Unit {0}

-- a list isn't read: E25, E28 or E32
abbrev pub IsUnread : PoolFault → Type 0
IsUnread (faults.Plan fault) = ⊥
IsUnread (faults.CannotApply fault) = ⊥
IsUnread (faults.Redacted object block) = ⊥
IsUnread (faults.Full need largest) = ⊥
IsUnread (faults.Damaged sector stated found) = Unit {0}
IsUnread faults.DiskFault = Unit {0}
IsUnread faults.Failed = ⊥
IsUnread faults.OutOfMemory = Unit {0}

-- what is answered where there is this row: no list exactly where nothing redacted it
abbrev pub AnswersRow : Bookmark → Result (Option Runs) PoolFault → Type 0
AnswersRow row (Ok None) = row.redact ≡ []
AnswersRow row (Ok (Some runs)) = row.redact ≢ []
AnswersRow row (Err fault) = (row.redact ≢ []) × IsUnread fault

-- where there is no such row the answer is E3, and nowhere else
abbrev pub AnswersNamed : List ℕ → Option Bookmark → Result (Option Runs) PoolFault → Type 0
AnswersNamed name None result = result ≡ Err (faults.Plan (plans.NoSuch (missing.Named (names.Bookmark name))))
AnswersNamed name (Some row) result = AnswersRow row result

-- this list of these guids was read, and no block is told as damaged
abbrev pub GivesListed : Option Runs → Result (Option Runs) PoolFault → Type 0
GivesListed listed (Ok list) = list ≡ listed
GivesListed listed (Err fault) = IsOutside fault

-- the list of a pool's bookmark is given, and E3 where there is none
abbrev pub GivesList : List ℕ → Option plain.Bookmark → Result (Option Runs) PoolFault → Type 0
GivesList name None result = result ≡ Err (faults.Plan (plans.NoSuch (missing.Named (names.Bookmark name))))
GivesList name (Some bookmark) result = GivesListed (list_by bookmark.redact bookmark.runs) result

-- the list that was given stands in the leaves of its row
abbrev pub StandsBelow : Blocks → Bookmark → Option Runs → Type 0
StandsBelow has row list = IfSome list (λ runs. HasList has row.levels row.root row.runs runs)

-- E25 tells a block to which the row's root leads, or, where all leaves were read and are no list, the root, as the read of a list does
abbrev pub TellsRow : ℕ → List ℕ → ℕ → Bookmark → PoolFault → Type 0
TellsRow end image size row fault =
    (sector : ℕ) (stated found : List ℕ) → fault ≡ faults.Damaged sector stated found
    → TellsList {T = Runs} end image size row.levels row.root row.runs (Err (Fault (blocks.Damaged sector stated found)))
