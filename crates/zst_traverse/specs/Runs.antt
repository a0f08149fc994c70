-- Indices of an object that are alike.
use Rattle.std.specs.Prelude.{◌≡◌, ◌⊎◌, Bool, true, ℕ, ◌+◌, ◌*◌, ◌<◌, ◌≤◌, ◌==◌, if◌then◌else◌, min, Option, Some, None, Result, Ok, Err, false, IfNone, IfOk}
use Rattle.zst_block.specs.IoCalls.{stop_of}
use Rattle.zst_block.specs.IoStates.{IoState}
use Rattle.zst_block.specs.declared.fault.BlockFault.{BlockFault}
use Rattle.zst_tree.specs.Steps.{LooksInSteps}
use Rattle.zst_block.specs.declared.ptr.Ptr.{Ptr}
use Rattle.zst_model.specs.declared.sends.header.Point.{Point}
use Rattle.zst_model.specs.declared.states.cell.Cell.{Cell}
use Rattle.zst_model.specs.declared.states.cell.Cell.TheVariants as cells
use Rattle.zst_model.specs.sends.Inclusion.{Choice, includes_pair}
use Rattle.zst_model.specs.states.DatedState.{DatedState, size_at}
use Rattle.zst_model.specs.states.State.{Object, end_of}
use Rattle.zst_tree.specs.Indices.{Blocks}
use Rattle.zst_objset.specs.Dnodes.{read_unless}
use Rattle.zst_traverse.specs.Cells.{CellIs, IsNextPairs}
use Rattle.zst_traverse.specs.declared.pairs.Run.{Run}
use Rattle.zst_traverse.specs.declared.pairs.Turn.{Turn}

-- what a pointer in the tree of an object whose blocks have this size stands for, by its kind; data has that length
abbrev pub cell_of : Ptr → ℕ → Option Cell
cell_of ptr size =
    if ptr.kind == 0 then Some cells.Hole
    else (if ptr.kind == 1 then (if ptr.length == size then Some cells.Data else None)
    else (if ptr.kind == 2 then Some cells.Redacted else None))

-- so many are told of those that are alike, where so many are left below the end: data alone
unfoldable pub count_of : Cell → ℕ → ℕ → ℕ
count_of cells.Hole alike left = min alike left
count_of cells.Redacted alike left = min alike left
count_of cells.Data alike left = 1

-- a withheld index is told as redacted, alone
abbrev pub TellsWithheld : Turn → Result Run BlockFault → Type 0
TellsWithheld turn (Ok run) = (run.first ≡ turn.index) × (run.count ≡ 1) × (run.what ≡ cells.Redacted)
TellsWithheld turn (Err fault) = ⊥

-- the data of all indices but these is read
abbrev pub outside_indices : (ℕ → Bool) → Blocks → ℕ → Blocks
outside_indices withheld has i = read_unless (withheld i) has

-- so many indices from one on, below the end of an object, have the same date and are what is told, but for those whose blocks aren't read
pub record IsRun (has : Blocks) (withheld : ℕ → Bool) (object : Object) (dates : ℕ → ℕ) (index : ℕ) (run : Run) : Type 0 where
  pub first : run.first ≡ index
  pub some : 0 < run.count
  pub under : index + run.count ≤ end_of object
  pub same : (i : ℕ) → index ≤ i → i < index + run.count → dates i ≡ dates index
  pub blocks : (i : ℕ) → index ≤ i → i < index + run.count → withheld i ≡ false → CellIs has run.what run.ptr (object.blocks i)
  pub one : run.what ≡ cells.Data → run.count ≡ 1

-- the first included indices of the point's object at or past its offset, or that none is
abbrev pub FindsPairs : Blocks → DatedState → Choice → Point → Option Run → Type 0
FindsPairs has snap choice point None = (i : ℕ) → point.offset ≤ i * size_at (snap.state point.object) → includes_pair snap choice point.object i ≡ false
FindsPairs has snap choice point (Some run) = IsNextPairs has snap choice point run.first run.count run.what run.ptr

-- whatever the image, a run is from an index on and below another
abbrev pub RunFits : ℕ → ℕ → Run → Type 0
RunFits from below run = (from ≤ run.first) × (0 < run.count) × (run.first + run.count ≤ below)

-- a search of an object's indices takes at most so many steps, and fewer where it finds none
pub record SearchesIn (most fewer : ℕ) (old new : IoState) (result : Result (Option Run) BlockFault) (before after : ℕ) : Type 0 where
  pub looks : LooksInSteps most old new (stop_of result) before after
  pub none : IfOk result (λ found. IfNone found (after ≤ before + fewer))

-- ---- what comes next of an object's indices: the first that is dated late, or is in a list

-- the first index from one on and below another that passes a test
pub record IsFirstIn (test : ℕ → Bool) (from below found : ℕ) : Type 0 where
  pub from_on : from ≤ found
  pub under : found < below
  pub passes : test found ≡ true
  pub none_before : (i : ℕ) → from ≤ i → i < found → test i ≡ false

abbrev pub FindsIn : (ℕ → Bool) → ℕ → ℕ → Option ℕ → Type 0
FindsIn test from below None = (i : ℕ) → from ≤ i → i < below → test i ≡ false
FindsIn test from below (Some found) = IsFirstIn test from below found

-- an index is the first that is late, listed or withheld; where it isn't withheld, so many from it on aren't, and they are late, or it is listed and is alone
pub record IsTurn (late listed withheld : ℕ → Bool) (from below : ℕ) (turn : Turn) : Type 0 where
  pub from_on : from ≤ turn.index
  pub some : 0 < turn.most
  pub under : turn.index + turn.most ≤ below
  pub none_late : (i : ℕ) → from ≤ i → i < turn.index → late i ≡ false
  pub none_listed : (i : ℕ) → from ≤ i → i < turn.index → listed i ≡ false
  pub none_withheld : (i : ℕ) → from ≤ i → i < turn.index → withheld i ≡ false
  pub alone : turn.is_withheld ≡ true → (withheld turn.index ≡ true) × (turn.most ≡ 1)
  pub shown : turn.is_withheld ≡ false → (i : ℕ) → turn.index ≤ i → i < turn.index + turn.most → withheld i ≡ false
  pub because : turn.is_withheld ≡ false → (late turn.index ≡ true) ⊎ ((listed turn.index ≡ true) × (turn.most ≡ 1))

abbrev pub TakesTurn : (late listed withheld : ℕ → Bool) → ℕ → ℕ → Option Turn → Type 0
TakesTurn late listed withheld from below None =
    (i : ℕ) → from ≤ i → i < below → (late i ≡ false) × (listed i ≡ false) × (withheld i ≡ false)
TakesTurn late listed withheld from below (Some turn) = IsTurn late listed withheld from below turn
