-- What a path down to an index shows beside it.
use Rattle.std.specs.Prelude.{◌≡◌, ℕ, ◌+◌, ◌<◌, ◌≤◌, ◌==◌, ◌||◌, Bool, List, Option, None, Some}
use Rattle.zst_block.specs.Ptr.{is_flat}
use Rattle.zst_block.specs.declared.ptr.Ptr.{Ptr}
use Rattle.zst_tree.specs.Indices.{child, span}
use Rattle.zst_tree.specs.declared.path_answer.Branch.{Branch}
use Rattle.zst_tree.specs.declared.path_answer.PathAnswer.{PathAnswer}
use Rattle.zst_tree.specs.declared.path_answer.PathAnswer.TheVariants.{Nothing, Here, There}

-- a pointer at this level stands for every index below it: it is a leaf's, a hole or redacted
abbrev pub stands_throughout : ℕ → Ptr → Bool
stands_throughout level ptr = (level == 0) || is_flat ptr

-- what is shown stands from here to there, and a subtree isn't higher than this level
abbrev pub IsInside : ℕ → ℕ → ℕ → PathAnswer → Type 0
IsInside level from below Nothing = Unit {0}
IsInside level from below (Here index) = (from ≤ index) × (index < below)
IsInside level from below (There beside) = (beside.level ≤ level) × (from ≤ beside.base) × (beside.base + span beside.level ≤ below)

-- the subtree at a child stands from here to there
pub record IsChild (level from below : ℕ) (beside : Branch) : Type 0 where
  pub level_is : beside.level ≡ level
  pub from_on : from ≤ beside.base
  pub under : beside.base + span beside.level ≤ below

-- the subtree hangs on one of the pointers of a block, at this level
pub record HangsOn (bytes : List ℕ) (level : ℕ) (beside : Branch) : Type 0 where
  pub level_is : beside.level ≡ level
  pub place : ℕ
  pub under : place < 128
  pub ptr_is : beside.ptr ≡ child bytes place

-- a subtree that is shown is so
abbrev pub IfThere : (Branch → Type 0) → PathAnswer → Type 0
IfThere P Nothing = Unit {0}
IfThere P (Here index) = Unit {0}
IfThere P (There beside) = P beside

-- what the path shows, or else the subtree beside it
abbrev pub nearer_of : PathAnswer → Option Branch → PathAnswer
nearer_of Nothing None = Nothing
nearer_of Nothing (Some beside) = There beside
nearer_of (Here index) other = Here index
nearer_of (There beside) other = There beside
