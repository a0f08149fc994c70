-- The least index of a range that is dated after a number.
use Rattle.std.specs.Prelude.{◌≡◌, ℕ, ◌+◌, ◌<◌, ◌≤◌, Option, None, Some}
use Rattle.zst_tree.specs.Indices.{Blocks, Map, Subtree, span}
use Rattle.zst_tree.specs.declared.path_answer.Branch.{Branch}
use Rattle.zst_tree.specs.declared.path_answer.PathAnswer.{PathAnswer}
use Rattle.zst_tree.specs.declared.path_answer.PathAnswer.TheVariants.{Nothing, Here, There}

-- nothing from here to there is dated after the number
pub record Quiet (map : Map) (from below number : ℕ) : Type 0 where
  pub early : (index : ℕ) → from ≤ index → index < below → (map index).number ≤ number

-- the first index from here to there that is dated after the number
pub record IsFirst (map : Map) (from below number found : ℕ) : Type 0 where
  pub from_on : from ≤ found
  pub under : found < below
  pub late : number < (map found).number
  pub quiet : Quiet map from found number

-- what is found is the first, and where nothing is found there is none
abbrev pub FindsFirst : Map → ℕ → ℕ → ℕ → Option ℕ → Type 0
FindsFirst map from below number None = Quiet map from below number
FindsFirst map from below number (Some found) = IsFirst map from below number found

-- a subtree from here to there has something later, and nothing before it is
pub record HasLater (has : Blocks) (map : Map) (level from below number : ℕ) (beside : Branch) : Type 0 where
  pub lower : beside.level ≤ level
  pub from_on : from ≤ beside.base
  pub under : beside.base + span beside.level ≤ below
  pub late : number < beside.ptr.number
  pub quiet : Quiet map from beside.base number
  pub stands : Subtree has beside.level beside.ptr beside.base map

-- what a path to the first index of a range shows: nothing later, that index, or the first subtree with something later
abbrev pub ReachesLater : Blocks → Map → ℕ → ℕ → ℕ → ℕ → PathAnswer → Type 0
ReachesLater has map level from below number Nothing = Quiet map from below number
ReachesLater has map level from below number (Here index) = (index ≡ from) × (from < below) × (number < (map index).number)
ReachesLater has map level from below number (There beside) = HasLater has map level from below number beside
