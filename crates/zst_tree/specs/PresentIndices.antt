-- The greatest index of a range that has something present: in the tree of an object's blocks, that isn't a hole.
use Rattle.std.specs.Prelude.{◌≡◌, ℕ, ◌+◌, ◌<◌, ◌≤◌, Option, None, Some, true, false}
use Rattle.zst_block.specs.Ptr.{is_present}
use Rattle.zst_tree.specs.Indices.{Blocks, Map, Subtree, span}
use Rattle.zst_tree.specs.declared.path_answer.Branch.{Branch}
use Rattle.zst_tree.specs.declared.path_answer.PathAnswer.{PathAnswer}
use Rattle.zst_tree.specs.declared.path_answer.PathAnswer.TheVariants.{Nothing, Here, There}

-- from here to there nothing is present
pub record Empty (map : Map) (from below : ℕ) : Type 0 where
  pub absent : (index : ℕ) → from ≤ index → index < below → is_present (map index) ≡ false

-- the last index from here to there that has something present
pub record IsLast (map : Map) (from below found : ℕ) : Type 0 where
  pub from_on : from ≤ found
  pub under : found < below
  pub present : is_present (map found) ≡ true
  pub empty : Empty map (found + 1) below

-- what is found is the last, and where nothing is found there is none
abbrev pub FindsLast : Map → ℕ → ℕ → Option ℕ → Type 0
FindsLast map from below None = Empty map from below
FindsLast map from below (Some found) = IsLast map from below found

-- a subtree from here to there has something present, and nothing behind it is
pub record HasPresent (has : Blocks) (map : Map) (level from below : ℕ) (beside : Branch) : Type 0 where
  pub lower : beside.level ≤ level
  pub from_on : from ≤ beside.base
  pub under : beside.base + span beside.level ≤ below
  pub present : is_present beside.ptr ≡ true
  pub empty : Empty map (beside.base + span beside.level) below
  pub stands : Subtree has beside.level beside.ptr beside.base map

-- what a path to the last index of a range shows: nothing present, that index, or the last subtree with something present
abbrev pub ReachesEarlier : Blocks → Map → ℕ → ℕ → ℕ → PathAnswer → Type 0
ReachesEarlier has map level from below Nothing = Empty map from below
ReachesEarlier has map level from below (Here index) = (index + 1 ≡ below) × (from ≤ index) × (is_present (map index) ≡ true)
ReachesEarlier has map level from below (There beside) = HasPresent has map level from below beside
