-- The first index of a tree that is dated after a source.
use Rattle.std.specs.Prelude.{◌≡◌, ℕ, ◌<◌, ◌≤◌, true, false, Option, Some, None}
use Rattle.zst_model.specs.sends.Inclusion.{is_after}
use Rattle.zst_tree.specs.Indices.{Map}

-- no index from one on and below another is dated after the source
abbrev pub NoneLate : Map → Option ℕ → ℕ → ℕ → Type 0
NoneLate map source from below = (i : ℕ) → from ≤ i → i < below → is_after source (map i).number ≡ false

-- the first index from one on and below another that is dated after the source
pub record IsFirstLate (map : Map) (source : Option ℕ) (from below found : ℕ) : Type 0 where
  pub from_on : from ≤ found
  pub under : found < below
  pub late : is_after source (map found).number ≡ true
  pub none_before : NoneLate map source from found

-- what is found is the first, and where nothing is found there is none
abbrev pub FindsLate : Map → Option ℕ → ℕ → ℕ → Option ℕ → Type 0
FindsLate map source from below None = NoneLate map source from below
FindsLate map source from below (Some found) = IsFirstLate map source from below found
