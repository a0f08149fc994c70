-- The numbers that a list's pairs include.
use Rattle.std.specs.Prelude.{◌≡◌, ℕ, ◌^◌, ◌<◌, ◌≤◌, ◌||◌, true, false, min, Option, Some, None}
use Rattle.zst_dnode.specs.declared.dnode.Dnode.{Dnode}
use Rattle.zst_model.specs.fields.Lists.{Runs, has_pair}
use Rattle.zst_model.specs.sends.Inclusion.{Choice, includes_number}
use Rattle.zst_model.specs.states.DatedState.{DatedState}
use Rattle.zst_model.specs.states.State.{end_at}
use Rattle.zst_tree.specs.Indices.{Blocks}
use Rattle.zst_objset.specs.Dnodes.{IsThereIn}
use Rattle.zst_traverse.specs.declared.walk_entry.WalkEntry.{WalkEntry}
use Rattle.zst_traverse.specs.declared.walk_entry.WalkEntry.TheVariants.{Object, Gone, Pairs}

-- the first number from one on of which a list has a pair
pub record IsFirstOf (list : Runs) (from found : ℕ) : Type 0 where
  pub from_on : from ≤ found
  pub index : ℕ
  pub has : has_pair list found index ≡ true
  pub none_before : (k i : ℕ) → from ≤ k → k < found → has_pair list k i ≡ false

abbrev pub FindsOf : Runs → ℕ → Option ℕ → Type 0
FindsOf list from None = (k i : ℕ) → from ≤ k → has_pair list k i ≡ false
FindsOf list from (Some found) = IsFirstOf list from found

-- what is found below a bound, or the bound
abbrev pub or_below : ℕ → Option ℕ → ℕ
or_below below None = below
or_below below (Some found) = min found below

-- neither of two lists has a pair of a number
abbrev pub IsUnlisted : Runs → Runs → ℕ → Type 0
IsUnlisted listed withheld k = (i : ℕ) → (has_pair listed k i || has_pair withheld k i) ≡ false

-- the first number from one on and below another of which one of two lists has a pair
pub record IsFirstListed (listed withheld : Runs) (from below found : ℕ) : Type 0 where
  pub from_on : from ≤ found
  pub under : found < below
  pub index : ℕ
  pub has : (has_pair listed found index || has_pair withheld found index) ≡ true
  pub none_before : (k : ℕ) → from ≤ k → k < found → IsUnlisted listed withheld k

abbrev pub FindsListed : Runs → Runs → ℕ → ℕ → Option ℕ → Type 0
FindsListed listed withheld from below None = (k : ℕ) → from ≤ k → k < below → IsUnlisted listed withheld k
FindsListed listed withheld from below (Some found) = IsFirstListed listed withheld from below found

-- one of two lists has a pair of an object below an end
pub record IsListedBelow (listed withheld : Runs) (object end : ℕ) : Type 0 where
  pub index : ℕ
  pub under : index < end
  pub has : (has_pair listed object index || has_pair withheld object index) ≡ true

-- an object of which a list has a pair below its end; or no list has one
abbrev pub FindsObject : Blocks → (ℕ → ℕ → Blocks) → DatedState → Runs → Runs → ℕ → Option Dnode → Type 0
FindsObject has reads snap listed withheld number None = (i : ℕ) → i < end_at (snap.state number) → (has_pair listed number i || has_pair withheld number i) ≡ false
FindsObject has reads snap listed withheld number (Some dnode) = IsThereIn has reads snap number dnode × IsListedBelow listed withheld number dnode.end

-- the number at which what is found begins; past all numbers where nothing is
abbrev pub first_found : Option WalkEntry → ℕ
first_found None = 2 ^ 48
first_found (Some (Object number dnode)) = number
first_found (Some (Gone first count)) = first
first_found (Some (Pairs object first count what ptr)) = object

-- each number of which a list has a pair is included: so it is where the lists' pairs stand below the ends of their objects
abbrev pub AreIncluded : DatedState → Choice → Runs → Runs → Type 0
AreIncluded snap choice listed withheld = (k i : ℕ) → (has_pair listed k i || has_pair withheld k i) ≡ true → includes_number snap choice k ≡ true
