-- What a look at a leaf of a set, and at those behind it, shows of the included numbers.
use Rattle.std.specs.Prelude.{◌≡◌, ℕ, ◌+◌, ◌*◌, ◌%◌, ◌^◌, ◌<◌, ◌≤◌, true, Option, Some, None, Result, IfOk}
use Rattle.zst_block.specs.declared.fault.BlockFault.{BlockFault}
use Rattle.zst_dnode.specs.Dnode.{DnodeFits}
use Rattle.zst_model.specs.sends.Inclusion.{Choice, is_after}
use Rattle.zst_model.specs.states.DatedState.{DatedState}
use Rattle.zst_model.specs.states.State.{number_bound}
use Rattle.zst_tree.specs.Indices.{Blocks}
use Rattle.zst_tree.specs.declared.tree.ObjSet.{ObjSet}
use Rattle.zst_objset.specs.Sets.{LeafIn, SetIn}
use Rattle.zst_objset.specs.TightSets.{IsTightLeaf, SetIsTightIn}
use Rattle.zst_traverse.specs.Cells.{IsNextNumberIn, NoNumber}
use Rattle.zst_traverse.specs.declared.walk_entry.WalkEntry.{WalkEntry}
use Rattle.zst_traverse.specs.declared.walk_entry.WalkEntry.TheVariants.{Object, Gone, Pairs}
use Rattle.zst_traverse.specs.declared.leaves.WalkStep.{WalkStep}
use Rattle.zst_traverse.specs.declared.leaves.WalkStep.TheVariants.{Next, Nothing}
use Rattle.zst_traverse.specs.declared.leaves.Leaf.{Leaf}

-- a leaf's pointer stands for the slots of its index, and for those of the next ones, as many as are told
abbrev pub StandsFor : Blocks → (ℕ → ℕ → Blocks) → DatedState → Leaf → Type 0
StandsFor has reads snap leaf = (j : ℕ) → leaf.index ≤ j → j < leaf.index + leaf.count → j < 2 ^ 44 → LeafIn has reads snap j leaf.ptr

-- so it does, and each slot that it names is tight
pub record StandsTightly (has : Blocks) (reads : ℕ → ℕ → Blocks) (snap : DatedState) (leaf : Leaf) : Type 0 where
  pub stands : StandsFor has reads snap leaf
  pub tight : IsTightLeaf has snap leaf.index leaf.ptr

-- a set holds a dated state, for whose slots the leaf's pointer stands
pub record HoldsLeaf (has : Blocks) (reads : ℕ → ℕ → Blocks) (set : ObjSet) (snap : DatedState) (leaf : Leaf) : Type 0 where
  pub holds : SetIn has reads set snap
  pub stands : StandsFor has reads snap leaf

-- so it is, and the set and the leaf are tight
pub record HoldsTightLeaf (has : Blocks) (reads : ℕ → ℕ → Blocks) (set : ObjSet) (snap : DatedState) (leaf : Leaf) : Type 0 where
  pub tight : SetIsTightIn has reads set snap
  pub leaf_is : StandsTightly has reads snap leaf

-- a number stands in a leaf of a set, or is that at which the leaf ends
pub record IsFromIn (number : ℕ) (leaf : Leaf) : Type 0 where
  pub index : leaf.index < 2 ^ 44
  pub count : (0 < leaf.count) × (leaf.index + leaf.count ≤ 2 ^ 49)
  pub from : (0 < number) × (16 * leaf.index ≤ number) × (number ≤ 16 * leaf.index + 16)

-- a number stands in the leaves of the indices for which a leaf's pointer stands, or is that at which they end
pub record IsFromUpTo (number : ℕ) (leaf : Leaf) : Type 0 where
  pub index : leaf.index < 2 ^ 44
  pub count : leaf.index + leaf.count ≤ 2 ^ 49
  pub from : (0 < number) × (16 * leaf.index ≤ number) × (number ≤ 16 * (leaf.index + leaf.count)) × (number ≤ 2 ^ 48)

-- what a look from a number on shows: the first included number, or that there is none below another
abbrev pub ShowsAhead : Blocks → (ℕ → ℕ → Blocks) → DatedState → Choice → ℕ → WalkStep → Type 0
ShowsAhead has reads snap choice from (Next found) = IsNextNumberIn has reads snap choice from found
ShowsAhead has reads snap choice from (Nothing below) = NoNumber snap choice from below

-- what a search from a number on finds: the first included number, or that there is none
abbrev pub FindsNumber : Blocks → (ℕ → ℕ → Blocks) → DatedState → Choice → ℕ → Option WalkEntry → Type 0
FindsNumber has reads snap choice from (Some found) = IsNextNumberIn has reads snap choice from found
FindsNumber has reads snap choice from None = NoNumber snap choice from number_bound

-- whatever the image, what is found from a number on is a number, or numbers
abbrev pub NumberFits : ℕ → WalkEntry → Type 0
NumberFits from (Object number dnode) = (from ≤ number) × (number < 2 ^ 48) × DnodeFits dnode
NumberFits from (Gone first count) = (from ≤ first) × (0 < count) × (first + count ≤ 2 ^ 48)
NumberFits from (Pairs object first count what ptr) = ⊥

-- whatever the image, a look doesn't go back
abbrev pub AheadFits : ℕ → WalkStep → Type 0
AheadFits from (Next found) = NumberFits from found
AheadFits from (Nothing below) = from ≤ below

-- whatever the image, a look finds a number, or goes on past the one at which it began
abbrev pub Advances : ℕ → WalkStep → Type 0
Advances from (Next found) = NumberFits from found
Advances from (Nothing below) = from < below

-- it goes on past the number
abbrev pub GoesOn : ℕ → WalkStep → Type 0
GoesOn from (Next found) = Unit {0}
GoesOn from (Nothing below) = from < below

-- where a look shows nothing, it goes on at the first number of a leaf
abbrev pub EndsLeaf : WalkStep → Type 0
EndsLeaf (Next found) = Unit {0}
EndsLeaf (Nothing below) = below % 16 ≡ 0

-- where a look shows nothing, this is so
abbrev pub IfNothing : Type 0 → WalkStep → Type 0
IfNothing P (Next found) = Unit {0}
IfNothing P (Nothing below) = P

-- something is shown
abbrev pub IsNext : WalkStep → Type 0
IsNext (Next found) = Unit {0}
IsNext (Nothing below) = ⊥

-- where a look shows nothing, there is nothing more
abbrev pub EndsAll : WalkStep → Type 0
EndsAll (Next found) = Unit {0}
EndsAll (Nothing below) = 2 ^ 48 ≤ below

-- what a look at a tight leaf, from a number on, shows: an object there that may be included is
pub record LooksTightly (leaf : Leaf) (source : Option ℕ) (number before after : ℕ) (result : Result WalkStep BlockFault) : Type 0 where
  pub ends : IfOk result EndsLeaf
  pub few : IfOk result (IfNothing (after ≤ before + 1))
  pub late : is_after source leaf.ptr.number ≡ true → number ≡ 16 * leaf.index → IfOk result IsNext

-- what a look at a hole in place of leaves, from a number on, shows: all of its numbers have the hole's date
pub record PassesHole (leaf : Leaf) (source : Option ℕ) (from : ℕ) (step : WalkStep) : Type 0 where
  pub ranges : AheadFits from step
  pub goes_on : from < 2 ^ 48 → from < 16 * (leaf.index + leaf.count) → GoesOn from step
  pub ends : EndsLeaf step
  pub late : is_after source leaf.ptr.number ≡ true → from < 2 ^ 48 → from < 16 * (leaf.index + leaf.count) → IsNext step
