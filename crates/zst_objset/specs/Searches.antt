-- What a search for the first object from a number on finds.
use Rattle.std.specs.Prelude.{◌≡◌, ℕ, ◌+◌, ◌*◌, ◌^◌, ◌<◌, ◌≤◌, false, Option, Some, None, Result, Ok, Err}
use Rattle.zst_dnode.specs.Dnode.{DnodeFits}
use Rattle.zst_dnode.specs.declared.dnode.Dnode.{Dnode}
use Rattle.zst_dnode.specs.declared.slot.Slot.{Slot}
use Rattle.zst_dnode.specs.declared.slot.Slot.TheVariants.{There}
use Rattle.zst_model.specs.states.DatedState.{DatedState}
use Rattle.zst_tree.specs.Indices.{Blocks}
use Rattle.zst_objset.specs.Answers.{IsDiskFault}
use Rattle.zst_objset.specs.Dnodes.{IsThere}
use Rattle.zst_objset.specs.Sets.{is_there}
use Rattle.zst_objset.specs.declared.fault.ObjFault.{ObjFault}
use Rattle.zst_objset.specs.declared.searches.SearchStep.{SearchStep}
use Rattle.zst_objset.specs.declared.searches.SearchStep.TheVariants.{Object, Nothing}

-- in the slots from one place on and below another no object stands
abbrev pub AreEmpty : (ℕ → Slot) → ℕ → ℕ → Type 0
AreEmpty slots from below = (place : ℕ) → from ≤ place → place < below → is_there (slots place) ≡ false

-- an object stands in one of the sixteen slots of a leaf, the first from a place on that has one
pub record IsFirstThere (slots : ℕ → Slot) (leaf from number : ℕ) (dnode : Dnode) : Type 0 where
  pub place : ℕ
  pub from_on : from ≤ place
  pub under : place < 16
  pub number_is : number ≡ 16 * leaf + place
  pub there : slots place ≡ There dnode
  pub none_before : AreEmpty slots from place

-- what the slots of a leaf show from a place on: the first object, or that there is none in the leaf
abbrev pub ShowsSlots : (ℕ → Slot) → (leaf from : ℕ) → SearchStep → Type 0
ShowsSlots slots leaf from (Object number dnode) = IsFirstThere slots leaf from number dnode
ShowsSlots slots leaf from (Nothing below) = (below ≡ 16 * leaf + 16) × AreEmpty slots from 16

-- a state has no object from one number on and below another
abbrev pub HasNone : DatedState → ℕ → ℕ → Type 0
HasNone state from below = (k : ℕ) → from ≤ k → k < below → state.state k ≡ None

-- the first object from a number on: its own number, and its dnode
pub record IsNext (has : Blocks) (state : DatedState) (from : ℕ) (found : ℕ × Dnode) : Type 0 where
  pub from_on : from ≤ found.0
  pub none_before : HasNone state from found.0
  pub is : IsThere has state found.0 found.1

-- what one look ahead shows: the first object, or that there is none below a number
abbrev pub ShowsAhead : Blocks → DatedState → ℕ → SearchStep → Type 0
ShowsAhead has state from (Object number dnode) = IsNext has state from (number, dnode)
ShowsAhead has state from (Nothing below) = HasNone state from below

-- what is found is the first object from a number on, and nothing is found where there is none; the disk may fail
abbrev pub FindsNext : Blocks → DatedState → ℕ → Result (Option (ℕ × Dnode)) ObjFault → Type 0
FindsNext has state from (Ok None) = (k : ℕ) → from ≤ k → state.state k ≡ None
FindsNext has state from (Ok (Some found)) = IsNext has state from found
FindsNext has state from (Err fault) = IsDiskFault fault

-- whatever the image, a look from a number on goes on, and what it finds is a number and a dnode in their ranges
abbrev pub IsAfter : ℕ → SearchStep → Type 0
IsAfter from (Object number dnode) = (from ≤ number) × (number < 2 ^ 48) × DnodeFits dnode
IsAfter from (Nothing below) = from < below
