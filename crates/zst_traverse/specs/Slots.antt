-- What the slots of a leaf show of the numbers that may be included.
use Rattle.std.specs.Prelude.{◌≡◌, ℕ, ◌+◌, ◌*◌, ◌<◌, ◌≤◌, true, false, List, Option, Some, None}
use Rattle.zst_dnode.specs.Dnode.{DnodeFits}
use Rattle.zst_dnode.specs.declared.slot.Slot.{Slot}
use Rattle.zst_dnode.specs.declared.slot.Slot.TheVariants as slots
use Rattle.zst_model.specs.sends.Inclusion.{is_after}
use Rattle.zst_objset.specs.Damage.{HasSlot}
use Rattle.zst_objset.specs.Sets.{date_in}
use Rattle.zst_traverse.specs.declared.slots.Glance.{Glance}
use Rattle.zst_traverse.specs.declared.slots.Glance.TheVariants.{Absent, There, Nothing}

-- no slot from one place on and below another tells a date after the source
abbrev pub AreEarly : (ℕ → Slot) → Option ℕ → ℕ → ℕ → Type 0
AreEarly held source from below = (place : ℕ) → from ≤ place → place < below → is_after source (date_in (held place)) ≡ false

-- the first slot from a place on that tells a date after the source
pub record IsFirstSlot (held : ℕ → Slot) (source : Option ℕ) (from : ℕ) (found : ℕ × Slot) : Type 0 where
  pub from_on : from ≤ found.0
  pub under : found.0 < 16
  pub is : held found.0 ≡ found.1
  pub late : is_after source (date_in found.1) ≡ true
  pub none_before : AreEarly held source from found.0

-- what is found is the first, and where nothing is found there is none
abbrev pub FindsSlot : (ℕ → Slot) → Option ℕ → ℕ → Option (ℕ × Slot) → Type 0
FindsSlot held source from None = AreEarly held source from 16
FindsSlot held source from (Some found) = IsFirstSlot held source from found

-- at each place from one on and below another stands an absent slot of a date after the source
abbrev pub AreGone : (ℕ → Slot) → Option ℕ → ℕ → ℕ → Type 0
AreGone held source from below = (place : ℕ) → from ≤ place → place < below → (date : ℕ) × (held place ≡ slots.Absent date) × (is_after source date ≡ true)

-- so many absent numbers, from a place of a leaf on, are the first that tell a date after the source
pub record ShowsAbsent (held : ℕ → Slot) (source : Option ℕ) (leaf from first count : ℕ) : Type 0 where
  pub place : ℕ
  pub first_is : first ≡ 16 * leaf + place
  pub from_on : from ≤ place
  pub some : 0 < count
  pub under : place + count ≤ 16
  pub none_before : AreEarly held source from place
  pub gone : AreGone held source place (place + count)

-- what a glance at the slots of a leaf shows, from a place on
abbrev pub ShowsLate : (ℕ → Slot) → Option ℕ → ℕ → ℕ → Glance → Type 0
ShowsLate held source leaf from (Absent first count) = ShowsAbsent held source leaf from first count
ShowsLate held source leaf from (There place dnode) = IsFirstSlot held source from (place, slots.There dnode)
ShowsLate held source leaf from Nothing = AreEarly held source from 16

-- whatever the slots, what is shown is in the leaf, at or after the place
abbrev pub GlanceFits : ℕ → ℕ → Glance → Type 0
GlanceFits leaf from (Absent first count) = (16 * leaf + from ≤ first) × (0 < count) × (first + count ≤ 16 * leaf + 16)
GlanceFits leaf from (There place dnode) = (from ≤ place) × (place < 16) × DnodeFits dnode
GlanceFits leaf from Nothing = Unit {0}

-- a dnode that is shown stands at its place in the leaf's block
abbrev pub HasGlance : List ℕ → Glance → Type 0
HasGlance bytes (Absent first count) = Unit {0}
HasGlance bytes (There place dnode) = (place < 16) × HasSlot bytes place (slots.There dnode)
HasGlance bytes Nothing = Unit {0}
