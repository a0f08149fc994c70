-- What a look at a leaf that is loaded shows.
use Rattle.std.proofs.Common.{◌≡◌, ◌≢◌, ⊎_elim, ℕ, ◌+◌, ◌-◌, ◌*◌, ◌<◌, ◌≤◌, true, List, sym, ◌∙◌, ap, subst, arith}
use Rattle.std.specs.Prelude.{Option, Result, Ok, Err, IfOk}
use Rattle.zst_block.specs.declared.fault.BlockFault.{BlockFault}
use Rattle.zst_space.specs.FreeSectors.{FreeSectors}
use Rattle.zst_block.specs.Blocks.{Has, named}
use Rattle.zst_dnode.specs.declared.dnode.Dnode.{Dnode}
use Rattle.zst_dnode.specs.declared.slot.Slot.{Slot}
use Rattle.zst_dnode.specs.declared.slot.Slot.TheVariants as slots
use Rattle.zst_model.specs.sends.Inclusion.{is_after, Pairs}
use Rattle.zst_model.specs.states.DatedState.{DatedState}
use Rattle.zst_tree.specs.Damage.{IsSeen, MayHave}
use Rattle.zst_objset.specs.Damage.{IsLoaded, LacksSlot}
use Rattle.zst_objset.specs.Dnodes.{IsThereIn, outside}
use Rattle.zst_objset.specs.Sets.{date_in, IsLeafIn, Spells}
use Rattle.zst_objset.proofs.LeafLaws.{leaf_in}
use Rattle.zst_objset.proofs.SearchLaws.{lacks_none}
use Rattle.zst_traverse.specs.Cells.{choice_after, IsNextGone, NoNumber}
use Rattle.zst_traverse.specs.Leaves.{Advances, AheadFits, EndsAll, EndsLeaf, GoesOn, IfNothing, IsFromIn, IsNext, LooksTightly, NumberFits, ShowsAhead, StandsFor}
use Rattle.zst_traverse.specs.Slots.{AreEarly, IsFirstSlot, ShowsAbsent}
use Rattle.zst_objset.specs.TightSets.{IsTightLeaf, IsTightSlot}
use Rattle.zst_traverse.specs.declared.leaves.WalkStep.{WalkStep}
use Rattle.zst_traverse.specs.declared.leaves.WalkStep.TheVariants as ahead
use Rattle.zst_traverse.specs.declared.leaves.Leaf.{Leaf}
use Rattle.zst_traverse.specs.declared.walk_entry.WalkEntry.{WalkEntry}
use Rattle.zst_traverse.specs.declared.walk_entry.WalkEntry.TheVariants as entries
use Rattle.zst_traverse.proofs.Numbers.{ahead_behind, early_in, gone_in, leaf_late, there_in}

-- the dnode at a place of a leaf is that of an object that tells a late date, and no number from one on and before it is included
pub record ObjectShown (image : List ℕ) (space : FreeSectors) (pairs : Pairs) (snap : DatedState) (leaf : Leaf) (source : Option ℕ) (from at : ℕ) (dnode : Dnode) : Type 0 where
  pub there : IsThereIn (Has image space) (outside pairs (Has image space)) snap (16 * leaf.index + at) dnode
  pub late : is_after source (date_in (slots.There dnode)) ≡ true
  pub tight : IsTightLeaf (Has image space) snap leaf.index leaf.ptr → IsTightSlot snap (16 * leaf.index + at) (slots.There dnode)
  pub behind : (shown : WalkStep) → ShowsAhead (Has image space) (outside pairs (Has image space)) snap (choice_after source) (16 * leaf.index + at) shown → ShowsAhead (Has image space) (outside pairs (Has image space)) snap (choice_after source) from shown

module _ (image : List ℕ) (space : FreeSectors) (pairs : Pairs) (snap : DatedState) (source : Option ℕ) (from : ℕ) (leaf : Leaf) (at_leaf : IsFromIn from leaf) (isnt : leaf.ptr.kind ≢ 0) (node : List ℕ) (stands : StandsFor (Has image space) (outside pairs (Has image space)) snap leaf) (loaded : IsLoaded (IsSeen image) leaf.ptr node) where
  leaf_is : IsLeafIn (Has image space) (outside pairs (Has image space)) snap leaf.index leaf.ptr
  leaf_is = let some = at_leaf.count.0 in leaf_in (Has image space) (outside pairs (Has image space)) snap leaf.index leaf.ptr (stands leaf.index (omega arith) (omega (arith, some)) at_leaf.index) isnt

  may_same : MayHave (IsSeen image) leaf.ptr node → node ≡ leaf_is.bytes
  may_same may = sym may.block.bytes_are ∙ ap (λ (i : List ℕ). named i leaf.ptr) may.among ∙ leaf_is.names.there.block.bytes_are

  node_is : node ≡ leaf_is.bytes
  node_is = ⊎_elim (λ hole. absurd (isnt hole.0)) (λ there. may_same there.1) loaded

  -- what is loaded spells the slots of the leaf
  spelled : Spells node leaf_is.slots
  spelled = subst (λ (b : List ℕ). Spells b leaf_is.slots) (sym node_is) leaf_is.names.spells

  -- so each slot of it is one
  pub not_lacking : LacksSlot node → ⊥
  not_lacking lacks = lacks_none node leaf_is.slots spelled lacks

  -- a slot of a tight leaf is tight
  tight_slot : IsTightLeaf (Has image space) snap leaf.index leaf.ptr → (at : ℕ) (dnode : Dnode) → at < 16 → leaf_is.slots at ≡ slots.There dnode → IsTightSlot snap (16 * leaf.index + at) (slots.There dnode)
  tight_slot tight at dnode under is = subst (IsTightSlot snap (16 * leaf.index + at)) is (tight leaf_is.bytes leaf_is.slots leaf_is.names.there leaf_is.names.spells at under)

  -- the place of the number in the leaf
  abbrev place : ℕ
  place = from - 16 * leaf.index

  split : 16 * leaf.index + place ≡ from
  split = let over = at_leaf.from.1 in omega (arith, over)

  some : 0 < 16 * leaf.index + place
  some = let first = at_leaf.from.0 in omega (arith, split, first)

  pub nothing_shown : ((held : ℕ → Slot) → Spells node held → AreEarly held source place 16) → NoNumber snap (choice_after source) from (16 * leaf.index + 16)
  nothing_shown early =
      subst (λ (n : ℕ). NoNumber snap (choice_after source) n (16 * leaf.index + 16)) split
      (early_in (Has image space) (outside pairs (Has image space)) snap source leaf.index leaf_is.slots leaf_is.slots_are at_leaf.index place 16 (omega arith) some (early leaf_is.slots spelled))

  pub gone_shown : (first count : ℕ) → ((held : ℕ → Slot) → Spells node held → ShowsAbsent held source leaf.index place first count) → IsNextGone snap (choice_after source) from first count
  gone_shown first count shows =
      subst (λ (n : ℕ). IsNextGone snap (choice_after source) n first count) split
      (gone_in (Has image space) (outside pairs (Has image space)) snap source leaf.index leaf_is.slots leaf_is.slots_are at_leaf.index place first count some (shows leaf_is.slots spelled))

  -- an object that tells a late date
  pub object_shown : (at : ℕ) (dnode : Dnode) → ((held : ℕ → Slot) → Spells node held → IsFirstSlot held source place (at, slots.There dnode)) → ObjectShown image space pairs snap leaf source from at dnode
  object_shown at dnode shows =
      let first = shows leaf_is.slots spelled in
      let over : place ≤ at = first.from_on in
      let under : at < 16 = first.under in
      record {
        there = there_in (Has image space) (outside pairs (Has image space)) snap source leaf.index leaf_is.slots leaf_is.slots_are at_leaf.index place at dnode some first;
        late = first.late;
        tight = λ tight. tight_slot tight at dnode under first.is;
        behind = λ shown next.
            ahead_behind (Has image space) (outside pairs (Has image space)) snap source from (16 * leaf.index + at) shown (omega (arith, split, over))
            (subst (λ (n : ℕ). NoNumber snap (choice_after source) n (16 * leaf.index + at)) split
            (early_in (Has image space) (outside pairs (Has image space)) snap source leaf.index leaf_is.slots leaf_is.slots_are at_leaf.index place at (omega arith) some first.none_before))
            next;
      }

  -- a leaf of a late pointer shows something from its first number on
  pub late_shown : is_after source leaf.ptr.number ≡ true → from ≡ 16 * leaf.index → ((held : ℕ → Slot) → Spells node held → AreEarly held source place 16) → ⊥
  late_shown late start early =
      let first : place ≡ 0 = omega arith in
      leaf_late (Has image space) (outside pairs (Has image space)) snap source leaf.index leaf.ptr leaf_is late (subst (λ (p : ℕ). AreEarly leaf_is.slots source p 16) first (early leaf_is.slots spelled))

-- where something is shown nothing is said of what isn't
next_ends : (shown : WalkStep) → IsNext shown → EndsLeaf shown
next_ends (ahead.Next found) next = tt
next_ends (ahead.Nothing below) next = absurd next

next_some : (P : Type 0) (shown : WalkStep) → IsNext shown → IfNothing P shown
next_some P (ahead.Next found) next = tt
next_some P (ahead.Nothing below) next = absurd next

pub next_all : (shown : WalkStep) → IsNext shown → EndsAll shown
next_all (ahead.Next found) next = tt
next_all (ahead.Nothing below) next = absurd next

pub if_ok : {T : Type 0} → (P Q : T → Type 0) → ((value : T) → P value → Q value) → (result : Result T BlockFault) → IfOk result P → IfOk result Q
if_ok P Q more (Ok value) is = more value is
if_ok P Q more (Err fault) is = tt

pub if_nothing : (P : Type 0) (shown : WalkStep) → P → IfNothing P shown
if_nothing P (ahead.Next found) is = tt
if_nothing P (ahead.Nothing below) is = is

-- a look that shows something, or stops at a fault
pub next_tightly : {leaf : Leaf} {source : Option ℕ} {from before after : ℕ} → (result : Result WalkStep BlockFault) → IfOk result IsNext → LooksTightly leaf source from before after result
next_tightly {leaf} {source} {from} {before} {after} result next = record {
  ends = if_ok IsNext EndsLeaf next_ends result next;
  few = if_ok IsNext (IfNothing (after ≤ before + 1)) (next_some (after ≤ before + 1)) result next;
  late = λ late start. next;
}

-- a number at or after one is so of an earlier one
pub number_fits : (from number : ℕ) → from ≤ number → (found : WalkEntry) → NumberFits number found → NumberFits from found
number_fits from number on (entries.Object k dnode) is = (omega (arith, on, is.0), is.1, is.2)
number_fits from number on (entries.Gone first count) is = (omega (arith, on, is.0), is.1, is.2)
number_fits from number on (entries.Pairs object first count what ptr) is = is

-- what a look shows that goes on past a number, it shows from an earlier one on
module _ (from number : ℕ) (on : from ≤ number) where
  pub advanced_fits : (result : Result WalkStep BlockFault) → IfOk result (Advances number) → IfOk result (AheadFits from)
  advanced_fits (Ok (ahead.Next found)) is = number_fits from number on found is
  advanced_fits (Ok (ahead.Nothing below)) is = omega (arith, on, is)
  advanced_fits (Err fault) is = tt

  pub advanced_on : (result : Result WalkStep BlockFault) → IfOk result (Advances number) → IfOk result (GoesOn from)
  advanced_on (Ok (ahead.Next found)) is = tt
  advanced_on (Ok (ahead.Nothing below)) is = omega (arith, on, is)
  advanced_on (Err fault) is = tt

  pub passes_from : (result : Result WalkStep BlockFault) → IfOk result (AheadFits number) → IfOk result (GoesOn number) → IfOk result (Advances from)
  passes_from (Ok (ahead.Next found)) fits goes = number_fits from number on found fits
  passes_from (Ok (ahead.Nothing below)) fits goes = omega (arith, on, goes)
  passes_from (Err fault) fits goes = tt
