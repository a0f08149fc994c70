-- What a call promises that changes a set, whatever the change: said once, over the Io before it and after it.
use Rattle.std.specs.Prelude.{◌≡◌, ℕ, Result, IfErr, IfOk, OnErr, OnOk}
use Rattle.zst_block.specs.Blocks.{Has, SparesTaken}
use Rattle.zst_block.specs.IoCalls.{Works, stop_of as block_stop_of}
use Rattle.zst_block.specs.IoStates.{IoState}
use Rattle.zst_block.specs.declared.fault.BlockFault.{BlockFault}
use Rattle.zst_dnode.specs.declared.dnode.Dnode.{Dnode}
use Rattle.zst_model.specs.declared.refusals.refusal.Refusal.{Refusal}
use Rattle.zst_model.specs.pools.Soundness.{DatedUpTo}
use Rattle.zst_model.specs.states.DatedState.{DatedState}
use Rattle.zst_tree.specs.Indices.{Blocks}
use Rattle.zst_tree.specs.Sets.{SetFits}
use Rattle.zst_tree.specs.declared.tree.ObjSet.{ObjSet}
use Rattle.zst_objset.specs.Answers.{Changes, NotLimit, NotRedacted, stop_of}
use Rattle.zst_objset.specs.Damage.{DamageFact, IfDamaged, IfSetDamaged, IsDamagedSet, IsSetWithin, StandsWithin}
use Rattle.zst_objset.specs.Sets.{SetHolds}
use Rattle.zst_objset.specs.TightSets.{SetIsTight}
use Rattle.zst_objset.specs.declared.fault.ObjFault.{ObjFault}

-- Whatever a set holds, a call that changes it keeps to this. Which sets there are, which E23 may be told and which damage are the caller's to say.
pub record KeepsSet {S : Type 0} (Limits : ObjFault → Type 0) (damage : DamageFact) (most block : ℕ) (old new : IoState) (before after : S) (result : Result (Unit {0}) ObjFault) : Type 0 where
  pub limits : IfErr result Limits
  pub unredacted : IfErr result NotRedacted
  pub damaged : new.disk.honest → IfSetDamaged result damage
  -- a refusal leaves the set as it was
  pub kept : OnErr result (after ≡ before)
  -- so many sectors are taken at most, for blocks of trees or of so many
  pub works : Works most block old new (stop_of result)

-- and it changes the set as a definition does: what holds a state is the caller's to say too
pub record ChangesSet {S : Type 0} (Holds : S → Blocks → DatedState → Type 0) (definition : DatedState → Result DatedState Refusal) (Limits : ObjFault → Type 0) (damage : DamageFact) (most block : ℕ)
    (old new : IoState) (before after : S) (result : Result (Unit {0}) ObjFault) : Type 0 where
  -- the set then holds what the definition makes of what it held, or the definition refuses, or a block does
  pub changed : (state : DatedState) → new.disk.honest → Holds before (Has old.disk.seen old.space) state → Changes (Holds after (Has new.disk.seen new.space)) (definition state) result
  pub keeps : KeepsSet Limits damage most block old new before after result

-- and where what the set held was dated up to the change's number, a set that held it tightly then holds tightly what the definition makes
pub record ChangesTightSet {S : Type 0} (Holds Tight : S → Blocks → DatedState → Type 0) (Fits : S → Type 0) (number : ℕ) (definition : DatedState → Result DatedState Refusal) (Limits : ObjFault → Type 0) (damage : DamageFact) (most block : ℕ)
    (old new : IoState) (before after : S) (result : Result (Unit {0}) ObjFault) : Type 0 where
  pub set : ChangesSet Holds definition Limits damage most block old new before after result
  pub tight : (state : DatedState) → new.disk.honest → Tight before (Has old.disk.seen old.space) state → DatedUpTo number state → Changes (Tight after (Has new.disk.seen new.space)) (definition state) result
  -- the set then fits the bytes in which it is named
  pub levels : OnOk result (Fits after)

-- what is held by the object sets of the store, a set's name first
abbrev pub SetHas : ObjSet → Blocks → DatedState → Type 0
SetHas set has state = SetHolds has set state

abbrev pub SetHasTight : ObjSet → Blocks → DatedState → Type 0
SetHasTight set has state = SetIsTight has set state

-- A dnode is put into a set, whatever the set held: what may be told as damaged of the set then was there before, and so was each other dnode.
pub record PutsInSet (dnode : Dnode) (old new : IoState) (before after : ObjSet) (result : Result (Unit {0}) ObjFault) : Type 0 where
  pub keeps : KeepsSet NotLimit (IsDamagedSet (SparesTaken old.space old.disk.seen) old.disk.size before) 240 16 old new before after result
  pub within : new.disk.honest → OnOk result (IsSetWithin (SparesTaken old.space old.disk.seen) old.disk.size before (SparesTaken new.space new.disk.seen) after)
  pub stands : new.disk.honest → OnOk result (StandsWithin (λ other. other ≡ dnode) (SparesTaken old.space old.disk.seen) before (SparesTaken new.space new.disk.seen) after)
  pub levels : OnOk result (SetFits after)

-- a set is made of another by changes of leaves, into which such dnodes may be put, whatever that held: the same of damage, and at most so many sectors are taken
pub record MakesSet (Put : Dnode → Type 0) (most : ℕ) (old new : IoState) (set : ObjSet) (result : Result ObjSet BlockFault) : Type 0 where
  pub damaged : new.disk.honest → IfDamaged result (IsDamagedSet (SparesTaken old.space old.disk.seen) old.disk.size set)
  pub within : new.disk.honest → IfOk result (IsSetWithin (SparesTaken old.space old.disk.seen) old.disk.size set (SparesTaken new.space new.disk.seen))
  pub stands : new.disk.honest → IfOk result (StandsWithin Put (SparesTaken old.space old.disk.seen) set (SparesTaken new.space new.disk.seen))
  pub works : Works most 16 old new (block_stop_of result)
