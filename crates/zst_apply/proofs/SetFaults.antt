-- What calls one after another tell of damage and of limits.
use Rattle.std.proofs.Common.{inl, inr, ◌⊎◌, ℕ, List, subst, Result, Err}
use Rattle.std.specs.Prelude.{Option, IfErr, OnOk}
use Rattle.zst_space.specs.FreeSectors.{FreeSectors}
use Rattle.zst_block.specs.Blocks.{SparesTaken}
use Rattle.zst_block.specs.IoStates.{IoState}
use Rattle.zst_block.specs.IoCalls.{Looks}
use Rattle.zst_block.specs.declared.fault.BlockFault.{BlockFault}
use Rattle.zst_tree.specs.Damage.{IsSeen, NamesNode, SumsUp}
use Rattle.zst_tree.specs.declared.tree.ObjSet.{ObjSet}
use Rattle.zst_dnode.specs.declared.dnode.Dnode.{Dnode}
use Rattle.zst_model.specs.declared.refusals.faults.Quantity.{Quantity}
use Rattle.std.proofs.lemmas.Result.{IfErr-weaker}
use Rattle.zst_objset.specs.Answers.{LimitOnly}
use Rattle.zst_objset.specs.Damage.{AreTreesWithin, IfSetDamaged, IsDamagedObject, IsDamagedSet}
use Rattle.zst_objset.specs.declared.fault.ObjFault.{ObjFault}
use Rattle.zst_objset.specs.declared.fault.ObjFault.TheVariants as faults
use Rattle.zst_objset.proofs.DamageLaws.{IfSetDamaged-weaker, object_told, set_spared}
use Rattle.zst_objset.proofs.LeafLaws.{look_back}
use Rattle.zst_apply.specs.AppliedRecords.{LimitOfIndex}
use Rattle.zst_apply.specs.Damage.{apply_damage}
use Rattle.std.proofs.Common.{arith, ◌≤◌}

module _ (images : List ℕ → Type 0) (size : ℕ) (set : ObjSet) where
  -- a node that isn't one by its name sums nothing up
  names_tree : (sector : ℕ) (stated found : List ℕ) → IsDamagedObject images size NamesNode set sector stated found → apply_damage images size set sector stated found
  names_tree sector stated found (inl told) = inl told
  names_tree sector stated found (inr told) = inr (record {
    dnode = told.dnode;
    stands = told.stands;
    damaged = record {
      at = told.damaged.at;
      ptr = told.damaged.ptr;
      reached = told.damaged.reached;
      sector_is = told.damaged.sector_is;
      stated_is = told.damaged.stated_is;
      found_is = wrong told.damaged.found_is;
    };
  })
    where
      wrong : {P Q : Type 0} → {at : ℕ} → P ⊎ (Q × (¬ NamesNode at told.damaged.ptr)) → P ⊎ (Q × (¬ SumsUp images at told.damaged.ptr))
      wrong (inl sums) = inl sums
      wrong (inr other) = inr (other.0, λ right. other.1 right.names)

  pub names_told : (result : Result (Unit {0}) ObjFault) → IfSetDamaged result (IsDamagedObject images size NamesNode set) → IfSetDamaged result (apply_damage images size set)
  names_told result told = IfSetDamaged-weaker (IsDamagedObject images size NamesNode set) (apply_damage images size set) names_tree result told

  pub slots_told : (result : Result (Unit {0}) ObjFault) → IfSetDamaged result (IsDamagedSet images size set) → IfSetDamaged result (apply_damage images size set)
  slots_told result told = object_told images size (SumsUp images) set result told

-- a damage of the slots that a read tells
pub read_told : (space : FreeSectors) (seen : List ℕ) (size : ℕ) (set : ObjSet) (fault : ObjFault) → IfSetDamaged {T = Dnode} (Err fault) (IsDamagedSet (IsSeen seen) size set)
    → IfSetDamaged {T = Unit {0}} (Err fault) (apply_damage (SparesTaken space seen) size set)
read_told space seen size set fault told = slots_told (SparesTaken space seen) size set (Err fault) (set_spared _ _ _ set Dnode (Unit {0}) fault told)

-- what is told after a call that only read is told of what was there
pub told_before : {old mid : IoState} {stop : Option BlockFault} → Looks old mid stop → (set : ObjSet) (result : Result (Unit {0}) ObjFault)
    → IfSetDamaged result (apply_damage (SparesTaken mid.space mid.disk.seen) mid.disk.size set) → IfSetDamaged result (apply_damage (SparesTaken old.space old.disk.seen) old.disk.size set)
told_before {old} {mid} looks set result told =
    look_back (λ (seen : List ℕ) (free : FreeSectors). IfSetDamaged result (apply_damage (SparesTaken free seen) old.disk.size set)) looks
    (subst (λ (size : ℕ). IfSetDamaged result (apply_damage (SparesTaken mid.space mid.disk.seen) size set)) looks.reads.size told)

-- so it is of what may be told after a change
pub within_looked : {old mid : IoState} {stop : Option BlockFault} → Looks old mid stop → (fewer : List ℕ → Type 0) (set made : ObjSet) (result : Result (Unit {0}) ObjFault)
    → OnOk result (AreTreesWithin (SparesTaken mid.space mid.disk.seen) mid.disk.size set fewer made) → OnOk result (AreTreesWithin (SparesTaken old.space old.disk.seen) old.disk.size set fewer made)
within_looked {old} {mid} looks fewer set made result within =
    look_back (λ (seen : List ℕ) (free : FreeSectors). OnOk result (AreTreesWithin (SparesTaken free seen) old.disk.size set fewer made)) looks
    (subst (λ (size : ℕ). OnOk result (AreTreesWithin (SparesTaken mid.space mid.disk.seen) size set fewer made)) looks.reads.size within)

-- a limit that can't be passed
inside_limit : (which : Quantity) (limit past : ℕ) → past ≤ limit → (fault : ObjFault) → LimitOnly which limit past fault → LimitOfIndex fault
inside_limit which limit past inside (faults.CannotApply fault) is = tt
inside_limit which limit past inside (faults.Redacted object block) is = tt
inside_limit which limit past inside (faults.Limit other number) is = let over = is.2 in absurd (omega (arith, inside, over))
inside_limit which limit past inside (faults.Block fault) is = tt

pub inside : (which : Quantity) (limit past : ℕ) (result : Result (Unit {0}) ObjFault) → past ≤ limit → IfErr result (LimitOnly which limit past) → IfErr result LimitOfIndex
inside which limit past result under is = IfErr-weaker result (LimitOnly which limit past) LimitOfIndex (inside_limit which limit past under) is
