-- What a part of a command tells as damaged is told by the command.
use Rattle.std.specs.Prelude.{Result, Ok, Err}
use Rattle.std.proofs.Common.{◌≡◌, ℕ, List, sym, subst}
use Rattle.zst_block.specs.declared.fault.BlockFault.TheVariants.{Full, Damaged, DiskFault}
use Rattle.zst_objset.specs.Damage.{DamageFact, IfSetDamaged}
use Rattle.zst_objset.specs.declared.fault.ObjFault.{ObjFault}
use Rattle.zst_objset.specs.declared.fault.ObjFault.TheVariants.{CannotApply, Redacted, Limit, Block}
use Rattle.zst_objset.specs.OrMemory.{IfTold}
use Rattle.zst_pool.specs.Heads.{of_call}
use Rattle.zst_tree.specs.declared.or_memory.OrMemory.{OrMemory}
use Rattle.zst_tree.specs.declared.or_memory.OrMemory.TheVariants.{Fault, Memory}

module _ (P Q : DamageFact) (weaker : (sector : ℕ) (stated found : List ℕ) → P sector stated found → Q sector stated found) where
  damaged_fault : (T U : Type 0) (fault : OrMemory ObjFault) → IfTold {T = T} (Err fault) P → IfTold {T = U} (Err fault) Q
  damaged_fault T U (Fault (CannotApply fault)) is = tt
  damaged_fault T U (Fault (Redacted object block)) is = tt
  damaged_fault T U (Fault (Limit which number)) is = tt
  damaged_fault T U (Fault (Block (Full need largest))) is = tt
  damaged_fault T U (Fault (Block (Damaged sector stated found))) is = weaker sector stated found is
  damaged_fault T U (Fault (Block DiskFault)) is = tt
  damaged_fault T U Memory is = tt

  -- one that fell as a part of it did
  pub damaged_err : (T : Type 0) {U : Type 0} (fault : OrMemory ObjFault) (r : Result U (OrMemory ObjFault)) → r ≡ Err fault → IfTold {T = T} (Err fault) P → IfTold r Q
  damaged_err T {U = U} fault r same is = subst (λ (x : Result U (OrMemory ObjFault)). IfTold x Q) (sym same) (damaged_fault T U fault is)

  -- one that answers as a call of an object set
  pub damaged_call : (called : Result (Unit {0}) ObjFault) (answer : Result (Unit {0}) (OrMemory ObjFault)) → answer ≡ of_call called → IfSetDamaged called P → IfTold answer Q
  damaged_call called answer same is = subst (λ (x : Result (Unit {0}) (OrMemory ObjFault)). IfTold x Q) (sym same) (go called is)
    where
      go : (c : Result (Unit {0}) ObjFault) → IfSetDamaged c P → IfTold (of_call c) Q
      go (Ok done) is = tt
      go (Err fault) is = damaged_fault (Unit {0}) (Unit {0}) (Fault fault) is
