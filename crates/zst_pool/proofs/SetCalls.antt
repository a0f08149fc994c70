-- What a call of an object set does, as a part of a command.
use Rattle.std.specs.Prelude.{Result, Ok, Err, OnOk}
use Rattle.std.proofs.Common.{◌≡◌, ℕ, Option, refl, sym, ap, ◌∙◌, subst}
use Rattle.zst_block.specs.IoCalls.{Works}
use Rattle.zst_block.specs.IoStates.{IoState}
use Rattle.zst_block.specs.declared.fault.BlockFault.TheVariants as block_faults
use Rattle.zst_model.specs.declared.refusals.refusal.Refusal.{Refusal}
use Rattle.zst_model.specs.states.DatedState.{DatedState}
use Rattle.zst_tree.specs.Indices.{Blocks}
use Rattle.zst_tree.specs.declared.tree.ObjSet.{ObjSet}
use Rattle.zst_objset.specs.Answers as sets
use Rattle.zst_image.specs.Reads.{SetIs}
use Rattle.zst_objset.specs.declared.fault.ObjFault.{ObjFault}
use Rattle.zst_objset.specs.declared.fault.ObjFault.TheVariants as set_faults
use Rattle.zst_pool.specs.Heads.{ChangeFault, ChangesHead, of_call}
use Rattle.zst_objset.specs.OrMemory.{stop_of}
use Rattle.zst_tree.specs.declared.or_memory.OrMemory.{OrMemory}
use Rattle.zst_tree.specs.declared.or_memory.OrMemory.TheVariants.{Fault, Memory}

-- only the disk's failure
pub disk_is : (definition : Result DatedState Refusal) (fault : ObjFault) → sets.IsDiskFault fault → ChangeFault definition (Fault fault)
disk_is definition (set_faults.CannotApply fault) is = absurd is
disk_is definition (set_faults.Redacted object block) is = absurd is
disk_is definition (set_faults.Limit which number) is = absurd is
disk_is definition (set_faults.Block (block_faults.Full need largest)) is = absurd is
disk_is definition (set_faults.Block (block_faults.Damaged sector stated found)) is = absurd is
disk_is definition (set_faults.Block block_faults.DiskFault) is = tt

stop_is : (called : Result (Unit {0}) ObjFault) → stop_of (of_call called) ≡ sets.stop_of called
stop_is (Ok done) = refl
stop_is (Err fault) = refl

-- a change stops where it does, whatever it would have given
pub stop_same : (T U : Type 0) (fault : OrMemory ObjFault) → stop_of {T = T} (Err fault) ≡ stop_of {T = U} (Err fault)
stop_same T U (Fault (set_faults.CannotApply fault)) = refl
stop_same T U (Fault (set_faults.Redacted object block)) = refl
stop_same T U (Fault (set_faults.Limit which number)) = refl
stop_same T U (Fault (set_faults.Block fault)) = refl
stop_same T U Memory = refl

module _ (called : Result (Unit {0}) ObjFault) (answer : Result (Unit {0}) (OrMemory ObjFault)) (same : answer ≡ of_call called) where
  -- a call that changes an object set stops where the part of a command does
  pub stopped : sets.stop_of called ≡ stop_of answer
  stopped = sym (ap (λ (r : Result (Unit {0}) (OrMemory ObjFault)). stop_of r) same ∙ stop_is called)

  pub call_works : {most block : ℕ} {old new : IoState} → Works most block old new (sets.stop_of called) → Works most block old new (stop_of answer)
  call_works {most = most} {block = block} {old = old} {new = new} does = subst (Works most block old new) stopped does

  -- and changes the head as its definition says
  pub call_changes : (bound : Option ℕ) (has : Blocks) (set : ObjSet) (definition : Result DatedState Refusal) → sets.Changes (SetIs bound has set) definition called → ChangesHead bound has set definition answer
  call_changes bound has set definition is = subst (ChangesHead bound has set definition) (sym same) (go called is)
    where
      go : (c : Result (Unit {0}) ObjFault) → sets.Changes (SetIs bound has set) definition c → ChangesHead bound has set definition (of_call c)
      go (Ok done) is = is
      go (Err fault) is = is

  -- what holds where the call went well does where the part did
  pub call_ok : (P : Type 0) → OnOk called P → OnOk answer P
  call_ok P is = subst (λ (r : Result (Unit {0}) (OrMemory ObjFault)). OnOk r P) (sym same) (go called is)
    where
      go : (c : Result (Unit {0}) ObjFault) → OnOk c P → OnOk (of_call c) P
      go (Ok done) is = is
      go (Err fault) is = tt

  pub went_well : (P : Type 0) (value : Unit {0}) → answer ≡ Ok value → OnOk called P → P
  went_well P value well is = go called (sym same ∙ well) is
    where
      go : (c : Result (Unit {0}) ObjFault) → of_call c ≡ Ok value → OnOk c P → P
      go (Ok done) well is = is
      go (Err fault) well is = absurd (cc (well))
