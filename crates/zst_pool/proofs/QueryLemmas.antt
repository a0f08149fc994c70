-- What a set's answer is as the answer of a command that only reads.
use Rattle.std.specs.Prelude.{Result, Ok, Err, IfErr, Option, Some, None}
use Rattle.std.proofs.Common.{◌≡◌, inr, ℕ, ◌+◌, ◌^◌, List, [], refl, sym, ap, ◌∙◌, subst}
use Rattle.zst_block.specs.Blocks.{Has}
use Rattle.zst_block.specs.IoStates.{IoState}
use Rattle.zst_block.proofs.IoCallLemmas.{Looks-none}
use Rattle.zst_dnode.specs.declared.dnode.Dnode.{Dnode}
use Rattle.zst_dir.specs.Rows.{Rows}
use Rattle.zst_dir.specs.RowNames.{AreNamed}
use Rattle.zst_image.specs.declared.pool_state.PoolState.{PoolState}
use Rattle.zst_block.specs.declared.fault.BlockFault.TheVariants as blocks
use Rattle.zst_model.specs.declared.refusals.faults.Quantity.{Quantity}
use Rattle.zst_model.specs.declared.refusals.faults.Quantity.TheVariants as quantities
use Rattle.zst_model.specs.declared.refusals.subjects.Name.{Name}
use Rattle.zst_model.specs.declared.refusals.plan_fault.PlanFault.{PlanFault}
use Rattle.zst_model.specs.declared.refusals.plan_fault.PlanFault.TheVariants as plans
use Rattle.zst_model.specs.declared.refusals.refusal.Refusal.{Refusal}
use Rattle.zst_model.specs.states.DatedState.{DatedState}
use Rattle.zst_model.specs.states.State.{Block, Object, index_bound}
use Rattle.zst_model.specs.pools.Pool.{Pool}
use Rattle.zst_model.specs.declared.pools.command.Command.TheVariants as commands
use Rattle.zst_model.specs.declared.refusals.apply_fault.ApplyFault.TheVariants.{NoObject}
use Rattle.zst_model.specs.declared.refusals.subjects.AbsentSubject.TheVariants as missing
use Rattle.zst_model.specs.pools.Step.{Stepped, block_read, cannot_apply, no_such, or_else, state_named, stepped}
use Rattle.zst_tree.specs.Indices.{Blocks}
use Rattle.zst_tree.specs.declared.tree.ObjSet.{ObjSet}
use Rattle.zst_objset.specs.Answers.{IsDiskFault, LimitOnly, Refuses}
use Rattle.zst_objset.specs.Answers as sets
use Rattle.zst_objset.specs.Changes.{block_lines, block_told}
use Rattle.zst_objset.specs.Damage.{DamageFact, IfSetDamaged}
use Rattle.zst_objset.specs.Dnodes.{DnodeAt, DnodeIs}
use Rattle.zst_objset.specs.declared.fault.ObjFault.{ObjFault}
use Rattle.zst_objset.specs.declared.fault.ObjFault.TheVariants as set_faults
use Rattle.zst_pool.specs.Damage.{IsOf, OfSet}
use Rattle.zst_pool.specs.Faults.{StepFault, of_set}
use Rattle.zst_pool.specs.Lookups.{FindsState, set_named}
use Rattle.zst_pool.specs.Plans.{IsPast}
use Rattle.zst_pool.specs.Queries.{HoldsNamed, Tells, stop_of}
use Rattle.zst_pool.proofs.LookupLemmas.{some_found}
use Rattle.zst_pool.proofs.NamedPools.{rows_named}
use Rattle.zst_pool.specs.declared.fault.PoolFault.{PoolFault}
use Rattle.zst_pool.specs.declared.fault.PoolFault.TheVariants as faults

-- a command stops where the set did
pub stop_set : (T U : Type 0) (fault : ObjFault) → sets.stop_of {T = U} (Err fault) ≡ stop_of {T = T} (Err (of_set fault))
stop_set T U (set_faults.CannotApply fault) = refl
stop_set T U (set_faults.Redacted object block) = refl
stop_set T U (set_faults.Limit which number) = refl
stop_set T U (set_faults.Block (blocks.Full need largest)) = refl
stop_set T U (set_faults.Block (blocks.Damaged sector stated found)) = refl
stop_set T U (set_faults.Block blocks.DiskFault) = refl

-- no set answers E31
pub set_open : (fault : ObjFault) → of_set fault ≡ faults.Failed → ⊥
set_open (set_faults.CannotApply fault) is = absurd (cc)
set_open (set_faults.Redacted object block) is = absurd (cc)
set_open (set_faults.Limit which number) is = absurd (cc)
set_open (set_faults.Block (blocks.Full need largest)) is = absurd (cc)
set_open (set_faults.Block (blocks.Damaged sector stated found)) is = absurd (cc)
set_open (set_faults.Block blocks.DiskFault) is = absurd (cc)

-- what a set refuses of a block is refused as its definition
pub block_refused : (pool : Pool) (definition : Result Block Refusal) (fault : ObjFault) → Refuses definition fault → StepFault (Unit {0}) (block_told pool definition) (of_set fault)
block_refused pool definition (set_faults.CannotApply fault) is = (ap (block_told pool) is, tt)
block_refused pool definition (set_faults.Redacted object block) is = (ap (block_told pool) is, tt)
block_refused pool definition (set_faults.Limit which number) is = (ap (block_told pool) is, tt)
block_refused pool definition (set_faults.Block (blocks.Full need largest)) is = ((record { reply = block_lines is.0; pool = pool }, ap (block_told pool) is.1), tt)
block_refused pool definition (set_faults.Block (blocks.Damaged sector stated found)) is = absurd is
block_refused pool definition (set_faults.Block blocks.DiskFault) is = tt

-- a disk that fails is refused whatever the definition
pub disk_refused : (definition : Result Stepped Refusal) (fault : ObjFault) → IsDiskFault fault → StepFault (Unit {0}) definition (of_set fault)
disk_refused definition (set_faults.CannotApply fault) is = absurd is
disk_refused definition (set_faults.Redacted object block) is = absurd is
disk_refused definition (set_faults.Limit which number) is = absurd is
disk_refused definition (set_faults.Block (blocks.Full need largest)) is = absurd is
disk_refused definition (set_faults.Block (blocks.Damaged sector stated found)) is = absurd is
disk_refused definition (set_faults.Block blocks.DiskFault) is = tt

-- a damage that the set tells is told by the command
module _ (P Q : DamageFact) (weaker : (sector : ℕ) (stated found : List ℕ) → P sector stated found → Q sector stated found) where
  pub set_told : (T : Type 0) (fault : ObjFault) → IfSetDamaged {T = T} (Err fault) P → IsOf Q (of_set fault)
  set_told T (set_faults.CannotApply fault) is = λ sector stated found same. absurd (cc)
  set_told T (set_faults.Redacted object block) is = λ sector stated found same. absurd (cc)
  set_told T (set_faults.Limit which number) is = λ sector stated found same. absurd (cc)
  set_told T (set_faults.Block (blocks.Full need largest)) is = λ sector stated found same. absurd (cc)
  set_told T (set_faults.Block (blocks.Damaged at was read)) is = λ sector stated found same.
      let first : at ≡ sector = cc in
      let second : was ≡ stated = cc in
      let third : read ≡ found = cc in
      subst (λ (n : ℕ). Q n stated found) first (subst (λ (l : List ℕ). Q at l found) second (subst (λ (l : List ℕ). Q at was l) third (weaker at was read is)))
  set_told T (set_faults.Block blocks.DiskFault) is = λ sector stated found same. absurd (cc)

-- a limit that a read tells is that of the index
pub index_past : (index : ℕ) (called : ObjFault) (fault : PlanFault) → LimitOnly quantities.Block index_bound (index + 1) called → of_set called ≡ faults.Plan fault → IsPast 0 (index + 1) fault
unfolding index_bound
index_past index (set_faults.CannotApply apply) fault limits is = absurd (cc)
index_past index (set_faults.Redacted object block) fault limits is = absurd (cc)
index_past index (set_faults.Limit which number) fault limits is =
    let same : plans.Limit which number ≡ fault = cc in
    let both : plans.Limit which number ≡ plans.Limit quantities.Block (2 ^ 43) = ap (λ (w : Quantity). plans.Limit w number) limits.0 ∙ ap (λ (n : ℕ). plans.Limit quantities.Block n) limits.1 in
    inr (sym same ∙ both, limits.2)
index_past index (set_faults.Block (blocks.Full need largest)) fault limits is = absurd (cc)
index_past index (set_faults.Block (blocks.Damaged sector stated found)) fault limits is = absurd (cc)
index_past index (set_faults.Block blocks.DiskFault) fault limits is = absurd (cc)

-- a set that is found holds the state of its name
pub holds_named : (has : Blocks) (name : Name) (pool : Pool) (set : ObjSet) → FindsState has (state_named name pool) (Some set) → HoldsNamed has name pool set
holds_named has name pool set is = go (state_named name pool) refl is
  where
    go : (found : Option DatedState) → state_named name pool ≡ found → FindsState has found (Some set) → HoldsNamed has name pool set
    go None same holds = absurd holds
    go (Some state) same holds = record { state = state; named = same; holds = holds }

-- a buffer that is as long as the blocks of a dnode is so of the object's
pub long_enough : (has : Blocks) (state : DatedState) (k : ℕ) (dnode : Dnode) (found : Option Dnode) → found ≡ Some dnode → DnodeIs has state k found → (count : ℕ) → count ≡ dnode.block_size
    → (there : Object) → state.state k ≡ Some there → count ≡ there.attr.block_size
long_enough has state k dnode found some is count sized there at =
    let finds = some_found has (state.state k) (state.number_date k) (state.index_date k) dnode (subst (λ (f : Option Dnode). DnodeAt has (state.state k) (state.number_date k) (state.index_date k) f) some is) in
    let first = finds.1 in
    let same : finds.0 ≡ there = cc in
    sized ∙ finds.2 ∙ ap (λ (o : Object). o.attr.block_size) same

-- E3 where the pool has no state of this name
pub tells_missing : (definition : Pool → Result Stepped Refusal) (damage : DamageFact) (kept : PoolState) (io : IoState) (name : Name)
    → ((pool : Pool) → state_named name pool ≡ None → definition pool ≡ Err (no_such name)) → ((pool : Pool) → AreNamed kept.dir pool → state_named name pool ≡ None)
    → Tells definition damage kept io io (Err (faults.Plan (plans.NoSuch (missing.Named name))))
tells_missing definition damage kept io name refused absent = record {
  told = λ pool honest runs. (refused pool (absent pool (rows_named (Has io.disk.seen io.space) kept.dir pool runs)), tt);
  looks = Looks-none io;
  open_still = λ same. absurd (cc);
  damaged = λ honest sector stated found same. absurd (cc);
}

-- the damage of a set is that of the set which has the name
pub of_named : {T : Type 0} (rows : Rows) (name : Name) (Is : ObjSet → DamageFact) (set : ObjSet) → set_named name rows ≡ Some set → (result : Result T PoolFault) → IfErr result (IsOf (Is set)) → IfErr result (IsOf (OfSet rows name Is))
of_named rows name Is set named (Ok value) is = tt
of_named rows name Is set named (Err fault) is = λ sector stated found same. (set, named, is sector stated found same)

-- what a read of a name is, where it is there and where it isn't
pub read_missing : (now k i : ℕ) (name : Name) (pool : Pool) → state_named name pool ≡ None → stepped [] now (commands.Read name k i) pool ≡ Err (no_such name)
unfolding stepped
read_missing now k i name pool none = rw none refl

pub read_there : (now k i : ℕ) (name : Name) (pool : Pool) (state : DatedState) → state_named name pool ≡ Some state
    → stepped [] now (commands.Read name k i) pool ≡ or_else (cannot_apply NoObject) (state.state k) (λ object. block_read pool k i (object.blocks i))
unfolding stepped
read_there now k i name pool state some = rw some refl
