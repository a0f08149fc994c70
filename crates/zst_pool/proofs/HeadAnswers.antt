-- What a command answers whose head couldn't be changed, and at what block fault it stopped.
use Rattle.std.specs.Prelude.{Option, Some, None, Result, Ok, Err, IfErr, OnOk, is_ok}
use Rattle.std.proofs.Common.{◌≡◌, ℕ, true, false, List, refl, sym, ap, ◌∙◌, subst}
use Rattle.zst_block.specs.IoCalls as blocks
use Rattle.zst_block.specs.declared.fault.BlockFault.{BlockFault}
use Rattle.zst_block.specs.declared.fault.BlockFault.TheVariants.{Full, Damaged, DiskFault}
use Rattle.zst_model.specs.declared.refusals.plan_fault.PlanFault.{PlanFault}
use Rattle.zst_model.specs.declared.refusals.refusal.Refusal.{Refusal}
use Rattle.zst_model.specs.refusals.Refusal.{refusal_of}
use Rattle.zst_model.specs.states.AppliedItems.{◌>>=◌}
use Rattle.zst_model.specs.states.DatedState.{DatedState}
use Rattle.zst_model.specs.pools.Pool.{Pool}
use Rattle.zst_model.specs.pools.Step.{Stepped, committed}
use Rattle.zst_tree.specs.Indices.{Blocks}
use Rattle.zst_tree.specs.declared.tree.ObjSet.{ObjSet}
use Rattle.zst_objset.specs.declared.fault.ObjFault.TheVariants.{CannotApply, Redacted, Limit, Block}
use Rattle.zst_pool.specs.Checks.{next_of, with_head_of}
use Rattle.zst_pool.specs.Faults.{StepFault, of_set, or_memory}
use Rattle.zst_pool.specs.Heads.{ChangeFault, ChangesHead, JudgesHead, Stops, is_accepted, of_change}
use Rattle.zst_objset.specs.OrMemory.{stop_of}
use Rattle.zst_pool.specs.declared.fault.PoolFault.{PoolFault}
use Rattle.zst_pool.specs.declared.fault.PoolFault.TheVariants as faults
use Rattle.zst_tree.specs.declared.or_memory.OrMemory.{OrMemory}
use Rattle.zst_objset.specs.declared.fault.ObjFault.{ObjFault}
use Rattle.zst_tree.specs.declared.or_memory.OrMemory.TheVariants.{Fault, Memory}

-- a command stops as the change of its head did
pub stops_of : (fault : OrMemory ObjFault) → Stops (stop_of {T = Unit {0}} (Err fault)) (or_memory of_set fault)
stops_of (Fault (CannotApply fault)) = record { fails = refl; told = λ whole. whole; disk = λ is. absurd (cc); full = λ need largest is. absurd (cc); open_still = λ is. cc }
stops_of (Fault (Redacted object block)) = record { fails = refl; told = λ whole. whole; disk = λ is. absurd (cc); full = λ need largest is. absurd (cc); open_still = λ is. cc }
stops_of (Fault (Limit which number)) = record { fails = refl; told = λ whole. whole; disk = λ is. absurd (cc); full = λ need largest is. absurd (cc); open_still = λ is. cc }
stops_of (Fault (Block (Full n l))) = record {
  fails = refl;
  told = λ whole. whole;
  disk = λ is. absurd (cc);
  full = λ need largest is.
      let needed : n ≡ need = cc in
      let left : l ≡ largest = cc in
      ap (λ (m : ℕ). Some (Full m l)) needed ∙ ap (λ (m : ℕ). Some (Full need m)) left;
  open_still = λ is. cc;
}
stops_of (Fault (Block (Damaged sector stated found))) = record { fails = refl; told = λ whole. whole; disk = λ is. absurd (cc); full = λ need largest is. absurd (cc); open_still = λ is. cc }
stops_of (Fault (Block DiskFault)) = record { fails = refl; told = λ whole. whole; disk = λ is. refl; full = λ need largest is. absurd (cc); open_still = λ is. cc }
stops_of Memory = record { fails = refl; told = λ whole. whole; disk = λ is. absurd (cc); full = λ need largest is. absurd (cc); open_still = λ is. cc }

-- or is refused by the number of the commit, and by memory, where the change went well
pub plan_stops : (stop : Option BlockFault) (plan : PlanFault) → stop ≡ None → Stops stop (faults.Plan plan)
plan_stops stop plan none = record { fails = ap blocks.fails none; told = λ whole. ap blocks.is_damage none; disk = λ is. absurd (cc); full = λ need largest is. absurd (cc); open_still = λ is. cc }

pub memory_stops : (stop : Option BlockFault) → stop ≡ None → Stops stop faults.OutOfMemory
memory_stops stop none = record { fails = ap blocks.fails none; told = λ whole. ap blocks.is_damage none; disk = λ is. absurd (cc); full = λ need largest is. absurd (cc); open_still = λ is. cc }

-- where the definition accepts, the disk didn't fail
pub accepted_fails : (changed : Result (Unit {0}) (OrMemory ObjFault)) → is_accepted changed ≡ true → blocks.fails (stop_of changed) ≡ false
accepted_fails (Ok done) is = refl
accepted_fails (Err (Fault (CannotApply fault))) is = absurd (cc)
accepted_fails (Err (Fault (Redacted object block))) is = absurd (cc)
accepted_fails (Err (Fault (Limit which number))) is = absurd (cc)
accepted_fails (Err (Fault (Block (Full need largest)))) is = refl
accepted_fails (Err (Fault (Block (Damaged sector stated found)))) is = absurd (cc)
accepted_fails (Err (Fault (Block DiskFault))) is = absurd (cc)
accepted_fails (Err Memory) is = absurd (cc)

-- the answer of a change stops where it did
pub answer_stops : (changed : Result (Unit {0}) (OrMemory ObjFault)) (answer : Result (Unit {0}) PoolFault) → answer ≡ of_change changed → IfErr answer (Stops (stop_of changed))
answer_stops changed answer same = subst (λ (r : Result (Unit {0}) PoolFault). IfErr r (Stops (stop_of changed))) (sym same) (go changed)
  where
    go : (c : Result (Unit {0}) (OrMemory ObjFault)) → IfErr (of_change c) (Stops (stop_of c))
    go (Ok done) = tt
    go (Err fault) = stops_of fault

pub answer_none : (changed : Result (Unit {0}) (OrMemory ObjFault)) (answer : Result (Unit {0}) PoolFault) → answer ≡ of_change changed → OnOk answer (stop_of changed ≡ None)
answer_none changed answer same = subst (λ (r : Result (Unit {0}) PoolFault). OnOk r (stop_of changed ≡ None)) (sym same) (go changed)
  where
    go : (c : Result (Unit {0}) (OrMemory ObjFault)) → OnOk (of_change c) (stop_of c ≡ None)
    go (Ok done) = refl
    go (Err fault) = tt

module _ (has : Blocks) (set : ObjSet) (name : List ℕ) (pool : Pool) (change : Result DatedState Refusal) where
  abbrev pub next : DatedState → Result Stepped Refusal
  next after = committed (with_head_of name after pool)

  -- where the definition doesn't accept, it refuses the command too
  refused_as : (fault : OrMemory ObjFault) → is_accepted (Err fault) ≡ false → ChangeFault change fault → StepFault (Unit {0}) (change >>= next) (or_memory of_set fault)
  refused_as (Fault (CannotApply fault)) apart is = (ap (λ (r : Result DatedState Refusal). r >>= next) is, tt)
  refused_as (Fault (Redacted object block)) apart is = (ap (λ (r : Result DatedState Refusal). r >>= next) is, tt)
  refused_as (Fault (Limit which number)) apart is = (ap (λ (r : Result DatedState Refusal). r >>= next) is, tt)
  refused_as (Fault (Block (Full need largest))) apart is = absurd (cc)
  refused_as (Fault (Block (Damaged sector stated found))) apart is = is
  refused_as (Fault (Block DiskFault)) apart is = tt
  refused_as Memory apart is = tt

  pub judged_refused : (bound : Option ℕ) (changed : Result (Unit {0}) (OrMemory ObjFault)) (answer : Result (Unit {0}) PoolFault) → answer ≡ of_change changed → is_accepted changed ≡ false → ChangesHead bound has set change changed → JudgesHead bound has set name pool change answer
  judged_refused bound changed answer same apart is = subst (JudgesHead bound has set name pool change) (sym same) (go changed apart is)
    where
      go : (c : Result (Unit {0}) (OrMemory ObjFault)) → is_accepted c ≡ false → ChangesHead bound has set change c → JudgesHead bound has set name pool change (of_change c)
      go (Ok done) apart is = absurd (cc)
      go (Err fault) apart is = refused_as fault apart is

  -- where it accepts, the number of the commit decides
  module _ (left : (after : DatedState) → committed (with_head_of name after pool) ≡ Ok (next_of (with_head_of name after pool))) where
    goes_on : (after : DatedState) → change ≡ Ok after → (done : Stepped) × ((change >>= next) ≡ Ok done)
    goes_on after is = (next_of (with_head_of name after pool), ap (λ (r : Result DatedState Refusal). r >>= next) is ∙ left after)

    full_as : (fault : OrMemory ObjFault) → is_accepted (Err fault) ≡ true → ChangeFault change fault → StepFault (Unit {0}) (change >>= next) (or_memory of_set fault)
    full_as (Fault (CannotApply fault)) accepted is = absurd (cc)
    full_as (Fault (Redacted object block)) accepted is = absurd (cc)
    full_as (Fault (Limit which number)) accepted is = absurd (cc)
    full_as (Fault (Block (Full need largest))) accepted is = (goes_on is.0 is.1, tt)
    full_as (Fault (Block (Damaged sector stated found))) accepted is = absurd (cc)
    full_as (Fault (Block DiskFault)) accepted is = absurd (cc)
    full_as Memory accepted is = absurd (cc)

    pub judged_accepted : (bound : Option ℕ) (changed : Result (Unit {0}) (OrMemory ObjFault)) (answer : Result (Unit {0}) PoolFault) → answer ≡ of_change changed → is_accepted changed ≡ true → ChangesHead bound has set change changed → JudgesHead bound has set name pool change answer
    judged_accepted bound changed answer same accepted is = subst (JudgesHead bound has set name pool change) (sym same) (go changed accepted is)
      where
        go : (c : Result (Unit {0}) (OrMemory ObjFault)) → is_accepted c ≡ true → ChangesHead bound has set change c → JudgesHead bound has set name pool change (of_change c)
        go (Ok done) accepted is = (is.0, is.1, is.2, left is.0)
        go (Err fault) accepted is = full_as fault accepted is

  -- and refuses it, where none is left
  last_number : (refusal : Refusal) → ((after : DatedState) → committed (with_head_of name after pool) ≡ Err refusal) → (after : DatedState) → change ≡ Ok after → (change >>= next) ≡ Err refusal
  last_number refusal none after is = ap (λ (r : Result DatedState Refusal). r >>= next) is ∙ none after

  pub judged_last : (bound : Option ℕ) (plan : PlanFault) → ((after : DatedState) → committed (with_head_of name after pool) ≡ Err (refusal_of plan)) → (changed : Result (Unit {0}) (OrMemory ObjFault)) → is_accepted changed ≡ true → ChangesHead bound has set change changed
      → StepFault (Unit {0}) (change >>= next) (faults.Plan plan)
  judged_last bound plan none (Ok done) accepted is = (last_number (refusal_of plan) none is.0 is.1, tt)
  judged_last bound plan none (Err (Fault (CannotApply fault))) accepted is = absurd (cc)
  judged_last bound plan none (Err (Fault (Redacted object block))) accepted is = absurd (cc)
  judged_last bound plan none (Err (Fault (Limit which number))) accepted is = absurd (cc)
  judged_last bound plan none (Err (Fault (Block (Full need largest)))) accepted is = (last_number (refusal_of plan) none is.0 is.1, tt)
  judged_last bound plan none (Err (Fault (Block (Damaged sector stated found)))) accepted is = absurd (cc)
  judged_last bound plan none (Err (Fault (Block DiskFault))) accepted is = absurd (cc)
  judged_last bound plan none (Err Memory) accepted is = absurd (cc)

-- where the answer is no refusal, none was the change's
pub answer_well : (changed : Result (Unit {0}) (OrMemory ObjFault)) (answer : Result (Unit {0}) PoolFault) → answer ≡ of_change changed → OnOk answer (is_ok changed ≡ true)
answer_well changed answer same = subst (λ (r : Result (Unit {0}) PoolFault). OnOk r (is_ok changed ≡ true)) (sym same) (go changed)
  where
    go : (c : Result (Unit {0}) (OrMemory ObjFault)) → OnOk (of_change c) (is_ok c ≡ true)
    go (Ok done) = refl
    go (Err fault) = tt

pub well_is : (changed : Result (Unit {0}) (OrMemory ObjFault)) (P : Type 0) → is_ok changed ≡ true → OnOk changed P → P
well_is (Ok done) P well is = is
well_is (Err fault) P well is = absurd (cc)

-- a damage that is answered is the change's
pub damage_is : (fault : OrMemory ObjFault) (sector : ℕ) (stated found : List ℕ) → or_memory of_set fault ≡ faults.Damaged sector stated found → fault ≡ Fault (Block (Damaged sector stated found))
damage_is (Fault (CannotApply fault)) sector stated found is = absurd (cc)
damage_is (Fault (Redacted object block)) sector stated found is = absurd (cc)
damage_is (Fault (Limit which number)) sector stated found is = absurd (cc)
damage_is (Fault (Block (Full need largest))) sector stated found is = absurd (cc)
damage_is (Fault (Block (Damaged s a b))) sector stated found is = cc
damage_is (Fault (Block DiskFault)) sector stated found is = absurd (cc)
damage_is Memory sector stated found is = absurd (cc)

pub answer_damaged : (changed : Result (Unit {0}) (OrMemory ObjFault)) (answer : Result (Unit {0}) PoolFault) → answer ≡ of_change changed
    → (sector : ℕ) (stated found : List ℕ) → answer ≡ Err (faults.Damaged sector stated found) → changed ≡ Err (Fault (Block (Damaged sector stated found)))
answer_damaged changed answer same sector stated found is = go changed (sym same ∙ is)
  where
    go : (c : Result (Unit {0}) (OrMemory ObjFault)) → of_change c ≡ Err (faults.Damaged sector stated found) → c ≡ Err (Fault (Block (Damaged sector stated found)))
    go (Ok done) is = absurd (cc)
    go (Err fault) is = ap (λ (f : OrMemory ObjFault). Err f) (damage_is fault sector stated found (cc))

pub always : (changed : Result (Unit {0}) (OrMemory ObjFault)) (P : Type 0) → P → OnOk changed P
always (Ok done) P is = is
always (Err fault) P is = tt
