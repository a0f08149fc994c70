-- What the building of a list answers, as a command's answer.
use Rattle.std.specs.Prelude.{Some, Result, Ok, Err, IfErr, IfOk}
use Rattle.std.proofs.Common.{◌≡◌, ℕ, ◌≤◌, true, List, length, refl, sym, subst}
use Rattle.zst_block.specs.declared.fault.BlockFault.TheVariants as blocks
use Rattle.zst_model.specs.declared.refusals.plan_fault.PlanFault.{PlanFault}
use Rattle.zst_model.specs.fields.Lists.{Runs}
use Rattle.zst_model.specs.pools.Limits.{most_runs}
use Rattle.zst_objset.specs.Damage.{DamageFact}
use Rattle.zst_tree.specs.declared.or_memory.OrMemory.{OrMemory}
use Rattle.zst_tree.specs.declared.or_memory.OrMemory.TheVariants.{Fault, Memory}
use Rattle.zst_redact.specs.BuiltLists.{BuildsList, IfTold}
use Rattle.zst_redact.specs.BuiltLists as redacts
use Rattle.zst_redact.specs.declared.fault.RedactFault.{RedactFault}
use Rattle.zst_redact.specs.declared.fault.RedactFault.TheVariants.{Limit, Block}
use Rattle.zst_pool.specs.Damage.{IsOf}
use Rattle.zst_pool.specs.Faults.{of_built}
use Rattle.zst_pool.specs.Plans.{IsLong}
use Rattle.zst_pool.specs.Queries.{stop_of}
use Rattle.zst_pool.specs.Redactions.{MakesList}
use Rattle.zst_pool.specs.declared.fault.PoolFault.TheVariants as faults

-- a list that is built is made, and one that isn't is refused so
pub makes_built : (runs : Runs) (built : Result Runs (OrMemory RedactFault)) → ((need largest : ℕ) → ¬ (redacts.stop_of built ≡ Some (blocks.Full need largest))) → BuildsList runs built → MakesList runs (of_built built)
makes_built runs (Ok list) never is = is
makes_built runs (Err (Fault Limit)) never is = (refl, is)
makes_built runs (Err (Fault (Block (blocks.Full need largest)))) never is = absurd (never need largest refl)
makes_built runs (Err (Fault (Block (blocks.Damaged sector stated found)))) never is = is
makes_built runs (Err (Fault (Block blocks.DiskFault))) never is = tt
makes_built runs (Err Memory) never is = tt

-- it stops where the building does
pub built_stop : (built : Result Runs (OrMemory RedactFault)) → stop_of (of_built built) ≡ redacts.stop_of built
built_stop (Ok list) = refl
built_stop (Err (Fault Limit)) = refl
built_stop (Err (Fault (Block (blocks.Full need largest)))) = refl
built_stop (Err (Fault (Block (blocks.Damaged sector stated found)))) = refl
built_stop (Err (Fault (Block blocks.DiskFault))) = refl
built_stop (Err Memory) = refl

-- its plan is refused only for too many runs
pub built_lists : (built : Result Runs (OrMemory RedactFault)) (fault : PlanFault) → of_built built ≡ Err (faults.Plan fault) → IsLong true fault
unfolding most_runs
built_lists (Ok list) fault is = absurd (cc)
built_lists (Err (Fault Limit)) fault is = (sym cc, refl)
built_lists (Err (Fault (Block (blocks.Full need largest)))) fault is = absurd (cc)
built_lists (Err (Fault (Block (blocks.Damaged sector stated found)))) fault is = absurd (cc)
built_lists (Err (Fault (Block blocks.DiskFault))) fault is = absurd (cc)
built_lists (Err Memory) fault is = absurd (cc)

pub built_open : (built : Result Runs (OrMemory RedactFault)) → ¬ (of_built built ≡ Err faults.Failed)
built_open (Ok list) = λ is. cc
built_open (Err (Fault Limit)) = λ is. cc
built_open (Err (Fault (Block (blocks.Full need largest)))) = λ is. cc
built_open (Err (Fault (Block (blocks.Damaged sector stated found)))) = λ is. cc
built_open (Err (Fault (Block blocks.DiskFault))) = λ is. cc
built_open (Err Memory) = λ is. cc

pub built_short : (built : Result Runs (OrMemory RedactFault)) → IfOk built (λ list. length list ≤ most_runs) → IfOk (of_built built) (λ list. length list ≤ most_runs)
built_short (Ok list) is = is
built_short (Err fault) is = tt

-- and a damage is the building's
pub built_damage : (Is : DamageFact) (built : Result Runs (OrMemory RedactFault)) → IfTold built Is → IfErr (of_built built) (IsOf Is)
built_damage Is (Ok list) is = tt
built_damage Is (Err (Fault Limit)) is = λ sector stated found same. absurd (cc)
built_damage Is (Err (Fault (Block (blocks.Full need largest)))) is = λ sector stated found same. absurd (cc)
built_damage Is (Err (Fault (Block (blocks.Damaged s a b)))) is = λ sector stated found same.
    let at : s ≡ sector = cc in
    let sums : a ≡ stated = cc in
    let read : b ≡ found = cc in
    subst (λ (n : ℕ). Is n stated found) at (subst (λ (l : List ℕ). Is s l found) sums (subst (λ (l : List ℕ). Is s a l) read is))
built_damage Is (Err (Fault (Block blocks.DiskFault))) is = λ sector stated found same. absurd (cc)
built_damage Is (Err Memory) is = λ sector stated found same. absurd (cc)
