-- What the parts of a check find, one after another.
use Rattle.std.proofs.Common.{◌≡◌, ℕ, List, Option, Some, None, subst}
use Rattle.std.specs.Prelude.{Result, Ok, Err}
use Rattle.zst_block.specs.declared.fault.BlockFault.{BlockFault}
use Rattle.zst_tree.specs.Faults.{GivesOrTells}
use Rattle.zst_tree.specs.Indices.{Delivers, IsNoDamage}
use Rattle.zst_tree.specs.declared.or_memory.OrMemory.{OrMemory}
use Rattle.zst_tree.specs.declared.or_memory.OrMemory.TheVariants.{Fault, Memory}
use Rattle.zst_check.specs.Findings.{Finds}
use Rattle.zst_check.specs.declared.report.Report.{Report}
use Rattle.zst_check.specs.declared.report.Report.TheVariants as reports

-- what is so of a place at which a part fails
abbrev pub Fails : Type 1
Fails = List ℕ → List ℕ → ℕ → ℕ → Type 0

-- each place at which the one part fails is one at which the other does
abbrev pub FailsWithin : Fails → Fails → Type 0
FailsWithin fewer more = (earlier later : List ℕ) (object block : ℕ) → fewer earlier later object block → more earlier later object block

-- a place that is found for the one part is one for the other, whatever holds where none is found
pub finds_fails : (holds also : Type 0) (fewer more : Fails) (found : Option Report) (report : Report) → found ≡ Some report → FailsWithin fewer more → Finds holds fewer found → Finds also more (Some report)
finds_fails holds also fewer more found report is within finds = go report (subst (λ (f : Option Report). Finds holds fewer f) is finds)
  where
    go : (r : Report) → Finds holds fewer (Some r) → Finds also more (Some r)
    go (reports.Sound blocks) none = absurd none
    go (reports.Unsound earlier later object block) at = within earlier later object block at

-- where none is found the part holds
pub finds_none : (holds : Type 0) (fails : Fails) (found : Option Report) → found ≡ None → Finds holds fails found → holds
finds_none holds fails found is finds = subst (λ (f : Option Report). Finds holds fails f) is finds

-- what is found for a part is found for more than it, where that holds with it
pub finds_more : (holds also : Type 0) (fewer more : Fails) (found : Option Report) → (holds → also) → FailsWithin fewer more → Finds holds fewer found → Finds also more found
finds_more holds also fewer more None keeps within finds = keeps finds
finds_more holds also fewer more (Some (reports.Sound blocks)) keeps within finds = finds
finds_more holds also fewer more (Some (reports.Unsound earlier later object block)) keeps within finds = within earlier later object block finds

-- so it is with what a call finds that reads, and with one that takes memory besides
pub delivers_more : (holds also : Type 0) (fewer more : Fails) (result : Result (Option Report) BlockFault) → (holds → also) → FailsWithin fewer more → Delivers (Finds holds fewer) result → Delivers (Finds also more) result
delivers_more holds also fewer more (Ok found) keeps within finds = finds_more holds also fewer more found keeps within finds
delivers_more holds also fewer more (Err fault) keeps within finds = finds

pub gives_more : (holds also : Type 0) (fewer more : Fails) (result : Result (Option Report) (OrMemory BlockFault)) → (holds → also) → FailsWithin fewer more
    → GivesOrTells (Finds holds fewer) IsNoDamage result → GivesOrTells (Finds also more) IsNoDamage result
gives_more holds also fewer more (Ok found) keeps within finds = finds_more holds also fewer more found keeps within finds
gives_more holds also fewer more (Err (Fault fault)) keeps within finds = finds
gives_more holds also fewer more (Err Memory) keeps within finds = finds
