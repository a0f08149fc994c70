-- What a check tells as damaged, from what its search and its count tell.
use Rattle.std.proofs.Common.{◌≡◌, ℕ, List, Err, subst}
use Rattle.zst_block.specs.declared.fault.BlockFault.{BlockFault}
use Rattle.zst_block.specs.declared.fault.BlockFault.TheVariants as blocks
use Rattle.zst_objset.specs.Damage.{DamageFact, IfDamage, TellsWithin}
use Rattle.zst_pool.specs.Damage.{IsOf}
use Rattle.zst_pool.specs.Faults.{of_block, or_memory}
use Rattle.zst_tree.specs.Faults.{IfFault}
use Rattle.zst_tree.specs.declared.or_memory.OrMemory.{OrMemory}
use Rattle.zst_tree.specs.declared.or_memory.OrMemory.TheVariants.{Fault, Memory}

-- a damage that a call tells is told by the pool
pub pool_told : (T : Type 0) (fewer more : DamageFact) → TellsWithin fewer more → (fault : OrMemory BlockFault) → IfFault {T = T} (Err fault) (λ f. IfDamage f fewer) → IsOf more (or_memory of_block fault)
pool_told T fewer more within (Fault (blocks.Full need largest)) told = λ sector stated found is. absurd (cc)
pool_told T fewer more within (Fault (blocks.Damaged at said parts)) told = λ sector stated found is.
    let first : at ≡ sector = cc in
    let second : said ≡ stated = cc in
    let third : parts ≡ found = cc in
    subst (λ (n : ℕ). more n stated found) first (subst (λ (l : List ℕ). more at l found) second (subst (λ (l : List ℕ). more at said l) third (within at said parts told)))
pool_told T fewer more within (Fault blocks.DiskFault) told = λ sector stated found is. absurd (cc)
pool_told T fewer more within Memory told = λ sector stated found is. absurd (cc)
