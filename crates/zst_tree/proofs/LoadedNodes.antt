-- What a node that was read says of the subtrees below it.
use Rattle.std.proofs.Common.{◌≡◌, ℕ, zero, suc, ◌-◌, ◌<◌, ◌==◌, false, List, Option, Result, Ok, Err, sym, subst, arith}
use Rattle.std.proofs.lemmas.Bool.{ne_eqb}
use Rattle.zst_space.specs.FreeSectors.{FreeSectors}
use Rattle.zst_block.specs.Blocks.{Has}
use Rattle.zst_block.specs.Ptr.{is_flat}
use Rattle.zst_block.specs.ReadAnswers.{GivesBlock}
use Rattle.zst_block.specs.IoStates.{IoState}
use Rattle.zst_block.specs.IoCalls.{Looks}
use Rattle.zst_block.specs.declared.ptr.Ptr.{Ptr}
use Rattle.zst_block.specs.declared.fault.BlockFault.{BlockFault}
use Rattle.zst_block.specs.declared.fault.BlockFault.TheVariants.{Full, Damaged, DiskFault}
use Rattle.zst_tree.specs.Indices.{Blocks, Map, Subtree, IsNode, IsNoDamage, Delivers}
use Rattle.zst_tree.specs.Changes.{Parts}
use Rattle.zst_tree.specs.PathAnswer.{stands_throughout}
use Rattle.zst_tree.proofs.SubtreeCases.{node_below}
use Rattle.zst_tree.proofs.BuiltSubtrees.{node_parts}

-- the node that was read is the one below the pointer, and its parts stand below it
pub record Loaded (has : Blocks) (level : ℕ) (ptr : Ptr) (base : ℕ) (map : Map) (loaded : List ℕ) : Type 0 where
  pub node : IsNode has level ptr loaded
  pub parts : Parts has (level - 1) loaded base map

pub loaded_is : (has : Blocks) (level : ℕ) (ptr : Ptr) (base : ℕ) (map : Map) (loaded : List ℕ) → 0 < level → is_flat ptr ≡ false → ((bytes : List ℕ) → IsNode has level ptr bytes → loaded ≡ bytes)
    → Subtree has level ptr base map → Loaded has level ptr base map loaded
loaded_is has level ptr base map loaded some inner gives stands =
    let below = node_below has level ptr base map some inner stands in
    let same : loaded ≡ below.bytes = gives below.bytes below.node in
    record {
      node = subst (λ (bytes : List ℕ). IsNode has level ptr bytes) (sym same) below.node;
      parts = node_parts has level ptr base map loaded below same;
    }

module _ {old new : IoState} {stop : Option BlockFault} (looks : Looks old new stop) where
  -- what holds of the blocks before a read holds of those after it, and the other way round
  pub there_after : (P : List ℕ → FreeSectors → Type 0) → P old.disk.seen old.space → P new.disk.seen new.space
  there_after P is = subst (λ (s : FreeSectors). P new.disk.seen s) (sym looks.space) (subst (λ (seen : List ℕ). P seen old.space) (sym looks.reads.seen) is)

  pub there_before : (P : List ℕ → FreeSectors → Type 0) → P new.disk.seen new.space → P old.disk.seen old.space
  there_before P is = subst (λ (seen : List ℕ). P seen old.space) looks.reads.seen (subst (λ (s : FreeSectors). P new.disk.seen s) looks.space is)

-- a block that is there isn't damaged
gives_no_damage : (bytes read : List ℕ) (fault : BlockFault) → GivesBlock bytes read (Err fault) → IsNoDamage fault
gives_no_damage bytes read (Full need largest) given = tt
gives_no_damage bytes read (Damaged sector stated found) given = given
gives_no_damage bytes read DiskFault given = tt

-- so a node that is there isn't
pub node_fault : (has : Blocks) (level : ℕ) (ptr : Ptr) (base : ℕ) (map : Map) (read : List ℕ) (fault : BlockFault) → 0 < level → is_flat ptr ≡ false
    → ((bytes : List ℕ) → IsNode has level ptr bytes → GivesBlock bytes read (Err fault)) → Subtree has level ptr base map → IsNoDamage fault
node_fault has level ptr base map read fault some inner gives stands =
    let below = node_below has level ptr base map some inner stands in gives_no_damage below.bytes read fault (gives below.bytes below.node)

-- so the parts of a node that was read stand below it
pub loaded_parts : {old new : IoState} {stop : Option BlockFault} → Looks old new stop
    → (level : ℕ) (ptr : Ptr) (base : ℕ) (map : Map) (loaded : List ℕ) (result : Result (Unit {0}) BlockFault) → 0 < level → is_flat ptr ≡ false
    → ((bytes : List ℕ) → IsNode (Has old.disk.seen old.space) level ptr bytes → GivesBlock bytes loaded result) → Subtree (Has old.disk.seen old.space) level ptr base map
    → Delivers (λ done. Parts (Has new.disk.seen new.space) (level - 1) loaded base map) result
loaded_parts {old} {new} looks level ptr base map loaded (Ok done) some inner gives stands =
    there_after looks (λ (seen : List ℕ) (s : FreeSectors). Parts (Has seen s) (level - 1) loaded base map)
    (loaded_is (Has old.disk.seen old.space) level ptr base map loaded some inner gives stands).parts
loaded_parts {old} looks level ptr base map loaded (Err fault) some inner gives stands =
    node_fault (Has old.disk.seen old.space) level ptr base map loaded fault some inner gives stands

-- a pointer that doesn't stand throughout names a node
pub inner_level : (level : ℕ) (ptr : Ptr) → stands_throughout level ptr ≡ false → (0 < level) × (is_flat ptr ≡ false)
inner_level zero ptr is = absurd (cc)
inner_level (suc level) ptr is = let above : ((suc level) == 0) ≡ false = ne_eqb (suc level) 0 (λ same. omega arith) in (omega arith, rw above at is)
