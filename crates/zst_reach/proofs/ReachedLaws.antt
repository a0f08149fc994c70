-- What is reached below a pointer, taken apart and put together.
use Rattle.std.proofs.Common.{◌≡◌, ◌⊎◌, inl, inr, ℕ, zero, suc, ◌-◌, ◌<◌, List, true, false, refl, ◌∙◌, sym, subst, arith}
use Rattle.std.proofs.lemmas.Bool.{false≢true}
use Rattle.zst_block.specs.Blocks.{IsBlock}
use Rattle.zst_block.specs.Ptr.{is_flat}
use Rattle.zst_block.specs.declared.ptr.Ptr.{Ptr}
use Rattle.zst_block.specs.declared.fault.BlockFault.{BlockFault}
use Rattle.zst_block.specs.declared.fault.BlockFault.TheVariants.{Full, Damaged, DiskFault}
use Rattle.zst_marks.specs.Marks.{IsMarked}
use Rattle.zst_tree.specs.Damage.{TellsNode}
use Rattle.zst_tree.specs.Indices.{Blocks, IsNoDamage, child}
use Rattle.zst_reach.specs.Reached.{AreMarked, IsOf, ReachesBlock, ReachesSector}

pub one_block : (image : List ℕ) (ptr : Ptr) (bytes node : List ℕ) → IsBlock image ptr bytes → IsBlock image ptr node → bytes ≡ node
one_block image ptr bytes node first second = sym first.bytes_are ∙ second.bytes_are

-- nothing is reached below a pointer without a block
pub none_flat : (has : Blocks) (level : ℕ) (ptr found : Ptr) → is_flat ptr ≡ true → ReachesBlock has level ptr found → ⊥
unfolding ReachesBlock
none_flat has zero ptr found flat reached = false≢true (sym reached.0 ∙ flat)
none_flat has (suc level) ptr found flat reached = false≢true (sym reached.0 ∙ flat)

pub AreMarked-flat : (image : List ℕ) (end : ℕ) (marks : List ℕ) (level : ℕ) (ptr : Ptr) → is_flat ptr ≡ true → AreMarked image end marks level ptr
AreMarked-flat image end marks level ptr flat = λ sector is under. absurd (none_flat (IsBlock image) level ptr is.found flat is.reached)

-- more sectors may be marked
pub AreMarked-more : (image : List ℕ) (end : ℕ) (marks more : List ℕ) (level : ℕ) (ptr : Ptr) → ((sector : ℕ) → IsMarked marks sector → IsMarked more sector) → AreMarked image end marks level ptr → AreMarked image end more level ptr
AreMarked-more image end marks more level ptr up are = λ sector is under. up sector (are sector is under)

-- the sectors of the block itself are marked
abbrev pub OwnMarked : ℕ → List ℕ → Ptr → Type 0
OwnMarked end marks ptr = (sector : ℕ) → IsOf ptr sector → sector < end → IsMarked marks sector

pub AreMarked-leaf : (image : List ℕ) (end : ℕ) (marks : List ℕ) (ptr : Ptr) → OwnMarked end marks ptr → AreMarked image end marks 0 ptr
unfolding ReachesBlock
AreMarked-leaf image end marks ptr own = λ sector is under. own sector (subst (λ (p : Ptr). IsOf p sector) is.reached.1 is.is_of) under

over_suc : (image : List ℕ) (end : ℕ) (marks : List ℕ) (level : ℕ) (ptr : Ptr) (node : List ℕ) → OwnMarked end marks ptr → IsBlock image ptr node
    → ((k : ℕ) → k < 128 → AreMarked image end marks level (child node k)) → (found : Ptr) (sector : ℕ) → ReachesBlock (IsBlock image) (suc level) ptr found → IsOf found sector → sector < end → IsMarked marks sector
unfolding ReachesBlock
over_suc image end marks level ptr node own block below found sector (inner, inl here) is_of under = own sector (subst (λ (p : Ptr). IsOf p sector) here is_of) under
over_suc image end marks level ptr node own block below found sector (inner, inr (bytes, has, k, less, lower)) is_of under =
    let same : bytes ≡ node = one_block image ptr bytes node has block in
    below k less sector (record { found = found; reached = subst (λ (b : List ℕ). ReachesBlock (IsBlock image) level (child b k) found) same lower; is_of = is_of }) under

-- all below a node is marked where its own sectors are, and all below its children
pub AreMarked-over : (image : List ℕ) (end : ℕ) (marks : List ℕ) (level : ℕ) (ptr : Ptr) (node : List ℕ) → 0 < level → OwnMarked end marks ptr → IsBlock image ptr node
    → ((k : ℕ) → k < 128 → AreMarked image end marks (level - 1) (child node k)) → AreMarked image end marks level ptr
AreMarked-over image end marks zero ptr node some own block below = absurd (omega arith)
AreMarked-over image end marks (suc level) ptr node some own block below = λ sector is under.
    let same_level : suc level - 1 ≡ level = omega arith in
    over_suc image end marks level ptr node own block (λ k less. rw same_level at (below k less)) is.found sector is.reached is.is_of under

-- a block that is reached below a child is reached below the node
block_suc : (has : Blocks) (level : ℕ) (ptr : Ptr) (node : List ℕ) (k : ℕ) (found : Ptr) → is_flat ptr ≡ false → has ptr node → k < 128 → ReachesBlock has level (child node k) found → ReachesBlock has (suc level) ptr found
unfolding ReachesBlock
block_suc has level ptr node k found inner there less reached = (inner, inr (node, there, k, less, reached))

pub block_child : (has : Blocks) (level : ℕ) (ptr : Ptr) (node : List ℕ) (k : ℕ) (found : Ptr) → 0 < level → is_flat ptr ≡ false → has ptr node → k < 128 → ReachesBlock has (level - 1) (child node k) found → ReachesBlock has level ptr found
block_child has zero ptr node k found some inner there less reached = absurd (omega arith)
block_child has (suc level) ptr node k found some inner there less reached =
    let same_level : suc level - 1 ≡ level = omega arith in
    block_suc has level ptr node k found inner there less (rw same_level at reached)

-- and so with a sector
pub reach_suc : (has : Blocks) (level : ℕ) (ptr : Ptr) (node : List ℕ) (k sector : ℕ) → is_flat ptr ≡ false → has ptr node → k < 128 → ReachesSector has level (child node k) sector → ReachesSector has (suc level) ptr sector
unfolding ReachesBlock
reach_suc has level ptr node k sector inner there less is = record { found = is.found; reached = (inner, inr (node, there, k, less, is.reached)); is_of = is.is_of }

pub reach_child : (has : Blocks) (level : ℕ) (ptr : Ptr) (node : List ℕ) (k sector : ℕ) → 0 < level → is_flat ptr ≡ false → has ptr node → k < 128 → ReachesSector has (level - 1) (child node k) sector → ReachesSector has level ptr sector
reach_child has zero ptr node k sector some inner there less is = absurd (omega arith)
reach_child has (suc level) ptr node k sector some inner there less is =
    let same_level : suc level - 1 ≡ level = omega arith in
    reach_suc has level ptr node k sector inner there less (rw same_level at is)

-- and the pointer's own block
pub reach_here : (has : Blocks) (level : ℕ) (ptr : Ptr) (sector : ℕ) → is_flat ptr ≡ false → IsOf ptr sector → ReachesSector has level ptr sector
unfolding ReachesBlock
reach_here has zero ptr sector inner is_of = record { found = ptr; reached = (inner, refl); is_of = is_of }
reach_here has (suc level) ptr sector inner is_of = record { found = ptr; reached = (inner, inl refl); is_of = is_of }

-- so all below a child of a node is marked where all below the node is
pub AreMarked-child : (image : List ℕ) (end : ℕ) (marks : List ℕ) (level : ℕ) (ptr : Ptr) (node : List ℕ) (k : ℕ) → 0 < level → is_flat ptr ≡ false → IsBlock image ptr node → k < 128
    → AreMarked image end marks level ptr → AreMarked image end marks (level - 1) (child node k)
AreMarked-child image end marks level ptr node k some inner block less are = λ sector is under. are sector (reach_child (IsBlock image) level ptr node k sector some inner block less is) under

-- the same over an image that is the same
pub AreMarked-same : (image other : List ℕ) (end : ℕ) (marks : List ℕ) (level : ℕ) (ptr : Ptr) → other ≡ image → AreMarked image end marks level ptr → AreMarked other end marks level ptr
AreMarked-same image other end marks level ptr same are = subst (λ (i : List ℕ). AreMarked i end marks level ptr) (sym same) are

-- what is marked after a block was marked is marked before it, or is reached
pub own_only : (image : List ℕ) (end : ℕ) (level : ℕ) (ptr : Ptr) (sector : ℕ) (old : Type 0) → is_flat ptr ≡ false → (IsOf ptr sector × (sector < end)) ⊎ old → old ⊎ ReachesSector (IsBlock image) level ptr sector
own_only image end level ptr sector old inner (inl own) = inr (reach_here (IsBlock image) level ptr sector inner own.0)
own_only image end level ptr sector old inner (inr before) = inl before

-- what is reached below a child that was read is reached below the node, over an image that is the same
pub up_child : (image other : List ℕ) (level : ℕ) (ptr : Ptr) (node loaded : List ℕ) (k sector : ℕ) (p : Ptr) → 0 < level → is_flat ptr ≡ false → IsBlock image ptr loaded → node ≡ loaded → k < 128 → other ≡ image → p ≡ child node k
    → ReachesSector (IsBlock other) (level - 1) p sector → ReachesSector (IsBlock image) level ptr sector
up_child image other level ptr node loaded k sector p some inner block is less same child_is reached =
    reach_child (IsBlock image) level ptr node k sector some inner (subst (λ (b : List ℕ). IsBlock image ptr b) (sym is) block) less
    (subst (λ (q : Ptr). ReachesSector (IsBlock image) (level - 1) q sector) child_is (subst (λ (i : List ℕ). ReachesSector (IsBlock i) (level - 1) p sector) same reached))

-- all below each child is marked, and so all below the node that was read
pub over_all : (image other : List ℕ) (end : ℕ) (marks : List ℕ) (level : ℕ) (ptr : Ptr) (node loaded : List ℕ) → 0 < level → OwnMarked end marks ptr → IsBlock image ptr loaded → node ≡ loaded → other ≡ image
    → ((k : ℕ) → k < 128 → AreMarked other end marks (level - 1) (child node k)) → AreMarked image end marks level ptr
over_all image other end marks level ptr node loaded some own block is same below =
    AreMarked-over image end marks level ptr node some own (subst (λ (b : List ℕ). IsBlock image ptr b) (sym is) block)
    (λ k less. AreMarked-same other image end marks (level - 1) (child node k) (sym same) (below k less))

-- the last child
pub last_child : (image other : List ℕ) (end : ℕ) (marks : List ℕ) (level k j : ℕ) (node : List ℕ) (p : Ptr) → j ≡ k → p ≡ child node k → other ≡ image → AreMarked other end marks level p → AreMarked image end marks level (child node j)
last_child image other end marks level k j node p same child_is image_is are =
    subst (λ (i : ℕ). AreMarked image end marks level (child node i)) (sym same) (subst (λ (q : Ptr). AreMarked image end marks level q) child_is (AreMarked-same other image end marks level p (sym image_is) are))

-- a fault that is no damage tells none
pub no_damage_told : (images : List ℕ → Type 0) (size : ℕ) (right : ℕ → Ptr → Type 0) (level : ℕ) (root : Ptr) (fault : BlockFault) → IsNoDamage fault → TellsNode images size right level root fault
no_damage_told images size right level root (Full need largest) none = tt
no_damage_told images size right level root (Damaged sector stated found) none = absurd none
no_damage_told images size right level root DiskFault none = tt
