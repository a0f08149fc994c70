-- What is met and read below a pointer, taken apart and put together.
use Rattle.std.proofs.Common.{◌≡◌, ◌⊎◌, ◌↔◌, inl, inr, ⊎_elim, ℕ, zero, suc, ◌-◌, ◌<◌, List, Bool, true, false, if◌then◌else◌, refl, ◌∙◌, sym, ap, subst, arith}
use Rattle.std.specs.Prelude.{Option, None, Some, IfSome, IsSome, Result, Ok, Err, OnOk}
use Rattle.std.proofs.lemmas.Bool.{false≢true}
use Rattle.zst_block.specs.Blocks.{IsBlock}
use Rattle.zst_block.specs.Ptr.{is_flat}
use Rattle.zst_block.specs.declared.ptr.Ptr.{Ptr}
use Rattle.zst_marks.specs.Marks.{IsMarked}
use Rattle.zst_tree.specs.Indices.{Blocks, child}
use Rattle.zst_reach.specs.Reached.{IsBeside, IsInPlace, ReachesBlock}
use Rattle.zst_reach.proofs.ReachedLaws.{block_child, none_flat, one_block}
use Rattle.zst_count.specs.FirstSectors.{IsFirstBelow}
use Rattle.zst_count.specs.MetBlocks.{AllMet, AreMet, AreRead, MetMore}
use Rattle.zst_count.specs.PastLeaves.{is_past, told_below}
use Rattle.zst_count.specs.declared.met_blocks.MetBlocks.{MetBlocks}

-- more blocks, and then more
pub MetMore-none : (met : MetBlocks) → MetMore met met
MetMore-none met = record { stay = λ sector marked. marked; end_is = refl }

pub MetMore-then : (old mid new : MetBlocks) → MetMore old mid → MetMore mid new → MetMore old new
MetMore-then old mid new first second = record { stay = λ sector marked. second.stay sector (first.stay sector marked); end_is = second.end_is ∙ first.end_is }

-- what was met stays so
pub AllMet-more : (old new : MetBlocks) (is_first : ℕ → Type 0) → MetMore old new → AllMet old.end old.marks is_first → AllMet new.end new.marks is_first
AllMet-more old new is_first more are = λ sector is under. more.stay sector (are sector is (subst (λ (end : ℕ). sector < end) more.end_is under))

-- nothing is met below a pointer without a block, nor read
pub AreMet-flat : (image : List ℕ) (end : ℕ) (marks : List ℕ) (level : ℕ) (ptr : Ptr) → is_flat ptr ≡ true → AreMet image end marks level ptr
AreMet-flat image end marks level ptr flat = λ sector is under. absurd (none_flat (IsBlock image) level ptr is.found flat is.reached)

pub AreRead-flat : (image : List ℕ) (told : Option ℕ) (level : ℕ) (ptr : Ptr) → is_flat ptr ≡ true → AreRead image told level ptr
unfolding AreRead
AreRead-flat image told zero ptr flat = inl flat
AreRead-flat image told (suc level) ptr flat = inl flat

-- the block itself is met
abbrev pub OwnMet : ℕ → List ℕ → Ptr → Type 0
OwnMet end marks ptr = ptr.sector < end → IsMarked marks ptr.sector

-- so a block that is the same is
same_met : (end : ℕ) (marks : List ℕ) (ptr found : Ptr) (sector : ℕ) → OwnMet end marks ptr → found ≡ ptr → found.sector ≡ sector → sector < end → IsMarked marks sector
same_met end marks ptr found sector own here begins under =
    let same : ptr.sector ≡ sector = sym (ap (λ (p : Ptr). p.sector) here) ∙ begins in
    subst (λ (s : ℕ). IsMarked marks s) same (own (omega (arith, same, under)))

pub AreMet-leaf : (image : List ℕ) (end : ℕ) (marks : List ℕ) (ptr : Ptr) → OwnMet end marks ptr → AreMet image end marks 0 ptr
unfolding ReachesBlock
AreMet-leaf image end marks ptr own = λ sector is under. same_met end marks ptr is.found sector own is.reached.1 is.begins under

-- what is so anyway is so where a length is told
told_so : (P : Type 0) (told : Option ℕ) → P → IfSome told (λ count. P)
told_so P None is = tt
told_so P (Some count) is = is

pub AreRead-leaf : (image : List ℕ) (told : Option ℕ) (ptr : Ptr) → (bytes : List ℕ) × IsBlock image ptr bytes → AreRead image told 0 ptr
unfolding AreRead
AreRead-leaf image told ptr there = inr (told_so ((bytes : List ℕ) × IsBlock image ptr bytes) told there)

-- a leaf isn't read where no length is told
leaf_unread : (image : List ℕ) (ptr : Ptr) → AreRead image None 0 ptr
unfolding AreRead
leaf_unread image ptr = inr tt

pub AreRead-unread : (image : List ℕ) (told : Option ℕ) (level : ℕ) (ptr : Ptr) → told ≡ None → level ≡ 0 → AreRead image told level ptr
AreRead-unread image told level ptr none bottom = rw (none, bottom) (leaf_unread image ptr)

met_suc : (image : List ℕ) (end : ℕ) (marks : List ℕ) (level : ℕ) (ptr : Ptr) (node : List ℕ) → OwnMet end marks ptr → IsBlock image ptr node
    → ((k : ℕ) → k < 128 → AreMet image end marks level (child node k)) → (found : Ptr) (sector : ℕ) → ReachesBlock (IsBlock image) (suc level) ptr found → found.sector ≡ sector → sector < end → IsMarked marks sector
unfolding ReachesBlock
met_suc image end marks level ptr node own block below found sector (inner, inl here) begins under = same_met end marks ptr found sector own here begins under
met_suc image end marks level ptr node own block below found sector (inner, inr (bytes, has, k, less, lower)) begins under =
    let same : bytes ≡ node = one_block image ptr bytes node has block in
    below k less sector (record { found = found; reached = subst (λ (b : List ℕ). ReachesBlock (IsBlock image) level (child b k) found) same lower; begins = begins }) under

-- all below a node is met where the node itself is, and all below its children
pub AreMet-over : (image : List ℕ) (end : ℕ) (marks : List ℕ) (level : ℕ) (ptr : Ptr) (node : List ℕ) → 0 < level → OwnMet end marks ptr → IsBlock image ptr node
    → ((k : ℕ) → k < 128 → AreMet image end marks (level - 1) (child node k)) → AreMet image end marks level ptr
AreMet-over image end marks zero ptr node some own block below = absurd (omega arith)
AreMet-over image end marks (suc level) ptr node some own block below = λ sector is under.
    let same_level : suc level - 1 ≡ level = omega arith in
    met_suc image end marks level ptr node own block (λ k less. rw same_level at (below k less)) is.found sector is.reached is.begins under

read_suc : (image : List ℕ) (told : Option ℕ) (level : ℕ) (ptr : Ptr) (node : List ℕ) → IsBlock image ptr node → ((k : ℕ) → k < 128 → AreRead image (told_below told (suc level) k) level (child node k)) → AreRead image told (suc level) ptr
unfolding AreRead
read_suc image told level ptr node block below = inr (node, block, below)

-- so it is with what is read
pub AreRead-over : (image : List ℕ) (told : Option ℕ) (level : ℕ) (ptr : Ptr) (node : List ℕ) → 0 < level → IsBlock image ptr node → ((k : ℕ) → k < 128 → AreRead image (told_below told level k) (level - 1) (child node k)) → AreRead image told level ptr
AreRead-over image told zero ptr node some block below = absurd (omega arith)
AreRead-over image told (suc level) ptr node some block below =
    let same_level : suc level - 1 ≡ level = omega arith in
    read_suc image told level ptr node block (λ k less. rw same_level at (below k less))

child_suc : (image : List ℕ) (told : Option ℕ) (level : ℕ) (ptr : Ptr) (node : List ℕ) (k : ℕ) → is_flat ptr ≡ false → IsBlock image ptr node → k < 128 → AreRead image told (suc level) ptr → AreRead image (told_below told (suc level) k) level (child node k)
unfolding AreRead
child_suc image told level ptr node k inner block less are =
    ⊎_elim (λ flat. absurd (false≢true (sym inner ∙ flat)))
    (λ read.
    let same : read.0 ≡ node = one_block image ptr read.0 node read.1 block in
    subst (λ (b : List ℕ). AreRead image (told_below told (suc level) k) level (child b k)) same (read.2 k less)) are

-- all below a child of a node is read where all below the node is
pub AreRead-child : (image : List ℕ) (told : Option ℕ) (level : ℕ) (ptr : Ptr) (node : List ℕ) (k : ℕ) → 0 < level → is_flat ptr ≡ false → IsBlock image ptr node → k < 128 → AreRead image told level ptr
    → AreRead image (told_below told level k) (level - 1) (child node k)
AreRead-child image told zero ptr node k some inner block less are = absurd (omega arith)
AreRead-child image told (suc level) ptr node k some inner block less are = let same : suc level - 1 ≡ level = omega arith in rw same (child_suc image told level ptr node k inner block less are)

-- a block that is first below a child is first below the node
pub first_child : (has : Blocks) (level : ℕ) (ptr : Ptr) (node : List ℕ) (k sector : ℕ) → 0 < level → is_flat ptr ≡ false → has ptr node → k < 128 → IsFirstBelow has (level - 1) (child node k) sector → IsFirstBelow has level ptr sector
first_child has level ptr node k sector some inner there less is = record { found = is.found; reached = block_child has level ptr node k is.found some inner there less is.reached; begins = is.begins }

-- and the pointer's own block is
block_here : (has : Blocks) (level : ℕ) (ptr : Ptr) → is_flat ptr ≡ false → ReachesBlock has level ptr ptr
unfolding ReachesBlock
block_here has zero ptr inner = (inner, refl)
block_here has (suc level) ptr inner = (inner, inl refl)

-- what is marked after a block was met is marked before it, or begins a block that is reached
pub own_only : (image : List ℕ) (end level : ℕ) (ptr : Ptr) (sector : ℕ) (old : Type 0) → is_flat ptr ≡ false → ((sector ≡ ptr.sector) × (sector < end)) ⊎ old → old ⊎ (IsFirstBelow (IsBlock image) level ptr sector × (sector < end))
own_only image end level ptr sector old inner (inl own) = inr (record { found = ptr; reached = block_here (IsBlock image) level ptr inner; begins = sym own.0 }, own.1)
own_only image end level ptr sector old inner (inr before) = inl before

-- more that may be met
pub up_only : {old one other : Type 0} → (one → other) → old ⊎ one → old ⊎ other
up_only up (inl before) = inl before
up_only up (inr is) = inr (up is)

-- the same over an image that is the same
pub AreMet-same : (image other : List ℕ) (end : ℕ) (marks : List ℕ) (level : ℕ) (ptr : Ptr) → other ≡ image → AreMet image end marks level ptr → AreMet other end marks level ptr
AreMet-same image other end marks level ptr same are = subst (λ (i : List ℕ). AreMet i end marks level ptr) (sym same) are

pub AreRead-same : (image other : List ℕ) (told : Option ℕ) (level : ℕ) (ptr : Ptr) → other ≡ image → AreRead image told level ptr → AreRead other told level ptr
AreRead-same image other told level ptr same are = subst (λ (i : List ℕ). AreRead i told level ptr) (sym same) are

-- of how many bytes the leaves are isn't asked
leaf_told : (P : Type 0) (one other : Option ℕ) → (IsSome other → IsSome one) → IfSome one (λ count. P) → IfSome other (λ count. P)
leaf_told P one None told is = tt
leaf_told P None (Some count) told is = absurd (false≢true (told refl))
leaf_told P (Some long) (Some count) told is = is

-- so it is below a child, past the bound or not
below_told : (one other : Option ℕ) (past : Bool) → (IsSome other → IsSome one) → IsSome (if past then None else other) → IsSome (if past then None else one)
below_told one other true told is = is
below_told one other false told is = told is

pub AreRead-told : (image : List ℕ) (one other : Option ℕ) (level : ℕ) (ptr : Ptr) → (IsSome other → IsSome one) → AreRead image one level ptr → AreRead image other level ptr
unfolding AreRead
AreRead-told image one other zero ptr told (inl flat) = inl flat
AreRead-told image one other zero ptr told (inr leaf) = inr (leaf_told ((bytes : List ℕ) × IsBlock image ptr bytes) one other told leaf)
AreRead-told image one other (suc level) ptr told (inl flat) = inl flat
AreRead-told image one other (suc level) ptr told (inr (bytes, block, below)) =
    inr (bytes, block, λ k less. AreRead-told image (told_below one (suc level) k) (told_below other (suc level) k) level (child bytes k) (below_told one other (is_past (suc level) k) told) (below k less))

-- what is first below a child that was read is first below the node, over an image that is the same
pub up_child : (image other : List ℕ) (level : ℕ) (ptr : Ptr) (node loaded : List ℕ) (k sector : ℕ) (p : Ptr) → 0 < level → is_flat ptr ≡ false → IsBlock image ptr loaded → node ≡ loaded → k < 128 → other ≡ image → p ≡ child node k
    → IsFirstBelow (IsBlock other) (level - 1) p sector → IsFirstBelow (IsBlock image) level ptr sector
up_child image other level ptr node loaded k sector p some inner block is less same child_is first =
    first_child (IsBlock image) level ptr node k sector some inner (subst (λ (b : List ℕ). IsBlock image ptr b) (sym is) block) less
    (subst (λ (q : Ptr). IsFirstBelow (IsBlock image) (level - 1) q sector) child_is (subst (λ (i : List ℕ). IsFirstBelow (IsBlock i) (level - 1) p sector) same first))

-- all below each child is met, and so all below the node that was read
pub met_over_all : (image other : List ℕ) (end : ℕ) (marks : List ℕ) (level : ℕ) (ptr : Ptr) (node loaded : List ℕ) → 0 < level → OwnMet end marks ptr → IsBlock image ptr loaded → node ≡ loaded → other ≡ image
    → ((k : ℕ) → k < 128 → AreMet other end marks (level - 1) (child node k)) → AreMet image end marks level ptr
met_over_all image other end marks level ptr node loaded some own block is same below =
    AreMet-over image end marks level ptr node some own (subst (λ (b : List ℕ). IsBlock image ptr b) (sym is) block)
    (λ k less. AreMet-same other image end marks (level - 1) (child node k) (sym same) (below k less))

pub read_over_all : (image other : List ℕ) (told : Option ℕ) (level : ℕ) (ptr : Ptr) (node loaded : List ℕ) → 0 < level → IsBlock image ptr loaded → node ≡ loaded → other ≡ image
    → ((k : ℕ) → k < 128 → AreRead other (told_below told level k) (level - 1) (child node k)) → AreRead image told level ptr
read_over_all image other told level ptr node loaded some block is same below =
    AreRead-over image told level ptr node some (subst (λ (b : List ℕ). IsBlock image ptr b) (sym is) block)
    (λ k less. AreRead-same other image (told_below told level k) (level - 1) (child node k) (sym same) (below k less))

-- the last child
pub last_met : (image other : List ℕ) (end : ℕ) (marks : List ℕ) (level k j : ℕ) (node : List ℕ) (p : Ptr) → j ≡ k → p ≡ child node k → other ≡ image → AreMet other end marks level p → AreMet image end marks level (child node j)
last_met image other end marks level k j node p same child_is image_is are =
    subst (λ (i : ℕ). AreMet image end marks level (child node i)) (sym same) (subst (λ (q : Ptr). AreMet image end marks level q) child_is (AreMet-same other image end marks level p (sym image_is) are))

pub last_read : (image other : List ℕ) (told lower : Option ℕ) (above level k j : ℕ) (node : List ℕ) (p : Ptr) → j ≡ k → p ≡ child node k → lower ≡ told_below told above k → other ≡ image → AreRead other lower level p
    → AreRead image (told_below told above j) level (child node j)
last_read image other told lower above level k j node p same child_is lower_is image_is are =
    subst (λ (i : ℕ). AreRead image (told_below told above i) level (child node i)) (sym same)
    (subst (λ (o : Option ℕ). AreRead image o level (child node k)) lower_is
    (subst (λ (q : Ptr). AreRead image lower level q) child_is (AreRead-same other image lower level p (sym image_is) are)))

-- what is met below a known pointer is met below what stands in the place of a child
pub met_within : (image : List ℕ) (end : ℕ) (marks : List ℕ) (level under : ℕ) (known p : Ptr) → ((found : Ptr) → ReachesBlock (IsBlock image) under p found → ReachesBlock (IsBlock image) level known found)
    → AreMet image end marks level known → AreMet image end marks under p
met_within image end marks level under known p within are = λ sector is less. are sector (record { found = is.found; reached = within is.found is.reached; begins = is.begins }) less

-- a node that was looked up beside
node_beside : (image : List ℕ) (level other : ℕ) (known : Ptr) (beside : Option (List ℕ)) (node : List ℕ) → beside ≡ Some node → IsBeside image level other known beside → (other ≡ level) × (is_flat known ≡ false) × IsBlock image known node
node_beside image level other known beside node is there = let kept : IsBeside image level other known (Some node) = rw is at there in kept

-- so is what is read below a known pointer: the known child stands at the same place
pub read_in_place : (image : List ℕ) (told : Option ℕ) (level other k lower : ℕ) (known under : Ptr) (beside : Option (List ℕ)) → 0 < level → k < 128 → IsBeside image level other known beside → IsInPlace beside level other known k lower under
    → AreRead image told other known → AreRead image (told_below told level k) lower under
read_in_place image told level other k lower known under beside some less there (inl (node, is, lower_is, under_is)) are =
    let at = node_beside image level other known beside node is there in
    rw (lower_is, under_is) (AreRead-child image told level known node k some at.1 at.2 less (subst (λ (n : ℕ). AreRead image told n known) at.0 are))
read_in_place image told level other k lower known under beside some less there (inr (inl (first_is, lower_is, under_is))) are = rw (first_is, lower_is, under_is) are
read_in_place image told level other k lower known under beside some less there (inr (inr flat)) are = AreRead-flat image (told_below told level k) lower under flat

-- a block that was met before its end is so, and what was met before stays so
pub MetMore-meet : (old new : MetBlocks) (ptr : Ptr) → ((sector : ℕ) → IsMarked new.marks sector ↔ (((sector ≡ ptr.sector) × (sector < old.end)) ⊎ IsMarked old.marks sector)) → new.end ≡ old.end → MetMore old new
MetMore-meet old new ptr met end_is = record { stay = λ sector marked. (met sector).1 (inr marked); end_is = end_is }

pub OwnMet-meet : (old new : MetBlocks) (ptr : Ptr) → ((sector : ℕ) → IsMarked new.marks sector ↔ (((sector ≡ ptr.sector) × (sector < old.end)) ⊎ IsMarked old.marks sector)) → new.end ≡ old.end → OwnMet new.end new.marks ptr
OwnMet-meet old new ptr met end_is = λ under. (met ptr.sector).1 (inl (refl, omega (arith, under, end_is)))

-- so all below a leaf that was met is
pub leaf_met : (image : List ℕ) (old new : MetBlocks) (level : ℕ) (ptr : Ptr) → level ≡ 0 → ((sector : ℕ) → IsMarked new.marks sector ↔ (((sector ≡ ptr.sector) × (sector < old.end)) ⊎ IsMarked old.marks sector)) → new.end ≡ old.end
    → AreMet image new.end new.marks level ptr
leaf_met image old new level ptr bottom met end_is = subst (λ (n : ℕ). AreMet image new.end new.marks n ptr) (sym bottom) (AreMet-leaf image new.end new.marks ptr (OwnMet-meet old new ptr met end_is))

-- what is so anyway is so where a call ended well
pub any_ok : {T E : Type 0} → (P : Type 0) (result : Result T E) → P → OnOk result P
any_ok P (Ok value) is = is
any_ok P (Err fault) is = tt
