-- What is met and read below a pointer of a set's tree, taken apart and put together.
use Rattle.std.proofs.Common.{◌≡◌, ◌⊎◌, inl, inr, ⊎_elim, ℕ, zero, suc, ◌+◌, ◌-◌, ◌*◌, ◌^◌, ◌<◌, ◌≤◌, List, true, false, refl, ◌∙◌, sym, subst, arith}
use Rattle.std.specs.Prelude.{Option, Some}
use Rattle.std.proofs.Math.Nat.{mul-le-mul_right}
use Rattle.std.proofs.lemmas.Bool.{false≢true}
use Rattle.zst_block.specs.Blocks.{IsBlock}
use Rattle.zst_block.specs.Ptr.{hole_of, is_flat}
use Rattle.zst_block.specs.declared.ptr.Ptr.{Ptr}
use Rattle.zst_tree.specs.Indices.{child, span}
use Rattle.zst_tree.specs.Sets.{no_objects}
use Rattle.zst_tree.proofs.Span.{span-over}
use Rattle.zst_reach.specs.Reached.{IsBeside, IsInPlace, ReachesBlock}
use Rattle.zst_reach.specs.ReachedSets.{StandsAt}
use Rattle.zst_reach.proofs.ReachedLaws.{one_block}
use Rattle.zst_reach.proofs.SetWalks.{no_leaf, stands_child}
use Rattle.zst_count.specs.CountedSets.{AreMetInSet, AreMetInTree, AreReadInSet, AreReadInTree, IsFirstInTree}
use Rattle.zst_count.specs.FirstSectors.{IsFirstInLeaf}
use Rattle.zst_count.specs.MetBlocks.{AreMet, AreMetBeside, AreMetInLeaf, AreReadBeside, AreReadInLeaf, MetMore}
use Rattle.zst_count.specs.declared.met_blocks.MetBlocks.{MetBlocks}
use Rattle.zst_count.proofs.MetLaws.{AllMet-more, AreMet-flat, AreMet-leaf, AreMet-over, OwnMet, first_child, own_only}

-- what stands below a child of a node stands below the node
pub child_fits : (level first k : ℕ) → 0 < level → k < 128 → (first + k * span (level - 1)) + span (level - 1) ≤ first + span level
child_fits level first k inner less = let most : (k + 1) * span (level - 1) ≤ 128 * span (level - 1) = mul-le-mul_right (span (level - 1)) (omega arith) in omega (arith, span-over level inner, most)

module _ (image : List ℕ) where
  -- nothing is met below a pointer without a block
  pub AreMetInTree-flat : (end : ℕ) (marks : List ℕ) (level : ℕ) (ptr : Ptr) (first : ℕ) → is_flat ptr ≡ true → AreMetInTree image end marks level ptr first
  AreMetInTree-flat end marks level ptr first flat = λ sector is under.
      ⊎_elim (λ below. AreMet-flat image end marks level ptr flat sector below under) (λ by. absurd (no_leaf image level ptr first by.index by.leaf flat by.some by.stands)) is

  -- nor in the empty set
  pub AreMetInSet-empty : (end : ℕ) (marks : List ℕ) → AreMetInSet image end marks no_objects
  AreMetInSet-empty end marks = AreMetInTree-flat end marks 0 (hole_of 0) 0 refl

  leaf_met : (end : ℕ) (marks : List ℕ) (ptr : Ptr) (first : ℕ) → OwnMet end marks ptr → AreMetInLeaf image end marks ptr → AreMetInTree image end marks 0 ptr first
  unfolding StandsAt
  leaf_met end marks ptr first own inside = λ sector is under.
      ⊎_elim (λ below. AreMet-leaf image end marks ptr own sector below under) (λ by. inside sector (subst (λ (p : Ptr). IsFirstInLeaf (IsBlock image) p sector) by.stands.1 by.inside) under) is

  -- all is met below a leaf where its own block is, and the blocks of its objects
  pub AreMetInTree-leaf : (end : ℕ) (marks : List ℕ) (level : ℕ) (ptr : Ptr) (first : ℕ) → level ≡ 0 → OwnMet end marks ptr → AreMetInLeaf image end marks ptr → AreMetInTree image end marks level ptr first
  AreMetInTree-leaf end marks level ptr first bottom own inside = subst (λ (n : ℕ). AreMetInTree image end marks n ptr first) (sym bottom) (leaf_met end marks ptr first own inside)

  -- the child below which a leaf stands
  record LeafUnder (level : ℕ) (node : List ℕ) (first index : ℕ) (leaf : Ptr) : Type 0 where
    pub k : ℕ
    pub less : k < 128
    pub stands : StandsAt (IsBlock image) level (child node k) (first + k * span level) index leaf

  leaf_under : (level : ℕ) (ptr : Ptr) (node : List ℕ) (first index : ℕ) (leaf : Ptr) → IsBlock image ptr node → StandsAt (IsBlock image) (suc level) ptr first index leaf → LeafUnder level node first index leaf
  unfolding StandsAt
  leaf_under level ptr node first index leaf block (inner, (bytes, has, k, less, lower)) =
      let same : bytes ≡ node = one_block image ptr bytes node has block in
      record { k = k; less = less; stands = subst (λ (b : List ℕ). StandsAt (IsBlock image) level (child b k) (first + k * span level) index leaf) same lower }

  -- all is met below a node where its own block is, and all below its children
  pub AreMetInTree-over : (end : ℕ) (marks : List ℕ) (level : ℕ) (ptr : Ptr) (first : ℕ) (node : List ℕ) → 0 < level → OwnMet end marks ptr → IsBlock image ptr node
      → ((k : ℕ) → k < 128 → AreMetInTree image end marks (level - 1) (child node k) (first + k * span (level - 1))) → AreMetInTree image end marks level ptr first
  AreMetInTree-over end marks zero ptr first node some own block below = absurd (omega arith)
  AreMetInTree-over end marks (suc level) ptr first node some own block below = λ sector is under.
      let same : suc level - 1 ≡ level = omega arith in
      let lower : (k : ℕ) → k < 128 → AreMetInTree image end marks level (child node k) (first + k * span level) = λ k less. rw same at (below k less) in
      ⊎_elim (λ is_below. AreMet-over image end marks (suc level) ptr node some own block (λ k less other is_first other_under. below k less other (inl is_first) other_under) sector is_below under)
      (λ by.
      let at = leaf_under level ptr node first by.index by.leaf block by.stands in
      lower at.k at.less sector (inr (record { leaf = by.leaf; index = by.index; small = by.small; stands = at.stands; some = by.some; inside = by.inside })) under) is

  -- what begins with a sector below a child does so below the node
  pub tree_child : (level : ℕ) (ptr : Ptr) (node : List ℕ) (k first sector : ℕ) → 0 < level → is_flat ptr ≡ false → IsBlock image ptr node → k < 128
      → IsFirstInTree (IsBlock image) (level - 1) (child node k) (first + k * span (level - 1)) sector → IsFirstInTree (IsBlock image) level ptr first sector
  tree_child level ptr node k first sector some inner block less (inl below) = inl (first_child (IsBlock image) level ptr node k sector some inner block less below)
  tree_child level ptr node k first sector some inner block less (inr by) = inr (record {
    leaf = by.leaf;
    index = by.index;
    small = by.small;
    stands = stands_child image level ptr node k first by.index by.leaf some inner block less by.stands;
    some = by.some;
    inside = by.inside;
  })

  -- the leaf itself stands below a pointer to it
  stands_here : (level : ℕ) (ptr : Ptr) (first : ℕ) → level ≡ 0 → StandsAt (IsBlock image) level ptr first first ptr
  unfolding StandsAt
  stands_here zero ptr first bottom = (refl, refl)
  stands_here (suc level) ptr first bottom = absurd (omega arith)

  -- so what is first in a leaf is first below a pointer to it
  pub tree_leaf : (level : ℕ) (ptr : Ptr) (first sector : ℕ) → level ≡ 0 → first < 2 ^ 44 → is_flat ptr ≡ false → IsFirstInLeaf (IsBlock image) ptr sector → IsFirstInTree (IsBlock image) level ptr first sector
  tree_leaf level ptr first sector bottom small inner inside = inr (record { leaf = ptr; index = first; small = small; stands = stands_here level ptr first bottom; some = inner; inside = inside })

  -- so the known leaf is met where all below the known pointer is
  pub AreMetBeside-of : (end : ℕ) (marks : List ℕ) (level : ℕ) (known : Ptr) (first : ℕ) → first < 2 ^ 44 → AreMetInTree image end marks level known first → AreMetBeside image end marks level known
  AreMetBeside-of end marks level known first small are = λ bottom inner sector is under. are sector (tree_leaf level known first sector bottom small inner is) under

  -- no leaf that a set may have stands past the bound
  from_first : (level : ℕ) (ptr : Ptr) (first index : ℕ) (leaf : Ptr) → StandsAt (IsBlock image) level ptr first index leaf → first ≤ index
  unfolding StandsAt
  from_first zero ptr first index leaf stands = omega (arith, stands.0)
  from_first (suc level) ptr first index leaf (inner, (bytes, has, k, less, lower)) = omega (arith, from_first level (child bytes k) (first + k * span level) index leaf lower)

  pub AreMetInTree-past : (end : ℕ) (marks : List ℕ) (level : ℕ) (ptr : Ptr) (first : ℕ) → 2 ^ 44 ≤ first → AreMet image end marks level ptr → AreMetInTree image end marks level ptr first
  AreMetInTree-past end marks level ptr first past are = λ sector is under.
      ⊎_elim (λ below. are sector below under) (λ by. absurd (omega (arith, past, by.small, from_first level ptr first by.index by.leaf by.stands))) is

  -- all is met below what stands in the place of a child where all below the known pointer is
  pub tree_within : (end : ℕ) (marks : List ℕ) (level lower first start : ℕ) (known under : Ptr) → ((found : Ptr) → ReachesBlock (IsBlock image) lower under found → ReachesBlock (IsBlock image) level known found)
      → ((index : ℕ) (leaf : Ptr) → is_flat leaf ≡ false → StandsAt (IsBlock image) lower under start index leaf → StandsAt (IsBlock image) level known first index leaf)
      → AreMetInTree image end marks level known first → AreMetInTree image end marks lower under start
  tree_within end marks level lower first start known under blocks leaves are = λ sector is less.
      are sector
      (⊎_elim (λ below. inl (record { found = below.found; reached = blocks below.found below.reached; begins = below.begins }))
      (λ by. inr (record { leaf = by.leaf; index = by.index; small = by.small; stands = leaves by.index by.leaf by.some by.stands; some = by.some; inside = by.inside })) is) less

  -- what is marked after a block was met is marked before it, or begins a block that is reached
  pub own_tree : (end level : ℕ) (ptr : Ptr) (first sector : ℕ) (old : Type 0) → is_flat ptr ≡ false → ((sector ≡ ptr.sector) × (sector < end)) ⊎ old → old ⊎ (IsFirstInTree (IsBlock image) level ptr first sector × (sector < end))
  own_tree end level ptr first sector old inner is = ⊎_elim (λ before. inl before) (λ first_is. inr (inl first_is.0, first_is.1)) (own_only image end level ptr sector old inner is)

  -- nothing is read below a pointer without a block
  pub AreReadInTree-flat : (level : ℕ) (ptr : Ptr) (first : ℕ) → is_flat ptr ≡ true → AreReadInTree image level ptr first
  unfolding AreReadInTree
  AreReadInTree-flat zero ptr first flat = λ small. inl flat
  AreReadInTree-flat (suc level) ptr first flat = λ small. inl flat

  -- nor in the empty set
  pub AreReadInSet-empty : AreReadInSet image no_objects
  AreReadInSet-empty = AreReadInTree-flat 0 (hole_of 0) 0 refl

  -- nor past the bound
  pub AreReadInTree-past : (level : ℕ) (ptr : Ptr) (first : ℕ) → 2 ^ 44 ≤ first → AreReadInTree image level ptr first
  unfolding AreReadInTree
  AreReadInTree-past zero ptr first past = λ small. absurd (omega arith)
  AreReadInTree-past (suc level) ptr first past = λ small. absurd (omega arith)

  -- a leaf that was read is read below a pointer to it
  read_zero : (ptr : Ptr) (first : ℕ) → AreReadInLeaf image ptr → AreReadInTree image 0 ptr first
  unfolding AreReadInTree
  read_zero ptr first leaf = λ small. inr leaf

  pub AreReadInTree-leaf : (level : ℕ) (ptr : Ptr) (first : ℕ) → level ≡ 0 → AreReadInLeaf image ptr → AreReadInTree image level ptr first
  AreReadInTree-leaf level ptr first bottom leaf = subst (λ (n : ℕ). AreReadInTree image n ptr first) (sym bottom) (read_zero ptr first leaf)

  read_suc : (level : ℕ) (ptr : Ptr) (first : ℕ) (node : List ℕ) → IsBlock image ptr node → ((k : ℕ) → k < 128 → AreReadInTree image level (child node k) (first + k * span level)) → AreReadInTree image (suc level) ptr first
  unfolding AreReadInTree
  read_suc level ptr first node block below = λ small. inr (node, block, below)

  -- all is read below a node that was where all below its children is
  pub AreReadInTree-over : (level : ℕ) (ptr : Ptr) (first : ℕ) (node : List ℕ) → 0 < level → IsBlock image ptr node → ((k : ℕ) → k < 128 → AreReadInTree image (level - 1) (child node k) (first + k * span (level - 1))) → AreReadInTree image level ptr first
  AreReadInTree-over zero ptr first node some block below = absurd (omega arith)
  AreReadInTree-over (suc level) ptr first node some block below = let same : suc level - 1 ≡ level = omega arith in read_suc level ptr first node block (λ k less. rw same at (below k less))

  -- so is the leaf to which a pointer points
  beside_zero : (known : Ptr) (first : ℕ) → first < 2 ^ 44 → is_flat known ≡ false → AreReadInTree image 0 known first → AreReadInLeaf image known
  unfolding AreReadInTree
  beside_zero known first small inner are = ⊎_elim (λ flat. absurd (false≢true (sym inner ∙ flat))) (λ leaf. leaf) (are small)

  pub AreReadBeside-of : (level : ℕ) (known : Ptr) (first : ℕ) → first < 2 ^ 44 → AreReadInTree image level known first → AreReadBeside image level known
  AreReadBeside-of level known first small are = λ bottom inner. beside_zero known first small inner (subst (λ (n : ℕ). AreReadInTree image n known first) bottom are)

  -- and all below a child of a node
  child_suc : (level : ℕ) (ptr : Ptr) (first : ℕ) (node : List ℕ) (k : ℕ) → first < 2 ^ 44 → is_flat ptr ≡ false → IsBlock image ptr node → k < 128 → AreReadInTree image (suc level) ptr first
      → AreReadInTree image level (child node k) (first + k * span level)
  unfolding AreReadInTree
  child_suc level ptr first node k small inner block less are =
      ⊎_elim (λ flat. absurd (false≢true (sym inner ∙ flat)))
      (λ read.
      let same : read.0 ≡ node = one_block image ptr read.0 node read.1 block in
      subst (λ (b : List ℕ). AreReadInTree image level (child b k) (first + k * span level)) same (read.2 k less)) (are small)

  pub AreReadInTree-child : (level : ℕ) (ptr : Ptr) (first : ℕ) (node : List ℕ) (k : ℕ) → 0 < level → first < 2 ^ 44 → is_flat ptr ≡ false → IsBlock image ptr node → k < 128 → AreReadInTree image level ptr first
      → AreReadInTree image (level - 1) (child node k) (first + k * span (level - 1))
  AreReadInTree-child zero ptr first node k some small inner block less are = absurd (omega arith)
  AreReadInTree-child (suc level) ptr first node k some small inner block less are = let same : suc level - 1 ≡ level = omega arith in rw same (child_suc level ptr first node k small inner block less are)

  node_beside : (level other : ℕ) (known : Ptr) (beside : Option (List ℕ)) (node : List ℕ) → beside ≡ Some node → IsBeside image level other known beside → (other ≡ level) × (is_flat known ≡ false) × IsBlock image known node
  node_beside level other known beside node is there = let kept : IsBeside image level other known (Some node) = rw is at there in kept

  -- so all is read below what stands in the place of a child where all below the known pointer is
  pub read_in_place : (level other first k lower : ℕ) (known under : Ptr) (beside : Option (List ℕ)) → 0 < level → first < 2 ^ 44 → k < 128 → IsBeside image level other known beside → IsInPlace beside level other known k lower under
      → AreReadInTree image other known first → AreReadInTree image lower under (first + k * span (level - 1))
  read_in_place level other first k lower known under beside some small less there (inl (node, is, lower_is, under_is)) are =
      let at = node_beside level other known beside node is there in
      let lower_read = AreReadInTree-child level known first node k some small at.1 at.2 less (subst (λ (n : ℕ). AreReadInTree image n known first) at.0 are) in
      subst (λ (n : ℕ). AreReadInTree image n under (first + k * span (level - 1))) (sym lower_is) (subst (λ (p : Ptr). AreReadInTree image (level - 1) p (first + k * span (level - 1))) (sym under_is) lower_read)
  read_in_place level other first k lower known under beside some small less there (inr (inl (first_is, lower_is, under_is))) are =
      let start : first ≡ first + k * span (level - 1) = rw first_is (omega arith) in
      subst (λ (n : ℕ). AreReadInTree image lower under n) start (subst (λ (n : ℕ). AreReadInTree image n under first) (sym lower_is) (subst (λ (p : Ptr). AreReadInTree image other p first) (sym under_is) are))
  read_in_place level other first k lower known under beside some small less there (inr (inr flat)) are = AreReadInTree-flat lower under (first + k * span (level - 1)) flat

-- the same over an image that is the same
pub tree_on : (image other : List ℕ) (end : ℕ) (marks : List ℕ) (level : ℕ) (p q : Ptr) (start first : ℕ) → other ≡ image → p ≡ q → start ≡ first → AreMetInTree other end marks level p start → AreMetInTree image end marks level q first
tree_on image other end marks level p q start first same ptr_is start_is are =
    subst (λ (n : ℕ). AreMetInTree image end marks level q n) start_is
    (subst (λ (r : Ptr). AreMetInTree image end marks level r start) ptr_is
    (subst (λ (i : List ℕ). AreMetInTree i end marks level p start) same are))

pub read_on : (image other : List ℕ) (level : ℕ) (p q : Ptr) (start first : ℕ) → other ≡ image → p ≡ q → start ≡ first → AreReadInTree other level p start → AreReadInTree image level q first
read_on image other level p q start first same ptr_is start_is are =
    subst (λ (n : ℕ). AreReadInTree image level q n) start_is
    (subst (λ (r : Ptr). AreReadInTree image level r start) ptr_is
    (subst (λ (i : List ℕ). AreReadInTree i level p start) same are))

-- more blocks may be met of the known leaf
pub beside_more : (image : List ℕ) (old new : MetBlocks) (level : ℕ) (known : Ptr) → MetMore old new → AreMetBeside image old.end old.marks level known → AreMetBeside image new.end new.marks level known
beside_more image old new level known more are = λ bottom inner. AllMet-more old new (IsFirstInLeaf (IsBlock image) known) more (are bottom inner)

-- what is first below a child that was read is first below the node
pub up_tree : (image other before : List ℕ) (level : ℕ) (ptr : Ptr) (node loaded : List ℕ) (k first start sector : ℕ) (p : Ptr) → image ≡ before → other ≡ image → 0 < level → is_flat ptr ≡ false → IsBlock before ptr loaded → node ≡ loaded → k < 128
    → p ≡ child node k → start ≡ first + k * span (level - 1) → IsFirstInTree (IsBlock other) (level - 1) p start sector → IsFirstInTree (IsBlock image) level ptr first sector
up_tree image other before level ptr node loaded k first start sector p earlier same some inner block is less child_is start_is is_first =
    tree_child image level ptr node k first sector some inner (subst (λ (i : List ℕ). IsBlock i ptr node) (sym earlier) (subst (λ (b : List ℕ). IsBlock before ptr b) (sym is) block)) less
    (subst (λ (n : ℕ). IsFirstInTree (IsBlock image) (level - 1) (child node k) n sector) start_is
    (subst (λ (q : Ptr). IsFirstInTree (IsBlock image) (level - 1) q start sector) child_is
    (subst (λ (i : List ℕ). IsFirstInTree (IsBlock i) (level - 1) p start sector) same is_first)))

-- all below each child is met, and so all below the node that was read
pub over_tree : (image other : List ℕ) (end : ℕ) (marks : List ℕ) (level : ℕ) (ptr : Ptr) (first : ℕ) (node loaded : List ℕ) → 0 < level → OwnMet end marks ptr → IsBlock image ptr loaded → node ≡ loaded → other ≡ image
    → ((k : ℕ) → k < 128 → AreMetInTree other end marks (level - 1) (child node k) (first + k * span (level - 1))) → AreMetInTree image end marks level ptr first
over_tree image other end marks level ptr first node loaded some own block is same below =
    AreMetInTree-over image end marks level ptr first node some own (subst (λ (b : List ℕ). IsBlock image ptr b) (sym is) block)
    (λ k less. subst (λ (i : List ℕ). AreMetInTree i end marks (level - 1) (child node k) (first + k * span (level - 1))) same (below k less))

-- so it is with what is read
pub read_over_tree : (image other : List ℕ) (level : ℕ) (ptr : Ptr) (first : ℕ) (node loaded : List ℕ) → 0 < level → IsBlock image ptr loaded → node ≡ loaded → other ≡ image
    → ((k : ℕ) → k < 128 → AreReadInTree other (level - 1) (child node k) (first + k * span (level - 1))) → AreReadInTree image level ptr first
read_over_tree image other level ptr first node loaded some block is same below =
    AreReadInTree-over image level ptr first node some (subst (λ (b : List ℕ). IsBlock image ptr b) (sym is) block)
    (λ k less. subst (λ (i : List ℕ). AreReadInTree i (level - 1) (child node k) (first + k * span (level - 1))) same (below k less))
