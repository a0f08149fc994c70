-- What is reached below a pointer of a set's tree, taken apart and put together.
use Rattle.std.proofs.Common.{◌≡◌, ◌⊎◌, inl, inr, ⊎_elim, ℕ, zero, suc, ◌+◌, ◌-◌, ◌*◌, ◌^◌, ◌<◌, ◌≤◌, ◌==◌, ◌&&◌, List, true, false, refl, ◌∙◌, sym, ap, subst, arith}
use Rattle.std.specs.Prelude.{Some, Result, Ok, Err, OnOk}
use Rattle.std.proofs.lemmas.Bool.{cases_lt, eq-eqb, false≢true}
use Rattle.zst_bytes.specs.Bytes.{bytes_at}
use Rattle.zst_block.specs.Blocks.{IsBlock}
use Rattle.zst_block.specs.Ptr.{hole_of, is_flat}
use Rattle.zst_block.specs.declared.ptr.Ptr.{Ptr}
use Rattle.zst_dnode.specs.Slot.{SlotFits, slot_bytes}
use Rattle.zst_dnode.specs.declared.slot.Slot.{Slot}
use Rattle.zst_marks.specs.Marks.{IsMarked}
use Rattle.zst_objset.specs.Damage.{HasSlot}
use Rattle.zst_tree.specs.Sets.{no_objects}
use Rattle.zst_tree.specs.Indices.{child, span}
use Rattle.zst_reach.specs.Reached.{AreMarked, IsOf}
use Rattle.zst_reach.specs.ReachedSets.{AllMarked, AreMarkedBeside, AreMarkedInLeaf, AreMarkedInSet, AreMarkedInSlot, AreMarkedInTree, ReachesInLeaf, ReachesInSlot, ReachesInTree, StandsAt}
use Rattle.zst_reach.proofs.ReachedLaws.{AreMarked-flat, AreMarked-leaf, AreMarked-over, OwnMarked, one_block, own_only, reach_child}

-- the last of some places or indices
pub last_of : (P : ℕ → Type 0) (k : ℕ) → ((j : ℕ) → j < k → P j) → P k → (j : ℕ) → j < k + 1 → P j
last_of P k before last j under = elim (cases_lt j k) [
  | inl earlier ↦ before j earlier
  | inr on ↦ (let same : k ≡ j = omega (arith, on, under) in subst P same last)
]

-- more sectors may be marked
pub AllMarked-more : (image : List ℕ) (end : ℕ) (marks more : List ℕ) (reached : ℕ → Type 0) → ((sector : ℕ) → IsMarked marks sector → IsMarked more sector) → AllMarked image end marks reached → AllMarked image end more reached
AllMarked-more image end marks more reached up are = λ sector is under. up sector (are sector is under)

module _ (image : List ℕ) where
  -- no leaf with a block stands below a pointer without one
  pub no_leaf : (level : ℕ) (ptr : Ptr) (first index : ℕ) (leaf : Ptr) → is_flat ptr ≡ true → is_flat leaf ≡ false → StandsAt (IsBlock image) level ptr first index leaf → ⊥
  unfolding StandsAt
  no_leaf zero ptr first index leaf flat some stands = false≢true (sym some ∙ ap is_flat stands.1 ∙ flat)
  no_leaf (suc level) ptr first index leaf flat some stands = false≢true (sym stands.0 ∙ flat)

  -- nothing is reached below a pointer without a block
  pub AreMarkedInTree-flat : (end : ℕ) (marks : List ℕ) (level : ℕ) (ptr : Ptr) (first : ℕ) → is_flat ptr ≡ true → AreMarkedInTree image end marks level ptr first
  AreMarkedInTree-flat end marks level ptr first flat = λ sector is under.
      ⊎_elim (λ reached. AreMarked-flat image end marks level ptr flat sector reached under) (λ by. absurd (no_leaf level ptr first by.index by.leaf flat by.some by.stands)) is

  -- nor by the empty set
  pub AreMarkedInSet-empty : (end : ℕ) (marks : List ℕ) → AreMarkedInSet image end marks no_objects
  AreMarkedInSet-empty end marks = AreMarkedInTree-flat end marks 0 (hole_of 0) 0 refl

  leaf_marked : (end : ℕ) (marks : List ℕ) (ptr : Ptr) (first : ℕ) → OwnMarked end marks ptr → AreMarkedInLeaf image end marks ptr → AreMarkedInTree image end marks 0 ptr first
  unfolding StandsAt
  leaf_marked end marks ptr first own inside = λ sector is under.
      ⊎_elim (λ reached. AreMarked-leaf image end marks ptr own sector reached under) (λ by. inside sector (subst (λ (p : Ptr). ReachesInLeaf (IsBlock image) p sector) by.stands.1 by.inside) under) is

  -- a leaf is marked where its own sectors are, and what its objects reach
  pub AreMarkedInTree-leaf : (end : ℕ) (marks : List ℕ) (level : ℕ) (ptr : Ptr) (first : ℕ) → level ≡ 0 → OwnMarked end marks ptr → AreMarkedInLeaf image end marks ptr → AreMarkedInTree image end marks level ptr first
  AreMarkedInTree-leaf end marks level ptr first bottom own inside = subst (λ (n : ℕ). AreMarkedInTree image end marks n ptr first) (sym bottom) (leaf_marked end marks ptr first own inside)

  -- the child below which a leaf stands
  record LeafUnder (level : ℕ) (node : List ℕ) (first index : ℕ) (leaf : Ptr) : Type 0 where
    pub k : ℕ
    pub less : k < 128
    pub stands : StandsAt (IsBlock image) level (child node k) (first + k * span level) index leaf

  leaf_under : (level : ℕ) (ptr : Ptr) (node : List ℕ) (first index : ℕ) (leaf : Ptr) → IsBlock image ptr node → StandsAt (IsBlock image) (suc level) ptr first index leaf → LeafUnder level node first index leaf
  unfolding StandsAt
  leaf_under level ptr node first index leaf block (inner, (bytes, has, k, less, lower)) =
      let same : bytes ≡ node = one_block image ptr bytes node has block in
      record { k = k; less = less; stands = subst (λ (b : List ℕ). StandsAt (IsBlock image) level (child b k) (first + k * span level) index leaf) same lower }

  -- all below a node is marked where its own sectors are, and all below its children
  pub AreMarkedInTree-over : (end : ℕ) (marks : List ℕ) (level : ℕ) (ptr : Ptr) (first : ℕ) (node : List ℕ) → 0 < level → OwnMarked end marks ptr → IsBlock image ptr node
      → ((k : ℕ) → k < 128 → AreMarkedInTree image end marks (level - 1) (child node k) (first + k * span (level - 1))) → AreMarkedInTree image end marks level ptr first
  AreMarkedInTree-over end marks zero ptr first node some own block below = absurd (omega arith)
  AreMarkedInTree-over end marks (suc level) ptr first node some own block below = λ sector is under.
      let same : suc level - 1 ≡ level = omega arith in
      let lower : (k : ℕ) → k < 128 → AreMarkedInTree image end marks level (child node k) (first + k * span level) = λ k less. rw same at (below k less) in
      ⊎_elim (λ reached. AreMarked-over image end marks (suc level) ptr node some own block (λ k less other is_reached other_under. below k less other (inl is_reached) other_under) sector reached under)
      (λ by.
      let at = leaf_under level ptr node first by.index by.leaf block by.stands in
      lower at.k at.less sector (inr (record { leaf = by.leaf; index = by.index; small = by.small; stands = at.stands; some = by.some; inside = by.inside })) under) is

  stands_suc : (level : ℕ) (ptr : Ptr) (node : List ℕ) (k first index : ℕ) (leaf : Ptr) → is_flat ptr ≡ false → IsBlock image ptr node → k < 128
      → StandsAt (IsBlock image) level (child node k) (first + k * span level) index leaf → StandsAt (IsBlock image) (suc level) ptr first index leaf
  unfolding StandsAt
  stands_suc level ptr node k first index leaf inner block less stands = (inner, (node, block, k, less, stands))

  pub stands_child : (level : ℕ) (ptr : Ptr) (node : List ℕ) (k first index : ℕ) (leaf : Ptr) → 0 < level → is_flat ptr ≡ false → IsBlock image ptr node → k < 128
      → StandsAt (IsBlock image) (level - 1) (child node k) (first + k * span (level - 1)) index leaf → StandsAt (IsBlock image) level ptr first index leaf
  stands_child zero ptr node k first index leaf some inner block less stands = absurd (omega arith)
  stands_child (suc level) ptr node k first index leaf some inner block less stands =
      let same : suc level - 1 ≡ level = omega arith in stands_suc level ptr node k first index leaf inner block less (rw same at stands)

  -- what is reached below a child is reached below the node
  pub tree_child : (level : ℕ) (ptr : Ptr) (node : List ℕ) (k first sector : ℕ) → 0 < level → is_flat ptr ≡ false → IsBlock image ptr node → k < 128
      → ReachesInTree (IsBlock image) (level - 1) (child node k) (first + k * span (level - 1)) sector → ReachesInTree (IsBlock image) level ptr first sector
  tree_child level ptr node k first sector some inner block less (inl reached) = inl (reach_child (IsBlock image) level ptr node k sector some inner block less reached)
  tree_child level ptr node k first sector some inner block less (inr by) = inr (record {
    leaf = by.leaf;
    index = by.index;
    small = by.small;
    stands = stands_child level ptr node k first by.index by.leaf some inner block less by.stands;
    some = by.some;
    inside = by.inside;
  })

  -- so all below a child is marked where all below the node is
  pub AreMarkedInTree-child : (end : ℕ) (marks : List ℕ) (level : ℕ) (ptr : Ptr) (first : ℕ) (node : List ℕ) (k : ℕ) → 0 < level → is_flat ptr ≡ false → IsBlock image ptr node → k < 128
      → AreMarkedInTree image end marks level ptr first → AreMarkedInTree image end marks (level - 1) (child node k) (first + k * span (level - 1))
  AreMarkedInTree-child end marks level ptr first node k some inner block less are = λ sector is under. are sector (tree_child level ptr node k first sector some inner block less is) under

  -- what a leaf reaches is reached below a pointer to it
  stands_here : (level : ℕ) (ptr : Ptr) (first : ℕ) → level ≡ 0 → StandsAt (IsBlock image) level ptr first first ptr
  unfolding StandsAt
  stands_here zero ptr first bottom = (refl, refl)
  stands_here (suc level) ptr first bottom = absurd (omega arith)

  pub tree_leaf : (level : ℕ) (ptr : Ptr) (first sector : ℕ) → level ≡ 0 → first < 2 ^ 44 → is_flat ptr ≡ false → ReachesInLeaf (IsBlock image) ptr sector → ReachesInTree (IsBlock image) level ptr first sector
  tree_leaf level ptr first sector bottom small inner inside = inr (record { leaf = ptr; index = first; small = small; stands = stands_here level ptr first bottom; some = inner; inside = inside })

  -- so the known leaf is marked where all below the known pointer is
  pub AreMarkedBeside-of : (end : ℕ) (marks : List ℕ) (level : ℕ) (known : Ptr) (first : ℕ) → first < 2 ^ 44 → AreMarkedInTree image end marks level known first → AreMarkedBeside image end marks level known
  AreMarkedBeside-of end marks level known first small are = λ bottom inner sector reached under. are sector (tree_leaf level known first sector bottom small inner reached) under

  -- no leaf that a set may have stands past the bound
  from_first : (level : ℕ) (ptr : Ptr) (first index : ℕ) (leaf : Ptr) → StandsAt (IsBlock image) level ptr first index leaf → first ≤ index
  unfolding StandsAt
  from_first zero ptr first index leaf stands = omega (arith, stands.0)
  from_first (suc level) ptr first index leaf (inner, (bytes, has, k, less, lower)) = omega (arith, from_first level (child bytes k) (first + k * span level) index leaf lower)

  pub AreMarkedInTree-past : (end : ℕ) (marks : List ℕ) (level : ℕ) (ptr : Ptr) (first : ℕ) → 2 ^ 44 ≤ first → AreMarked image end marks level ptr → AreMarkedInTree image end marks level ptr first
  AreMarkedInTree-past end marks level ptr first past are = λ sector is under.
      ⊎_elim (λ reached. are sector reached under) (λ by. absurd (omega (arith, past, by.small, from_first level ptr first by.index by.leaf by.stands))) is

  -- what the object of a slot reaches its leaf does
  pub leaf_slot : (leaf : Ptr) (bytes : List ℕ) (place sector : ℕ) (slot : Slot) → IsBlock image leaf bytes → place < 16 → HasSlot bytes place slot → ReachesInSlot (IsBlock image) slot sector → ReachesInLeaf (IsBlock image) leaf sector
  leaf_slot leaf bytes place sector slot block under stands reached = record { bytes = bytes; there = block; place = place; under = under; slot = slot; stands = stands; reached = reached }

  -- all that the object in a place reaches is marked
  abbrev pub PlaceMarked : ℕ → List ℕ → List ℕ → ℕ → Type 0
  PlaceMarked end marks bytes place = (slot : Slot) → HasSlot bytes place slot → AreMarkedInSlot image end marks slot

  -- and so with each place
  pub AreMarkedInLeaf-all : (end : ℕ) (marks : List ℕ) (leaf : Ptr) (bytes : List ℕ) → IsBlock image leaf bytes → ((place : ℕ) → place < 16 → PlaceMarked end marks bytes place) → AreMarkedInLeaf image end marks leaf
  AreMarkedInLeaf-all end marks leaf bytes block all = λ sector is under.
      let same : is.bytes ≡ bytes = one_block image leaf is.bytes bytes is.there block in
      all is.place is.under is.slot (subst (λ (b : List ℕ). HasSlot b is.place is.slot) same is.stands) sector is.reached under

-- a child of number 0 begins where its node does
pub first_child : (first k width : ℕ) → k ≡ 0 → first + k * width ≡ first
first_child first k width is = rw is (omega arith)

-- the same over an image that is the same
pub tree_on : (image other : List ℕ) (end : ℕ) (marks : List ℕ) (level : ℕ) (p q : Ptr) (start first : ℕ) → other ≡ image → p ≡ q → start ≡ first → AreMarkedInTree other end marks level p start → AreMarkedInTree image end marks level q first
tree_on image other end marks level p q start first same ptr_is start_is are =
    subst (λ (n : ℕ). AreMarkedInTree image end marks level q n) start_is
    (subst (λ (r : Ptr). AreMarkedInTree image end marks level r start) ptr_is
    (subst (λ (i : List ℕ). AreMarkedInTree i end marks level p start) same are))

pub beside_on : (image other : List ℕ) (end : ℕ) (marks more : List ℕ) (level : ℕ) (known : Ptr) → other ≡ image → ((sector : ℕ) → IsMarked marks sector → IsMarked more sector) → AreMarkedBeside image end marks level known → AreMarkedBeside other end more level known
beside_on image other end marks more level known same up are = λ bottom inner.
    subst (λ (i : List ℕ). AreMarkedInLeaf i end more known) (sym same) (AllMarked-more image end marks more (ReachesInLeaf (IsBlock image) known) up (are bottom inner))

pub slot_on : (image other : List ℕ) (end : ℕ) (marks : List ℕ) (slot read : Slot) → other ≡ image → read ≡ slot → AreMarkedInSlot other end marks read → AreMarkedInSlot image end marks slot
slot_on image other end marks slot read same slot_is are =
    subst (λ (s : Slot). AreMarkedInSlot image end marks s) slot_is (subst (λ (i : List ℕ). AreMarkedInSlot i end marks read) same are)

-- what is reached below a child that was read is reached below the node
pub up_tree : (image other before : List ℕ) (level : ℕ) (ptr : Ptr) (node loaded : List ℕ) (k first start sector : ℕ) (p : Ptr) → image ≡ before → other ≡ image → 0 < level → is_flat ptr ≡ false → IsBlock before ptr loaded → node ≡ loaded → k < 128
    → p ≡ child node k → start ≡ first + k * span (level - 1) → ReachesInTree (IsBlock other) (level - 1) p start sector → ReachesInTree (IsBlock image) level ptr first sector
up_tree image other before level ptr node loaded k first start sector p earlier same some inner block is less child_is start_is reached =
    tree_child image level ptr node k first sector some inner (subst (λ (i : List ℕ). IsBlock i ptr node) (sym earlier) (subst (λ (b : List ℕ). IsBlock before ptr b) (sym is) block)) less
    (subst (λ (n : ℕ). ReachesInTree (IsBlock image) (level - 1) (child node k) n sector) start_is
    (subst (λ (q : Ptr). ReachesInTree (IsBlock image) (level - 1) q start sector) child_is
    (subst (λ (i : List ℕ). ReachesInTree (IsBlock i) (level - 1) p start sector) same reached)))

-- what the object of a slot that was read reaches its leaf does
pub up_slot : (image other before : List ℕ) (leaf : Ptr) (bytes loaded : List ℕ) (place sector : ℕ) (slot : Slot) → image ≡ before → other ≡ image → IsBlock before leaf loaded → bytes ≡ loaded → place < 16 → HasSlot bytes place slot
    → ReachesInSlot (IsBlock other) slot sector → ReachesInLeaf (IsBlock image) leaf sector
up_slot image other before leaf bytes loaded place sector slot earlier same block is under stands reached =
    leaf_slot image leaf bytes place sector slot (subst (λ (i : List ℕ). IsBlock i leaf bytes) (sym earlier) (subst (λ (b : List ℕ). IsBlock before leaf b) (sym is) block)) under stands
    (subst (λ (i : List ℕ). ReachesInSlot (IsBlock i) slot sector) same reached)

-- all below each child is marked, and so all below the node that was read
pub over_tree : (image other : List ℕ) (end : ℕ) (marks : List ℕ) (level : ℕ) (ptr : Ptr) (first : ℕ) (node loaded : List ℕ) → 0 < level → OwnMarked end marks ptr → IsBlock image ptr loaded → node ≡ loaded → other ≡ image
    → ((k : ℕ) → k < 128 → AreMarkedInTree other end marks (level - 1) (child node k) (first + k * span (level - 1))) → AreMarkedInTree image end marks level ptr first
over_tree image other end marks level ptr first node loaded some own block is same below =
    AreMarkedInTree-over image end marks level ptr first node some own (subst (λ (b : List ℕ). IsBlock image ptr b) (sym is) block)
    (λ k less. subst (λ (i : List ℕ). AreMarkedInTree i end marks (level - 1) (child node k) (first + k * span (level - 1))) same (below k less))

-- all that the objects reach is marked, and so all that the leaf that was read does
pub over_leaf : (image other : List ℕ) (end : ℕ) (marks : List ℕ) (leaf : Ptr) (bytes loaded : List ℕ) → other ≡ image → bytes ≡ loaded → IsBlock image leaf loaded
    → ((place : ℕ) → place < 16 → PlaceMarked other end marks bytes place) → AreMarkedInLeaf image end marks leaf
over_leaf image other end marks leaf bytes loaded same is block all =
    AreMarkedInLeaf-all image end marks leaf bytes (subst (λ (b : List ℕ). IsBlock image leaf b) (sym is) block)
    (λ place under. subst (λ (i : List ℕ). PlaceMarked i end marks bytes place) same (all place under))

-- what is marked after a block was marked is marked before it, or is reached
pub own_tree : (image : List ℕ) (end : ℕ) (level : ℕ) (ptr : Ptr) (first sector : ℕ) (old : Type 0) → is_flat ptr ≡ false → (IsOf ptr sector × (sector < end)) ⊎ old → old ⊎ ReachesInTree (IsBlock image) level ptr first sector
own_tree image end level ptr first sector old inner is = ⊎_elim (λ before. inl before) (λ reached. inr (inl reached)) (own_only image end level ptr sector old inner is)

-- the slot that was read at a place
pub HasSlot-read : (bytes read : List ℕ) (place : ℕ) (slot : Slot) → read ≡ bytes → SlotFits slot → bytes_at read (512 * place) 512 ≡ slot_bytes slot → HasSlot bytes place slot
HasSlot-read bytes read place slot same fits spelled = record { fits = fits; spelled = ap (λ (b : List ℕ). bytes_at b (512 * place) 512) (sym same) ∙ spelled }

-- is the one that stands there
pub same_slot : (bytes read : List ℕ) (place : ℕ) (slot other : Slot) → read ≡ bytes → HasSlot bytes place other → ((any : Slot) → SlotFits any → bytes_at read (512 * place) 512 ≡ slot_bytes any → Some slot ≡ Some any) → slot ≡ other
same_slot bytes read place slot other same stands back =
    let found = back other stands.fits (ap (λ (b : List ℕ). bytes_at b (512 * place) 512) same ∙ stands.spelled) in cc

-- what follows from what a call that ended well makes so
pub on_ok : {T E P Q : Type 0} → (P → Q) → (result : Result T E) → OnOk result P → OnOk result Q
on_ok up (Ok value) is = up is
on_ok up (Err fault) is = tt

-- pointers that are one are found to be
pub same_ptr : (p q : Ptr) → p ≡ q → ((p.kind == q.kind) && ((p.level == q.level) && ((p.length == q.length) && ((p.sector == q.sector) && ((p.number == q.number) && ((p.sum.a == q.sum.a) && ((p.sum.b == q.sum.b) && ((p.sum.c == q.sum.c) && (p.sum.d == q.sum.d))))))))) ≡ true
same_ptr p q is = rw (eq-eqb p.kind q.kind (ap (λ (r : Ptr). r.kind) is), eq-eqb p.level q.level (ap (λ (r : Ptr). r.level) is), eq-eqb p.length q.length (ap (λ (r : Ptr). r.length) is), eq-eqb p.sector q.sector (ap (λ (r : Ptr). r.sector) is), eq-eqb p.number q.number (ap (λ (r : Ptr). r.number) is), eq-eqb p.sum.a q.sum.a (ap (λ (r : Ptr). r.sum.a) is), eq-eqb p.sum.b q.sum.b (ap (λ (r : Ptr). r.sum.b) is), eq-eqb p.sum.c q.sum.c (ap (λ (r : Ptr). r.sum.c) is), eq-eqb p.sum.d q.sum.d (ap (λ (r : Ptr). r.sum.d) is)) refl
