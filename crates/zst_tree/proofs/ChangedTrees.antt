-- What is below the root that a change of a tree leaves.
use Rattle.std.proofs.Common.{◌≡◌, ◌⊎◌, inl, inr, ⊎_elim, ℕ, zero, suc, ◌-◌, ◌<◌, true, false, List, length, refl, sym, ◌∙◌, ap, subst, arith}
use Rattle.std.specs.Prelude.{OnOk, Result, Ok, Err}
use Rattle.std.proofs.lemmas.Bool.{false≢true}
use Rattle.zst_fletcher.specs.WeightSum.{weight_sum}
use Rattle.zst_space.specs.FreeSectors.{FreeSectors}
use Rattle.zst_block.specs.Blocks.{IsBlock, IsPlaced, Has, SparesTaken}
use Rattle.zst_block.specs.Ptr.{hole_of, is_flat}
use Rattle.zst_block.specs.ReadAnswers.{IsDamage}
use Rattle.zst_block.specs.declared.fault.BlockFault.{BlockFault}
use Rattle.zst_block.specs.declared.ptr.Ptr.{Ptr}
use Rattle.zst_block.proofs.BlocksLaws.{Has-spared, SparesTaken-same}
use Rattle.zst_tree.specs.Changes.{FillsChildren, PutsChild}
use Rattle.zst_tree.specs.Damage.{HangsBelow, IsBelow, IsDamagedNode, IsSummedBelow, IsWithin, MayHave, NamesNode, Reaches, SumsUp}
use Rattle.zst_tree.specs.Indices.{Blocks, child}
use Rattle.zst_tree.proofs.SubtreeCases.{flat_kind}
use Rattle.zst_tree.proofs.Damage.{HangsBelow-grows, MayHave-more, Reaches-flat, hangs_child, hangs_flat}
use Rattle.zst_tree.proofs.ChangedNodes.{Mixed}
use Rattle.zst_tree.proofs.Sides.{sides}
use Rattle.zst_tree.proofs.LaterDamage.{IsBelow-more, IsSummedBelow-more}

module _ (has : Blocks) where
  -- no node is below a pointer that stands for all below it
  Reaches-stands : (lower : ℕ) (under : Ptr) (at : ℕ) (found : Ptr) → (lower ≡ 0) ⊎ (is_flat under ≡ true) → ¬ Reaches has lower under at found
  unfolding Reaches
  Reaches-stands zero under at found stands = λ reached. reached
  Reaches-stands (suc lower) under at found (inl none) = λ reached. absurd (omega arith)
  Reaches-stands (suc lower) under at found (inr flat) = Reaches-flat has (suc lower) under at found flat

  -- and it alone hangs there
  stands_only : (lower : ℕ) (under found : Ptr) → (lower ≡ 0) ⊎ (is_flat under ≡ true) → HangsBelow has lower under found → found ≡ under
  unfolding HangsBelow
  stands_only zero under found stands hangs = hangs
  stands_only (suc lower) under found (inl none) hangs = absurd (omega arith)
  stands_only (suc lower) under found (inr flat) (inl here) = here.1
  stands_only (suc lower) under found (inr flat) (inr inner) = absurd (false≢true (sym inner.0 ∙ flat))

  -- a pointer that is reached below a node is the node's, or is reached below a child
  reaches_cases : (lower : ℕ) (root : Ptr) (at : ℕ) (found : Ptr) → Reaches has (suc lower) root at found
      → ((at ≡ suc lower) × (found ≡ root)) ⊎ ((bytes : List ℕ) × has root bytes × (k : ℕ) × (k < 128) × Reaches has lower (child bytes k) at found)
  unfolding Reaches
  reaches_cases lower root at found reached = reached.1

  -- one that hangs below a node hangs below a child
  hangs_cases : (lower : ℕ) (root found : Ptr) → is_flat root ≡ false → HangsBelow has (suc lower) root found → (bytes : List ℕ) × has root bytes × (k : ℕ) × (k < 128) × HangsBelow has lower (child bytes k) found
  unfolding HangsBelow
  hangs_cases lower root found inner (inl here) = absurd (false≢true (sym inner ∙ here.0))
  hangs_cases lower root found inner (inr under) = (under.1, under.2, under.3, under.4, under.5)

module _ (images : List ℕ → Type 0) (size level : ℕ) (root leaf : Ptr) where
  -- the root itself
  pub IsWithin-self : IsWithin images size level root leaf images level root
  IsWithin-self = record { below = λ sector stated found damage. damage; sums = λ sector stated found damage. damage; hangs = λ found hangs. inl hangs }

  -- among fewer images
  pub IsWithin-fewer : (more fewer : List ℕ → Type 0) → ((image : List ℕ) → fewer image → more image) → (lower : ℕ) (under : Ptr) → IsWithin images size level root leaf more lower under → IsWithin images size level root leaf fewer lower under
  IsWithin-fewer more fewer up lower under within = record {
    below = λ sector stated found damage. within.below sector stated found (IsBelow-more fewer more up size NamesNode lower under sector stated found damage);
    sums = λ sector stated found damage. within.sums sector stated found (IsSummedBelow-more fewer more up size lower under sector stated found damage);
    hangs = λ found hangs. within.hangs found (HangsBelow-grows (MayHave fewer) (MayHave more) (MayHave-more fewer more up) lower under found hangs);
  }

  -- one change after another
  pub IsWithin-then : (mid : List ℕ → Type 0) (lower : ℕ) (under : Ptr) → IsWithin images size level root leaf mid lower under → (fewer : List ℕ → Type 0) (lowest : ℕ) (last : Ptr) → IsWithin mid size lower under leaf fewer lowest last
      → IsWithin images size level root leaf fewer lowest last
  IsWithin-then mid lower under first fewer lowest last second = record {
    below = λ sector stated found damage. first.below sector stated found (second.below sector stated found damage);
    sums = λ sector stated found damage. first.sums sector stated found (second.sums sector stated found damage);
    hangs = λ found hangs. ⊎_elim (λ inside. first.hangs found inside) (λ other. inr other) (second.hangs found hangs);
  }

  -- the leaf, or a hole, where it stands for all
  pub IsWithin-stands : (fewer : List ℕ → Type 0) (lower : ℕ) (under : Ptr) → (lower ≡ 0) ⊎ (is_flat under ≡ true) → (under ≡ leaf) ⊎ (under.kind ≡ 0) → IsWithin images size level root leaf fewer lower under
  IsWithin-stands fewer lower under stands is = record {
    below = λ sector stated found damage. absurd (Reaches-stands (MayHave fewer) lower under damage.at damage.ptr stands damage.reached);
    sums = λ sector stated found damage. absurd (Reaches-stands (MayHave fewer) lower under damage.at damage.ptr stands damage.reached);
    hangs = λ found hangs.
        let same : found ≡ under = stands_only (MayHave fewer) lower under found stands hangs in
        inr (⊎_elim (λ leaf_is. inl (same ∙ leaf_is)) (λ hole. inr (ap (λ (p : Ptr). p.kind) same ∙ hole)) is);
  }

  pub IsWithin-size : (other : ℕ) → size ≡ other → (fewer : List ℕ → Type 0) (lower : ℕ) (under : Ptr) → IsWithin images size level root leaf fewer lower under → IsWithin images other level root leaf fewer lower under
  IsWithin-size other same fewer lower under within = subst (λ (n : ℕ). IsWithin images n level root leaf fewer lower under) same within

-- what may be told alone, of nodes that may not sum up what stands below them
module _ (images : List ℕ → Type 0) (size level : ℕ) (root : Ptr) where
  -- among fewer images
  pub IsSummedBelow-fewer : (more fewer : List ℕ → Type 0) → ((image : List ℕ) → fewer image → more image) → (lower : ℕ) (under : Ptr) → IsSummedBelow images size level root more lower under → IsSummedBelow images size level root fewer lower under
  IsSummedBelow-fewer more fewer up lower under below = λ sector stated found damage. below sector stated found (IsSummedBelow-more fewer more up size lower under sector stated found damage)

  -- one change after another
  pub IsSummedBelow-then : (mid : List ℕ → Type 0) (lower : ℕ) (under : Ptr) → IsSummedBelow images size level root mid lower under → (fewer : List ℕ → Type 0) (lowest : ℕ) (last : Ptr) → IsSummedBelow mid size lower under fewer lowest last
      → IsSummedBelow images size level root fewer lowest last
  IsSummedBelow-then mid lower under first fewer lowest last second = λ sector stated found damage. first sector stated found (second sector stated found damage)

  -- nothing is told of a pointer that stands for all below it
  pub IsSummedBelow-stands : (fewer : List ℕ → Type 0) (lower : ℕ) (under : Ptr) → (lower ≡ 0) ⊎ (is_flat under ≡ true) → IsSummedBelow images size level root fewer lower under
  IsSummedBelow-stands fewer lower under stands = λ sector stated found damage. absurd (Reaches-stands (MayHave fewer) lower under damage.at damage.ptr stands damage.reached)

  pub IsSummedBelow-size : (other : ℕ) → size ≡ other → (fewer : List ℕ → Type 0) (lower : ℕ) (under : Ptr) → IsSummedBelow images size level root fewer lower under → IsSummedBelow images other level root fewer lower under
  IsSummedBelow-size other same fewer lower under below = subst (λ (n : ℕ). IsSummedBelow images n level root fewer lower under) same below

-- a child of a node that was read, below this root among more images
pub opened_summed : (images old now : List ℕ → Type 0) → ((image : List ℕ) → old image → images image) → ((image : List ℕ) → now image → old image) → (size level : ℕ) (root : Ptr) (lower : ℕ) (under : Ptr)
    → IsSummedBelow old size level root old lower under → IsSummedBelow images size level root now lower under
opened_summed images old now up down size level root lower under sums = IsSummedBelow-fewer images size level root old now down lower under
    (λ sector stated found damage. IsSummedBelow-more old images up size level root sector stated found (sums sector stated found damage))

-- a child of a node that was read, below this root among more images
pub opened_within : (images old now : List ℕ → Type 0) → ((image : List ℕ) → old image → images image) → ((image : List ℕ) → now image → old image) → (size level : ℕ) (root leaf : Ptr) (lower : ℕ) (under : Ptr)
    → IsBelow old size NamesNode level root old lower under → ((found : Ptr) → HangsBelow (MayHave old) lower under found → HangsBelow (MayHave old) level root found)
    → IsSummedBelow old size level root old lower under → IsWithin images size level root leaf now lower under
opened_within images old now up down size level root leaf lower under below hangs sums = IsWithin-fewer images size level root leaf old now down lower under (record {
  below = λ sector stated found damage. IsBelow-more old images up size NamesNode level root sector stated found (below sector stated found damage);
  sums = λ sector stated found damage. IsSummedBelow-more old images up size level root sector stated found (sums sector stated found damage);
  hangs = λ found hung. inl (HangsBelow-grows (MayHave old) (MayHave images) (MayHave-more old images up) level root found (hangs found hung));
})

-- what hangs below each pointer of a node that was filled with one that stands for all
pub hangs_spread : (has : Blocks) (level lower : ℕ) (ptr under found : Ptr) → under ≡ ptr → is_flat ptr ≡ true → HangsBelow has lower under found → HangsBelow has level ptr found
hangs_spread has level lower ptr under found same flat hangs =
    let is : found ≡ ptr = stands_only has lower ptr found (inr flat) (subst (λ (p : Ptr). HangsBelow has lower p found) same hangs) in
    subst (λ (p : Ptr). HangsBelow has level ptr p) (sym is) (hangs_flat has level ptr flat)

-- what hangs below a pointer of a node that was read
pub opened_hangs : (space : FreeSectors) (seen : List ℕ) (level : ℕ) (ptr : Ptr) (bytes : List ℕ) → 0 < level → is_flat ptr ≡ false → {T : Type 0} → (result : Result T BlockFault) → OnOk result (IsBlock seen ptr bytes)
    → OnOk result ((k : ℕ) → k < 128 → (found : Ptr) → HangsBelow (MayHave (SparesTaken space seen)) (level - 1) (child bytes k) found → HangsBelow (MayHave (SparesTaken space seen)) level ptr found)
opened_hangs space seen level ptr bytes some inner (Err fault) block = tt
opened_hangs space seen level ptr bytes some inner (Ok value) block = λ k under found hangs.
    hangs_child (MayHave (SparesTaken space seen)) level ptr bytes k found some inner (record { image = seen; among = SparesTaken-same space seen; block = block }) under hangs

-- a block that is there isn't damaged
there_whole : (image : List ℕ) (space : FreeSectors) (size : ℕ) (ptr : Ptr) (bytes found : List ℕ) → length image ≡ size → Has image space ptr bytes → ¬ IsDamage image size ptr found
there_whole image space size ptr bytes found long has = λ damage. ⊎_elim
    (λ other. other.2 (ap (λ (xs : List ℕ). weight_sum xs) has.block.bytes_are ∙ has.block.sum_is))
    (λ outside. outside.0 (subst (λ (n : ℕ). IsPlaced n ptr) long has.block.placed)) damage

-- a node that was written is whole, and below it is only what is below its children
module _ (seen : List ℕ) (space : FreeSectors) (size : ℕ) (long : length seen ≡ size) (made : Ptr) (node : List ℕ) (has : Has seen space made node) where
  -- an image that spares what is taken has the block, and no other
  pub block_there : (image : List ℕ) → SparesTaken space seen image → Has image space made node
  block_there image spares = Has-spared space seen image made node spares has

  pub block_same : (bytes : List ℕ) → MayHave (SparesTaken space seen) made bytes → bytes ≡ node
  block_same bytes may = sym may.block.bytes_are ∙ (block_there may.image may.among).block.bytes_are

  pub block_whole : (image found : List ℕ) → SparesTaken space seen image → ¬ IsDamage image size made found
  block_whole image found spares = there_whole image space size made node found (spares.size ∙ long) (block_there image spares)

  made_whole : (right : ℕ → Ptr → Type 0) (level at : ℕ) (ptr : Ptr) (stated found : List ℕ) → right level made → at ≡ level → ptr ≡ made
      → ((image : List ℕ) × SparesTaken space seen image × IsDamage image size ptr found) ⊎ ((found ≡ stated) × (¬ right at ptr)) → ⊥
  made_whole right level at ptr stated found is at_is ptr_is told = ⊎_elim
      (λ other. block_whole other.0 found other.1 (subst (λ (p : Ptr). IsDamage other.0 size p found) ptr_is other.2))
      (λ alike. alike.1 (subst (λ (n : ℕ). right n ptr) (sym at_is) (subst (λ (p : Ptr). right level p) (sym ptr_is) is))) told

  abbrev Under : ℕ → ℕ → Ptr → Type 0
  Under lower at ptr = (bytes : List ℕ) × MayHave (SparesTaken space seen) made bytes × (k : ℕ) × (k < 128) × Reaches (MayHave (SparesTaken space seen)) lower (child bytes k) at ptr

  -- what is told below a child of it
  under_child : (right : ℕ → Ptr → Type 0) (lower sector : ℕ) (stated found : List ℕ) (damage : IsDamagedNode (SparesTaken space seen) size right (suc lower) made sector stated found) → (under : Under lower damage.at damage.ptr)
      → IsDamagedNode (SparesTaken space seen) size right lower (child node under.2) sector stated found
  under_child right lower sector stated found damage under = record {
    at = damage.at;
    ptr = damage.ptr;
    reached = subst (λ (bytes : List ℕ). Reaches (MayHave (SparesTaken space seen)) lower (child bytes under.2) damage.at damage.ptr) (block_same under.0 under.1) under.4;
    sector_is = damage.sector_is;
    stated_is = damage.stated_is;
    found_is = damage.found_is;
  }

  module _ (images : List ℕ → Type 0) (upper : ℕ) (root : Ptr) where
    summed_suc : (lower : ℕ) → SumsUp (SparesTaken space seen) (suc lower) made → ((k : ℕ) → k < 128 → IsSummedBelow images size upper root (SparesTaken space seen) lower (child node k)) → IsSummedBelow images size upper root (SparesTaken space seen) (suc lower) made
    summed_suc lower sums children = λ sector stated found damage. ⊎_elim
        (λ here. absurd (made_whole (SumsUp (SparesTaken space seen)) (suc lower) damage.at damage.ptr stated found sums here.0 here.1 damage.found_is))
        (λ under. children under.2 under.3 sector stated found (under_child (SumsUp (SparesTaken space seen)) lower sector stated found damage under))
        (reaches_cases (MayHave (SparesTaken space seen)) lower made damage.at damage.ptr damage.reached)

    pub node_summed : (level : ℕ) → 0 < level → SumsUp (SparesTaken space seen) level made → ((k : ℕ) → k < 128 → IsSummedBelow images size upper root (SparesTaken space seen) (level - 1) (child node k)) → IsSummedBelow images size upper root (SparesTaken space seen) level made
    node_summed zero some sums children = absurd (omega arith)
    node_summed (suc lower) some sums children =
        let same : suc lower - 1 ≡ lower = omega arith in
        summed_suc lower sums (λ k under. rw same at (children k under))

  module _ (images : List ℕ → Type 0) (upper : ℕ) (root leaf : Ptr) where
    node_suc : (lower : ℕ) → SumsUp (SparesTaken space seen) (suc lower) made → ((k : ℕ) → k < 128 → IsWithin images size upper root leaf (SparesTaken space seen) lower (child node k)) → IsWithin images size upper root leaf (SparesTaken space seen) (suc lower) made
    node_suc lower sums children = record {
      below = λ sector stated found damage. ⊎_elim
          (λ here. absurd (made_whole NamesNode (suc lower) damage.at damage.ptr stated found sums.names here.0 here.1 damage.found_is))
          (λ under. (children under.2 under.3).below sector stated found (under_child NamesNode lower sector stated found damage under))
          (reaches_cases (MayHave (SparesTaken space seen)) lower made damage.at damage.ptr damage.reached);
      sums = summed_suc images upper root lower sums (λ k under. (children k under).sums);
      hangs = λ found hangs.
          let under = hangs_cases (MayHave (SparesTaken space seen)) lower made found (flat_kind made sums.names.kind) hangs in
          (children under.2 under.3).hangs found (subst (λ (bytes : List ℕ). HangsBelow (MayHave (SparesTaken space seen)) lower (child bytes under.2) found) (block_same under.0 under.1) under.4);
    }

    pub node_within : (level : ℕ) → 0 < level → SumsUp (SparesTaken space seen) level made → ((k : ℕ) → k < 128 → IsWithin images size upper root leaf (SparesTaken space seen) (level - 1) (child node k)) → IsWithin images size upper root leaf (SparesTaken space seen) level made
    node_within zero some sums children = absurd (omega arith)
    node_within (suc lower) some sums children =
        let same : suc lower - 1 ≡ lower = omega arith in
        node_suc lower sums (λ k under. rw same at (children k under))

-- one child was put into a node
pub one_summed : (images : List ℕ → Type 0) (size upper : ℕ) (root : Ptr) (now : List ℕ → Type 0) (lower : ℕ) (old new : List ℕ) (place : ℕ) (made : Ptr) → PutsChild old new place made
    → ((k : ℕ) → k < 128 → IsSummedBelow images size upper root now lower (child old k)) → IsSummedBelow images size upper root now lower made → (k : ℕ) → k < 128 → IsSummedBelow images size upper root now lower (child new k)
one_summed images size upper root now lower old new place made puts others here k under = ⊎_elim
    (λ before. subst (λ (p : Ptr). IsSummedBelow images size upper root now lower p) (sym (puts.others k under (omega arith)).child_is) (others k under))
    (⊎_elim (λ is. subst (λ (p : Ptr). IsSummedBelow images size upper root now lower p) (sym (ap (child new) is ∙ puts.here.child_is)) here)
    (λ behind. subst (λ (p : Ptr). IsSummedBelow images size upper root now lower p) (sym (puts.others k under (omega arith)).child_is) (others k under))) (sides k place)

module _ (images : List ℕ → Type 0) (size upper : ℕ) (root leaf : Ptr) (now : List ℕ → Type 0) (lower : ℕ) where
  at_child : (there here : Ptr) → here ≡ there → IsWithin images size upper root leaf now lower there → IsWithin images size upper root leaf now lower here
  at_child there here same within = subst (λ (p : Ptr). IsWithin images size upper root leaf now lower p) (sym same) within

  -- one child was put into a node
  pub one_within : (old new : List ℕ) (place : ℕ) (made : Ptr) → PutsChild old new place made → ((k : ℕ) → k < 128 → IsWithin images size upper root leaf now lower (child old k)) → IsWithin images size upper root leaf now lower made
      → (k : ℕ) → k < 128 → IsWithin images size upper root leaf now lower (child new k)
  one_within old new place made puts others within k under = ⊎_elim
      (λ before. at_child (child old k) (child new k) (puts.others k under (omega arith)).child_is (others k under))
      (⊎_elim (λ is. at_child made (child new k) (ap (child new) is ∙ puts.here.child_is) within)
      (λ behind. at_child (child old k) (child new k) (puts.others k under (omega arith)).child_is (others k under))) (sides k place)

  -- two were, and a leaf between them
  pub mixed_within : (old new : List ℕ) (low : ℕ) (new_low : Ptr) (high : ℕ) (new_high : Ptr) → is_flat leaf ≡ true → Mixed old new low new_low high new_high leaf → ((k : ℕ) → k < 128 → IsWithin images size upper root leaf now lower (child old k))
      → IsWithin images size upper root leaf now lower new_low → IsWithin images size upper root leaf now lower new_high → (k : ℕ) → k < 128 → IsWithin images size upper root leaf now lower (child new k)
  mixed_within old new low new_low high new_high flat mixed others within_low within_high k under = ⊎_elim
      (λ before. at_child (child old k) (child new k) (mixed.before k before).child_is (others k under))
      (⊎_elim (λ is. at_child new_low (child new k) (ap (child new) is ∙ mixed.at_low.child_is) within_low)
      (λ above. ⊎_elim (λ inside. at_child leaf (child new k) (mixed.between k above inside).child_is (IsWithin-stands images size upper root leaf now lower leaf (inr flat) (inl refl)))
      (⊎_elim (λ is. at_child new_high (child new k) (ap (child new) is ∙ mixed.at_high.child_is) within_high)
      (λ behind. at_child (child old k) (child new k) (mixed.behind k behind under).child_is (others k under))) (sides k high))) (sides k low)

  -- a root was put over holes
  pub raised_within : (was filled node : List ℕ) (hole : Ptr) (past : ℕ) (old_root : Ptr) → hole ≡ hole_of past → FillsChildren was filled 0 128 hole → PutsChild filled node 0 old_root → IsWithin images size upper root leaf now lower old_root
      → (k : ℕ) → k < 128 → IsWithin images size upper root leaf now lower (child node k)
  raised_within was filled node hole past old_root hole_is fills puts within = one_within filled node 0 old_root puts
      (λ k under. at_child (hole_of past) (child filled k) ((fills.inside k (omega arith) under).child_is ∙ hole_is) (IsWithin-stands images size upper root leaf now lower (hole_of past) (inr refl) (inr refl))) within
