-- Which trees of data stand, taken apart.
use Rattle.std.proofs.Common.{◌≡◌, inl, inr, ⊎_elim, ℕ, zero, suc, ◌-◌, ◌<◌, List, Bool, true, false, if◌then◌else◌, refl, ◌∙◌, sym, subst, arith}
use Rattle.std.specs.Prelude.{Option, None, Some}
use Rattle.std.proofs.lemmas.Bool.{false≢true}
use Rattle.zst_block.specs.Ptr.{is_flat}
use Rattle.zst_block.specs.declared.ptr.Ptr.{Ptr}
use Rattle.zst_tree.specs.Damage.{NamesNode}
use Rattle.zst_tree.specs.Indices.{Blocks, child}
use Rattle.zst_count.specs.PastLeaves.{is_past, told_below}
use Rattle.zst_count.specs.StandingData.{DataStand, IsDataThere, LeafIsThere}

module _ (has : Blocks) (told : Option ℕ) where
  -- the node that a pointer names, and what stands below its children
  pub record NodeStands (level : ℕ) (ptr : Ptr) : Type 0 where
    pub names : NamesNode level ptr
    pub bytes : List ℕ
    pub there : has ptr bytes
    pub below : (k : ℕ) → k < 128 → DataStand has (told_below told level k) (level - 1) (child bytes k)

  node_suc : (level : ℕ) (ptr : Ptr) → is_flat ptr ≡ false → DataStand has told (suc level) ptr → NodeStands (suc level) ptr
  unfolding DataStand
  node_suc level ptr inner (inl flat) = absurd (false≢true (sym inner ∙ flat))
  node_suc level ptr inner (inr (names, (bytes, there, below))) =
      let same : suc level - 1 ≡ level = omega arith in
      record { names = names; bytes = bytes; there = there; below = λ k less. rw same (below k less) }

  pub node_stands : (level : ℕ) (ptr : Ptr) → 0 < level → is_flat ptr ≡ false → DataStand has told level ptr → NodeStands level ptr
  node_stands zero ptr some inner stands = absurd (omega arith)
  node_stands (suc level) ptr some inner stands = node_suc level ptr inner stands

  leaf_zero : (ptr : Ptr) → is_flat ptr ≡ false → DataStand has told 0 ptr → LeafIsThere has told ptr
  unfolding DataStand
  leaf_zero ptr inner stands = ⊎_elim (λ flat. absurd (false≢true (sym inner ∙ flat))) (λ leaf. leaf) stands

  -- a leaf is there
  pub leaf_there : (level : ℕ) (ptr : Ptr) → level ≡ 0 → is_flat ptr ≡ false → DataStand has told level ptr → LeafIsThere has told ptr
  leaf_there level ptr bottom inner stands = leaf_zero ptr inner (subst (λ (n : ℕ). DataStand has told n ptr) bottom stands)

-- so are the data of a leaf whose length is told
pub data_there : (has : Blocks) (told : Option ℕ) (count level : ℕ) (ptr : Ptr) → told ≡ Some count → level ≡ 0 → is_flat ptr ≡ false → DataStand has told level ptr → IsDataThere has count ptr
data_there has told count level ptr is bottom inner stands = leaf_there has (Some count) level ptr bottom inner (subst (λ (o : Option ℕ). DataStand has o level ptr) is stands)

-- where no length is told none is told below
either_way : (past : Bool) (told : Option ℕ) → (if past then told else told) ≡ told
either_way true told = refl
either_way false told = refl

pub none_below : (level k : ℕ) → told_below None level k ≡ None
none_below level k = either_way (is_past level k) None

module _ (has : Blocks) where
  -- so a child's leaves needn't be read
  pub DataStand-unread : (level k lower : ℕ) (ptr : Ptr) → DataStand has None lower ptr → DataStand has (told_below None level k) lower ptr
  DataStand-unread level k lower ptr stands = subst (λ (o : Option ℕ). DataStand has o lower ptr) (sym (none_below level k)) stands

  -- a tree that stands does so where no leaf is read
  pub DataStand-none : (told : Option ℕ) (level : ℕ) (ptr : Ptr) → DataStand has told level ptr → DataStand has None level ptr
  unfolding DataStand
  DataStand-none told zero ptr (inl flat) = inl flat
  DataStand-none told zero ptr (inr leaf) = inr tt
  DataStand-none told (suc level) ptr (inl flat) = inl flat
  DataStand-none told (suc level) ptr (inr (names, (bytes, there, below))) =
      inr (names, (bytes, there, λ k less. DataStand-unread (suc level) k level (child bytes k) (DataStand-none (told_below told (suc level) k) level (child bytes k) (below k less))))

  -- and where those past the bound aren't read
  unless_past : (told : Option ℕ) (past : Bool) (level : ℕ) (ptr : Ptr) → DataStand has told level ptr → DataStand has (if past then None else told) level ptr
  unless_past told true level ptr stands = DataStand-none told level ptr stands
  unless_past told false level ptr stands = stands

  pub DataStand-below : (told : Option ℕ) (level k lower : ℕ) (ptr : Ptr) → DataStand has told lower ptr → DataStand has (told_below told level k) lower ptr
  DataStand-below told level k lower ptr stands = unless_past told (is_past level k) lower ptr stands
