-- What the two texts of a body reach, and what is told of them, put together; and so what is told of a pool.
use Rattle.std.proofs.Common.{◌≡◌, ◌⊎◌, inl, inr, ⊎_elim, ℕ, ◌<◌, List, subst}
use Rattle.std.specs.Prelude.{Result, Ok, Err}
use Rattle.zst_block.specs.Blocks.{IsBlock}
use Rattle.zst_block.specs.declared.fault.BlockFault.{BlockFault}
use Rattle.zst_block.specs.declared.fault.BlockFault.TheVariants.{Full, Damaged, DiskFault}
use Rattle.zst_marks.specs.Marks.{MarksMore}
use Rattle.zst_dir.specs.Rows.{Rows}
use Rattle.zst_objset.specs.Damage.{IfDamage, IfDamaged}
use Rattle.zst_objset.proofs.DamageLaws.{IfDamage-weaker}
use Rattle.zst_reach.specs.Reached.{AreMarked, ReachesSector}
use Rattle.zst_reach.specs.ReachedSets.{AllMarked}
use Rattle.zst_tree.specs.Damage.{IsDamagedNode, IsSeen, NamesDamage, NamesNode, TellsNode}
use Rattle.zst_tree.specs.Faults.{IfFault}
use Rattle.zst_tree.specs.declared.or_memory.OrMemory.{OrMemory}
use Rattle.zst_tree.specs.declared.or_memory.OrMemory.TheVariants.{Fault, Memory}
use Rattle.zst_uber.specs.declared.uber.Uber.{Uber}
use Rattle.zst_roots.specs.RowDamage.{IsDamagedHeld, IsDamagedInPool, IsDamagedInRows, IsDamagedInTexts, IsToldOfSome}
use Rattle.zst_roots.specs.Unreached.{TextsReach}
use Rattle.zst_roots.specs.declared.held.HeldBlocks.{HeldBlocks}

module _ (image : List ℕ) (uber : Uber) where
  -- where all that the directory reaches was marked, and then all that the free extents do, all that the texts reach is
  pub texts_marked : (now marks more : List ℕ) → now ≡ image → MarksMore marks more → AreMarked image uber.end marks uber.dir_levels uber.dir_root
      → (0 < uber.free_count → AreMarked now uber.end more uber.free_levels uber.free_root) → AllMarked image uber.end more (TextsReach (IsBlock image) uber)
  texts_marked now marks more same up dir free = λ sector reached under. ⊎_elim
      (λ by. up.stay sector (dir sector by under))
      (λ by. subst (λ (seen : List ℕ). AreMarked seen uber.end more uber.free_levels uber.free_root) same (free by.0) sector by.1 under) reached

  -- and nothing else is marked
  pub only_texts : (now : List ℕ) (sector : ℕ) (old mid : Type 0) → now ≡ image → 0 < uber.free_count → (mid → old ⊎ ReachesSector (IsBlock image) uber.dir_levels uber.dir_root sector)
      → mid ⊎ ReachesSector (IsBlock now) uber.free_levels uber.free_root sector → old ⊎ TextsReach (IsBlock image) uber sector
  only_texts now sector old mid same some dir step = ⊎_elim
      (λ was. ⊎_elim inl (λ by. inr (inl by)) (dir was))
      (λ by. inr (inr (some, subst (λ (seen : List ℕ). ReachesSector (IsBlock seen) uber.free_levels uber.free_root sector) same by))) step

module _ (image : List ℕ) (size : ℕ) (uber : Uber) where
  -- what is told of the directory is told of the texts
  pub dir_told : (fault : BlockFault) → TellsNode (IsSeen image) size NamesNode uber.dir_levels uber.dir_root fault → IfDamage fault (IsDamagedInTexts (IsSeen image) size uber)
  dir_told (Damaged sector stated found) told = inl told
  dir_told (Full need largest) told = tt
  dir_told DiskFault told = tt

  -- so is what is told of the free extents
  pub free_told : {T : Type 0} (now : List ℕ) (size_now : ℕ) (result : Result T BlockFault) → now ≡ image → size_now ≡ size → 0 < uber.free_count
      → NamesDamage (IsSeen now) size_now NamesNode uber.free_levels uber.free_root result → IfDamaged result (IsDamagedInTexts (IsSeen image) size uber)
  free_told now size_now (Ok value) same same_size some told = tt
  free_told now size_now (Err (Damaged sector stated found)) same same_size some told =
      let Told = λ (seen : List ℕ) (n : ℕ). IsDamagedNode (IsSeen seen) n NamesNode uber.free_levels uber.free_root sector stated found in
      inr (some, subst (λ (seen : List ℕ). Told seen size) same (subst (λ (n : ℕ). Told now n) same_size told))
  free_told now size_now (Err (Full need largest)) same same_size some told = tt
  free_told now size_now (Err DiskFault) same same_size some told = tt

  -- what is told of the rows is told of the pool
  pub rows_told : (rows : Rows) (held : List HeldBlocks) (T U : Type 0) (fault : OrMemory BlockFault) → IfFault {T = T} (Err fault) (λ f. IfDamage f (IsDamagedInRows (IsSeen image) size rows))
      → IfFault {T = U} (Err fault) (λ f. IfDamage f (IsDamagedInPool (IsSeen image) size uber rows held))
  rows_told rows held T U (Fault fault) told = IfDamage-weaker (IsDamagedInRows (IsSeen image) size rows) (IsDamagedInPool (IsSeen image) size uber rows held) (λ sector stated found is. inl is) fault told
  rows_told rows held T U Memory told = tt

  -- so is what is told of what sessions hold
  pub held_told : (rows : Rows) (held : List HeldBlocks) (now : List ℕ) (size_now : ℕ) (fault : BlockFault) → now ≡ image → size_now ≡ size → IfDamage fault (IsToldOfSome held (IsDamagedHeld (IsSeen now) size_now)) → IfDamage fault (IsDamagedInPool (IsSeen image) size uber rows held)
  held_told rows held now size_now fault same same_size told = IfDamage-weaker (IsToldOfSome held (IsDamagedHeld (IsSeen now) size_now)) (IsDamagedInPool (IsSeen image) size uber rows held)
      (λ sector stated found is. inr (inl (subst (λ (seen : List ℕ). IsToldOfSome held (IsDamagedHeld (IsSeen seen) size) sector stated found) same (subst (λ (n : ℕ). IsToldOfSome held (IsDamagedHeld (IsSeen now) n) sector stated found) same_size is)))) fault told

  -- and so is what is told of the texts
  pub texts_told : (rows : Rows) (held : List HeldBlocks) (now : List ℕ) (size_now : ℕ) (fault : BlockFault) → now ≡ image → size_now ≡ size → IfDamage fault (IsDamagedInTexts (IsSeen now) size_now uber) → IfDamage fault (IsDamagedInPool (IsSeen image) size uber rows held)
  texts_told rows held now size_now fault same same_size told = IfDamage-weaker (IsDamagedInTexts (IsSeen now) size_now uber) (IsDamagedInPool (IsSeen image) size uber rows held)
      (λ sector stated found is. inr (inr (subst (λ (seen : List ℕ). IsDamagedInTexts (IsSeen seen) size uber sector stated found) same (subst (λ (n : ℕ). IsDamagedInTexts (IsSeen now) n uber sector stated found) same_size is)))) fault told
