-- What the four kinds of rows reach, and what is told of them, put together.
use Rattle.std.proofs.Common.{◌≡◌, ◌⊎◌, inl, inr, ⊎_elim, ℕ, List, subst}
use Rattle.std.specs.Prelude.{Err}
use Rattle.zst_block.specs.Blocks.{IsBlock}
use Rattle.zst_block.specs.declared.fault.BlockFault.{BlockFault}
use Rattle.zst_dir.specs.Rows.{Rows}
use Rattle.zst_marks.specs.Marks.{MarksMore}
use Rattle.zst_objset.specs.Damage.{DamageFact, IfDamage}
use Rattle.zst_objset.proofs.DamageLaws.{IfDamage-weaker}
use Rattle.zst_reach.specs.ReachedSets.{AllMarked}
use Rattle.zst_tree.specs.Damage.{IsSeen}
use Rattle.zst_tree.specs.Faults.{IfFault}
use Rattle.zst_tree.specs.declared.or_memory.OrMemory.{OrMemory}
use Rattle.zst_tree.specs.declared.or_memory.OrMemory.TheVariants.{Fault, Memory}
use Rattle.zst_roots.specs.ReachedRows.{AreMarkedForHeads, AreMarkedForLists, AreMarkedForPartials, AreMarkedForRows, AreMarkedForSnapshots, HeadReaches, IsReachedBySome, ListReaches, PartialReaches, RowsReach, SnapshotReaches}
use Rattle.zst_roots.specs.RowDamage.{IsDamagedHead, IsDamagedInRows, IsDamagedList, IsDamagedPartial, IsDamagedSnapshot, IsToldOfSome}

-- what some row reaches is marked also among more, and over an image that is the same
pub marked_on : {Row : Type 0} (reaches : List ℕ → Row → ℕ → Type 0) (image now : List ℕ) (end : ℕ) (marks more : List ℕ) (rows : List Row) → now ≡ image → MarksMore marks more
    → AllMarked now end marks (IsReachedBySome rows (reaches now)) → AllMarked image end more (IsReachedBySome rows (reaches image))
marked_on reaches image now end marks more rows same up are = subst (λ (seen : List ℕ). AllMarked seen end more (IsReachedBySome rows (reaches seen))) same (λ sector by under. up.stay sector (are sector by under))

-- where all that each kind of row reaches is marked, all that the rows reach is
pub rows_marked : (image : List ℕ) (end : ℕ) (marks : List ℕ) (rows : Rows) → AreMarkedForHeads image end marks rows.datasets → AreMarkedForSnapshots image end marks rows.snapshots
    → AreMarkedForPartials image end marks rows.partials → AreMarkedForLists image end marks rows.bookmarks → AreMarkedForRows image end marks rows
rows_marked image end marks rows heads snapshots partials lists = λ sector reached under.
    ⊎_elim (λ by. heads sector by under) (λ others. ⊎_elim (λ by. snapshots sector by under) (λ rest. ⊎_elim (λ by. partials sector by under) (λ by. lists sector by under) rest) others) reached

module _ (image : List ℕ) (rows : Rows) (sector : ℕ) (old : Type 0) where
  abbrev Reached : Type 0
  Reached = old ⊎ RowsReach (IsBlock image) rows sector

  -- what is marked after the snapshots were walked, then the heads, then the partial states, and then the lists
  pub only_snapshots : (first : Type 0) → (first → old ⊎ IsReachedBySome rows.snapshots (SnapshotReaches (IsBlock image)) sector) → first → Reached
  only_snapshots first snapshots marked = ⊎_elim inl (λ by. inr (inr (inl by))) (snapshots marked)

  pub only_heads : (first second : Type 0) (now : List ℕ) → now ≡ image → (first → Reached) → (second → first ⊎ IsReachedBySome rows.datasets (HeadReaches (IsBlock now)) sector) → second → Reached
  only_heads first second now same before heads marked =
      ⊎_elim before (λ by. inr (inl (subst (λ (seen : List ℕ). IsReachedBySome rows.datasets (HeadReaches (IsBlock seen)) sector) same by))) (heads marked)

  pub only_partials : (second third : Type 0) (now : List ℕ) → now ≡ image → (second → Reached) → (third → second ⊎ IsReachedBySome rows.partials (PartialReaches (IsBlock now)) sector) → third → Reached
  only_partials second third now same before partials marked =
      ⊎_elim before (λ by. inr (inr (inr (inl (subst (λ (seen : List ℕ). IsReachedBySome rows.partials (PartialReaches (IsBlock seen)) sector) same by))))) (partials marked)

  pub only_lists : (third fourth : Type 0) (now : List ℕ) → now ≡ image → (third → Reached) → (fourth → third ⊎ IsReachedBySome rows.bookmarks (ListReaches (IsBlock now)) sector) → fourth → Reached
  only_lists third fourth now same before lists marked =
      ⊎_elim before (λ by. inr (inr (inr (inr (subst (λ (seen : List ℕ). IsReachedBySome rows.bookmarks (ListReaches (IsBlock seen)) sector) same by))))) (lists marked)

module _ (image : List ℕ) (size : ℕ) (rows : Rows) where
  -- what is told of some row of a kind is told of the rows
  pub snapshot_told : (T U : Type 0) (fault : OrMemory BlockFault) → IfFault {T = T} (Err fault) (λ f. IfDamage f (IsToldOfSome rows.snapshots (IsDamagedSnapshot (IsSeen image) size)))
      → IfFault {T = U} (Err fault) (λ f. IfDamage f (IsDamagedInRows (IsSeen image) size rows))
  snapshot_told T U (Fault fault) told = IfDamage-weaker (IsToldOfSome rows.snapshots (IsDamagedSnapshot (IsSeen image) size)) (IsDamagedInRows (IsSeen image) size rows) (λ sector stated found is. inr (inl is)) fault told
  snapshot_told T U Memory told = tt

  told_on : {Row : Type 0} (list : List Row) (tells : List ℕ → ℕ → Row → DamageFact) (now : List ℕ) (size_now sector : ℕ) (stated found : List ℕ) → now ≡ image → size_now ≡ size → IsToldOfSome list (tells now size_now) sector stated found → IsToldOfSome list (tells image size) sector stated found
  told_on list tells now size_now sector stated found same same_size is = subst (λ (seen : List ℕ). IsToldOfSome list (tells seen size) sector stated found) same (subst (λ (n : ℕ). IsToldOfSome list (tells now n) sector stated found) same_size is)

  pub head_told : (now : List ℕ) (size_now : ℕ) (fault : BlockFault) → now ≡ image → size_now ≡ size → IfDamage fault (IsToldOfSome rows.datasets (IsDamagedHead (IsSeen now) size_now)) → IfDamage fault (IsDamagedInRows (IsSeen image) size rows)
  head_told now size_now fault same same_size told =
      IfDamage-weaker (IsToldOfSome rows.datasets (IsDamagedHead (IsSeen now) size_now)) (IsDamagedInRows (IsSeen image) size rows)
      (λ sector stated found is. inl (told_on rows.datasets (λ (seen : List ℕ) (n : ℕ). IsDamagedHead (IsSeen seen) n) now size_now sector stated found same same_size is)) fault told

  pub partial_told : (now : List ℕ) (size_now : ℕ) (fault : BlockFault) → now ≡ image → size_now ≡ size → IfDamage fault (IsToldOfSome rows.partials (IsDamagedPartial (IsSeen now) size_now)) → IfDamage fault (IsDamagedInRows (IsSeen image) size rows)
  partial_told now size_now fault same same_size told =
      IfDamage-weaker (IsToldOfSome rows.partials (IsDamagedPartial (IsSeen now) size_now)) (IsDamagedInRows (IsSeen image) size rows)
      (λ sector stated found is. inr (inr (inl (told_on rows.partials (λ (seen : List ℕ) (n : ℕ). IsDamagedPartial (IsSeen seen) n) now size_now sector stated found same same_size is)))) fault told

  pub list_told : (now : List ℕ) (size_now : ℕ) (fault : BlockFault) → now ≡ image → size_now ≡ size → IfDamage fault (IsToldOfSome rows.bookmarks (IsDamagedList (IsSeen now) size_now)) → IfDamage fault (IsDamagedInRows (IsSeen image) size rows)
  list_told now size_now fault same same_size told =
      IfDamage-weaker (IsToldOfSome rows.bookmarks (IsDamagedList (IsSeen now) size_now)) (IsDamagedInRows (IsSeen image) size rows)
      (λ sector stated found is. inr (inr (inr (told_on rows.bookmarks (λ (seen : List ℕ) (n : ℕ). IsDamagedList (IsSeen seen) n) now size_now sector stated found same same_size is)))) fault told
