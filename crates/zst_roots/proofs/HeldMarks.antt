-- What a session holds is marked beside what the snapshots reach.
use Rattle.std.proofs.Common.{◌≡◌, ◌⊎◌, inl, inr, ⊎_elim, ℕ, ◌<◌, List, [], subst, sym}
use Rattle.zst_block.specs.Blocks.{IsBlock}
use Rattle.zst_dir.specs.Rows.{Rows}
use Rattle.zst_dir.specs.declared.rows.Snapshot.{Snapshot}
use Rattle.zst_marks.specs.Marks.{IsMarked, MarksMore}
use Rattle.zst_reach.specs.ReachedSets.{AllMarked, AreMarkedInSet, ReachesInSet}
use Rattle.zst_tree.specs.Sets.{no_objects}
use Rattle.zst_roots.specs.Held.{IsHeldBy, IsOfBlock}
use Rattle.zst_roots.specs.ReachedRows.{AreMarkedForRows, AreMarkedForSnapshots, IsReachedBySome}
use Rattle.zst_roots.specs.declared.held.HeldBlocks.{HeldBlocks}

-- what stands past the end of a list of what sessions hold
abbrev pub nothing_held : HeldBlocks
nothing_held = record { set = no_objects; blocks = [] }

-- what the snapshots reach stays marked, also over an image that is the same
pub snapshots_on : (image now : List ℕ) (end : ℕ) (marks more : List ℕ) (rows : List Snapshot) → now ≡ image → MarksMore marks more → AreMarkedForSnapshots image end marks rows → AreMarkedForSnapshots now end more rows
snapshots_on image now end marks more rows same up are = subst (λ (seen : List ℕ). AreMarkedForSnapshots seen end more rows) (sym same) (λ sector by under. up.stay sector (are sector by under))

-- what the snapshots reach is some of what the rows do
pub snapshots_in_rows : (image : List ℕ) (end : ℕ) (marks : List ℕ) (rows : Rows) → AreMarkedForRows image end marks rows → AreMarkedForSnapshots image end marks rows.snapshots
snapshots_in_rows image end marks rows are = λ sector by under. are sector (inr (inl by)) under

module _ (image : List ℕ) (one : HeldBlocks) where
  -- what the set reaches was marked, and then the blocks
  pub one_marked : (end : ℕ) (marks more : List ℕ) → MarksMore marks more → AreMarkedInSet image end marks one.set
      → ((sector : ℕ) → IsReachedBySome one.blocks IsOfBlock sector → sector < end → IsMarked more sector) → AllMarked image end more (IsHeldBy (IsBlock image) one)
  one_marked end marks more up set blocks = λ sector holds under. ⊎_elim (λ by. up.stay sector (set sector by under)) (λ by. blocks sector by under) holds

  -- and nothing else
  pub only_one : (sector : ℕ) (old mid : Type 0) → (mid → old ⊎ ReachesInSet (IsBlock image) one.set sector) → mid ⊎ IsReachedBySome one.blocks IsOfBlock sector → old ⊎ IsHeldBy (IsBlock image) one sector
  only_one sector old mid set step = ⊎_elim (λ was. ⊎_elim inl (λ by. inr (inl by)) (set was)) (λ by. inr (inr by)) step
