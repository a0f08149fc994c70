-- What a walk of all rows and texts of a body meets and tells, put together.
use Rattle.std.proofs.Common.{◌≡◌, ◌⊎◌, ◌↔◌, inr, ⊎_elim, ℕ, ◌<◌, List, subst, arith}
use Rattle.std.specs.Prelude.{Option, Err}
use Rattle.std.specs.List.{All}
use Rattle.std.proofs.lemmas.List.Elements.{All-contains, All-weaker}
use Rattle.zst_block.specs.Blocks.{Has, IsBlock}
use Rattle.zst_block.specs.declared.fault.BlockFault.{BlockFault}
use Rattle.zst_dir.specs.Rows.{Rows}
use Rattle.zst_dir.specs.declared.rows.Bookmark.{Bookmark}
use Rattle.zst_dir.specs.declared.rows.Dataset.{Dataset}
use Rattle.zst_dir.specs.declared.rows.Partial.{Partial}
use Rattle.zst_dir.specs.declared.rows.Snapshot.{Snapshot}
use Rattle.zst_image.specs.Reads.{RunsBy}
use Rattle.zst_model.specs.pools.Pool.{Pool}
use Rattle.zst_objset.specs.Damage.{IfDamage}
use Rattle.zst_objset.proofs.DamageLaws.{IfDamage-weaker}
use Rattle.zst_roots.proofs.KeptRows.{heads_stand, lists_stand, partials_stand, snapshots_stand}
use Rattle.zst_space.specs.FreeSectors.{FreeSectors}
use Rattle.zst_tree.specs.Damage.{IsSeen}
use Rattle.zst_tree.specs.Faults.{GivesOrTells}
use Rattle.zst_tree.specs.Indices.{IsNoDamage}
use Rattle.zst_tree.specs.declared.or_memory.OrMemory.{OrMemory}
use Rattle.zst_tree.specs.declared.or_memory.OrMemory.TheVariants.{Fault, Memory}
use Rattle.zst_uber.specs.declared.uber.Uber.{Uber}
use Rattle.zst_count.specs.CountedRows.{AreMetForHeads, AreMetForLists, AreMetForPartials, AreMetForSnapshots, DataStandInRows, IsDamagedInTexts, IsDamagedReached}
use Rattle.zst_count.specs.CountedSets.{AreMetInSet}
use Rattle.zst_count.specs.FirstSectors.{Counts, IsFirstInList, IsFirstInTexts, IsFirstReached}
use Rattle.zst_count.specs.MetBlocks.{AllMet, MetMore}
use Rattle.zst_count.specs.declared.met_blocks.MetBlocks.{MetBlocks}
use Rattle.zst_count.proofs.MetLaws.{AllMet-more}
use Rattle.zst_count.proofs.StandingSets.{SetHolds-stands}

-- what the rows of a kind reach stays met, and so over an image that is the same
pub rows_more : {Row : Type 0} (is_first : List ℕ → Row → ℕ → Type 0) (image now : List ℕ) (old new : MetBlocks) (rows : List Row) → now ≡ image → MetMore old new
    → All (λ row. AllMet old.end old.marks (is_first now row)) rows → All (λ row. AllMet new.end new.marks (is_first image row)) rows
rows_more {Row} is_first image now old new rows same more are =
    subst (λ (seen : List ℕ). All (λ (row : Row). AllMet new.end new.marks (is_first seen row)) rows) same
    (All-weaker (λ (row : Row). AllMet old.end old.marks (is_first now row)) (λ (row : Row). AllMet new.end new.marks (is_first now row)) (λ row met. AllMet-more old new (is_first now row) more met) rows are)

-- what is read of them is read over an image that is the same
pub rows_read_on : {Row : Type 0} (reads : List ℕ → Row → Type 0) (image now : List ℕ) (rows : List Row) → now ≡ image → All (reads now) rows → All (reads image) rows
rows_read_on reads image now rows same are = subst (λ (seen : List ℕ). All (reads seen) rows) same are

-- where all that each kind of row reaches was met, and all that the texts do, all that the body reaches was
pub all_met : (image : List ℕ) (end : ℕ) (marks : List ℕ) (uber : Uber) (rows : Rows) → AreMetForHeads image end marks rows.datasets → AreMetForSnapshots image end marks rows.snapshots
    → AreMetForPartials image end marks rows.partials → AreMetForLists image end marks rows.bookmarks → AllMet end marks (IsFirstInTexts (IsBlock image) uber) → AllMet end marks (IsFirstReached (IsBlock image) uber rows)
all_met image end marks uber rows heads snapshots partials lists texts = λ sector is under.
    ⊎_elim (λ by_rows.
    ⊎_elim (λ by. All-contains (λ (row : Dataset). AreMetInSet image end marks row.head) rows.datasets by.row heads by.listed sector by.reached under)
    (λ others. ⊎_elim (λ by. All-contains (λ (row : Snapshot). AreMetInSet image end marks row.objects) rows.snapshots by.row snapshots by.listed sector by.reached under)
    (λ rest. ⊎_elim (λ by. All-contains (λ (row : Partial). AreMetInSet image end marks row.objects) rows.partials by.row partials by.listed sector by.reached under)
    (λ by. All-contains (λ (row : Bookmark). AllMet end marks (IsFirstInList (IsBlock image) row)) rows.bookmarks by.row lists by.listed sector by.reached under) rest) others) by_rows)
    (λ by. texts sector by under) is

-- what is marked after one more kind of row was walked begins a block that is reached
pub only_step : (P : List ℕ → Type 0) (reached : Type 0) (image now : List ℕ) (sector end mid_end : ℕ) (first second : Type 0) → now ≡ image → mid_end ≡ end → (P image → reached)
    → (first → reached × (sector < end)) → (second → first ⊎ (P now × (sector < mid_end))) → second → reached × (sector < end)
only_step P reached image now sector end mid_end first second same end_is up before step marked = ⊎_elim before (λ is. (up (subst P same is.0), omega (arith, is.1, end_is))) (step marked)

-- so many are such, which are others alike
pub Counts-same : (is also : ℕ → Type 0) (count : ℕ) → ((number : ℕ) → is number ↔ also number) → Counts is count → Counts also count
Counts-same is also count same counts = record {
  numbers = counts.numbers;
  once = counts.once;
  exact = λ number. (λ there. (same number).0 ((counts.exact number).0 there), λ h. (counts.exact number).1 ((same number).1 h));
  long = counts.long;
}

-- rows that stand for a pool stand with their data
pub rows_stand : (bound : Option ℕ) (image : List ℕ) (space : FreeSectors) (rows : Rows) (running : Pool) → RunsBy bound (Has image space) rows running → DataStandInRows (Has image space) rows
rows_stand bound image space rows running runs =
    let heads = heads_stand bound (Has image space) rows running runs in
    let snapshots = snapshots_stand bound (Has image space) rows running runs in
    let partials = partials_stand bound (Has image space) rows running runs in
    record {
      heads = λ k d less. let at = heads k d less in SetHolds-stands image space _ at.0 at.1;
      snapshots = λ k d less. let at = snapshots k d less in SetHolds-stands image space _ at.0 at.1;
      partials = λ k d less. let at = partials k d less in SetHolds-stands image space _ at.0 at.1;
      lists = lists_stand bound (Has image space) rows running runs;
    }

-- a fault that tells no damage tells none whatever was asked for
pub gives_err : (T U : Type 0) (fault : OrMemory BlockFault) → GivesOrTells {T = T} (λ done. Unit {0}) IsNoDamage (Err fault) → GivesOrTells {T = U} (λ done. Unit {0}) IsNoDamage (Err fault)
gives_err T U (Fault fault) gives = gives
gives_err T U Memory gives = tt

-- what is told of the texts is told of the body
pub texts_told : (image : List ℕ) (size : ℕ) (uber : Uber) (rows : Rows) (now : List ℕ) (size_now : ℕ) (fault : BlockFault) → now ≡ image → size_now ≡ size → IfDamage fault (IsDamagedInTexts (IsSeen now) size_now uber)
    → IfDamage fault (IsDamagedReached (IsSeen image) size uber rows)
texts_told image size uber rows now size_now fault same same_size told =
    IfDamage-weaker (IsDamagedInTexts (IsSeen now) size_now uber) (IsDamagedReached (IsSeen image) size uber rows)
    (λ sector stated found is. inr (subst (λ (seen : List ℕ). IsDamagedInTexts (IsSeen seen) size uber sector stated found) same
    (subst (λ (n : ℕ). IsDamagedInTexts (IsSeen now) n uber sector stated found) same_size is))) fault told
