-- The first sectors that are counted and the sectors that are reached are those of the same blocks.
use Rattle.std.proofs.Common.{inl, inr, ◌⊎◌, ℕ, ◌<◌, List, [], refl}
use Rattle.zst_block.specs.Blocks.{IsBlock}
use Rattle.zst_block.specs.declared.ptr.Ptr.{Ptr}
use Rattle.zst_dir.specs.Rows.{Rows}
use Rattle.zst_dnode.specs.declared.dnode.Dnode.{Dnode}
use Rattle.zst_dnode.specs.declared.slot.Slot.{Slot}
use Rattle.zst_dnode.specs.declared.slot.Slot.TheVariants.{Absent, There}
use Rattle.zst_model.proofs.InsertedLaws.{contains_nothing}
use Rattle.zst_reach.specs.Reached.{ReachesSector}
use Rattle.zst_reach.specs.ReachedSets.{ReachesInDnode, ReachesInSlot, ReachesInLeaf, ReachesByLeaf, ReachesInSet}
use Rattle.zst_roots.specs.ReachedRows.{IsReachedBySome, HeadReaches, SnapshotReaches, PartialReaches, ListReaches, RowsReach}
use Rattle.zst_roots.specs.Unreached.{IsReached, TextsReach}
use Rattle.zst_tree.specs.Indices.{Blocks}
use Rattle.zst_tree.specs.declared.tree.ObjSet.{ObjSet}
use Rattle.zst_uber.specs.declared.uber.Uber.{Uber}
use Rattle.zst_count.specs.FirstSectors.{IsFirstBelow, IsFirstInDnode, IsFirstInSlot, IsFirstInLeaf, IsFirstByLeaf, IsFirstInSet, IsFirstInHead, IsFirstInSnapshot, IsFirstInPartial, IsFirstInList, IsFirstInRows, IsFirstInTexts, IsFirstReached, BeginsWithin, IsOfOne, CountedAreReached, ReachedAreCounted}

-- where more is reached, and where more is first
more_within : (reached more : ℕ → Type 0) (sector : ℕ) → ((other : ℕ) → reached other → more other) → BeginsWithin reached sector → BeginsWithin more sector
more_within reached more sector keeps h = record { found = h.found; begins = h.begins; within = λ other is. keeps other (h.within other is) }

more_first : (is_first more : ℕ → Type 0) (sector : ℕ) → ((other : ℕ) → is_first other → more other) → IsOfOne is_first sector → IsOfOne more sector
more_first is_first more sector keeps h = record { found = h.found; is_of = h.is_of; first = keeps h.found.sector h.first }

-- what is first is within what is reached, and what is reached is of what is first
record Match (is_first reached : ℕ → Type 0) : Type 0 where
  pub within : (sector : ℕ) → is_first sector → BeginsWithin reached sector
  pub of_one : (sector : ℕ) → reached sector → IsOfOne is_first sector

-- two that match do so together
abbrev Either : (ℕ → Type 0) → (ℕ → Type 0) → ℕ → Type 0
Either one other sector = one sector ⊎ other sector

either_match : (is_first reached also_first also_reached : ℕ → Type 0) → Match is_first reached → Match also_first also_reached → Match (Either is_first also_first) (Either reached also_reached)
either_match is_first reached also_first also_reached one other = record {
  within = λ sector h. elim h [
    | inl first ↦ more_within reached (Either reached also_reached) sector (λ x. inl) (one.within sector first)
    | inr first ↦ more_within also_reached (Either reached also_reached) sector (λ x. inr) (other.within sector first)
  ];
  of_one = λ sector h. elim h [
    | inl there ↦ more_first is_first (Either is_first also_first) sector (λ x. inl) (one.of_one sector there)
    | inr there ↦ more_first also_first (Either is_first also_first) sector (λ x. inr) (other.of_one sector there)
  ];
}

-- so do those of some row
some_match : {Row : Type 0} (rows : List Row) (is_first reaches : Row → ℕ → Type 0) → ((row : Row) → Match (is_first row) (reaches row)) → Match (IsReachedBySome rows is_first) (IsReachedBySome rows reaches)
some_match rows is_first reaches each = record {
  within = λ sector h.
      more_within (reaches h.row) (IsReachedBySome rows reaches) sector (λ other there. record { row = h.row; listed = h.listed; reached = there }) ((each h.row).within sector h.reached);
  of_one = λ sector h.
      more_first (is_first h.row) (IsReachedBySome rows is_first) sector (λ other first. record { row = h.row; listed = h.listed; reached = first }) ((each h.row).of_one sector h.reached);
}

-- and those that count on a condition alone
if_match : (condition : Type 0) (is_first reached : ℕ → Type 0) → Match is_first reached → Match (λ sector. condition × is_first sector) (λ sector. condition × reached sector)
if_match condition is_first reached one = record {
  within = λ sector h. more_within reached (λ x. condition × reached x) sector (λ other there. (h.0, there)) (one.within sector h.1);
  of_one = λ sector h. more_first is_first (λ x. condition × is_first x) sector (λ other first. (h.0, first)) (one.of_one sector h.1);
}

module _ (has : Blocks) where
  below : (level : ℕ) (ptr : Ptr) → Match (IsFirstBelow has level ptr) (ReachesSector has level ptr)
  below level ptr = record {
    within = λ sector h. record { found = h.found; begins = h.begins; within = λ other is. record { found = h.found; reached = h.reached; is_of = is } };
    of_one = λ sector h. record { found = h.found; is_of = h.is_of; first = record { found = h.found; reached = h.reached; begins = refl } };
  }

  in_dnode : (dnode : Dnode) → Match (IsFirstInDnode has dnode) (ReachesInDnode has dnode)
  in_dnode dnode =
      either_match (IsFirstBelow has dnode.levels dnode.root) (ReachesSector has dnode.levels dnode.root) (IsFirstBelow has 0 dnode.spill) (ReachesSector has 0 dnode.spill)
      (below dnode.levels dnode.root) (below 0 dnode.spill)

  in_slot : (slot : Slot) → Match (IsFirstInSlot has slot) (ReachesInSlot has slot)
  in_slot (Absent date) = record { within = λ sector none. absurd none; of_one = λ sector none. absurd none }
  in_slot (There dnode) = in_dnode dnode

  in_leaf : (leaf : Ptr) → Match (IsFirstInLeaf has leaf) (ReachesInLeaf has leaf)
  in_leaf leaf = record {
    within = λ sector h.
        more_within (ReachesInSlot has h.slot) (ReachesInLeaf has leaf) sector
        (λ other there. record { bytes = h.bytes; there = h.there; place = h.place; under = h.under; slot = h.slot; stands = h.stands; reached = there })
        ((in_slot h.slot).within sector h.begins);
    of_one = λ sector h.
        more_first (IsFirstInSlot has h.slot) (IsFirstInLeaf has leaf) sector
        (λ other first. record { bytes = h.bytes; there = h.there; place = h.place; under = h.under; slot = h.slot; stands = h.stands; begins = first })
        ((in_slot h.slot).of_one sector h.reached);
  }

  by_leaf : (level : ℕ) (ptr : Ptr) (first : ℕ) → Match (IsFirstByLeaf has level ptr first) (ReachesByLeaf has level ptr first)
  by_leaf level ptr first = record {
    within = λ sector h.
        more_within (ReachesInLeaf has h.leaf) (ReachesByLeaf has level ptr first) sector
        (λ other there. record { leaf = h.leaf; index = h.index; small = h.small; stands = h.stands; some = h.some; inside = there })
        ((in_leaf h.leaf).within sector h.inside);
    of_one = λ sector h.
        more_first (IsFirstInLeaf has h.leaf) (IsFirstByLeaf has level ptr first) sector
        (λ other begins. record { leaf = h.leaf; index = h.index; small = h.small; stands = h.stands; some = h.some; inside = begins })
        ((in_leaf h.leaf).of_one sector h.inside);
  }

  in_set : (set : ObjSet) → Match (IsFirstInSet has set) (ReachesInSet has set)
  in_set set =
      either_match (IsFirstBelow has set.tree.levels set.tree.root) (ReachesSector has set.tree.levels set.tree.root)
      (IsFirstByLeaf has set.tree.levels set.tree.root 0) (ReachesByLeaf has set.tree.levels set.tree.root 0)
      (below set.tree.levels set.tree.root) (by_leaf set.tree.levels set.tree.root 0)

  in_rows : (rows : Rows) → Match (IsFirstInRows has rows) (RowsReach has rows)
  in_rows rows =
      either_match (IsReachedBySome rows.datasets (IsFirstInHead has)) (IsReachedBySome rows.datasets (HeadReaches has)) _ _
      (some_match rows.datasets (IsFirstInHead has) (HeadReaches has) (λ row. in_set row.head))
      (either_match (IsReachedBySome rows.snapshots (IsFirstInSnapshot has)) (IsReachedBySome rows.snapshots (SnapshotReaches has)) _ _
      (some_match rows.snapshots (IsFirstInSnapshot has) (SnapshotReaches has) (λ row. in_set row.objects))
      (either_match (IsReachedBySome rows.partials (IsFirstInPartial has)) (IsReachedBySome rows.partials (PartialReaches has)) (IsReachedBySome rows.bookmarks (IsFirstInList has)) (IsReachedBySome rows.bookmarks (ListReaches has))
      (some_match rows.partials (IsFirstInPartial has) (PartialReaches has) (λ row. in_set row.objects))
      (some_match rows.bookmarks (IsFirstInList has) (ListReaches has)
      (λ row. if_match (0 < row.runs) (IsFirstBelow has row.levels row.root) (ReachesSector has row.levels row.root) (below row.levels row.root)))))

  in_texts : (uber : Uber) → Match (IsFirstInTexts has uber) (TextsReach has uber)
  in_texts uber =
      either_match (IsFirstBelow has uber.dir_levels uber.dir_root) (ReachesSector has uber.dir_levels uber.dir_root)
      (λ sector. (0 < uber.free_count) × IsFirstBelow has uber.free_levels uber.free_root sector) (λ sector. (0 < uber.free_count) × ReachesSector has uber.free_levels uber.free_root sector)
      (below uber.dir_levels uber.dir_root)
      (if_match (0 < uber.free_count) (IsFirstBelow has uber.free_levels uber.free_root) (ReachesSector has uber.free_levels uber.free_root) (below uber.free_levels uber.free_root))

  of_body : (uber : Uber) (rows : Rows) → Match (IsFirstReached has uber rows) (Either (RowsReach has rows) (TextsReach has uber))
  of_body uber rows = either_match (IsFirstInRows has rows) (RowsReach has rows) (IsFirstInTexts has uber) (TextsReach has uber) (in_rows rows) (in_texts uber)

  -- without sessions what is reached is what the body reaches, and the first eight
  by_body : (uber : Uber) (rows : Rows) (sector : ℕ) → Either (RowsReach has rows) (TextsReach has uber) sector → IsReached has uber rows [] sector
  by_body uber rows sector (inl there) = inl (inr (inl there))
  by_body uber rows sector (inr there) = inr there

  from_body : (uber : Uber) (rows : Rows) (sector : ℕ) → IsReached has uber rows [] sector → (sector < 8) ⊎ Either (RowsReach has rows) (TextsReach has uber) sector
  from_body uber rows sector (inl (inl small)) = inl small
  from_body uber rows sector (inl (inr (inl there))) = inr (inl there)
  from_body uber rows sector (inl (inr (inr held))) = absurd (contains_nothing held.row held.listed)
  from_body uber rows sector (inr there) = inr (inr there)

pub counted_are_reached : CountedAreReached
counted_are_reached image uber rows sector h =
    more_within (Either (RowsReach (IsBlock image) rows) (TextsReach (IsBlock image) uber)) (IsReached (IsBlock image) uber rows []) sector
    (by_body (IsBlock image) uber rows) ((of_body (IsBlock image) uber rows).within sector h)

pub reached_are_counted : ReachedAreCounted
reached_are_counted image uber rows sector h = elim (from_body (IsBlock image) uber rows sector h) [
  | inl small ↦ inl small
  | inr there ↦ inr ((of_body (IsBlock image) uber rows).of_one sector there)
]
