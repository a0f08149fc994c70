-- What the dates of a slot say of its number.
use Rattle.std.proofs.Common.{◌≡◌, inl, inr, ⊎_elim, ℕ, zero, suc, ◌^◌, ◌<◌, ◌≤◌, true, false, sym, ◌∙◌, subst, arith}
use Rattle.std.specs.Prelude.{Option, Some, None}
use Rattle.std.proofs.lemmas.Bool.{cases_lt, false≢true, lt-ltb, ltb-false, ltb-true}
use Rattle.zst_block.specs.declared.ptr.Ptr.{Ptr}
use Rattle.zst_dnode.specs.declared.dnode.Dnode.{Dnode}
use Rattle.zst_dnode.specs.declared.slot.Slot.{Slot}
use Rattle.zst_dnode.specs.declared.slot.Slot.TheVariants as slots
use Rattle.zst_model.specs.sends.Inclusion.{includes_number, is_after}
use Rattle.zst_model.specs.states.DatedState.{DatedState}
use Rattle.zst_model.specs.states.State.{index_bound, is_number}
use Rattle.zst_tree.specs.Indices.{Blocks, Map, TreeIs, span}
use Rattle.zst_tree.specs.declared.tree.Tree.{Tree}
use Rattle.zst_tree.proofs.QuietRanges.{quiet_below}
use Rattle.zst_objset.specs.Dnodes.{IsAbsent, IsThereIn, SlotIn, tree_of}
use Rattle.zst_objset.specs.Sets.{date_in, latest}
use Rattle.zst_traverse.specs.Cells.{choice_after}
use Rattle.zst_traverse.specs.Dates.{IsFirstLate, NoneLate}
use Rattle.zst_traverse.specs.Slots.{AreEarly}
use Rattle.zst_objset.specs.TightSets.{IsTightSlot}
use Rattle.zst_traverse.proofs.Inclusion.{early_before, included_by_date, included_by_index, not_included}

-- what is dated after a source is dated after each earlier one
late_on : (source : Option ℕ) (a b : ℕ) → a ≤ b → is_after source a ≡ true → is_after source b ≡ true
late_on None a b le late = late
late_on (Some number) a b le late = let bound = ltb-true number a late in lt-ltb number b (omega (arith, bound))

-- no index of a tree is dated after its root and what is past its span
tree_bound : (has : Blocks) (tree : Tree) (map : Map) (number i : ℕ) → TreeIs has tree map → tree.root.number ≤ number → tree.past ≤ number → i < 2 ^ 44 → (map i).number ≤ number
tree_bound has tree map number i is root past less =
    subst (λ (p : Ptr). p.number ≤ number) (sym (is.agrees i less))
    (⊎_elim
    (λ inside. (quiet_below is.whole number has tree.levels tree.root 0 root is.stands.below).early i (omega arith) (omega arith))
    (λ over. subst (λ (p : Ptr). p.number ≤ number) (sym (is.stands.past i over)) past)
    (cases_lt i (span tree.levels)))

module _ (has : Blocks) (reads : ℕ → ℕ → Blocks) (snap : DatedState) (source : Option ℕ) (k : ℕ) where
  index_bound_date : (dnode : Dnode) (there : IsThereIn has reads snap k dnode) (i : ℕ) → i < index_bound → snap.index_date k i ≤ date_in (slots.There dnode)
  unfolding index_bound
  index_bound_date dnode there i less =
      subst (λ (n : ℕ). n ≤ date_in (slots.There dnode)) (there.is.index_dates i less)
      (tree_bound has (tree_of dnode) there.map (date_in (slots.There dnode)) i there.is.tree (omega arith) (omega arith) (omega arith))

  -- where the date that a slot tells isn't late, its number isn't included
  pub slot_early : (slot : Slot) → SlotIn has reads snap k slot → is_after source (date_in slot) ≡ false → includes_number snap (choice_after source) k ≡ false
  slot_early (slots.Absent date) is early =
      not_included snap source k (subst (λ (n : ℕ). is_after source n ≡ false) (sym is.date_is) early) (λ i less. subst (λ (n : ℕ). is_after source n ≡ false) (sym (is.dates i less)) early)
  slot_early (slots.There dnode) is early =
      not_included snap source k (early_before source (snap.number_date k) (date_in (slots.There dnode)) (let same = is.is.date_is in omega arith) early)
      (λ i less. early_before source (snap.index_date k i) (date_in (slots.There dnode)) (index_bound_date dnode is i less) early)

  -- an absent number of a late date is included
  pub absent_late : (date : ℕ) → is_number k ≡ true → IsAbsent snap k date → is_after source date ≡ true → includes_number snap (choice_after source) k ≡ true
  absent_late date number is late = included_by_date snap source k number (subst (λ (n : ℕ). is_after source n ≡ true) (sym is.date_is) late)

  -- an object is included by its own date, or by one of its tree
  pub object_late : (dnode : Dnode) → is_number k ≡ true → IsThereIn has reads snap k dnode → is_after source dnode.date ≡ true → includes_number snap (choice_after source) k ≡ true
  object_late dnode number is late = included_by_date snap source k number (subst (λ (n : ℕ). is_after source n ≡ true) is.is.date_is late)

  pub object_touched : (dnode : Dnode) (found : ℕ) → is_number k ≡ true → (is : IsThereIn has reads snap k dnode) → IsFirstLate is.map source 0 (2 ^ 43) found → includes_number snap (choice_after source) k ≡ true
  unfolding index_bound
  object_touched dnode found number is first =
      included_by_index snap source k number found first.under (subst (λ (n : ℕ). is_after source n ≡ true) (is.is.index_dates found first.under) first.late)

  pub object_early : (dnode : Dnode) (is : IsThereIn has reads snap k dnode) → is_after source dnode.date ≡ false → NoneLate is.map source 0 (2 ^ 43) → includes_number snap (choice_after source) k ≡ false
  unfolding index_bound
  object_early dnode is early none =
      not_included snap source k (subst (λ (n : ℕ). is_after source n ≡ false) is.is.date_is early)
      (λ i less. subst (λ (n : ℕ). is_after source n ≡ false) (is.is.index_dates i less) (none i (omega arith) less))

  -- a tight slot of a late date is that of an included object
  pub tight_touched : (dnode : Dnode) (is : IsThereIn has reads snap k dnode) → IsTightSlot snap k (slots.There dnode) → is_after source (date_in (slots.There dnode)) ≡ true → is_after source dnode.date ≡ false → NoneLate is.map source 0 (2 ^ 43) → ⊥
  unfolding index_bound
  tight_touched dnode is (inl own) late early none =
      false≢true (sym (subst (λ (n : ℕ). is_after source n ≡ false) is.is.date_is early) ∙ late_on source (date_in (slots.There dnode)) (snap.number_date k) own late)
  tight_touched dnode is (inr (i, less, by)) late early none =
      false≢true (sym (subst (λ (n : ℕ). is_after source n ≡ false) (is.is.index_dates i less) (none i (omega arith) less)) ∙ late_on source (date_in (slots.There dnode)) (snap.index_date k i) by late)

-- the latest date of some slots bounds each, and isn't late where none is
pub latest-bounds : (held : ℕ → Slot) (count s : ℕ) → s < count → date_in (held s) ≤ latest held count
unfolding latest
latest-bounds held zero s less = absurd (omega arith)
latest-bounds held (suc count) s less = elim (cases_lt s count) [
  | inl below ↦ (let bound = latest-bounds held count s below in omega arith)
  | inr last ↦ (
      let same : s ≡ count = omega arith in
      rw same (omega arith))
]

latest_some : (held : ℕ → Slot) (number count : ℕ) → AreEarly held (Some number) 0 count → latest held count ≤ number
unfolding latest
latest_some held number zero early = omega arith
latest_some held number (suc count) early =
    let before = latest_some held number count (λ place from less. early place from (omega arith)) in
    let here = ltb-false number (date_in (held count)) (early count (omega arith) (omega arith)) in
    omega arith

pub latest_late : (held : ℕ → Slot) (source : Option ℕ) → is_after source (latest held 16) ≡ true → AreEarly held source 0 16 → ⊥
latest_late held None late early = false≢true (sym (early 0 (omega arith) (omega arith)))
latest_late held (Some number) late early =
    let bound = latest_some held number 16 early in
    let over = ltb-true number (latest held 16) late in
    omega (arith, bound, over)
