-- Tight sets tell the dates of what they hold.
use Rattle.std.proofs.Common.{◌≡◌, inl, inr, ⊎_elim, ℕ, ◌+◌, ◌*◌, ◌/◌, ◌%◌, ◌^◌, ◌<◌, ◌≤◌, ◌||◌, ◌&&◌, nat_lt, Bool, true, false, List, [], ◌∷◌, Some, refl, sym, ◌∙◌, subst, arith}
use Rattle.std.proofs.lemmas.Bool.{and_from, and_parts, and_right, cases_lt, le-ltb, lt-ltb, ltb-true, or_from, or_left, or_right, true≢false}
use Rattle.zst_space.specs.FreeSectors.{FreeSectors}
use Rattle.zst_block.specs.Blocks.{Has}
use Rattle.zst_block.specs.declared.ptr.Ptr.{Ptr}
use Rattle.zst_dir.specs.RowNames.{Match}
use Rattle.zst_dir.specs.Rows.{Rows}
use Rattle.zst_dir.specs.declared.rows.Dataset.{Dataset}
use Rattle.zst_dnode.specs.declared.slot.Slot.{Slot}
use Rattle.zst_dnode.specs.declared.slot.Slot.TheVariants.{Absent, There}
use Rattle.zst_image.specs.Reads.{DatasetIs, RunsBy}
use Rattle.zst_model.specs.pools.Pool.{Pool}
use Rattle.zst_model.specs.pools.Pool as plain
use Rattle.zst_model.specs.pools.Soundness.{DatedUpTo}
use Rattle.zst_model.specs.sends.Inclusion.{any_below}
use Rattle.zst_model.specs.states.DatedState.{DatedState}
use Rattle.zst_model.specs.states.State.{index_bound, is_number, number_bound}
use Rattle.zst_model.proofs.IndexTests.{any_passes, none_pass}
use Rattle.zst_objset.specs.Dnodes.{SlotIs, tree_of}
use Rattle.zst_objset.specs.Sets.{IsBounded, LeafIs, SetHolds, date_in}
use Rattle.zst_objset.specs.TightSets.{SetIsTight}
use Rattle.zst_traverse.proofs.SlotDates.{latest-bounds}
use Rattle.zst_plan.specs.Receipts.{TellsDates, TellsHead, latest_date}
use Rattle.zst_plan.specs.RecvPlan.{is_dated_after}
use Rattle.zst_tree.specs.Changes.{TreeDatedUpTo}
use Rattle.zst_tree.specs.Indices.{Blocks}
use Rattle.zst_tree.specs.declared.tree.ObjSet.{ObjSet}
use Rattle.zst_tree.proofs.TreeDates.{all_dated}

module _ (number : ℕ) (snap : DatedState) where
  -- whether an index of a number is dated after this number
  abbrev any_index : ℕ → Bool
  any_index k = any_below (λ i. nat_lt number (snap.index_date k i)) index_bound

  -- where no date is above a number, none is after it
  dated_none : DatedUpTo number snap → is_dated_after number snap ≡ false
  unfolding is_dated_after
  dated_none dated =
      none_pass (λ k. is_number k && (nat_lt number (snap.number_date k) || any_index k)) number_bound (λ k less.
      and_right (is_number k) (nat_lt number (snap.number_date k) || any_index k)
      (or_from (nat_lt number (snap.number_date k)) (any_index k) (le-ltb _ _ (dated.numbers k))
      (none_pass (λ i. nat_lt number (snap.index_date k i)) index_bound (λ i less. le-ltb _ _ (dated.indices k i)))))

  -- a number below the bound that is dated after it, or an index of it
  late_there : (k : ℕ) → is_number k ≡ true → (nat_lt number (snap.number_date k) || any_index k) ≡ true → is_dated_after number snap ≡ true
  unfolding is_dated_after
  late_there k number_is late =
      let less : k < number_bound = ltb-true k number_bound ((and_parts (nat_lt 0 k) (nat_lt k number_bound) number_is).1) in
      any_passes (λ k. is_number k && (nat_lt number (snap.number_date k) || any_index k)) number_bound k less (and_from (is_number k) (nat_lt number (snap.number_date k) || any_index k) number_is late)

  -- and where none is after it, no date is above it
  none_dated : IsBounded snap → is_dated_after number snap ≡ false → DatedUpTo number snap
  none_dated bounded none = record { numbers = λ k. of_number k (is_number k) refl; indices = λ k i. of_index k i (is_number k) refl }
    where
      of_number : (k : ℕ) (b : Bool) → is_number k ≡ b → snap.number_date k ≤ number
      of_number k false e = omega (arith, bounded.no_number k e)
      of_number k true e = ⊎_elim
          (λ late. absurd (true≢false (sym (late_there k e (or_left (nat_lt number (snap.number_date k)) (any_index k) (lt-ltb _ _ late))) ∙ none)))
          (λ early. omega arith) (cases_lt number (snap.number_date k))

      of_index : (k i : ℕ) (b : Bool) → is_number k ≡ b → snap.index_date k i ≤ number
      of_index k i false e = omega (arith, bounded.no_numbers_index k i e)
      of_index k i true e = ⊎_elim
          (λ late. ⊎_elim
          (λ inside. absurd (true≢false (sym (late_there k e (or_right (nat_lt number (snap.number_date k)) (any_index k) (any_passes (λ i. nat_lt number (snap.index_date k i)) index_bound i inside (lt-ltb _ _ late)))) ∙ none)))
          (λ behind. omega (arith, bounded.no_index k i behind)) (cases_lt i index_bound))
          (λ early. omega arith) (cases_lt number (snap.index_date k i))

module _ (has : Blocks) (number : ℕ) (snap : DatedState) where
  -- the dates of a number are no later than what its slot tells
  slot_early : (k : ℕ) (slot : Slot) → SlotIs has snap k slot → date_in slot ≤ number → (snap.number_date k ≤ number) × ((i : ℕ) → i < index_bound → snap.index_date k i ≤ number)
  unfolding index_bound
  slot_early k (Absent date) is early = (omega (arith, is.date_is, early), λ i less. omega (arith, is.dates i less, early))
  slot_early k (There dnode) is early =
      let object = is.is in
      let root : dnode.root.number ≤ number = omega (arith, early) in
      let past : dnode.past ≤ number = omega (arith, early) in (
        omega (arith, object.date_is, early),
        λ i less. (
            let inside : i < 2 ^ 44 = below i less in
            let all = all_dated has number (tree_of dnode) object.tree.whole object.tree.stands (past, root) i in
            omega (arith, object.index_dates i less, subst (λ (p : Ptr). p.number ≤ number) (sym (object.tree.agrees i inside)) all)),
      )
    where
      below : (i : ℕ) → i < index_bound → i < 2 ^ 44
      below i less = omega arith

  -- nor than the number of its leaf's pointer
  leaf_early : (j : ℕ) (ptr : Ptr) → LeafIs has snap j ptr → ptr.number ≤ number → (s : ℕ) → s < 16 → is_number (16 * j + s) ≡ true
      → (snap.number_date (16 * j + s) ≤ number) × ((i : ℕ) → i < index_bound → snap.index_date (16 * j + s) i ≤ number)
  leaf_early j ptr (inl hole) early s under is = slot_early (16 * j + s) (Absent ptr.number) (hole.absent s under is) early
  leaf_early j ptr (inr leaf) early s under is = slot_early (16 * j + s) (leaf.slots s) (leaf.slots_are.numbers s under is) (omega (arith, latest-bounds leaf.slots 16 s under, leaf.names.number, early))

  -- where the tree of a set isn't dated after a number, its state isn't
  tree_early : (set : ObjSet) → SetHolds has set snap → TreeDatedUpTo number set.tree → DatedUpTo number snap
  unfolding number_bound
  tree_early set holds dated = record { numbers = λ k. of_number k (is_number k) refl; indices = λ k i. of_index k i (is_number k) refl }
    where
      leaf : (k : ℕ) → is_number k ≡ true → (snap.number_date k ≤ number) × ((i : ℕ) → i < index_bound → snap.index_date k i ≤ number)
      leaf k is =
          let less : k < 2 ^ 48 = ltb-true k number_bound ((and_parts (nat_lt 0 k) (nat_lt k number_bound) is).1) in
          let j = k / 16 in
          let s = k % 16 in
          let split : 16 * j + s ≡ k = omega arith in
          let inside : j < 2 ^ 44 = omega arith in
          let at = subst (λ (p : Ptr). p.number ≤ number) (sym (holds.tree.agrees j inside)) (all_dated has number set.tree holds.tree.whole holds.tree.stands dated j) in
          let told = leaf_early j (holds.map j) (holds.leaves j inside) at s (omega arith) (subst (λ (n : ℕ). is_number n ≡ true) (sym split) is) in
          subst (λ (n : ℕ). (snap.number_date n ≤ number) × ((i : ℕ) → i < index_bound → snap.index_date n i ≤ number)) split told

      of_number : (k : ℕ) (b : Bool) → is_number k ≡ b → snap.number_date k ≤ number
      of_number k false e = omega (arith, holds.bounded.no_number k e)
      of_number k true e = (leaf k e).0

      of_index : (k i : ℕ) (b : Bool) → is_number k ≡ b → snap.index_date k i ≤ number
      of_index k i false e = omega (arith, holds.bounded.no_numbers_index k i e)
      of_index k i true e = ⊎_elim (λ inside. (leaf k e).1 i inside) (λ behind. omega (arith, holds.bounded.no_index k i behind)) (cases_lt i index_bound)

  -- so a tight set, whose tree isn't where its state isn't, tells whether the state is dated after the number
  set_tells : (set : ObjSet) → SetIsTight has set snap → nat_lt number (latest_date set) ≡ is_dated_after number snap
  set_tells set is = go (is_dated_after number snap) refl
    where
      go : (b : Bool) → is_dated_after number snap ≡ b → nat_lt number (latest_date set) ≡ b
      go false none =
          let told = is.tells number (none_dated number snap is.holds.bounded none) in
          le-ltb _ _ (omega (arith, told.0, told.1))
      go true late = ⊎_elim (λ above. lt-ltb _ _ above)
          (λ early. absurd (true≢false (sym late ∙ dated_none number snap (tree_early set is.holds (omega (arith, early), omega (arith, early))))))
          (cases_lt number (latest_date set))

-- and the rows of a pool of tight sets tell the dates of its heads
pub rows_tell : (number : ℕ) (image : List ℕ) (space : FreeSectors) (rows : Rows) (pool : Pool) → RunsBy (Some number) (Has image space) rows pool → TellsDates rows pool
rows_tell number image space rows pool runs = go rows.datasets pool.datasets runs.datasets
  where
    go : (xs : List Dataset) (ys : List plain.Dataset) → Match (DatasetIs (Some number) (Has image space)) xs ys → Match TellsHead xs ys
    go [] [] is = is
    go [] (y ∷ ys) is = is
    go (x ∷ xs) [] is = is
    go (x ∷ xs) (y ∷ ys) is = ((λ after. set_tells (Has image space) after y.head x.head is.0.head.0), go xs ys is.1)
