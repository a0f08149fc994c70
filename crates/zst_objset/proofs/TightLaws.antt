-- A set whose slots are tight keeps them so, and a slot that is put into it is tight where its dates are the state's.
use Rattle.std.proofs.Common.{◌≡◌, ◌⊎◌, inl, inr, ⊎_elim, ℕ, zero, suc, ◌+◌, ◌*◌, ◌/◌, ◌%◌, ◌^◌, ◌<◌, ◌≤◌, ◌==◌, ◌&&◌, nat_lt, Bool, true, false, List, Some, refl, sym, ◌∙◌, ap, subst, arith, if◌then◌else◌}
use Rattle.std.specs.Prelude.{IfSome, Option, None}
use Rattle.std.proofs.lemmas.Bool.{cases_lt}
use Rattle.std.proofs.lemmas.Bool.Decides.{nat_tests}
use Rattle.zst_bytes.specs.Bytes.{bytes_at}
use Rattle.zst_space.specs.FreeSectors.{FreeSectors}
use Rattle.zst_block.specs.Blocks.{Has, KeepsBlocks, named}
use Rattle.zst_block.specs.Ptr.{hole_of, is_lawful}
use Rattle.zst_block.specs.declared.ptr.Ptr.{Ptr}
use Rattle.zst_dnode.proofs.Slots.{slot_bytes-unique}
use Rattle.zst_dnode.specs.Slot.{slot_bytes, SlotFits}
use Rattle.zst_dnode.specs.declared.dnode.Dnode.{Dnode}
use Rattle.zst_dnode.specs.declared.slot.Slot.{Slot}
use Rattle.zst_dnode.specs.declared.slot.Slot.TheVariants.{Absent, There}
use Rattle.zst_model.specs.declared.states.item.Change.{Change}
use Rattle.zst_model.specs.pools.Pool.{untouched}
use Rattle.zst_model.specs.pools.Soundness.{DatedUpTo}
use Rattle.zst_model.specs.states.AppliedItems.{within}
use Rattle.zst_model.specs.states.DatedState.{DatedState, dates_index, dates_number}
use Rattle.zst_model.specs.states.State.{Object, index_bound, is_number}
use Rattle.zst_tree.specs.Changes.{TreeDatedUpTo}
use Rattle.zst_tree.specs.Indices.{Blocks, Map, Puts, Subtree, TreeIs, child, span}
use Rattle.zst_tree.specs.Sets.{no_objects}
use Rattle.zst_tree.specs.declared.tree.ObjSet.{ObjSet}
use Rattle.zst_tree.specs.declared.tree.Tree.{Tree}
use Rattle.zst_tree.proofs.IndicesLaws.{TreeIs-grows}
use Rattle.zst_tree.specs.Damage.{IsSeen}
use Rattle.zst_objset.specs.Damage.{IsLoaded}
use Rattle.zst_objset.specs.Dnodes.{SlotIs, tree_of}
use Rattle.zst_objset.specs.FreedNumbers.{freed, is_in}
use Rattle.zst_objset.specs.SlotPuts.{Alike, DatesRise, PutsSlot}
use Rattle.zst_objset.specs.Sets.{date_in, latest, AreSlots, HasSlots, LeafIs, NamesSlots, SetHolds, Spells}
use Rattle.zst_objset.specs.TightSets.{AreTight, IsTightDnode, IsTightLeaf, IsTightSlot, SetIsTight}
use Rattle.zst_objset.proofs.ChangePuts.{changed_to, date_put, dates_put}
use Rattle.zst_objset.proofs.FreeLaws.{SetHolds-holes, with_holes}
use Rattle.zst_objset.proofs.SetGrowth.{SetHolds-grows}
use Rattle.zst_objset.proofs.SetLaws.{Has-one, TreeIs-hole, empty}
use Rattle.zst_objset.proofs.OneState.{TreeIs-one, find}
use Rattle.zst_objset.proofs.SetPuts.{InLeaf, IsPut, Puts-one, Sides, at_one, beside_one, inside, mended, outside, put_leaf, sides, with_one}
use Rattle.zst_objset.proofs.LeafLaws.{is_number_at, leaf_of}

-- each leaf of a tree is lawful
module _ (has : Blocks) where
  Subtree-lawful : (level : ℕ) (ptr : Ptr) (base : ℕ) (map : Map) → Subtree has level ptr base map → (j : ℕ) → base ≤ j → j < base + span level → is_lawful (map j) ≡ true
  unfolding Subtree span
  Subtree-lawful zero ptr base map is j from under = let same : j ≡ base = omega (arith, from, under) in rw (same, is.1) is.0
  Subtree-lawful (suc level) ptr base map (inl flat) j from under = rw (flat.2.is j from under) flat.0
  Subtree-lawful (suc level) ptr base map (inr node) j from under =
      let place = find (span level) base j 128 from under in
      Subtree-lawful level (child node.0 place.0) (base + place.0 * span level) map (node.2 place.0 place.1) j place.2 place.3

  pub TreeIs-lawful : (tree : Tree) (map : Map) → TreeIs has tree map → (j : ℕ) → j < 2 ^ 44 → is_lawful (map j) ≡ true
  TreeIs-lawful tree map is j less = go (nat_lt j (span tree.levels)) refl
    where
      go : (b : Bool) → nat_lt j (span tree.levels) ≡ b → is_lawful (map j) ≡ true
      go true test = let under : j < span tree.levels = grind (arith, nat_tests) in rw (is.agrees j less) (Subtree-lawful tree.levels tree.root 0 is.whole is.stands.below j (omega arith) (omega (arith, under)))
      go false test = let over : span tree.levels ≤ j = grind (arith, nat_tests) in rw (is.agrees j less, is.stands.past j over) refl

-- a hole names no block
both_true : (a b c : Bool) → (a && b && c) ≡ true → b ≡ true
both_true true true c is = refl
both_true true false c is = is
both_true false b c is = absurd (cc)

hole_sector : (ptr : Ptr) → ptr.kind ≡ 0 → is_lawful ptr ≡ true → ptr.sector ≡ 0
hole_sector ptr kind lawful = let test : (ptr.sector == 0) ≡ true = both_true _ _ _ (rw kind at lawful) in grind (arith, nat_tests)

pub no_block : (image : List ℕ) (space : FreeSectors) (ptr : Ptr) (bytes : List ℕ) → ptr.kind ≡ 0 → is_lawful ptr ≡ true → ¬ Has image space ptr bytes
no_block image space ptr bytes kind lawful = λ has. omega (arith, hole_sector ptr kind lawful, has.behind)

-- the slots that a block spells are what it spells
Spells-one : (bytes : List ℕ) (a b : ℕ → Slot) → Spells bytes a → Spells bytes b → (s : ℕ) → s < 16 → a s ≡ b s
Spells-one bytes a b first second s less = slot_bytes-unique (a s) (b s) (first.fits s less) (second.fits s less) (sym (first.spelled s less) ∙ second.spelled s less)

-- a slot that tells no date is tight, and so is one of an absent number
tight_none : (snap : DatedState) (k : ℕ) (slot : Slot) → slot ≡ Absent 0 → IsTightSlot snap k slot
tight_none snap k slot is = inl (subst (λ (s : Slot). date_in s ≤ snap.number_date k) (sym is) (omega arith))

pub tight_absent : (has : Blocks) (snap : DatedState) (k date : ℕ) → SlotIs has snap k (Absent date) → IsTightSlot snap k (Absent date)
tight_absent has snap k date is = inl (omega (arith, is.date_is))

tight_alike : (old new : DatedState) (k : ℕ) (slot : Slot) → Alike old new k → IsTightSlot old k slot → IsTightSlot new k slot
tight_alike old new k slot alike (inl number) = inl (subst (λ (n : ℕ). date_in slot ≤ n) (sym alike.date) number)
tight_alike old new k slot alike (inr index) = inr (index.0, index.1, subst (λ (n : ℕ). date_in slot ≤ n) (sym (alike.dates index.0 index.1)) index.2)

-- a tight slot tells no date past those of its state
pub tight_dated : (number : ℕ) (snap : DatedState) (k : ℕ) (slot : Slot) → DatedUpTo number snap → IsTightSlot snap k slot → date_in slot ≤ number
tight_dated number snap k slot dated (inl date) = omega (arith, date, dated.numbers k)
tight_dated number snap k slot dated (inr index) = omega (arith, index.2, dated.indices k index.0)

-- nor do slots each of which doesn't
latest_least : (slots : ℕ → Slot) (count number : ℕ) → ((s : ℕ) → s < count → date_in (slots s) ≤ number) → latest slots count ≤ number
unfolding latest
latest_least slots zero number each = omega arith
latest_least slots (suc count) number each = omega (arith, each count (omega arith), latest_least slots count number (λ s less. each s (omega arith)))

-- nor does a dnode that is found
pub found_dated : (number : ℕ) (snap : DatedState) (k : ℕ) (found : Option Dnode) → DatedUpTo number snap → IfSome found (λ dnode. IsTightSlot snap k (There dnode)) → IfSome found (λ dnode. date_in (There dnode) ≤ number)
found_dated number snap k None dated tight = tt
found_dated number snap k (Some dnode) dated tight = tight_dated number snap k (There dnode) dated tight

-- a slot of a leaf, in a state that says the same of its number
slot_kept : (has : Blocks) (old new : DatedState) (j s : ℕ) (slots : ℕ → Slot) (slot : Slot) → s < 16 → AreSlots has old j slots → slot ≡ slots s → (is_number (16 * j + s) ≡ true → Alike old new (16 * j + s)) → IsTightSlot old (16 * j + s) slot → IsTightSlot new (16 * j + s) slot
slot_kept has old new j s slots slot less are same alike tight = go (is_number (16 * j + s)) refl
  where
    go : (b : Bool) → is_number (16 * j + s) ≡ b → IsTightSlot new (16 * j + s) slot
    go true test = tight_alike old new (16 * j + s) slot (alike test) tight
    go false test = tight_none new (16 * j + s) slot (same ∙ are.no_number s less test)

-- a leaf that stays
module _ (old_image : List ℕ) (old_space : FreeSectors) (image : List ℕ) (space : FreeSectors) (keeps : KeepsBlocks old_image old_space image space) where
  leaf_kept : (old new : DatedState) (j : ℕ) (ptr : Ptr) → is_lawful ptr ≡ true → LeafIs (Has old_image old_space) old j ptr → ((s : ℕ) → s < 16 → is_number (16 * j + s) ≡ true → Alike old new (16 * j + s))
      → IsTightLeaf (Has old_image old_space) old j ptr → IsTightLeaf (Has image space) new j ptr
  leaf_kept old new j ptr lawful (inl hole) alike tight bytes held there spells s less = absurd (no_block image space ptr bytes hole.kind lawful there)
  leaf_kept old new j ptr lawful (inr leaf) alike tight bytes held there spells s less =
      let same = Has-one image space ptr bytes leaf.bytes there (keeps ptr leaf.bytes leaf.names.there) in
      let spelled = subst (λ (b : List ℕ). Spells b held) same spells in
      slot_kept (Has old_image old_space) old new j s leaf.slots (held s) less leaf.slots_are (Spells-one leaf.bytes held leaf.slots spelled leaf.names.spells s less) (alike s less) (tight leaf.bytes held leaf.names.there spelled s less)

-- a set is tight where the leaves of some map of its tree are, and its tree tells no date later than the state
pub SetIsTight-of : (image : List ℕ) (space : FreeSectors) (set : ObjSet) (snap : DatedState) (map : Map) → SetHolds (Has image space) set snap → TreeIs (Has image space) set.tree map
    → ((j : ℕ) → j < 2 ^ 44 → IsTightLeaf (Has image space) snap j (map j)) → ((number : ℕ) → DatedUpTo number snap → TreeDatedUpTo number set.tree) → SetIsTight (Has image space) set snap
SetIsTight-of image space set snap map holds tree leaves told = record {
  holds = holds;
  tight = λ j less. subst (IsTightLeaf (Has image space) snap j) (TreeIs-one (Has image space) (Has-one image space) set.tree map holds.map tree holds.tree j less) (leaves j less);
  tells = told;
}

pub alike_same : (snap : DatedState) (k : ℕ) → Alike snap snap k
alike_same snap k = record { state = refl; date = refl; dates = λ i less. refl }

-- what is held tightly is, as long as its blocks are there
pub tight_grows : (set : ObjSet) (old : List ℕ) (space : FreeSectors) (new : List ℕ) (less : FreeSectors) (snap : DatedState) → KeepsBlocks old space new less → SetIsTight (Has old space) set snap → SetIsTight (Has new less) set snap
tight_grows set old space new less snap keeps tight =
    let holds = tight.holds in
    SetIsTight-of new less set snap holds.map (SetHolds-grows (Has old space) (Has new less) keeps set snap holds) (TreeIs-grows (Has old space) (Has new less) keeps set.tree holds.map holds.tree)
    (λ j under. leaf_kept old space new less keeps snap snap j (holds.map j) (TreeIs-lawful (Has old space) set.tree holds.map holds.tree j under) (holds.leaves j under) (λ s small number. alike_same snap (16 * j + s)) (tight.tight j under)) tight.tells

-- no leaf stands in a hole's place
pub hole_tight : (image : List ℕ) (space : FreeSectors) (snap : DatedState) (j date : ℕ) → IsTightLeaf (Has image space) snap j (hole_of date)
hole_tight image space snap j date bytes held there spells s less = absurd (no_block image space (hole_of date) bytes refl refl there)

pub tight_empty : (image : List ℕ) (space : FreeSectors) → SetIsTight (Has image space) no_objects untouched
tight_empty image space = SetIsTight-of image space no_objects untouched (λ i. hole_of 0) (empty (Has image space)) (TreeIs-hole (Has image space) 0) (λ j less. hole_tight image space untouched j 0) (λ number dated. (omega arith, omega arith))

-- the slots of a node that was loaded for a tight leaf
pub loaded_tight : (seen : List ℕ) (space : FreeSectors) (snap : DatedState) (j : ℕ) (ptr : Ptr) (bytes : List ℕ) → LeafIs (Has seen space) snap j ptr → IsTightLeaf (Has seen space) snap j ptr → HasSlots (Has seen space) snap j bytes
    → IsLoaded (IsSeen seen) ptr bytes → AreTight snap j bytes
loaded_tight seen space snap j ptr bytes leaf tight slots (inl (kind, absent)) held spells s less = go (is_number (16 * j + s)) refl
  where
    date : ℕ
    date = (absent s less).0

    same : held s ≡ Absent date
    same = slot_bytes-unique (held s) (Absent date) (spells.fits s less) (absent s less).1.fits (sym (spells.spelled s less) ∙ (absent s less).1.spelled)

    is : held s ≡ slots.slots s
    is = Spells-one bytes held slots.slots spells slots.spells s less

    go : (b : Bool) → is_number (16 * j + s) ≡ b → IsTightSlot snap (16 * j + s) (held s)
    go true test =
        subst (IsTightSlot snap (16 * j + s)) (sym same)
        (tight_absent (Has seen space) snap (16 * j + s) date (subst (SlotIs (Has seen space) snap (16 * j + s)) (sym is ∙ same) (slots.slots_are.numbers s less test)))
    go false test = tight_none snap (16 * j + s) (held s) (is ∙ slots.slots_are.no_number s less test)
loaded_tight seen space snap j ptr bytes leaf tight slots (inr (kind, may)) held spells s less =
    let there = leaf_of (Has seen space) snap j ptr leaf kind in
    let same : bytes ≡ there.bytes = sym may.block.bytes_are ∙ ap (λ (image : List ℕ). named image ptr) may.among ∙ there.names.there.block.bytes_are in
    tight there.bytes held there.names.there (subst (λ (b : List ℕ). Spells b held) same spells) s less

-- the slot of a number, in the leaf of its index
pub slot_tight : (has : Blocks) (snap : DatedState) (k : ℕ) (bytes read : List ℕ) (slot : Slot) → HasSlots has snap (k / 16) bytes → AreTight snap (k / 16) bytes → read ≡ bytes
    → ((other : Slot) → SlotFits other → bytes_at read (512 * (k % 16)) 512 ≡ slot_bytes other → Some slot ≡ Some other) → IsTightSlot snap k slot
slot_tight has snap k bytes read slot slots tight same back =
    let split : 16 * (k / 16) + k % 16 ≡ k = omega arith in
    let small : k % 16 < 16 = omega arith in
    let found = back (slots.slots (k % 16)) (slots.spells.fits (k % 16) small) (ap (λ (b : List ℕ). bytes_at b (512 * (k % 16)) 512) same ∙ slots.spells.spelled (k % 16) small) in
    let slot_is : slots.slots (k % 16) ≡ slot = cc in
    subst (λ (n : ℕ). IsTightSlot snap n slot) split (subst (IsTightSlot snap (16 * (k / 16) + k % 16)) slot_is (tight slots.slots slots.spells (k % 16) small))

-- the slots of a node in which a tight one was put
pub put_tight : (has : Blocks) (old new : DatedState) (first below j from to : ℕ) (slot : Slot) (before after : List ℕ) → InLeaf first below j from to → IsPut slot from to before after → PutsSlot has old new first below slot
    → HasSlots has old j before → AreTight old j before → ((k : ℕ) → first ≤ k → k < below → IsTightSlot new k slot) → AreTight new j after
put_tight has old new first below j from to slot before after at is puts slots tight each held spells s less = go (sides from to s)
  where
    apart : (s < from) ⊎ (to ≤ s) → (16 * j + s < first) ⊎ (below ≤ 16 * j + s)
    apart (inl lower) = inl (omega (arith, at.first_is))
    apart (inr higher) = inr (omega (arith, at.below_is))

    go : Sides from to s → IsTightSlot new (16 * j + s) (held s)
    go (inl within) =
        let same = slot_bytes-unique slot (held s) is.fits (spells.fits s less) (sym (is.put s within.0 within.1) ∙ spells.spelled s less) in
        subst (IsTightSlot new (16 * j + s)) same (each (16 * j + s) (omega (arith, at.first_is, within.0)) (omega (arith, at.below_is, within.1)))
    go (inr beside) =
        let same = slot_bytes-unique (held s) (slots.slots s) (spells.fits s less) (slots.spells.fits s less) (sym (spells.spelled s less) ∙ is.kept s less beside ∙ slots.spells.spelled s less) in
        slot_kept has old new j s slots.slots (held s) less slots.slots_are same (λ number. puts.kept (16 * j + s) number (apart beside)) (subst (IsTightSlot old (16 * j + s)) (sym same) (tight slots.slots slots.spells s less))

-- the set with another leaf, which was saved and then put into its tree
module _ (first_image : List ℕ) (first_space : FreeSectors) (mid_image : List ℕ) (mid_space : FreeSectors) (last_image : List ℕ) (last_space : FreeSectors) (saving : KeepsBlocks first_image first_space mid_image mid_space) (setting : KeepsBlocks mid_image mid_space last_image last_space) where
  pub put_leaf_tight : (set : ObjSet) (tree : Tree) (old new : DatedState) (first below j from to : ℕ) (slot : Slot) (ptr : Ptr) (before after : List ℕ) → InLeaf first below j from to → IsPut slot from to before after
      → PutsSlot (Has first_image first_space) old new first below slot → SetIsTight (Has first_image first_space) set old → HasSlots (Has first_image first_space) old j before
      → AreTight old j before → ((k : ℕ) → first ≤ k → k < below → IsTightSlot new k slot)
      → ((slots : ℕ → Slot) → Spells after slots → NamesSlots (Has mid_image mid_space) ptr after slots)
      → ((map other : Map) → TreeIs (Has mid_image mid_space) set.tree map → Puts map other j (j + 1) ptr → TreeIs (Has last_image last_space) tree other) → tree.levels ≤ 7 → DatesRise old new
      → ((number : ℕ) (map : Map) → TreeIs (Has mid_image mid_space) set.tree map → TreeDatedUpTo number set.tree → ptr.number ≤ number → TreeDatedUpTo number tree)
      → SetIsTight (Has last_image last_space) (record { tree = tree }) new
  put_leaf_tight set tree old new first below j from to slot ptr before after at is puts tight slots before_tight each names sets levels rises moves =
      SetIsTight-of last_image last_space (record { tree = tree }) new (with_one map j ptr)
      (put_leaf first_image first_space mid_image mid_space last_image last_space saving setting set tree old new first below j from to slot ptr before after at is puts tight.holds slots names sets levels)
      (sets map (with_one map j ptr) stood (Puts-one map j ptr))
      (λ i less. ⊎_elim (λ lower. other i less (inl lower)) (λ over. ⊎_elim (λ higher. other i less (inr higher)) (λ le. same i (omega (arith, over, le))) (cases_lt j i)) (cases_lt i j)) told
    where
      map : Map
      map = tight.holds.map

      stood : TreeIs (Has mid_image mid_space) set.tree map
      stood = TreeIs-grows (Has first_image first_space) (Has mid_image mid_space) saving set.tree map tight.holds.tree

      grown : KeepsBlocks first_image first_space last_image last_space
      grown p bytes has = setting p bytes (saving p bytes has)

      apart : (i s : ℕ) → s < 16 → (i < j) ⊎ (j < i) → (16 * i + s < first) ⊎ (below ≤ 16 * i + s)
      apart i s small (inl lower) = inl (omega (arith, at.first_is))
      apart i s small (inr higher) = inr (omega (arith, at.below_is, at.inside))

      other : (i : ℕ) → i < 2 ^ 44 → (i < j) ⊎ (j < i) → IsTightLeaf (Has last_image last_space) new i (with_one map j ptr i)
      other i less beside =
          subst (IsTightLeaf (Has last_image last_space) new i) (sym (beside_one map j ptr i beside))
          (leaf_kept first_image first_space last_image last_space grown old new i (map i) (TreeIs-lawful (Has first_image first_space) set.tree map tight.holds.tree i less) (tight.holds.leaves i less)
          (λ s small number. puts.kept (16 * i + s) number (apart i s small beside)) (tight.tight i less))

      here : IsTightLeaf (Has last_image last_space) new j ptr
      here bytes held there spells =
          let made = mended (Has first_image first_space) old new first below j from to slot before after at is puts slots in
          let same = Has-one last_image last_space ptr bytes after there (setting ptr after (names made.slots made.spells).there) in
          put_tight (Has first_image first_space) old new first below j from to slot before after at is puts slots before_tight each held (subst (λ (b : List ℕ). Spells b held) same spells)

      same : (i : ℕ) → i ≡ j → IsTightLeaf (Has last_image last_space) new i (with_one map j ptr i)
      same i is = subst (IsTightLeaf (Has last_image last_space) new i) (sym (at_one map j ptr i is)) (subst (λ (n : ℕ). IsTightLeaf (Has last_image last_space) new n ptr) (sym is) here)

      -- the leaf's pointer tells no date later than the state, so none of the tree does
      early : (number : ℕ) → DatedUpTo number new → ptr.number ≤ number
      early number dated =
          let made = mended (Has first_image first_space) old new first below j from to slot before after at is puts slots in
          let after_tight : AreTight new j after = put_tight (Has first_image first_space) old new first below j from to slot before after at is puts slots before_tight each in
          omega (arith, (names made.slots made.spells).number, latest_least made.slots 16 number (λ s less. tight_dated number new (16 * j + s) (made.slots s) dated (after_tight made.slots made.spells s less)))

      told : (number : ℕ) → DatedUpTo number new → TreeDatedUpTo number tree
      told number dated = moves number map stood (tight.tells number (rises number dated)) (early number dated)

-- holes in place of whole leaves
module _ (old_image : List ℕ) (old_space : FreeSectors) (image : List ℕ) (space : FreeSectors) (keeps : KeepsBlocks old_image old_space image space) where
  pub holes_tight : (set made : ObjSet) (old new : DatedState) (first below date : ℕ) → PutsSlot (Has old_image old_space) old new (16 * first) (16 * below) (Absent date) → (tight : SetIsTight (Has old_image old_space) set old) → made.tree.levels ≤ 7
      → TreeIs (Has image space) made.tree (with_holes tight.holds.map first below (hole_of date)) → 0 < first → first < below → below ≤ 2 ^ 44 → DatesRise old new
      → ((number : ℕ) → TreeDatedUpTo number set.tree → date ≤ number → TreeDatedUpTo number made.tree) → SetIsTight (Has image space) made new
  holes_tight set made old new first below date puts tight levels tree some more bound rises moves =
      SetIsTight-of image space made new (with_holes map first below (hole_of date)) (SetHolds-holes (Has old_image old_space) (Has image space) keeps set made old new first below date puts tight.holds levels tree) tree
      (λ i less. leaf_at i less (sides first below i)) told
    where
      map : Map
      map = tight.holds.map

      -- the holes' date is one of the state
      told : (number : ℕ) → DatedUpTo number new → TreeDatedUpTo number made.tree
      told number dated =
          let is = puts.put (16 * first) (is_number_at (16 * first) (omega (arith, some)) (omega (arith, more, bound))) (omega arith) (omega (arith, more)) in
          moves number (tight.tells number (rises number dated)) (omega (arith, is.date_is, dated.numbers (16 * first)))

      apart : (i s : ℕ) → s < 16 → (i < first) ⊎ (below ≤ i) → (16 * i + s < 16 * first) ⊎ (16 * below ≤ 16 * i + s)
      apart i s small (inl before) = inl (omega arith)
      apart i s small (inr behind) = inr (omega arith)

      leaf_at : (i : ℕ) → i < 2 ^ 44 → Sides first below i → IsTightLeaf (Has image space) new i (with_holes map first below (hole_of date) i)
      leaf_at i less (inl within) = subst (IsTightLeaf (Has image space) new i) (sym (inside first below i (hole_of date) (map i) within.0 within.1)) (hole_tight image space new i date)
      leaf_at i less (inr beside) =
          subst (IsTightLeaf (Has image space) new i) (sym (outside first below i (hole_of date) (map i) beside))
          (leaf_kept old_image old_space image space keeps old new i (map i) (TreeIs-lawful (Has old_image old_space) set.tree map tight.holds.tree i less) (tight.holds.leaves i less)
          (λ s small number. puts.kept (16 * i + s) number (apart i s small beside)) (tight.tight i less))

-- a date that stays, or is the commit's, is up to the commit's number; and no number bounds it that doesn't bound the one before
dated_still : (number date : ℕ) (t : Bool) → date ≤ number → (if t then number else date) ≤ number
dated_still number date true early = omega arith
dated_still number date false early = early

dated_before : (number bound date : ℕ) (t : Bool) → date ≤ number → (if t then number else date) ≤ bound → date ≤ bound
dated_before number bound date true early late = let less : number ≤ bound = late in omega (arith, early, less)
dated_before number bound date false early late = late

-- the dates of a state only rise where a change in a commit dates some numbers and indices
pub change_rises : (number j : ℕ) (change : Change) (old : DatedState) (object : Object) → DatedUpTo number old → DatesRise old (changed_to number j change old object)
change_rises number j change old object dated bound later = record {
  numbers = λ k. dated_before number bound (old.number_date k) (k == j && dates_number change) (dated.numbers k) (later.numbers k);
  indices = λ k i. dated_before number bound (old.index_date k i) ((k == j && dates_index change (old.state j) i) && nat_lt i index_bound) (dated.indices k i) (later.indices k i);
}

module _ (number first below : ℕ) (old : DatedState) (dated : DatedUpTo number old) where
  pub freed_dated : DatedUpTo number (freed number first below old)
  freed_dated = record {
    numbers = λ k. dated_still number (old.number_date k) (is_in first below k && is_number k) (dated.numbers k);
    indices = λ k i. dated_still number (old.index_date k i) ((is_in first below k && is_number k) && nat_lt i index_bound) (dated.indices k i);
  }

  pub freed_rises : DatesRise old (freed number first below old)
  freed_rises bound later = record {
    numbers = λ k. dated_before number bound (old.number_date k) (is_in first below k && is_number k) (dated.numbers k) (later.numbers k);
    indices = λ k i. dated_before number bound (old.index_date k i) ((is_in first below k && is_number k) && nat_lt i index_bound) (dated.indices k i) (later.indices k i);
  }

-- freed numbers have absent slots of the commit's date
pub freed_tight : (has : Blocks) (number first below : ℕ) (old : DatedState) → PutsSlot has old (freed number first below old) first below (Absent number) → 0 < first → below ≤ 2 ^ 48
    → (k : ℕ) → first ≤ k → k < below → IsTightSlot (freed number first below old) k (Absent number)
freed_tight has number first below old puts some bound k from less = tight_absent has (freed number first below old) k number (puts.put k (is_number_at k (omega arith) (omega arith)) from less)

-- a slot whose dates a change gives its number or an index of it
pub change_tight : (number j : ℕ) (change : Change) (old : DatedState) (object : Object) (dnode : Dnode) → IsTightDnode number j change old dnode → IsTightSlot (changed_to number j change old object) j (There dnode)
change_tight number j change old object dnode (inl date) = inl (subst (λ (n : ℕ). date_in (There dnode) ≤ n) (sym (date_put number j change old)) date)
change_tight number j change old object dnode (inr index) = inr (index.0, index.1, subst (λ (n : ℕ). date_in (There dnode) ≤ n) (sym (dates_put number j change old index.0 index.1)) index.2)

-- a date stays, or is the commit's
later_date : (number date : ℕ) (t : Bool) → date ≤ number → date ≤ (if t then number else date)
later_date number date true early = early
later_date number date false early = omega arith

module _ (number k : ℕ) (change : Change) (state : DatedState) (old new : Dnode) (dated : DatedUpTo number state) (tight : IsTightSlot state k (There old)) where
  -- a dnode that tells no later date than the one that was there
  kept_tight : date_in (There new) ≤ date_in (There old) → IsTightDnode number k change state new
  kept_tight early = go tight
    where
      go : IsTightSlot state k (There old) → IsTightDnode number k change state new
      go (inl date) = inl (omega (arith, early, date, later_date number (state.number_date k) (dates_number change) (dated.numbers k)))
      go (inr index) = inr (index.0, index.1, omega (arith, early, index.2, later_date number (state.index_date k index.0) (dates_index change (state.state k) index.0) (dated.indices k index.0)))

  -- one with another tree, in which a range of indices has the commit's date
  pub range_tight : (first count : ℕ) → new.date ≡ old.date → ((i : ℕ) → dates_index change (state.state k) i ≡ within first count i) → first + count ≤ index_bound
      → ((bound : ℕ) → TreeDatedUpTo bound (tree_of old) → (0 < count → number ≤ bound) → TreeDatedUpTo bound (tree_of new)) → IsTightDnode number k change state new
  range_tight first zero same dates range tree =
      let made = tree (date_in (There old)) (omega arith, omega arith) (λ some. absurd (omega arith)) in
      kept_tight (omega (arith, same, made.0, made.1))
  range_tight first (suc count) same dates range tree =
      let early = tight_dated number state k (There old) dated tight in
      let made = tree number (omega (arith, early), omega (arith, early)) (λ some. omega arith) in
      let test : within first (suc count) first ≡ true = grind (arith, nat_tests) in
      inr (first, omega (arith, range), rw (dates first, test) (omega (arith, same, early, made.0, made.1)))
