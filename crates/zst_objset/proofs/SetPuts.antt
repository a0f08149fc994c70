-- A set with another leaf holds what the leaf says of its sixteen numbers, and of all others what it held.
use Rattle.std.proofs.Common.{◌≡◌, ◌⊎◌, inl, inr, ⊎_elim, ℕ, ◌+◌, ◌*◌, ◌^◌, ◌<◌, ◌≤◌, ◌==◌, nat_lt, nat_le, ◌&&◌, true, false, List, length, sym, ◌∙◌, ap, subst, arith, if◌then◌else◌}
use Rattle.std.proofs.lemmas.Bool.{cases_lt}
use Rattle.std.proofs.lemmas.Bool.Decides.{nat_tests}
use Rattle.zst_bytes.specs.Bytes.{bytes_at}
use Rattle.zst_block.specs.declared.ptr.Ptr.{Ptr}
use Rattle.zst_dnode.specs.Slot.{slot_bytes, SlotFits}
use Rattle.zst_dnode.specs.declared.slot.Slot.{Slot}
use Rattle.zst_dnode.specs.declared.slot.Slot.TheVariants.{Absent, There}
use Rattle.zst_model.specs.states.State.{is_number, number_bound}
use Rattle.zst_model.specs.states.DatedState.{DatedState}
use Rattle.zst_tree.specs.Indices.{Blocks, Map, Puts, TreeIs}
use Rattle.zst_tree.specs.declared.tree.ObjSet.{ObjSet}
use Rattle.zst_objset.specs.Dnodes.{IsAbsent, SlotIs}
use Rattle.zst_objset.specs.SlotPuts.{Alike, PutsSlot}
use Rattle.zst_objset.specs.Sets.{HasSlots, IsLeaf, LeafIs, NamesSlots, SetHolds, Spells}
use Rattle.zst_space.specs.FreeSectors.{FreeSectors}
use Rattle.zst_block.specs.Blocks.{Has, KeepsBlocks}
use Rattle.zst_tree.specs.declared.tree.Tree.{Tree}
use Rattle.zst_tree.proofs.IndicesLaws.{TreeIs-grows}
use Rattle.zst_objset.proofs.SetGrowth.{LeafIs-grows, NamesSlots-grows, AreSlots-grows}

module _ (has : Blocks) (old new : DatedState) (k : ℕ) (alike : Alike old new k) where
  IsAbsent-alike : (date : ℕ) → IsAbsent old k date → IsAbsent new k date
  IsAbsent-alike date is = record {
    none = alike.state ∙ is.none;
    date_is = alike.date ∙ is.date_is;
    dates = λ i less. alike.dates i less ∙ is.dates i less;
  }

  pub SlotIs-alike : (slot : Slot) → SlotIs has old k slot → SlotIs has new k slot
  SlotIs-alike (Absent date) is = IsAbsent-alike date is
  SlotIs-alike (There dnode) is = record {
    object = is.object;
    there = alike.state ∙ is.there;
    map = is.map;
    is = record {
      type_is = is.is.type_is;
      bonus_type_is = is.is.bonus_type_is;
      size_is = is.is.size_is;
      bonus_is = is.is.bonus_is;
      date_is = is.is.date_is ∙ sym alike.date;
      end_is = is.is.end_is;
      spill_is = is.is.spill_is;
      tree = is.is.tree;
      blocks = is.is.blocks;
      index_dates = λ i less. is.is.index_dates i less ∙ sym (alike.dates i less);
    };
  }

pub LeafIs-alike : (has : Blocks) (old new : DatedState) (j : ℕ) (ptr : Ptr) → ((s : ℕ) → s < 16 → is_number (16 * j + s) ≡ true → Alike old new (16 * j + s)) → LeafIs has old j ptr → LeafIs has new j ptr
LeafIs-alike has old new j ptr alike (inl hole) = inl (record {
  kind = hole.kind;
  absent = λ s less number. IsAbsent-alike has old new (16 * j + s) (alike s less number) ptr.number (hole.absent s less number);
})
LeafIs-alike has old new j ptr alike (inr leaf) = inr (record {
  bytes = leaf.bytes;
  slots = leaf.slots;
  names = leaf.names;
  slots_are = record {
    numbers = λ s less number. SlotIs-alike has old new (16 * j + s) (alike s less number) (leaf.slots s) (leaf.slots_are.numbers s less number);
    no_number = leaf.slots_are.no_number;
  };
})

-- slots with another one from one place on and below another
abbrev pub with_slots : (ℕ → Slot) → ℕ → ℕ → Slot → ℕ → Slot
with_slots slots from below slot s = if nat_le from s && nat_lt s below then slot else slots s

-- where a place is: inside or beside
pub inside : {A : Type 0} (from below s : ℕ) (x y : A) → from ≤ s → s < below → (if nat_le from s && nat_lt s below then x else y) ≡ x
inside from below s x y over less = grind (arith, nat_tests)

pub outside : {A : Type 0} (from below s : ℕ) (x y : A) → (s < from) ⊎ (below ≤ s) → (if nat_le from s && nat_lt s below then x else y) ≡ y
outside from below s x y (inl before) = grind (arith, nat_tests)
outside from below s x y (inr behind) = grind (arith, nat_tests)

abbrev pub Sides : ℕ → ℕ → ℕ → Type 0
Sides from below s = ((from ≤ s) × (s < below)) ⊎ ((s < from) ⊎ (below ≤ s))

pub sides : (from below s : ℕ) → Sides from below s
sides from below s = ⊎_elim (λ (before : s < from). inr (inl before)) (λ (over : from ≤ s). ⊎_elim (λ (less : s < below). inl (over, less)) (λ (behind : below ≤ s). inr (inr behind)) (cases_lt s below)) (cases_lt s from)

zero_only : (j s : ℕ) → s < 16 → j < 2 ^ 44 → is_number (16 * j + s) ≡ false → 16 * j + s ≡ 0
unfolding number_bound
zero_only j s small less test = grind (arith, nat_tests)

-- a node whose slots were put
pub HasSlots-put : (has : Blocks) (old new : DatedState) (j from below : ℕ) (slot : Slot) (before after : List ℕ) → j < 2 ^ 44 → 0 < 16 * j + from → SlotFits slot → PutsSlot has old new (16 * j + from) (16 * j + below) slot
    → length after ≡ 8192
    → ((s : ℕ) → from ≤ s → s < below → bytes_at after (512 * s) 512 ≡ slot_bytes slot)
    → ((s : ℕ) → s < 16 → (s < from) ⊎ (below ≤ s) → bytes_at after (512 * s) 512 ≡ bytes_at before (512 * s) 512)
    → HasSlots has old j before → HasSlots has new j after
HasSlots-put has old new j from below slot before after less first fits puts long put kept slots = record {
  slots = with_slots slots.slots from below slot;
  spells = record { long = long; fits = λ s small. fits_at s small (sides from below s); spelled = λ s small. spelled_at s small (sides from below s) };
  slots_are = record { numbers = λ s small number. number_at s small number (sides from below s); no_number = λ s small test. no_number_at s small test (sides from below s) };
}
  where
    fits_at : (s : ℕ) → s < 16 → Sides from below s → SlotFits (with_slots slots.slots from below slot s)
    fits_at s small (inl within) = subst SlotFits (sym (inside from below s slot (slots.slots s) within.0 within.1)) fits
    fits_at s small (inr beside) = subst SlotFits (sym (outside from below s slot (slots.slots s) beside)) (slots.spells.fits s small)

    spelled_at : (s : ℕ) → s < 16 → Sides from below s → bytes_at after (512 * s) 512 ≡ slot_bytes (with_slots slots.slots from below slot s)
    spelled_at s small (inl within) = put s within.0 within.1 ∙ ap slot_bytes (sym (inside from below s slot (slots.slots s) within.0 within.1))
    spelled_at s small (inr beside) = kept s small beside ∙ slots.spells.spelled s small ∙ ap slot_bytes (sym (outside from below s slot (slots.slots s) beside))

    shifted : (s : ℕ) → (s < from) ⊎ (below ≤ s) → (16 * j + s < 16 * j + from) ⊎ (16 * j + below ≤ 16 * j + s)
    shifted s (inl lower) = inl (omega arith)
    shifted s (inr higher) = inr (omega arith)

    number_at : (s : ℕ) → s < 16 → is_number (16 * j + s) ≡ true → Sides from below s → SlotIs has new (16 * j + s) (with_slots slots.slots from below slot s)
    number_at s small number (inl within) = subst (SlotIs has new (16 * j + s)) (sym (inside from below s slot (slots.slots s) within.0 within.1)) (puts.put (16 * j + s) number (omega (arith, within.0)) (omega (arith, within.1)))
    number_at s small number (inr beside) =
        subst (SlotIs has new (16 * j + s)) (sym (outside from below s slot (slots.slots s) beside))
        (SlotIs-alike has old new (16 * j + s) (puts.kept (16 * j + s) number (shifted s beside)) (slots.slots s) (slots.slots_are.numbers s small number))

    no_number_at : (s : ℕ) → s < 16 → is_number (16 * j + s) ≡ false → Sides from below s → with_slots slots.slots from below slot s ≡ Absent 0
    no_number_at s small test (inl within) = absurd (omega (arith, zero_only j s small less test, within.0, first))
    no_number_at s small test (inr beside) = outside from below s slot (slots.slots s) beside ∙ slots.slots_are.no_number s small test

-- a map with another leaf at one index
abbrev pub with_one : Map → ℕ → Ptr → Map
with_one map j ptr i = if i == j then ptr else map i

pub at_one : (map : Map) (j : ℕ) (ptr : Ptr) (i : ℕ) → i ≡ j → with_one map j ptr i ≡ ptr
at_one map j ptr i is = grind (arith, nat_tests)

pub beside_one : (map : Map) (j : ℕ) (ptr : Ptr) (i : ℕ) → (i < j) ⊎ (j < i) → with_one map j ptr i ≡ map i
beside_one map j ptr i (inl less) = grind (arith, nat_tests)
beside_one map j ptr i (inr more) = grind (arith, nat_tests)

pub Puts-one : (map : Map) (j : ℕ) (ptr : Ptr) → Puts map (with_one map j ptr) j (j + 1) ptr
Puts-one map j ptr = record {
  inside = record { is = λ i from below. at_one map j ptr i (omega (arith, from, below)) };
  beside = record { before = λ i base less. beside_one map j ptr i (inl less); behind = λ i over above. beside_one map j ptr i (inr (omega (arith, over))) };
}

-- one leaf is another
pub SetHolds-put : (has more : Blocks) → ((ptr : Ptr) (bytes : List ℕ) → has ptr bytes → more ptr bytes) → (set made : ObjSet) (old new : DatedState) (j from below : ℕ) (slot : Slot) (ptr : Ptr) → from < below → below ≤ 16
    → PutsSlot has old new (16 * j + from) (16 * j + below) slot → (holds : SetHolds has set old) → made.tree.levels ≤ 7 → TreeIs more made.tree (with_one holds.map j ptr) → IsLeaf more new j ptr → SetHolds more made new
SetHolds-put has more up set made old new j from below slot ptr some inside_leaf puts holds levels tree leaf = record {
  lawful = puts.lawful;
  bounded = puts.bounded;
  levels = levels;
  map = with_one holds.map j ptr;
  tree = tree;
  leaves = λ i less. leaf_at i less (cases_lt i j);
}
  where
    other : (i : ℕ) → i < 2 ^ 44 → (i < j) ⊎ (j < i) → LeafIs more new i (with_one holds.map j ptr i)
    other i less beside =
        subst (LeafIs more new i) (sym (beside_one holds.map j ptr i beside))
        (LeafIs-grows has more up new i (holds.map i) (LeafIs-alike has old new i (holds.map i) (λ s small number. puts.kept (16 * i + s) number (apart s small beside)) (holds.leaves i less)))
      where
        apart : (s : ℕ) → s < 16 → (i < j) ⊎ (j < i) → (16 * i + s < 16 * j + from) ⊎ (16 * j + below ≤ 16 * i + s)
        apart s small (inl lower) = inl (omega arith)
        apart s small (inr higher) = inr (omega arith)

    leaf_at : (i : ℕ) → i < 2 ^ 44 → (i < j) ⊎ (j ≤ i) → LeafIs more new i (with_one holds.map j ptr i)
    leaf_at i less (inl lower) = other i less (inl lower)
    leaf_at i less (inr over) = ⊎_elim (λ (higher : j < i). other i less (inr higher)) (λ (le : i ≤ j). same i (omega arith)) (cases_lt j i)
      where
        same : (i : ℕ) → i ≡ j → LeafIs more new i (with_one holds.map j ptr i)
        same i is = subst (LeafIs more new i) (sym (at_one holds.map j ptr i is)) (subst (λ (n : ℕ). LeafIs more new n ptr) (sym is) (inr leaf))

PutsSlot-at : (has : Blocks) (old new : DatedState) (first below at end : ℕ) (slot : Slot) → first ≡ at → below ≡ end → PutsSlot has old new first below slot → PutsSlot has old new at end slot
PutsSlot-at has old new first below at end slot e0 e1 puts = subst (λ (n : ℕ). PutsSlot has old new at n slot) e1 (subst (λ (n : ℕ). PutsSlot has old new n below slot) e0 puts)

-- the numbers of a change in one leaf
pub record InLeaf (first below j from to : ℕ) : Type 0 where
  pub first_is : first ≡ 16 * j + from
  pub below_is : below ≡ 16 * j + to
  pub some : from < to
  pub inside : to ≤ 16
  pub small : j < 2 ^ 44
  pub above : 0 < first

-- what was put in the node of a leaf
pub record IsPut (slot : Slot) (from to : ℕ) (before after : List ℕ) : Type 0 where
  pub fits : SlotFits slot
  pub long : length after ≡ 8192
  pub put : (s : ℕ) → from ≤ s → s < to → bytes_at after (512 * s) 512 ≡ slot_bytes slot
  pub kept : (s : ℕ) → s < 16 → (s < from) ⊎ (to ≤ s) → bytes_at after (512 * s) 512 ≡ bytes_at before (512 * s) 512

pub mended : (has : Blocks) (old new : DatedState) (first below j from to : ℕ) (slot : Slot) (before after : List ℕ) → InLeaf first below j from to → IsPut slot from to before after → PutsSlot has old new first below slot → HasSlots has old j before → HasSlots has new j after
mended has old new first below j from to slot before after at is puts slots =
    HasSlots-put has old new j from to slot before after at.small (omega (arith, at.above, at.first_is)) is.fits (PutsSlot-at has old new first below (16 * j + from) (16 * j + to) slot at.first_is at.below_is puts) is.long is.put is.kept slots

-- the set with another leaf, which was saved and then put into its tree
module _ (first_image : List ℕ) (first_space : FreeSectors) (mid_image : List ℕ) (mid_space : FreeSectors) (last_image : List ℕ) (last_space : FreeSectors) (saving : KeepsBlocks first_image first_space mid_image mid_space) (setting : KeepsBlocks mid_image mid_space last_image last_space) where
  pub put_leaf : (set : ObjSet) (tree : Tree) (old new : DatedState) (first below j from to : ℕ) (slot : Slot) (ptr : Ptr) (before after : List ℕ) → InLeaf first below j from to → IsPut slot from to before after
      → PutsSlot (Has first_image first_space) old new first below slot → SetHolds (Has first_image first_space) set old → HasSlots (Has first_image first_space) old j before
      → ((slots : ℕ → Slot) → Spells after slots → NamesSlots (Has mid_image mid_space) ptr after slots)
      → ((map other : Map) → TreeIs (Has mid_image mid_space) set.tree map → Puts map other j (j + 1) ptr → TreeIs (Has last_image last_space) tree other) → tree.levels ≤ 7
      → SetHolds (Has last_image last_space) (record { tree = tree }) new
  put_leaf set tree old new first below j from to slot ptr before after at is puts holds slots names sets levels =
      let there = mended (Has first_image first_space) old new first below j from to slot before after at is puts slots in
      let up = λ (p : Ptr) (bytes : List ℕ) (has : Has first_image first_space p bytes). setting p bytes (saving p bytes has) in
      SetHolds-put (Has first_image first_space) (Has last_image last_space) up set (record { tree = tree }) old new j from to slot ptr at.some at.inside
      (PutsSlot-at (Has first_image first_space) old new first below (16 * j + from) (16 * j + to) slot at.first_is at.below_is puts) holds levels
      (sets holds.map (with_one holds.map j ptr) (TreeIs-grows (Has first_image first_space) (Has mid_image mid_space) saving set.tree holds.map holds.tree) (Puts-one holds.map j ptr))
      (record {
        bytes = after;
        slots = there.slots;
        names = NamesSlots-grows (Has mid_image mid_space) (Has last_image last_space) setting ptr after there.slots (names there.slots there.spells);
        slots_are = AreSlots-grows (Has first_image first_space) (Has last_image last_space) up new j there.slots there.slots_are;
      })
