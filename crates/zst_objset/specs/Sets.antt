-- What an object set holds: a tree whose leaves have sixteen slots each, the slot of object `k` in the leaf of index `k / 16`.
use Rattle.std.specs.Prelude.{◌≡◌, ◌⊎◌, ℕ, zero, suc, ◌+◌, ◌*◌, ◌^◌, ◌<◌, ◌≤◌, ◌||◌, Bool, true, false, List, length, max, if◌then◌else◌}
use Rattle.zst_bytes.specs.Bytes.{bytes_at}
use Rattle.zst_block.specs.declared.ptr.Ptr.{Ptr}
use Rattle.zst_dnode.specs.Slot.{slot_bytes, SlotFits}
use Rattle.zst_dnode.specs.declared.slot.Slot.{Slot}
use Rattle.zst_dnode.specs.declared.slot.Slot.TheVariants.{Absent, There}
use Rattle.zst_model.specs.states.State.{IsState, is_number, index_bound}
use Rattle.zst_model.specs.sends.Inclusion.{Pairs}
use Rattle.zst_model.specs.states.DatedState.{DatedState}
use Rattle.zst_tree.specs.Indices.{Blocks, Map, TreeIs}
use Rattle.zst_tree.specs.declared.tree.ObjSet.{ObjSet}
use Rattle.zst_objset.specs.Dnodes.{IsAbsent, SlotIn, outside}

-- the latest date that a slot tells: its number's, or one of its indices'
abbrev pub date_in : Slot → ℕ
date_in (Absent date) = date
date_in (There dnode) = max dnode.date (max dnode.past dnode.root.number)

-- an object stands in a slot
abbrev pub is_there : Slot → Bool
is_there (Absent date) = false
is_there (There dnode) = true

-- the latest date that some first slots tell, and whether an object stands in one of them
unfoldable pub latest : (ℕ → Slot) → ℕ → ℕ
latest slots zero = 0
latest slots (suc count) = max (latest slots count) (date_in (slots count))

unfoldable pub any_there : (ℕ → Slot) → ℕ → Bool
any_there slots zero = false
any_there slots (suc count) = any_there slots count || is_there (slots count)

-- these bytes spell these sixteen slots
pub record Spells (bytes : List ℕ) (slots : ℕ → Slot) : Type 0 where
  pub long : length bytes ≡ 8192
  pub fits : (s : ℕ) → s < 16 → SlotFits (slots s)
  pub spelled : (s : ℕ) → s < 16 → bytes_at bytes (512 * s) 512 ≡ slot_bytes (slots s)

-- sixteen slots are those of the leaf of this index; no object has the number 0, whose slot stays as it began
pub record AreSlotsIn (has : Blocks) (reads : ℕ → ℕ → Blocks) (snap : DatedState) (j : ℕ) (slots : ℕ → Slot) : Type 0 where
  pub numbers : (s : ℕ) → s < 16 → is_number (16 * j + s) ≡ true → SlotIn has reads snap (16 * j + s) (slots s)
  pub no_number : (s : ℕ) → s < 16 → is_number (16 * j + s) ≡ false → slots s ≡ Absent 0

abbrev pub AreSlots : Blocks → DatedState → ℕ → (ℕ → Slot) → Type 0
AreSlots has snap j slots = AreSlotsIn has (λ k i. has) snap j slots

-- the pointer of a leaf names its slots: its kind says whether there is an object, and its number is the latest date that they tell
pub record NamesSlots (has : Blocks) (ptr : Ptr) (bytes : List ℕ) (slots : ℕ → Slot) : Type 0 where
  pub there : has ptr bytes
  pub kind : ptr.kind ≡ (if any_there slots 16 then 3 else 4)
  pub level : ptr.level ≡ 0
  pub number : ptr.number ≡ latest slots 16
  pub spells : Spells bytes slots

-- a leaf: its pointer names sixteen slots, which are those of its index
pub record IsLeafIn (has : Blocks) (reads : ℕ → ℕ → Blocks) (snap : DatedState) (j : ℕ) (ptr : Ptr) : Type 0 where
  pub bytes : List ℕ
  pub slots : ℕ → Slot
  pub names : NamesSlots has ptr bytes slots
  pub slots_are : AreSlotsIn has reads snap j slots

abbrev pub IsLeaf : Blocks → DatedState → ℕ → Ptr → Type 0
IsLeaf has snap j ptr = IsLeafIn has (λ k i. has) snap j ptr

-- a hole in place of a leaf: its sixteen numbers are absent since its date
pub record IsHole (snap : DatedState) (j : ℕ) (ptr : Ptr) : Type 0 where
  pub kind : ptr.kind ≡ 0
  pub absent : (s : ℕ) → s < 16 → is_number (16 * j + s) ≡ true → IsAbsent snap (16 * j + s) ptr.number

-- what a pointer in the tree of a set says of sixteen numbers
abbrev pub LeafIn : Blocks → (ℕ → ℕ → Blocks) → DatedState → ℕ → Ptr → Type 0
LeafIn has reads snap j ptr = IsHole snap j ptr ⊎ IsLeafIn has reads snap j ptr

abbrev pub LeafIs : Blocks → DatedState → ℕ → Ptr → Type 0
LeafIs has snap j ptr = LeafIn has (λ k i. has) snap j ptr

-- what isn't a number or an index has the date 0
pub record IsBounded (snap : DatedState) : Type 0 where
  pub no_number : (k : ℕ) → is_number k ≡ false → snap.number_date k ≡ 0
  pub no_numbers_index : (k i : ℕ) → is_number k ≡ false → snap.index_date k i ≡ 0
  pub no_index : (k i : ℕ) → index_bound ≤ i → snap.index_date k i ≡ 0

-- the set holds this dated state
pub record SetIn (has : Blocks) (reads : ℕ → ℕ → Blocks) (set : ObjSet) (snap : DatedState) : Type 0 where
  pub lawful : IsState snap.state
  pub bounded : IsBounded snap
  pub levels : set.tree.levels ≤ 7
  pub map : Map
  pub tree : TreeIs has set.tree map
  pub leaves : (j : ℕ) → j < 2 ^ 44 → LeafIn has reads snap j (map j)

abbrev pub SetHolds : Blocks → ObjSet → DatedState → Type 0
SetHolds has set snap = SetIn has (λ k i. has) set snap

-- the set holds this dated state but for the bytes of these pairs, whose blocks may be damaged
abbrev pub SetHoldsBut : Blocks → Pairs → ObjSet → DatedState → Type 0
SetHoldsBut has pairs set snap = SetIn has (outside pairs has) set snap

-- these bytes have the sixteen slots of the leaf of this index
pub record HasSlotsIn (has : Blocks) (reads : ℕ → ℕ → Blocks) (snap : DatedState) (j : ℕ) (bytes : List ℕ) : Type 0 where
  pub slots : ℕ → Slot
  pub spells : Spells bytes slots
  pub slots_are : AreSlotsIn has reads snap j slots

abbrev pub HasSlots : Blocks → DatedState → ℕ → List ℕ → Type 0
HasSlots has snap j bytes = HasSlotsIn has (λ k i. has) snap j bytes
