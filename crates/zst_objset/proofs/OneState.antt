-- A set holds one dated state.
use Rattle.std.specs.Prelude.{Option, Some, None}
use Rattle.std.proofs.Common.{◌≡◌, inl, inr, ⊎_elim, ℕ, zero, suc, ◌+◌, ◌*◌, ◌/◌, ◌%◌, ◌^◌, ◌<◌, ◌≤◌, ◌==◌, ◌||◌, nat_lt, Bool, true, false, List, refl, sym, ap, ◌∙◌, subst, arith, if◌then◌else◌}
use Rattle.std.proofs.Math.Path.{fun_ext}
use Rattle.std.proofs.Math.Nat.{zero-mul, suc-mul}
use Rattle.std.proofs.lemmas.Bool.{false≢true}
use Rattle.std.proofs.lemmas.Bool.Decides.{nat_tests}
use Rattle.zst_bytes.specs.Bytes.{bytes_at}
use Rattle.zst_block.specs.declared.ptr.Ptr.{Ptr}
use Rattle.zst_dnode.proofs.Slots.{slot_bytes-unique}
use Rattle.zst_dnode.specs.declared.dnode.Dnode.{Dnode}
use Rattle.zst_dnode.specs.declared.slot.Slot.{Slot}
use Rattle.zst_dnode.specs.declared.slot.Slot.TheVariants.{Absent, There}
use Rattle.zst_model.specs.declared.states.attr.Attr.{Attr}
use Rattle.zst_model.specs.states.State.{Block, Hole, Redacted, Data, Object, State, IsState, IsObject, IsObjectOrNone, is_number, index_bound, number_bound}
use Rattle.zst_model.specs.states.DatedState.{DatedState}
use Rattle.zst_tree.specs.Indices.{Blocks, Map, Subtree, TreeIs, child, span, any_present}
use Rattle.zst_tree.specs.declared.tree.Tree.{Tree}
use Rattle.zst_tree.specs.declared.tree.ObjSet.{ObjSet}
use Rattle.zst_objset.specs.Dnodes.{BlockIs, SpillIs, SlotIs, ObjectIs, tree_of}
use Rattle.zst_objset.specs.Sets.{any_there, LeafIs, SetHolds}

-- which of some ranges a place is in
abbrev pub Found : ℕ → ℕ → ℕ → ℕ → Type 0
Found n base j count = (k : ℕ) × (k < count) × (base + k * n ≤ j) × (j < base + k * n + n)

pub find : (n base j count : ℕ) → base ≤ j → j < base + count * n → Found n base j count
find n base j zero from under = absurd (omega (arith, from, under, zero-mul n))
find n base j (suc count) from under = go (find n base j count from) (nat_lt j (base + count * n)) refl
  where
    go : (j < base + count * n → Found n base j count) → (b : Bool) → nat_lt j (base + count * n) ≡ b → Found n base j (suc count)
    go before true test = let less : j < base + count * n = grind (arith, nat_tests) in let found = before less in (found.0, omega (arith, found.1), found.2, found.3)
    go before false test = let over : base + count * n ≤ j = grind (arith, nat_tests) in (count, omega arith, over, omega (arith, under, suc-mul count n))

-- records whose fields are the same
attr_made : (type bonus_type size : ℕ) (bonus : List ℕ) (spill : Option (List ℕ)) (b : Attr) → type ≡ b.type_ → bonus_type ≡ b.bonus_type → size ≡ b.block_size → bonus ≡ b.bonus → spill ≡ b.spill
    → record { type_ = type; bonus_type = bonus_type; block_size = size; bonus = bonus; spill = spill } ≡ b
attr_made type bonus_type size bonus spill b e0 e1 e2 e3 e4 = rw (e0, e1, e2, e3, e4) refl

object_made : (attr : Attr) (blocks : ℕ → Block) (b : Object) → attr ≡ b.attr → blocks ≡ b.blocks → record { attr = attr; blocks = blocks } ≡ b
object_made attr blocks b e0 e1 = rw (e0, e1) refl

pub dated_made : (state : State) (dates : ℕ → ℕ) (all : ℕ → ℕ → ℕ) (b : DatedState) → state ≡ b.state → dates ≡ b.number_date → all ≡ b.index_date → record { state = state; number_date = dates; index_date = all } ≡ b
dated_made state dates all b e0 e1 e2 = rw (e0, e1, e2) refl

-- a kind of 3 or 4 is that of no flat pointer
flat_kind : (kind : ℕ) (test : Bool) → ((kind == 0) || (kind == 2)) ≡ true → kind ≡ (if test then 3 else 4) → ⊥
flat_kind kind true flat is = let e : ((3 == 0) || (3 == 2)) ≡ true = subst (λ (n : ℕ). ((n == 0) || (n == 2)) ≡ true) is flat in false≢true e
flat_kind kind false flat is = let e : ((4 == 0) || (4 == 2)) ≡ true = subst (λ (n : ℕ). ((n == 0) || (n == 2)) ≡ true) is flat in false≢true e

pub hole_kind : (kind : ℕ) (test : Bool) → kind ≡ 0 → kind ≡ (if test then 3 else 4) → ⊥
hole_kind kind true hole is = omega (arith, hole, is)
hole_kind kind false hole is = omega (arith, hole, is)

pub small : (k : ℕ) → is_number k ≡ true → k / 16 < 2 ^ 44
unfolding number_bound
small k number = grind (arith, nat_tests)

pub under_bound : (i : ℕ) → i < index_bound → i < 2 ^ 44
unfolding index_bound
under_bound i less = omega arith

pub no_number_at : (state : State) (k : ℕ) → IsState state → is_number k ≡ false → state k ≡ None
unfolding number_bound
no_number_at state k lawful test = ⊎_elim (λ (zero_is : k ≡ 0). ap state zero_is ∙ lawful.zero) (λ (over : 2 ^ 48 ≤ k). lawful.bounded k over) (grind (arith, nat_tests))

module _ (has : Blocks) (one : (ptr : Ptr) (a b : List ℕ) → has ptr a → has ptr b → a ≡ b) where
  Subtree-one : (level : ℕ) (ptr : Ptr) (base : ℕ) (m n : Map) → Subtree has level ptr base m → Subtree has level ptr base n → (j : ℕ) → base ≤ j → j < base + span level → m j ≡ n j
  unfolding Subtree span
  Subtree-one zero ptr base m n first second j from under =
      let same : j ≡ base = omega (arith, from, under) in rw same (first.1 ∙ sym second.1)
  Subtree-one (suc level) ptr base m n (inl first) (inl second) j from under = first.2.is j from under ∙ sym (second.2.is j from under)
  Subtree-one (suc level) ptr base m n (inl first) (inr second) j from under = absurd (flat_kind ptr.kind (any_present second.0 128) first.1 second.1.kind_is)
  Subtree-one (suc level) ptr base m n (inr first) (inl second) j from under = absurd (flat_kind ptr.kind (any_present first.0 128) second.1 first.1.kind_is)
  Subtree-one (suc level) ptr base m n (inr first) (inr second) j from under =
      let same = one ptr first.0 second.0 first.1.there second.1.there in
      let place = find (span level) base j 128 from under in
      let k = place.0 in
      Subtree-one level (child first.0 k) (base + k * span level) m n (first.2 k place.1)
      (subst (λ (bytes : List ℕ). Subtree has level (child bytes k) (base + k * span level) n) (sym same) (second.2 k place.1)) j place.2 place.3

  pub TreeIs-one : (tree : Tree) (m n : Map) → TreeIs has tree m → TreeIs has tree n → (j : ℕ) → j < 2 ^ 44 → m j ≡ n j
  TreeIs-one tree m n first second j small = first.agrees j small ∙ go (nat_lt j (span tree.levels)) refl ∙ sym (second.agrees j small)
    where
      go : (b : Bool) → nat_lt j (span tree.levels) ≡ b → first.whole j ≡ second.whole j
      go true test = let less : j < span tree.levels = grind (arith, nat_tests) in Subtree-one tree.levels tree.root 0 first.whole second.whole first.stands.below second.stands.below j (omega arith) (omega (arith, less))
      go false test = let over : span tree.levels ≤ j = grind (arith, nat_tests) in first.stands.past j over ∙ sym (second.stands.past j over)

  -- what a pointer stands for
  BlockIs-one : (ptr : Ptr) (a b : Block) → BlockIs has ptr a → BlockIs has ptr b → a ≡ b
  BlockIs-one ptr Hole Hole first second = refl
  BlockIs-one ptr Hole Redacted first second = absurd (omega (arith, first, second))
  BlockIs-one ptr Hole (Data bytes) first second = absurd (omega (arith, first, second.0))
  BlockIs-one ptr Redacted Hole first second = absurd (omega (arith, first, second))
  BlockIs-one ptr Redacted Redacted first second = refl
  BlockIs-one ptr Redacted (Data bytes) first second = absurd (omega (arith, first, second.0))
  BlockIs-one ptr (Data bytes) Hole first second = absurd (omega (arith, first.0, second))
  BlockIs-one ptr (Data bytes) Redacted first second = absurd (omega (arith, first.0, second))
  BlockIs-one ptr (Data bytes) (Data more) first second = ap Data (one ptr bytes more first.1 second.1)

  SpillIs-one : (ptr : Ptr) (a b : Option (List ℕ)) → SpillIs has ptr a → SpillIs has ptr b → a ≡ b
  SpillIs-one ptr None None first second = refl
  SpillIs-one ptr None (Some bytes) first second = absurd (omega (arith, first, second.0))
  SpillIs-one ptr (Some bytes) None first second = absurd (omega (arith, first.0, second))
  SpillIs-one ptr (Some bytes) (Some more) first second = ap (λ (b : List ℕ). Some b) (one ptr bytes more first.1 second.1)

  ObjectIs-one : (dnode : Dnode) (a b : Object) (date later : ℕ) (dates laters : ℕ → ℕ) (m n : Map) → IsObject a → IsObject b
      → ObjectIs has dnode a date dates m → ObjectIs has dnode b later laters n → (a ≡ b) × (date ≡ later) × ((i : ℕ) → i < index_bound → dates i ≡ laters i)
  ObjectIs-one dnode a b date later dates laters m n lawful lawful2 first second =
      let maps = TreeIs-one (tree_of dnode) m n first.tree second.tree in
      let attrs : a.attr ≡ b.attr = attr_made a.attr.type_ a.attr.bonus_type a.attr.block_size a.attr.bonus a.attr.spill b.attr (sym first.type_is ∙ second.type_is) (sym first.bonus_type_is ∙ second.bonus_type_is) (sym first.size_is ∙ second.size_is) (first.bonus_is ∙ sym second.bonus_is) (SpillIs-one dnode.spill a.attr.spill b.attr.spill first.spill_is second.spill_is) in
      let blocks : a.blocks ≡ b.blocks = fun_ext (λ i. block i (nat_lt i index_bound) refl maps) in
      (object_made a.attr a.blocks b attrs blocks, sym first.date_is ∙ second.date_is, λ i less. sym (first.index_dates i less) ∙ ap (λ (p : Ptr). p.number) (maps i (under_bound i less)) ∙ second.index_dates i less)
    where
      block : (i : ℕ) (test : Bool) → nat_lt i index_bound ≡ test → ((j : ℕ) → j < 2 ^ 44 → m j ≡ n j) → a.blocks i ≡ b.blocks i
      block i true test maps =
          let less : i < index_bound = grind (arith, nat_tests) in
          BlockIs-one (n i) (a.blocks i) (b.blocks i) (subst (λ (p : Ptr). BlockIs has p (a.blocks i)) (maps i (under_bound i less)) (first.blocks i less)) (second.blocks i less)
      block i false test maps = let over : index_bound ≤ i = grind (arith, nat_tests) in lawful.bounded i over ∙ sym (lawful2.bounded i over)

  -- an object that is absent for the one state is absent for the other
  slot_one : (a b : DatedState) (k : ℕ) (slot : Slot) → IsState a.state → IsState b.state → SlotIs has a k slot → SlotIs has b k slot
      → (a.state k ≡ b.state k) × (a.number_date k ≡ b.number_date k) × ((i : ℕ) → i < index_bound → a.index_date k i ≡ b.index_date k i)
  slot_one a b k (Absent date) lawful lawful2 first second =
      (first.none ∙ sym second.none, first.date_is ∙ sym second.date_is, λ i less. first.dates i less ∙ sym (second.dates i less))
  slot_one a b k (There dnode) lawful lawful2 first second =
      let both = ObjectIs-one dnode first.object second.object (a.number_date k) (b.number_date k) (a.index_date k) (b.index_date k) first.map second.map
      (subst IsObjectOrNone first.there (lawful.objects k)) (subst IsObjectOrNone second.there (lawful2.objects k)) first.is second.is in
      (first.there ∙ ap (λ (o : Object). Some o) both.0 ∙ sym second.there, both.1, both.2)

  -- one number, as a leaf tells it
  leaf_one : (a b : DatedState) (j s : ℕ) (ptr : Ptr) → s < 16 → is_number (16 * j + s) ≡ true → IsState a.state → IsState b.state → LeafIs has a j ptr → LeafIs has b j ptr
      → (a.state (16 * j + s) ≡ b.state (16 * j + s)) × (a.number_date (16 * j + s) ≡ b.number_date (16 * j + s)) × ((i : ℕ) → i < index_bound → a.index_date (16 * j + s) i ≡ b.index_date (16 * j + s) i)
  leaf_one a b j s ptr less number lawful lawful2 (inl first) (inl second) =
      slot_one a b (16 * j + s) (Absent ptr.number) lawful lawful2 (first.absent s less number) (second.absent s less number)
  leaf_one a b j s ptr less number lawful lawful2 (inl first) (inr second) = absurd (hole_kind ptr.kind (any_there second.slots 16) first.kind second.names.kind)
  leaf_one a b j s ptr less number lawful lawful2 (inr first) (inl second) = absurd (hole_kind ptr.kind (any_there first.slots 16) second.kind first.names.kind)
  leaf_one a b j s ptr less number lawful lawful2 (inr first) (inr second) =
      let bytes = one ptr first.bytes second.bytes first.names.there second.names.there in
      let same = slot_bytes-unique (first.slots s) (second.slots s) (first.names.spells.fits s less) (second.names.spells.fits s less)
      (sym (first.names.spells.spelled s less) ∙ ap (λ (xs : List ℕ). bytes_at xs (512 * s) 512) bytes ∙ second.names.spells.spelled s less) in
      slot_one a b (16 * j + s) (first.slots s) lawful lawful2 (first.slots_are.numbers s less number) (subst (SlotIs has b (16 * j + s)) (sym same) (second.slots_are.numbers s less number))

  -- one number
  number_one : (set : ObjSet) (a b : DatedState) → SetHolds has set a → SetHolds has set b → (k : ℕ) → is_number k ≡ true
      → (a.state k ≡ b.state k) × (a.number_date k ≡ b.number_date k) × ((i : ℕ) → i < index_bound → a.index_date k i ≡ b.index_date k i)
  number_one set a b first second k number =
      let split : 16 * (k / 16) + k % 16 ≡ k = omega arith in
      let less : k / 16 < 2 ^ 44 = small k number in
      let maps = TreeIs-one set.tree first.map second.map first.tree second.tree (k / 16) less in
      subst (λ (x : ℕ). (a.state x ≡ b.state x) × (a.number_date x ≡ b.number_date x) × ((i : ℕ) → i < index_bound → a.index_date x i ≡ b.index_date x i)) split
      (leaf_one a b (k / 16) (k % 16) (second.map (k / 16)) (omega arith) (subst (λ (x : ℕ). is_number x ≡ true) (sym split) number) first.lawful second.lawful
      (subst (LeafIs has a (k / 16)) maps (first.leaves (k / 16) less)) (second.leaves (k / 16) less))

  abbrev Numbers : DatedState → DatedState → Type 0
  Numbers a b = (k : ℕ) → is_number k ≡ true → (a.state k ≡ b.state k) × (a.number_date k ≡ b.number_date k) × ((i : ℕ) → i < index_bound → a.index_date k i ≡ b.index_date k i)

  state_at : (set : ObjSet) (a b : DatedState) → SetHolds has set a → SetHolds has set b → (k : ℕ) (test : Bool) → is_number k ≡ test → Numbers a b → a.state k ≡ b.state k
  state_at set a b first second k true number all = (all k number).0
  state_at set a b first second k false number all = no_number_at a.state k first.lawful number ∙ sym (no_number_at b.state k second.lawful number)

  date_at : (set : ObjSet) (a b : DatedState) → SetHolds has set a → SetHolds has set b → (k : ℕ) (test : Bool) → is_number k ≡ test → Numbers a b → a.number_date k ≡ b.number_date k
  date_at set a b first second k true number all = (all k number).1
  date_at set a b first second k false number all = first.bounded.no_number k number ∙ sym (second.bounded.no_number k number)

  index_at : (set : ObjSet) (a b : DatedState) → SetHolds has set a → SetHolds has set b → (k i : ℕ) (test within : Bool) → is_number k ≡ test → nat_lt i index_bound ≡ within → Numbers a b → a.index_date k i ≡ b.index_date k i
  index_at set a b first second k i false within number less all = first.bounded.no_numbers_index k i number ∙ sym (second.bounded.no_numbers_index k i number)
  index_at set a b first second k i true true number less all = let below : i < index_bound = grind (arith, nat_tests) in (all k number).2 i below
  index_at set a b first second k i true false number less all = let over : index_bound ≤ i = grind (arith, nat_tests) in first.bounded.no_index k i over ∙ sym (second.bounded.no_index k i over)

  pub SetHolds-one : (set : ObjSet) (a b : DatedState) → SetHolds has set a → SetHolds has set b → a ≡ b
  SetHolds-one set a b first second =
      let one_number = number_one set a b first second in
      dated_made a.state a.number_date a.index_date b
      (fun_ext (λ k. state_at set a b first second k (is_number k) refl one_number))
      (fun_ext (λ k. date_at set a b first second k (is_number k) refl one_number))
      (fun_ext (λ k. fun_ext (λ i. index_at set a b first second k i (is_number k) (nat_lt i index_bound) refl refl one_number)))
