-- What comes of comparing two slots of one number.
use Rattle.std.proofs.Common.{◌≡◌, inl, inr, ⊎_elim, ℕ, ◌^◌, ◌≤◌, Bool, true, false, List, take, refl, sym, ◌∙◌, ap, arith, ◌&&◌, nat_le}
use Rattle.std.specs.Prelude.{◌↔◌, Option, None, Some, IsTrue}
use Rattle.std.proofs.lemmas.Bool.{and_parts, false≢true, leb-true}
use Rattle.zst_block.specs.Ptr.{hole_of, is_flat}
use Rattle.zst_block.specs.declared.ptr.Ptr.{Ptr}
use Rattle.zst_dnode.specs.declared.dnode.Dnode.{Dnode}
use Rattle.zst_dnode.specs.declared.slot.Slot.{Slot}
use Rattle.zst_dnode.specs.declared.slot.Slot.TheVariants.{Absent, There}
use Rattle.zst_model.specs.declared.states.attr.Attr.{Attr}
use Rattle.zst_model.specs.states.State.{IsState, attr_at, content_at, index_bound, is_block_size, largest_block}
use Rattle.zst_model.specs.states.DatedState.{DatedState}
use Rattle.zst_objset.specs.Damage.{TellsWithin}
use Rattle.zst_objset.specs.Dnodes.{IsThere, SlotIs}
use Rattle.zst_tree.specs.Damage.{HangsBelow, MayHave}
use Rattle.zst_tree.specs.Indices.{Blocks}
use Rattle.zst_tree.proofs.Damage.{Reaches-flat}
use Rattle.zst_compare.specs.Agreement.{Compares, DiffersIn, NumberKept, NumberOther}
use Rattle.zst_compare.specs.Contents.{ComparesAll, HasContents, indices_at}
use Rattle.zst_compare.specs.Damage.{IsDamagedIndex, IsDamagedInSlot, IsDamagedSpill}
use Rattle.zst_compare.proofs.Contents.{contents_absent, contents_there}

-- two dnodes have the same types, block size and bonus
abbrev pub SameHead : Dnode → Dnode → Type 0
SameHead later earlier = (earlier.type_ ≡ later.type_) × (earlier.bonus_type ≡ later.bonus_type) × (earlier.block_size ≡ later.block_size)
    × (take earlier.bonus_len earlier.bonus ≡ take later.bonus_len later.bonus)

-- records whose fields are the same
attr_made : (type bonus_type size : ℕ) (bonus : List ℕ) (spill : Option (List ℕ)) (b : Attr) → type ≡ b.type_ → bonus_type ≡ b.bonus_type → size ≡ b.block_size → bonus ≡ b.bonus → spill ≡ b.spill
    → record { type_ = type; bonus_type = bonus_type; block_size = size; bonus = bonus; spill = spill } ≡ b
attr_made type bonus_type size bonus spill b e0 e1 e2 e3 e4 = rw (e0, e1, e2, e3, e4) refl

-- equal objects' attributes, out of their options
some_is : (one other : Attr) → Some one ≡ Some other → one ≡ other
some_is one other same = cc

module _ (has : Blocks) (was now : DatedState) (k : ℕ) (later earlier : Dnode) (first : IsThere has now k later) (second : IsThere has was k earlier) where
  -- of what the states have
  attrs_same : attr_at (was.state k) ≡ attr_at (now.state k) → second.object.attr ≡ first.object.attr
  attrs_same same = some_is second.object.attr first.object.attr (sym (ap attr_at second.there) ∙ (same ∙ ap attr_at first.there))

  -- the same head and the same spill make the same attributes
  spills_make : SameHead later earlier → second.object.attr.spill ≡ first.object.attr.spill → attr_at (was.state k) ≡ attr_at (now.state k)
  spills_make head spill =
      let a = second.object.attr in
      let b = first.object.attr in
      let attrs : a ≡ b = attr_made a.type_ a.bonus_type a.block_size a.bonus a.spill b (sym second.is.type_is ∙ (head.0 ∙ first.is.type_is)) (sym second.is.bonus_type_is ∙ (head.1 ∙ first.is.bonus_type_is))
      (sym second.is.size_is ∙ (head.2 ∙ first.is.size_is)) (second.is.bonus_is ∙ (head.3 ∙ sym first.is.bonus_is)) spill in
      ap attr_at second.there ∙ (ap (λ (c : Attr). Some c) attrs ∙ sym (ap attr_at first.there))

  -- where the heads are the same, the attributes are where the spills are
  pub same_spills : SameHead later earlier → (second.object.attr.spill ≡ first.object.attr.spill) ↔ (attr_at (was.state k) ≡ attr_at (now.state k))
  same_spills head = (spills_make head, λ same. ap (λ (a : Attr). a.spill) (attrs_same same))

-- an object of the same date is another where its attributes are
pub same_date : (has : Blocks) (number : ℕ) (was now : DatedState) (k : ℕ) (later earlier : Dnode) → IsThere has now k later → IsThere has was k earlier → later.date ≤ number → earlier.date ≡ later.date → (same : Bool)
    → (IsTrue same ↔ (attr_at (was.state k) ≡ attr_at (now.state k))) → (IsTrue same → NumberKept number was now k) × ((IsTrue same → ⊥) → NumberOther number was now k)
same_date has number was now k later earlier first second early date same is = (
  λ agree dated. (is.0 agree, sym second.is.date_is ∙ (date ∙ first.is.date_is)),
  λ apart. record { dated = omega (arith, early, first.is.date_is); other = λ both. apart (is.1 both.0) },
)

-- the indices of a slot's number have its contents
pub contents_in : (has : Blocks) (snap : DatedState) (k : ℕ) (slot : Slot) → IsState snap.state → SlotIs has snap k slot → HasContents has (indices_at slot) (content_at (snap.state k)) (snap.index_date k)
contents_in has snap k (Absent date) lawful is = contents_absent has snap k date is
contents_in has snap k (There dnode) lawful is = contents_there has snap k dnode lawful is

-- a number that is another differs in the block that stands for it
pub number_differs : (number : ℕ) (was now : DatedState) (k block : ℕ) → block ≡ 2 ^ 43 → NumberOther number was now k → DiffersIn number was now k block
unfolding index_bound
number_differs number was now k block is other = inl (is, other)

-- what comes of comparing the indices of a number that is kept
pub compares_on : (number : ℕ) (was now : DatedState) (k : ℕ) (found : Option ℕ) → NumberKept number was now k
    → ComparesAll number (content_at (was.state k)) (was.index_date k) (content_at (now.state k)) (now.index_date k) found → Compares number was now k found
compares_on number was now k None kept all = record { number_kept = kept; indices_kept = λ i small. all i (omega arith) small small }
compares_on number was now k (Some index) kept other = inr other

module _ (images : List ℕ → Type 0) (size : ℕ) where
  -- no data hang below the hole of an absent number
  absent_block : (date : ℕ) (ptr : Ptr) → HangsBelow (MayHave images) 0 (hole_of date) ptr → is_flat ptr ≡ false → ⊥
  unfolding HangsBelow
  absent_block date ptr hangs some = false≢true (sym some ∙ ap is_flat hangs)

  -- what is told of the indices of a slot's number is told of the slot; of an absent one nothing is
  pub index_up : (slot : Slot) → TellsWithin (IsDamagedIndex images size (indices_at slot)) (IsDamagedInSlot images size slot)
  index_up (Absent date) = λ sector stated found told.
      ⊎_elim (λ node. Reaches-flat (MayHave images) 0 (hole_of date) node.at node.ptr refl node.reached) (λ block. absent_block date block.ptr block.hangs block.damaged.some) told
  index_up (There dnode) = λ sector stated found told. inr told

  -- what is told of an object's spill is told of its slot
  pub spill_up : (dnode : Dnode) → TellsWithin (IsDamagedSpill images size dnode.spill) (IsDamagedInSlot images size (There dnode))
  spill_up dnode = λ sector stated found told. inl told

-- a block size is at most that of the largest block
pub size_most : (size : ℕ) → is_block_size size ≡ true → size ≤ 131072
unfolding is_block_size largest_block
size_most size is =
    let both = (and_parts (nat_le 512 size && nat_le size 131072) _ is).0 in
    leb-true size 131072 (and_parts (nat_le 512 size) (nat_le size 131072) both).1
