-- What leaves that two sets share say of the numbers of both.
use Rattle.std.proofs.Common.{◌≡◌, inl, inr, ℕ, ◌+◌, ◌*◌, ◌/◌, ◌%◌, ◌^◌, ◌<◌, true, List, refl, sym, ◌∙◌, ap, subst, arith}
use Rattle.std.specs.Prelude.{Option, None, Some}
use Rattle.zst_bytes.specs.Bytes.{bytes_at}
use Rattle.zst_block.specs.declared.ptr.Ptr.{Ptr}
use Rattle.zst_dnode.specs.declared.slot.Slot.{Slot}
use Rattle.zst_dnode.specs.declared.slot.Slot.TheVariants.{Absent, There}
use Rattle.zst_dnode.proofs.Slots.{slot_bytes-unique}
use Rattle.zst_model.specs.declared.states.attr.Attr.{Attr}
use Rattle.zst_model.specs.states.State.{Content, Empty, BytesOf, RedactedOf, IsState, attr_at, content_at, is_number, index_bound}
use Rattle.zst_model.specs.states.DatedState.{DatedState}
use Rattle.zst_tree.specs.Indices.{Blocks}
use Rattle.zst_tree.specs.declared.tree.ObjSet.{ObjSet}
use Rattle.zst_objset.specs.Dnodes.{SlotIs, SpillIs}
use Rattle.zst_objset.specs.Sets.{any_there, LeafIs, SetHolds}
use Rattle.zst_objset.proofs.OneState.{SetHolds-one, TreeIs-one, hole_kind, small, under_bound}
use Rattle.zst_compare.specs.Agreement.{AgreeBetween, AgreesAt, AgreesUpTo}
use Rattle.zst_compare.specs.Contents.{Alike, ContentIs, HasContents, indices_in}
use Rattle.zst_compare.specs.declared.trees.Indices.{Indices}
use Rattle.zst_compare.proofs.Contents.{both_holes, both_redacted, contents_there}
use Rattle.zst_compare.proofs.Holes.{absent_kept}

-- attributes whose fields are the same
attr_made : (type bonus_type size : ℕ) (bonus : List ℕ) (spill : Option (List ℕ)) (b : Attr) → type ≡ b.type_ → bonus_type ≡ b.bonus_type → size ≡ b.block_size → bonus ≡ b.bonus → spill ≡ b.spill
    → record { type_ = type; bonus_type = bonus_type; block_size = size; bonus = bonus; spill = spill } ≡ b
attr_made type bonus_type size bonus spill b e0 e1 e2 e3 e4 = rw (e0, e1, e2, e3, e4) refl

module _ (has : Blocks) (one : (ptr : Ptr) (a b : List ℕ) → has ptr a → has ptr b → a ≡ b) where
  -- a pointer stands for one content
  content_one : (size : ℕ) (ptr : Ptr) (a b : Content) → ContentIs has size ptr a → ContentIs has size ptr b → a ≡ b
  content_one size ptr Empty b first second = both_holes has size size ptr ptr b Empty first first second first
  content_one size ptr (RedactedOf bytes) b first second = both_redacted has size size ptr ptr b (RedactedOf bytes) refl first.0 first.0 second first
  content_one size ptr (BytesOf bytes) (BytesOf more) first second = ap BytesOf (one ptr bytes more first.1 second.1)
  content_one size ptr (BytesOf bytes) Empty first second = absurd (omega (arith, first.0, second))
  content_one size ptr (BytesOf bytes) (RedactedOf more) first second = absurd (omega (arith, first.0, second.0))

  -- and for one spill
  spill_one : (ptr : Ptr) (a b : Option (List ℕ)) → SpillIs has ptr a → SpillIs has ptr b → a ≡ b
  spill_one ptr None None first second = refl
  spill_one ptr None (Some bytes) first second = absurd (omega (arith, first, second.0))
  spill_one ptr (Some bytes) None first second = absurd (omega (arith, first.0, second))
  spill_one ptr (Some bytes) (Some more) first second = ap (λ (b : List ℕ). Some b) (one ptr bytes more first.1 second.1)

  -- the indices of one tree have one content and one date each
  indices_one : (indices : Indices) (was now : ℕ → Content) (was_dates now_dates : ℕ → ℕ) → HasContents has indices was was_dates → HasContents has indices now now_dates → (i : ℕ) → i < index_bound
      → (was i ≡ now i) × (was_dates i ≡ now_dates i)
  indices_one indices was now was_dates now_dates first second i less =
      let same = TreeIs-one has one indices.tree first.map second.map first.tree second.tree i (under_bound i less) in
      let content = subst (λ (p : Ptr). ContentIs has indices.size p (was i)) same (first.contents_are i less) in
      (content_one indices.size (second.map i) (was i) (now i) content (second.contents_are i less), sym (first.dates_are i less) ∙ (ap (λ (p : Ptr). p.number) same ∙ second.dates_are i less))

  -- a number of which both states have the same slot
  slot_kept : (number : ℕ) (was now : DatedState) (k : ℕ) (slot : Slot) → IsState was.state → IsState now.state → SlotIs has was k slot → SlotIs has now k slot → AgreesAt number was now k
  slot_kept number was now k (Absent date) lawful lawful_now first second = absent_kept number was now k date date refl first second
  slot_kept number was now k (There dnode) lawful lawful_now first second =
      let a = first.object.attr in
      let b = second.object.attr in
      let same : a ≡ b = attr_made a.type_ a.bonus_type a.block_size a.bonus a.spill b (sym first.is.type_is ∙ second.is.type_is) (sym first.is.bonus_type_is ∙ second.is.bonus_type_is) (sym first.is.size_is ∙ second.is.size_is)
      (first.is.bonus_is ∙ sym second.is.bonus_is) (spill_one dnode.spill a.spill b.spill first.is.spill_is second.is.spill_is) in
      let attr : attr_at (was.state k) ≡ attr_at (now.state k) = ap attr_at first.there ∙ (ap (λ (x : Attr). Some x) same ∙ sym (ap attr_at second.there)) in
      record {
        number_kept = λ dated. (attr, sym first.is.date_is ∙ second.is.date_is);
        indices_kept = λ i less dated.
            indices_one (indices_in dnode) (content_at (was.state k)) (content_at (now.state k)) (was.index_date k) (now.index_date k) (contents_there has was k dnode lawful first) (contents_there has now k dnode lawful_now second) i less;
      }

  -- a number in a leaf for which both states have the same pointer
  leaf_kept : (number : ℕ) (was now : DatedState) (j s : ℕ) (ptr : Ptr) → s < 16 → is_number (16 * j + s) ≡ true → IsState was.state → IsState now.state → LeafIs has was j ptr → LeafIs has now j ptr
      → AgreesAt number was now (16 * j + s)
  leaf_kept number was now j s ptr less is lawful lawful_now (inl first) (inl second) =
      absent_kept number was now (16 * j + s) ptr.number ptr.number refl (first.absent s less is) (second.absent s less is)
  leaf_kept number was now j s ptr less is lawful lawful_now (inl first) (inr second) = absurd (hole_kind ptr.kind (any_there second.slots 16) first.kind second.names.kind)
  leaf_kept number was now j s ptr less is lawful lawful_now (inr first) (inl second) = absurd (hole_kind ptr.kind (any_there first.slots 16) second.kind first.names.kind)
  leaf_kept number was now j s ptr less is lawful lawful_now (inr first) (inr second) =
      let bytes = one ptr first.bytes second.bytes first.names.there second.names.there in
      let same = slot_bytes-unique (first.slots s) (second.slots s) (first.names.spells.fits s less) (second.names.spells.fits s less)
      (sym (first.names.spells.spelled s less) ∙ ap (λ (xs : List ℕ). bytes_at xs (512 * s) 512) bytes ∙ second.names.spells.spelled s less) in
      slot_kept number was now (16 * j + s) (first.slots s) lawful lawful_now (first.slots_are.numbers s less is) (subst (SlotIs has now (16 * j + s)) (sym same) (second.slots_are.numbers s less is))

  -- the numbers in the leaves that two sets share agree
  pub shared_agree : (number : ℕ) (later earlier : ObjSet) (was now : DatedState) (index reached : ℕ) (held : SetHolds has later now) (holds : SetHolds has earlier was) → Alike held.map holds.map index reached
      → AgreeBetween number was now (16 * index) (16 * reached)
  shared_agree number later earlier was now index reached held holds alike = λ k is start under.
      let split : 16 * (k / 16) + k % 16 ≡ k = omega arith in
      let less : k / 16 < 2 ^ 44 = small k is in
      let same = alike.same (k / 16) (omega (arith, start)) (omega (arith, under)) less in
      subst (AgreesAt number was now) split
      (leaf_kept number was now (k / 16) (k % 16) (holds.map (k / 16)) (omega arith) (subst (λ (n : ℕ). is_number n ≡ true) (sym split) is) holds.lawful held.lawful
      (holds.leaves (k / 16) less) (subst (LeafIs has now (k / 16)) same (held.leaves (k / 16) less)))

  -- a state that two equal sets hold agrees with itself
  pub same_agree : (number : ℕ) (later earlier : ObjSet) (was now : DatedState) → later ≡ earlier → SetHolds has later now → SetHolds has earlier was → AgreesUpTo number was now
  same_agree number later earlier was now same held holds = subst (AgreesUpTo number was) (SetHolds-one has one earlier was now holds (subst (λ (s : ObjSet). SetHolds has s now) same held)) (record {
    numbers = λ k is dated. refl;
    number_dates = λ k is dated. refl;
    indices = λ k i is less dated. refl;
    index_dates = λ k i is less dated. refl;
  })
