-- What a set holds it holds where sectors become free that it doesn't reach.
use Rattle.std.specs.Prelude.{Option, Some, None}
use Rattle.std.proofs.Common.{◌≡◌, inl, inr, ℕ, zero, suc, ◌+◌, ◌-◌, ◌*◌, ◌/◌, ◌^◌, ◌<◌, ◌≤◌, Bool, true, false, List, refl, sym, ◌∙◌, ap, subst, arith, if◌then◌else◌}
use Rattle.std.proofs.lemmas.Bool.{cases_lt, false≢true}
use Rattle.std.proofs.lemmas.Nat.{div-add-mod', mod_below}
use Rattle.zst_space.specs.FreeSectors.{FreeSectors, IsFree}
use Rattle.zst_block.specs.Blocks.{Has, IsBlock}
use Rattle.zst_block.specs.Ptr.{is_flat, is_lawful}
use Rattle.zst_block.specs.declared.ptr.Ptr.{Ptr}
use Rattle.zst_dnode.specs.declared.dnode.Dnode.{Dnode}
use Rattle.zst_dnode.specs.declared.slot.Slot.{Slot}
use Rattle.zst_dnode.specs.declared.slot.Slot.TheVariants.{Absent, There}
use Rattle.zst_model.specs.sends.Inclusion.{Pairs}
use Rattle.zst_model.specs.states.State.{Block, Hole, Redacted, Data, Object}
use Rattle.zst_model.specs.states.DatedState.{DatedState}
use Rattle.zst_tree.specs.Indices.{Blocks, Map, Subtree, TreeIs, child, span}
use Rattle.zst_tree.specs.declared.tree.Tree.{Tree}
use Rattle.zst_tree.specs.declared.tree.ObjSet.{ObjSet}
use Rattle.zst_tree.proofs.Span.{span-pos, span-suc, span_zero}
use Rattle.zst_tree.proofs.SubtreeCases.{flat_kind, node_flat}
use Rattle.zst_objset.specs.Dnodes.{BlockIs, ObjectIn, SlotIn, SpillIs, outside, read_unless, tree_of}
use Rattle.zst_objset.specs.Sets.{LeafIn, LeafIs, SetHolds, SetHoldsBut, SetIn}
use Rattle.zst_objset.specs.TightSets.{SetIsTight}
use Rattle.zst_objset.proofs.OneState.{under_bound}
use Rattle.zst_objset.proofs.TightLaws.{SetIsTight-of, TreeIs-lawful, no_block}
use Rattle.zst_reach.specs.Reached.{IsOf, ReachesBlock, ReachesSector}
use Rattle.zst_reach.specs.ReachedSets.{ReachesInDnode, ReachesInSet, ReachesInSlot, StandsAt}
use Rattle.zst_reach.proofs.ReachedLaws.{reach_child, reach_here}

-- the child below which an index stands
record Child (width base index : ℕ) : Type 0 where
  pub k : ℕ
  pub less : k < 128
  pub low : base + k * width ≤ index
  pub high : index < base + k * width + width

child_of : (width base index : ℕ) → 0 < width → base ≤ index → index < base + 128 * width → Child width base index
child_of width base index pos from under =
    let offset = index - base in
    let parts = div-add-mod' offset width in
    let rest = mod_below offset width pos in
    let few : offset < 128 * width = omega (arith, from, under) in
    record {
      k = offset / width;
      less = grind (arith, parts, few, pos);
      low = omega (arith, parts, from);
      high = omega (arith, parts, rest, from);
    }

-- of the sectors that are reached so, each that is free in more is free in the other space too
abbrev pub FreeBefore : (space more : FreeSectors) → (reached : ℕ → Type 0) → Type 0
FreeBefore space more reached = (sector : ℕ) → reached sector → IsFree more sector → IsFree space sector

module _ (image : List ℕ) (space more : FreeSectors) where
  -- a block stands as well where none of its sectors became free
  pub Has-kept : (ptr : Ptr) (bytes : List ℕ) → Has image space ptr bytes → FreeBefore space more (IsOf ptr) → Has image more ptr bytes
  Has-kept ptr bytes has before = record {
    block = has.block;
    behind = has.behind;
    taken = λ byte starts ends free. has.taken byte starts ends (before (byte / 512) (omega (arith, starts), omega (arith, ends)) free);
  }

  pub Subtree-kept : (level : ℕ) (ptr : Ptr) (base : ℕ) (map : Map) → Subtree (Has image space) level ptr base map → FreeBefore space more (ReachesSector (IsBlock image) level ptr) → Subtree (Has image more) level ptr base map
  unfolding Subtree
  Subtree-kept zero ptr base map is before = is
  Subtree-kept (suc level) ptr base map (inl flat) before = inl flat
  Subtree-kept (suc level) ptr base map (inr (bytes, node, below)) before =
      let inner = node_flat (Has image space) (suc level) ptr bytes node in
      let same : suc level - 1 ≡ level = omega arith in
      inr (
        bytes,
        record { there = Has-kept ptr bytes node.there (λ sector is. before sector (reach_here (IsBlock image) (suc level) ptr sector inner is)); pointers = node.pointers; level_is = node.level_is; kind_is = node.kind_is; number_is = node.number_is },
        λ k less. Subtree-kept level (child bytes k) (base + k * span level) map (below k less)
            (λ sector reached. before sector (reach_child (IsBlock image) (suc level) ptr bytes k sector (omega arith) inner node.there.block less (rw same reached))),
      )

  pub TreeIs-kept : (tree : Tree) (map : Map) → TreeIs (Has image space) tree map → FreeBefore space more (ReachesSector (IsBlock image) tree.levels tree.root) → TreeIs (Has image more) tree map
  TreeIs-kept tree map is before = record {
    whole = is.whole;
    stands = record { below = Subtree-kept tree.levels tree.root 0 is.whole is.stands.below before; past = is.stands.past };
    agrees = is.agrees;
  }

  -- the leaf of an index, where it isn't flat, is reached, and stands there
  record Leaf (level : ℕ) (ptr : Ptr) (base index : ℕ) (leaf : Ptr) : Type 0 where
    pub reached : ReachesBlock (IsBlock image) level ptr leaf
    pub stands : StandsAt (IsBlock image) level ptr base index leaf

  leaf_reached : (level : ℕ) (ptr : Ptr) (base : ℕ) (map : Map) (index : ℕ) → Subtree (Has image space) level ptr base map → base ≤ index → index < base + span level → is_flat (map index) ≡ false → Leaf level ptr base index (map index)
  unfolding Subtree ReachesBlock StandsAt
  leaf_reached zero ptr base map index is from under some =
      let here : index ≡ base = omega (arith, from, under, span_zero) in
      let same : map index ≡ ptr = ap map here ∙ is.1 in
      record { reached = (subst (λ (p : Ptr). is_flat p ≡ false) same some, same); stands = (here, same) }
  leaf_reached (suc level) ptr base map index (inl flat) from under some =
      absurd (false≢true (sym some ∙ ap is_flat (flat.2.is index from under) ∙ flat.1))
  leaf_reached (suc level) ptr base map index (inr (bytes, node, below)) from under some =
      let inner = node_flat (Has image space) (suc level) ptr bytes node in
      let at = child_of (span level) base index (span-pos level) from (rw (span-suc level) at under) in
      let k = at.k in
      let less = at.less in
      let low = at.low in
      let high = at.high in
      let lower = leaf_reached level (child bytes k) (base + k * span level) map index (below k less) low high some in
      record { reached = (inner, inr (bytes, node.there.block, k, less, lower.reached)); stands = (inner, (bytes, node.there.block, k, less, lower.stands)) }

  -- in a tree
  tree_leaf : (tree : Tree) (map : Map) (index : ℕ) → TreeIs (Has image space) tree map → index < 2 ^ 44 → is_flat (map index) ≡ false → Leaf tree.levels tree.root 0 index (map index)
  tree_leaf tree map index is small some = elim (cases_lt index (span tree.levels)) [
    | inl under ↦ rw (is.agrees index small) (leaf_reached tree.levels tree.root 0 is.whole index is.stands.below (omega arith) (omega (arith, under)) (subst (λ (p : Ptr). is_flat p ≡ false) (is.agrees index small) some))
    | inr past ↦ absurd (false≢true (sym some ∙ ap is_flat (is.agrees index small ∙ is.stands.past index past)))
  ]

  pub kind_one : (ptr : Ptr) → ptr.kind ≡ 1 → is_flat ptr ≡ false
  kind_one ptr is = rw is refl

  spill_kept : (ptr : Ptr) (spill : Option (List ℕ)) → FreeBefore space more (ReachesSector (IsBlock image) 0 ptr) → SpillIs (Has image space) ptr spill → SpillIs (Has image more) ptr spill
  spill_kept ptr None before is = is
  spill_kept ptr (Some bytes) before is = (is.0, Has-kept ptr bytes is.1 (λ sector of. before sector (reach_here (IsBlock image) 0 ptr sector (kind_one ptr is.0) of)))

  leaf_flat : (ptr : Ptr) (there : Bool) → ptr.kind ≡ (if there then 3 else 4) → is_flat ptr ≡ false
  leaf_flat ptr true is = flat_kind ptr (inl is)
  leaf_flat ptr false is = flat_kind ptr (inr is)

  block_kept : (read later : Blocks) (tree : Tree) (map : Map) (index : ℕ) (block : Block) → TreeIs (Has image space) tree map → index < 2 ^ 44 → FreeBefore space more (ReachesSector (IsBlock image) tree.levels tree.root)
      → ((ptr : Ptr) (bytes : List ℕ) → read ptr bytes → FreeBefore space more (IsOf ptr) → later ptr bytes) → BlockIs read (map index) block → BlockIs later (map index) block
  block_kept read later tree map index Hole is small before stays block = block
  block_kept read later tree map index Redacted is small before stays block = block
  block_kept read later tree map index (Data bytes) is small before stays block =
      let leaf = tree_leaf tree map index is small (kind_one (map index) block.0) in
      (block.0, stays (map index) bytes block.1 (λ sector of. before sector (record { found = map index; reached = leaf.reached; is_of = of })))

  -- what is read of data is read of them later too, where none of their sectors became free
  abbrev StaysRead : (reads later : ℕ → ℕ → Blocks) → Type 0
  StaysRead reads later = (k i : ℕ) (ptr : Ptr) (bytes : List ℕ) → reads k i ptr bytes → FreeBefore space more (IsOf ptr) → later k i ptr bytes

-- a set of whose data only some are read
module _ (image : List ℕ) (space more : FreeSectors) (reads later : ℕ → ℕ → Blocks) (stays : StaysRead image space more reads later) where
  object_kept : (k : ℕ) (dnode : Dnode) (object : Object) (date : ℕ) (dates : ℕ → ℕ) (map : Map) → FreeBefore space more (ReachesInDnode (IsBlock image) dnode) → ObjectIn (Has image space) (reads k) dnode object date dates map → ObjectIn (Has image more) (later k) dnode object date dates map
  object_kept k dnode object date dates map before is = record {
    type_is = is.type_is;
    bonus_type_is = is.bonus_type_is;
    size_is = is.size_is;
    bonus_is = is.bonus_is;
    date_is = is.date_is;
    end_is = is.end_is;
    spill_is = spill_kept image space more dnode.spill object.attr.spill (λ sector reached. before sector (inr reached)) is.spill_is;
    tree = TreeIs-kept image space more (tree_of dnode) map is.tree (λ sector reached. before sector (inl reached));
    blocks = λ i less. block_kept image space more (reads k i) (later k i) (tree_of dnode) map i (object.blocks i) is.tree (under_bound i less) (λ sector reached. before sector (inl reached)) (stays k i) (is.blocks i less);
    index_dates = is.index_dates;
  }

  slot_kept : (snap : DatedState) (k : ℕ) (slot : Slot) → FreeBefore space more (ReachesInSlot (IsBlock image) slot) → SlotIn (Has image space) reads snap k slot → SlotIn (Has image more) later snap k slot
  slot_kept snap k (Absent date) before is = is
  slot_kept snap k (There dnode) before is = record { object = is.object; there = is.there; map = is.map; is = object_kept k dnode is.object (snap.number_date k) (snap.index_date k) is.map before is.is }

  leaf_kept : (set : ObjSet) (snap : DatedState) (j : ℕ) (map : Map) → j < 2 ^ 44 → TreeIs (Has image space) set.tree map → FreeBefore space more (ReachesInSet (IsBlock image) set) → LeafIn (Has image space) reads snap j (map j) → LeafIn (Has image more) later snap j (map j)
  leaf_kept set snap j map small tree before (inl hole) = inl hole
  leaf_kept set snap j map small tree before (inr leaf) =
      let some = leaf_flat image space more (map j) _ leaf.names.kind in
      let at = tree_leaf image space more set.tree map j tree small some in
      inr (record {
        bytes = leaf.bytes;
        slots = leaf.slots;
        names = record {
          there = Has-kept image space more (map j) leaf.bytes leaf.names.there (λ sector of. before sector (inl (record { found = map j; reached = at.reached; is_of = of })));
          kind = leaf.names.kind;
          level = leaf.names.level;
          number = leaf.names.number;
          spells = leaf.names.spells;
        };
        slots_are = record {
          numbers = λ s less number. slot_kept snap (16 * j + s) (leaf.slots s)
              (λ sector reached. before sector (inr (record {
                leaf = map j;
                index = j;
                small = small;
                stands = at.stands;
                some = some;
                inside = record {
                  bytes = leaf.bytes;
                  there = leaf.names.there.block;
                  place = s;
                  under = less;
                  slot = leaf.slots s;
                  stands = record { fits = leaf.names.spells.fits s less; spelled = leaf.names.spells.spelled s less };
                  reached = reached;
                };
              }))) (leaf.slots_are.numbers s less number);
          no_number = leaf.slots_are.no_number;
        };
      })

  SetIn-kept : (set : ObjSet) (snap : DatedState) → FreeBefore space more (ReachesInSet (IsBlock image) set) → SetIn (Has image space) reads set snap → SetIn (Has image more) later set snap
  SetIn-kept set snap before holds = record {
    lawful = holds.lawful;
    bounded = holds.bounded;
    levels = holds.levels;
    map = holds.map;
    tree = TreeIs-kept image space more set.tree holds.map holds.tree (λ sector reached. before sector (inl reached));
    leaves = λ j less. leaf_kept set snap j holds.map less holds.tree before (holds.leaves j less);
  }

module _ (image : List ℕ) (space more : FreeSectors) where
  -- all of them are read
  pub SetHolds-kept : (set : ObjSet) (snap : DatedState) → FreeBefore space more (ReachesInSet (IsBlock image) set) → SetHolds (Has image space) set snap → SetHolds (Has image more) set snap
  SetHolds-kept = SetIn-kept image space more (λ k i. Has image space) (λ k i. Has image more) (λ k i. Has-kept image space more)

  -- all but those of some pairs
  unless_kept : (unread : Bool) (ptr : Ptr) (bytes : List ℕ) → read_unless unread (Has image space) ptr bytes → FreeBefore space more (IsOf ptr) → read_unless unread (Has image more) ptr bytes
  unless_kept true ptr bytes has before = tt
  unless_kept false ptr bytes has before = Has-kept image space more ptr bytes has before

  pub SetHoldsBut-kept : (pairs : Pairs) (set : ObjSet) (snap : DatedState) → FreeBefore space more (ReachesInSet (IsBlock image) set) → SetHoldsBut (Has image space) pairs set snap → SetHoldsBut (Has image more) pairs set snap
  SetHoldsBut-kept pairs = SetIn-kept image space more (outside pairs (Has image space)) (outside pairs (Has image more)) (λ k i. unless_kept (pairs k i))

  -- a tight set stays tight
  pub SetIsTight-kept : (set : ObjSet) (snap : DatedState) → FreeBefore space more (ReachesInSet (IsBlock image) set) → SetIsTight (Has image space) set snap → SetIsTight (Has image more) set snap
  SetIsTight-kept set snap before tight =
      let holds = tight.holds in
      SetIsTight-of image more set snap holds.map (SetHolds-kept set snap before holds) (TreeIs-kept image space more set.tree holds.map holds.tree (λ sector reached. before sector (inl reached)))
      (λ j less bytes held there spells s small. tight.tight j less bytes held (there_before j less (holds.leaves j less) (TreeIs-lawful (Has image space) set.tree holds.map holds.tree j less) bytes there) spells s small) tight.tells
    where
      there_before : (j : ℕ) → j < 2 ^ 44 → LeafIs (Has image space) snap j (tight.holds.map j) → is_lawful (tight.holds.map j) ≡ true → (bytes : List ℕ) → Has image more (tight.holds.map j) bytes → Has image space (tight.holds.map j) bytes
      there_before j less (inl hole) lawful bytes there = absurd (no_block image more (tight.holds.map j) bytes hole.kind lawful there)
      there_before j less (inr leaf) lawful bytes there =
          subst (λ (b : List ℕ). Has image space (tight.holds.map j) b) (sym leaf.names.there.block.bytes_are ∙ there.block.bytes_are) leaf.names.there
