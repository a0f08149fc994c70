-- What stands below a pointer, put together.
use Rattle.std.proofs.Common.{◌≡◌, inl, inr, ℕ, zero, suc, ◌+◌, ◌-◌, ◌*◌, ◌<◌, ◌≤◌, List, length, true, ◌∙◌, sym, subst, arith}
use Rattle.std.proofs.Math.Nat.{mul-le-mul_right}
use Rattle.zst_block.specs.Blocks.{Has}
use Rattle.zst_block.specs.Ptr.{is_flat, is_lawful}
use Rattle.zst_block.specs.declared.ptr.Ptr.{Ptr}
use Rattle.zst_space.specs.FreeSectors.{FreeSectors}
use Rattle.zst_tree.specs.Indices.{Blocks, Map, span, child, greatest, kind_over, IsNode, Same, Subtree}
use Rattle.zst_tree.proofs.IndicesLaws.{Subtree-grows}
use Rattle.zst_tree.specs.Changes.{FillsChildren, Parts}
use Rattle.zst_tree.proofs.Span.{span-pos, span-over}
use Rattle.zst_tree.proofs.SubtreeCases.{flat_below, lawful_below, NodeBelow}

-- a block is there whatever kind its pointer tells
pub has_kind : (image : List ℕ) (space : FreeSectors) (ptr : Ptr) (bytes : List ℕ) (kind : ℕ) → Has image space ptr bytes
    → Has image space (record { kind = kind; level = ptr.level; length = ptr.length; sector = ptr.sector; number = ptr.number; sum = ptr.sum }) bytes
has_kind image space ptr bytes kind has = record {
  block = record { placed = record { whole = has.block.placed.whole; inside = has.block.placed.inside }; bytes_are = has.block.bytes_are; sum_is = has.block.sum_is };
  behind = has.behind;
  taken = has.taken;
}

pub Parts-grows : (has more : Blocks) → ((ptr : Ptr) (bytes : List ℕ) → has ptr bytes → more ptr bytes) → (level : ℕ) (bytes : List ℕ) (base : ℕ) (map : Map) → Parts has level bytes base map → Parts more level bytes base map
Parts-grows has more up level bytes base map parts = record { pointers = parts.pointers; below = λ k less. Subtree-grows has more up level (child bytes k) (base + k * span level) map (parts.below k less) }

pub child_within : (base level k i : ℕ) → k < 128 → i < (base + k * span level) + span level → i < base + span (suc level)
unfolding span
child_within base level k i h under = let le : (k + 1) * span level ≤ 128 * span level = mul-le-mul_right (span level) (omega arith) in omega arith

pub child_in : (base level k i : ℕ) → 0 < level → k < 128 → i < (base + k * span (level - 1)) + span (level - 1) → i < base + span level
child_in base level k i pos h under =
    let le : (k + 1) * span (level - 1) ≤ 128 * span (level - 1) = mul-le-mul_right (span (level - 1)) (omega arith) in omega (arith, span-over level pos)

module _ (has : Blocks) where
  -- a flat pointer stands for a range of itself
  pub whole_below : (map : Map) (level : ℕ) (ptr : Ptr) (from : ℕ) → is_lawful ptr ≡ true → is_flat ptr ≡ true → Same map from (from + span level) ptr → Subtree has level ptr from map
  unfolding Subtree
  whole_below map zero ptr from lawful flat same = (lawful, same.is from (omega arith) (omega (arith, span-pos 0)))
  whole_below map (suc level) ptr from lawful flat same = inl (lawful, flat, same)

  -- one leaf
  pub one_below : (map : Map) (level : ℕ) (ptr : Ptr) (from : ℕ) → level ≡ 0 → is_lawful ptr ≡ true → map from ≡ ptr → Subtree has level ptr from map
  unfolding Subtree
  one_below map level ptr from e lawful here = let P : ℕ → Type 0 = λ n. Subtree has n ptr from map in subst P (sym e) (lawful, here)

  -- the part that does not change
  pub same_below : (old new : Map) (level : ℕ) (ptr : Ptr) (base : ℕ) → ((i : ℕ) → base ≤ i → i < base + span level → new i ≡ old i) → Subtree has level ptr base old → Subtree has level ptr base new
  unfolding Subtree
  same_below old new zero ptr base same s = (s.0, same base (omega arith) (omega (arith, span-pos 0)) ∙ s.1)
  same_below old new (suc level) ptr base same (inl a) = inl (a.0, a.1, record { is = λ i h l. same i h l ∙ a.2.is i h l })
  same_below old new (suc level) ptr base same (inr (bytes, node, below)) = inr (
    bytes,
    node,
    λ k h. same_below old new level (child bytes k) (base + k * span level)
        (λ i above under. same i (omega arith) (child_within base level k i h under)) (below k h),
  )

  -- the pointers below a flat one
  pub spread_parts : (map : Map) (level : ℕ) (ptr : Ptr) (base : ℕ) (old new : List ℕ) → 0 < level → is_flat ptr ≡ true → Subtree has level ptr base map →
      FillsChildren old new 0 128 ptr → length new ≡ 8192 → Parts has (level - 1) new base map
  spread_parts map level ptr base old new h flat s fills long =
      let f : Same map base (base + span level) ptr = flat_below has level ptr base map h flat s in
      record {
        pointers = record { long = long; spelled = λ k less. (fills.inside k (omega arith) less).spelled };
        below = λ k less.
            let P : Ptr → Type 0 = λ p. Subtree has (level - 1) p (base + k * span (level - 1)) map in
            subst P (sym (fills.inside k (omega arith) less).child_is) (whole_below map (level - 1) ptr (base + k * span (level - 1)) (lawful_below has level ptr base map s) flat
            (record { is = λ i above under. f.is i (omega arith) (child_in base level k i h less under) }));
      }

  closes_suc : (map : Map) (level : ℕ) (base : ℕ) (bytes : List ℕ) (ptr : Ptr) → IsNode has (suc level) ptr bytes → Parts has level bytes base map → Subtree has (suc level) ptr base map
  unfolding Subtree
  closes_suc map level base bytes ptr node parts = inr (bytes, node, parts.below)

  -- a node that sums up its pointers
  pub closes : (map : Map) (level : ℕ) (base : ℕ) (bytes : List ℕ) (ptr : Ptr) → 0 < level → has ptr bytes → ptr.level ≡ level → ptr.kind ≡ kind_over bytes → ptr.number ≡ greatest bytes 128 →
      Parts has (level - 1) bytes base map → Subtree has level ptr base map
  closes map zero base bytes ptr h there level_is kind_is number_is parts = absurd (omega arith)
  closes map (suc level) base bytes ptr h there level_is kind_is number_is parts =
      closes_suc map level base bytes ptr (record { there = there; pointers = parts.pointers; level_is = level_is; kind_is = kind_is; number_is = number_is })
      (let e : suc level - 1 ≡ level = omega arith in rw e at parts)

  -- the pointers of a node that was loaded
  pub node_parts : (level : ℕ) (ptr : Ptr) (base : ℕ) (map : Map) (loaded : List ℕ) (n : NodeBelow has level ptr base map) → loaded ≡ n.bytes → Parts has (level - 1) loaded base map
  node_parts level ptr base map loaded n is = subst (λ (bytes : List ℕ). Parts has (level - 1) bytes base map) (sym is) (record { pointers = n.node.pointers; below = n.below })

-- what stands below a child stands below the pointer that was read of it
pub child_stands : (has : Blocks) (map : Map) (level : ℕ) (here there : Ptr) (base : ℕ) → here ≡ there → Subtree has level there base map → Subtree has level here base map
child_stands has map level here there base is s = subst (λ (ptr : Ptr). Subtree has level ptr base map) (sym is) s
