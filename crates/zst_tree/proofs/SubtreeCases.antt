-- What stands below a pointer, taken apart.
use Rattle.std.proofs.Common.{◌≡◌, ◌⊎◌, inl, inr, ℕ, zero, suc, ◌+◌, ◌-◌, ◌*◌, ◌<◌, Bool, List, true, false, if◌then◌else◌, refl, ◌∙◌, sym, subst, arith}
use Rattle.std.proofs.lemmas.Bool.{false≢true}
use Rattle.zst_block.specs.Blocks.{Has, KeepsBlocks}
use Rattle.zst_block.proofs.BlocksLaws.{KeepsBlocks-fills}
use Rattle.zst_block.specs.Ptr.{is_flat, is_lawful}
use Rattle.zst_block.specs.IoStates.{IoState}
use Rattle.zst_block.specs.IoCalls.{Looks, Works}
use Rattle.zst_block.specs.declared.ptr.Ptr.{Ptr}
use Rattle.zst_block.specs.declared.fault.BlockFault.{BlockFault}
use Rattle.zst_space.specs.FreeSectors.{FreeSectors}
use Rattle.std.specs.Prelude.{Option}
use Rattle.zst_tree.specs.Indices.{Blocks, Map, span, child, any_present, kind_over, IsNode, Same, Subtree}

-- a node has kind 3 or 4
pub kind_three_or_four : (bytes : List ℕ) (kind : ℕ) → kind ≡ kind_over bytes → (kind ≡ 3) ⊎ (kind ≡ 4)
kind_three_or_four bytes kind is = go (any_present bytes 128) is
  where
    go : (b : Bool) → kind ≡ (if b then 3 else 4) → (kind ≡ 3) ⊎ (kind ≡ 4)
    go true e = inl e
    go false e = inr e

pub flat_kind : (ptr : Ptr) → (ptr.kind ≡ 3) ⊎ (ptr.kind ≡ 4) → is_flat ptr ≡ false
flat_kind ptr (inl is) = rw is refl
flat_kind ptr (inr is) = rw is refl

pub lawful_kind : (ptr : Ptr) → (ptr.kind ≡ 3) ⊎ (ptr.kind ≡ 4) → is_lawful ptr ≡ true
lawful_kind ptr (inl is) = rw is refl
lawful_kind ptr (inr is) = rw is refl

module _ (has : Blocks) where
  -- a node's pointer is not flat
  pub node_flat : (level : ℕ) (ptr : Ptr) (bytes : List ℕ) → IsNode has level ptr bytes → is_flat ptr ≡ false
  node_flat level ptr bytes node = flat_kind ptr (kind_three_or_four bytes ptr.kind node.kind_is)

  -- each pointer below which something stands is lawful
  pub lawful_below : (level : ℕ) (ptr : Ptr) (base : ℕ) (map : Map) → Subtree has level ptr base map → is_lawful ptr ≡ true
  unfolding Subtree
  lawful_below zero ptr base map is = is.0
  lawful_below (suc level) ptr base map (inl flat) = flat.0
  lawful_below (suc level) ptr base map (inr (bytes, node, below)) = lawful_kind ptr (kind_three_or_four bytes ptr.kind node.kind_is)

  pub leaf_below : (ptr : Ptr) (base : ℕ) (map : Map) → Subtree has 0 ptr base map → map base ≡ ptr
  unfolding Subtree
  leaf_below ptr base map is = is.1

  flat_suc : (level : ℕ) (ptr : Ptr) (base : ℕ) (map : Map) → is_flat ptr ≡ true → Subtree has (suc level) ptr base map → Same map base (base + span (suc level)) ptr
  unfolding Subtree
  flat_suc level ptr base map flat (inl same) = same.2
  flat_suc level ptr base map flat (inr (bytes, node, below)) = absurd (false≢true (sym (node_flat (suc level) ptr bytes node) ∙ flat))

  -- a flat pointer stands for each index below it
  pub flat_below : (level : ℕ) (ptr : Ptr) (base : ℕ) (map : Map) → 0 < level → is_flat ptr ≡ true → Subtree has level ptr base map → Same map base (base + span level) ptr
  flat_below zero ptr base map some flat is = absurd (omega arith)
  flat_below (suc level) ptr base map some flat is = flat_suc level ptr base map flat is

  -- the node that a pointer names, and what stands below its children
  pub record NodeBelow (level : ℕ) (ptr : Ptr) (base : ℕ) (map : Map) : Type 0 where
    pub bytes : List ℕ
    pub node : IsNode has level ptr bytes
    pub below : (k : ℕ) → k < 128 → Subtree has (level - 1) (child bytes k) (base + k * span (level - 1)) map

  node_suc : (level : ℕ) (ptr : Ptr) (base : ℕ) (map : Map) → is_flat ptr ≡ false → Subtree has (suc level) ptr base map → NodeBelow (suc level) ptr base map
  unfolding Subtree
  node_suc level ptr base map inner (inl same) = absurd (false≢true (sym inner ∙ same.1))
  node_suc level ptr base map inner (inr (bytes, node, below)) =
      let same_level : suc level - 1 ≡ level = omega arith in
      record { bytes = bytes; node = node; below = λ k less. rw same_level (below k less) }

  pub node_below : (level : ℕ) (ptr : Ptr) (base : ℕ) (map : Map) → 0 < level → is_flat ptr ≡ false → Subtree has level ptr base map → NodeBelow level ptr base map
  node_below zero ptr base map some inner is = absurd (omega arith)
  node_below (suc level) ptr base map some inner is = node_suc level ptr base map inner is

-- what a call that reads leaves there
pub kept_looks : {old new : IoState} {stop : Option BlockFault} → Looks old new stop → KeepsBlocks old.disk.seen old.space new.disk.seen new.space
kept_looks {old} {new} looks = λ ptr bytes has.
    subst (λ (s : FreeSectors). Has new.disk.seen s ptr bytes) (sym looks.space) (subst (λ (seen : List ℕ). Has seen old.space ptr bytes) (sym looks.reads.seen) has)

-- what a call that writes leaves there
pub kept_works : {most block : ℕ} {old new : IoState} {stop : Option BlockFault} → Works most block old new stop → KeepsBlocks old.disk.seen old.space new.disk.seen new.space
kept_works {old = old} {new = new} works = KeepsBlocks-fills old.disk new.disk old.space new.space works.fills
