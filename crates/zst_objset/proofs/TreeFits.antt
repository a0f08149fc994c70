-- The dnode of an object that a change made is in its ranges.
use Rattle.std.proofs.Common.{◌≡◌, ◌⊎◌, inl, inr, ℕ, zero, suc, ◌^◌, ◌<◌, ◌≤◌, ◌==◌, Bool, true, false, refl, arith, if◌then◌else◌}
use Rattle.std.proofs.lemmas.Bool.{eq-eqb}
use Rattle.std.proofs.lemmas.Bool.Decides.{nat_tests}
use Rattle.zst_block.specs.Ptr.{PtrFits, hole_of, is_flat, is_lawful, redacted_of}
use Rattle.zst_block.specs.declared.ptr.Ptr.{Ptr}
use Rattle.zst_dnode.specs.Dnode.{DnodeFits, is_root}
use Rattle.zst_dnode.specs.declared.dnode.Dnode.{Dnode}
use Rattle.zst_model.specs.states.State.{index_bound, is_odd_size}
use Rattle.zst_tree.specs.Changes.{IsPutRoot, PutsRoot}
use Rattle.zst_tree.specs.declared.tree.Tree.{Tree}

-- a dnode with this tree and this end
abbrev pub with_tree : Dnode → Tree → ℕ → Dnode
with_tree dnode tree end = record dnode { levels = tree.levels; past = tree.past; end = end; root = tree.root }

node_lawful : (ptr : Ptr) (b : Bool) → ptr.kind ≡ (if b then 3 else 4) → is_lawful ptr ≡ true
node_lawful ptr true kind = rw kind refl
node_lawful ptr false kind = rw kind refl

node_root : (level size : ℕ) (ptr : Ptr) (b : Bool) → ptr.kind ≡ (if b then 3 else 4) → is_root (suc level) size ptr ≡ true
node_root level size ptr true kind = rw kind (grind (arith, nat_tests))
node_root level size ptr false kind = rw kind (grind (arith, nat_tests))

flat_root : (level size : ℕ) (ptr : Ptr) → is_flat ptr ≡ true → is_root level size ptr ≡ true
flat_root level size ptr flat = rw flat refl

-- a root that a dnode with this block size may have
pub record RootFits (size levels : ℕ) (root : Ptr) : Type 0 where
  pub lawful : is_lawful root ≡ true
  pub is : is_root levels size root ≡ true

pub named_fits : (size levels : ℕ) (root : Ptr) → 0 < levels → (root.kind ≡ 3) ⊎ (root.kind ≡ 4) → RootFits size levels root
named_fits size zero root some kind = absurd (omega arith)
named_fits size (suc levels) root some (inl kind) = record { lawful = node_lawful root true kind; is = node_root levels size root true kind }
named_fits size (suc levels) root some (inr kind) = record { lawful = node_lawful root false kind; is = node_root levels size root false kind }

put_fits : (size levels : ℕ) (leaf root : Ptr) → RootFits size 0 leaf → IsPutRoot levels leaf root → RootFits size levels root
put_fits size levels leaf root fits (inl (same, inl none)) = rw (same, none) fits
put_fits size levels leaf root fits (inl (same, inr flat)) = rw same (record { lawful = fits.lawful; is = flat_root levels size leaf flat })
put_fits size levels leaf root fits (inr (some, names)) = named_fits size levels root some names.kind

-- so is the root that a change of the tree leaves
pub root_fits : (size : ℕ) (old new : Tree) (leaf : Ptr) → RootFits size old.levels old.root → RootFits size 0 leaf → PutsRoot old leaf new → RootFits size new.levels new.root
root_fits size old new leaf fits leaf_fits (inl (levels, root)) = rw (levels, root) fits
root_fits size old new leaf fits leaf_fits (inr put) = put_fits size new.levels leaf new.root leaf_fits put

pub data_fits : (size : ℕ) (block : Ptr) → block.kind ≡ 1 → block.length ≡ size → RootFits size 0 block
data_fits size block kind long = let same : (block.length == size) ≡ true = eq-eqb block.length size long in record { lawful = rw kind refl; is = rw (kind, same) refl }

pub hole_fits : (size number : ℕ) → RootFits size 0 (hole_of number)
hole_fits size number = record { lawful = refl; is = refl }

pub redacted_fits : (size number : ℕ) → RootFits size 0 (redacted_of number)
redacted_fits size number = record { lawful = refl; is = refl }

pub dnode_root : (dnode : Dnode) → DnodeFits dnode → RootFits dnode.block_size dnode.levels dnode.root
dnode_root dnode fits = record { lawful = fits.root_lawful; is = fits.root }

-- a dnode with such a tree, and an end that it may have
pub with_tree_fits : (dnode : Dnode) (tree : Tree) (end : ℕ) → DnodeFits dnode → tree.levels ≤ 7 → PtrFits tree.root → tree.past < 2 ^ 64 → RootFits dnode.block_size tree.levels tree.root
    → end ≤ index_bound → (is_odd_size dnode.block_size ≡ true → end ≤ 1) → DnodeFits (with_tree dnode tree end)
with_tree_fits dnode tree end fits levels ptr past root bound odd = record {
  head = fits.head;
  bonus = fits.bonus;
  date = fits.date;
  levels = levels;
  past = past;
  end = bound;
  odd = odd;
  root_fits = ptr;
  root_lawful = root.lawful;
  root = root.is;
  spill_fits = fits.spill_fits;
  spill_lawful = fits.spill_lawful;
  spill = fits.spill;
}
