-- What a set holds is one lawful dated state, for as long as its blocks are there, and an empty set holds nothing that was touched.
use Rattle.std.proofs.Common.{◌≡◌, inl, ℕ, List, refl, sym, ◌∙◌, arith}
use Rattle.zst_space.specs.FreeSectors.{FreeSectors}
use Rattle.zst_block.specs.Blocks.{Has, KeepsBlocks}
use Rattle.zst_block.specs.Ptr.{hole_of}
use Rattle.zst_block.specs.declared.ptr.Ptr.{Ptr}
use Rattle.zst_model.specs.states.State.{IsState}
use Rattle.zst_model.specs.states.DatedState.{DatedState}
use Rattle.zst_model.specs.pools.Pool.{untouched}
use Rattle.zst_tree.specs.Indices.{Blocks, Subtree, TreeIs, span}
use Rattle.zst_tree.specs.Sets.{no_objects}
use Rattle.zst_tree.specs.declared.tree.ObjSet.{ObjSet}
use Rattle.zst_objset.specs.Sets.{SetHolds}
use Rattle.zst_objset.proofs.SetGrowth.{SetHolds-grows}
use Rattle.zst_objset.proofs.OneState.{SetHolds-one}

pub Has-one : (image : List ℕ) (space : FreeSectors) (ptr : Ptr) (a b : List ℕ) → Has image space ptr a → Has image space ptr b → a ≡ b
Has-one image space ptr a b first second = sym first.block.bytes_are ∙ second.block.bytes_are

pub grows : (set : ObjSet) (old : List ℕ) (space : FreeSectors) (new : List ℕ) (less : FreeSectors) (snap : DatedState) → KeepsBlocks old space new less → SetHolds (Has old space) set snap → SetHolds (Has new less) set snap
grows set old space new less snap keeps holds = SetHolds-grows (Has old space) (Has new less) keeps set snap holds

pub only : (set : ObjSet) (image : List ℕ) (space : FreeSectors) (snap other : DatedState) → SetHolds (Has image space) set snap → SetHolds (Has image space) set other → snap ≡ other
only set image space snap other first second = SetHolds-one (Has image space) (Has-one image space) set snap other first second

pub lawful : (set : ObjSet) (image : List ℕ) (space : FreeSectors) (snap : DatedState) → SetHolds (Has image space) set snap → IsState snap.state
lawful set image space snap holds = holds.lawful

-- a tree of one hole has holes of one date
pub TreeIs-hole : (has : Blocks) (date : ℕ) → TreeIs has (record { levels = 0; past = date; root = hole_of date }) (λ i. hole_of date)
unfolding Subtree span
TreeIs-hole has date = record { whole = λ i. hole_of date; stands = record { below = (refl, refl); past = λ i over. refl }; agrees = λ i less. refl }

pub empty : (has : Blocks) → SetHolds has no_objects untouched
empty has = record {
  lawful = record { zero = refl; bounded = λ k over. refl; objects = λ k. tt };
  bounded = record { no_number = λ k number. refl; no_numbers_index = λ k i number. refl; no_index = λ k i over. refl };
  levels = omega arith;
  map = λ i. hole_of 0;
  tree = TreeIs-hole has 0;
  leaves = λ j less. inl (record { kind = refl; absent = λ s under number. record { none = refl; date_is = refl; dates = λ i below. refl } });
}
