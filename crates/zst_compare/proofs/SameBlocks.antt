-- Two spills, compared by their blocks.
use Rattle.std.proofs.Common.{◌≡◌, ◌↔◌, ℕ, ◌≤◌, Bool, List, length, Option, Some, None, IsTrue, sym, ◌∙◌, ap, arith}
use Rattle.std.specs.Prelude.{Result}
use Rattle.std.proofs.lemmas.Bool.Decides.{nat_tests}
use Rattle.zst_block.specs.declared.fault.BlockFault.{BlockFault}
use Rattle.zst_block.specs.declared.ptr.Ptr.{Ptr}
use Rattle.zst_dnode.specs.Dnode.{is_spill}
use Rattle.zst_model.specs.states.State.{is_spill_size}
use Rattle.zst_objset.specs.Dnodes.{SpillIs}
use Rattle.zst_tree.specs.Indices.{Blocks, Delivers}
use Rattle.zst_tree.proofs.Results.{delivers_if}

-- a spill that is there isn't longer than the largest
pub spill_short : (ptr : Ptr) → IsTrue (is_spill ptr) → (ptr.kind ≡ 0 → ⊥) → ptr.length ≤ 131072
unfolding is_spill_size
spill_short ptr is some = grind (arith, nat_tests)

module _ (has : Blocks) (long : (ptr : Ptr) (bytes : List ℕ) → has ptr bytes → length bytes ≡ ptr.length) (later earlier : Ptr) (some : later.kind ≡ 0 → ⊥) (kinds : later.kind ≡ earlier.kind) where
  -- spills of two lengths are two
  pub spill_other : (now was : Option (List ℕ)) → (later.length ≡ earlier.length → ⊥) → SpillIs has later now → SpillIs has earlier was → was ≡ now → ⊥
  spill_other None was other first second same = some first
  spill_other (Some now) None other first second same = some (kinds ∙ second)
  spill_other (Some now) (Some was) other first second same =
      let bytes : was ≡ now = cc in
      other (sym (long later now first.1) ∙ (ap (λ (l : List ℕ). length l) (sym bytes) ∙ long earlier was second.1))

  -- spills of one length are compared by their blocks
  pub spill_same : (now was : Option (List ℕ)) (result : Result Bool BlockFault) → later.length ≡ earlier.length
      → ((a b : List ℕ) → later.kind ≡ 1 → earlier.kind ≡ 1 → has later a → has earlier b → length a ≡ later.length → length b ≡ later.length → Delivers (λ same. IsTrue same ↔ (b ≡ a)) result)
      → SpillIs has later now → SpillIs has earlier was → Delivers (λ same. IsTrue same ↔ (was ≡ now)) result
  spill_same None was result same told first second = absurd (some first)
  spill_same (Some now) None result same told first second = absurd (some (kinds ∙ second))
  spill_same (Some now) (Some was) result same told first second =
      delivers_if (λ same. IsTrue same ↔ (was ≡ now)) (λ same. IsTrue same ↔ (Some was ≡ Some now)) result (λ value is. (λ true_is. ap Some (is.0 true_is), λ equal. is.1 (cc)))
      (told now was first.0 second.0 first.1 second.1 (long later now first.1) (long earlier was second.1 ∙ sym same))
