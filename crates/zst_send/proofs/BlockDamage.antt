-- What may be told as damaged of a block that a send reads.
use Rattle.std.proofs.Common.{inl, inr, ⊎_elim, ℕ, ◌<◌, ◌≤◌, List, refl, arith}
use Rattle.std.specs.Prelude.{Result, Ok, Err}
use Rattle.zst_block.specs.ReadAnswers.{ReadAnswers}
use Rattle.zst_block.specs.declared.fault.BlockFault.{BlockFault}
use Rattle.zst_block.specs.declared.fault.BlockFault.TheVariants.{Damaged, DiskFault, Full}
use Rattle.zst_block.specs.declared.ptr.Ptr.{Ptr}
use Rattle.zst_objset.proofs.DamageLaws.{IfDamage-weaker}
use Rattle.zst_objset.specs.Damage.{DamageFact, IfDamage, IfDamaged, IsToldOf}
use Rattle.zst_tree.specs.Damage.{IsSeen}
use Rattle.zst_send.specs.Damage.{IsDamagedLoad, IsDamagedRead}

-- a read answers so
pub read_told : (seen : List ℕ) (size : ℕ) (ptr : Ptr) (read : List ℕ) (result : Result (Unit {0}) BlockFault) → ReadAnswers seen size ptr read result → IfDamaged result (IsDamagedRead (IsSeen seen) size ptr)
read_told seen size ptr read (Ok done) is = tt
read_told seen size ptr read (Err (Damaged sector stated found)) (at, states, damage) = record { sector_is = at; stated_is = states; found_is = inl (seen, refl, damage) }
read_told seen size ptr read (Err (Full need largest)) is = absurd is
read_told seen size ptr read (Err DiskFault) is = tt

-- what is told of a call's damage is so of its result
pub of_result : {T : Type 0} (P Q : DamageFact) → ((sector : ℕ) (stated found : List ℕ) → P sector stated found → Q sector stated found) → (result : Result T BlockFault) → IfDamaged result P → IfDamaged result Q
of_result P Q more (Ok value) told = tt
of_result P Q more (Err fault) told = IfDamage-weaker P Q more fault told

module _ (images : List ℕ → Type 0) (size : ℕ) (ptr : Ptr) where
  -- a pointer is wrong for another reason
  pub told_for : (wrong other : Type 0) → (wrong → other) → (sector : ℕ) (stated found : List ℕ) → IsToldOf images size wrong ptr sector stated found → IsToldOf images size other ptr sector stated found
  told_for wrong other also sector stated found told = record {
    sector_is = told.sector_is;
    stated_is = told.stated_is;
    found_is = ⊎_elim (λ sums. inl sums) (λ alike. inr (alike.0, also alike.1)) told.found_is;
  }

  -- what is read is loaded
  pub load_told : (fault : BlockFault) → IfDamage fault (IsDamagedRead images size ptr) → IfDamage fault (IsDamagedLoad images size ptr)
  load_told fault told = IfDamage-weaker _ _ (told_for ⊥ (131072 < ptr.length) (λ none. absurd none)) fault told

  -- no block that a stream may have is too long
  pub short_told : ptr.length ≤ 131072 → (fault : BlockFault) → IfDamage fault (IsDamagedLoad images size ptr) → IfDamage fault (IsDamagedRead images size ptr)
  short_told less fault told = IfDamage-weaker _ _ (told_for (131072 < ptr.length) ⊥ (λ long. omega (arith, less, long))) fault told
