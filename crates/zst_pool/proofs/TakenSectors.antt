-- What the parts of a change take of the free sectors.
use Rattle.std.proofs.Common.{ℕ, suc, ◌+◌, ◌-◌, ◌==◌, ◌≤◌, max, nat_le, Bool, true, false, if◌then◌else◌, List, [], ◌∷◌, ◌++◌, length, sym, subst, arith}
use Rattle.zst_space.specs.FreeSectors.{FreeSectors, greatest, largest_of}
use Rattle.zst_space.specs.TakenExtents.{shortened, extents_without, end_without, without, without_each}
use Rattle.zst_space.specs.declared.space.Extent.{Extent}
use Rattle.zst_block.specs.IoCalls.{TakesAtMost}

-- an extent of which something was taken is one at most, and no longer
shortened-fewer : (extent : Extent) (extents : List Extent) (count : ℕ) → length (shortened extent count ++ extents) ≤ suc (length extents)
shortened-fewer extent extents count = go (count == extent.count)
  where
    go : (b : Bool) → length ((if b then [] else record { first = extent.first + count; count = extent.count - count } ∷ []) ++ extents) ≤ suc (length extents)
    go true = omega arith
    go false = omega arith

shortened-less : (extent : Extent) (extents : List Extent) (least count : ℕ) → greatest (shortened extent count ++ extents) least ≤ max extent.count (greatest extents least)
shortened-less extent extents least count = go (count == extent.count)
  where
    go : (b : Bool) → greatest ((if b then [] else record { first = extent.first + count; count = extent.count - count } ∷ []) ++ extents) least ≤ max extent.count (greatest extents least)
    go true = omega arith
    go false = omega arith

-- so the extents are no more once something was taken
extents-fewer : (extents : List Extent) (count : ℕ) → length (extents_without extents count) ≤ length extents
extents-fewer [] count = omega arith
extents-fewer (extent ∷ extents) count = go (nat_le count extent.count) (extents-fewer extents count)
  where
    go : (b : Bool) → length (extents_without extents count) ≤ length extents
        → length (if b then shortened extent count ++ extents else extent ∷ extents_without extents count) ≤ suc (length extents)
    go true rest = shortened-fewer extent extents count
    go false rest = omega (arith, rest)

-- and none is longer than the longest one was
greatest-less : (extents : List Extent) (end sectors count : ℕ) → greatest (extents_without extents count) (sectors - end_without extents end count) ≤ greatest extents (sectors - end)
greatest-less [] end sectors count = omega arith
greatest-less (extent ∷ extents) end sectors count = go (nat_le count extent.count) (greatest-less extents end sectors count)
  where
    go : (b : Bool) → greatest (extents_without extents count) (sectors - end_without extents end count) ≤ greatest extents (sectors - end)
        → greatest (if b then shortened extent count ++ extents else extent ∷ extents_without extents count) (sectors - (if b then end else end_without extents end count)) ≤ max extent.count (greatest extents (sectors - end))
    go true rest = shortened-less extent extents (sectors - end) count
    go false rest = omega (arith, rest)

without-fewer : (space : FreeSectors) (count : ℕ) → length (without space count).free ≤ length space.free
without-fewer space count = extents-fewer space.free count

without-less : (space : FreeSectors) (count : ℕ) → largest_of (without space count) ≤ largest_of space
without-less space count = greatest-less space.free space.end space.sectors count

-- so it is where several are taken in turn
each-fewer : (counts : List ℕ) (space : FreeSectors) → length (without_each counts space).free ≤ length space.free
each-fewer [] space = omega arith
each-fewer (count ∷ counts) space = omega (arith, each-fewer counts (without space count), without-fewer space count)

each-less : (counts : List ℕ) (space : FreeSectors) → largest_of (without_each counts space) ≤ largest_of space
each-less [] space = omega arith
each-less (count ∷ counts) space = omega (arith, each-less counts (without space count), without-less space count)

module _ {most : ℕ} {IsLength : ℕ → Type 0} {old left : FreeSectors} (takes : TakesAtMost most IsLength old left) where
  -- what was taken leaves no more extents than there were
  pub fewer_extents : length left.free ≤ length old.free
  fewer_extents = subst (λ (space : FreeSectors). length space.free ≤ length old.free) (sym takes.blocks.left) (each-fewer takes.blocks.counts old)

  -- and none that is longer
  pub no_longer : largest_of left ≤ largest_of old
  no_longer = subst (λ (space : FreeSectors). largest_of space ≤ largest_of old) (sym takes.blocks.left) (each-less takes.blocks.counts old)
