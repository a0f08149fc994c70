-- Free sectors stand from where a space begins.
use Rattle.std.proofs.Common.{◌≡◌, ◌⊎◌, inl, inr, ℕ, ◌+◌, ◌≤◌, List, [], ◌∷◌, arith}
use Rattle.zst_space.specs.FreeSectors.{FreeSectors, IsFree, IsInSome, Rise, IsSpaceFrom}
use Rattle.zst_space.specs.declared.space.Extent.{Extent}

-- extents that rise from a sector end past it
pub Rise-end : (from end : ℕ) (extents : List Extent) → Rise from extents end → from ≤ end
Rise-end from end [] rise = rise
Rise-end from end (e ∷ es) rise = omega (arith, rise.0, Rise-end (e.first + e.count) end es rise.1)

-- extents that rise from a sector rise from each earlier one
pub Rise-earlier : (from earlier end : ℕ) (extents : List Extent) → earlier ≤ from → Rise from extents end → Rise earlier extents end
Rise-earlier from earlier end [] le rise = omega (arith, le, rise)
Rise-earlier from earlier end (e ∷ es) le rise = (omega (arith, le, rise.0), rise.1)

-- none of their sectors, and none past the end, stands before it
pub Rise-above : (from end sector : ℕ) (extents : List Extent) → Rise from extents end → IsInSome extents sector ⊎ (end ≤ sector) → from ≤ sector
Rise-above from end sector [] rise (inl in_none) = absurd in_none
Rise-above from end sector [] rise (inr past) = omega (arith, rise, past)
Rise-above from end sector (e ∷ es) rise (inl (inl within)) = omega (arith, rise.0, within.0)
Rise-above from end sector (e ∷ es) rise (inl (inr later)) = omega (arith, rise.0, Rise-above (e.first + e.count) end sector es rise.1 (inl later))
Rise-above from end sector (e ∷ es) rise (inr past) = omega (arith, rise.0, Rise-above (e.first + e.count) end sector es rise.1 (inr past))

pub IsSpaceFrom-earlier : (from earlier : ℕ) (space : FreeSectors) → earlier ≤ from → IsSpaceFrom from space → IsSpaceFrom earlier space
IsSpaceFrom-earlier from earlier space le is = record { end = is.end; extents = Rise-earlier from earlier space.end space.free le is.extents }

pub IsFree-from : (from sector : ℕ) (space : FreeSectors) → IsSpaceFrom from space → IsFree space sector → from ≤ sector
IsFree-from from sector space is free = Rise-above from space.end sector space.free is.extents free
