-- The fewest levels that have room for so many bytes.
use Rattle.std.proofs.Common.{◌≡◌, inl, inr, ℕ, zero, suc, ◌-◌, ◌<◌, ◌≤◌, refl, ◌∙◌, ap, arith}
use Rattle.std.proofs.lemmas.Bool.{cases_lt}
use Rattle.zst_tree.specs.Indices.{span}
use Rattle.zst_leaves.specs.Leaves.{IsLeast, bytes_below}
use Rattle.zst_tree.proofs.Span.{span-suc, span_zero}

pub span_one : span 1 ≡ 128
unfolding span
span_one = refl

pub span_two : span 2 ≡ 16384
unfolding span
span_two = refl

pub span_three : span 3 ≡ 2097152
unfolding span
span_three = refl

pub span_le : (low high : ℕ) → low ≤ high → span low ≤ span high
span_le low zero le = let none : low ≡ 0 = omega arith in rw none (omega arith)
span_le low (suc high) le = elim (cases_lt low (suc high)) [
  | inl less ↦ omega (arith, span-suc high, span_le low high (omega arith))
  | inr last ↦ (let same : low ≡ suc high = omega arith in rw same (omega arith))
]

-- a leaf has 8,192 bytes
pub leaf_room : (level size : ℕ) → level ≡ 0 → size ≤ bytes_below level → size ≤ 8192
leaf_room level size leaf room = let one : span level ≡ 1 = ap span leaf ∙ span_zero in omega arith

-- fewer levels have no room for what others are the fewest for
never_fewer : (size fewer levels : ℕ) → IsLeast fewer size → IsLeast levels size → fewer < levels → ⊥
never_fewer size fewer levels less least under =
    let short : bytes_below (levels - 1) < size = least.no_fewer (omega arith) in
    let le : span fewer ≤ span (levels - 1) = span_le fewer (levels - 1) (omega arith) in
    omega (arith, short, le, less.enough)

pub IsLeast-only : (size one other : ℕ) → IsLeast one size → IsLeast other size → one ≡ other
IsLeast-only size one other first second = elim (cases_lt one other) [
  | inl under ↦ absurd (never_fewer size one other first second under)
  | inr not_under ↦ elim (cases_lt other one) [ inl over ↦ absurd (never_fewer size other one second first over) | inr not_over ↦ omega arith ]
]

-- up to 128 megabytes two levels are enough
pub two_levels : (size levels : ℕ) → IsLeast levels size → size ≤ 134217728 → levels ≤ 2
two_levels size levels least small = elim (cases_lt 2 levels) [
  | inl more ↦ (let le : span 2 ≤ span (levels - 1) = span_le 2 (levels - 1) (omega arith) in absurd (omega (arith, span_two, le, least.no_fewer (omega arith))))
  | inr few ↦ few
]

-- and up to 8,192 bytes none
pub one_level : (size levels : ℕ) → IsLeast levels size → size ≤ 8192 → levels ≡ 0
one_level size levels least small = elim (cases_lt 0 levels) [
  | inl more ↦ (let le : span 0 ≤ span (levels - 1) = span_le 0 (levels - 1) (omega arith) in absurd (omega (arith, span_zero, le, least.no_fewer (omega arith))))
  | inr none ↦ omega arith
]
