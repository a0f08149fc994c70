-- The extents of the sectors that are left unmarked, whichever are marked.
use Rattle.std.proofs.Common.{◌≡◌, ◌⊎◌, inl, inr, ℕ, zero, suc, ◌+◌, ◌-◌, ◌/◌, ◌%◌, ◌≤◌, List, [], ◌∷◌, ◌++◌, subst, arith, nat_lt, if◌then◌else◌}
use Rattle.std.specs.Int.{bit_at}
use Rattle.std.specs.Prelude.{slice_index}
use Rattle.std.proofs.lemmas.Bool.{cases_eq}
use Rattle.zst_space.specs.declared.space.Extent.{Extent}
use Rattle.zst_marks.specs.Marks.{IsMarked}
use Rattle.zst_marks.proofs.Extents.{Kept, are_more, joins_last, kept_marked, kept_unmarked, piece_of}
use Rattle.zst_extents.specs.UnmarkedExtents.{AreUnmarked}

-- a sector is marked, or it isn't
pub marked_or_not : (marks : List ℕ) (sector : ℕ) → IsMarked marks sector ⊎ (¬ IsMarked marks sector)
unfolding IsMarked
marked_or_not marks sector = cases_eq (bit_at (slice_index marks (sector / 64)) (sector % 64)) 1

-- the sectors from one on and below another as an extent, where there are any
abbrev piece : ℕ → ℕ → List Extent
piece first below = if nat_lt first below then record { first = first; count = below - first } ∷ [] else []

-- what is kept of a walk over so many sectors from 8 on
walked : (marks : List ℕ) (count : ℕ) → (extents : List Extent) × (first : ℕ) × Kept marks 8 extents first (8 + count)
walked marks zero = (
  [],
  8,
  record {
    joins = λ rest end rise. rise;
    are = λ s. ((λ none. absurd none), (λ u. absurd (omega (arith, u.from_on, u.under))));
    clear = λ s on under. absurd (omega (arith, on, under));
    from_on = omega arith;
    under = omega arith;
  },
)
walked marks (suc count) =
    let was = walked marks count in
    let next : 8 + count + 1 ≡ 8 + suc count = omega arith in
    let put = piece was.1 (8 + count) in
    elim (marked_or_not marks (8 + count)) [
      | inl marked ↦ (was.0 ++ put, 8 + count + 1, subst (λ (n : ℕ). Kept marks 8 (was.0 ++ put) (8 + count + 1) n) next (kept_marked marks 8 was.1 (8 + count) was.0 put was.2 (piece_of was.1 (8 + count)) marked))
      | inr not ↦ (was.0, was.1, subst (λ (n : ℕ). Kept marks 8 was.0 was.1 n) next (kept_unmarked marks 8 was.1 (8 + count) was.0 was.2 not))
    ]

-- so there are these extents
pub unmarked_extents : (marks : List ℕ) (end : ℕ) → 8 ≤ end → (extents : List Extent) × AreUnmarked marks end extents
unmarked_extents marks end from_on =
    let was = walked marks (end - 8) in
    let last : 8 + (end - 8) ≡ end = omega arith in
    let kept = subst (λ (n : ℕ). Kept marks 8 was.0 was.1 n) last was.2 in (
      was.0 ++ piece was.1 end,
      record {
        apart = joins_last 8 was.1 end was.0 (piece was.1 end) kept.under (piece_of was.1 end) kept.joins;
        are = are_more marks 8 was.1 end was.0 (piece was.1 end) kept.from_on kept.under (piece_of was.1 end) kept.clear kept.are;
      },
    )
