-- Places in lists of ranges.
use Rattle.std.proofs.Common.{◌⊎◌, inl, inr, ℕ, zero, suc, ◌+◌, ◌<◌, ◌≤◌, List, [], ◌∷◌, ◌++◌, length, get_or, arith}
use Rattle.zst_outside.specs.CallLog.{Untouched, Touched}

-- a place that no range holds isn't in one of them
pub untouched_at : (k : ℕ) (ranges : List (ℕ × ℕ)) (i : ℕ) (d : ℕ × ℕ) → i < length ranges → Untouched k ranges → (k < (get_or ranges i d).0) ⊎ ((get_or ranges i d).0 + (get_or ranges i d).1 ≤ k)
untouched_at k [] i d lt free = absurd (omega arith)
untouched_at k (r ∷ ranges) zero d lt free = free.0
untouched_at k (r ∷ ranges) (suc i) d lt free = untouched_at k ranges i d (omega arith) free.1

-- a place that a longer list of ranges holds is held by the shorter, or by the last range
pub touched_push : (k : ℕ) (ranges : List (ℕ × ℕ)) (range : ℕ × ℕ) → Touched k (ranges ++ range ∷ []) → Touched k ranges ⊎ ((range.0 ≤ k) × (k < range.0 + range.1))
touched_push k [] range (inl inside) = inr inside
touched_push k [] range (inr none) = absurd none
touched_push k (r ∷ ranges) range (inl inside) = inl (inl inside)
touched_push k (r ∷ ranges) range (inr rest) = elim (touched_push k ranges range rest) [ inl before ↦ inl (inr before) | inr last ↦ inr last ]
