-- The place of a row in a list that stands in order.
use Rattle.std.proofs.Common.{inl, inr, ◌⊎◌, subst, ◌≡◌, ℕ, ◌<◌, ◌≤◌, Bool, true, false, not, List, [], ◌∷◌, get_or, length, refl, sym, ap, ◌∙◌, arith}
use Rattle.std.specs.declared.cmp.Ordering.{Ordering}
use Rattle.std.specs.declared.cmp.Ordering.TheVariants.{Less, Equal, Greater}
use Rattle.std.specs.Ordering.{nat_cmp, is_lt, is_le, ordering_reverse}
use Rattle.std.specs.Cmp.Lexicographic.{slice_cmp}
use Rattle.std.specs.List.{AllPairs, position_or_len}
use Rattle.std.specs.List.Sorted.{IsPartitionPoint, IsPartitionedBy}
use Rattle.std.proofs.lemmas.Bool.{cases_lt, true≢false, not-true, not-false}
use Rattle.std.proofs.lemmas.Cmp.{nat_list_cmp_total}
use Rattle.std.proofs.lemmas.List.Sums.{prefix_len-le-length, position_or_len_is}
use Rattle.zst_model.specs.pools.Pool.{is_before}

pub position_or_len-le : {A : Type 0} (test : A → Bool) (xs : List A) → position_or_len test xs ≤ length xs
position_or_len-le test xs = prefix_len-le-length _ xs

-- a name that another doesn't come before stands at or behind it
pub le-before : (a b : List ℕ) → is_le (slice_cmp nat_cmp a b) ≡ not (is_before b a)
le-before a b = go (slice_cmp nat_cmp b a) ∙ ap not refl
  where
    turned : (o : Ordering) → is_le (ordering_reverse o) ≡ not (is_lt o)
    turned Less = refl
    turned Equal = refl
    turned Greater = refl

    go : (o : Ordering) → is_le (slice_cmp nat_cmp a b) ≡ not (is_lt (slice_cmp nat_cmp b a))
    go o = ap is_le (nat_list_cmp_total.antisymm a b) ∙ turned (slice_cmp nat_cmp b a)

-- the rows that a row doesn't come before stand first, where it comes before those behind a row that it comes before
pub partitioned : {A : Type 0} (R : A → A → Type 0) (test comes_before : A → Bool) (xs : List A) → ((x : A) → test x ≡ not (comes_before x))
    → ((x y : A) → R x y → comes_before x ≡ true → comes_before y ≡ true) → AllPairs R xs → IsPartitionedBy test xs
partitioned {A = A} R test comes_before xs same chain ordered i j d le inside passes = go (cases_lt i j)
  where
    at : (k : ℕ) → A
    at k = get_or xs k d

    other : (t : Bool) → comes_before (at i) ≡ t → R (at i) (at j) → test (at i) ≡ true
    other false e r = same (at i) ∙ ap not e
    other true e r = absurd (true≢false (sym passes ∙ same (at j) ∙ ap not (chain (at i) (at j) r e)))

    go : (i < j) ⊎ (j ≤ i) → test (at i) ≡ true
    go (inl l) = other (comes_before (at i)) refl (ordered i j d l inside)
    go (inr l) = let one : j ≡ i = omega arith in subst (λ k. test (at k) ≡ true) one passes

-- the place that parts them is that of the first row that it comes before
pub partition-place : {A : Type 0} (test comes_before : A → Bool) (xs : List A) (place : ℕ) → ((x : A) → test x ≡ not (comes_before x))
    → place ≤ length xs → IsPartitionPoint (λ x. test x ≡ true) (λ x. test x ≡ false) xs place → place ≡ position_or_len comes_before xs
partition-place test comes_before [] place same bound point = omega arith
partition-place test comes_before (x ∷ xs) place same bound point =
    sym (position_or_len_is comes_before (x ∷ xs) place x bound
    (λ k below. not-true (comes_before (get_or (x ∷ xs) k x)) (sym (same (get_or (x ∷ xs) k x)) ∙ point.0 k x (omega arith) below))
    (λ inside. not-false (comes_before (get_or (x ∷ xs) place x)) (sym (same (get_or (x ∷ xs) place x)) ∙ point.1 place x (omega arith) inside)))
