-- A list of which each neighbours stand in order, where the order is transitive.
use Rattle.std.proofs.Common.{◌≡◌, ℕ, zero, suc, ◌+◌, ◌<◌, Bool, true, false, not, ◌↔◌, inl, inr, List, [], ◌∷◌, length, get_or, refl, sym, subst, ap, ◌∙◌, arith, add-one}
use Rattle.std.proofs.lemmas.Bool.{true≢false, cases_lt, not-true}
use Rattle.std.proofs.lemmas.List.Sorted.{answers_always}
use Rattle.std.specs.Fn.{Called, ComputesOnPairs}
use denote.Param.Members.{Mut}
use denote.Ref.{Bor}
use Rattle.std.specs.List.{AllPairs, AllAdjacentBelow, IsAllAdjacentAnswer}
use Rattle.zst_model.specs.pools.Pool.{is_before}
use Rattle.zst_model.proofs.OrderLaws.{before_trans, row_before_later}
use Rattle.zst_dir.specs.Rows.{snapshot_is_before}
use Rattle.zst_dir.specs.declared.rows.Snapshot.{Snapshot}
use Rattle.zst_dir.proofs.InsertedRows.{of_snapshot}

-- neighbours in order make all pairs so
pub pairs_of_neighbours : {A : Type 0} (R : A → A → Type 0) → ((x y z : A) → R x y → R y z → R x z) → (rows : List A) → AllAdjacentBelow R rows (length rows) → AllPairs R rows
pairs_of_neighbours {A} R chain rows next i j d below inside = go j below inside
  where
    at : ℕ → A
    at k = get_or rows k d

    go : (k : ℕ) → i < k → k < length rows → R (at i) (at k)
    go zero less within = absurd (omega arith)
    go (suc k) less within =
        let step : R (at k) (at (suc k)) = rw add-one at (next k d (omega arith)) in
        elim (cases_lt i k) [
          | inl earlier ↦ chain (at i) (at k) (at (suc k)) (go k earlier (omega arith)) step
          | inr late ↦ (let same : i ≡ k = omega arith in subst (λ n. R (at n) (at (suc k))) (sym same) step)
        ]

-- the answer of a test of neighbours is that of all pairs
pub rises : {A : Type 0} (test : A → A → Bool) (R : A → A → Type 0) → ((x y : A) → test x y ≡ true → R x y) → ((x y : A) → R x y → test x y ≡ true) → ((x y z : A) → R x y → R y z → R x z)
    → (rows : List A) (answer : Bool) → IsAllAdjacentAnswer (λ x y b. b ≡ test x y) rows answer → (answer ≡ true) ↔ AllPairs R rows
rises test R to from chain rows true all =
    (λ same. pairs_of_neighbours R chain rows (λ k d below. to (get_or rows k d) (get_or rows (k + 1) d) (sym (all k d below))), λ pairs. refl)
rises test R to from chain [] false none = absurd (omega (arith, none.1))
rises test R to from chain (row ∷ rows) false none = (
  λ same. absurd (true≢false (sym same)),
  λ pairs. none.2 row ∙ from (get_or (row ∷ rows) none.0 row) (get_or (row ∷ rows) (none.0 + 1) row) (pairs none.0 (none.0 + 1) row (omega arith) none.1),
)

-- names that rise
pub names_rise : {A : Type 0} (name : A → List ℕ) (rows : List A) (answer : Bool) → IsAllAdjacentAnswer (λ x y b. b ≡ is_before (name x) (name y)) rows answer → (answer ≡ true) ↔ AllPairs (λ a b. is_before (name a) (name b) ≡ true) rows
names_rise name rows answer is =
    rises (λ a b. is_before (name a) (name b)) (λ a b. is_before (name a) (name b) ≡ true) (λ a b h. h) (λ a b h. h) (λ a b c. before_trans (name a) (name b) (name c)) rows answer is

-- a snapshot that stands before no earlier one
not_after : (a b c : Snapshot) → snapshot_is_before b a ≡ false → snapshot_is_before c b ≡ false → snapshot_is_before c a ≡ false
not_after a b c first second = go (snapshot_is_before c a) refl
  where
    go : (t : Bool) → snapshot_is_before c a ≡ t → t ≡ false
    go true before = absurd (true≢false (sym (row_before_later of_snapshot (λ s. s.number) c a b before first) ∙ second))
    go false before = refl

pub snapshots_rise : (rows : List Snapshot) (answer : Bool) → IsAllAdjacentAnswer (λ x y b. b ≡ not (snapshot_is_before y x)) rows answer → (answer ≡ true) ↔ AllPairs (λ a b. snapshot_is_before b a ≡ false) rows
snapshots_rise rows answer is =
    rises (λ a b. not (snapshot_is_before b a)) (λ a b. snapshot_is_before b a ≡ false) (λ a b h. not-true (snapshot_is_before b a) h) (λ a b h. ap not h) not_after rows answer is

-- what `is_sorted_by` says, where each call gives the test of the two rows
pub neighbours_from_clause : {A : Type 0} (test : A → A → Bool) {F : Type 0} {g : Mut F (Bor A × (Bor A × Unit {0})) Bool} {f : F} (rows : List A) (answer : Bool)
    → ((e : A → A → Bool) → ComputesOnPairs g e f → IsAllAdjacentAnswer (λ x y b. b ≡ e x y) rows answer)
    → ((f : F) (a : Bor A × (Bor A × Unit {0})) (r : Bool) (f' : F) → Called g f a r f' → r ≡ test a.0.now a.1.0.now) → IsAllAdjacentAnswer (λ x y b. b ≡ test x y) rows answer
neighbours_from_clause test {g = g} {f = f} rows answer clause calls = clause test (answers_always g (λ a r. r ≡ test a.0.now a.1.0.now) f calls)
