-- It is enough to compare the number of each snapshot with its neighbour's.
use Rattle.std.proofs.Common.{◌≡◌, inl, inr, ◌⊎◌, ℕ, zero, suc, ◌<◌, ◌≤◌, List, true, length, sym, ◌∙◌, subst, arith}
use Rattle.std.proofs.lemmas.Bool.{cases_lt, true≢false}
use Rattle.zst_model.specs.pools.Ancestry.{IsOrigin}
use Rattle.zst_model.specs.pools.Pool.{Pool, Snapshot, IsNamed, dataset_of_snapshot, is_before}
use Rattle.zst_model.proofs.OrderLaws.{before_cases, not_before_itself, row_before_from}
use Rattle.zst_check.specs.NumbersInTurn.{snapshot_at, dataset_at, AreNumberedInTurn, InTurnIsEnough}

-- two names are one or differ
pub one_name : (a b : List ℕ) → (a ≡ b) ⊎ (a ≡ b → ⊥)
one_name a b = elim (before_cases a b) [
  | inl before ↦ inr (λ same. not_before_itself b (subst (λ n. is_before n b ≡ true) same before))
  | inr (inl same) ↦ inl same
  | inr (inr behind) ↦ inr (λ same. not_before_itself b (subst (λ n. is_before b n ≡ true) same behind))
]

module _ (pool : Pool) (named : IsNamed pool) (d : Snapshot) where
  -- no dataset stands before one whose snapshots come earlier
  ordered : (i j : ℕ) → i < j → j < length pool.snapshots → is_before (dataset_at pool d j) (dataset_at pool d i) ≡ true → ⊥
  ordered i j rise inside before =
      true≢false (sym (row_before_from dataset_of_snapshot (λ snapshot. snapshot.number) (snapshot_at pool d j) (snapshot_at pool d i) (inl before)) ∙ named.snapshots i j d rise inside)

  -- between two snapshots of a dataset stand others of it alone
  pub between : (i m j : ℕ) → i < m → m < j → j < length pool.snapshots → dataset_at pool d i ≡ dataset_at pool d j → dataset_at pool d i ≡ dataset_at pool d m
  between i m j first second inside same = elim (before_cases (dataset_at pool d i) (dataset_at pool d m)) [
    | inl before ↦ absurd (ordered m j second inside (subst (λ n. is_before n (dataset_at pool d m) ≡ true) same before))
    | inr (inl e) ↦ e
    | inr (inr behind) ↦ absurd (ordered i m first (omega (arith, second, inside)) behind)
  ]

  module _ (turn : AreNumberedInTurn pool) where
    rises_to : (j i : ℕ) → i < j → j < length pool.snapshots → dataset_at pool d i ≡ dataset_at pool d j → (snapshot_at pool d i).number < (snapshot_at pool d j).number
    rises_to zero i less inside same = absurd (omega (arith, less))
    rises_to (suc j) i less inside same = go (cases_lt i j) (rises_to j i)
      where
        go : (i < j) ⊎ (j ≤ i) → (i < j → j < length pool.snapshots → dataset_at pool d i ≡ dataset_at pool d j → (snapshot_at pool d i).number < (snapshot_at pool d j).number)
            → (snapshot_at pool d i).number < (snapshot_at pool d (suc j)).number
        go (inl under) rest =
            let mid = between i j (suc j) under (omega arith) inside same in
            let low = rest under (omega (arith, inside)) mid in
            let high = turn.next j (suc j) d (omega arith) inside (sym mid ∙ same) in omega (arith, low, high)
        go (inr on) rest = turn.next i (suc j) d (omega (arith, less, on)) inside same

    above_at : (origin : Snapshot) (j : ℕ) → j < length pool.snapshots → IsOrigin pool origin (dataset_at pool d j) → origin.number < (snapshot_at pool d j).number
    above_at origin zero inside is = turn.first zero d origin inside (λ before e same. omega (arith, e)) is
    above_at origin (suc j) inside is = go (one_name (dataset_at pool d j) (dataset_at pool d (suc j))) (above_at origin j)
      where
        go : (dataset_at pool d j ≡ dataset_at pool d (suc j)) ⊎ (dataset_at pool d j ≡ dataset_at pool d (suc j) → ⊥)
            → (j < length pool.snapshots → IsOrigin pool origin (dataset_at pool d j) → origin.number < (snapshot_at pool d j).number)
            → origin.number < (snapshot_at pool d (suc j)).number
        go (inl same) rest =
            let low = rest (omega (arith, inside)) (subst (λ n. IsOrigin pool origin n) (sym same) is) in
            let high = turn.next j (suc j) d (omega arith) inside same in omega (arith, low, high)
        go (inr other) rest =
            turn.first (suc j) d origin inside
            (λ before e same. let one : before ≡ j = omega (arith, e) in other (subst (λ b. dataset_at pool d b ≡ dataset_at pool d (suc j)) one same)) is

pub in_turn_is_enough : InTurnIsEnough
in_turn_is_enough pool named states turn = record {
  states = states;
  numbers = turn.numbers;
  rise = λ i j d less inside same. rises_to pool named d turn j i less inside same;
  above = λ origin later there is.
      subst (λ (s : Snapshot). origin.number < s.number) there.2
      (above_at pool named later turn origin there.0 there.1 (subst (λ (s : Snapshot). IsOrigin pool origin (dataset_of_snapshot s)) (sym there.2) is));
}
