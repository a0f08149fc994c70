-- A row agrees with each snapshot before it where each row agrees with the nearest one.
use Rattle.std.proofs.Common.{◌≡◌, ◌⊎◌, inl, inr, ⊎_elim, ℕ, zero, suc, ◌+◌, ◌<◌, ◌≤◌, List, [], ◌∷◌, Option, Some, None, AllPairs, Contains, refl, sym, ◌∙◌, ap, subst, arith}
use Rattle.std.proofs.lemmas.Bool.{cases_lt}
use Rattle.std.proofs.lemmas.List.Elements.{All-contains}
use Rattle.zst_model.specs.states.DatedState.{DatedState}
use Rattle.zst_model.specs.pools.Pool.{Pool, Snapshot, dataset_of_snapshot, is_before}
use Rattle.zst_model.specs.pools.Ancestry.{IsBefore, IsBelow, IsOrigin, OfSnapshot, StandsBefore, Earlier, AtOrigin, BeforeOrigin}
use Rattle.zst_model.specs.pools.Rows.{Row, rows, snapshot_row}
use Rattle.zst_model.specs.pools.Soundness.{Agree, Agrees, Dated}
use Rattle.zst_model.proofs.InsertedLaws.{contains_cases, contains_first, contains_later, contains_nothing, AllPairs-head, AllPairs-tail}
use Rattle.zst_model.proofs.OrderLaws.{before_cases, not_before_itself}
use Rattle.zst_laws.specs.NearestSnapshots.{AgreesWithNearest, IsNearestIn, IsOneBelow}
use Rattle.zst_laws.proofs.pools.Descent.{IsRow, SnapshotRow, HeadRow, PartialRow, row_cases, snapshot_has_row}

-- agreement goes on through a snapshot between
pub Agrees-through : (earlier middle : Snapshot) (later : DatedState) → earlier.number ≤ middle.number → Agrees earlier middle.objects → Agrees middle later → Agrees earlier later
Agrees-through earlier middle later le first second = record {
  numbers = λ k is date.
      let same = second.number_dates k is (omega (arith, le, date)) in
      first.numbers k is (omega (arith, same, date)) ∙ second.numbers k is (omega (arith, le, date));
  number_dates = λ k is date.
      let same = second.number_dates k is (omega (arith, le, date)) in
      first.number_dates k is (omega (arith, same, date)) ∙ same;
  indices = λ k i is less date.
      let same = second.index_dates k i is less (omega (arith, le, date)) in
      first.indices k i is less (omega (arith, same, date)) ∙ second.indices k i is less (omega (arith, le, date));
  index_dates = λ k i is less date.
      let same = second.index_dates k i is less (omega (arith, le, date)) in
      first.index_dates k i is less (omega (arith, same, date)) ∙ same;
}

-- two names are one or differ, and a number is below a bound or isn't
one_name : (a b : List ℕ) → (a ≡ b) ⊎ (a ≡ b → ⊥)
one_name a b = elim (before_cases a b) [
  | inl before ↦ inr (λ same. not_before_itself a (ap (is_before a) same ∙ before))
  | inr rest ↦ ⊎_elim (λ same. inl same) (λ behind. inr (λ same. not_before_itself b (ap (is_before b) (sym same) ∙ behind))) rest
]

below_cases : (number : ℕ) (bound : Option ℕ) → IsBelow number bound ⊎ (IsBelow number bound → ⊥)
below_cases number None = inl tt
below_cases number (Some bound) = elim (cases_lt number bound) [ inl less ↦ inl less | inr on ↦ inr (λ less. omega (arith, on, less)) ]

-- what is at or below a number below a bound is below it
below_lower : (number lower : ℕ) (bound : Option ℕ) → lower ≤ number → IsBelow number bound → IsBelow lower bound
below_lower number lower None le below = tt
below_lower number lower (Some bound) le below = omega (arith, le, below)

-- the last of some snapshots of a dataset below a bound: each other has a lower number
record IsLast (snapshots : List Snapshot) (snapshot : Snapshot) (name : List ℕ) (bound : Option ℕ) : Type 0 where
  pub one : IsOneBelow snapshots snapshot name bound
  pub last : (other : Snapshot) → IsOneBelow snapshots other name bound → (other ≡ snapshot) ⊎ (other.number < snapshot.number)

-- the snapshots of a dataset rise
abbrev Rising : Snapshot → Snapshot → Type 0
Rising a b = dataset_of_snapshot a ≡ dataset_of_snapshot b → a.number < b.number

-- so there is a last one, or none
find_last : (snapshots : List Snapshot) → AllPairs Rising snapshots → (name : List ℕ) (bound : Option ℕ)
    → ((s : Snapshot) × IsLast snapshots s name bound) ⊎ ((other : Snapshot) → IsOneBelow snapshots other name bound → ⊥)
find_last [] rise name bound = inr (λ other is. contains_nothing other is.there)
find_last (x ∷ xs) rise name bound = go (find_last xs (AllPairs-tail Rising x xs rise) name bound) (one_name (dataset_of_snapshot x) name) (below_cases x.number bound)
  where
    -- one of all is the first, or one of the rest
    rest : (other : Snapshot) → IsOneBelow (x ∷ xs) other name bound → (x ≡ other) ⊎ IsOneBelow xs other name bound
    rest other is = elim (contains_cases x xs other is.there) [ inl same ↦ inl same | inr later ↦ inr (record { there = later; named = is.named; below = is.below }) ]

    more : (other : Snapshot) → IsOneBelow xs other name bound → IsOneBelow (x ∷ xs) other name bound
    more other is = record { there = contains_later x xs other is.there; named = is.named; below = is.below }

    go : ((s : Snapshot) × IsLast xs s name bound) ⊎ ((other : Snapshot) → IsOneBelow xs other name bound → ⊥) → (dataset_of_snapshot x ≡ name) ⊎ (dataset_of_snapshot x ≡ name → ⊥) → IsBelow x.number bound ⊎ (IsBelow x.number bound → ⊥)
        → ((s : Snapshot) × IsLast (x ∷ xs) s name bound) ⊎ ((other : Snapshot) → IsOneBelow (x ∷ xs) other name bound → ⊥)
    go (inl (s, found)) named below = inl (
      s,
      record {
        one = more s found.one;
        last = λ other is. elim (rest other is) [
          | inl first ↦ inr (subst (λ (o : Snapshot). o.number < s.number) first (All-contains (Rising x) xs s (AllPairs-head Rising x xs rise) found.one.there (ap dataset_of_snapshot first ∙ is.named ∙ sym found.one.named)))
          | inr later ↦ found.last other later
        ];
      },
    )
    go (inr none) (inl named) (inl below) = inl (
      x,
      record {
        one = record { there = contains_first x xs; named = named; below = below };
        last = λ other is. elim (rest other is) [ inl first ↦ inl (sym first) | inr later ↦ absurd (none other later) ];
      },
    )
    go (inr none) (inr not) below = inr (λ other is. elim (rest other is) [ inl first ↦ not (ap dataset_of_snapshot first ∙ is.named) | inr later ↦ none other later ])
    go (inr none) (inl named) (inr not) = inr (λ other is. elim (rest other is) [ inl first ↦ not (subst (λ (o : Snapshot). IsBelow o.number bound) (sym first) is.below) | inr later ↦ none other later ])

-- what is known of a snapshot before a row: the row agrees with it, and it is below the row's bound
record IsAgreed (earlier : Snapshot) (later : DatedState) (bound : Option ℕ) : Type 0 where
  pub agrees : Agrees earlier later
  pub below : IsBelow earlier.number bound

-- it goes on through a snapshot between
through : (earlier middle : Snapshot) (later : DatedState) (bound : Option ℕ) → IsAgreed earlier middle.objects (Some middle.number) → Agrees middle later → IsBelow middle.number bound → IsAgreed earlier later bound
through earlier middle later bound first second below = record {
  agrees = Agrees-through earlier middle later (omega (arith, first.below)) first.agrees second;
  below = below_lower middle.number earlier.number bound (omega (arith, first.below)) below;
}

module _ (pool : Pool) where
  -- each snapshot before a snapshot is below it, and the snapshot agrees with it
  abbrev Known : Snapshot → Type 0
  Known snapshot = (earlier : Snapshot) → Contains pool.snapshots earlier → StandsBefore pool (OfSnapshot earlier) (dataset_of_snapshot snapshot) (Some snapshot.number) → IsAgreed earlier snapshot.objects (Some snapshot.number)

  module _ (name : List ℕ) (bound : Option ℕ) (later : DatedState)
      (nearest : (s : Snapshot) → IsNearestIn pool s name bound → Agrees s later)
      (known : (s : Snapshot) → Contains pool.snapshots s → IsBelow s.number bound → Known s)
      (origins : (s : Snapshot) → IsOrigin pool s name → IsBelow s.number bound) where
    -- where the dataset has a snapshot below the bound, the last one is the nearest
    by_last : (last : Snapshot) → IsLast pool.snapshots last name bound → (earlier : Snapshot) → Contains pool.snapshots earlier → StandsBefore pool (OfSnapshot earlier) name bound → IsAgreed earlier later bound
    by_last last is earlier there before = go name bound refl refl before
      where
        agrees : Agrees last later
        agrees = nearest last (inl (
          is.one,
          λ other one.
              elim (is.last other one) [ inl same ↦ subst (λ (o : Snapshot). o.number ≤ last.number) (sym same) (omega arith) | inr less ↦ omega (arith, less) ],
        ))

        under : StandsBefore pool (OfSnapshot earlier) (dataset_of_snapshot last) (Some last.number) → IsAgreed earlier later bound
        under lower = through earlier last later bound (known last is.one.there is.one.below earlier there lower) agrees is.one.below

        go : (n : List ℕ) (b : Option ℕ) → n ≡ name → b ≡ bound → StandsBefore pool (OfSnapshot earlier) n b → IsAgreed earlier later bound
        go n b same_name same_bound (Earlier _ _ named below) =
            elim (is.last earlier (record { there = there; named = named ∙ same_name; below = subst (λ (x : Option ℕ). IsBelow earlier.number x) same_bound below })) [
              | inl same ↦ record { agrees = subst (λ (s : Snapshot). Agrees s later) (sym same) agrees; below = subst (λ (s : Snapshot). IsBelow s.number bound) (sym same) is.one.below }
              | inr less ↦ under (Earlier (dataset_of_snapshot last) (Some last.number) (named ∙ same_name ∙ sym is.one.named) less)
            ]
        go n b same_name same_bound (AtOrigin _ _ origin is_origin marks) =
            under (AtOrigin (dataset_of_snapshot last) (Some last.number) origin (subst (λ (m : List ℕ). IsOrigin pool origin m) (same_name ∙ sym is.one.named) is_origin) marks)
        go n b same_name same_bound (BeforeOrigin _ _ origin is_origin lower) =
            under (BeforeOrigin (dataset_of_snapshot last) (Some last.number) origin (subst (λ (m : List ℕ). IsOrigin pool origin m) (same_name ∙ sym is.one.named) is_origin) lower)

    -- where it has none, its origin is
    by_origin : ((other : Snapshot) → IsOneBelow pool.snapshots other name bound → ⊥) → (earlier : Snapshot) → Contains pool.snapshots earlier → StandsBefore pool (OfSnapshot earlier) name bound → IsAgreed earlier later bound
    by_origin none earlier there before = go name bound refl refl before
      where
        agrees : (origin : Snapshot) → IsOrigin pool origin name → Agrees origin later
        agrees origin is_origin = nearest origin (inr (is_origin, none))

        go : (n : List ℕ) (b : Option ℕ) → n ≡ name → b ≡ bound → StandsBefore pool (OfSnapshot earlier) n b → IsAgreed earlier later bound
        go n b same_name same_bound (Earlier _ _ named below) =
            absurd (none earlier (record { there = there; named = named ∙ same_name; below = subst (λ (x : Option ℕ). IsBelow earlier.number x) same_bound below }))
        go n b same_name same_bound (AtOrigin _ _ origin is_origin marks) =
            let of_name = subst (λ (m : List ℕ). IsOrigin pool origin m) same_name is_origin in
            record { agrees = subst (λ (s : Snapshot). Agrees s later) (sym marks) (agrees origin of_name); below = subst (λ (s : Snapshot). IsBelow s.number bound) (sym marks) (origins origin of_name) }
        go n b same_name same_bound (BeforeOrigin _ _ origin is_origin lower) =
            let of_name = subst (λ (m : List ℕ). IsOrigin pool origin m) same_name is_origin in
            through earlier origin later bound (known origin of_name.snapshot_there (origins origin of_name) earlier there lower) (agrees origin of_name) (origins origin of_name)

  module _ (dated : Dated pool) (nearest : AgreesWithNearest pool) where
    by_nearest : (name : List ℕ) (bound : Option ℕ) (later : DatedState) → ((s : Snapshot) → IsNearestIn pool s name bound → Agrees s later)
        → ((s : Snapshot) → Contains pool.snapshots s → IsBelow s.number bound → Known s) → ((s : Snapshot) → IsOrigin pool s name → IsBelow s.number bound)
        → (earlier : Snapshot) → Contains pool.snapshots earlier → StandsBefore pool (OfSnapshot earlier) name bound → IsAgreed earlier later bound
    by_nearest name bound later near known origins earlier there before = elim (find_last pool.snapshots dated.rise name bound) [
      | inl found ↦ by_last name bound later near known origins found.0 found.1 earlier there before
      | inr none ↦ by_origin name bound later near known origins none earlier there before
    ]

    -- so it is with each snapshot, from the lowest number on
    known_below : (n : ℕ) (snapshot : Snapshot) → Contains pool.snapshots snapshot → snapshot.number < n → Known snapshot
    known_below zero snapshot there less = absurd (omega (arith, less))
    known_below (suc n) snapshot there less = λ earlier here before.
        by_nearest (dataset_of_snapshot snapshot) (Some snapshot.number) snapshot.objects
        (λ s is. nearest s (snapshot_row snapshot) (snapshot_has_row pool snapshot there) is)
        (λ s in_pool below. known_below n s in_pool (omega (arith, less, below)))
        (λ s is. dated.above s snapshot there is) earlier here before

    known : (snapshot : Snapshot) → Contains pool.snapshots snapshot → Known snapshot
    known snapshot there = known_below (snapshot.number + 1) snapshot there (omega arith)

    head_agrees : (name : List ℕ) (later : DatedState) → ((s : Snapshot) → IsNearestIn pool s name None → Agrees s later)
        → (earlier : Snapshot) → Contains pool.snapshots earlier → StandsBefore pool (OfSnapshot earlier) name None → Agrees earlier later
    head_agrees name later near earlier there before = (by_nearest name None later near (λ s in_pool below. known s in_pool) (λ s is. tt) earlier there before).agrees

    of_row : (earlier : Snapshot) (row : Row) → Contains pool.snapshots earlier → Contains (rows pool) row → IsRow pool row → IsBefore pool (OfSnapshot earlier) row.place → Agrees earlier row.objects
    of_row earlier row here there (SnapshotRow snapshot in_pool) before = (known snapshot in_pool earlier here before).agrees
    of_row earlier row here there (HeadRow dataset in_pool) before = head_agrees dataset.name dataset.head (λ s is. nearest s _ there is) earlier here before
    of_row earlier row here there (PartialRow partial in_pool) (inl target) =
        head_agrees partial.target partial.objects (λ s is. nearest s _ there (inl (target.target, is))) earlier here target.before
    of_row earlier row here there (PartialRow partial in_pool) (inr (counts, clone)) =
        let base = nearest clone.base _ there (inr clone.is_base) in
        elim clone.before [
          | inl marks ↦ subst (λ (s : Snapshot). Agrees s partial.objects) (sym marks) base
          | inr lower ↦
              let under = known clone.base clone.is_base.there earlier here lower in
              Agrees-through earlier clone.base partial.objects (omega (arith, under.below)) under.agrees base
        ]

pub nearest_is_enough : (pool : Pool) → Dated pool → AgreesWithNearest pool → Agree pool
nearest_is_enough pool dated nearest = λ earlier later here there before. of_row pool dated nearest earlier later here there (row_cases pool later there) before
