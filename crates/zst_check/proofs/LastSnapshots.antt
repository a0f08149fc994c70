-- The last snapshot of a dataset below a number stands just before the first that doesn't stand before it.
use Rattle.std.proofs.Common.{◌≡◌, ◌↔◌, ◌⊎◌, inl, inr, ℕ, ◌+◌, ◌-◌, ◌<◌, ◌≤◌, Bool, true, false, ◌&&◌, ◌||◌, nat_lt, List, length, get_or, Option, Some, None, refl, sym, ap, ◌∙◌, subst, arith}
use Rattle.std.specs.Bool.{then_some}
use Rattle.std.specs.List.{HoldsAt}
use Rattle.std.specs.List.Sorted.{IsPartitionPoint, IsPartitionedBy}
use Rattle.std.specs.Option.{MatchOption}
use Rattle.std.specs.Str.{bytes_eq}
use Rattle.std.proofs.lemmas.Bool.{cases_lt, true≢false, ltb-true, lt-ltb, and_parts, and_from, or_cases, or_left, or_right}
use Rattle.std.proofs.lemmas.List.{get_or_default}
use Rattle.zst_dir.specs.RowNames.{AreNamed, NamesSnapshot}
use Rattle.zst_dir.specs.Rows.{Rows}
use Rattle.zst_dir.specs.declared.rows.Snapshot as row
use Rattle.zst_dir.proofs.Matches.{length-Match}
use Rattle.zst_laws.specs.NearestSnapshots.{IsNearestIn, IsOneBelow}
use Rattle.zst_model.specs.pools.Ancestry.{IsBelow}
use Rattle.zst_model.specs.pools.Pool.{Pool, Snapshot, IsNamed, dataset_of_snapshot, is_before}
use Rattle.zst_model.specs.pools.Soundness.{Dated}
use Rattle.zst_model.proofs.OrderLaws.{same_bytes, bytes_same, not_before_itself, before_trans, before_cases, row_before_from}
use Rattle.zst_names.specs.Names.{dataset_of}
use Rattle.zst_check.specs.Findings.{StandsAtPlace}
use Rattle.zst_check.specs.RowTests.{IsLastBelow, is_below, stands_below}
use Rattle.zst_check.proofs.NamedPlaces.{Match-at, Contains-at, some_at}
use Rattle.zst_check.proofs.NumberedPlaces.{IsOriginAt}

-- what a test of a number says
below_from : (number : ℕ) (bound : Option ℕ) → is_below number bound ≡ true → IsBelow number bound
below_from number None passes = tt
below_from number (Some bound) passes = ltb-true number bound passes

-- and a number that is below passes it
below_tests : (number : ℕ) (bound : Option ℕ) → IsBelow number bound → is_below number bound ≡ true
below_tests number None is = refl
below_tests number (Some bound) is = lt-ltb number bound is

-- a lower number is below what a number is below
below_lower : (m n : ℕ) (bound : Option ℕ) → m ≤ n → IsBelow n bound → IsBelow m bound
below_lower m n None most is = tt
below_lower m n (Some bound) most is = omega (arith, most, is)

-- a snapshot stands before what a dataset has at a number
abbrev pub Passes : List ℕ → Option ℕ → List ℕ → ℕ → Type 0
Passes name bound dataset number = (is_before dataset name ≡ true) ⊎ ((dataset ≡ name) × IsBelow number bound)

-- so says the test of its row
pub passes_from : (name : List ℕ) (bound : Option ℕ) (own : row.Snapshot) → stands_below name bound own ≡ true → Passes name bound (dataset_of 64 own.name) own.number
passes_from name bound own passes =
    elim (or_cases (is_before (dataset_of 64 own.name) name) (bytes_eq (dataset_of 64 own.name) name && is_below own.number bound) passes) [
      | inl before ↦ inl before
      | inr both ↦
          let parts = and_parts (bytes_eq (dataset_of 64 own.name) name) (is_below own.number bound) both in
          inr (same_bytes (dataset_of 64 own.name) name parts.0, below_from own.number bound parts.1)
    ]

-- and the row of one that does passes the test
pub passes_tests : (name : List ℕ) (bound : Option ℕ) (own : row.Snapshot) → Passes name bound (dataset_of 64 own.name) own.number → stands_below name bound own ≡ true
passes_tests name bound own (inl before) = or_left (is_before (dataset_of 64 own.name) name) _ before
passes_tests name bound own (inr both) =
    or_right (is_before (dataset_of 64 own.name) name) _
    (and_from (bytes_eq (dataset_of 64 own.name) name) (is_below own.number bound) (bytes_same (dataset_of 64 own.name) name both.0) (below_tests own.number bound both.1))

module _ (pool : Pool) (named : IsNamed pool) (name : List ℕ) (bound : Option ℕ) where
  -- the snapshots before a place stand before, and the others don't
  pub record IsParted (past : ℕ) : Type 0 where
    pub first : (k : ℕ) (d : Snapshot) → k < past → Passes name bound (dataset_of_snapshot (get_or pool.snapshots k d)) (get_or pool.snapshots k d).number
    pub rest : (k : ℕ) (d : Snapshot) → past ≤ k → k < length pool.snapshots → Passes name bound (dataset_of_snapshot (get_or pool.snapshots k d)) (get_or pool.snapshots k d).number → ⊥

  -- one of the dataset below the number stands before that place
  before_past : (past : ℕ) → IsParted past → (s : Snapshot) (one : IsOneBelow pool.snapshots s name bound) → one.there.0 < past
  before_past past parted s one = elim (cases_lt one.there.0 past) [
    | inl less ↦ less
    | inr most ↦
        absurd (parted.rest one.there.0 s most one.there.1
        (subst (λ (x : Snapshot). Passes name bound (dataset_of_snapshot x) x.number) (sym one.there.2) (inr (one.named, one.below))))
  ]

  -- so there is none, where that place is the first
  pub none_at_all : IsParted 0 → (s : Snapshot) → IsOneBelow pool.snapshots s name bound → ⊥
  none_at_all parted s one = let less = before_past 0 parted s one in omega (arith, less)

  module _ (place : ℕ) (inside : place < length pool.snapshots) (parted : IsParted (place + 1)) where
    -- and none, where the one just before that place is of another dataset
    pub none_of_it : ((d : Snapshot) → dataset_of_snapshot (get_or pool.snapshots place d) ≡ name → ⊥) → (s : Snapshot) → IsOneBelow pool.snapshots s name bound → ⊥
    none_of_it differs s one = go (cases_lt one.there.0 place)
      where
        go : (one.there.0 < place) ⊎ (place ≤ one.there.0) → ⊥
        go (inl less) = elim (parted.first place s (omega arith)) [
          | inl before ↦
              true≢false (sym (row_before_from dataset_of_snapshot (λ snapshot. snapshot.number) (get_or pool.snapshots place s) (get_or pool.snapshots one.there.0 s)
              (inl (subst (λ n. is_before (dataset_of_snapshot (get_or pool.snapshots place s)) n ≡ true) (sym (ap dataset_of_snapshot one.there.2 ∙ one.named)) before)))
              ∙ named.snapshots one.there.0 place s less inside)
          | inr both ↦ differs s both.0
        ]
        go (inr most) =
            let less = before_past (place + 1) parted s one in
            let k : one.there.0 ≡ place = omega (arith, most, less) in
            differs s (ap (λ i. dataset_of_snapshot (get_or pool.snapshots i s)) (sym k) ∙ ap dataset_of_snapshot one.there.2 ∙ one.named)

    -- and where it is of the dataset, it is the last
    pub last_of_it : ((d : Snapshot) → dataset_of_snapshot (get_or pool.snapshots place d) ≡ name) → HoldsAt (λ s. IsLastBelow pool s name bound) pool.snapshots place
    last_of_it own d = (
      record {
        there = Contains-at pool.snapshots place (get_or pool.snapshots place d) inside (λ e. get_or_default pool.snapshots place e d inside);
        named = own d;
        below = low (parted.first place d (omega arith));
      },
      λ other one. most other one (cases_lt one.there.0 place),
    )
      where
        low : Passes name bound (dataset_of_snapshot (get_or pool.snapshots place d)) (get_or pool.snapshots place d).number → IsBelow (get_or pool.snapshots place d).number bound
        low (inl before) = absurd (not_before_itself name (subst (λ n. is_before n name ≡ true) (own d) before))
        low (inr both) = both.1

        most : (other : Snapshot) (one : IsOneBelow pool.snapshots other name bound) → (one.there.0 < place) ⊎ (place ≤ one.there.0) → other.number ≤ (get_or pool.snapshots place d).number
        most other one (inl less) = elim (cases_lt (get_or pool.snapshots place d).number (get_or pool.snapshots one.there.0 d).number) [
          | inl falls ↦
              absurd (true≢false (sym (row_before_from dataset_of_snapshot (λ snapshot. snapshot.number) (get_or pool.snapshots place d) (get_or pool.snapshots one.there.0 d)
              (inr (own d ∙ sym (ap dataset_of_snapshot (get_or_default pool.snapshots one.there.0 d other one.there.1 ∙ one.there.2) ∙ one.named), falls)))
              ∙ named.snapshots one.there.0 place d less inside))
          | inr rises ↦ let e = ap (λ (x : Snapshot). x.number) (get_or_default pool.snapshots one.there.0 d other one.there.1 ∙ one.there.2) in omega (arith, rises, e)
        ]
        most other one (inr behind) =
            let less = before_past (place + 1) parted other one in
            let k : one.there.0 ≡ place = omega (arith, behind, less) in
            let e = ap (λ (x : Snapshot). x.number) (sym (ap (λ i. get_or pool.snapshots i d) k) ∙ get_or_default pool.snapshots one.there.0 d other one.there.1 ∙ one.there.2) in omega (arith, e)

-- in a dated pool one snapshot alone is the last
one_last : (pool : Pool) (name : List ℕ) (bound : Option ℕ) → Dated pool → (s t : Snapshot) → IsLastBelow pool s name bound → IsLastBelow pool t name bound → t ≡ s
one_last pool name bound dated s t one other = go (cases_lt one.0.there.0 other.0.there.0) (cases_lt other.0.there.0 one.0.there.0)
  where
    first : get_or pool.snapshots one.0.there.0 s ≡ s
    first = one.0.there.2

    second : get_or pool.snapshots other.0.there.0 s ≡ t
    second = get_or_default pool.snapshots other.0.there.0 s t other.0.there.1 ∙ other.0.there.2

    same : dataset_of_snapshot (get_or pool.snapshots one.0.there.0 s) ≡ dataset_of_snapshot (get_or pool.snapshots other.0.there.0 s)
    same = ap dataset_of_snapshot first ∙ one.0.named ∙ sym other.0.named ∙ sym (ap dataset_of_snapshot second)

    n : (get_or pool.snapshots one.0.there.0 s).number ≡ s.number
    n = ap (λ (x : Snapshot). x.number) first

    m : (get_or pool.snapshots other.0.there.0 s).number ≡ t.number
    m = ap (λ (x : Snapshot). x.number) second

    go : (one.0.there.0 < other.0.there.0) ⊎ (other.0.there.0 ≤ one.0.there.0) → (other.0.there.0 < one.0.there.0) ⊎ (one.0.there.0 ≤ other.0.there.0) → t ≡ s
    go (inl less) either =
        let rise = dated.rise one.0.there.0 other.0.there.0 s less other.0.there.1 same in let most = one.1 t other.0 in absurd (omega (arith, rise, most, n, m))
    go (inr most) (inl less) =
        let rise = dated.rise other.0.there.0 one.0.there.0 s less one.0.there.1 (sym same) in let least = other.1 s one.0 in absurd (omega (arith, rise, least, n, m))
    go (inr most) (inr least) = let k : other.0.there.0 ≡ one.0.there.0 = omega (arith, most, least) in sym second ∙ ap (λ i. get_or pool.snapshots i s) k ∙ first

-- what was found to be the last below a number
abbrev pub IsLastFound : Pool → List ℕ → Option ℕ → Option ℕ → Type 0
IsLastFound pool name bound found =
    MatchOption found ((other : Snapshot) → IsOneBelow pool.snapshots other name bound → ⊥) (λ place. HoldsAt (λ s. IsLastBelow pool s name bound) pool.snapshots place)

-- the nearest snapshot is the last, or else the origin
pub nearest_found : (pool : Pool) (name : List ℕ) (bound : Option ℕ) (found result : Option ℕ) {Else : Type 0} → (Else → IsOriginAt pool name result) → Dated pool
    → IsLastFound pool name bound found → MatchOption found Else (λ place. result ≡ Some place) → (s : Snapshot) → IsNearestIn pool s name bound ↔ StandsAtPlace pool.snapshots result s
nearest_found pool name bound None result origin dated none cases s = (go, λ at. inr ((origin cases s).1 at, none))
  where
    go : IsNearestIn pool s name bound → StandsAtPlace pool.snapshots result s
    go (inl last) = absurd (none s last.0)
    go (inr first) = (origin cases s).0 first.0
nearest_found pool name bound (Some place) result origin dated at cases s =
    subst (λ (r : Option ℕ). IsNearestIn pool s name bound ↔ StandsAtPlace pool.snapshots r s) (sym cases) (go, λ stands. inl (subst (λ (x : Snapshot). IsLastBelow pool x name bound) (stands s) (at s)))
  where
    go : IsNearestIn pool s name bound → StandsAtPlace pool.snapshots (Some place) s
    go (inl last) = λ d. one_last pool name bound dated s (get_or pool.snapshots place d) last (at d)
    go (inr first) = absurd (first.1 (get_or pool.snapshots place s) (at s).0)

-- whether a name and a number stand before others
abbrev comes_before : List ℕ → ℕ → List ℕ → ℕ → Bool
comes_before a m b n = is_before (dataset_of 64 a) (dataset_of 64 b) || (bytes_eq (dataset_of 64 a) (dataset_of 64 b) && nat_lt m n)

-- equal names and numbers stand before alike
same_before : (a b c d : List ℕ) (k l m n : ℕ) → a ≡ b → k ≡ l → c ≡ d → m ≡ n → comes_before a k c m ≡ comes_before b l d n
same_before a b c d k l m n e f g h =
    ap (λ x. comes_before x k c m) e ∙ ap (λ x. comes_before b x c m) f ∙ ap (λ x. comes_before b l x m) g ∙ ap (λ x. comes_before b l d x) h

-- the place that parts the rows parts the snapshots that they name
module _ (rows : Rows) (pool : Pool) (are : AreNamed rows pool) (named : IsNamed pool) (name : List ℕ) (bound : Option ℕ) where
  -- there are as many rows as snapshots
  as_many : length rows.snapshots ≡ length pool.snapshots
  as_many = length-Match NamesSnapshot rows.snapshots pool.snapshots are.snapshots

  -- a row names what stands at its place
  names_at : (k : ℕ) (r : row.Snapshot) (d : Snapshot) → k < length rows.snapshots → NamesSnapshot (get_or rows.snapshots k r) (get_or pool.snapshots k d)
  names_at k r d inside = Match-at NamesSnapshot rows.snapshots pool.snapshots are.snapshots k r d inside

  -- no row stands before an earlier one
  rows_ordered : (i j : ℕ) (r : row.Snapshot) → i < j → j < length rows.snapshots
      → comes_before (get_or rows.snapshots j r).name (get_or rows.snapshots j r).number (get_or rows.snapshots i r).name (get_or rows.snapshots i r).number ≡ false
  rows_ordered i j r less inside =
      let end : j < length pool.snapshots = omega (arith, inside, as_many) in
      let d = (some_at pool.snapshots j end).0 in
      let late = names_at j r d inside in
      let early = names_at i r d (omega arith) in
      same_before (get_or rows.snapshots j r).name (get_or pool.snapshots j d).name (get_or rows.snapshots i r).name (get_or pool.snapshots i d).name
      (get_or rows.snapshots j r).number (get_or pool.snapshots j d).number (get_or rows.snapshots i r).number (get_or pool.snapshots i d).number
      (sym late.name) (sym late.number) (sym early.name) (sym early.number) ∙ named.snapshots i j d less end

  -- so what stands before is first
  pub rows_parted : IsPartitionedBy (stands_below name bound) rows.snapshots
  rows_parted i j r most inside passes = passes_tests name bound (at i) (go (cases_lt i j))
    where
      at : ℕ → row.Snapshot
      at k = get_or rows.snapshots k r

      later : Passes name bound (dataset_of 64 (at j).name) (at j).number
      later = passes_from name bound (at j) passes

      apart : i < j → (is_before (dataset_of 64 (at j).name) (dataset_of 64 (at i).name) ≡ true) ⊎ ((dataset_of 64 (at j).name ≡ dataset_of 64 (at i).name) × ((at j).number < (at i).number)) → ⊥
      apart less back =
          true≢false (sym (row_before_from (λ (s : row.Snapshot). dataset_of 64 s.name) (λ (s : row.Snapshot). s.number) (at j) (at i) back) ∙ rows_ordered i j r less inside)

      same : i < j → dataset_of 64 (at i).name ≡ name → Passes name bound (dataset_of 64 (at j).name) (at j).number → IsBelow (at i).number bound
      same less own (inl before) = absurd (apart less (inl (subst (λ n. is_before (dataset_of 64 (at j).name) n ≡ true) (sym own) before)))
      same less own (inr both) = elim (cases_lt (at j).number (at i).number) [
        | inl falls ↦ absurd (apart less (inr (both.0 ∙ sym own, falls)))
        | inr rises ↦ below_lower (at i).number (at j).number bound rises both.1
      ]

      never : i < j → is_before name (dataset_of 64 (at i).name) ≡ true → Passes name bound (dataset_of 64 (at j).name) (at j).number → ⊥
      never less behind (inl before) = apart less (inl (before_trans (dataset_of 64 (at j).name) name (dataset_of 64 (at i).name) before behind))
      never less behind (inr both) = apart less (inl (subst (λ n. is_before n (dataset_of 64 (at i).name) ≡ true) (sym both.0) behind))

      go : (i < j) ⊎ (j ≤ i) → Passes name bound (dataset_of 64 (at i).name) (at i).number
      go (inr least) = let k : j ≡ i = omega (arith, most, least) in subst (λ k. Passes name bound (dataset_of 64 (at k).name) (at k).number) k later
      go (inl less) = elim (before_cases (dataset_of 64 (at i).name) name) [
        | inl before ↦ inl before
        | inr (inl own) ↦ inr (own, same less own later)
        | inr (inr behind) ↦ absurd (never less behind later)
      ]

  -- and the snapshots are parted where the rows are
  pub parted_at : (past : ℕ) → past ≤ length rows.snapshots
      → IsPartitionPoint (λ own. stands_below name bound own ≡ true) (λ own. stands_below name bound own ≡ false) rows.snapshots past → IsParted pool named name bound past
  parted_at past most point = record {
    first = λ k d less.
        let inside : k < length rows.snapshots = omega (arith, less, most) in
        let r = (some_at rows.snapshots k inside).0 in
        let names = names_at k r d inside in
        moved (dataset_of 64 (get_or rows.snapshots k r).name) (dataset_of_snapshot (get_or pool.snapshots k d)) (get_or rows.snapshots k r).number (get_or pool.snapshots k d).number
        (ap (λ (n : List ℕ). dataset_of 64 n) (sym names.name)) (sym names.number) (passes_from name bound (get_or rows.snapshots k r) (point.0 k r (omega arith) less));
    rest = λ k d least end passes.
        let inside : k < length rows.snapshots = omega (arith, end, as_many) in
        let r = (some_at rows.snapshots k inside).0 in
        let names = names_at k r d inside in
        true≢false (sym (passes_tests name bound (get_or rows.snapshots k r)
        (moved (dataset_of_snapshot (get_or pool.snapshots k d)) (dataset_of 64 (get_or rows.snapshots k r).name) (get_or pool.snapshots k d).number (get_or rows.snapshots k r).number
        (ap (λ (n : List ℕ). dataset_of 64 n) names.name) names.number passes))
        ∙ point.1 k r least inside);
  }
    where
      moved : (a b : List ℕ) (m n : ℕ) → a ≡ b → m ≡ n → Passes name bound a m → Passes name bound b n
      moved a b m n e f passes = subst (λ k. Passes name bound b k) f (subst (λ x. Passes name bound x m) e passes)

  -- so is what is found just before that place, by its row's dataset
  module _ (list : List row.Snapshot) (is_list : list ≡ rows.snapshots) (past : ℕ) (most : past ≤ length list)
      (point : IsPartitionedBy (stands_below name bound) list → IsPartitionPoint (λ own. stands_below name bound own ≡ true) (λ own. stands_below name bound own ≡ false) list past) where
    -- the place parts the snapshots
    parted : IsParted pool named name bound past
    parted =
        parted_at past (omega (arith, most, ap length is_list))
        (subst (λ (l : List row.Snapshot). IsPartitionPoint (λ own. stands_below name bound own ≡ true) (λ own. stands_below name bound own ≡ false) l past) is_list
        (point (subst (λ (l : List row.Snapshot). IsPartitionedBy (stands_below name bound) l) (sym is_list) rows_parted)))

    -- none is found where no row passes
    pub none_found : (1 ≤ past → ⊥) → IsLastFound pool name bound None
    none_found none =
        let first : past ≡ 0 = omega (arith, none) in none_at_all pool named name bound (subst (λ k. IsParted pool named name bound k) first parted)

    -- and else the last, where its row is of the dataset
    pub last_found : (place : ℕ) (own : row.Snapshot) (same : Bool) (result : Option ℕ) → 1 ≤ past → place ≡ past - 1 → own ≡ get_or list place own
        → same ≡ bytes_eq (dataset_of 64 own.name) name → result ≡ then_some same place → IsLastFound pool name bound result
    last_found place own same result least is own_is tells made = subst (λ (r : Option ℕ). IsLastFound pool name bound r) (sym made) (go same tells)
      where
        inside : place < length rows.snapshots
        inside = omega (arith, least, is, most, ap length is_list)

        end : place < length pool.snapshots
        end = omega (arith, inside, as_many)

        next : IsParted pool named name bound (place + 1)
        next = let k : past ≡ place + 1 = omega (arith, least, is) in subst (λ k. IsParted pool named name bound k) k parted

        dataset_is : (d : Snapshot) → dataset_of_snapshot (get_or pool.snapshots place d) ≡ dataset_of 64 own.name
        dataset_is d =
            ap (λ (n : List ℕ). dataset_of 64 n)
            ((names_at place own d inside).name ∙ ap (λ (l : List row.Snapshot). (get_or l place own).name) (sym is_list) ∙ ap (λ (r : row.Snapshot). r.name) (sym own_is))

        go : (b : Bool) → b ≡ bytes_eq (dataset_of 64 own.name) name → IsLastFound pool name bound (then_some b place)
        go true e = last_of_it pool named name bound place end next (λ d. dataset_is d ∙ same_bytes (dataset_of 64 own.name) name (sym e))
        go false e =
            none_of_it pool named name bound place end next (λ d one. true≢false (sym (bytes_same (dataset_of 64 own.name) name (sym (dataset_is d) ∙ one)) ∙ sym e))
