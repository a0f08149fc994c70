-- A snapshot is numbered in turn where its number is above that of the one that was found for it.
use Rattle.std.proofs.Common.{◌≡◌, ◌↔◌, ◌⊎◌, inl, inr, ℕ, ◌+◌, ◌-◌, ◌<◌, ◌≤◌, Bool, true, false, nat_lt, List, length, get_or, Option, Some, None, refl, sym, ap, ◌∙◌, subst, arith}
use Rattle.std.specs.Bool.{MatchBool, then_some}
use Rattle.std.specs.List.{HoldsAt}
use Rattle.std.specs.Option.{IfSome, MatchOption}
use Rattle.std.specs.Str.{bytes_eq}
use Rattle.std.proofs.Math.Dec.{leb}
use Rattle.std.proofs.lemmas.Bool.{true≢false}
use Rattle.std.proofs.lemmas.List.{get_or_default}
use Rattle.zst_dir.specs.RowNames.{AreNamed, NamesSnapshot}
use Rattle.zst_dir.specs.Rows.{Rows}
use Rattle.zst_dir.specs.declared.rows.Snapshot as row
use Rattle.zst_dir.proofs.Matches.{length-Match}
use Rattle.zst_model.specs.pools.Ancestry.{IsOrigin}
use Rattle.zst_model.specs.pools.Pool.{Pool, Snapshot}
use Rattle.zst_model.proofs.OrderLaws.{same_bytes, bytes_same}
use Rattle.zst_names.specs.Names.{dataset_of}
use Rattle.zst_check.specs.FailingPlaces.{IsMisnumbered, AbovePool, NotAboveOther, NotAboveOrigin, LateSnapshot}
use Rattle.zst_check.specs.Findings.{StandsAtPlace}
use Rattle.zst_check.specs.NumberedPlaces.{IsNumberedAt}
use Rattle.zst_check.specs.NumbersInTurn.{AreNumberedInTurn, IsFirstOfDataset, dataset_at, snapshot_at}
use Rattle.zst_check.proofs.NamedPlaces.{Match-at, Contains-at, some_at}
use Rattle.zst_check.proofs.Tests.{less_decides, most_decides}

-- what was found of the one just before a place
abbrev pub IsNeighbour : Pool → ℕ → Option ℕ → Type 0
IsNeighbour pool place found =
    MatchOption found ((default : Snapshot) → IsFirstOfDataset pool default place)
    (λ before. (before + 1 ≡ place) × ((default : Snapshot) → dataset_at pool default before ≡ dataset_at pool default place))

-- what was found to be the dataset's origin
abbrev pub IsOriginAt : Pool → List ℕ → Option ℕ → Type 0
IsOriginAt pool name found = (origin : Snapshot) → IsOrigin pool origin name ↔ StandsAtPlace pool.snapshots found origin

module _ (rows : Rows) (pool : Pool) (are : AreNamed rows pool) where
  -- a row's dataset is that of what stands at its place
  pub dataset_is : (k : ℕ) (own : row.Snapshot) (d : Snapshot) → k < length rows.snapshots → own ≡ get_or rows.snapshots k own → dataset_at pool d k ≡ dataset_of 64 own.name
  dataset_is k own d inside is =
      ap (λ (n : List ℕ). dataset_of 64 n)
      ((Match-at NamesSnapshot rows.snapshots pool.snapshots are.snapshots k own d inside).name ∙ ap (λ (one : row.Snapshot). one.name) (sym is))

  -- the neighbour that is found, where the datasets of both are compared
  pub neighbour_found : (place before : ℕ) (one other : row.Snapshot) (same : Bool) (result : Option ℕ) → 1 ≤ place → before ≡ place - 1 → place < length rows.snapshots
      → one ≡ get_or rows.snapshots before one → other ≡ get_or rows.snapshots place other
      → same ≡ bytes_eq (dataset_of 64 one.name) (dataset_of 64 other.name) → result ≡ then_some same before → IsNeighbour pool place result
  neighbour_found place before one other same result least is inside one_is other_is tells made = rw made (go same tells)
    where
      next : before + 1 ≡ place
      next = omega (arith, least, is)

      first : (d : Snapshot) → dataset_at pool d before ≡ dataset_of 64 one.name
      first d = dataset_is before one d (omega (arith, inside, next)) one_is

      second : (d : Snapshot) → dataset_at pool d place ≡ dataset_of 64 other.name
      second d = dataset_is place other d inside other_is

      go : (b : Bool) → b ≡ bytes_eq (dataset_of 64 one.name) (dataset_of 64 other.name) → IsNeighbour pool place (then_some b before)
      go true e = (next, λ d. first d ∙ same_bytes (dataset_of 64 one.name) (dataset_of 64 other.name) (sym e) ∙ sym (second d))
      go false e = λ d other_before step alike.
          let k : other_before ≡ before = omega (arith, step, next) in
          true≢false (sym (bytes_same (dataset_of 64 one.name) (dataset_of 64 other.name)
          (sym (first d) ∙ ap (λ i. dataset_at pool d i) (sym k) ∙ alike ∙ second d)) ∙ sym e)

-- the one just before a place is of its dataset
pub record IsNext (pool : Pool) (place before : ℕ) : Type 0 where
  pub next : before + 1 ≡ place
  pub same : (default : Snapshot) → dataset_at pool default before ≡ dataset_at pool default place

-- none is, and this is the dataset's origin
pub record IsFirst (pool : Pool) (place : ℕ) (found : Option ℕ) : Type 0 where
  pub first : (default : Snapshot) → IsFirstOfDataset pool default place
  pub origin : (default : Snapshot) → IsOriginAt pool (dataset_at pool default place) found

-- what the number at a place is to be above
abbrev pub IsLower : Pool → ℕ → Option ℕ → Type 0
IsLower pool place None = IsFirst pool place None
IsLower pool place (Some before) = IsNext pool place before ⊎ IsFirst pool place (Some before)

-- the neighbour, or else the origin
pub lower_found : (pool : Pool) (place : ℕ) (name : List ℕ) (found result : Option ℕ) {Else : Type 0} → (Else → IsOriginAt pool name result)
    → ((d : Snapshot) → dataset_at pool d place ≡ name) → IsNeighbour pool place found → MatchOption found Else (λ before. result ≡ Some before) → IsLower pool place result
lower_found pool place name None None origin same neighbour cases = record { first = neighbour; origin = λ d. subst (λ n. IsOriginAt pool n None) (sym (same d)) (origin cases) }
lower_found pool place name None (Some before) origin same neighbour cases =
    inr (record { first = neighbour; origin = λ d. subst (λ n. IsOriginAt pool n (Some before)) (sym (same d)) (origin cases) })
lower_found pool place name (Some before) result origin same neighbour cases =
    subst (λ (r : Option ℕ). IsLower pool place r) (sym cases) (inl (record { next = neighbour.0; same = neighbour.1 }))

module _ (pool : Pool) (place : ℕ) (inside : place < length pool.snapshots) where
  -- what stands at a place, whatever stands behind the end
  at_default : (k : ℕ) (d e : Snapshot) → k < length pool.snapshots → (snapshot_at pool d k).number ≡ (snapshot_at pool e k).number
  at_default k d e within = ap (λ (s : Snapshot). s.number) (get_or_default pool.snapshots k d e within)

  -- where nothing was found, it is enough that the number isn't above the pool
  pub none_numbered : ((d : Snapshot) → (snapshot_at pool d place).number ≤ pool.number) → IsLower pool place None → IsNumberedAt pool place
  none_numbered most lower = record {
    number = most;
    next = λ before d step same. absurd (lower.first d before step same);
    first = λ d origin is_first is. absurd ((lower.origin d origin).0 is);
  }

  -- and else that it is above the number of what was found
  pub some_numbered : (before : ℕ) → ((d : Snapshot) → (snapshot_at pool d place).number ≤ pool.number) → IsLower pool place (Some before)
      → ((d : Snapshot) → (snapshot_at pool d before).number < (snapshot_at pool d place).number) → IsNumberedAt pool place
  some_numbered before most (inl lower) above = record {
    number = most;
    next = λ other d step same. let k : before ≡ other = omega (arith, step, lower.next) in subst (λ i. (snapshot_at pool d i).number < (snapshot_at pool d place).number) k (above d);
    first = λ d origin is_first is. absurd (is_first before lower.next (lower.same d));
  }
  some_numbered before most (inr lower) above = record {
    number = most;
    next = λ other d step same. absurd (lower.first d other step same);
    first = λ d origin is_first is. subst (λ (s : Snapshot). s.number < (snapshot_at pool d place).number) ((lower.origin d origin).0 is d) (above d);
  }

  -- where it isn't, the snapshot is misnumbered
  pub not_numbered : (before : ℕ) → before < length pool.snapshots → IsLower pool place (Some before)
      → ((d : Snapshot) → (snapshot_at pool d place).number ≤ (snapshot_at pool d before).number) → HoldsAt (IsMisnumbered pool) pool.snapshots place
  not_numbered before within (inl lower) most d =
      NotAboveOther (snapshot_at pool d before) (record {
        place = before;
        behind = place;
        rise = omega (arith, lower.next);
        inside = inside;
        one_at = λ e. get_or_default pool.snapshots before e d within;
        other_at = λ e. get_or_default pool.snapshots place e d inside;
      }) (lower.same d) (most d)
  not_numbered before within (inr lower) most d =
      NotAboveOrigin (snapshot_at pool d before) ((lower.origin d (snapshot_at pool d before)).1 (λ e. get_or_default pool.snapshots before e d within)) (most d)

  -- and so is one whose number is above the pool
  pub above_pool : ((d : Snapshot) → pool.number < (snapshot_at pool d place).number) → HoldsAt (IsMisnumbered pool) pool.snapshots place
  above_pool above d = AbovePool (above d)

-- what was found stands in a list, as the neighbour and the origin do
pub lower_inside : (end : ℕ) (found result : Option ℕ) {Else : Type 0} → (Else → IfSome result (λ place. place < end)) → IfSome found (λ place. place < end)
    → MatchOption found Else (λ place. result ≡ Some place) → IfSome result (λ place. place < end)
lower_inside end None result origin neighbour cases = origin cases
lower_inside end (Some place) result origin neighbour cases = subst (λ (r : Option ℕ). IfSome r (λ p. p < end)) (sym cases) neighbour

-- what the test of the numbers of rows decides
module _ (rows : Rows) (pool : Pool) (are : AreNamed rows pool) (list : List row.Snapshot) (is_list : list ≡ rows.snapshots) where
  -- a number that is read from a row is that of what stands at its place
  number_is : (k : ℕ) (own : row.Snapshot) (d : Snapshot) → k < length rows.snapshots → (snapshot_at pool d k).number ≡ (get_or list k own).number
  number_is k own d inside =
      (Match-at NamesSnapshot rows.snapshots pool.snapshots are.snapshots k own d inside).number ∙ ap (λ (l : List row.Snapshot). (get_or l k own).number) (sym is_list)

  -- there are as many rows as snapshots
  as_many : length rows.snapshots ≡ length pool.snapshots
  as_many = length-Match NamesSnapshot rows.snapshots pool.snapshots are.snapshots

  module _ (place number : ℕ) (own : row.Snapshot) (own_is : own ≡ get_or list place own) (inside : place < length rows.snapshots) (same : pool.number ≡ number) where
    -- the place is one of the snapshots
    end : place < length pool.snapshots
    end = omega (arith, inside, as_many)

    -- the number of the row is that of what stands there
    own_number : (d : Snapshot) → (snapshot_at pool d place).number ≡ own.number
    own_number d = number_is place own d inside ∙ ap (λ (r : row.Snapshot). r.number) (sym own_is)

    -- a number above the pool fails
    pub decided_above : number < own.number → MatchBool (leb own.number number) (IsNumberedAt pool place) (HoldsAt (IsMisnumbered pool) pool.snapshots place)
    decided_above less =
        most_decides own.number number (λ most. absurd (omega (arith, less, most)))
        (λ above. above_pool pool place end (λ d. let e = own_number d in omega (arith, e, above, same)))

    -- where nothing was found, it passes where it isn't above the pool
    pub decided_none : IsLower pool place None → MatchBool (leb own.number number) (IsNumberedAt pool place) (HoldsAt (IsMisnumbered pool) pool.snapshots place)
    decided_none lower =
        most_decides own.number number
        (λ most. none_numbered pool place end (λ d. let e = own_number d in omega (arith, e, most, same)) lower)
        (λ above. above_pool pool place end (λ d. let e = own_number d in omega (arith, e, above, same)))

    -- and else where it is above the number of what was found
    pub decided_some : (before : ℕ) (other : row.Snapshot) → before < length rows.snapshots → own.number ≤ number → IsLower pool place (Some before)
        → MatchBool (nat_lt (get_or list before other).number own.number) (IsNumberedAt pool place) (HoldsAt (IsMisnumbered pool) pool.snapshots place)
    decided_some before other within most lower =
        less_decides (get_or list before other).number own.number
        (λ less. some_numbered pool place end before (λ d. let e = own_number d in omega (arith, e, most, same)) lower
        (λ d. let e = own_number d in let f = number_is before other d within in omega (arith, e, f, less)))
        (λ least. not_numbered pool place end before (omega (arith, within, as_many)) lower
        (λ d. let e = own_number d in let f = number_is before other d within in omega (arith, e, f, least)))

  -- a misnumbered snapshot is told by its row
  pub late_found : (place : ℕ) (own : row.Snapshot) → place < length list → own ≡ get_or list place own → HoldsAt (IsMisnumbered pool) pool.snapshots place → LateSnapshot pool own.name own.name 0 0
  late_found place own within is misnumbered =
      let inside : place < length rows.snapshots = omega (arith, within, ap length is_list) in
      let one = some_at pool.snapshots place (omega (arith, inside, as_many)) in record {
        snapshot = one.0;
        there = Contains-at pool.snapshots place one.0 (omega (arith, inside, as_many)) one.1;
        named =
            ap (λ (s : Snapshot). s.name) (sym (one.1 one.0)) ∙ (Match-at NamesSnapshot rows.snapshots pool.snapshots are.snapshots place own one.0 inside).name
            ∙ ap (λ (l : List row.Snapshot). (get_or l place own).name) (sym is_list) ∙ ap (λ (r : row.Snapshot). r.name) (sym is);
        twice = refl;
        no_object = refl;
        no_block = refl;
        misnumbered = subst (λ (s : Snapshot). IsMisnumbered pool s) (one.1 one.0) (misnumbered one.0);
      }

-- all are numbered in turn where each is
pub all_numbered : (pool : Pool) → ((k : ℕ) → k < length pool.snapshots → IsNumberedAt pool k) → AreNumberedInTurn pool
all_numbered pool each = record {
  numbers = λ k d inside. (each k inside).number d;
  next = λ before place d step inside same. (each place inside).next before d step same;
  first = λ place d origin inside is_first is. (each place inside).first d origin is_first is;
}
