-- A bookmark is one of its dataset where its row passes the tests.
use Rattle.std.proofs.Common.{◌≡◌, inl, inr, ℕ, ◌<◌, ◌≤◌, Bool, true, false, not, ◌||◌, ◌==◌, List, length, get_or, Option, Some, None, is_some, refl, sym, ap, ◌∙◌, subst, arith}
use Rattle.std.specs.List.{list_all, position}
use Rattle.std.specs.Str.{bytes_eq}
use Rattle.std.proofs.lemmas.Bool.{true≢false, not-true, eqb-true, eq-eqb, or_cases, or_left, or_right}
use Rattle.std.proofs.lemmas.List.Sums.{AllPass-from_list_all, list_all-from_AllPass}
use Rattle.zst_dir.specs.RowNames.{AreNamed, NamesBookmark, NamesDataset, NamesSnapshot}
use Rattle.zst_dir.specs.Rows.{Rows}
use Rattle.zst_dir.specs.declared.rows.Bookmark as row
use Rattle.zst_dir.specs.declared.rows.Snapshot as rows
use Rattle.zst_dir.proofs.Matches.{length-Match}
use Rattle.zst_model.specs.pools.Ancestry.{IsOrigin}
use Rattle.zst_model.specs.pools.Pool.{Pool, Bookmark, Snapshot, HasDataset, dataset_of_bookmark, dataset_of_snapshot}
use Rattle.zst_model.specs.pools.Soundness.{IsBookmarkOf}
use Rattle.zst_model.proofs.OrderLaws.{same_bytes, bytes_same}
use Rattle.zst_names.specs.Names.{dataset_of}
use Rattle.zst_check.specs.FailingPlaces.{BadBookmark}
use Rattle.zst_check.specs.RowTests.{has_its_guid}
use Rattle.zst_check.proofs.NamedPlaces.{Match-at, Contains-at, some_at, none_called, found_called, found_inside}

-- what the test of a guid says
guid_from : (mark : row.Bookmark) (other : rows.Snapshot) → has_its_guid mark other ≡ true → dataset_of 64 other.name ≡ dataset_of 35 mark.name → other.number ≡ mark.number → mark.guid ≡ other.guid
guid_from mark other passes same number =
    elim (or_cases (not (other.number == mark.number) || (other.guid == mark.guid)) (not (bytes_eq (dataset_of 64 other.name) (dataset_of 35 mark.name))) passes) [
      | inl either ↦ elim (or_cases (not (other.number == mark.number)) (other.guid == mark.guid) either) [
        | inl differs ↦ absurd (true≢false (sym (eq-eqb other.number mark.number number) ∙ not-true (other.number == mark.number) differs))
        | inr guid ↦ sym (eqb-true other.guid mark.guid guid)
      ]
      | inr differs ↦
          absurd (true≢false (sym (bytes_same (dataset_of 64 other.name) (dataset_of 35 mark.name) same) ∙ not-true (bytes_eq (dataset_of 64 other.name) (dataset_of 35 mark.name)) differs))
    ]

-- and where so it is, the test passes
guid_tests : (mark : row.Bookmark) (other : rows.Snapshot) → (dataset_of 64 other.name ≡ dataset_of 35 mark.name → other.number ≡ mark.number → mark.guid ≡ other.guid) → has_its_guid mark other ≡ true
guid_tests mark other says = go (other.number == mark.number) (bytes_eq (dataset_of 64 other.name) (dataset_of 35 mark.name)) refl refl
  where
    go : (a b : Bool) → (other.number == mark.number) ≡ a → bytes_eq (dataset_of 64 other.name) (dataset_of 35 mark.name) ≡ b → ((not a || (other.guid == mark.guid)) || not b) ≡ true
    go false b e f = refl
    go true false e f = or_right (other.guid == mark.guid) true refl
    go true true e f =
        or_left (other.guid == mark.guid) false
        (eq-eqb other.guid mark.guid (sym (says (same_bytes (dataset_of 64 other.name) (dataset_of 35 mark.name) f) (eqb-true other.number mark.number e))))

module _ (dir : Rows) (pool : Pool) (are : AreNamed dir pool) (own : row.Bookmark) (mark : Bookmark) (names : NamesBookmark own mark) where
  -- its dataset is that of its row
  dataset_is : dataset_of_bookmark mark ≡ dataset_of 35 own.name
  dataset_is = ap (λ (n : List ℕ). dataset_of 35 n) names.name

  -- its dataset is there where a row has that name
  dataset_there : (name : List ℕ) → is_some (position (λ dataset. bytes_eq dataset.name name) dir.datasets) ≡ true → HasDataset pool name
  dataset_there name some = go (position (λ dataset. bytes_eq dataset.name name) dir.datasets) refl some
    where
      go : (found : Option ℕ) → position (λ dataset. bytes_eq dataset.name name) dir.datasets ≡ found → is_some found ≡ true → HasDataset pool name
      go None e h = absurd (true≢false (sym h))
      go (Some place) e h =
          let inside = found_inside NamesDataset (λ row. row.name) (λ dataset. dataset.name) (λ row dataset is. is.name) dir.datasets pool.datasets are.datasets name place e in
          let one = some_at pool.datasets place (omega (arith, inside, length-Match NamesDataset dir.datasets pool.datasets are.datasets)) in
          let its = found_called NamesDataset (λ row. row.name) (λ dataset. dataset.name) (λ row dataset is. is.name) dir.datasets pool.datasets are.datasets name place e one.0 one.1 in
          (one.0, its.0, its.1)

  -- and such a row is there where the dataset is
  dataset_found : (name : List ℕ) → HasDataset pool name → is_some (position (λ dataset. bytes_eq dataset.name name) dir.datasets) ≡ true
  dataset_found name has = go (position (λ dataset. bytes_eq dataset.name name) dir.datasets) refl
    where
      go : (found : Option ℕ) → position (λ dataset. bytes_eq dataset.name name) dir.datasets ≡ found → is_some found ≡ true
      go None e = absurd (none_called NamesDataset (λ row. row.name) (λ dataset. dataset.name) (λ row dataset is. is.name) dir.datasets pool.datasets are.datasets name e has.0 has.1 has.2)
      go (Some place) e = refl

  -- a row that passes all tests has its bookmark in its place
  pub placed_from : is_some (position (λ dataset. bytes_eq dataset.name (dataset_of 35 own.name)) dir.datasets) ≡ true → own.number ≤ pool.number
      → ((origin : Snapshot) → IsOrigin pool origin (dataset_of 35 own.name) → origin.number < own.number) → list_all (has_its_guid own) dir.snapshots ≡ true → IsBookmarkOf pool mark
  placed_from there most above all = record {
    dataset = subst (λ n. HasDataset pool n) (sym dataset_is) (dataset_there (dataset_of 35 own.name) there);
    above = λ origin is. let less = above origin (subst (λ n. IsOrigin pool origin n) dataset_is is) in omega (arith, less, names.number);
    number = omega (arith, most, names.number);
    guid = λ s has same number.
        let inside : has.0 < length dir.snapshots = omega (arith, has.1, length-Match NamesSnapshot dir.snapshots pool.snapshots are.snapshots) in
        let other = (some_at dir.snapshots has.0 inside).0 in
        let is = Match-at NamesSnapshot dir.snapshots pool.snapshots are.snapshots has.0 other s inside in
        names.guid ∙ guid_from own (get_or dir.snapshots has.0 other) (AllPass-from_list_all (has_its_guid own) dir.snapshots all has.0 other inside)
        (ap (λ (n : List ℕ). dataset_of 64 n) (sym is.name) ∙ ap dataset_of_snapshot has.2 ∙ same ∙ dataset_is)
        (sym is.number ∙ ap (λ (x : Snapshot). x.number) has.2 ∙ number ∙ names.number)
        ∙ sym is.guid ∙ ap (λ (x : Snapshot). x.guid) has.2;
  }

  -- and that of a bookmark in its place passes them
  module _ (is : IsBookmarkOf pool mark) where
    -- that of its dataset
    pub passes_dataset : is_some (position (λ dataset. bytes_eq dataset.name (dataset_of 35 own.name)) dir.datasets) ≡ true
    passes_dataset = dataset_found (dataset_of 35 own.name) (subst (λ n. HasDataset pool n) dataset_is is.dataset)

    -- that of its number
    pub passes_number : own.number ≤ pool.number
    passes_number = let most = is.number in omega (arith, most, names.number)

    -- that of the origin
    pub passes_origin : (origin : Snapshot) → IsOrigin pool origin (dataset_of 35 own.name) → origin.number < own.number
    passes_origin origin one = let less = is.above origin (subst (λ n. IsOrigin pool origin n) (sym dataset_is) one) in omega (arith, less, names.number)

    -- and that of the guid
    pub passes_guids : list_all (has_its_guid own) dir.snapshots ≡ true
    passes_guids = list_all-from_AllPass (has_its_guid own) dir.snapshots (λ i other inside.
        let one = some_at pool.snapshots i (omega (arith, inside, length-Match NamesSnapshot dir.snapshots pool.snapshots are.snapshots)) in
        let its = Match-at NamesSnapshot dir.snapshots pool.snapshots are.snapshots i other one.0 inside in
        guid_tests own (get_or dir.snapshots i other) (λ same number.
        let guid = is.guid one.0 (Contains-at pool.snapshots i one.0 (omega (arith, inside, length-Match NamesSnapshot dir.snapshots pool.snapshots are.snapshots)) one.1)
        (ap dataset_of_snapshot (sym (one.1 one.0)) ∙ ap (λ (n : List ℕ). dataset_of 64 n) its.name ∙ same ∙ sym dataset_is)
        (ap (λ (x : Snapshot). x.number) (sym (one.1 one.0)) ∙ its.number ∙ number ∙ sym names.number) in
        sym names.guid ∙ guid ∙ ap (λ (x : Snapshot). x.guid) (sym (one.1 one.0)) ∙ its.guid))

-- what was found of the bookmark whose row stands at a place
module _ (dir : Rows) (pool : Pool) (are : AreNamed dir pool) (list : List row.Bookmark) (is_list : list ≡ dir.bookmarks) (place : ℕ) (own : row.Bookmark) (within : place < length list)
    (is : own ≡ get_or list place own) where
  -- the place is one of the rows
  inside : place < length dir.bookmarks
  inside = omega (arith, within, ap length is_list)

  -- the row names what stands there
  names_at : (d : Bookmark) → NamesBookmark own (get_or pool.bookmarks place d)
  names_at d =
      subst (λ (r : row.Bookmark). NamesBookmark r (get_or pool.bookmarks place d)) (ap (λ (l : List row.Bookmark). get_or l place own) (sym is_list) ∙ sym is)
      (Match-at NamesBookmark dir.bookmarks pool.bookmarks are.bookmarks place own d inside)

  -- it is in its place, where each that the row names is
  pub placed_at : ((mark : Bookmark) → NamesBookmark own mark → IsBookmarkOf pool mark) → (d : Bookmark) → IsBookmarkOf pool (get_or pool.bookmarks place d)
  placed_at each d = each (get_or pool.bookmarks place d) (names_at d)

  -- and is told where none is
  pub bad_found : ((mark : Bookmark) → NamesBookmark own mark → IsBookmarkOf pool mark → ⊥) → BadBookmark pool own.name (dataset_of 35 own.name) 0 0
  bad_found none =
      let end : place < length pool.bookmarks = omega (arith, inside, length-Match NamesBookmark dir.bookmarks pool.bookmarks are.bookmarks) in
      let one = some_at pool.bookmarks place end in
      let names : NamesBookmark own one.0 = subst (λ (x : Bookmark). NamesBookmark own x) (one.1 one.0) (names_at one.0) in record {
        bookmark = one.0;
        there = Contains-at pool.bookmarks place one.0 end one.1;
        named = names.name;
        dataset = ap (λ (n : List ℕ). dataset_of 35 n) names.name;
        no_object = refl;
        no_block = refl;
        fails = none one.0 names;
      }
