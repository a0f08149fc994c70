-- The report of the pool with two faults.
use Rattle.std.proofs.Common.{◌≡◌, inl, inr, ℕ, ◌<◌, ◌≤◌, Bool, true, false, List, [], ◌∷◌, Some, None, Contains, refl, ◌∙◌, ap, arith, codes, if◌then◌else◌, ◌==◌}
use Rattle.std.proofs.lemmas.List.Elements.{All-nil, All-cons, All-contains}
use Rattle.std.proofs.lemmas.List.Kept.{AllPairs-cons}
use Rattle.zst_model.specs.pools.Ancestry.{IsOrigin}
use Rattle.zst_model.specs.pools.Pool.{Bookmark, Dataset, Snapshot, HasDataset, dataset_of_snapshot}
use Rattle.zst_model.specs.pools.Rows.{head_row, snapshot_row}
use Rattle.zst_model.specs.pools.Soundness.{Dated, DatedUpTo, IsBookmarkOf}
use Rattle.zst_model.specs.states.State.{number_bound, is_number}
use Rattle.zst_model.proofs.InsertedLaws.{AllPairs-nil, contains_cases, contains_first, contains_nothing}
use Rattle.zst_laws.specs.NearestSnapshots.{IsNearestIn}
use Rattle.zst_laws.proofs.pools.Rows.{bytes_differ}
use Rattle.zst_check.specs.FailingPlaces.{Differs, BadBookmark, HeadState, number_itself}
use Rattle.zst_check.specs.Reports.{AreBookmarks, IsUnsoundAt, AtDate, AtSnapshot, AtBookmark, AtState, AtList}
use Rattle.zst_check.specs.TwoFaults.{taken, tank, lost, pool_with, BookmarkIsTold, HeadDiffers, HeadIsNotTold, HeadIsTold}

abbrev tank_a : List ℕ
tank_a = codes "tank/a"

abbrev tank_b : List ℕ
tank_b = codes "tank/b"

abbrev tank_a_s : List ℕ
tank_a_s = codes "tank/a@s"

one_is : is_number 1 ≡ true
unfolding number_bound
one_is = refl

-- the dates of the head
date_of : (t : Bool) → (if t then 2 else 0) ≤ 5
date_of true = omega arith
date_of false = omega arith

abbrev Rises : Snapshot → Snapshot → Type 0
Rises a b = dataset_of_snapshot a ≡ dataset_of_snapshot b → a.number < b.number

module _ (bookmarks : List Bookmark) where
  -- its one snapshot and its one dataset
  one_snapshot : (snapshot : Snapshot) → Contains (pool_with bookmarks).snapshots snapshot → taken ≡ snapshot
  one_snapshot snapshot there = elim (contains_cases taken [] snapshot there) [ inl same ↦ same | inr none ↦ absurd (contains_nothing snapshot none) ]

  one_dataset : (dataset : Dataset) → Contains (pool_with bookmarks).datasets dataset → tank ≡ dataset
  one_dataset dataset there = elim (contains_cases tank [] dataset there) [ inl same ↦ same | inr none ↦ absurd (contains_nothing dataset none) ]

  no_origin : (origin : Snapshot) (name : List ℕ) → IsOrigin (pool_with bookmarks) origin name → ⊥
  no_origin origin name is =
      let none : None ≡ Some origin.name = ap (λ dataset. dataset.origin) (one_dataset is.dataset is.there) ∙ is.is_origin in absurd (cc)

  dated : Dated (pool_with bookmarks)
  dated = record {
    states =
        All-cons (λ row. DatedUpTo row.number row.objects) (snapshot_row taken) (head_row 5 tank ∷ []) (record { numbers = λ k. omega arith; indices = λ k i. omega arith })
        (All-cons (λ row. DatedUpTo row.number row.objects) (head_row 5 tank) [] (record { numbers = λ k. date_of (k == 1); indices = λ k i. omega arith })
        (All-nil (λ row. DatedUpTo row.number row.objects)));
    numbers = All-cons (λ snapshot. snapshot.number ≤ 5) taken [] (omega arith) (All-nil (λ snapshot. snapshot.number ≤ 5));
    rise = AllPairs-cons Rises taken [] (All-nil (Rises taken)) (AllPairs-nil Rises);
    above = λ origin later there is. absurd (no_origin origin (dataset_of_snapshot later) is);
  }

  no_tank_b : HasDataset (pool_with bookmarks) tank_b → ⊥
  no_tank_b (dataset, there, named) = bytes_differ tank_a tank_b refl (ap (λ d. d.name) (one_dataset dataset there) ∙ named)

  -- the snapshot is the nearest one before the head
  nearest : IsNearestIn (pool_with bookmarks) taken tank_a None
  nearest = inl (
    record { there = contains_first taken []; named = refl; below = tt },
    λ other one. let same = ap (λ snapshot. snapshot.number) (one_snapshot other one.there) in omega (arith, same),
  )

  head_differs : Differs (pool_with bookmarks) tank_a_s tank_a 1 number_itself
  head_differs = record {
    snapshot = taken;
    state = head_row 5 tank;
    nearest = nearest;
    snapshot_named = refl;
    state_named = HeadState tank (contains_first tank []);
    number = one_is;
    differs = inl (refl, record { remembered = omega arith; other = inr (λ same. absurd (omega (arith, same))) });
  }

-- its bookmark isn't one
lost_fails : (is : IsBookmarkOf (pool_with (lost ∷ [])) lost) → ⊥
lost_fails is = no_tank_b (lost ∷ []) is.dataset

not_all : AreBookmarks (pool_with (lost ∷ [])) → ⊥
not_all all = lost_fails (All-contains (IsBookmarkOf (pool_with (lost ∷ []))) (lost ∷ []) lost all (contains_first lost []))

bookmark_is_bad : BadBookmark (pool_with (lost ∷ [])) (codes "tank/b#s") tank_b 0 0
bookmark_is_bad = record { bookmark = lost; there = contains_first lost []; named = refl; dataset = refl; no_object = refl; no_block = refl; fails = lost_fails }

pub bookmark_is_told : BookmarkIsTold
bookmark_is_told count = AtBookmark (dated (lost ∷ [])) bookmark_is_bad

pub head_differs_too : HeadDiffers
head_differs_too = head_differs (lost ∷ [])

pub head_is_not_told : HeadIsNotTold
head_is_not_told count told = go told
  where
    go : IsUnsoundAt (pool_with (lost ∷ [])) tank_a_s tank_a 1 number_itself → ⊥
    go (AtDate fails) = bytes_differ tank_a tank_a_s refl fails.twice
    go (AtSnapshot fails) = bytes_differ tank_a tank_a_s refl fails.twice
    go (AtBookmark rest fails) = let none = fails.no_object in omega (arith, none)
    go (AtState rest bookmarks fails) = not_all bookmarks
    go (AtList sound fails) = not_all sound.bookmarks

pub head_is_told : HeadIsTold
head_is_told count = AtState (dated []) (All-nil (IsBookmarkOf (pool_with []))) (head_differs [])
