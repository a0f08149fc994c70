-- A place at which a part of soundness fails denies that part.
use Rattle.std.proofs.Common.{inl, inr, ℕ, ◌≤◌, List, Option, None, Contains, refl, sym, ◌∙◌, ap, arith}
use Rattle.std.proofs.lemmas.List.Elements.{All-contains}
use Rattle.zst_model.specs.pools.Ancestry.{OfSnapshot, StandsBefore, Earlier, AtOrigin, Place, InDataset, InPartial, IsBefore}
use Rattle.zst_model.specs.pools.Pool.{Pool, Snapshot, dataset_of_snapshot}
use Rattle.zst_model.specs.pools.Rows.{Row, rows}
use Rattle.zst_model.specs.pools.Soundness.{Agree, Agrees, Dated, DatedUpTo, IsBookmarkOf}
use Rattle.zst_laws.specs.NearestSnapshots.{AgreesWithNearest, IsNearest, IsNearestIn}
use Rattle.zst_laws.specs.RedactionLists.{AreListed}
use Rattle.zst_laws.proofs.pools.Descent.{snapshot_has_row, head_has_row, partial_has_row}
use Rattle.zst_check.specs.FailingPlaces.{IsStateNamed, SnapshotState, HeadState, PartialState, IsLate, IsOther, IsMisnumbered, AbovePool, NotAboveOther, NotAboveOrigin, LateDate, LateSnapshot, BadBookmark, Differs, ListDiffers}
use Rattle.zst_check.specs.Reports.{AreBookmarks}

-- a state that has a name is a row of the pool
pub state_has_row : (pool : Pool) (name : List ℕ) (row : Row) → IsStateNamed pool name row → Contains (rows pool) row
state_has_row pool name row (SnapshotState snapshot there) = snapshot_has_row pool snapshot there
state_has_row pool name row (HeadState dataset there) = head_has_row pool dataset there
state_has_row pool name row (PartialState partial there) = partial_has_row pool partial there

-- the nearest snapshot in a dataset is one of the pool, and stands before what the dataset has at the bound
nearest_in_before : (pool : Pool) (snapshot : Snapshot) (name : List ℕ) (bound : Option ℕ) → IsNearestIn pool snapshot name bound → Contains pool.snapshots snapshot × StandsBefore pool (OfSnapshot snapshot) name bound
nearest_in_before pool snapshot name bound (inl near) = (near.0.there, Earlier name bound near.0.named near.0.below)
nearest_in_before pool snapshot name bound (inr near) = (near.0.snapshot_there, AtOrigin name bound snapshot near.0 refl)

-- so it is with the nearest one before a place
nearest_before : (pool : Pool) (snapshot : Snapshot) (place : Place) → IsNearest pool snapshot place → Contains pool.snapshots snapshot × IsBefore pool (OfSnapshot snapshot) place
nearest_before pool snapshot (InDataset name bound) near = nearest_in_before pool snapshot name bound near
nearest_before pool snapshot (InPartial partial) (inl near) =
    let before = nearest_in_before pool snapshot partial.target None near.1 in (before.0, inl (record { target = near.0; before = before.1 }))
nearest_before pool snapshot (InPartial partial) (inr base) = (base.there, inr (tt, record { base = snapshot; is_base = base; before = inl refl }))

-- what agrees with each snapshot before it agrees with the nearest ones
pub agree_with_nearest : (pool : Pool) → Agree pool → AgreesWithNearest pool
agree_with_nearest pool agree = λ earlier later there near.
    let before = nearest_before pool earlier later.place near in agree earlier later before.0 there before.1

module _ (pool : Pool) (earlier later : List ℕ) (object block : ℕ) where
  pub late_date_denies : LateDate pool earlier later object block → Dated pool → ⊥
  late_date_denies fails dated =
      go (All-contains (λ row. DatedUpTo row.number row.objects) (rows pool) fails.state dated.states (state_has_row pool earlier fails.state fails.named)) fails.late
    where
      go : DatedUpTo fails.state.number fails.state.objects → IsLate fails.state object block → ⊥
      go is (inl late) = let most = is.numbers object in let above = late.1 in omega (arith, most, above)
      go is (inr late) = let most = is.indices object block in let above = late.1 in omega (arith, most, above)

  pub late_snapshot_denies : LateSnapshot pool earlier later object block → Dated pool → ⊥
  late_snapshot_denies fails dated = go fails.misnumbered
    where
      go : IsMisnumbered pool fails.snapshot → ⊥
      go (AbovePool above) =
          let most = All-contains (λ snapshot. snapshot.number ≤ pool.number) pool.snapshots fails.snapshot dated.numbers fails.there in omega (arith, most, above)
      go (NotAboveOther other ahead same low) =
          let one = ahead.one_at other in
          let two = ahead.other_at other in
          let less = dated.rise ahead.place ahead.behind other ahead.rise ahead.inside (ap dataset_of_snapshot one ∙ same ∙ sym (ap dataset_of_snapshot two)) in
          let n = ap (λ snapshot. snapshot.number) one in
          let m = ap (λ snapshot. snapshot.number) two in omega (arith, low, less, n, m)
      go (NotAboveOrigin origin is low) = let less = dated.above origin fails.snapshot fails.there is in omega (arith, low, less)

  pub bad_bookmark_denies : BadBookmark pool earlier later object block → AreBookmarks pool → ⊥
  bad_bookmark_denies fails all = fails.fails (All-contains (IsBookmarkOf pool) pool.bookmarks fails.bookmark all fails.there)

  -- a state that differs from the nearest snapshot denies that each agrees with the nearest ones, and so with all
  pub differs_denies_nearest : Differs pool earlier later object block → AgreesWithNearest pool → ⊥
  differs_denies_nearest fails agree = go (agree fails.snapshot fails.state (state_has_row pool later fails.state fails.state_named) fails.nearest) fails.differs
    where
      go : Agrees fails.snapshot fails.state.objects → IsOther fails.snapshot fails.state.objects object block → ⊥
      go is (inl other) = elim (other.1.other) [
        | inl content ↦ content (is.numbers object fails.number other.1.remembered)
        | inr date ↦ date (is.number_dates object fails.number other.1.remembered)
      ]
      go is (inr other) = elim (other.1.other) [
        | inl content ↦ content (is.indices object block fails.number other.0 other.1.remembered)
        | inr date ↦ date (is.index_dates object block fails.number other.0 other.1.remembered)
      ]

  pub differs_denies : Differs pool earlier later object block → Agree pool → ⊥
  differs_denies fails agree = differs_denies_nearest fails (agree_with_nearest pool agree)

  pub list_differs_denies : ListDiffers pool earlier later object block → AreListed pool → ⊥
  list_differs_denies fails listed =
      fails.differs (listed fails.bookmark fails.own fails.redactions fails.there fails.lists fails.own_there fails.is_own fails.are object block)
