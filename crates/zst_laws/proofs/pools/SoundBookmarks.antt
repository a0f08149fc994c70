-- A command that makes a bookmark keeps a pool sound.
use Rattle.std.proofs.Common.{◌≡◌, ◌⊎◌, inl, inr, ◌+◌, ◌<◌, ◌≤◌, Contains, refl, subst, sym, ◌∙◌, ap, arith}
use Rattle.std.proofs.lemmas.List.Elements.{All-contains}
use Rattle.zst_model.specs.pools.Pool.{Pool, Snapshot, Bookmark, HasDataset, IsLinked, dataset_of_snapshot, dataset_of_bookmark, is_before, inserted}
use Rattle.zst_model.specs.pools.Ancestry.{IsOrigin}
use Rattle.zst_model.specs.pools.Rows.{Row}
use Rattle.zst_model.specs.pools.Soundness.{IsBookmarkOf, Sound}
use Rattle.zst_model.proofs.InsertedLaws.{contains-inserted}
use Rattle.zst_laws.proofs.pools.Ancestry.{HasOldOrigins}
use Rattle.zst_laws.proofs.pools.Descent.{IsRow, SnapshotRow, HeadRow, PartialRow, row_cases, same_snapshot, Descends, IsNextBookmark, IsNext, next_sound, snapshot_stays, head_stays, partial_stays}

-- the next commit's pool with a new bookmark
abbrev pub with_new_bookmark : Pool → Bookmark → Pool
with_new_bookmark pool row = record pool { bookmarks = inserted (λ a b. is_before a.name b.name) row pool.bookmarks; number = pool.number + 1 }

-- the new bookmark has its snapshot's guid and number, and is of its dataset
module _ (pool : Pool) (row : Bookmark) (snapshot : Snapshot) (linked : IsLinked pool) (sound : Sound pool)
    (there : Contains pool.snapshots snapshot) (guid_is : row.guid ≡ snapshot.guid) (number_is : row.number ≡ snapshot.number) (same : dataset_of_snapshot snapshot ≡ dataset_of_bookmark row)
  where
    abbrev next_pool : Pool
    next_pool = with_new_bookmark pool row

    old_origins : HasOldOrigins pool next_pool
    old_origins origin of has is = record { dataset = is.dataset; there = is.there; named = is.named; snapshot_there = is.snapshot_there; is_origin = is.is_origin }

    -- the new bookmark is one of its snapshot
    new_is_of : IsBookmarkOf next_pool row
    new_is_of = record {
      dataset = subst (HasDataset pool) same (All-contains (λ s. HasDataset pool (dataset_of_snapshot s)) pool.snapshots snapshot linked.snapshots there);
      above = λ origin is. subst (λ n. origin.number < n) (sym number_is) (sound.dated.above origin snapshot there (old_origins origin (dataset_of_snapshot snapshot)
          (All-contains (λ s. HasDataset pool (dataset_of_snapshot s)) pool.snapshots snapshot linked.snapshots there)
          (subst (IsOrigin next_pool origin) (sym same) is)));
      number = let l : snapshot.number ≤ pool.number = All-contains (λ s. s.number ≤ pool.number) pool.snapshots snapshot sound.dated.numbers there in omega (arith, number_is);
      guid = λ other is of number. guid_is ∙ ap (λ s. s.guid) (same_snapshot pool.snapshots sound.dated.rise snapshot other there is (same ∙ sym of) (sym number_is ∙ sym number));
    }

    next_bookmark : (bookmark : Bookmark) → (row ≡ bookmark) ⊎ Contains pool.bookmarks bookmark → IsNextBookmark pool next_pool bookmark
    next_bookmark bookmark (inl e) = inr (subst (IsBookmarkOf next_pool) e new_is_of)
    next_bookmark bookmark (inr old) = inl (old, λ has. has)

    row_stays : (later : Row) → IsRow next_pool later → Descends pool next_pool later
    row_stays later (SnapshotRow of is) = inl (snapshot_stays pool next_pool linked old_origins refl of is)
    row_stays later (HeadRow of is) = inl (head_stays pool next_pool linked old_origins refl of is)
    row_stays later (PartialRow of is) =
        inl (partial_stays pool next_pool linked old_origins refl of is (λ base b. record { there = b.there; is_base = b.is_base }) (λ has. has) (λ has. has))

    pub bookmark_next : IsNext pool next_pool
    bookmark_next = record {
      number = refl;
      origins = old_origins;
      bookmarks = λ bookmark is. next_bookmark bookmark (contains-inserted (λ a b. is_before a.name b.name) row pool.bookmarks bookmark is);
      snapshots = λ of is. inl is;
      rows = λ later is. row_stays later (row_cases next_pool later is);
    }

    pub bookmark_sound : Sound next_pool
    bookmark_sound = next_sound pool next_pool linked sound bookmark_next sound.dated.rise
        (λ earlier later here e is before.
        let l : earlier.number ≤ pool.number = All-contains (λ s. s.number ≤ pool.number) pool.snapshots earlier sound.dated.numbers here in absurd (omega arith))
