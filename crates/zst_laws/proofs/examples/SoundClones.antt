-- The pool with a clone of a clone is sound.
use Rattle.std.proofs.Common.{◌≡◌, inl, inr, ◌⊎◌, ℕ, ◌<◌, ◌≤◌, List, [], ◌∷◌, Some, None, AllPairs, Contains, refl, subst, sym, ◌∙◌, ap, arith}
use Rattle.std.proofs.lemmas.List.Elements.{All-nil, All-cons}
use Rattle.std.proofs.lemmas.List.Kept.{AllPairs-cons}
use Rattle.zst_model.specs.states.DatedState.{DatedState}
use Rattle.zst_model.specs.pools.Pool.{Dataset, Snapshot, Partial, untouched, dataset_of_snapshot}
use Rattle.zst_model.specs.pools.Rows.{Row, rows}
use Rattle.zst_model.specs.pools.Soundness.{Agrees, DatedUpTo, IsBookmarkOf, Sound}
use Rattle.zst_model.proofs.InsertedLaws.{All-from_contains, AllPairs-nil, contains_cases, contains_nothing}
use Rattle.zst_laws.specs.CloneExample.{first, second, inner, dataset, of_first, of_second, receiving, clones}
use Rattle.zst_laws.proofs.pools.Rows.{bytes_differ}
use Rattle.zst_laws.proofs.pools.Descent.{Rises, IsRow, SnapshotRow, HeadRow, PartialRow, row_cases}
use Rattle.zst_laws.proofs.examples.CloneExamples.{tank_a, tank_b, tank_c, dataset_cases, snapshot_cases, origin_cases}

-- nothing touched any of its states
snapshot_untouched : (s : Snapshot) → (first ≡ s) ⊎ ((second ≡ s) ⊎ (inner ≡ s)) → s.objects ≡ untouched
snapshot_untouched s (inl e) = sym (ap (λ x. x.objects) e)
snapshot_untouched s (inr (inl e)) = sym (ap (λ x. x.objects) e)
snapshot_untouched s (inr (inr e)) = sym (ap (λ x. x.objects) e)

head_untouched : (d : Dataset) → (dataset tank_a None ≡ d) ⊎ ((dataset tank_b (Some first.name) ≡ d) ⊎ (dataset tank_c (Some inner.name) ≡ d)) → d.head ≡ untouched
head_untouched d (inl e) = sym (ap (λ x. x.head) e)
head_untouched d (inr (inl e)) = sym (ap (λ x. x.head) e)
head_untouched d (inr (inr e)) = sym (ap (λ x. x.head) e)

partial_untouched : (p : Partial) → (receiving ≡ p) ⊎ Contains [] p → p.objects ≡ untouched
partial_untouched p (inl e) = sym (ap (λ x. x.objects) e)
partial_untouched p (inr none) = absurd (contains_nothing p none)

row_untouched : (row : Row) → IsRow clones row → row.objects ≡ untouched
row_untouched row (SnapshotRow s there) = snapshot_untouched s (snapshot_cases s there)
row_untouched row (HeadRow d there) = head_untouched d (dataset_cases d there)
row_untouched row (PartialRow p there) = partial_untouched p (contains_cases receiving [] p there)

equal_agrees : (earlier : Snapshot) (later : DatedState) → earlier.objects ≡ later → Agrees earlier later
equal_agrees earlier later e = subst (Agrees earlier) e (record { numbers = λ k n d. refl; number_dates = λ k n d. refl; indices = λ k i n l d. refl; index_dates = λ k i n l d. refl })

untouched_dated : (number : ℕ) (state : DatedState) → state ≡ untouched → DatedUpTo number state
untouched_dated number state e = subst (DatedUpTo number) (sym e) (record { numbers = λ k. omega arith; indices = λ k i. omega arith })

-- its snapshots rise
snapshot_number : (s : Snapshot) → (first ≡ s) ⊎ ((second ≡ s) ⊎ (inner ≡ s)) → s.number ≤ 9
snapshot_number s (inl e) = let n = ap (λ x. x.number) e in omega arith
snapshot_number s (inr (inl e)) = let n = ap (λ x. x.number) e in omega arith
snapshot_number s (inr (inr e)) = let n = ap (λ x. x.number) e in omega arith

snapshots_rise : AllPairs Rises clones.snapshots
snapshots_rise =
    AllPairs-cons Rises first (second ∷ inner ∷ [])
    (All-cons (Rises first) second (inner ∷ []) (λ same. omega arith) (All-cons (Rises first) inner [] (λ same. omega arith) (All-nil (Rises first))))
    (AllPairs-cons Rises second (inner ∷ []) (All-cons (Rises second) inner [] (λ same. omega arith) (All-nil (Rises second)))
    (AllPairs-cons Rises inner [] (All-nil (Rises inner)) (AllPairs-nil Rises)))

-- above the origins of their datasets
in_b : (s : Snapshot) → tank_b ≡ dataset_of_snapshot s → (first ≡ s) ⊎ ((second ≡ s) ⊎ (inner ≡ s)) → inner ≡ s
in_b s of (inl e) = absurd (bytes_differ tank_b tank_a refl (of ∙ sym (ap dataset_of_snapshot e)))
in_b s of (inr (inl e)) = absurd (bytes_differ tank_b tank_a refl (of ∙ sym (ap dataset_of_snapshot e)))
in_b s of (inr (inr e)) = e

none_in_c : (s : Snapshot) → tank_c ≡ dataset_of_snapshot s → (first ≡ s) ⊎ ((second ≡ s) ⊎ (inner ≡ s)) → ⊥
none_in_c s of (inl e) = bytes_differ tank_c tank_a refl (of ∙ sym (ap dataset_of_snapshot e))
none_in_c s of (inr (inl e)) = bytes_differ tank_c tank_a refl (of ∙ sym (ap dataset_of_snapshot e))
none_in_c s of (inr (inr e)) = bytes_differ tank_c tank_b refl (of ∙ sym (ap dataset_of_snapshot e))

above_origin : (origin later : Snapshot) → (first ≡ later) ⊎ ((second ≡ later) ⊎ (inner ≡ later))
    → ((tank_b ≡ dataset_of_snapshot later) × (first ≡ origin)) ⊎ ((tank_c ≡ dataset_of_snapshot later) × (inner ≡ origin)) → origin.number < later.number
above_origin origin later is (inl h) =
    let n = ap (λ x. x.number) h.1 in
    let m = ap (λ x. x.number) (in_b later h.0 is) in omega arith
above_origin origin later is (inr h) = absurd (none_in_c later h.0 is)

-- its bookmarks are those of snapshots of the first dataset, which has no origin
no_origin : (origin : Snapshot) (name : List ℕ) → tank_a ≡ name → ((tank_b ≡ name) × (first ≡ origin)) ⊎ ((tank_c ≡ name) × (inner ≡ origin)) → ⊥
no_origin origin name e (inl h) = bytes_differ tank_b tank_a refl (h.0 ∙ sym e)
no_origin origin name e (inr h) = bytes_differ tank_c tank_a refl (h.0 ∙ sym e)

guid_of_first : (s : Snapshot) → s.number ≡ 3 → (first ≡ s) ⊎ ((second ≡ s) ⊎ (inner ≡ s)) → of_first.guid ≡ s.guid
guid_of_first s n (inl e) = ap (λ x. x.guid) e
guid_of_first s n (inr (inl e)) = let m = ap (λ x. x.number) e in absurd (omega arith)
guid_of_first s n (inr (inr e)) = let m = ap (λ x. x.number) e in absurd (omega arith)

guid_of_second : (s : Snapshot) → s.number ≡ 5 → (first ≡ s) ⊎ ((second ≡ s) ⊎ (inner ≡ s)) → of_second.guid ≡ s.guid
guid_of_second s n (inl e) = let m = ap (λ x. x.number) e in absurd (omega arith)
guid_of_second s n (inr (inl e)) = ap (λ x. x.guid) e
guid_of_second s n (inr (inr e)) = let m = ap (λ x. x.number) e in absurd (omega arith)

first_is_bookmark : IsBookmarkOf clones of_first
first_is_bookmark = record {
  dataset = (dataset tank_a None, (0, omega arith, refl), refl);
  above = λ origin is. absurd (no_origin origin tank_a refl (origin_cases origin tank_a is));
  number = omega arith;
  guid = λ s there of same. guid_of_first s same (snapshot_cases s there);
}

second_is_bookmark : IsBookmarkOf clones of_second
second_is_bookmark = record {
  dataset = (dataset tank_a None, (0, omega arith, refl), refl);
  above = λ origin is. absurd (no_origin origin tank_a refl (origin_cases origin tank_a is));
  number = omega arith;
  guid = λ s there of same. guid_of_second s same (snapshot_cases s there);
}

pub clones_sound : Sound clones
clones_sound = record {
  agree = λ earlier row here there before.
      equal_agrees earlier row.objects (snapshot_untouched earlier (snapshot_cases earlier here) ∙ sym (row_untouched row (row_cases clones row there)));
  dated = record {
    states = All-from_contains (λ r. DatedUpTo r.number r.objects) (rows clones) (λ row there. untouched_dated row.number row.objects (row_untouched row (row_cases clones row there)));
    numbers = All-from_contains (λ s. s.number ≤ 9) clones.snapshots (λ s there. snapshot_number s (snapshot_cases s there));
    rise = snapshots_rise;
    above = λ origin later there is. above_origin origin later (snapshot_cases later there) (origin_cases origin (dataset_of_snapshot later) is);
  };
  bookmarks =
      All-cons (IsBookmarkOf clones) of_first (of_second ∷ []) first_is_bookmark
      (All-cons (IsBookmarkOf clones) of_second [] second_is_bookmark (All-nil (IsBookmarkOf clones)));
}
