-- In a lawful directory the snapshots of a dataset stand together, in the order of the datasets.
use Rattle.std.proofs.Common.{inl, inr, subst, ◌≡◌, ℕ, zero, suc, ◌+◌, ◌<◌, Bool, true, false, not, cond, List, [], ◌∷◌, ◌++◌, get_or, length, take, drop, refl, sym, ap, ◌∙◌}
use Rattle.std.specs.List.{All, AllPairs, Contains, filter, flat_map, take_while, prefix_len}
use Rattle.std.specs.Str.{bytes_eq}
use Rattle.std.proofs.lemmas.Bool.{true≢false, false_from_ne_true}
use Rattle.std.proofs.lemmas.List.{append_cancel_left, drop_more, take-append-drop}
use Rattle.std.proofs.lemmas.List.Elements.{All-head, All-tail, All-append, All-weaker, All-contains, All-nil, filter_passes, All-filter}
use Rattle.std.proofs.lemmas.List.Kept.{AllPairs-filter}
use Rattle.std.proofs.lemmas.List.Sums.{take_while-cons}
use Rattle.zst_bytes.specs.Words.{word}
use Rattle.zst_model.specs.pools.Pool.{is_before}
use Rattle.zst_model.proofs.InsertedLaws.{contains_cases, contains_nothing, All-from_contains, AllPairs-head, AllPairs-tail}
use Rattle.zst_model.proofs.OrderLaws.{same_bytes, bytes_same, before_trans, not_before_itself, before_cases, row_before_from}
use Rattle.zst_model.proofs.NameTests.{before_upto}
use Rattle.zst_dir.specs.Rows.{Rows, snapshot_is_before, IsLawful}
use Rattle.zst_dir.specs.Spelling.{snapshots_of, dataset_bytes}
use Rattle.zst_dir.specs.declared.rows.Dataset.{Dataset}
use Rattle.zst_dir.specs.declared.rows.Snapshot.{Snapshot}
use Rattle.zst_dir.proofs.SpelledRows.{SpelledUpTo, spelled-none, spelled-more}
use Rattle.zst_dir.proofs.InsertedRows.{of_snapshot}

-- whether a snapshot is of a dataset
abbrev pub is_of : List ℕ → Snapshot → Bool
is_of name snapshot = bytes_eq (of_snapshot snapshot) name

-- the snapshots of datasets, one after the other
abbrev pub runs : List Snapshot → List Dataset → List Snapshot
runs snapshots datasets = flat_map (λ dataset. snapshots_of dataset.name snapshots) datasets

-- datasets and snapshots in their orders
abbrev pub DatasetsRise : List Dataset → Type 0
DatasetsRise datasets = AllPairs (λ a b. is_before a.name b.name ≡ true) datasets

abbrev pub SnapshotsRise : List Snapshot → Type 0
SnapshotsRise snapshots = AllPairs (λ a b. snapshot_is_before b a ≡ false) snapshots

-- tests that all elements fail or pass
filter_none : {A : Type 0} (test : A → Bool) (xs : List A) → All (λ x. test x ≡ false) xs → filter test xs ≡ []
filter_none test [] none = refl
filter_none {A = A} test (x ∷ xs) none =
    ap (λ (t : Bool). cond t (x ∷ filter test xs) (filter test xs)) (All-head (λ y. test y ≡ false) x xs none)
    ∙ filter_none test xs (All-tail (λ y. test y ≡ false) x xs none)

filter_all : {A : Type 0} (test : A → Bool) (xs : List A) → All (λ x. test x ≡ true) xs → filter test xs ≡ xs
filter_all test [] all = refl
filter_all {A = A} test (x ∷ xs) all =
    ap (λ (t : Bool). cond t (x ∷ filter test xs) (filter test xs)) (All-head (λ y. test y ≡ true) x xs all)
    ∙ ap (λ (l : List A). x ∷ l) (filter_all test xs (All-tail (λ y. test y ≡ true) x xs all))

-- a snapshot that stands behind another isn't of a lower dataset
dataset_rises : (a b : Snapshot) → snapshot_is_before b a ≡ false → is_before (of_snapshot b) (of_snapshot a) ≡ false
dataset_rises a b h = false_from_ne_true (is_before (of_snapshot b) (of_snapshot a)) (λ k. true≢false (sym (row_before_from of_snapshot (λ s. s.number) b a (inl k)) ∙ h))

-- a name that another stands before is not that name
apart : (a b : List ℕ) → is_before a b ≡ true → bytes_eq b a ≡ false
apart a b h = false_from_ne_true (bytes_eq b a) (λ k. not_before_itself a (subst (λ x. is_before a x ≡ true) (same_bytes b a k) h))

-- where no snapshot is of a lower dataset, those of a dataset stand first
own_first : (name : List ℕ) (snapshots : List Snapshot) → SnapshotsRise snapshots → All (λ s. is_before (of_snapshot s) name ≡ false) snapshots
    → snapshots ≡ filter (is_of name) snapshots ++ filter (λ s. not (is_of name s)) snapshots
own_first name [] rise low = refl
own_first name (s ∷ rest) rise low = go (is_of name s) refl (own_first name rest (AllPairs-tail R s rest rise) (All-tail P s rest low))
  where
    R : Snapshot → Snapshot → Type 0
    R a b = snapshot_is_before b a ≡ false

    P : Snapshot → Type 0
    P a = is_before (of_snapshot a) name ≡ false

    above : is_of name s ≡ false → is_before name (of_snapshot s) ≡ true
    above e = elim (before_cases name (of_snapshot s)) [
      | inl l ↦ l
      | inr (inl same) ↦ absurd (true≢false (sym (bytes_same (of_snapshot s) name (sym same)) ∙ e))
      | inr (inr l) ↦ absurd (true≢false (sym l ∙ All-head P s rest low))
    ]

    none : is_of name s ≡ false → All (λ a. is_of name a ≡ false) rest
    none e = All-weaker (R s) (λ a. is_of name a ≡ false)
        (λ a r. apart name (of_snapshot a) (before_upto name (of_snapshot s) (of_snapshot a) (above e) (dataset_rises s a r)))
        rest (AllPairs-head R s rest rise)

    go : (t : Bool) → is_of name s ≡ t → rest ≡ filter (is_of name) rest ++ filter (λ a. not (is_of name a)) rest
        → s ∷ rest ≡ cond t (s ∷ filter (is_of name) rest) (filter (is_of name) rest) ++ cond (not t) (s ∷ filter (λ a. not (is_of name a)) rest) (filter (λ a. not (is_of name a)) rest)
    go true e later = ap (λ (l : List Snapshot). s ∷ l) later
    go false e later =
        ap (λ (l : List Snapshot). s ∷ l) (sym (filter_all (λ a. not (is_of name a)) rest (All-weaker (λ a. is_of name a ≡ false) (λ a. not (is_of name a) ≡ true) (λ a f. ap not f) rest (none e))))
        ∙ ap (λ (l : List Snapshot). l ++ (s ∷ filter (λ a. not (is_of name a)) rest)) (sym (filter_none (is_of name) rest (none e)))

-- of the snapshots that are not of a dataset, those of another are all of that one
filter_other : (name other : List ℕ) (snapshots : List Snapshot) → bytes_eq other name ≡ false
    → filter (is_of other) (filter (λ s. not (is_of name s)) snapshots) ≡ filter (is_of other) snapshots
filter_other name other [] differ = refl
filter_other name other (s ∷ rest) differ = go (is_of name s) refl (filter_other name other rest differ)
  where
    others : List Snapshot
    others = filter (λ a. not (is_of name a)) rest

    absent : is_of name s ≡ true → is_of other s ≡ false
    absent e = false_from_ne_true (is_of other s) (λ k.
        true≢false (sym (bytes_same other name (sym (same_bytes (of_snapshot s) other k) ∙ same_bytes (of_snapshot s) name e)) ∙ differ))

    go : (t : Bool) → is_of name s ≡ t → filter (is_of other) others ≡ filter (is_of other) rest
        → filter (is_of other) (cond (not t) (s ∷ others) others) ≡ cond (is_of other s) (s ∷ filter (is_of other) rest) (filter (is_of other) rest)
    go true e later = later ∙ ap (λ (t : Bool). cond t (s ∷ filter (is_of other) rest) (filter (is_of other) rest)) (sym (absent e))
    go false e later = ap (λ (l : List Snapshot). cond (is_of other s) (s ∷ l) l) later

-- a dataset of a list has this name
abbrev pub HasName : List Dataset → List ℕ → Type 0
HasName datasets name = (dataset : Dataset) × Contains datasets dataset × (dataset.name ≡ name)

-- snapshots that rise, each of one of datasets that rise, are the runs of these; they may be a part of all
runs_of_part : (all : List Snapshot) (datasets : List Dataset) (snapshots : List Snapshot) → DatasetsRise datasets → SnapshotsRise snapshots
    → All (λ s. HasName datasets (of_snapshot s)) snapshots → All (λ d. snapshots_of d.name all ≡ snapshots_of d.name snapshots) datasets
    → snapshots ≡ runs all datasets
runs_of_part all [] [] rise order known same = refl
runs_of_part all [] (s ∷ rest) rise order known same = absurd (let has = All-head (λ a. HasName [] (of_snapshot a)) s rest known in contains_nothing has.0 has.1)
runs_of_part all (d ∷ datasets) snapshots rise order known same =
    own_first d.name snapshots order (All-weaker Known (λ s. is_before (of_snapshot s) d.name ≡ false) (λ s has. low (of_snapshot s) has) snapshots known)
    ∙ ap (λ (l : List Snapshot). l ++ later) (sym (All-head Same d datasets same))
    ∙ ap (λ (l : List Snapshot). snapshots_of d.name all ++ l)
    (runs_of_part all datasets later (AllPairs-tail R d datasets rise) (AllPairs-filter (λ a b. snapshot_is_before b a ≡ false) _ snapshots order) still kept)
  where
    R : Dataset → Dataset → Type 0
    R a b = is_before a.name b.name ≡ true

    Known : Snapshot → Type 0
    Known s = HasName (d ∷ datasets) (of_snapshot s)

    Same : Dataset → Type 0
    Same e = snapshots_of e.name all ≡ snapshots_of e.name snapshots

    later : List Snapshot
    later = filter (λ s. not (is_of d.name s)) snapshots

    above : (e : Dataset) → Contains datasets e → is_before d.name e.name ≡ true
    above e there = All-contains (R d) datasets e (AllPairs-head R d datasets rise) there

    low : (name : List ℕ) → HasName (d ∷ datasets) name → is_before name d.name ≡ false
    low name has = false_from_ne_true (is_before name d.name) (λ before. elim (contains_cases d datasets has.0 has.1) [
      | inl e ↦ not_before_itself d.name (subst (λ x. is_before x d.name ≡ true) (sym has.2 ∙ ap (λ x. x.name) (sym e)) before)
      | inr there ↦ not_before_itself d.name (before_trans d.name has.0.name d.name (above has.0 there) (subst (λ x. is_before x d.name ≡ true) (sym has.2) before))
    ])

    still : All (λ s. HasName datasets (of_snapshot s)) later
    still = All-from_contains (λ s. HasName datasets (of_snapshot s)) later (λ s there. other s
        (All-contains Known later s (All-filter (λ a. not (is_of d.name a)) Known snapshots known) there)
        (All-contains (λ a. not (is_of d.name a) ≡ true) later s (filter_passes (λ a. not (is_of d.name a)) snapshots) there))
      where
        other : (s : Snapshot) → Known s → not (is_of d.name s) ≡ true → HasName datasets (of_snapshot s)
        other s has differs = elim (contains_cases d datasets has.0 has.1) [
          | inl e ↦ absurd (true≢false (sym differs ∙ ap not (bytes_same (of_snapshot s) d.name (sym has.2 ∙ ap (λ x. x.name) (sym e)))))
          | inr there ↦ (has.0, there, has.2)
        ]

    kept : All (λ e. snapshots_of e.name all ≡ snapshots_of e.name later) datasets
    kept = All-from_contains (λ e. snapshots_of e.name all ≡ snapshots_of e.name later) datasets
        (λ e there. All-contains Same datasets e (All-tail Same d datasets same) there ∙ sym (filter_other d.name e.name snapshots (apart d.name e.name (above e there))))

-- the snapshots of a lawful directory are the runs of its datasets
pub snapshots_are_runs : (rows : Rows) → IsLawful rows → rows.snapshots ≡ runs rows.snapshots rows.datasets
snapshots_are_runs rows lawful =
    runs_of_part rows.snapshots rows.datasets rows.snapshots lawful.ordered.datasets lawful.ordered.snapshots lawful.linked.snapshots
    (All-from_contains (λ d. snapshots_of d.name rows.snapshots ≡ snapshots_of d.name rows.snapshots) rows.datasets (λ d there. refl))

-- the elements in front that pass, where those behind them fail
take_while-append : {A : Type 0} (test : A → Bool) (xs ys : List A) → All (λ x. test x ≡ true) xs → All (λ y. test y ≡ false) ys → take_while test (xs ++ ys) ≡ xs
take_while-append test [] [] pass fail = refl
take_while-append test [] (y ∷ ys) pass fail =
    take_while-cons test y ys ∙ ap (λ (t : Bool). cond t (y ∷ take_while test ys) []) (All-head (λ z. test z ≡ false) y ys fail)
take_while-append {A = A} test (x ∷ xs) ys pass fail =
    take_while-cons test x (xs ++ ys) ∙ ap (λ (t : Bool). cond t (x ∷ take_while test (xs ++ ys)) []) (All-head (λ z. test z ≡ true) x xs pass)
    ∙ ap (λ (l : List A). x ∷ l) (take_while-append test xs ys (All-tail (λ z. test z ≡ true) x xs pass) fail)

-- no snapshot of datasets that a name stands before is of that name
runs_fail : (name : List ℕ) (all : List Snapshot) (datasets : List Dataset) → All (λ d. is_before name d.name ≡ true) datasets → All (λ s. is_of name s ≡ false) (runs all datasets)
runs_fail name all [] low = All-nil (λ s. is_of name s ≡ false)
runs_fail name all (d ∷ datasets) low =
    All-append Fails (snapshots_of d.name all) (runs all datasets)
    (All-weaker (λ s. is_of d.name s ≡ true) Fails
    (λ s e. subst (λ x. bytes_eq x name ≡ false) (sym (same_bytes (of_snapshot s) d.name e)) (apart name d.name (All-head Low d datasets low)))
    (snapshots_of d.name all) (filter_passes (is_of d.name) all))
    (runs_fail name all datasets (All-tail Low d datasets low))
  where
    Fails : Snapshot → Type 0
    Fails s = is_of name s ≡ false

    Low : Dataset → Type 0
    Low e = is_before name e.name ≡ true

-- the run in front is that of the first dataset
pub first_run : (all : List Snapshot) (dataset : Dataset) (datasets : List Dataset) (rest own later : List Snapshot) → DatasetsRise (dataset ∷ datasets)
    → rest ≡ runs all (dataset ∷ datasets) → own ≡ take_while (is_of dataset.name) rest → rest ≡ own ++ later
    → (own ≡ snapshots_of dataset.name all) × (later ≡ runs all datasets)
first_run all dataset datasets rest own later rise is taken parts =
    let mine : List Snapshot = snapshots_of dataset.name all in
    let others : List Snapshot = runs all datasets in
    let low = AllPairs-head (λ (a b : Dataset). is_before a.name b.name ≡ true) dataset datasets rise in
    let same : own ≡ mine = taken ∙ ap (take_while (is_of dataset.name)) is
    ∙ take_while-append (is_of dataset.name) mine others (filter_passes (is_of dataset.name) all) (runs_fail dataset.name all datasets low) in
    (same, append_cancel_left mine later others (ap (λ (l : List Snapshot). l ++ later) (sym same) ∙ sym parts ∙ is))

-- datasets that rise still do without the first of them
DatasetsRise-drop : (place : ℕ) (datasets : List Dataset) → DatasetsRise datasets → DatasetsRise (drop place datasets)
DatasetsRise-drop zero datasets rise = rise
DatasetsRise-drop (suc place) [] rise = rise
DatasetsRise-drop (suc place) (d ∷ datasets) rise = DatasetsRise-drop place datasets (AllPairs-tail (λ (a b : Dataset). is_before a.name b.name ≡ true) d datasets rise)

-- the datasets up to a place are spelled, and the snapshots of the others are left
pub record IsLeft (all : List Snapshot) (old : List ℕ) (datasets : List Dataset) (place : ℕ) (now : List ℕ) (rest : List Snapshot) : Type 0 where
  pub spelled : SpelledUpTo (dataset_bytes all) old datasets place now
  pub left : rest ≡ runs all (drop place datasets)

pub left-none : (rows : Rows) (old : List ℕ) (datasets : List Dataset) (now : List ℕ) (rest : List Snapshot) (count : ℕ) → IsLawful rows → datasets ≡ rows.datasets
    → count ≡ length datasets → now ≡ old ++ word count → rest ≡ rows.snapshots → IsLeft rows.snapshots old datasets 0 now rest
left-none rows old datasets now rest count lawful same size is all = record {
  spelled = spelled-none (dataset_bytes rows.snapshots) old datasets now (is ∙ ap (λ (n : ℕ). old ++ word n) size);
  left = all ∙ snapshots_are_runs rows lawful ∙ ap (runs rows.snapshots) (sym same);
}

pub left-more : (all : List Snapshot) (old : List ℕ) (datasets : List Dataset) (place : ℕ) (dataset : Dataset) (now next : List ℕ) (rest own later : List Snapshot) (count : ℕ)
    → DatasetsRise datasets → place < length datasets → dataset ≡ get_or datasets place dataset → IsLeft all old datasets place now rest
    → count ≡ prefix_len (is_of dataset.name) rest → own ≡ take count rest → later ≡ drop count rest
    → (own ≡ snapshots_of dataset.name all → next ≡ now ++ dataset_bytes all dataset) → IsLeft all old datasets (place + 1) next later
left-more all old datasets place dataset now next rest own later count rise inside read so_far counted front back pushed =
    let others : List Dataset = drop (place + 1) datasets in
    let here : drop place datasets ≡ dataset ∷ others = drop_more datasets place dataset inside ∙ ap (λ (d : Dataset). d ∷ others) (sym read) in
    let taken : own ≡ take_while (is_of dataset.name) rest = front ∙ ap (λ (n : ℕ). take n rest) counted in
    let parts : rest ≡ own ++ later = sym (take-append-drop count rest) ∙ ap (λ (l : List Snapshot). l ++ drop count rest) (sym front) ∙ ap (λ (l : List Snapshot). own ++ l) (sym back) in
    let run = first_run all dataset others rest own later (subst DatasetsRise here (DatasetsRise-drop place datasets rise)) (so_far.left ∙ ap (runs all) here) taken parts in
    record {
      spelled = spelled-more (dataset_bytes all) old datasets place dataset now next inside read so_far.spelled (pushed run.0);
      left = run.1;
    }
