-- How long the rows of a directory are, before and after a change.
use Rattle.std.proofs.Common.{◌≡◌, ℕ, ◌+◌, ◌*◌, ◌≤◌, Bool, true, false, not, List, [], ◌∷◌, ◌++◌, length, get_or, filter, Option, Some, None, IfSome, if◌then◌else◌, refl, sym, ap, ◌∙◌, subst, arith, length-append}
use Rattle.std.specs.List.{All, AllPairs, flat_map, sum_by, insert, position_or_len}
use Rattle.std.specs.Str.{bytes_eq}
use Rattle.std.proofs.lemmas.List.Elements.{All-head, All-tail}
use Rattle.std.proofs.lemmas.List.Concat.{length-flat_map, flat_map-append}
use Rattle.std.proofs.lemmas.List.Filters.{sum_by-filter_both}
use Rattle.std.proofs.lemmas.List.Sums.{sum_by-insert, sum_by-le}
use Rattle.zst_bytes.proofs.BytesLaws.{length-number_bytes}
use Rattle.zst_bytes.specs.Fields.{zeros}
use Rattle.zst_bytes.proofs.FieldsLaws.{length-zeros}
use Rattle.zst_bytes.specs.Words.{word, padding, text_bytes, words_bytes}
use Rattle.zst_block.proofs.PtrLaws.{length-ptr_bytes}
use Rattle.zst_names.specs.Names.{IsSnapshot, dataset_of, component_of}
use Rattle.zst_names.proofs.MarkedNames.{joined}
use Rattle.zst_model.specs.fields.Guids.{IsGuidSet}
use Rattle.zst_model.specs.pools.Pool.{is_before, inserted, IsStated}
use Rattle.zst_tree.specs.Sets.{set_bytes}
use Rattle.zst_tree.specs.declared.tree.ObjSet.{ObjSet}
use Rattle.zst_dir.specs.declared.removal.Removal.{Removal}
use Rattle.zst_dir.specs.Removal.{takes_bookmark, takes_dataset, takes_snapshot, without}
use Rattle.zst_dir.specs.Rows.{Rows, with_head, with_head_at, with_objects, with_partial, snapshot_is_before, IsBookmarkRow, IsDatasetRow, IsSnapshotRow, IsPartialRow, IsLawful}
use Rattle.zst_dir.specs.Spelling.{name_bytes, snapshot_bytes, snapshots_of, dataset_bytes, bookmark_bytes, header_bytes, partial_bytes, dir_bytes}
use Rattle.zst_dir.specs.declared.rows.Dataset.{Dataset}
use Rattle.zst_dir.specs.declared.rows.Snapshot.{Snapshot}
use Rattle.zst_dir.specs.declared.rows.Bookmark.{Bookmark}
use Rattle.zst_dir.specs.declared.rows.Partial.{Partial}
use Rattle.zst_model.proofs.InsertedLaws.{inserted-place, AllPairs-head, AllPairs-tail}
use Rattle.zst_model.proofs.OrderLaws.{same_bytes, not_before_itself}
use Rattle.zst_model.specs.declared.sends.header.Header.{Header}
use Rattle.zst_dir.proofs.SnapshotRuns.{runs, snapshots_are_runs}

-- a text has a word and at most 7 zeros beside its bytes
text_short : (text : List ℕ) → length (text_bytes text) ≤ length text + 15
unfolding text_bytes
text_short text =
    omega (arith, length-append (word (length text)) (text ++ zeros (padding (length text))), length-append text (zeros (padding (length text))), length-number_bytes 8 (length text), length-zeros (padding (length text)))

-- sixteen guids and their count have 136 bytes
guids_short : (guids : List ℕ) → IsGuidSet guids → length (words_bytes guids) ≤ 136
unfolding words_bytes
guids_short guids is =
    let each : sum_by (λ (guid : ℕ). length (word guid)) guids ≤ length guids * 8 =
    sum_by-le (λ (guid : ℕ). length (word guid)) 8 guids (λ k d inside. omega (arith, length-number_bytes 8 (get_or guids k d))) in
    omega (arith, length-append (word (length guids)) (flat_map word guids), length-number_bytes 8 (length guids), length-flat_map word guids, each, is.few)

-- an object set has 80 bytes, whatever it is
set_long : (set : ObjSet) → length (set_bytes set) ≡ 80
unfolding set_bytes
set_long set = simp (length-append, length-number_bytes, length-ptr_bytes) refl

-- the name of a snapshot is short, and so is an empty text
name_short : (name : Option (List ℕ)) → IfSome name IsSnapshot → length (name_bytes name) ≤ 270
name_short None is = omega (arith, text_short [])
name_short (Some name) is =
    omega (arith, text_short name, ap length (joined 64 name is.1), length-append (dataset_of 64 name) (64 ∷ component_of 64 name), is.0.short, is.1.short)

-- a snapshot has at most 319 bytes
snapshot_short : (snapshot : Snapshot) → IsSnapshotRow snapshot → length (snapshot_bytes snapshot) ≤ 319
unfolding snapshot_bytes
snapshot_short snapshot is =
    simp (length-append, length-number_bytes, set_long) (omega (arith, text_short (component_of 64 snapshot.name), is.name.1.short, guids_short snapshot.redact is.redact))

-- a dataset without snapshots has at most 707 bytes
dataset_short : (dataset : Dataset) → IsDatasetRow dataset → length (dataset_bytes [] dataset) ≤ 707
unfolding dataset_bytes
dataset_short dataset is =
    simp (length-append, length-number_bytes, set_long) (omega (arith, text_short dataset.name, is.name.short, name_short dataset.origin is.origin, guids_short dataset.redact is.redact))

-- a dataset has its snapshots beside that
dataset_long : (snapshots : List Snapshot) (dataset : Dataset)
    → length (dataset_bytes snapshots dataset) ≡ length (dataset_bytes [] dataset) + length (flat_map snapshot_bytes (snapshots_of dataset.name snapshots))
unfolding dataset_bytes
dataset_long snapshots dataset = simp (length-append, length-number_bytes, set_long) (omega arith)

-- so datasets have the runs of their snapshots beside that
datasets_long : (snapshots : List Snapshot) (datasets : List Dataset)
    → length (flat_map (dataset_bytes snapshots) datasets) ≡ length (flat_map (dataset_bytes []) datasets) + length (flat_map snapshot_bytes (runs snapshots datasets))
datasets_long snapshots [] = refl
datasets_long snapshots (dataset ∷ datasets) =
    let own = snapshots_of dataset.name snapshots in
    let others = runs snapshots datasets in
    omega (
      arith,
      datasets_long snapshots datasets,
      dataset_long snapshots dataset,
      length-append (dataset_bytes snapshots dataset) (flat_map (dataset_bytes snapshots) datasets),
      length-append (dataset_bytes [] dataset) (flat_map (dataset_bytes []) datasets),
      ap length (flat_map-append snapshot_bytes own others),
      length-append (flat_map snapshot_bytes own) (flat_map snapshot_bytes others),
    )

-- a directory has three counts beside its rows
dir_long : (rows : Rows)
    → length (dir_bytes rows) ≡ 24 + (length (flat_map (dataset_bytes rows.snapshots) rows.datasets) + (length (flat_map bookmark_bytes rows.bookmarks) + length (flat_map partial_bytes rows.partials)))
unfolding dir_bytes
dir_long rows = simp (length-append, length-number_bytes) (omega arith)

-- in a lawful one each snapshot stands once
lawful_long : (rows : Rows) → IsLawful rows
    → length (dir_bytes rows) ≡ 24 + (length (flat_map (dataset_bytes []) rows.datasets) + (length (flat_map snapshot_bytes rows.snapshots)
    + (length (flat_map bookmark_bytes rows.bookmarks) + length (flat_map partial_bytes rows.partials))))
lawful_long rows lawful =
    omega (arith, dir_long rows, datasets_long rows.snapshots rows.datasets, ap (λ (snapshots : List Snapshot). length (flat_map snapshot_bytes snapshots)) (snapshots_are_runs rows lawful))

-- rows that are left have no more bytes
left_short : {A : Type 0} (spell : A → List ℕ) (stays : A → Bool) (rows : List A) → length (flat_map spell (filter stays rows)) ≤ length (flat_map spell rows)
left_short spell stays rows =
    omega (arith, length-flat_map spell rows, length-flat_map spell (filter stays rows), sum_by-filter_both stays (λ row. not (stays row)) (λ row. refl) (λ row. length (spell row)) rows)

-- a row that is put in its place adds its bytes
inserted_long : {A : Type 0} (spell : A → List ℕ) (comes_before : A → A → Bool) (row : A) (rows : List A)
    → length (flat_map spell (inserted comes_before row rows)) ≡ length (flat_map spell rows) + length (spell row)
inserted_long {A = A} spell comes_before row rows =
    let place = position_or_len (comes_before row) rows in
    omega (
      arith,
      ap (λ (l : List A). length (flat_map spell l)) (inserted-place comes_before row rows),
      length-flat_map spell rows,
      length-flat_map spell (insert rows place row),
      sum_by-insert (λ r. length (spell r)) rows place row,
    )

-- so a new dataset adds few bytes
pub dataset_grows : (rows : Rows) (row : Dataset) → IsDatasetRow row → IsLawful rows → IsLawful (record rows { datasets = inserted (λ a b. is_before a.name b.name) row rows.datasets })
    → length (dir_bytes (record rows { datasets = inserted (λ a b. is_before a.name b.name) row rows.datasets })) ≤ length (dir_bytes rows) + 1024
dataset_grows rows row is lawful lawful_then =
    let by_name = λ (a b : Dataset). is_before a.name b.name in
    omega (arith, lawful_long rows lawful, lawful_long (record rows { datasets = inserted by_name row rows.datasets }) lawful_then, inserted_long (dataset_bytes []) by_name row rows.datasets, dataset_short row is)

-- and so does a new snapshot
pub snapshot_grows : (rows : Rows) (row : Snapshot) → IsSnapshotRow row → IsLawful rows → IsLawful (record rows { snapshots = inserted snapshot_is_before row rows.snapshots })
    → length (dir_bytes (record rows { snapshots = inserted snapshot_is_before row rows.snapshots })) ≤ length (dir_bytes rows) + 1024
snapshot_grows rows row is lawful lawful_then =
    omega (arith, lawful_long rows lawful, lawful_long (record rows { snapshots = inserted snapshot_is_before row rows.snapshots }) lawful_then, inserted_long snapshot_bytes snapshot_is_before row rows.snapshots, snapshot_short row is)

-- partial states that are dropped add none
pub partials_shrink : (rows : Rows) (stays : Partial → Bool) → length (dir_bytes (record rows { partials = filter stays rows.partials })) ≤ length (dir_bytes rows)
partials_shrink rows stays = omega (arith, dir_long rows, dir_long (record rows { partials = filter stays rows.partials }), left_short partial_bytes stays rows.partials)

-- a dataset is as long with another head
headed_long : (snapshots : List Snapshot) (head : ObjSet) (dataset : Dataset) → length (dataset_bytes snapshots (record dataset { head = head })) ≡ length (dataset_bytes snapshots dataset)
unfolding dataset_bytes
headed_long snapshots head dataset = simp (length-append, length-number_bytes, set_long) refl

-- and so are datasets with another head of one
heads_long : (snapshots : List Snapshot) (name : List ℕ) (head : ObjSet) (datasets : List Dataset)
    → length (flat_map (dataset_bytes snapshots) (with_head name head datasets)) ≡ length (flat_map (dataset_bytes snapshots) datasets)
heads_long snapshots name head [] = refl
heads_long snapshots name head (dataset ∷ datasets) =
    omega (
      arith,
      one (bytes_eq dataset.name name),
      heads_long snapshots name head datasets,
      length-append (dataset_bytes snapshots (with_head_at name head dataset)) (flat_map (dataset_bytes snapshots) (with_head name head datasets)),
      length-append (dataset_bytes snapshots dataset) (flat_map (dataset_bytes snapshots) datasets),
    )
  where
    one : (t : Bool) → length (dataset_bytes snapshots (if t then record dataset { head = head } else dataset)) ≡ length (dataset_bytes snapshots dataset)
    one true = headed_long snapshots head dataset
    one false = refl

-- so a directory is as long
pub head_as_long : (rows : Rows) (name : List ℕ) (head : ObjSet) → length (dir_bytes (record rows { datasets = with_head name head rows.datasets })) ≡ length (dir_bytes rows)
head_as_long rows name head = omega (arith, dir_long rows, dir_long (record rows { datasets = with_head name head rows.datasets }), heads_long rows.snapshots name head rows.datasets)

-- a stated name and a header are short
header_short : (header : Header) → IsStated header → length (header_bytes header) ≤ 590
unfolding header_bytes
header_short header is =
    simp (length-append, length-number_bytes) (omega (arith, text_short header.name, is.name.short, guids_short header.redact is.redact, guids_short header.from_redact is.from_redact))

-- a partial state has at most 1,280 bytes
partial_short : (partial : Partial) → IsPartialRow partial → length (partial_bytes partial) ≤ 1280
unfolding partial_bytes
partial_short partial is =
    simp (length-append, length-number_bytes, set_long) (omega (
      arith,
      text_short partial.target,
      is.target.short,
      text_short partial.snapshot,
      is.snapshot.short,
      header_short partial.header is.header,
      name_short partial.base is.base,
    ))

-- so a new partial state adds few bytes
pub partial_grows : (rows : Rows) (row : Partial) → IsPartialRow row → length (dir_bytes (record rows { partials = with_partial row rows.partials })) ≤ length (dir_bytes rows) + 1280
partial_grows rows row is =
    omega (
      arith,
      dir_long rows,
      dir_long (record rows { partials = with_partial row rows.partials }),
      inserted_long partial_bytes (λ a b. is_before a.target b.target) row rows.partials,
      partial_short row is,
    )

-- a dataset with other objects has at most sixteen guids more
objects_long : (snapshots : List Snapshot) (head : ObjSet) (redact : List ℕ) (dataset : Dataset) → IsGuidSet redact
    → length (dataset_bytes snapshots (record dataset { head = head; redact = redact })) ≤ length (dataset_bytes snapshots dataset) + 136
unfolding dataset_bytes
objects_long snapshots head redact dataset is = simp (length-append, length-number_bytes, set_long) (omega (arith, guids_short redact is))

-- datasets of other names stay as they are
unnamed : (name : List ℕ) (head : ObjSet) (redact : List ℕ) (datasets : List Dataset) → All (λ (d : Dataset). is_before name d.name ≡ true) datasets
    → with_objects name head redact datasets ≡ datasets
unnamed name head redact [] later = refl
unnamed name head redact (dataset ∷ datasets) later =
    let before : is_before name dataset.name ≡ true = All-head (λ (d : Dataset). is_before name d.name ≡ true) dataset datasets later in
    ap (λ (d : Dataset). d ∷ with_objects name head redact datasets) (one (bytes_eq dataset.name name) refl before)
    ∙ ap (λ (l : List Dataset). dataset ∷ l) (unnamed name head redact datasets (All-tail (λ (d : Dataset). is_before name d.name ≡ true) dataset datasets later))
  where
    one : (t : Bool) → bytes_eq dataset.name name ≡ t → is_before name dataset.name ≡ true → (if t then record dataset { head = head; redact = redact } else dataset) ≡ dataset
    one true e before = absurd (not_before_itself name (ap (is_before name) (sym (same_bytes dataset.name name e)) ∙ before))
    one false e before = refl

-- so of datasets in their order one at most grows
all_objects_long : (snapshots : List Snapshot) (name : List ℕ) (head : ObjSet) (redact : List ℕ) (datasets : List Dataset) → IsGuidSet redact
    → AllPairs (λ a b. is_before a.name b.name ≡ true) datasets
    → length (flat_map (dataset_bytes snapshots) (with_objects name head redact datasets)) ≤ length (flat_map (dataset_bytes snapshots) datasets) + 136
all_objects_long snapshots name head redact [] is ordered = omega arith
all_objects_long snapshots name head redact (dataset ∷ datasets) is ordered =
    go (bytes_eq dataset.name name) refl
    (all_objects_long snapshots name head redact datasets is (AllPairs-tail (λ (a b : Dataset). is_before a.name b.name ≡ true) dataset datasets ordered))
  where
    rest : List Dataset
    rest = with_objects name head redact datasets

    spell : Dataset → List ℕ
    spell d = dataset_bytes snapshots d

    later : All (λ (d : Dataset). is_before dataset.name d.name ≡ true) datasets
    later = AllPairs-head (λ (a b : Dataset). is_before a.name b.name ≡ true) dataset datasets ordered

    go : (t : Bool) → bytes_eq dataset.name name ≡ t → length (flat_map spell rest) ≤ length (flat_map spell datasets) + 136
        → length (flat_map spell ((if t then record dataset { head = head; redact = redact } else dataset) ∷ rest)) ≤ length (flat_map spell (dataset ∷ datasets)) + 136
    go true e others =
        omega (
          arith,
          objects_long snapshots head redact dataset is,
          ap (λ (l : List Dataset). length (flat_map spell l))
              (unnamed name head redact datasets (subst (λ (n : List ℕ). All (λ (d : Dataset). is_before n d.name ≡ true) datasets) (same_bytes dataset.name name e) later)),
          length-append (spell (record dataset { head = head; redact = redact })) (flat_map spell rest),
          length-append (spell dataset) (flat_map spell datasets),
        )
    go false e others =
        omega (
          arith,
          others,
          length-append (spell dataset) (flat_map spell rest),
          length-append (spell dataset) (flat_map spell datasets),
        )

-- so a directory with other objects of a dataset has few bytes more
pub objects_grow : (rows : Rows) (name : List ℕ) (head : ObjSet) (redact : List ℕ) → IsLawful rows → IsGuidSet redact
    → length (dir_bytes (record rows { datasets = with_objects name head redact rows.datasets })) ≤ length (dir_bytes rows) + 136
objects_grow rows name head redact lawful is =
    omega (
      arith,
      dir_long rows,
      dir_long (record rows { datasets = with_objects name head redact rows.datasets }),
      all_objects_long rows.snapshots name head redact rows.datasets is lawful.ordered.datasets,
    )

-- a bookmark has at most 600 bytes
bookmark_short : (bookmark : Bookmark) → IsBookmarkRow bookmark → length (bookmark_bytes bookmark) ≤ 600
unfolding bookmark_bytes
bookmark_short bookmark is =
    simp (length-append, length-number_bytes, length-ptr_bytes) (omega (
      arith,
      text_short bookmark.name,
      ap length (joined 35 bookmark.name is.name.1),
      length-append (dataset_of 35 bookmark.name) (35 ∷ component_of 35 bookmark.name),
      is.name.0.short,
      is.name.1.short,
      guids_short bookmark.redact is.redact,
    ))

-- so a new bookmark adds few bytes
pub bookmark_grows : (rows : Rows) (row : Bookmark) → IsBookmarkRow row
    → length (dir_bytes (record rows { bookmarks = inserted (λ a b. is_before a.name b.name) row rows.bookmarks })) ≤ length (dir_bytes rows) + 1024
bookmark_grows rows row is =
    let by_name = λ (a b : Bookmark). is_before a.name b.name in
    omega (
      arith,
      dir_long rows,
      dir_long (record rows { bookmarks = inserted by_name row rows.bookmarks }),
      inserted_long bookmark_bytes by_name row rows.bookmarks,
      bookmark_short row is,
    )

-- rows that go add none
pub left_shrinks : (going : Removal) (rows : Rows) → IsLawful rows → IsLawful (without going rows) → length (dir_bytes (without going rows)) ≤ length (dir_bytes rows)
left_shrinks going rows lawful lawful_then =
    omega (
      arith,
      lawful_long rows lawful,
      lawful_long (without going rows) lawful_then,
      left_short (dataset_bytes []) (λ dataset. not (takes_dataset going dataset)) rows.datasets,
      left_short snapshot_bytes (λ snapshot. not (takes_snapshot going snapshot)) rows.snapshots,
      left_short bookmark_bytes (λ bookmark. not (takes_bookmark going bookmark)) rows.bookmarks,
    )
