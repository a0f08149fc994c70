-- A lawful directory with other objects of a dataset.
use Rattle.std.proofs.Common.{◌≡◌, ℕ, ◌+◌, ◌<◌, ◌≤◌, Bool, true, false, List, ◌++◌, length, get_or, set, take, drop, map, IfSome, Option, if◌then◌else◌, refl, sym, ap, ◌∙◌, subst, arith}
use Rattle.std.specs.Str.{bytes_eq}
use Rattle.std.proofs.lemmas.List.Elements.{All-weaker, All-map}
use Rattle.std.proofs.lemmas.List.{take_all, drop_all, append-nil, get_or_default}
use Rattle.std.proofs.lemmas.List.Edits.{map_over_more}
use Rattle.zst_names.specs.Names.{dataset_of}
use Rattle.zst_model.specs.pools.Pool.{is_before}
use Rattle.zst_model.specs.fields.Guids.{IsGuidSet}
use Rattle.zst_model.proofs.InsertedLaws.{contains-map, AllPairs-map}
use Rattle.zst_tree.specs.declared.tree.ObjSet.{ObjSet}
use Rattle.zst_tree.specs.Sets.{SetFits}
use Rattle.zst_dir.specs.Rows.{Rows, with_head, with_head_at, with_objects, with_objects_at, HasDataset, HasSnapshot, IsDatasetRow, IsLawful}
use Rattle.zst_dir.specs.declared.rows.Dataset.{Dataset}

-- a change of datasets that leaves each its name and its origin
pub record LeavesNames (change : Dataset → Dataset) : Type 0 where
  pub name : (d : Dataset) → (change d).name ≡ d.name
  pub origin : (d : Dataset) → (change d).origin ≡ d.origin
  pub row : (d : Dataset) → IsDatasetRow d → IsDatasetRow (change d)

-- a lawful directory with changed datasets
datasets_changed : (change : Dataset → Dataset) (rows : Rows) → LeavesNames change → IsLawful rows → IsLawful (record rows { datasets = map change rows.datasets })
datasets_changed change rows leaves lawful =
    let changed = record rows { datasets = map change rows.datasets } in
    let more : (n : List ℕ) → HasDataset rows n → HasDataset changed n =
    λ n h. (change h.0, contains-map change rows.datasets h.0 h.1, leaves.name h.0 ∙ h.2) in
    record {
      ordered = record {
        datasets =
            AllPairs-map (λ a b. is_before a.name b.name ≡ true) (λ a b. is_before a.name b.name ≡ true) change
            (λ a b h. ap (λ n. is_before n (change b).name) (leaves.name a) ∙ ap (is_before a.name) (leaves.name b) ∙ h)
            rows.datasets lawful.ordered.datasets;
        snapshots = lawful.ordered.snapshots;
        snapshots_differ = lawful.ordered.snapshots_differ;
        bookmarks = lawful.ordered.bookmarks;
        partials = lawful.ordered.partials;
      };
      linked = record {
        snapshots =
            All-weaker (λ s. HasDataset rows (dataset_of 64 s.name)) (λ s. HasDataset changed (dataset_of 64 s.name)) (λ s. more (dataset_of 64 s.name))
            rows.snapshots lawful.linked.snapshots;
        origins =
            All-map (λ d. IfSome d.origin (HasSnapshot rows)) change rows.datasets
            (All-weaker (λ d. IfSome d.origin (HasSnapshot rows)) (λ d. IfSome (change d).origin (HasSnapshot rows))
            (λ d h. subst (λ (o : Option (List ℕ)). IfSome o (HasSnapshot rows)) (sym (leaves.origin d)) h) rows.datasets lawful.linked.origins);
        bases = lawful.linked.bases;
        components = lawful.linked.components;
      };
      datasets = All-map IsDatasetRow change rows.datasets (All-weaker IsDatasetRow (λ d. IsDatasetRow (change d)) leaves.row rows.datasets lawful.datasets);
      snapshots = lawful.snapshots;
      bookmarks = lawful.bookmarks;
      partials = lawful.partials;
    }

-- a change of those of one name leaves the names where each change does
leaves_at : (name : List ℕ) (change : Dataset → Dataset) → LeavesNames change → LeavesNames (λ d. if bytes_eq d.name name then change d else d)
leaves_at name change leaves = record {
  name = λ d. name_under d (bytes_eq d.name name);
  origin = λ d. origin_under d (bytes_eq d.name name);
  row = λ d is. row_under d is (bytes_eq d.name name);
}
  where
    name_under : (d : Dataset) (t : Bool) → (if t then change d else d).name ≡ d.name
    name_under d true = leaves.name d
    name_under d false = refl

    origin_under : (d : Dataset) (t : Bool) → (if t then change d else d).origin ≡ d.origin
    origin_under d true = leaves.origin d
    origin_under d false = refl

    row_under : (d : Dataset) → IsDatasetRow d → (t : Bool) → IsDatasetRow (if t then change d else d)
    row_under d is true = leaves.row d is
    row_under d is false = is

pub head_changed : (name : List ℕ) (head : ObjSet) (rows : Rows) → IsLawful rows → SetFits head
    → IsLawful (record rows { datasets = with_head name head rows.datasets })
head_changed name head rows lawful fits =
    datasets_changed (with_head_at name head) rows
    (leaves_at name (λ d. record d { head = head }) (record {
      name = λ d. refl;
      origin = λ d. refl;
      row = λ d is. record { name = is.name; kind = is.kind; origin = is.origin; head = fits; redact = is.redact };
    })) lawful

pub objects_changed : (name : List ℕ) (head : ObjSet) (redact : List ℕ) (rows : Rows) → IsLawful rows → SetFits head → IsGuidSet redact
    → IsLawful (record rows { datasets = with_objects name head redact rows.datasets })
objects_changed name head redact rows lawful fits guids =
    datasets_changed (with_objects_at name head redact) rows
    (leaves_at name (λ d. record d { head = head; redact = redact }) (record {
      name = λ d. refl;
      origin = λ d. refl;
      row = λ d is. record { name = is.name; kind = is.kind; origin = is.origin; head = fits; redact = guids };
    })) lawful

-- the datasets up to a place changed, and the others as they were
abbrev pub changed_to : (Dataset → Dataset) → ℕ → List Dataset → List Dataset
changed_to change place datasets = map change (take place datasets) ++ drop place datasets

-- one more is changed
changed_more : (change : Dataset → Dataset) (olds news : List Dataset) (place : ℕ) (d value : Dataset) → length news ≡ length olds → place < length olds
    → news ≡ changed_to change place olds → value ≡ change (get_or news place d) → set news place value ≡ changed_to change (place + 1) olds
changed_more change olds news place d value long inside is e =
    let dataset : Dataset = get_or news place d in
    let read : dataset ≡ get_or news place dataset = get_or_default news place d dataset (omega arith) in
    ap (set news place) e ∙ map_over_more change olds news place dataset inside is read

-- one of another name stays as it is
pub changed-same : (name : List ℕ) (change : Dataset → Dataset) (olds news : List Dataset) (place : ℕ) (d : Dataset) → length news ≡ length olds → place < length olds
    → news ≡ changed_to (λ x. if bytes_eq x.name name then change x else x) place olds → bytes_eq (get_or news place d).name name ≡ false
    → set news place (get_or news place d) ≡ changed_to (λ x. if bytes_eq x.name name then change x else x) (place + 1) olds
changed-same name change olds news place d long inside is e =
    changed_more (λ x. if bytes_eq x.name name then change x else x) olds news place d (get_or news place d) long inside is (rw e refl)

-- and one of this name is changed
pub changed-one : (name : List ℕ) (change : Dataset → Dataset) (olds news : List Dataset) (place : ℕ) (d : Dataset) → length news ≡ length olds → place < length olds
    → news ≡ changed_to (λ x. if bytes_eq x.name name then change x else x) place olds → bytes_eq (get_or news place d).name name ≡ true
    → set news place (change (get_or news place d)) ≡ changed_to (λ x. if bytes_eq x.name name then change x else x) (place + 1) olds
changed-one name change olds news place d long inside is e =
    changed_more (λ x. if bytes_eq x.name name then change x else x) olds news place d (change (get_or news place d)) long inside is (rw e refl)

-- at last all are
pub changed-all : (change : Dataset → Dataset) (olds : List Dataset) (place : ℕ) → length olds ≤ place → changed_to change place olds ≡ map change olds
changed-all change olds place all =
    ap (λ (front : List Dataset). map change front ++ drop place olds) (take_all place olds all)
    ∙ ap (λ (rest : List Dataset). map change olds ++ rest) (drop_all place olds all) ∙ append-nil (map change olds)

-- a list in whose place another of its length was written
pub written-whole : {A : Type 0} (olds news : List A) (len : ℕ) → len ≡ length olds → length news ≡ length olds → take len (news ++ drop (length news) olds) ≡ news
written-whole {A = A} olds news len size long =
    ap (λ (rest : List A). take len (news ++ rest)) (drop_all (length news) olds (omega arith)) ∙ ap (take len) (append-nil news) ∙ take_all len news (omega arith)
