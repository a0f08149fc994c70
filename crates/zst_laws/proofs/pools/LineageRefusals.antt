-- Which clones and bookmarks are refused, and with what.
use Rattle.std.proofs.Common.{◌≡◌, ℕ, ◌+◌, not, List, length, Option, Some, None, is_some, Result, bytes_eq, sym, ap, ◌∙◌, arith}
use Rattle.std.proofs.lemmas.Bool.{false_from_ne_true, not_from_true, not_from_false}
use Rattle.std.proofs.lemmas.List.Sums.{count_by-le-length}
use Rattle.zst_names.specs.Names.{dataset_of}
use Rattle.zst_model.specs.declared.pools.command.Command.TheVariants as commands
use Rattle.zst_model.specs.declared.refusals.faults.Quantity.TheVariants as quantities
use Rattle.zst_model.specs.declared.refusals.subjects.Name.TheVariants as names
use Rattle.zst_model.specs.declared.refusals.refusal.Refusal.{Refusal}
use Rattle.zst_model.specs.states.AppliedItems.{unless}
use Rattle.zst_model.specs.pools.Sessions.{Held}
use Rattle.zst_model.specs.pools.Pool.{Pool, Dataset, Snapshot, dataset_named, snapshot_named, bookmark_named, dataset_of_snapshot, is_before, inserted}
use Rattle.zst_model.specs.pools.Step.{Stepped, stepped, no_such, exists_already, not_ancestor, or_else, limited, committed, most_bookmarks, with_dataset, clone_of, bookmark_of}
use Rattle.zst_model.proofs.OrderLaws.{same_bytes, bytes_same}
use Rattle.zst_model.proofs.PassedLimits.{over, within_limit}
use Rattle.zst_laws.specs.LineageRefusals.{CloneWantsSnapshot, IsCloneable, CloneIsThere, CloneIsBegun, ClonesAreFull, CloneHasNoNumber, BookmarkWantsSnapshot, BookmarkIsElsewhere, IsMarkable, BookmarkIsThere, BookmarksAreFull, BookmarkHasNoNumber}
use Rattle.zst_laws.proofs.pools.Rows.{named_found}
use Rattle.zst_laws.proofs.pools.StepRefusals.{refused, passed, no_number, name_taken, name_begun, rows_full, row_last}

-- a clone whose snapshot is there is a new dataset
abbrev of_found : Pool → List ℕ → Snapshot → Option Dataset → Result Stepped Refusal
of_found pool name snapshot source = or_else (no_such (names.Dataset (dataset_of_snapshot snapshot))) source (λ from. with_dataset (clone_of name from snapshot) pool)

clone_on : (pool : Pool) (origin name : List ℕ) (held : List Held) (now : ℕ) (is : IsCloneable pool origin)
    → stepped held now (commands.Clone origin name) pool ≡ with_dataset (clone_of name is.source is.snapshot) pool
unfolding stepped
clone_on pool origin name held now is =
    let named = (named_found (λ s. s.name) origin pool.snapshots is.snapshot is.found).1 in
    ap (λ o. or_else (no_such (names.Snapshot origin)) o (λ s. of_found pool name s (dataset_named (dataset_of_snapshot s) pool))) is.found
    ∙ ap (of_found pool name is.snapshot) (ap (λ n. dataset_named (dataset_of 64 n) pool) named ∙ is.of_source)

pub clone_absent : CloneWantsSnapshot
unfolding stepped
clone_absent pool origin name h held now =
    ap (λ o. or_else (no_such (names.Snapshot origin)) o (λ s. of_found pool name s (dataset_named (dataset_of_snapshot s) pool))) h

pub clone_there : CloneIsThere
clone_there pool origin name dataset is h held now = clone_on pool origin name held now is ∙ name_taken (clone_of name is.source is.snapshot) pool dataset h

pub clone_begun : CloneIsBegun
clone_begun pool origin name partial is h held now = clone_on pool origin name held now is ∙ name_begun (clone_of name is.source is.snapshot) pool partial h

pub clones_full : ClonesAreFull
clones_full pool origin name is h l held now = clone_on pool origin name held now is ∙ rows_full (clone_of name is.source is.snapshot) pool h (omega arith)

pub clone_number : CloneHasNoNumber
clone_number pool origin name is h l e held now =
    clone_on pool origin name held now is
    ∙ row_last (clone_of name is.source is.snapshot) pool h (omega (arith, count_by-le-length (λ partial. not (is_some (dataset_named partial.target pool))) pool.partials)) e

-- what comes behind the snapshot of a bookmark
module _ (pool : Pool) (of name : List ℕ) (snapshot : Snapshot) where
  abbrev marked : Pool
  marked = record pool { bookmarks = inserted (λ a b. is_before a.name b.name) (bookmark_of name snapshot) pool.bookmarks }

  abbrev to_limit : Result Stepped Refusal
  to_limit = limited quantities.Bookmarks most_bookmarks (length pool.bookmarks + 1) (committed marked)

  abbrev to_name : Result Stepped Refusal
  to_name = unless (is_some (bookmark_named name pool)) (exists_already (names.Bookmark name)) to_limit

  abbrev to_dataset : Result Stepped Refusal
  to_dataset = unless (not (bytes_eq (dataset_of_snapshot snapshot) (dataset_of 35 name))) (not_ancestor (names.Bookmark name) (names.Snapshot of)) to_name

bookmark_on : (pool : Pool) (of name : List ℕ) (held : List Held) (now : ℕ) (o : Option Snapshot) → snapshot_named of pool ≡ o
    → stepped held now (commands.Bookmark of name) pool ≡ or_else (no_such (names.Snapshot of)) o (to_dataset pool of name)
unfolding stepped
bookmark_on pool of name held now o h = ap (λ o. or_else (no_such (names.Snapshot of)) o (to_dataset pool of name)) h

pub bookmark_absent : BookmarkWantsSnapshot
bookmark_absent pool of name h held now = bookmark_on pool of name held now None h

pub bookmark_elsewhere : BookmarkIsElsewhere
bookmark_elsewhere pool of name snapshot found apart held now =
    let named = (named_found (λ s. s.name) of pool.snapshots snapshot found).1 in
    let differ = false_from_ne_true (bytes_eq (dataset_of_snapshot snapshot) (dataset_of 35 name)) (λ e.
    apart (sym (ap (dataset_of 64) named) ∙ same_bytes (dataset_of_snapshot snapshot) (dataset_of 35 name) e)) in
    bookmark_on pool of name held now (Some snapshot) found
    ∙ refused (not (bytes_eq (dataset_of_snapshot snapshot) (dataset_of 35 name))) _ _ (not_from_false (bytes_eq (dataset_of_snapshot snapshot) (dataset_of 35 name)) differ)

markable_on : (pool : Pool) (of name : List ℕ) (held : List Held) (now : ℕ) (is : IsMarkable pool of name)
    → stepped held now (commands.Bookmark of name) pool ≡ to_name pool of name is.snapshot
markable_on pool of name held now is =
    let named = (named_found (λ s. s.name) of pool.snapshots is.snapshot is.found).1 in
    let same = bytes_same (dataset_of_snapshot is.snapshot) (dataset_of 35 name) (ap (dataset_of 64) named ∙ is.same) in
    bookmark_on pool of name held now (Some is.snapshot) is.found
    ∙ passed (not (bytes_eq (dataset_of_snapshot is.snapshot) (dataset_of 35 name))) _ _ (not_from_true (bytes_eq (dataset_of_snapshot is.snapshot) (dataset_of 35 name)) same)

pub bookmark_there : BookmarkIsThere
bookmark_there pool of name bookmark is h held now =
    markable_on pool of name held now is ∙ ap (λ o. unless (is_some o) (exists_already (names.Bookmark name)) (to_limit pool of name is.snapshot)) h

limit_on : (pool : Pool) (of name : List ℕ) (held : List Held) (now : ℕ) (is : IsMarkable pool of name) → bookmark_named name pool ≡ None
    → stepped held now (commands.Bookmark of name) pool ≡ to_limit pool of name is.snapshot
limit_on pool of name held now is h =
    markable_on pool of name held now is ∙ ap (λ o. unless (is_some o) (exists_already (names.Bookmark name)) (to_limit pool of name is.snapshot)) h

pub bookmarks_full : BookmarksAreFull
unfolding most_bookmarks
bookmarks_full pool of name is h l held now =
    limit_on pool of name held now is h ∙ over quantities.Bookmarks 1024 (length pool.bookmarks + 1) (committed (marked pool of name is.snapshot)) (omega arith)

pub bookmark_number : BookmarkHasNoNumber
unfolding most_bookmarks
bookmark_number pool of name is h l e held now =
    limit_on pool of name held now is h
    ∙ within_limit quantities.Bookmarks 1024 (length pool.bookmarks + 1) (committed (marked pool of name is.snapshot)) (omega arith)
    ∙ no_number (marked pool of name is.snapshot) e
