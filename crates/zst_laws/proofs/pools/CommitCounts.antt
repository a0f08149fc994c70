-- Each command that commits counts, and each other one keeps the pool.
use Rattle.std.proofs.Common.{◌≡◌, ℕ, List, not, bytes_eq, Result, Ok, All, subst, sym, ap, true}
use Rattle.std.proofs.lemmas.List.Elements.{All-filter}
use Rattle.zst_model.specs.declared.refusals.refusal.Refusal.{Refusal}
use Rattle.zst_model.specs.states.DatedState.{DatedState}
use Rattle.zst_model.specs.pools.Pool.{Pool, Partial}
use Rattle.zst_model.specs.declared.pools.command.Command.{Command}
use Rattle.zst_model.specs.declared.pools.command.Command.TheVariants as commands
use Rattle.zst_model.specs.declared.refusals.subjects.Name.TheVariants as names
use Rattle.zst_model.specs.pools.Step.{Stepped, committed, new_dataset, on_head, stepped}
use Rattle.zst_laws.specs.CommitCounts.{CommitsCount, AnswersKeep}
use Rattle.zst_laws.proofs.pools.AcceptedCommands.{with_dataset_ok, with_snapshot_ok, with_clone_ok, with_bookmark_ok, read_keeps, list_keeps, list_objects_keeps, commit_counts, head_counts}
use Rattle.zst_laws.proofs.pools.AcceptedRedactions.{with_redaction_ok}
use Rattle.zst_laws.specs.StepInvariants.{partials_after, StepsKeepPartials, StepsKeepKept}
use Rattle.zst_laws.proofs.pools.Rows.{committed_ok, on_head_ok}
use Rattle.zst_laws.proofs.pools.AcceptedRemovals.{with_rollback_ok, dataset_destroyed_ok, snapshot_destroyed_ok, bookmark_destroyed_ok, with_aborted_ok}

pub commits_count : CommitsCount
unfolding stepped
commits_count held now (commands.Fs name) pool after h c = commit_counts _ after (with_dataset_ok (new_dataset 2 name) pool after h).made
commits_count held now (commands.Volume name) pool after h c = commit_counts _ after (with_dataset_ok (new_dataset 3 name) pool after h).made
commits_count held now (commands.Object name k head bonus spill) pool after h c = head_counts name pool _ after h
commits_count held now (commands.Write name k i bytes) pool after h c = head_counts name pool _ after h
commits_count held now (commands.Punch name k first count) pool after h c = head_counts name pool _ after h
commits_count held now (commands.Free name first count) pool after h c = head_counts name pool _ after h
commits_count held now (commands.Snapshot name) pool after h c = commit_counts _ after (with_snapshot_ok now name pool after h).made
commits_count held now (commands.Clone origin name) pool after h c = commit_counts _ after (with_clone_ok origin name pool after h).new.made
commits_count held now (commands.Bookmark of name) pool after h c = commit_counts _ after (with_bookmark_ok of name pool after h).made
commits_count held now (commands.Redact of name kept) pool after h c = commit_counts _ after (with_redaction_ok of name kept pool after h).made
commits_count held now (commands.Rollback destroys name) pool after h c = commit_counts _ after (with_rollback_ok held destroys name pool after h).made
commits_count held now (commands.Destroy (names.Dataset name)) pool after h c = commit_counts _ after (dataset_destroyed_ok held name pool after h).made
commits_count held now (commands.Destroy (names.Snapshot name)) pool after h c = commit_counts _ after (snapshot_destroyed_ok held name pool after h).made
commits_count held now (commands.Destroy (names.Bookmark name)) pool after h c = commit_counts _ after (bookmark_destroyed_ok held name pool after h).made
commits_count held now (commands.Abort target) pool after h c = commit_counts _ after (with_aborted_ok held target pool after h).made
commits_count held now commands.Reclaim pool after h c = commit_counts _ after h
commits_count held now (commands.Read name k i) pool after h c = absurd (cc)
commits_count held now commands.List pool after h c = absurd (cc)
commits_count held now (commands.ListObjects name) pool after h c = absurd (cc)

pub answers_keep : AnswersKeep
answers_keep held now (commands.Fs name) pool after h c = absurd (cc)
answers_keep held now (commands.Volume name) pool after h c = absurd (cc)
answers_keep held now (commands.Object name k head bonus spill) pool after h c = absurd (cc)
answers_keep held now (commands.Write name k i bytes) pool after h c = absurd (cc)
answers_keep held now (commands.Punch name k first count) pool after h c = absurd (cc)
answers_keep held now (commands.Free name first count) pool after h c = absurd (cc)
answers_keep held now (commands.Snapshot name) pool after h c = absurd (cc)
answers_keep held now (commands.Clone origin name) pool after h c = absurd (cc)
answers_keep held now (commands.Bookmark of name) pool after h c = absurd (cc)
answers_keep held now (commands.Redact of name kept) pool after h c = absurd (cc)
answers_keep held now (commands.Rollback destroys name) pool after h c = absurd (cc)
answers_keep held now (commands.Destroy name) pool after h c = absurd (cc)
answers_keep held now (commands.Abort target) pool after h c = absurd (cc)
answers_keep held now commands.Reclaim pool after h c = absurd (cc)
answers_keep held now (commands.Read name k i) pool after h c = read_keeps held now name k i pool after h
answers_keep held now commands.List pool after h c = list_keeps held now pool after h
answers_keep held now (commands.ListObjects name) pool after h c = list_objects_keeps held now name pool after h

-- a commit leaves the partial states
commit_leaves : (pool : Pool) (after : Stepped) → committed pool ≡ Ok after → after.pool.partials ≡ pool.partials
commit_leaves pool after h = sym (ap (λ s. s.pool.partials) (committed_ok pool after h).1)

head_leaves : (name : List ℕ) (pool : Pool) (change : DatedState → Result DatedState Refusal) (after : Stepped) → on_head name pool change ≡ Ok after → after.pool.partials ≡ pool.partials
head_leaves name pool change after h = commit_leaves _ after (on_head_ok name pool change after h).5

left : (pool : Pool) (after : Stepped) → after.pool ≡ pool → after.pool.partials ≡ pool.partials
left pool after same = ap (λ (p : Pool). p.partials) same

pub partials_stay : StepsKeepPartials
unfolding stepped
partials_stay held now (commands.Fs name) pool after h = commit_leaves _ after (with_dataset_ok (new_dataset 2 name) pool after h).made
partials_stay held now (commands.Volume name) pool after h = commit_leaves _ after (with_dataset_ok (new_dataset 3 name) pool after h).made
partials_stay held now (commands.Object name k head bonus spill) pool after h = head_leaves name pool _ after h
partials_stay held now (commands.Write name k i bytes) pool after h = head_leaves name pool _ after h
partials_stay held now (commands.Punch name k first count) pool after h = head_leaves name pool _ after h
partials_stay held now (commands.Free name first count) pool after h = head_leaves name pool _ after h
partials_stay held now (commands.Snapshot name) pool after h = commit_leaves _ after (with_snapshot_ok now name pool after h).made
partials_stay held now (commands.Clone origin name) pool after h = commit_leaves _ after (with_clone_ok origin name pool after h).new.made
partials_stay held now (commands.Bookmark of name) pool after h = commit_leaves _ after (with_bookmark_ok of name pool after h).made
partials_stay held now (commands.Redact of name kept) pool after h = commit_leaves _ after (with_redaction_ok of name kept pool after h).made
partials_stay held now (commands.Rollback destroys name) pool after h = commit_leaves _ after (with_rollback_ok held destroys name pool after h).made
partials_stay held now (commands.Destroy (names.Dataset name)) pool after h = commit_leaves _ after (dataset_destroyed_ok held name pool after h).made
partials_stay held now (commands.Destroy (names.Snapshot name)) pool after h = commit_leaves _ after (snapshot_destroyed_ok held name pool after h).made
partials_stay held now (commands.Destroy (names.Bookmark name)) pool after h = commit_leaves _ after (bookmark_destroyed_ok held name pool after h).made
partials_stay held now (commands.Abort target) pool after h = commit_leaves _ after (with_aborted_ok held target pool after h).made
partials_stay held now commands.Reclaim pool after h = commit_leaves _ after h
partials_stay held now (commands.Read name k i) pool after h = left pool after (read_keeps held now name k i pool after h)
partials_stay held now commands.List pool after h = left pool after (list_keeps held now pool after h)
partials_stay held now (commands.ListObjects name) pool after h = left pool after (list_objects_keeps held now name pool after h)

-- what a command leaves of partial states that are kept is kept
left_kept : (command : Command) (partials : List Partial) → All (λ partial. partial.keep ≡ true) partials → All (λ partial. partial.keep ≡ true) (partials_after command partials)
left_kept (commands.Abort target) partials all = All-filter (λ partial. not (bytes_eq partial.target target)) (λ partial. partial.keep ≡ true) partials all
left_kept command partials all = all

pub kept_stay : StepsKeepKept
kept_stay held now command pool after h all =
    subst (λ (partials : List Partial). All (λ partial. partial.keep ≡ true) partials) (sym (partials_stay held now command pool after h)) (left_kept command pool.partials all)
