-- What redaction bookmarks list stays so from one commit to the next.
use Rattle.std.proofs.Common.{◌≡◌, ◌⊎◌, inl, inr, ℕ, ◌<◌, ◌≤◌, Bool, not, List, filter, length, Some, Result, Ok, Contains, bytes_eq, sym, ap, subst, arith}
use Rattle.std.proofs.lemmas.List.Elements.{All-contains}
use Rattle.zst_model.proofs.InsertedLaws.{contains-map, map_contains, contains-inserted}
use Rattle.zst_model.specs.declared.pools.command.Command.{Command}
use Rattle.zst_model.specs.declared.pools.command.Command.TheVariants as commands
use Rattle.zst_model.specs.declared.refusals.refusal.Refusal.{Refusal}
use Rattle.zst_model.specs.declared.refusals.subjects.Name.{Name}
use Rattle.zst_model.specs.declared.refusals.subjects.Name.TheVariants as names
use Rattle.zst_model.specs.pools.Sessions.{Held}
use Rattle.zst_model.specs.pools.Step.{Stepped, stepped, committed, on_head, new_dataset, bookmark_of, with_bookmark, with_destroyed, is_bookmark_of, is_newer_bookmark}
use Rattle.zst_model.specs.states.DatedState.{DatedState}
use Rattle.zst_model.specs.pools.Ancestry.{OfSnapshot, OfBookmark}
use Rattle.zst_model.specs.pools.Pool.{Pool, Snapshot, Bookmark, HasDataset, IsLinked, dataset_of_snapshot, is_before}
use Rattle.zst_model.specs.pools.Soundness.{IsBookmarkOf, Sound}
use Rattle.zst_model.proofs.FilteredLists.{filter_contains}
use Rattle.zst_laws.specs.RedactionLists.{AreListed, AreRedactions, HaveNewGuids, HaveOwnGuids, Lists}
use Rattle.zst_laws.specs.RedactionSteps.{HasNoNewLists, ListsAreKept, OnlyAddsTo}
use Rattle.zst_laws.specs.RememberedStates.{IsOwn}
use Rattle.zst_laws.proofs.pools.AcceptedCommands.{with_dataset_ok, with_snapshot_ok, with_clone_ok, with_bookmark_ok, read_keeps, list_keeps, list_objects_keeps}
use Rattle.zst_laws.proofs.pools.AcceptedRemovals.{with_rollback_ok, dataset_destroyed_ok, snapshot_destroyed_ok, bookmark_destroyed_ok, with_aborted_ok}
use Rattle.zst_laws.proofs.pools.Ancestry.{stood_before}
use Rattle.zst_laws.proofs.pools.Rows.{committed_ok, on_head_ok}
use Rattle.zst_laws.proofs.pools.Descent.{IsNext}

module _ (pool other : Pool) (linked : IsLinked pool) (sound : Sound pool) (next : OnlyAddsTo pool other) (guids : HaveOwnGuids pool) (new : HaveNewGuids pool other) where
  -- an old bookmark's own snapshot is an old one: a new one has a greater number
  old_own : (bookmark : Bookmark) (own : Snapshot) → Contains pool.bookmarks bookmark → Contains other.snapshots own → IsOwn (OfBookmark bookmark) own → Contains pool.snapshots own
  old_own bookmark own old there is = elim (next.snapshots own there) [
    | inl here ↦ here
    | inr made ↦
        let l : bookmark.number ≤ pool.number = (All-contains (IsBookmarkOf pool) pool.bookmarks bookmark sound.bookmarks old).number in
        let m = is.number in absurd (omega (arith, made))
  ]

  -- and its redaction snapshots are old ones, which it stood before
  old_redactions : (bookmark : Bookmark) (own : Snapshot) (redactions : List Snapshot) → Contains pool.bookmarks bookmark → Contains pool.snapshots own
      → AreRedactions other own bookmark.redact redactions → AreRedactions pool own bookmark.redact redactions
  old_redactions bookmark own redactions old here are = record {
    guids_are = are.guids_are;
    there = λ redaction k. there redaction k;
    later = λ redaction k. stood_before pool other (OfSnapshot own) linked next.origins (dataset_of_snapshot redaction) (Some redaction.number)
        (All-contains (λ s. HasDataset pool (dataset_of_snapshot s)) pool.snapshots redaction linked.snapshots (there redaction k)) (are.later redaction k);
    alone = λ one k stands among.
        let found = map_contains (λ (s : Snapshot). s.guid) redactions one.guid (subst (λ gs. Contains gs one.guid) (sym are.guids_are) among) in
        subst (Contains redactions) (guids found.0 one (there found.0 found.1) k found.2) found.1;
  }
    where
      there : (redaction : Snapshot) → Contains redactions redaction → Contains pool.snapshots redaction
      there redaction k = new redaction bookmark (are.there redaction k) old
          (subst (λ gs. Contains gs redaction.guid) are.guids_are (contains-map (λ (s : Snapshot). s.guid) redactions redaction k))

  pub old_listed : AreListed pool → (bookmark : Bookmark) (own : Snapshot) (redactions : List Snapshot) → Contains pool.bookmarks bookmark → 0 < length bookmark.redact
      → Contains other.snapshots own → IsOwn (OfBookmark bookmark) own → AreRedactions other own bookmark.redact redactions → Lists bookmark own redactions
  old_listed listed bookmark own redactions old some there is are =
      let here = old_own bookmark own old there is in
      listed bookmark own redactions old some here is (old_redactions bookmark own redactions old here are)

  -- so lists stay
  pub next_listed : HasNoNewLists pool other → AreListed pool → AreListed other
  next_listed bookmarks listed bookmark own redactions marked some there is are = elim (bookmarks bookmark marked) [
    | inl old ↦ old_listed listed bookmark own redactions old some there is are
    | inr none ↦ absurd (omega arith)
  ]

pub lists_kept : ListsAreKept
lists_kept pool after is sound adds none guids new listed = next_listed pool after is.linked sound adds guids new none listed

-- the pool of the next commit adds to the one before
pub adds_to : (pool other : Pool) → IsNext pool other → OnlyAddsTo pool other
adds_to pool other next = record {
  origins = next.origins;
  snapshots = λ snapshot there. elim (next.snapshots snapshot there) [
    | inl here ↦ inl here
    | inr made ↦ inr (let n = next.number in let m = made.0 in omega arith)
  ];
}

-- ---- what commands leave of the bookmarks

-- a bookmark of the pool, or one without redaction guids
abbrev IsOldOrPlain : Pool → Bookmark → Type 0
IsOldOrPlain pool bookmark = Contains pool.bookmarks bookmark ⊎ (length bookmark.redact ≡ 0)

abbrev OldOrPlain : Pool → Pool → Type 0
OldOrPlain pool after = (bookmark : Bookmark) → Contains after.bookmarks bookmark → IsOldOrPlain pool bookmark

made_of : (pool next : Pool) (after : Stepped) → committed next ≡ Ok after → OldOrPlain pool next → OldOrPlain pool after.pool
made_of pool next after made old = subst (λ (s : Stepped). OldOrPlain pool s.pool) (committed_ok next after made).1 old

all_old : (pool : Pool) → (bookmark : Bookmark) → Contains pool.bookmarks bookmark → IsOldOrPlain pool bookmark
all_old pool bookmark there = inl there

head_old : (name : List ℕ) (pool : Pool) (change : DatedState → Result DatedState Refusal) (after : Stepped) → on_head name pool change ≡ Ok after → OldOrPlain pool after.pool
head_old name pool change after h = made_of pool _ after (on_head_ok name pool change after h).5 (all_old pool)

left_old : (pool : Pool) (keep : Bookmark → Bool) (bookmark : Bookmark) → Contains (filter keep pool.bookmarks) bookmark → IsOldOrPlain pool bookmark
left_old pool keep bookmark there = inl (filter_contains keep pool.bookmarks bookmark there)

destroyed_old : (held : List Held) (name : Name) (pool : Pool) (after : Stepped) → with_destroyed held name pool ≡ Ok after → OldOrPlain pool after.pool
destroyed_old held (names.Dataset name) pool after h =
    made_of pool _ after (dataset_destroyed_ok held name pool after h).made (left_old pool (λ b. not (is_bookmark_of name b)))
destroyed_old held (names.Snapshot name) pool after h = made_of pool _ after (snapshot_destroyed_ok held name pool after h).made (all_old pool)
destroyed_old held (names.Bookmark name) pool after h =
    made_of pool _ after (bookmark_destroyed_ok held name pool after h).made (left_old pool (λ b. not (bytes_eq b.name name)))

marked_old : (of name : List ℕ) (pool : Pool) (after : Stepped) → with_bookmark of name pool ≡ Ok after → OldOrPlain pool after.pool
marked_old of name pool after h =
    let new = with_bookmark_ok of name pool after h in
    made_of pool _ after new.made (λ bookmark there. elim (contains-inserted (λ a b. is_before a.name b.name) (bookmark_of name new.snapshot) pool.bookmarks bookmark there) [
      | inl e ↦ inr (ap (λ (b : Bookmark). length b.redact) (sym e))
      | inr old ↦ inl old
    ])

-- so do all commands but a redaction, which makes a redaction bookmark
abbrev LeavesOld : Command → Pool → Pool → Type 0
LeavesOld (commands.Redact of name kept) pool after = Unit {0}
LeavesOld _ pool after = OldOrPlain pool after

pub steps_bookmarks : (held : List Held) (now : ℕ) (command : Command) (pool : Pool) (after : Stepped) → stepped held now command pool ≡ Ok after → LeavesOld command pool after.pool
unfolding stepped
steps_bookmarks held now (commands.Fs name) pool after h = made_of pool _ after (with_dataset_ok (new_dataset 2 name) pool after h).made (all_old pool)
steps_bookmarks held now (commands.Volume name) pool after h = made_of pool _ after (with_dataset_ok (new_dataset 3 name) pool after h).made (all_old pool)
steps_bookmarks held now (commands.Object name k object bonus spill) pool after h = head_old name pool _ after h
steps_bookmarks held now (commands.Write name k i bytes) pool after h = head_old name pool _ after h
steps_bookmarks held now (commands.Punch name k first count) pool after h = head_old name pool _ after h
steps_bookmarks held now (commands.Free name first count) pool after h = head_old name pool _ after h
steps_bookmarks held now (commands.Snapshot name) pool after h = made_of pool _ after (with_snapshot_ok now name pool after h).made (all_old pool)
steps_bookmarks held now (commands.Clone origin name) pool after h = made_of pool _ after (with_clone_ok origin name pool after h).new.made (all_old pool)
steps_bookmarks held now (commands.Bookmark of name) pool after h = marked_old of name pool after h
steps_bookmarks held now (commands.Redact of name kept) pool after h = tt
steps_bookmarks held now (commands.Rollback destroys name) pool after h =
    let rolled = with_rollback_ok held destroys name pool after h in made_of pool _ after rolled.made (left_old pool (λ b. not (is_newer_bookmark rolled.snapshot b)))
steps_bookmarks held now (commands.Destroy name) pool after h = destroyed_old held name pool after h
steps_bookmarks held now (commands.Abort target) pool after h = made_of pool _ after (with_aborted_ok held target pool after h).made (all_old pool)
steps_bookmarks held now commands.Reclaim pool after h = made_of pool _ after h (all_old pool)
steps_bookmarks held now (commands.Read name k i) pool after h = subst (OldOrPlain pool) (sym (read_keeps held now name k i pool after h)) (all_old pool)
steps_bookmarks held now commands.List pool after h = subst (OldOrPlain pool) (sym (list_keeps held now pool after h)) (all_old pool)
steps_bookmarks held now (commands.ListObjects name) pool after h = subst (OldOrPlain pool) (sym (list_objects_keeps held now name pool after h)) (all_old pool)
