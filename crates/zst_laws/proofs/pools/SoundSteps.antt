-- Each command makes a sound pool of a sound pool, in which each source remembers what it did.
use Rattle.std.proofs.Common.{◌≡◌, ◌⊎◌, inl, inr, ℕ, ◌+◌, ◌*◌, ◌<◌, Bool, not, List, [], ◌∷◌, filter, Contains, bytes_eq, Option, IfSome, Result, Ok, refl, subst, sym, arith}
use Rattle.std.proofs.lemmas.List.Elements.{All-contains}
use Rattle.std.proofs.lemmas.List.Kept.{AllPairs-filter}
use Rattle.zst_names.specs.Names.{dataset_of}
use Rattle.zst_model.specs.fields.Guids.{IsGuidSet}
use Rattle.zst_model.specs.declared.states.attr.ObjectHead.{ObjectHead}
use Rattle.zst_model.specs.declared.pools.command.Command.{Command}
use Rattle.zst_model.specs.declared.pools.command.Command.TheVariants as commands
use Rattle.zst_model.specs.declared.refusals.faults.Quantity.TheVariants as quantities
use Rattle.zst_model.specs.declared.refusals.subjects.Name.{Name}
use Rattle.zst_model.specs.declared.refusals.subjects.Name.TheVariants as names
use Rattle.zst_model.specs.declared.states.item.Change.TheVariants.{Free, Write}
use Rattle.zst_model.specs.declared.states.item.Item.{Item}
use Rattle.zst_model.specs.declared.states.item.Item.TheVariants.{FreeObjects, At}
use Rattle.zst_model.specs.declared.refusals.refusal.Refusal.{Refusal}
use Rattle.zst_model.specs.states.State.{IsState, IsHead, IsBonus, IsSpill, number_bound, index_bound}
use Rattle.zst_model.specs.states.AppliedItems.{◌>>=◌}
use Rattle.zst_model.specs.states.DatedState.{DatedState, size_at, apply_all_dated}
use Rattle.zst_model.specs.pools.Sessions.{Held}
use Rattle.zst_model.specs.pools.Pool.{Pool, Dataset, Snapshot, Bookmark, Partial, HasDataset, IsKind, IsPool}
use Rattle.zst_model.specs.pools.Soundness.{Sound}
use Rattle.zst_model.specs.pools.Step.{Stepped, stepped, IsCommand, committed, with_head, in_numbers, in_indices, applied, filled, written, punched, on_head, new_dataset, with_dataset, with_snapshot, snapshot_of, clone_of, with_clone, bookmark_of, with_bookmark, redaction_of, with_redaction, with_rollback, with_destroyed, with_aborted}
use Rattle.zst_model.proofs.FilteredLists.{filter_contains}
use Rattle.zst_model.proofs.ObjectNumbers.{number_from}
use Rattle.zst_model.proofs.Results.{ok_parts, bind_ok}
use Rattle.zst_laws.specs.StepInvariants.{StepsKeepSound}
use Rattle.zst_laws.specs.RememberedStates.{SourceRemembers, StepsRemember}
use Rattle.zst_laws.proofs.pools.Rows.{named_found, none_named, of_applying_ok, limited_ok, committed_ok, on_head_ok}
use Rattle.zst_laws.proofs.pools.AcceptedCommands.{with_dataset_ok, with_snapshot_ok, with_clone_ok, with_bookmark_ok, read_keeps, list_keeps, list_objects_keeps}
use Rattle.zst_laws.proofs.pools.LawfulHeads.{object_items, object_items_are_lawful}
use Rattle.zst_laws.proofs.histories.Agreement.{Keeps, keeps_one, keeps_all}
use Rattle.zst_laws.proofs.pools.Descent.{Rises, IsNext, next_remembers}
use Rattle.zst_laws.proofs.pools.OtherDatasets.{KeepsDatasets, datasets_next, datasets_sound}
use Rattle.zst_laws.proofs.pools.SoundHeads.{head_keeps}
use Rattle.zst_laws.proofs.pools.SoundDatasets.{with_new, dataset_keeps, new_is_first, clone_comes}
use Rattle.zst_laws.proofs.pools.SoundBookmarks.{bookmark_next, bookmark_sound}
use Rattle.zst_laws.proofs.pools.SoundRest.{fewer_next, fewer_sound, left_next, left_sound, rolled_next, rolled_sound, aborted_next, aborted_sound}
use Rattle.zst_laws.proofs.pools.AcceptedRedactions.{with_redaction_ok}
use Rattle.zst_laws.proofs.pools.AcceptedRemovals.{with_rollback_ok, dataset_destroyed_ok, snapshot_destroyed_ok, bookmark_destroyed_ok, with_aborted_ok}
use Rattle.zst_laws.proofs.pools.SoundSnapshots.{IsNew, snapshot_next, snapshot_sound}

-- a pool of the next commit that is sound
pub record IsSoundNext (pool after : Pool) : Type 0 where
  pub next : IsNext pool after
  pub sound : Sound after

-- datasets that keep the old ones, in the next commit
other_datasets : (pool : Pool) (datasets : List Dataset) (after : Stepped) → IsPool pool → Sound pool → KeepsDatasets pool datasets
    → committed (record pool { datasets = datasets }) ≡ Ok after → IsSoundNext pool after.pool
other_datasets pool datasets after is sound keeps made =
    subst (λ s. IsSoundNext pool s.pool) (committed_ok _ after made).1
    (record { next = datasets_next pool datasets is.linked keeps; sound = datasets_sound pool datasets is.linked keeps sound })

-- fs and volume
new_follows : (kind : ℕ) (name : List ℕ) (pool : Pool) (after : Stepped) → IsPool pool → Sound pool → with_dataset (new_dataset kind name) pool ≡ Ok after → IsSoundNext pool after.pool
new_follows kind name pool after is sound h =
    let row = new_dataset kind name in
    let new = with_dataset_ok row pool after h in
    let absent : HasDataset pool name → ⊥ = λ (d, there, named). none_named (λ d. d.name) name pool.datasets new.absent d there named in
    let free : (p : Partial) → Contains pool.partials p → p.target ≡ name → ⊥ = none_named (λ p. p.target) name pool.partials new.free in
    other_datasets pool (with_new row pool.datasets) after is sound
    (dataset_keeps pool row is.linked absent free (new_is_first pool kind name is.linked absent free)) new.made

-- a clone
cloned_follows : (origin name : List ℕ) (pool : Pool) (after : Stepped) → IsPool pool → Sound pool → with_clone origin name pool ≡ Ok after → IsSoundNext pool after.pool
cloned_follows origin name pool after is sound h =
    let cloned = with_clone_ok origin name pool after h in
    let row = clone_of name cloned.source cloned.snapshot in
    let found = named_found (λ s. s.name) origin pool.snapshots cloned.snapshot cloned.there in
    let absent : HasDataset pool name → ⊥ = λ (d, there, named). none_named (λ d. d.name) name pool.datasets cloned.new.absent d there named in
    let free : (p : Partial) → Contains pool.partials p → p.target ≡ name → ⊥ = none_named (λ p. p.target) name pool.partials cloned.new.free in
    other_datasets pool (with_new row pool.datasets) after is sound
    (dataset_keeps pool row is.linked absent free (clone_comes pool name cloned.source cloned.snapshot is.named is.linked sound found.0 absent free)) cloned.new.made

-- a bookmark
marked_follows : (of name : List ℕ) (pool : Pool) (after : Stepped) → IsPool pool → Sound pool → with_bookmark of name pool ≡ Ok after → IsSoundNext pool after.pool
marked_follows of name pool after is sound h =
    let new = with_bookmark_ok of name pool after h in
    let there = (named_found (λ s. s.name) of pool.snapshots new.snapshot new.there).0 in
    subst (λ s. IsSoundNext pool s.pool) (committed_ok _ after new.made).1 (record {
      next = bookmark_next pool (bookmark_of name new.snapshot) new.snapshot is.linked sound there refl refl new.same;
      sound = bookmark_sound pool (bookmark_of name new.snapshot) new.snapshot is.linked sound there refl refl new.same;
    })

-- a redaction bookmark
redacted_follows : (of name : List ℕ) (kept : List (List ℕ)) (pool : Pool) (after : Stepped) → IsPool pool → Sound pool
    → with_redaction of name kept pool ≡ Ok after → IsSoundNext pool after.pool
redacted_follows of name kept pool after is sound h =
    let new = with_redaction_ok of name kept pool after h in
    let row = redaction_of name new.snapshot new.redactions in
    let there = (named_found (λ s. s.name) of pool.snapshots new.snapshot new.there).0 in
    subst (λ s. IsSoundNext pool s.pool) (committed_ok _ after new.made).1 (record {
      next = bookmark_next pool row new.snapshot is.linked sound there refl refl new.same;
      sound = bookmark_sound pool row new.snapshot is.linked sound there refl refl new.same;
    })

-- a rollback
rolled_follows : (held : List Held) (destroys : Bool) (name : List ℕ) (pool : Pool) (after : Stepped) → IsPool pool → Sound pool
    → with_rollback held destroys name pool ≡ Ok after → IsSoundNext pool after.pool
rolled_follows held destroys name pool after is sound h =
    let rolled = with_rollback_ok held destroys name pool after h in
    let there = (named_found (λ s. s.name) name pool.snapshots rolled.snapshot rolled.there).0 in
    subst (λ s. IsSoundNext pool s.pool) (committed_ok _ after rolled.made).1
    (record { next = rolled_next pool rolled.snapshot is.linked sound there; sound = rolled_sound pool rolled.snapshot is.linked sound there })

-- a destroy
destroyed_follows : (held : List Held) (name : Name) (pool : Pool) (after : Stepped) → IsPool pool → Sound pool
    → with_destroyed held name pool ≡ Ok after → IsSoundNext pool after.pool
destroyed_follows held (names.Dataset name) pool after is sound h =
    let gone = dataset_destroyed_ok held name pool after h in
    subst (λ s. IsSoundNext pool s.pool) (committed_ok _ after gone.made).1
    (record { next = left_next pool name is.linked sound gone.unused.such; sound = left_sound pool name is.linked sound gone.unused.such })
destroyed_follows held (names.Snapshot name) pool after is sound h =
    let gone = snapshot_destroyed_ok held name pool after h in
    let stays = λ (s : Snapshot). not (bytes_eq s.name name) in
    let some = filter_contains stays pool.snapshots in
    let rise = AllPairs-filter Rises stays pool.snapshots sound.dated.rise in
    subst (λ s. IsSoundNext pool s.pool) (committed_ok _ after gone.made).1 (record {
      next = fewer_next pool (filter stays pool.snapshots) pool.bookmarks is.linked sound some rise (λ b there. there);
      sound = fewer_sound pool (filter stays pool.snapshots) pool.bookmarks is.linked sound some rise (λ b there. there);
    })
destroyed_follows held (names.Bookmark name) pool after is sound h =
    let gone = bookmark_destroyed_ok held name pool after h in
    let stays = λ (b : Bookmark). not (bytes_eq b.name name) in
    let some = filter_contains stays pool.bookmarks in
    subst (λ s. IsSoundNext pool s.pool) (committed_ok _ after gone.made).1 (record {
      next = fewer_next pool pool.snapshots (filter stays pool.bookmarks) is.linked sound (λ s there. there) sound.dated.rise some;
      sound = fewer_sound pool pool.snapshots (filter stays pool.bookmarks) is.linked sound (λ s there. there) sound.dated.rise some;
    })

-- an abort
aborted_follows : (held : List Held) (target : List ℕ) (pool : Pool) (after : Stepped) → IsPool pool → Sound pool
    → with_aborted held target pool ≡ Ok after → IsSoundNext pool after.pool
aborted_follows held target pool after is sound h =
    let stays = λ (p : Partial). not (bytes_eq p.target target) in
    subst (λ s. IsSoundNext pool s.pool) (committed_ok _ after (with_aborted_ok held target pool after h).made).1
    (record { next = aborted_next pool stays is.linked sound; sound = aborted_sound pool stays is.linked sound })

-- a reclaim, which leaves all that is there
reclaimed_follows : (pool : Pool) (after : Stepped) → IsPool pool → Sound pool → committed pool ≡ Ok after → IsSoundNext pool after.pool
reclaimed_follows pool after is sound h = subst (λ s. IsSoundNext pool s.pool) (committed_ok _ after h).1 (record {
  next = fewer_next pool pool.snapshots pool.bookmarks is.linked sound (λ s there. there) sound.dated.rise (λ b there. there);
  sound = fewer_sound pool pool.snapshots pool.bookmarks is.linked sound (λ s there. there) sound.dated.rise (λ b there. there);
})

-- a snapshot
taken_follows : (now : ℕ) (name : List ℕ) (pool : Pool) (after : Stepped) → IsPool pool → Sound pool → with_snapshot now name pool ≡ Ok after → IsSoundNext pool after.pool
taken_follows now name pool after is sound h =
    let new = with_snapshot_ok now name pool after h in
    let found = named_found (λ d. d.name) (dataset_of 64 name) pool.datasets new.dataset new.there in
    let row = snapshot_of now name pool new.dataset in
    let is_new : IsNew pool row new.dataset = record {
      number = refl;
      there = found.0;
      named = found.1;
      objects = refl;
      name_free = λ (s, there, named). none_named (λ s. s.name) name pool.snapshots new.absent s there named;
      not_received = λ p there target. none_named (λ p. p.target) (dataset_of 64 name) pool.partials new.free p there target;
    } in
    subst (λ s. IsSoundNext pool s.pool) (committed_ok _ after new.made).1 (record {
      next = snapshot_next pool row new.dataset is_new is.named is.linked sound;
      sound = snapshot_sound pool row new.dataset is_new is.named is.linked sound;
    })

-- a command whose change keeps what the head that it changes remembered
changed_follows : (name : List ℕ) (pool : Pool) (change : DatedState → Result DatedState Refusal) (after : Stepped) → IsPool pool → Sound pool
    → ((head made : DatedState) → IsState head.state → change head ≡ Ok made → Keeps (pool.number + 1) head made)
    → on_head name pool change ≡ Ok after → IsSoundNext pool after.pool
changed_follows name pool change after is sound keeps h =
    let (dataset, head, named, free, changed, made) = on_head_ok name pool change after h in
    let found = named_found (λ d. d.name) name pool.datasets dataset named in
    let lawful = All-contains (λ d. IsKind d.kind × IsGuidSet d.redact × IsState d.head.state) pool.datasets dataset is.datasets found.0 in
    other_datasets pool (with_head name head pool.datasets) after is sound
    (head_keeps pool name head dataset found.0 found.1 (keeps dataset.head head lawful.2 changed)) made

-- object: OBJECT and SPILL, which are lawful
object_keeps : (pool : Pool) (k : ℕ) (object : ObjectHead) (bonus : List ℕ) (spill : Option (List ℕ)) (head after : DatedState)
    → IsState head.state → 0 < k → IsHead object → IsBonus bonus → IfSome spill IsSpill → in_numbers (k + 1) (applied pool (object_items k object bonus spill) head) ≡ Ok after
    → Keeps (pool.number + 1) head after
object_keeps pool k object bonus spill head after s some is_head few is_spill h =
    let below = limited_ok quantities.Object number_bound (k + 1) (applied pool (object_items k object bonus spill) head) after h in
    let number = number_from k some (omega (arith, below.0)) in
    keeps_all (pool.number + 1) (object_items k object bonus spill) head after s
    (object_items_are_lawful k object bonus spill head.state number is_head few is_spill)
    (of_applying_ok (apply_all_dated (pool.number + 1) (object_items k object bonus spill) head) after below.1)

-- free: one item, which keeps what agrees whether it is lawful or not
one_keeps : (pool : Pool) (item : Item) (head after : DatedState) → IsState head.state → applied pool (item ∷ []) head ≡ Ok after → Keeps (pool.number + 1) head after
one_keeps pool item head after s h =
    keeps_one (pool.number + 1) item head after s (of_applying_ok (apply_all_dated (pool.number + 1) (item ∷ []) head) after h)

free_keeps : (pool : Pool) (first count : ℕ) (head after : DatedState)
    → IsState head.state → in_numbers (first + count) (applied pool (FreeObjects first count ∷ []) head) ≡ Ok after → Keeps (pool.number + 1) head after
free_keeps pool first count head after s h =
    one_keeps pool (FreeObjects first count) head after s (limited_ok quantities.Object number_bound (first + count) (applied pool (FreeObjects first count ∷ []) head) after h).1

-- write and punch: one item, and a range of indices that ends within the bound
within_keeps : (pool : Pool) (item : Item) (past : ℕ) (head after : DatedState) → IsState head.state
    → (applied pool (item ∷ []) head >>= λ made. in_indices past (Ok made)) ≡ Ok after → Keeps (pool.number + 1) head after
within_keeps pool item past head after s h =
    let made = bind_ok (applied pool (item ∷ []) head) (λ made. in_indices past (Ok made)) after h in
    let below = limited_ok quantities.Block index_bound past (Ok made.0) after made.2 in
    subst (Keeps (pool.number + 1) head) (ok_parts made.0 after below.1) (one_keeps pool item head made.0 s made.1)

write_keeps : (pool : Pool) (k i : ℕ) (bytes : List ℕ) (head after : DatedState) → IsState head.state → written pool k i bytes head ≡ Ok after → Keeps (pool.number + 1) head after
write_keeps pool k i bytes head after s h =
    let size = size_at (head.state k) in within_keeps pool (At k (Write (i * size) 0 (filled size bytes))) (i + 1) head after s h

punch_keeps : (pool : Pool) (k first count : ℕ) (head after : DatedState) → IsState head.state → punched pool k first count head ≡ Ok after → Keeps (pool.number + 1) head after
punch_keeps pool k first count head after s h =
    let size = size_at (head.state k) in within_keeps pool (At k (Free (first * size) (count * size))) (first + count) head after s h

-- an accepted command leaves the pool as it was, or makes a sound pool of the next commit
pub steps_follow : (held : List Held) (now : ℕ) (command : Command) (pool : Pool) (after : Stepped)
    → IsCommand command → IsPool pool → Sound pool → stepped held now command pool ≡ Ok after → (after.pool ≡ pool) ⊎ IsSoundNext pool after.pool
unfolding stepped
steps_follow held now (commands.Fs name) pool after command is sound h = inr (new_follows 2 name pool after is sound h)
steps_follow held now (commands.Volume name) pool after command is sound h = inr (new_follows 3 name pool after is sound h)
steps_follow held now (commands.Object name k object bonus spill) pool after command is sound h =
    inr (changed_follows name pool (λ d. in_numbers (k + 1) (applied pool (object_items k object bonus spill) d)) after is sound
    (λ head made s g. object_keeps pool k object bonus spill head made s command.1 command.2 command.3 command.4 g) h)
steps_follow held now (commands.Write name k i bytes) pool after command is sound h =
    inr (changed_follows name pool (written pool k i bytes) after is sound (write_keeps pool k i bytes) h)
steps_follow held now (commands.Punch name k first count) pool after command is sound h =
    inr (changed_follows name pool (punched pool k first count) after is sound (punch_keeps pool k first count) h)
steps_follow held now (commands.Free name first count) pool after command is sound h =
    inr (changed_follows name pool (λ d. in_numbers (first + count) (applied pool (FreeObjects first count ∷ []) d)) after is sound (free_keeps pool first count) h)
steps_follow held now (commands.Snapshot name) pool after command is sound h = inr (taken_follows now name pool after is sound h)
steps_follow held now (commands.Clone origin name) pool after command is sound h = inr (cloned_follows origin name pool after is sound h)
steps_follow held now (commands.Bookmark of name) pool after command is sound h = inr (marked_follows of name pool after is sound h)
steps_follow held now (commands.Redact of name kept) pool after command is sound h = inr (redacted_follows of name kept pool after is sound h)
steps_follow held now (commands.Rollback destroys name) pool after command is sound h = inr (rolled_follows held destroys name pool after is sound h)
steps_follow held now (commands.Destroy name) pool after command is sound h = inr (destroyed_follows held name pool after is sound h)
steps_follow held now (commands.Abort target) pool after command is sound h = inr (aborted_follows held target pool after is sound h)
steps_follow held now commands.Reclaim pool after command is sound h = inr (reclaimed_follows pool after is sound h)
steps_follow held now (commands.Read name k i) pool after command is sound h = inl (read_keeps held now name k i pool after h)
steps_follow held now commands.List pool after command is sound h = inl (list_keeps held now pool after h)
steps_follow held now (commands.ListObjects name) pool after command is sound h = inl (list_objects_keeps held now name pool after h)

pub steps_sound : StepsKeepSound
steps_sound held now command pool after words is sound h = elim (steps_follow held now command pool after words is sound h) [
  | inl same ↦ subst Sound (sym same) sound
  | inr follows ↦ follows.sound
]

pub steps_remember : StepsRemember
steps_remember held now command pool after source state words is sound h here there remembers = elim (steps_follow held now command pool after words is sound h) [
  | inl same ↦ subst (λ p. SourceRemembers p source state) (sym same) remembers
  | inr follows ↦ next_remembers pool after.pool is.linked sound follows.next source state here there remembers
]
