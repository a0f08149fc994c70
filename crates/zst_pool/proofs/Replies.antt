-- An accepted command that commits answers the number of its commit.
use Rattle.std.specs.Prelude.{Result, Ok, Err, IfOk, bytes_eq, filter, find, not}
use Rattle.std.proofs.Common.{◌≡◌, ℕ, ◌+◌, ◌≤◌, ◌<◌, ◌^◌, ◌||◌, Bool, true, false, List, [], ◌∷◌, Option, Some, None, is_some, length, map, nat_lt, refl, ap, arith}
use Rattle.std.proofs.lemmas.Bool.Decides.{nat_tests}
use Rattle.std.proofs.lemmas.Result.{IfOk-at_ok}
use Rattle.zst_model.specs.declared.pools.command.Command.{Command}
use Rattle.zst_model.specs.declared.pools.command.Command.TheVariants as commands
use Rattle.zst_model.specs.declared.refusals.faults.Quantity.TheVariants as quantities
use Rattle.zst_model.specs.declared.refusals.refusal.Refusal.{Refusal}
use Rattle.zst_model.specs.declared.refusals.refusal.Refusal.TheVariants as refusals
use Rattle.zst_model.specs.states.AppliedItems.{unless, ◌>>=◌}
use Rattle.zst_model.specs.states.DatedState.{DatedState}
use Rattle.zst_model.specs.pools.AnswerLines.{ok_line}
use Rattle.zst_names.specs.Names.{dataset_of}
use Rattle.zst_model.specs.declared.refusals.subjects.Name.{Name}
use Rattle.zst_model.specs.declared.refusals.subjects.Name.TheVariants as names
use Rattle.zst_model.specs.pools.Pool.{Pool, Bookmark, Dataset, Partial, Snapshot, bookmark_named, dataset_named, partial_of, snapshot_named}
use Rattle.zst_model.specs.pools.Step.{Stepped, bookmark_of, busy_bookmark, busy_clone, busy_partial, busy_snapshot, clone_of, commits, committed, count_datasets, destroyed_by, exists_already, is_newer_bookmark, is_of, is_one_of, last_guid, last_number, least_name, limited, most_bookmarks, most_datasets, most_snapshots, new_dataset, newer_snapshots, no_partial, no_such, not_ancestor, on_head, or_else, punched, rolled_back, stepped, unless_newer, unless_there, unless_used, with_aborted, with_bookmark, with_clone, with_dataset, with_destroyed, with_rollback, with_snapshot, without_bookmark, without_dataset, without_partial, without_snapshot, written, find_each, not_descendant, redaction_of, relayed, with_redaction}
use Rattle.zst_pool.specs.Checks.{freed, put_in, if_guid_left, if_new_snapshot, next_of, with_head_of, with_new, with_taken}
use Rattle.zst_model.specs.pools.Ancestry.{OfSnapshot}
use Rattle.zst_model.specs.pools.Limits.{most_runs}
use Rattle.zst_model.specs.sends.SendPlan.{comes_before, has_guids}
use Rattle.zst_pool.specs.Lineage.{if_few_bookmarks, if_free_bookmark, if_new_bookmark, with_marked}
use Rattle.zst_pool.specs.Redactions.{if_descend, if_short, if_whole}

-- where it is accepted, its answer is the next number, and that isn't past the last one
pub record IsReply (number : ℕ) (done : Stepped) : Type 0 where
  pub line : done.reply ≡ ok_line (number + 1) ∷ []
  pub below : number < 2 ^ 63

module _ (number : ℕ) where
  on_unless : (b : Bool) (e : Refusal) (r : Result Stepped Refusal) → IfOk r (IsReply number) → IfOk (unless b e r) (IsReply number)
  on_unless true e r is = tt
  on_unless false e r is = is

  on_or_else : {A : Type 0} (e : Refusal) (o : Option A) (next : A → Result Stepped Refusal) → ((x : A) → IfOk (next x) (IsReply number)) → IfOk (or_else e o next) (IsReply number)
  on_or_else e None next is = tt
  on_or_else e (Some x) next is = is x

  on_unless_there : {A : Type 0} (refusal : A → Refusal) (o : Option A) (rest : Result Stepped Refusal) → IfOk rest (IsReply number) → IfOk (unless_there refusal o rest) (IsReply number)
  on_unless_there refusal None rest is = is
  on_unless_there refusal (Some x) rest is = tt

  on_bind : {A : Type 0} (r : Result A Refusal) (next : A → Result Stepped Refusal) → ((x : A) → IfOk (next x) (IsReply number)) → IfOk (r >>= next) (IsReply number)
  on_bind (Ok x) next is = is x
  on_bind (Err e) next is = tt

  on_committed : (pool : Pool) → pool.number ≡ number → IfOk (committed pool) (IsReply number)
  unfolding last_number
  on_committed pool same = go (nat_lt (2 ^ 63) (pool.number + 1)) refl
    where
      go : (b : Bool) → nat_lt (2 ^ 63) (pool.number + 1) ≡ b → IfOk (unless b (refusals.Limit quantities.Number (2 ^ 63)) (Ok (next_of pool))) (IsReply number)
      go true e = tt
      go false e = let le : pool.number + 1 ≤ 2 ^ 63 = grind (arith, nat_tests) in record { line = ap (λ n. ok_line (n + 1) ∷ []) same; below = omega (arith, le, same) }

of_dataset : (dataset : Dataset) (pool : Pool) → IfOk (with_dataset dataset pool) (IsReply pool.number)
of_dataset dataset pool =
    let name = dataset.name in
    let taken = exists_already (names.Dataset name) in
    let made = committed (with_new dataset pool) in
    let few = limited quantities.Datasets most_datasets (count_datasets pool + 1) made in
    on_unless pool.number (is_some (dataset_named name pool)) taken (unless (is_some (partial_of name pool)) taken few)
    (on_unless pool.number (is_some (partial_of name pool)) taken few
    (on_unless pool.number (nat_lt most_datasets (count_datasets pool + 1)) (refusals.Limit quantities.Datasets most_datasets) made
    (on_committed pool.number (with_new dataset pool) refl)))

of_head : (name : List ℕ) (pool : Pool) (change : DatedState → Result DatedState Refusal) → IfOk (on_head name pool change) (IsReply pool.number)
of_head name pool change =
    let made = λ (dataset : Dataset). change dataset.head >>= λ (head : DatedState). committed (with_head_of name head pool) in
    on_or_else pool.number (no_such (names.Dataset name)) (dataset_named name pool) (λ dataset. unless (is_some (partial_of name pool)) (busy_partial name) (made dataset))
    (λ dataset. on_unless pool.number (is_some (partial_of name pool)) (busy_partial name) (made dataset)
    (on_bind pool.number (change dataset.head) (λ head. committed (with_head_of name head pool)) (λ head. on_committed pool.number (with_head_of name head pool) refl)))

of_snapshot : (now : ℕ) (name : List ℕ) (pool : Pool) → IfOk (with_snapshot now name pool) (IsReply pool.number)
of_snapshot now name pool =
    let of = dataset_of 64 name in
    let made = λ (dataset : Dataset). committed (with_taken now name dataset pool) in
    let left = λ (dataset : Dataset). if_guid_left pool.guids (made dataset) in
    let count = length pool.snapshots + length pool.partials + 1 in
    let few = λ (dataset : Dataset). limited quantities.Snapshots most_snapshots count (left dataset) in
    on_or_else pool.number (no_such (names.Dataset of)) (dataset_named of pool) (λ dataset. unless (is_some (partial_of of pool)) (busy_partial of) (if_new_snapshot name pool (left dataset)))
    (λ dataset. on_unless pool.number (is_some (partial_of of pool)) (busy_partial of) (if_new_snapshot name pool (left dataset))
    (on_unless pool.number (is_some (snapshot_named name pool)) (exists_already (names.Snapshot name)) (few dataset)
    (on_unless pool.number (nat_lt most_snapshots count) (refusals.Limit quantities.Snapshots most_snapshots) (left dataset)
    (on_unless pool.number (nat_lt last_guid (pool.guids + 1)) (refusals.Limit quantities.Guids last_guid) (made dataset)
    (on_committed pool.number (with_taken now name dataset pool) refl)))))

of_clone : (origin name : List ℕ) (pool : Pool) → IfOk (with_clone origin name pool) (IsReply pool.number)
of_clone origin name pool =
    let made = λ (snapshot : Snapshot) (source : Dataset). with_dataset (clone_of name source snapshot) pool in
    let of = λ (snapshot : Snapshot). dataset_of 64 snapshot.name in
    on_or_else pool.number (no_such (names.Snapshot origin)) (snapshot_named origin pool) (λ snapshot. or_else (no_such (names.Dataset (of snapshot))) (dataset_named (of snapshot) pool) (made snapshot))
    (λ snapshot. on_or_else pool.number (no_such (names.Dataset (of snapshot))) (dataset_named (of snapshot) pool) (made snapshot)
    (λ source. of_dataset (clone_of name source snapshot) pool))

of_bookmark : (snapshot name : List ℕ) (pool : Pool) → IfOk (with_bookmark snapshot name pool) (IsReply pool.number)
of_bookmark snapshot name pool =
    let made = λ (taken : Snapshot). committed (with_marked (bookmark_of name taken) pool) in
    let few = λ (taken : Snapshot). limited quantities.Bookmarks most_bookmarks (length pool.bookmarks + 1) (made taken) in
    let is_of_another = λ (taken : Snapshot). not (bytes_eq (dataset_of 64 taken.name) (dataset_of 35 name)) in
    on_or_else pool.number (no_such (names.Snapshot snapshot)) (snapshot_named snapshot pool)
    (λ taken. unless (is_of_another taken) (not_ancestor (names.Bookmark name) (names.Snapshot snapshot)) (if_new_bookmark name pool (made taken)))
    (λ taken. on_unless pool.number (is_of_another taken) (not_ancestor (names.Bookmark name) (names.Snapshot snapshot)) (if_new_bookmark name pool (made taken))
    (on_unless pool.number (is_some (bookmark_named name pool)) (exists_already (names.Bookmark name)) (few taken)
    (on_unless pool.number (nat_lt most_bookmarks (length pool.bookmarks + 1)) (refusals.Limit quantities.Bookmarks most_bookmarks) (made taken)
    (on_committed pool.number (with_marked (bookmark_of name taken) pool) refl))))

of_unused : (is_such : Partial → Bool) (gone : List Snapshot) (pool : Pool) (rest : Result Stepped Refusal) → IfOk rest (IsReply pool.number)
    → IfOk (unless_used is_such gone pool rest) (IsReply pool.number)
of_unused is_such gone pool rest is =
    let clones = find (λ (dataset : Dataset). is_one_of gone dataset.origin) pool.datasets in
    on_unless_there pool.number (λ (partial : Partial). busy_partial partial.target) (find (λ partial. is_such partial || is_one_of gone partial.base) pool.partials)
    (unless_there (λ dataset. busy_clone dataset.name) clones rest)
    (on_unless_there pool.number (λ (dataset : Dataset). busy_clone dataset.name) clones rest is)

of_destroyed : (name : Name) (pool : Pool) → IfOk (with_destroyed [] name pool) (IsReply pool.number)
of_destroyed (names.Dataset name) pool =
    let rest = committed (without_dataset name pool) in
    let held = λ (partial : Partial). bytes_eq partial.target name in
    on_or_else pool.number (no_such (names.Dataset name)) (dataset_named name pool) (λ dataset. unless_used held (filter (is_of name) pool.snapshots) pool rest)
    (λ dataset. of_unused held (filter (is_of name) pool.snapshots) pool rest (on_committed pool.number (without_dataset name pool) refl))
of_destroyed (names.Snapshot name) pool =
    let rest = committed (without_snapshot name pool) in
    on_or_else pool.number (no_such (names.Snapshot name)) (snapshot_named name pool) (λ snapshot. unless_used (λ partial. false) (snapshot ∷ []) pool rest)
    (λ snapshot. of_unused (λ partial. false) (snapshot ∷ []) pool rest (on_committed pool.number (without_snapshot name pool) refl))
of_destroyed (names.Bookmark name) pool =
    on_or_else pool.number (no_such (names.Bookmark name)) (bookmark_named name pool) (λ bookmark. committed (without_bookmark name pool))
    (λ bookmark. on_committed pool.number (without_bookmark name pool) refl)

of_newer : (destroys : Bool) (snapshot : Snapshot) (pool : Pool) (rest : Result Stepped Refusal) → IfOk rest (IsReply pool.number)
    → IfOk (unless_newer destroys snapshot pool rest) (IsReply pool.number)
of_newer true snapshot pool rest is = is
of_newer false snapshot pool rest is =
    let least = least_name (map (λ (other : Snapshot). other.name) (newer_snapshots snapshot pool)) in
    on_unless_there pool.number (λ (bookmark : Bookmark). busy_bookmark bookmark.name) (find (is_newer_bookmark snapshot) pool.bookmarks) (unless_there busy_snapshot least rest)
    (on_unless_there pool.number busy_snapshot least rest is)

of_redaction : (snapshot name : List ℕ) (words : List (List ℕ)) (pool : Pool) → IfOk (with_redaction snapshot name words pool) (IsReply pool.number)
of_redaction snapshot name words pool =
    let row = λ (taken : Snapshot) (redactions : List Snapshot). redaction_of name taken redactions in
    let short = λ (taken : Snapshot) (redactions : List Snapshot). if_short (row taken redactions) pool in
    let few = λ (taken : Snapshot) (redactions : List Snapshot). if_few_bookmarks pool (short taken redactions) in
    let descend = λ (taken : Snapshot) (redactions : List Snapshot). if_descend pool taken redactions (few taken redactions) in
    let whole = λ (taken : Snapshot) (redactions : List Snapshot). if_whole taken.redact (descend taken redactions) in
    let free = λ (taken : Snapshot) (redactions : List Snapshot). if_free_bookmark name pool (whole taken redactions) in
    let other = not_ancestor (names.Bookmark name) (names.Snapshot snapshot) in
    let is_of_another = λ (taken : Snapshot). not (bytes_eq (dataset_of 64 taken.name) (dataset_of 35 name)) in
    let checked = λ (taken : Snapshot) (redactions : List Snapshot). unless (is_of_another taken) other (free taken redactions) in
    on_or_else pool.number (no_such (names.Snapshot snapshot)) (snapshot_named snapshot pool) (λ taken. find_each words pool >>= λ redactions. checked taken redactions) (λ taken.
    on_bind pool.number (find_each words pool) (λ redactions. checked taken redactions) (λ redactions.
    on_unless pool.number (is_of_another taken) other (free taken redactions)
    (on_unless pool.number (is_some (bookmark_named name pool)) (exists_already (names.Bookmark name)) (whole taken redactions)
    (on_unless pool.number (has_guids taken.redact) relayed (descend taken redactions)
    (on_unless_there pool.number not_descendant (find (λ redaction. not (comes_before pool (OfSnapshot taken) redaction)) redactions) (few taken redactions)
    (on_unless pool.number (nat_lt most_bookmarks (length pool.bookmarks + 1)) (refusals.Limit quantities.Bookmarks most_bookmarks) (short taken redactions)
    (on_unless pool.number (nat_lt most_runs (length (row taken redactions).runs)) (refusals.Limit quantities.Runs most_runs) (committed (with_marked (row taken redactions) pool))
    (on_committed pool.number (with_marked (row taken redactions) pool) refl))))))))

of_rollback : (destroys : Bool) (name : List ℕ) (pool : Pool) → IfOk (with_rollback [] destroys name pool) (IsReply pool.number)
of_rollback destroys name pool =
    let rest = λ (snapshot : Snapshot). unless_newer destroys snapshot pool (committed (rolled_back snapshot pool)) in
    let held = λ (snapshot : Snapshot) (partial : Partial). bytes_eq partial.target (dataset_of 64 snapshot.name) in
    on_or_else pool.number (no_such (names.Snapshot name)) (snapshot_named name pool) (λ snapshot. unless_used (held snapshot) (destroyed_by destroys snapshot pool) pool (rest snapshot))
    (λ snapshot. of_unused (held snapshot) (destroyed_by destroys snapshot pool) pool (rest snapshot)
    (of_newer destroys snapshot pool (committed (rolled_back snapshot pool)) (on_committed pool.number (rolled_back snapshot pool) refl)))

of_aborted : (target : List ℕ) (pool : Pool) → IfOk (with_aborted [] target pool) (IsReply pool.number)
of_aborted target pool =
    on_or_else pool.number (no_partial target) (partial_of target pool) (λ partial. committed (without_partial target pool))
    (λ partial. on_committed pool.number (without_partial target pool) refl)

of_step : (now : ℕ) (command : Command) (pool : Pool) → commits command ≡ true → IfOk (stepped [] now command pool) (IsReply pool.number)
unfolding stepped
of_step now (commands.Fs dataset) pool commit = of_dataset (new_dataset 2 dataset) pool
of_step now (commands.Volume dataset) pool commit = of_dataset (new_dataset 3 dataset) pool
of_step now (commands.Object dataset k head bonus spill) pool commit = of_head dataset pool (put_in pool k head bonus spill)
of_step now (commands.Write dataset k i bytes) pool commit = of_head dataset pool (written pool k i bytes)
of_step now (commands.Punch dataset k first count) pool commit = of_head dataset pool (punched pool k first count)
of_step now (commands.Free dataset first count) pool commit = of_head dataset pool (freed pool first count)
of_step now (commands.Snapshot name) pool commit = of_snapshot now name pool
of_step now (commands.Clone origin dataset) pool commit = of_clone origin dataset pool
of_step now (commands.Bookmark snapshot bookmark) pool commit = of_bookmark snapshot bookmark pool
of_step now (commands.Redact snapshot bookmark redactions) pool commit = of_redaction snapshot bookmark redactions pool
of_step now (commands.Rollback destroys snapshot) pool commit = of_rollback destroys snapshot pool
of_step now (commands.Destroy name) pool commit = of_destroyed name pool
of_step now (commands.Abort dataset) pool commit = of_aborted dataset pool
of_step now commands.Reclaim pool commit = on_committed pool.number pool refl
of_step now (commands.Read name k i) pool commit = absurd (cc)
of_step now commands.List pool commit = absurd (cc)
of_step now (commands.ListObjects name) pool commit = absurd (cc)

pub step_reply : (now : ℕ) (command : Command) (pool : Pool) (done : Stepped) → commits command ≡ true → stepped [] now command pool ≡ Ok done → IsReply pool.number done
step_reply now command pool done commit made = IfOk-at_ok (IsReply pool.number) made (of_step now command pool commit)
