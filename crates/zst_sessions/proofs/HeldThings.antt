-- What is looked for among the rows of a directory is what the definition looks for in the pool that they name.
use Rattle.std.specs.Prelude.{find}
use Rattle.std.proofs.Common.{◌≡◌, ◌≢◌, ℕ, Bool, true, false, cond, ◌&&◌, nat_lt, List, [], ◌∷◌, map, filter, get_or, position, Option, Some, None, is_some, bytes_eq, refl, sym, ap, ◌∙◌, subst}
use Rattle.std.specs.List.{list_any, All}
use Rattle.std.specs.Option.{option_map_or}
use Rattle.std.proofs.lemmas.Bool.{true≢false}
use Rattle.zst_names.specs.Names.{dataset_of}
use Rattle.zst_dir.proofs.Matches.{Match-alike, any_is_found, find-Match, is_some-position, list_any-Match, list_any-filter}
use Rattle.zst_dir.proofs.NamedRows.{dataset_is_there, snapshot_is_there}
use Rattle.zst_dir.specs.Removal.{takes_snapshot}
use Rattle.zst_dir.specs.RowNames.{AreNamed, NamesPartial, NamesSnapshot}
use Rattle.zst_dir.specs.Rows.{Rows, is_for}
use Rattle.zst_dir.specs.declared.removal.Removal.{Removal}
use Rattle.zst_dir.specs.declared.removal.Removal.TheVariants as goes
use Rattle.zst_dir.specs.declared.rows.Partial.{Partial}
use Rattle.zst_dir.specs.declared.rows.Snapshot.{Snapshot}
use Rattle.zst_model.proofs.Options.{none_there}
use Rattle.zst_model.proofs.OrderLaws.{bytes_same}
use Rattle.zst_model.specs.declared.pools.command.Command.{Command}
use Rattle.zst_model.specs.declared.pools.command.Command.TheVariants as commands
use Rattle.zst_model.specs.declared.refusals.subjects.Name.{Name}
use Rattle.zst_model.specs.declared.refusals.subjects.Name.TheVariants as names
use Rattle.zst_model.specs.pools.Pool as plain
use Rattle.zst_model.specs.pools.Pool.{Pool, dataset_of_snapshot, partial_of, snapshot_named}
use Rattle.zst_model.specs.pools.Sessions.{Held, Holds, Claims, has_claimed, has_named, least_id, lesser, session_into, session_with}
use Rattle.zst_model.specs.pools.Step.{is_newer, newer_snapshots, session_of_one}
use Rattle.zst_script.specs.declared.event.Side.{Side}
use Rattle.zst_script.specs.declared.event.Side.TheVariants.{Here, There}
use Rattle.zst_sessions.proofs.LeastSessions.{least-append, least_alike, least_of_none, lesser_of_none}
use Rattle.zst_sessions.specs.BusySessions.{busy_for}
use Rattle.zst_sessions.specs.EngineSteps.{coded_claim, coded_held, coded_hold, target_of}
use Rattle.zst_sessions.specs.SessionHolders.{coded_claims, coded_holds, has_going, lesser_of, may_be_had}
use Rattle.zst_sessions.specs.World.{is_side}
use Rattle.zst_sessions.specs.declared.open_sessions.OpenReceive as kept_receives
use Rattle.zst_sessions.specs.declared.open_sessions.OpenSend as kept_sends

-- ---- the two kinds of sessions

-- no receive has a snapshot
pub no_claim_has : (name : List ℕ) (claims : List kept_receives.OpenReceive) → least_id (has_named (names.Snapshot name)) (map coded_claim claims) ≡ None
no_claim_has name claims = least_of_none coded_claim (has_named (names.Snapshot name)) (λ x. refl) claims

-- no send claims a dataset
pub no_hold_claims : (target : List ℕ) (holds : List kept_sends.OpenSend) → least_id (has_claimed target) (map coded_hold holds) ≡ None
no_hold_claims target holds = least_of_none coded_hold (has_claimed target) (λ x. refl) holds

-- no session has a bookmark
pub no_session_has : (name : List ℕ) (held : List Held) → session_with (names.Bookmark name) held ≡ None
no_session_has name [] = refl
no_session_has name (x ∷ rest) = no_session_has name rest

module _ (side : Side) (sends : List kept_sends.OpenSend) (receives : List kept_receives.OpenReceive) where
  -- a snapshot is a send's alone
  pub snapshot_of_send : (name : List ℕ) → session_with (names.Snapshot name) (coded_held side sends receives) ≡ least_id (has_named (names.Snapshot name)) (coded_holds side sends)
  snapshot_of_send name =
      least-append (has_named (names.Snapshot name)) (coded_holds side sends) (coded_claims side receives)
      ∙ lesser_of_none _ _ (no_claim_has name (filter (λ one. is_side one.side side) receives))

  -- a claim is a receive's alone
  pub claim_of_receive : (target : List ℕ) → session_into target (coded_held side sends receives) ≡ least_id (has_claimed target) (coded_claims side receives)
  claim_of_receive target =
      least-append (has_claimed target) (coded_holds side sends) (coded_claims side receives)
      ∙ ap (λ (o : Option ℕ). lesser_of o (least_id (has_claimed target) (coded_claims side receives))) (no_hold_claims target (filter (λ one. is_side one.side side) sends))

  -- a dataset is a send's whose snapshot it has, or a receive's
  pub dataset_of_either : (name : List ℕ)
      → session_with (names.Dataset name) (coded_held side sends receives)
      ≡ lesser_of (least_id (has_named (names.Dataset name)) (coded_holds side sends)) (session_into name (coded_held side sends receives))
  dataset_of_either name =
      least-append (has_named (names.Dataset name)) (coded_holds side sends) (coded_claims side receives)
      ∙ ap (lesser_of (least_id (has_named (names.Dataset name)) (coded_holds side sends)))
      (least_of_claims (filter (λ one. is_side one.side side) receives) ∙ sym (claim_of_receive name))
    where
      least_of_claims : (claims : List kept_receives.OpenReceive) → least_id (has_named (names.Dataset name)) (map coded_claim claims) ≡ least_id (has_claimed name) (map coded_claim claims)
      least_of_claims [] = refl
      least_of_claims (x ∷ rest) = ap (λ (o : Option ℕ). cond (has_claimed name (coded_claim x)) (Some (lesser x.id o)) o) (least_of_claims rest)

-- ---- what a command names

-- a side is itself
pub same_side : (side : Side) → is_side side side ≡ true
same_side Here = refl
same_side There = refl

-- where no receive of a pool is found that is into a target, none is
pub none_into : (side : Side) (target : List ℕ) (receives : List kept_receives.OpenReceive)
    → All (λ one. (is_side one.side side && has_claimed target (coded_claim one)) ≡ false) receives → All (λ one. one.side ≡ side → target_of one ≢ target) receives
none_into side target receives none k d lt =
    λ here same. true≢false (sym (both here same) ∙ none k d lt)
  where
    both : (get_or receives k d).side ≡ side → target_of (get_or receives k d) ≡ target → (is_side (get_or receives k d).side side && has_claimed target (coded_claim (get_or receives k d))) ≡ true
    both here same =
        ap (λ (s : Side). is_side s side && has_claimed target (coded_claim (get_or receives k d))) here
        ∙ ap (λ (b : Bool). b && has_claimed target (coded_claim (get_or receives k d))) (same_side side)
        ∙ bytes_same (target_of (get_or receives k d)) target same

-- where no row of a target is found, there is none
pub none_for : (target : List ℕ) (partials : List Partial) → is_some (position (λ partial. bytes_eq partial.target target) partials) ≡ false → find (is_for target) partials ≡ None
none_for target partials none =
    none_there (find (is_for target) partials) (sym (any_is_found (is_for target) partials) ∙ sym (is_some-position (λ (partial : Partial). bytes_eq partial.target target) partials) ∙ none)

-- no other command than a rollback, a destroy and an abort is held back
pub others_free : (held : List Held) (pool : Pool) (command : Command) → ((destroys : Bool) (name : List ℕ) → ¬ (command ≡ commands.Rollback destroys name)) → ((name : Name) → ¬ (command ≡ commands.Destroy name))
    → ((target : List ℕ) → ¬ (command ≡ commands.Abort target)) → busy_for held command pool ≡ None
unfolding busy_for
others_free held pool (commands.Fs dataset) rolls destroys aborts = refl
others_free held pool (commands.Volume dataset) rolls destroys aborts = refl
others_free held pool (commands.Object dataset k head bonus spill) rolls destroys aborts = refl
others_free held pool (commands.Write dataset k i bytes) rolls destroys aborts = refl
others_free held pool (commands.Punch dataset k first count) rolls destroys aborts = refl
others_free held pool (commands.Free dataset first count) rolls destroys aborts = refl
others_free held pool (commands.Snapshot name) rolls destroys aborts = refl
others_free held pool (commands.Clone origin dataset) rolls destroys aborts = refl
others_free held pool (commands.Bookmark snapshot bookmark) rolls destroys aborts = refl
others_free held pool (commands.Redact snapshot bookmark redactions) rolls destroys aborts = refl
others_free held pool (commands.Rollback also name) rolls destroys aborts = absurd (rolls also name refl)
others_free held pool (commands.Destroy name) rolls destroys aborts = absurd (destroys name refl)
others_free held pool (commands.Abort target) rolls destroys aborts = absurd (aborts target refl)
others_free held pool commands.Reclaim rolls destroys aborts = refl
others_free held pool (commands.Read name k i) rolls destroys aborts = refl
others_free held pool commands.List rolls destroys aborts = refl
others_free held pool (commands.ListObjects name) rolls destroys aborts = refl

module _ (rows : Rows) (pool : Pool) (are : AreNamed rows pool) where
  partial_is_there : (target : List ℕ) → is_some (position (λ partial. bytes_eq partial.target target) rows.partials) ≡ is_some (partial_of target pool)
  partial_is_there target =
      is_some-position (λ (partial : Partial). bytes_eq partial.target target) rows.partials
      ∙ list_any-Match NamesPartial (λ partial. bytes_eq partial.target target) (λ partial. bytes_eq partial.target target)
      (λ x y is. ap (λ n. bytes_eq n target) (sym is.target)) rows.partials pool.partials are.partials

  -- the session that has what a destroy names, where that is there
  pub named_busy : (held : List Held) (name : Name) → cond (may_be_had name rows) (session_with name held) None ≡ busy_for held (commands.Destroy name) pool
  unfolding busy_for
  named_busy held (names.Dataset name) = ap (λ (b : Bool). cond b (session_with (names.Dataset name) held) None) (dataset_is_there rows pool are name)
  named_busy held (names.Snapshot name) = ap (λ (b : Bool). cond b (session_with (names.Snapshot name) held) None) (snapshot_is_there rows pool are name)
  named_busy held (names.Bookmark name) = refl

  -- the session that receives into a dataset whose partial state is there
  pub partial_busy : (held : List Held) (target : List ℕ)
      → cond (is_some (position (λ partial. bytes_eq partial.target target) rows.partials)) (session_into target held) None ≡ busy_for held (commands.Abort target) pool
  unfolding busy_for
  partial_busy held target = ap (λ (b : Bool). cond b (session_into target held) None) (partial_is_there target)

  -- without -r a rollback destroys nothing, and to an absent snapshot there is none
  pub keeping_free : (held : List Held) (name : List ℕ) → busy_for held (commands.Rollback false name) pool ≡ None
  unfolding busy_for
  keeping_free held name = refl

  pub absent_free : (held : List Held) (name : List ℕ) → position (λ snapshot. bytes_eq snapshot.name name) rows.snapshots ≡ None → busy_for held (commands.Rollback true name) pool ≡ None
  unfolding busy_for
  absent_free held name none =
      ap (λ (o : Option plain.Snapshot). option_map_or (λ snapshot. session_of_one (newer_snapshots snapshot pool) held) o None)
      (none_there (snapshot_named name pool) (sym (snapshot_is_there rows pool are name) ∙ ap is_some none))

  -- a row is newer where its snapshot is
  newer_row : (taken : plain.Snapshot) (snapshot : List ℕ) (x : Snapshot) (y : plain.Snapshot) → NamesSnapshot x y
      → (takes_snapshot (goes.Newer (dataset_of_snapshot taken) taken.number) x && bytes_eq snapshot x.name) ≡ (is_newer taken y && bytes_eq snapshot y.name)
  newer_row taken snapshot x y is =
      ap (λ (n : List ℕ). (bytes_eq (dataset_of 64 n) (dataset_of_snapshot taken) && nat_lt taken.number x.number) && bytes_eq snapshot n) (sym is.name)
      ∙ ap (λ (k : ℕ). (bytes_eq (dataset_of 64 y.name) (dataset_of_snapshot taken) && nat_lt taken.number k) && bytes_eq snapshot y.name) (sym is.number)

  -- a session has a row that goes where it has one of the newer snapshots
  newer_had : (taken : plain.Snapshot) (one : Held)
      → list_any (λ snapshot. has_named (names.Snapshot snapshot.name) one) (newer_snapshots taken pool) ≡ has_going (goes.Newer (dataset_of_snapshot taken) taken.number) rows one
  newer_had taken (Holds id snapshot) =
      list_any-filter (is_newer taken) (λ (s : plain.Snapshot). bytes_eq snapshot s.name) pool.snapshots
      ∙ any_is_found (λ (s : plain.Snapshot). is_newer taken s && bytes_eq snapshot s.name) pool.snapshots
      ∙ sym (list_any-Match NamesSnapshot (λ row. takes_snapshot (goes.Newer (dataset_of_snapshot taken) taken.number) row && bytes_eq snapshot row.name)
      (λ s. is_newer taken s && bytes_eq snapshot s.name) (newer_row taken snapshot) rows.snapshots pool.snapshots are.snapshots)
  newer_had taken (Claims id dataset) = none_claims (newer_snapshots taken pool)
    where
      none_claims : (xs : List plain.Snapshot) → list_any (λ snapshot. has_named (names.Snapshot snapshot.name) (Claims id dataset)) xs ≡ false
      none_claims [] = refl
      none_claims (x ∷ xs) = none_claims xs

  -- the session that holds a snapshot which a rollback with -r to this row destroys
  pub newer_busy : (side : Side) (sends : List kept_sends.OpenSend) (receives : List kept_receives.OpenReceive) (name : List ℕ) (place : ℕ) (row : Snapshot)
      → position (λ snapshot. bytes_eq snapshot.name name) rows.snapshots ≡ Some place → get_or rows.snapshots place row ≡ row
      → least_id (has_going (goes.Newer (dataset_of 64 row.name) row.number) rows) (coded_holds side sends) ≡ busy_for (coded_held side sends receives) (commands.Rollback true name) pool
  unfolding busy_for
  newer_busy side sends receives name place row at is =
      let found = find-Match NamesSnapshot (λ snapshot. bytes_eq snapshot.name name) (λ snapshot. bytes_eq snapshot.name name) (λ x y named. ap (λ n. bytes_eq n name) (sym named.name))
      row rows.snapshots pool.snapshots are.snapshots place at in
      let taken = found.0 in
      let named = Match-alike NamesSnapshot rows.snapshots pool.snapshots (get_or rows.snapshots place row) taken are.snapshots found.2 in
      let of_row : NamesSnapshot row taken = subst (λ (r : Snapshot). NamesSnapshot r taken) is named in
      let going : goes.Newer (dataset_of 64 row.name) row.number ≡ goes.Newer (dataset_of_snapshot taken) taken.number =
      ap (λ (n : List ℕ). goes.Newer (dataset_of 64 n) row.number) (sym of_row.name) ∙ ap (λ (k : ℕ). goes.Newer (dataset_of_snapshot taken) k) (sym of_row.number) in
      let test : Held → Bool = λ one. list_any (λ snapshot. has_named (names.Snapshot snapshot.name) one) (newer_snapshots taken pool) in
      ap (λ (g : Removal). least_id (has_going g rows) (coded_holds side sends)) going
      ∙ sym (least_alike test (has_going (goes.Newer (dataset_of_snapshot taken) taken.number) rows) (newer_had taken) (coded_holds side sends))
      ∙ sym (least-append test (coded_holds side sends) (coded_claims side receives)
      ∙ lesser_of_none _ _ (least_of_none coded_claim test (λ x. newer_had taken (coded_claim x)) (filter (λ one. is_side one.side side) receives)))
      ∙ sym (ap (λ (o : Option plain.Snapshot). option_map_or (λ snapshot. session_of_one (newer_snapshots snapshot pool) (coded_held side sends receives)) o None) found.1)
