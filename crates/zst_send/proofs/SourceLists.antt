-- What the list of a source answers, as an opening tells it: of a redacted snapshot it is made, and of a bookmark it is read.
use Rattle.std.specs.Prelude.{IfErr, IfSome}
use Rattle.std.proofs.Common.{◌≡◌, inl, inr, ℕ, ◌<◌, nat_lt, Bool, true, false, ◌&&◌, List, [], ◌∷◌, length, get_or, Option, Some, None, Result, Ok, Err, refl, sym, ap, ◌∙◌, subst, arith}
use Rattle.std.proofs.lemmas.Bool.{le-ltb, lt-ltb, true≢false}
use Rattle.zst_block.specs.declared.fault.BlockFault.TheVariants as blocks
use Rattle.zst_dir.specs.RowNames.{AreNamed, NamesSnapshot}
use Rattle.zst_dir.specs.Rows.{Rows}
use Rattle.zst_dir.specs.declared.rows.Snapshot.{Snapshot}
use Rattle.zst_model.specs.declared.refusals.faults.Quantity.TheVariants as quantities
use Rattle.zst_model.specs.declared.refusals.plan_fault.PlanFault.{PlanFault}
use Rattle.zst_model.specs.declared.refusals.plan_fault.PlanFault.TheVariants as plans
use Rattle.zst_model.specs.fields.Lists.{Runs}
use Rattle.zst_model.specs.fields.RunsOf.{runs_of}
use Rattle.zst_model.specs.pools.Ancestry.{Source, OfSnapshot, OfBookmark}
use Rattle.zst_model.specs.pools.Limits.{most_runs}
use Rattle.zst_model.specs.pools.Pool.{Pool}
use Rattle.zst_model.specs.pools.Pool as plain
use Rattle.zst_model.specs.pools.RedSet.{redacted_pairs}
use Rattle.zst_model.specs.sends.Headers.{Sent, redacted_runs, source_runs}
use Rattle.zst_model.specs.sends.SendPlan.{has_guids, is_redacted, with_list}
use Rattle.zst_model.specs.states.AppliedItems.{unless}
use Rattle.zst_model.specs.states.State.{State}
use Rattle.zst_model.proofs.GuidLists.{no_guids}
use Rattle.zst_objset.specs.Damage.{DamageFact}
use Rattle.zst_objset.specs.Sets.{SetHolds}
use Rattle.zst_plan.proofs.AlikeAnswers.{at_names}
use Rattle.zst_plan.specs.Places.{FindAlike, StandsAt}
use Rattle.zst_plan.specs.Plans.{bookmark_source, snapshot_source}
use Rattle.zst_pool.specs.Damage.{IsOf}
use Rattle.zst_pool.specs.Faults.{of_built}
use Rattle.zst_pool.specs.Lists.{IsOutside, IsUnread}
use Rattle.zst_pool.specs.Redactions.{MakesList}
use Rattle.zst_pool.specs.declared.fault.PoolFault.{PoolFault}
use Rattle.zst_pool.specs.declared.fault.PoolFault.TheVariants.{Plan, CannotApply, Redacted, Full, Damaged, DiskFault, Failed, OutOfMemory}
use Rattle.zst_redact.specs.BuiltLists as redacts
use Rattle.zst_redact.specs.declared.fault.RedactFault.{RedactFault}
use Rattle.zst_redact.specs.declared.fault.RedactFault.TheVariants.{Limit, Block}
use Rattle.zst_tree.specs.Indices.{Blocks}
use Rattle.zst_tree.specs.declared.or_memory.OrMemory.{OrMemory}
use Rattle.zst_tree.specs.declared.or_memory.OrMemory.TheVariants.{Fault, Memory}
use Rattle.zst_send.specs.Openings.{GivesRuns, GivesSource, HoldsSource, IsSnapshotAt, IsUnlisted, IsUnstarted, is_long, redacted_source, runs_in}
use Rattle.zst_send.proofs.StandingRows.{source_at_place}

-- ---- what is redacted in a snapshot

-- with redaction guids its list is that of what is redacted
redacted_listed : (guids : List ℕ) (state : State) → has_guids guids ≡ true → redacted_runs guids state ≡ runs_of (redacted_pairs state)
redacted_listed [] state some = absurd (true≢false (sym some ∙ le-ltb 0 0 (omega arith)))
redacted_listed (guid ∷ guids) state some = refl

-- and without them an empty one
whole_listed : (guids : List ℕ) (state : State) → has_guids guids ≡ false → redacted_runs guids state ≡ []
whole_listed guids state none = ap (λ (g : List ℕ). redacted_runs g state) (no_guids guids none)

-- so its length alone says whether it is too long
redacted_long : (snapshot : plain.Snapshot) → has_guids snapshot.redact ≡ true
    → is_long (Some (OfSnapshot snapshot)) ≡ nat_lt most_runs (length (runs_of (redacted_pairs snapshot.objects.state)))
redacted_long snapshot some =
    ap (λ (b : Bool). b && nat_lt most_runs (length (redacted_runs snapshot.redact snapshot.objects.state))) some
    ∙ ap (λ (runs : Runs). nat_lt most_runs (length runs)) (redacted_listed snapshot.redact snapshot.objects.state some)

-- ---- what is given

-- the list of what isn't a redacted snapshot isn't too long
gives_plain : (source : Option Source) (result : Result Runs PoolFault) → is_redacted source ≡ false → GivesRuns (source_runs source) result → GivesSource source result
gives_plain source (Ok list) plain gives = (gives, ap (λ (b : Bool). b && nat_lt most_runs (length (source_runs source))) plain)
gives_plain source (Err (Plan fault)) plain gives = absurd gives
gives_plain source (Err (CannotApply fault)) plain gives = absurd gives
gives_plain source (Err (Redacted object block)) plain gives = absurd gives
gives_plain source (Err (Full need largest)) plain gives = absurd gives
gives_plain source (Err (Damaged sector stated found)) plain gives = absurd gives
gives_plain source (Err DiskFault) plain gives = tt
gives_plain source (Err Failed) plain gives = absurd gives
gives_plain source (Err OutOfMemory) plain gives = tt

-- it is a bookmark's, where it is no snapshot's
pub gives_listed : (source : Option Source) (result : Result Runs PoolFault) → snapshot_source source ≡ None → GivesRuns (runs_in (bookmark_source source)) result → GivesSource source result
gives_listed None result none gives = gives_plain None result refl gives
gives_listed (Some (OfSnapshot snapshot)) result none gives = absurd (cc none)
gives_listed (Some (OfBookmark bookmark)) result none gives = gives_plain (Some (OfBookmark bookmark)) result refl gives

-- that of a snapshot without redaction guids is empty
pub gives_whole : (snapshot : plain.Snapshot) (list : Runs) → has_guids snapshot.redact ≡ false → list ≡ [] → GivesSource (Some (OfSnapshot snapshot)) (Ok list)
gives_whole snapshot list plain none = gives_plain (Some (OfSnapshot snapshot)) (Ok list) plain (none ∙ sym (whole_listed snapshot.redact snapshot.objects.state plain))

-- and that of one with some is what is made of what is redacted in it
pub gives_redacted : (snapshot : plain.Snapshot) (result : Result Runs PoolFault) → has_guids snapshot.redact ≡ true → MakesList (runs_of (redacted_pairs snapshot.objects.state)) result
    → GivesSource (Some (OfSnapshot snapshot)) result
gives_redacted snapshot (Ok list) some makes = (
  makes.0 ∙ sym (redacted_listed snapshot.redact snapshot.objects.state some),
  redacted_long snapshot some ∙ le-ltb most_runs (length (runs_of (redacted_pairs snapshot.objects.state))) makes.1,
)
gives_redacted snapshot (Err (Plan fault)) some makes = (makes.0, redacted_long snapshot some ∙ lt-ltb most_runs (length (runs_of (redacted_pairs snapshot.objects.state))) makes.1)
gives_redacted snapshot (Err (CannotApply fault)) some makes = absurd makes
gives_redacted snapshot (Err (Redacted object block)) some makes = absurd makes
gives_redacted snapshot (Err (Full need largest)) some makes = absurd makes
gives_redacted snapshot (Err (Damaged sector stated found)) some makes = absurd makes
gives_redacted snapshot (Err DiskFault) some makes = tt
gives_redacted snapshot (Err Failed) some makes = absurd makes
gives_redacted snapshot (Err OutOfMemory) some makes = tt

-- what the row at a place gives of its snapshot is given of the source that stands there
pub gives_at : (has : Blocks) (rows : Rows) (pool : Pool) (place : ℕ) (row : Snapshot) (source : Option Source) (result : Result Runs PoolFault) → AreNamed rows pool
    → FindAlike (StandsAt rows.snapshots pool.snapshots) (Some place) (snapshot_source source) → row ≡ get_or rows.snapshots place row → IfSome (redacted_source source) (HoldsSource has rows pool)
    → ((snapshot : plain.Snapshot) → NamesSnapshot row snapshot → (has_guids snapshot.redact ≡ true → SetHolds has row.objects snapshot.objects) → GivesSource (Some (OfSnapshot snapshot)) result)
    → GivesSource source result
gives_at has rows pool place row None result are alike here stands gives = absurd alike
gives_at has rows pool place row (Some (OfSnapshot snapshot)) result are alike here stands gives =
    gives snapshot (at_names NamesSnapshot rows.snapshots pool.snapshots place row snapshot are.snapshots alike here) (source_at_place has rows pool snapshot place row stands alike here)
gives_at has rows pool place row (Some (OfBookmark bookmark)) result are alike here stands gives = absurd alike

-- ---- why it isn't given

-- a list that isn't read isn't made either
pub unread_so : {T : Type 0} (redacted : Type 0) (result : Result T PoolFault) → IfErr result IsUnread → IfErr result (IsUnlisted redacted)
unread_so redacted (Ok value) is = tt
unread_so redacted (Err fault) is = inl is

pub more_unlisted : {T : Type 0} (redacted more : Type 0) → (redacted → more) → (result : Result T PoolFault) → IfErr result (IsUnlisted redacted) → IfErr result (IsUnlisted more)
more_unlisted redacted more on (Ok value) is = tt
more_unlisted redacted more on (Err fault) is = elim is [
  | inl unread ↦ inl unread
  | inr long ↦ inr (on long.0, long.1)
]

-- one isn't made for damage, for the disk, for want of memory or for its length
pub built_unlisted : (redacted : Type 0) (built : Result Runs (OrMemory RedactFault)) → redacted → ((need largest : ℕ) → ¬ (redacts.stop_of built ≡ Some (blocks.Full need largest)))
    → IfErr (of_built built) (IsUnlisted redacted)
built_unlisted redacted (Ok list) is never = tt
built_unlisted redacted (Err (Fault Limit)) is never = inr (is, refl)
built_unlisted redacted (Err (Fault (Block (blocks.Full need largest)))) is never = absurd (never need largest refl)
built_unlisted redacted (Err (Fault (Block (blocks.Damaged sector stated found)))) is never = inl tt
built_unlisted redacted (Err (Fault (Block blocks.DiskFault))) is never = inl tt
built_unlisted redacted (Err Memory) is never = inl tt

-- a send isn't started for it
pub unstarted : (sent : Sent) (fault : PoolFault) → GivesSource sent.source (Err fault) → IsUnstarted sent fault
unstarted sent (Plan fault) gives =
    ap (λ (b : Bool). unless b (plans.Limit quantities.Runs most_runs) (Ok sent)) gives.1 ∙ ap (λ (f : PlanFault). Err f) (sym gives.0)
unstarted sent (CannotApply fault) gives = absurd gives
unstarted sent (Redacted object block) gives = absurd gives
unstarted sent (Full need largest) gives = absurd gives
unstarted sent (Damaged sector stated found) gives = absurd gives
unstarted sent DiskFault gives = tt
unstarted sent Failed gives = absurd gives
unstarted sent OutOfMemory gives = tt

pub outside_unstarted : (sent : Sent) (fault : PoolFault) → IsOutside fault → IsUnstarted sent fault
outside_unstarted sent (Plan fault) is = absurd is
outside_unstarted sent (CannotApply fault) is = absurd is
outside_unstarted sent (Redacted object block) is = absurd is
outside_unstarted sent (Full need largest) is = absurd is
outside_unstarted sent (Damaged sector stated found) is = absurd is
outside_unstarted sent DiskFault is = tt
outside_unstarted sent Failed is = absurd is
outside_unstarted sent OutOfMemory is = tt

-- and where it isn't too long, that refuses nothing
pub listed_passes : (sent : Sent) → is_long sent.source ≡ false → with_list (Ok sent) ≡ Ok sent
listed_passes sent short = ap (λ (b : Bool). unless b (plans.Limit quantities.Runs most_runs) (Ok sent)) short

-- ---- what it tells

-- a damage of one sort is one of another
pub tells_more : {T : Type 0} (Is More : DamageFact) → ((sector : ℕ) (stated found : List ℕ) → Is sector stated found → More sector stated found) → (result : Result T PoolFault)
    → IfErr result (IsOf Is) → IfErr result (IsOf More)
tells_more Is More more (Ok value) told = tt
tells_more Is More more (Err fault) told = λ sector stated found same. more sector stated found (told sector stated found same)

-- a snapshot's row at a place that is known
pub snapshot_at : (rows : Rows) (place : Option ℕ) (known : ℕ) (row : Snapshot) → place ≡ Some known → IfSome place (λ p. p < length rows.snapshots) → row ≡ get_or rows.snapshots known row
    → IsSnapshotAt rows place row
snapshot_at rows place known row is inside here =
    let below = subst (λ (p : Option ℕ). IfSome p (λ q. q < length rows.snapshots)) is inside in
    subst (λ (p : Option ℕ). IsSnapshotAt rows p row) (sym is) (below, sym here)
