-- How the session that is in the way of a command is looked for among what the engine keeps.
use Rattle.std.specs.Prelude.{ℕ, Bool, false, ◌&&◌, List, map, filter, position, Option, Some, None, is_some, bytes_eq}
use Rattle.std.specs.List.{list_any}
use Rattle.zst_dir.specs.Removal.{takes_snapshot}
use Rattle.zst_dir.specs.Rows.{Rows}
use Rattle.zst_dir.specs.declared.removal.Removal.{Removal}
use Rattle.zst_model.specs.declared.refusals.subjects.Name.{Name}
use Rattle.zst_model.specs.declared.refusals.subjects.Name.TheVariants as names
use Rattle.zst_model.specs.pools.Sessions.{Held, Holds, Claims, lesser}
use Rattle.zst_script.specs.declared.event.Side.{Side}
use Rattle.zst_sessions.specs.EngineSteps.{coded_claim, coded_hold}
use Rattle.zst_sessions.specs.World.{is_side}
use Rattle.zst_sessions.specs.declared.open_sessions.OpenReceive as kept_receives
use Rattle.zst_sessions.specs.declared.open_sessions.OpenSend as kept_sends

-- what the sends of a pool hold of it, and what its receives claim
abbrev pub coded_holds : Side → List kept_sends.OpenSend → List Held
coded_holds side sends = map coded_hold (filter (λ one. is_side one.side side) sends)

abbrev pub coded_claims : Side → List kept_receives.OpenReceive → List Held
coded_claims side receives = map coded_claim (filter (λ one. is_side one.side side) receives)

-- the lesser of two ids, or the one that is there
abbrev pub lesser_of : Option ℕ → Option ℕ → Option ℕ
lesser_of None other = other
lesser_of (Some id) other = Some (lesser id other)

-- whether what has this name is there and may be a session's: a dataset or a snapshot
abbrev pub may_be_had : Name → Rows → Bool
may_be_had (names.Dataset name) rows = is_some (position (λ dataset. bytes_eq dataset.name name) rows.datasets)
may_be_had (names.Snapshot name) rows = is_some (position (λ snapshot. bytes_eq snapshot.name name) rows.snapshots)
may_be_had (names.Bookmark name) rows = false

-- whether a session holds a snapshot that goes
abbrev pub has_going : Removal → Rows → Held → Bool
has_going going rows (Holds id snapshot) = list_any (λ row. takes_snapshot going row && bytes_eq snapshot row.name) rows.snapshots
has_going going rows (Claims id dataset) = false
