-- What a receive may have made of a pool: nothing yet, a partial state on its way to the target, or one snapshot more.
use Rattle.std.specs.Prelude.{ℕ, ◌≡◌, ◌<◌, ◌≤◌, ◌⊎◌, true, false, List, Option, Some, None, Ok, bytes_eq, option_map}
use Rattle.std.specs.Option.{option_map_or}
use Rattle.zst_laws.specs.ResumedSends.{IsAtOrAfter}
use Rattle.zst_model.specs.declared.sends.header.Header.{Header}
use Rattle.zst_model.specs.declared.sends.header.Point.{Point}
use Rattle.zst_model.specs.pools.Pool.{Pool, Dataset, Snapshot, Partial, dataset_named, snapshot_named, partial_of, inserted, snapshot_is_before, untouched}
use Rattle.zst_model.specs.sends.Items.{origin}
use Rattle.zst_model.specs.sends.CutReceives.{StandsFor}
use Rattle.zst_model.specs.sends.Target.{target}
use Rattle.zst_model.specs.sends.View.{View}
use Rattle.zst_model.specs.states.DatedState.{DatedState}
use Rattle.zst_model.specs.states.State.{State}
use Rattle.zst_plan.specs.RecvPlan.{Base, snapshot_name}
use Rattle.zst_plan.specs.declared.receive.RecvAsk.{RecvAsk}
use Rattle.zst_pool.specs.Partials.{rolled_back, partials_of_others}

-- the objects that a receive begins with
abbrev pub base_objects : Base → DatedState
base_objects base = option_map_or (λ snapshot. snapshot.objects) base.snapshot untouched

-- and the name of the snapshot that they are of
abbrev pub base_name : Base → Option (List ℕ)
base_name base = option_map (λ snapshot. snapshot.name) base.snapshot

-- the target's head went back to its latest snapshot, as -F asks
abbrev pub IsRolled : RecvAsk → Pool → Pool → Type 0
IsRolled ask old new = (ask.force ≡ true) × (new.datasets ≡ rolled_back ask.target old)

-- all is equal but the number of the last commit, the target's head where it went back, and the partial states
pub record IsUntouched (ask : RecvAsk) (old new : Pool) : Type 0 where
  pub id : new.id ≡ old.id
  pub guids : new.guids ≡ old.guids
  pub later : old.number ≤ new.number
  pub datasets : (new.datasets ≡ old.datasets) ⊎ IsRolled ask old new
  pub snapshots : new.snapshots ≡ old.snapshots
  pub bookmarks : new.bookmarks ≡ old.bookmarks

-- nothing of a receive is there
pub record HasNothing (ask : RecvAsk) (old new : Pool) : Type 0 where
  pub untouched : IsUntouched ask old new
  pub partials : new.partials ≡ old.partials

-- the target's partial state is this one, and the others are as before
pub record HasPartial (ask : RecvAsk) (old new : Pool) (partial : Partial) : Type 0 where
  pub untouched : IsUntouched ask old new
  pub there : partial_of ask.target new ≡ Some partial
  pub others : partials_of_others ask.target new ≡ partials_of_others ask.target old

-- One snapshot more, of this name, with the header's guid, time and redaction guids and this state, which the target's head is. The target
-- is of the kind that it was of and has the origin that it had, or it is new, of the stream's kind and with this origin, and it has no
-- partial state any more. All else is equal but the number of the last commit.
pub record HasOneMore (old new : Pool) (target component : List ℕ) (origin : Option (List ℕ)) (header : Header) (state : State) : Type 0 where
  pub id : new.id ≡ old.id
  pub guids : new.guids ≡ old.guids
  pub later : old.number < new.number
  pub bookmarks : new.bookmarks ≡ old.bookmarks
  pub partials : new.partials ≡ partials_of_others target old
  pub snapshot : Snapshot
  pub added : new.snapshots ≡ inserted snapshot_is_before snapshot old.snapshots
  pub name : snapshot.name ≡ snapshot_name target component
  pub name_is_new : snapshot_named (snapshot_name target component) old ≡ None
  pub guid : snapshot.guid ≡ header.to
  pub time : snapshot.time ≡ header.time
  pub number : snapshot.number ≡ new.number
  pub redact : snapshot.redact ≡ header.redact
  pub state_is : snapshot.objects.state ≡ state
  pub dataset : Dataset
  pub there : dataset_named target new ≡ Some dataset
  pub head : dataset.head ≡ snapshot.objects
  pub head_redact : dataset.redact ≡ header.redact
  pub kept : (before : Dataset) → dataset_named target old ≡ Some before → (dataset.kind ≡ before.kind) × (dataset.origin ≡ before.origin)
  pub made : dataset_named target old ≡ None → (dataset.kind ≡ header.kind) × (dataset.origin ≡ origin)
  pub others : (name : List ℕ) → bytes_eq target name ≡ false → dataset_named name new ≡ dataset_named name old

-- whence a receive comes: the component of the snapshot that is to be, the name and the state of the base, and the point at which its stream begins
pub record Course : Type 0 where
  pub component : List ℕ
  pub base : Option (List ℕ)
  pub state : State
  pub point : Point

-- a receive that begins with a base comes from there, and one that goes on with a partial state from its point, over what its base was
abbrev pub course_from : List ℕ → Base → Course
course_from component base = record { component = component; base = base_name base; state = (base_objects base).state; point = origin }

abbrev pub course_on : Partial → State → Course
course_on partial state = record { component = partial.component; base = partial.base; state = state; point = partial.point }

-- a partial state that is kept is there, of this component and base, no less far than the course began, and it is on its way from the base to
-- what the view makes of it
pub record IsOnItsWay (ask : RecvAsk) (view : View) (course : Course) (old new : Pool) : Type 0 where
  pub partial : Partial
  pub has : HasPartial ask old new partial
  pub kept : partial.keep ≡ true
  pub header : partial.header ≡ view.header
  pub named : partial.component ≡ course.component
  pub based : partial.base ≡ course.base
  pub later : IsAtOrAfter course.point partial.point
  pub stands : StandsFor view course.state partial.point partial.objects.state

-- the snapshot of this component is there, and it is what the view makes of the base
pub record IsReceived (ask : RecvAsk) (view : View) (course : Course) (old new : Pool) : Type 0 where
  pub whole : State
  pub is_target : target view course.state ≡ Ok whole
  pub more : HasOneMore old new ask.target course.component course.base view.header whole

-- how far a receive of this view on this course has come
abbrev pub Progress : RecvAsk → View → Course → Pool → Pool → Type 0
Progress ask view course old new = HasNothing ask old new ⊎ (IsOnItsWay ask view course old new ⊎ IsReceived ask view course old new)
