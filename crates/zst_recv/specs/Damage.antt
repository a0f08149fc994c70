-- Which block a feed tells as damaged: one of the set that it began with.
use Rattle.std.specs.Prelude.{◌≡◌, ◌⊎◌, ◌<◌, ℕ, List, length, Contains, Option, Some, None, Result, Ok, Err, slice_index_or}
use Rattle.zst_outside.specs.Images.{DiskState}
use Rattle.zst_space.specs.FreeSectors.{FreeSectors}
use Rattle.zst_block.specs.Blocks.{KeepsBlocks, SparesTaken}
use Rattle.zst_model.specs.declared.refusals.plan_fault.PlanFault.{PlanFault}
use Rattle.zst_model.specs.declared.sends.header.Header.{Header}
use Rattle.zst_model.specs.pools.Pool.{Pool}
use Rattle.zst_model.specs.pools.Pool as plain
use Rattle.zst_tree.specs.Sets.{no_objects}
use Rattle.zst_tree.specs.declared.tree.ObjSet.{ObjSet}
use Rattle.zst_objset.specs.Damage.{AreTreesWithin}
use Rattle.zst_dir.specs.RowNames.{AreNamed}
use Rattle.zst_dir.specs.Rows.{Rows}
use Rattle.zst_dir.specs.declared.rows.Partial.{Partial as Row}
use Rattle.zst_dir.specs.declared.rows.Snapshot.{Snapshot}
use Rattle.zst_apply.specs.Damage.{apply_damage}
use Rattle.zst_plan.specs.Receipts.{TellsNeeded}
use Rattle.zst_plan.specs.RecvPlan.{RecvPlan, Resumes, Begins, recv_plan}
use Rattle.zst_plan.specs.declared.receive.RecvAsk.{RecvAsk}
use Rattle.zst_recv.specs.Plans as texts
use Rattle.zst_recv.specs.declared.stage.Stage as coded
use Rattle.zst_recv.specs.declared.stage.Stage.TheVariants as stages

-- ---- the set that a receive begins with

-- the set of the partial state that a target has
abbrev pub IsOfPartial : Rows → List ℕ → ObjSet → Type 0
IsOfPartial rows target set = (partial : Row) × Contains rows.partials partial × (partial.target ≡ target) × (set ≡ partial.objects)

-- the set of the base: of the row that has its name; or the one of no objects
abbrev pub IsOfBase : Rows → Option plain.Snapshot → ObjSet → Type 0
IsOfBase rows None set = set ≡ no_objects
IsOfBase rows (Some base) set = (snapshot : Snapshot) × Contains rows.snapshots snapshot × (snapshot.name ≡ base.name) × (set ≡ snapshot.objects)

-- the set that a plan begins with: that of the target's partial state, where it goes on with it, or of the base that it takes
abbrev pub IsOfPlan : Rows → List ℕ → Result RecvPlan PlanFault → ObjSet → Type 0
IsOfPlan rows target (Ok (Resumes partial)) set = IsOfPartial rows target set
IsOfPlan rows target (Ok (Begins component base)) set = IsOfBase rows base.snapshot set
IsOfPlan rows target (Err fault) set = ⊥

-- the set of the snapshot at a place of the directory; or, where there is no place, the one of no objects
abbrev pub IsSetAt : Rows → Option ℕ → ObjSet → Type 0
IsSetAt rows None set = set ≡ no_objects
IsSetAt rows (Some place) set = (snapshot : Snapshot) × (place < length rows.snapshots) × (snapshot ≡ slice_index_or rows.snapshots place snapshot) × (set ≡ snapshot.objects)

-- a set that the rows list for a target: that of its partial state, of a snapshot, or of no objects
abbrev pub IsListed : Rows → List ℕ → ObjSet → Type 0
IsListed rows target set = IsOfPartial rows target set ⊎ ((place : Option ℕ) × IsSetAt rows place set)

-- The set that BEGIN with this header begins with, by the rows alone: one that they list, and of each pool that they name, whatever the object sets hold, the
-- one that the plan begins with.
pub record IsPlannedSet (rows : Rows) (ask : RecvAsk) (header : Header) (set : ObjSet) : Type 0 where
  pub listed : IsListed rows ask.target set
  pub planned : (pool : Pool) → AreNamed rows pool → TellsNeeded rows pool ask header → IsOfPlan rows ask.target (recv_plan ask header pool) set

-- the set that the stream of a text begins with: that of the BEGIN which it covers first
pub record IsBegun (rows : Rows) (ask : RecvAsk) (text : List ℕ) (set : ObjSet) : Type 0 where
  pub header : Header
  pub begins : texts.Begins text header
  pub planned : IsPlannedSet rows ask header set

-- the set that a piece begins with, with which this text was fed: while a receive waits for BEGIN the one that the text's begins with, and then that of the
-- partial state which is under way
abbrev pub BeginsWith : Rows → RecvAsk → List ℕ → coded.Stage → ObjSet → Type 0
BeginsWith rows ask text stages.Waits set = IsBegun rows ask text set
BeginsWith rows ask text (stages.Lives flags row) set = set ≡ row.objects
BeginsWith rows ask text (stages.Ends row) set = ⊥
BeginsWith rows ask text (stages.Done received) set = ⊥
BeginsWith rows ask text stages.Over set = ⊥

-- ---- what is told of it

-- E25 of a feed: of the set that the piece begins with, on the disk as it read then, but for sectors that were free
pub record IsDamagedFeed (old : DiskState) (space : FreeSectors) (rows : Rows) (ask : RecvAsk) (text : List ℕ) (before : coded.Stage) (sector : ℕ) (stated found : List ℕ) : Type 0 where
  pub set : ObjSet
  pub begins : BeginsWith rows ask text before set
  pub damaged : apply_damage (SparesTaken space old.seen) old.size set sector stated found

-- the partial state that is then under way has the set that the piece began with
abbrev pub StaysWith : Rows → RecvAsk → List ℕ → coded.Stage → coded.Stage → Type 0
StaysWith rows ask text before stages.Waits = Unit {0}
StaysWith rows ask text before (stages.Lives flags row) = BeginsWith rows ask text before row.objects
StaysWith rows ask text before (stages.Ends row) = Unit {0}
StaysWith rows ask text before (stages.Done received) = Unit {0}
StaysWith rows ask text before stages.Over = Unit {0}

-- its set comes from the one that the piece began with: what may be told as damaged of it, among these images, might have been told of that one, among those
abbrev pub ComesFrom : Rows → RecvAsk → List ℕ → (images : List ℕ → Type 0) → ℕ → coded.Stage → (fewer : List ℕ → Type 0) → coded.Stage → Type 0
ComesFrom rows ask text images size before fewer stages.Waits = Unit {0}
ComesFrom rows ask text images size before fewer (stages.Lives flags row) = (set : ObjSet) × BeginsWith rows ask text before set × AreTreesWithin images size set fewer row.objects
ComesFrom rows ask text images size before fewer (stages.Ends row) = Unit {0}
ComesFrom rows ask text images size before fewer (stages.Done received) = Unit {0}
ComesFrom rows ask text images size before fewer stages.Over = Unit {0}

-- A piece made a set of another one. Blocks were written into free sectors, and then nothing could be told as damaged of the set that might not have been
-- told of the other, as the disk read when the piece began; and behind the commit each block that was there still is.
pub record PieceMakes (old : List ℕ) (free : FreeSectors) (size : ℕ) (base : ObjSet) (new : List ℕ) (left : FreeSectors) (set : ObjSet) : Type 0 where
  pub mid : List ℕ
  pub less : FreeSectors
  pub spares : SparesTaken free old mid
  pub within : AreTreesWithin (SparesTaken free old) size base (SparesTaken less mid) set
  pub blocks : KeepsBlocks mid less new left

-- so a piece that goes on made the set of the partial state of the one that it began with
abbrev pub MakesStage : Rows → RecvAsk → List ℕ → List ℕ → FreeSectors → ℕ → coded.Stage → List ℕ → FreeSectors → coded.Stage → Type 0
MakesStage rows ask text old free size before new left stages.Waits = Unit {0}
MakesStage rows ask text old free size before new left (stages.Lives flags row) = (base : ObjSet) × BeginsWith rows ask text before base × PieceMakes old free size base new left row.objects
MakesStage rows ask text old free size before new left (stages.Ends row) = Unit {0}
MakesStage rows ask text old free size before new left (stages.Done received) = Unit {0}
MakesStage rows ask text old free size before new left stages.Over = Unit {0}
