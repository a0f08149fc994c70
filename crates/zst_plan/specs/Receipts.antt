-- Which receipt a plan is of.
use Rattle.std.specs.Prelude.{◌≡◌, ◌<◌, ℕ, true, false, List, length, max, nat_lt, Some, IfSome, Result, is_some, bit_and}
use Rattle.std.specs.List.{position}
use Rattle.std.specs.Str.{bytes_eq}
use Rattle.zst_names.specs.Names.{IsSnapshot, dataset_of}
use Rattle.zst_dir.specs.RowNames.{Match}
use Rattle.zst_dir.specs.Rows.{Rows, HasSnapshot}
use Rattle.zst_dir.specs.declared.rows.Dataset as rows
use Rattle.zst_model.specs.declared.sends.header.Header.{Header}
use Rattle.zst_model.specs.pools.Pool.{Pool, Dataset, dataset_named}
use Rattle.zst_model.specs.sends.Features.{resuming}
use Rattle.zst_tree.specs.declared.tree.ObjSet.{ObjSet}
use Rattle.zst_plan.specs.Places.{Answers, FindAlike, StandsAt}
use Rattle.zst_plan.specs.RecvPlan.{Base, RecvPlan, Resumes, Begins, is_dated_after, is_full, snapshot_name}
use Rattle.zst_plan.specs.declared.receive.RecvAsk.{RecvAsk}
use Rattle.zst_plan.specs.declared.receive.RecvPlan as coded
use Rattle.zst_plan.specs.declared.receive.base.Base as places
use Rattle.zst_plan.specs.declared.receive.RecvPlan.TheVariants as plans

-- the latest date that a set tells: below its root, or past its span
abbrev pub latest_date : ObjSet → ℕ
latest_date set = max set.tree.past set.tree.root.number

-- a dataset's set tells the dates of its head: whether one is after a number
abbrev pub TellsHead : rows.Dataset → Dataset → Type 0
TellsHead row dataset = (number : ℕ) → nat_lt number (latest_date row.head) ≡ is_dated_after number dataset.head

-- so it is with each dataset of the directory
abbrev pub TellsDates : Rows → Pool → Type 0
TellsDates rows pool = Match TellsHead rows.datasets pool.datasets

-- the sets tell the dates where a plan looks at them
abbrev pub TellsNeeded : Rows → Pool → RecvAsk → Header → Type 0
TellsNeeded rows pool ask header = is_full header ≡ false → is_some (dataset_named ask.target pool) ≡ true → TellsDates rows pool

-- the base is what the definition says: its place is that of the snapshot
abbrev pub IsBaseOf : Rows → Pool → places.Base → Base → Type 0
IsBaseOf rows pool found base = FindAlike (StandsAt rows.snapshots pool.snapshots) found.snapshot base.snapshot × (found.rolls ≡ base.rolls)

-- its place is one of the directory
abbrev pub IsBaseInside : Rows → places.Base → Type 0
IsBaseInside rows found = IfSome found.snapshot (λ p. p < length rows.snapshots)

-- the plan is of what the definition says: its places are those of the partial state and of the base, its name that of the snapshot
abbrev pub IsRecvPlanOf : Rows → Pool → RecvAsk → coded.RecvPlan → RecvPlan → Type 0
IsRecvPlanOf rows pool ask (plans.Resumes place) (Resumes partial) = StandsAt rows.partials pool.partials place partial
IsRecvPlanOf rows pool ask (plans.Resumes place) (Begins component base) = ⊥
IsRecvPlanOf rows pool ask (plans.Begins name place rolls) (Resumes partial) = ⊥
IsRecvPlanOf rows pool ask (plans.Begins name place rolls) (Begins component base) =
    (name ≡ snapshot_name ask.target component) × FindAlike (StandsAt rows.snapshots pool.snapshots) place base.snapshot × (rolls ≡ base.rolls)

-- the plan's places are places of the directory
abbrev pub IsRecvInside : Rows → coded.RecvPlan → Type 0
IsRecvInside rows (plans.Resumes place) = place < length rows.partials
IsRecvInside rows (plans.Begins name place rolls) = IfSome place (λ p. p < length rows.snapshots)

-- whatever the pool is, the plan is for this target: it goes on with the target's partial state, or its name is that of a snapshot of the target, and no row has it
abbrev pub IsNewPlan : Rows → List ℕ → coded.RecvPlan → Type 0
IsNewPlan rows target (plans.Resumes place) = position (λ partial. bytes_eq partial.target target) rows.partials ≡ Some place
IsNewPlan rows target (plans.Begins name place rolls) = IsSnapshot name × (dataset_of 64 name ≡ target) × (HasSnapshot rows name → ⊥)

-- whatever the pool is, what begins anew is no resumed stream
abbrev pub IsPlainPlan : Header → coded.RecvPlan → Type 0
IsPlainPlan header (plans.Resumes place) = Unit {0}
IsPlainPlan header (plans.Begins name place rolls) = bit_and header.features resuming ≡ 0

-- an answer that is a base: its place is one of the directory
abbrev pub AnswersBase : {E : Type 0} → Rows → (Pool → Result Base E) → Result places.Base E → Type 0
AnswersBase rows definition result = Answers rows (IsBaseInside rows) (IsBaseOf rows) definition result

-- whatever the pool is, a plan for this target is one of the directory, is new in it, and begins no resumed stream
pub record IsPlanFor (rows : Rows) (target : List ℕ) (header : Header) (plan : coded.RecvPlan) : Type 0 where
  pub inside : IsRecvInside rows plan
  pub new : IsNewPlan rows target plan
  -- what begins anew is no resumed stream
  pub plain : IsPlainPlan header plan
