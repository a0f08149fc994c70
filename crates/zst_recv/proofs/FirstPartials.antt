-- What a receive begins with stands for what the definition begins with.
use Rattle.std.proofs.Common.{◌≡◌, inl, inr, ℕ, ◌<◌, Bool, true, List, ◌∷◌, ◌++◌, length, get_or, Option, Some, None, IfSome, Result, Ok, refl, sym, ap, ◌∙◌, subst, arith}
use Rattle.std.specs.List.{Contains, position}
use Rattle.std.specs.Option.{option_map_or}
use Rattle.std.specs.Str.{bytes_eq}
use Rattle.std.proofs.lemmas.List.{append_cancel_left}
use Rattle.std.proofs.lemmas.List.Elements.{All-contains}
use Rattle.std.proofs.lemmas.List.Quantifiers.{position-Some}
use Rattle.zst_names.specs.Names.{component_of, dataset_of}
use Rattle.zst_model.proofs.OrderLaws.{same_bytes}
use Rattle.zst_model.specs.declared.refusals.plan_fault.PlanFault.{PlanFault}
use Rattle.zst_model.specs.declared.sends.header.Header.{Header}
use Rattle.zst_model.specs.pools.Pool.{Pool, untouched}
use Rattle.zst_model.specs.pools.Pool as models
use Rattle.zst_space.specs.FreeSectors.{FreeSectors}
use Rattle.zst_block.specs.Blocks.{Has}
use Rattle.zst_tree.specs.Indices.{Blocks}
use Rattle.zst_tree.specs.Sets.{no_objects}
use Rattle.zst_tree.specs.declared.tree.ObjSet.{ObjSet}
use Rattle.zst_objset.proofs.SetLaws.{empty}
use Rattle.zst_objset.proofs.TightLaws.{tight_empty}
use Rattle.zst_dir.specs.RowNames.{AreNamed, NamesSnapshot}
use Rattle.zst_dir.specs.Rows.{HasSnapshot, IsLawful, IsPartialRow, Rows}
use Rattle.zst_dir.specs.declared.rows.Partial.{Partial}
use Rattle.zst_dir.specs.declared.rows.Snapshot.{Snapshot}
use Rattle.zst_image.specs.Reads.{PartialIs, RunsBy, SetIs, SnapshotIs}
use Rattle.zst_plan.specs.Places.{AnswerAlike, FindAlike, StandsAt}
use Rattle.zst_plan.specs.Receipts.{IsRecvPlanOf, TellsNeeded}
use Rattle.zst_plan.specs.RecvPlan.{Base, Begins, RecvPlan, Resumes, recv_plan, snapshot_name}
use Rattle.zst_plan.specs.declared.receive.RecvAsk.{RecvAsk}
use Rattle.zst_plan.specs.declared.receive.RecvPlan as coded_plans
use Rattle.zst_plan.specs.declared.receive.RecvPlan.TheVariants as plans
use Rattle.zst_plan.proofs.AlikeAnswers.{none_alike, ok_alike, some_alike, at_names}
use Rattle.zst_recv.specs.Damage.{IsOfBase, IsOfPartial, IsOfPlan, IsPlannedSet, IsSetAt}
use Rattle.zst_recv.specs.ReceiveSteps.{Lives}
use Rattle.zst_recv.specs.Stages.{CanPutFor, IsStage, IsBatch}
use Rattle.zst_recv.specs.declared.batch.Batch as batches
use Rattle.zst_recv.specs.declared.stage.Stage as coded
use Rattle.zst_recv.specs.declared.stage.Stage.TheVariants as stages

-- what stands at a place that a list has
there : {A : Type 0} (xs : List A) (place : ℕ) (x : A) → place < length xs → x ≡ get_or xs place x → Contains xs x
there xs place x below is = (place, below, sym is)

-- no objects are held by an empty set
empty_is : (bound : Option ℕ) (image : List ℕ) (space : FreeSectors) → SetIs bound (Has image space) no_objects untouched
empty_is None image space = empty (Has image space)
empty_is (Some number) image space = (tight_empty image space, record { numbers = λ k. omega arith; indices = λ k i. omega arith })

module _ (bound : Option ℕ) (image : List ℕ) (space : FreeSectors) (rows : Rows) (running : Pool) (runs : RunsBy bound (Has image space) rows running) where
  abbrev has : Blocks
  has = Has image space

  -- the base that stands at a place of the rows
  pub base_is : (place : ℕ) (row : Snapshot) (found : Option models.Snapshot) → FindAlike (StandsAt rows.snapshots running.snapshots) (Some place) found → row ≡ get_or rows.snapshots place row
      → (snapshot : models.Snapshot) × (found ≡ Some snapshot) × SnapshotIs bound has row snapshot
  base_is place row None alike is = absurd alike
  base_is place row (Some snapshot) alike is = (snapshot, refl, at_names (SnapshotIs bound has) rows.snapshots running.snapshots place row snapshot runs.snapshots alike is)

  -- its objects, or none
  pub objects_held : (place : ℕ) (row : Snapshot) (found : Option models.Snapshot) → FindAlike (StandsAt rows.snapshots running.snapshots) (Some place) found → row ≡ get_or rows.snapshots place row
      → SetIs bound has row.objects (option_map_or (λ snapshot. snapshot.objects) found untouched)
  objects_held place row found alike is =
      let base = base_is place row found alike is in
      subst (λ (o : Option models.Snapshot). SetIs bound has row.objects (option_map_or (λ snapshot. snapshot.objects) o untouched)) (sym base.1) base.2.objects

  pub none_held : (set : ObjSet) (found : Option models.Snapshot) → set ≡ no_objects → FindAlike (StandsAt rows.snapshots running.snapshots) None found
      → SetIs bound has set (option_map_or (λ snapshot. snapshot.objects) found untouched)
  none_held set found is alike =
      let none = none_alike (StandsAt rows.snapshots running.snapshots) found alike in
      subst (λ (o : Option models.Snapshot). SetIs bound has set (option_map_or (λ snapshot. snapshot.objects) o untouched)) (sym none)
      (subst (λ (s : ObjSet). SetIs bound has s untouched) (sym is) (empty_is bound image space))

  -- the partial state that stands at a place of the rows
  pub partial_is : (place : ℕ) (row : Partial) (partial : models.Partial) → StandsAt rows.partials running.partials place partial → row ≡ get_or rows.partials place row → PartialIs bound has row partial
  partial_is place row partial at is = at_names (PartialIs bound has) rows.partials running.partials place row partial runs.partials at is

-- ---- the set that a plan begins with

-- the set of a snapshot at a place
pub set_there : (rows : Rows) (place : ℕ) (row : Snapshot) → place < length rows.snapshots → row ≡ get_or rows.snapshots place row → IsSetAt rows (Some place) row.objects
set_there rows place row below is = (row, below, is, refl)

-- is that of the base which stands there in each pool that the rows name
base_of : (rows : Rows) (pool : Pool) → AreNamed rows pool → (place : Option ℕ) (base : Option models.Snapshot) (set : ObjSet) → FindAlike (StandsAt rows.snapshots pool.snapshots) place base → IsSetAt rows place set → IsOfBase rows base set
base_of rows pool named None base set alike is = subst (λ (b : Option models.Snapshot). IsOfBase rows b set) (sym (none_alike (StandsAt rows.snapshots pool.snapshots) base alike)) is
base_of rows pool named (Some place) base set alike is =
    let found = some_alike (StandsAt rows.snapshots pool.snapshots) place base alike in
    let names : NamesSnapshot is.0 found.0 = at_names NamesSnapshot rows.snapshots pool.snapshots place is.0 found.0 named.snapshots found.2 is.2 in
    subst (λ (b : Option models.Snapshot). IsOfBase rows b set) (sym found.1) (is.0, there rows.snapshots place is.0 is.1 is.2, sym names.name, is.3)

-- the set of the partial state that the target has
pub resumed_set : (rows : Rows) (target : List ℕ) (place : ℕ) (row : Partial) → position (λ partial. bytes_eq partial.target target) rows.partials ≡ Some place → row ≡ get_or rows.partials place row → IsOfPartial rows target row.objects
resumed_set rows target place row is at =
    let found = position-Some (λ (partial : Partial). bytes_eq partial.target target) rows.partials place row is in
    (row, there rows.partials place row found.0 at, same_bytes row.target target (ap (λ (r : Partial). bytes_eq r.target target) at ∙ found.1), refl)

-- the component of a name that is a dataset's with a component
pub component_is : (name target component : List ℕ) → name ≡ dataset_of 64 name ++ 64 ∷ component_of 64 name → dataset_of 64 name ≡ target → name ≡ snapshot_name target component → component ≡ component_of 64 name
component_is name target component parts of_target named =
    let both = append_cancel_left target (64 ∷ component) (64 ∷ component_of 64 name) (sym named ∙ parts ∙ ap (λ (t : List ℕ). t ++ 64 ∷ component_of 64 name) of_target) in
    cc

-- the partial state that the target has can be committed again
pub resumes_fits : (rows : Rows) (target : List ℕ) (place : ℕ) (row : Partial) → IsLawful rows → position (λ partial. bytes_eq partial.target target) rows.partials ≡ Some place
    → row ≡ get_or rows.partials place row → CanPutFor rows target row
resumes_fits rows target place row lawful is at =
    let found = position-Some (λ (partial : Partial). bytes_eq partial.target target) rows.partials place row is in
    let has = there rows.partials place row found.0 at in
    record {
      of_target = same_bytes row.target target (ap (λ (r : Partial). bytes_eq r.target target) at ∙ found.1);
      can = record {
        row = All-contains IsPartialRow rows.partials row lawful.partials has;
        base = All-contains (λ (partial : Partial). IfSome partial.base (HasSnapshot rows)) rows.partials row lawful.linked.bases has;
        component = All-contains (λ (partial : Partial). HasSnapshot rows (partial.target ++ 64 ∷ partial.snapshot) → ⊥) rows.partials row lawful.linked.components has;
      };
    }

-- the plans that these plans are of
pub resumed_is : (rows : Rows) (running : Pool) (ask : RecvAsk) (place : ℕ) (plan : RecvPlan) → IsRecvPlanOf rows running ask (plans.Resumes place) plan
    → (partial : models.Partial) × (plan ≡ Resumes partial) × StandsAt rows.partials running.partials place partial
resumed_is rows running ask place (Resumes partial) is = (partial, refl, is)
resumed_is rows running ask place (Begins component base) is = absurd is

pub record IsBegun (rows : Rows) (running : Pool) (ask : RecvAsk) (name : List ℕ) (place : Option ℕ) (plan : RecvPlan) : Type 0 where
  pub component : List ℕ
  pub base : Base
  pub plan_is : plan ≡ Begins component base
  pub named : name ≡ snapshot_name ask.target component
  pub alike : FindAlike (StandsAt rows.snapshots running.snapshots) place base.snapshot

pub begun_is : (rows : Rows) (running : Pool) (ask : RecvAsk) (name : List ℕ) (place : Option ℕ) (rolls : Bool) (plan : RecvPlan) → IsRecvPlanOf rows running ask (plans.Begins name place rolls) plan
    → (begins : IsBegun rows running ask name place plan) × (rolls ≡ begins.base.rolls)
begun_is rows running ask name place rolls (Resumes partial) is = absurd is
begun_is rows running ask name place rolls (Begins component base) is = (record { component = component; base = base; plan_is = refl; named = is.0; alike = is.1 }, is.2)

-- a plan that passed
abbrev passed : RecvPlan → Result RecvPlan PlanFault
passed plan = Ok plan

-- What a plan over these rows found is the set that BEGIN begins with, whatever the object sets hold.
module _ (rows : Rows) (ask : RecvAsk) (header : Header) (found : coded_plans.RecvPlan)
    (exact : (pool : Pool) → AreNamed rows pool → TellsNeeded rows pool ask header → AnswerAlike (IsRecvPlanOf rows pool ask) (Ok found) (recv_plan ask header pool)) where
  pub resumes_planned : (place : ℕ) (set : ObjSet) → found ≡ plans.Resumes place → IsOfPartial rows ask.target set → IsPlannedSet rows ask header set
  resumes_planned place set is has = record {
    listed = inl has;
    planned = λ pool named tells.
        let plan = ok_alike (IsRecvPlanOf rows pool ask) found (recv_plan ask header pool) (exact pool named tells) in
        let resumed = resumed_is rows pool ask place plan.0 (subst (λ (p : coded_plans.RecvPlan). IsRecvPlanOf rows pool ask p plan.0) is plan.2) in
        subst (λ (r : Result RecvPlan PlanFault). IsOfPlan rows ask.target r set) (sym (plan.1 ∙ ap passed resumed.1)) has;
  }

  pub begins_planned : (name : List ℕ) (place : Option ℕ) (rolls : Bool) (set : ObjSet) → found ≡ plans.Begins name place rolls → IsSetAt rows place set → IsPlannedSet rows ask header set
  begins_planned name place rolls set is at = record {
    listed = inr (place, at);
    planned = λ pool named tells.
        let plan = ok_alike (IsRecvPlanOf rows pool ask) found (recv_plan ask header pool) (exact pool named tells) in
        let begun = begun_is rows pool ask name place rolls plan.0 (subst (λ (p : coded_plans.RecvPlan). IsRecvPlanOf rows pool ask p plan.0) is plan.2) in
        subst (λ (r : Result RecvPlan PlanFault). IsOfPlan rows ask.target r set) (sym (plan.1 ∙ ap passed begun.0.plan_is)) (base_of rows pool named place begun.0.base.snapshot set begun.0.alike at);
  }

-- what was opened stands for the batch that this stage and these flags are
pub batch_is : (bound : Option ℕ) (has : Blocks) (batch : batches.Batch) (flags : ℕ) (row : Partial) (partial : models.Partial) (rolls : Bool) → batch.stage ≡ stages.Lives flags row → batch.rolls ≡ rolls → batch.taken ≡ true → batch.applied ≡ 0
    → PartialIs bound has row partial → IsBatch bound has batch (record { stage = Lives flags partial; rolls = rolls; taken = true; applied = 0 })
batch_is bound has batch flags row partial rolls stage is_rolls taken applied is = record {
  stage = subst (λ (s : coded.Stage). IsStage bound has s (Lives flags partial)) (sym stage) (refl, is);
  rolls = is_rolls;
  taken = taken;
  applied = applied;
}
