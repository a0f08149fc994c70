-- A receive that goes on stands as well where sectors become free that the rows don't reach.
use Rattle.std.proofs.Common.{◌≡◌, inl, inr, ℕ, true, List, Option, Some, None}
use Rattle.zst_space.specs.FreeSectors.{FreeSectors}
use Rattle.zst_block.specs.Blocks.{Has, IsBlock}
use Rattle.zst_dir.specs.Rows.{Rows, is_for}
use Rattle.zst_dir.specs.declared.rows.Partial.{Partial as Row}
use Rattle.zst_image.specs.Reads.{PartialIs, SetIs}
use Rattle.zst_model.specs.pools.Pool.{Partial}
use Rattle.zst_model.specs.states.DatedState.{DatedState}
use Rattle.zst_model.proofs.FoundElements.{found_passes}
use Rattle.zst_reach.specs.ReachedSets.{ReachesInSet}
use Rattle.zst_reach.proofs.KeptSets.{FreeBefore, SetHolds-kept, SetIsTight-kept}
use Rattle.zst_roots.specs.ReachedRows.{RowsReach}
use Rattle.zst_tree.specs.declared.tree.ObjSet.{ObjSet}
use Rattle.zst_recv.specs.GoingOn.{IsRow, ReceivesOutlast}
use Rattle.zst_recv.specs.ReceiveSteps.{Stage, Waits, Lives, Ends}
use Rattle.zst_recv.specs.Stages.{IsStage, is_live}
use Rattle.zst_recv.specs.declared.stage.Stage as coded
use Rattle.zst_recv.specs.declared.stage.Stage.TheVariants as stages

module _ (image : List ℕ) (space over : FreeSectors) where
  set_outlasts : (bound : Option ℕ) (set : ObjSet) (state : DatedState) → FreeBefore space over (ReachesInSet (IsBlock image) set) → SetIs bound (Has image space) set state → SetIs bound (Has image over) set state
  set_outlasts None set state before is = SetHolds-kept image space over set state before is
  set_outlasts (Some number) set state before is = (SetIsTight-kept image space over set state before is.0, is.1)

  partial_outlasts : (bound : Option ℕ) (row : Row) (partial : Partial) → FreeBefore space over (ReachesInSet (IsBlock image) row.objects) → PartialIs bound (Has image space) row partial → PartialIs bound (Has image over) row partial
  partial_outlasts bound row partial before is = record { named = is.named; objects = set_outlasts bound row.objects partial.objects before is.objects }

  -- the partial state's row is one of the rows, so that they reach what it does
  stage_outlasts : (bound : Option ℕ) (rows : Rows) (target : List ℕ) (code : coded.Stage) (stage : Stage) → is_live code ≡ true → IsRow rows target code → FreeBefore space over (RowsReach (IsBlock image) rows)
      → IsStage bound (Has image space) code stage → IsStage bound (Has image over) code stage
  stage_outlasts bound rows target stages.Waits Waits live found before is = is
  stage_outlasts bound rows target stages.Waits (Lives flags partial) live found before is = is
  stage_outlasts bound rows target stages.Waits (Ends partial) live found before is = is
  stage_outlasts bound rows target (stages.Lives flags row) Waits live found before is = is
  stage_outlasts bound rows target (stages.Lives flags row) (Lives stated partial) live found before is =
      let listed = (found_passes (is_for target) rows.partials row found).0 in
      (is.0, partial_outlasts bound row partial (λ sector reached. before sector (inr (inr (inl (record { row = row; listed = listed; reached = reached }))))) is.1)
  stage_outlasts bound rows target (stages.Lives flags row) (Ends partial) live found before is = is
  stage_outlasts bound rows target (stages.Ends row) stage live found before is = absurd (cc live)
  stage_outlasts bound rows target (stages.Done received) stage live found before is = absurd (cc live)
  stage_outlasts bound rows target stages.Over stage live found before is = absurd (cc live)

pub receives_outlast : ReceivesOutlast
receives_outlast bound image space over rows recv text stage live found before receives = record {
  handed = receives.handed;
  reads = receives.reads;
  waits = receives.waits;
  stands = stage_outlasts image space over bound rows recv.ask.target recv.stage stage live found before receives.stands;
}
