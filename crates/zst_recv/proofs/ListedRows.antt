-- A row that is found of a target can be committed for it.
use Rattle.std.proofs.Common.{List, ◌∷◌, ◌++◌, IfSome, sym}
use Rattle.std.specs.Prelude.{ℕ}
use Rattle.zst_dir.specs.Rows.{Rows, HasSnapshot, IsLawful, is_for}
use Rattle.zst_dir.specs.declared.rows.Partial.{Partial as Row}
use Rattle.zst_model.proofs.OrderLaws.{same_bytes}
use Rattle.zst_model.proofs.FoundElements.{found_passes}
use Rattle.zst_recv.proofs.TokenRows.{found_fits, found_is}
use Rattle.zst_recv.specs.GoingOn.{FittingReceive, FittingRow, IsRow}
use Rattle.zst_recv.specs.Stages.{LivesOn}
use Rattle.zst_recv.specs.declared.stage.Stage as coded
use Rattle.zst_recv.specs.declared.stage.Stage.TheVariants as stages

pub row_fits : FittingRow
row_fits rows target row lawful found = record {
  of_target = same_bytes row.target target (found_passes (is_for target) rows.partials row found).1;
  can = record {
    row = found_fits target rows row lawful (sym found);
    base = found_is (λ (r : Row). IfSome r.base (HasSnapshot rows)) (is_for target) rows.partials row lawful.linked.bases (sym found);
    component = found_is (λ (r : Row). HasSnapshot rows (r.target ++ 64 ∷ r.snapshot) → ⊥) (is_for target) rows.partials row lawful.linked.components (sym found);
  };
}

lives_on : (rows : Rows) (target : List ℕ) (stage : coded.Stage) → IsLawful rows → IsRow rows target stage → LivesOn rows target stage
lives_on rows target stages.Waits lawful is = tt
lives_on rows target (stages.Lives flags row) lawful is = row_fits rows target row lawful is
lives_on rows target (stages.Ends row) lawful is = tt
lives_on rows target (stages.Done received) lawful is = tt
lives_on rows target stages.Over lawful is = tt

pub receive_fits : FittingReceive
receive_fits rows others recv lawful is fits = record { stage = lives_on others recv.ask.target recv.stage lawful is; reads = fits.reads }
