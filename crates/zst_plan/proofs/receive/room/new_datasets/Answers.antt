use Rattle.std.proofs.Common.{◌∙◌, Some, None, sym}
use Rattle.zst_plan.proofs.ReceiveChecks.{is_newly_made}
use Rattle.zst_plan.proofs.receive.room.new_datasets.Goals as goal

pub returns-in-Some-clause-new : goal.returns-in-Some-clause-new
returns-in-Some-clause-new c = λ pool are. is_newly_made c.args.dir.now pool are c.args.target.now (Some c.in-Some.field-0) (sym c.in-Some.is ∙ c.dataset.ensures)

pub returns-in-None-clause-new : goal.returns-in-None-clause-new
returns-in-None-clause-new c = λ pool are. is_newly_made c.args.dir.now pool are c.args.target.now None (sym c.in-None.is ∙ c.dataset.ensures)
