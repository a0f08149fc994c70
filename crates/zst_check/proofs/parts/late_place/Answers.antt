use Rattle.std.proofs.Common.{All, Some, inl, inr, refl}
use Rattle.zst_block.specs.IoStates.{blocks_of}
use Rattle.zst_model.specs.pools.Rows.{rows}
use Rattle.zst_model.specs.pools.Soundness.{Dated, DatedUpTo}
use Rattle.zst_check.specs.FailingPlaces.{LateDate, LateSnapshot}
use Rattle.zst_check.specs.NumbersInTurn.{AreNumberedInTurn}
use Rattle.zst_check.proofs.FoundParts.{delivers_more, finds_fails}
use Rattle.zst_check.proofs.NamedRows.{rows_name}
use Rattle.zst_check.proofs.NumbersInTurn.{in_turn_is_enough}
use Rattle.zst_check.proofs.parts.late_place.Goals as goal

pub returns-in-Some-clause-found : goal.returns-in-Some-clause-found
returns-in-Some-clause-found g c = λ pool honest runs is number.
    finds_fails (AreNumberedInTurn pool) (Dated pool) (LateSnapshot pool) _ (Some c.in-Some.report) c.in-Some.report refl (λ earlier later object block at. inr at)
    (c.in-Some.ensures.found pool (rows_name (blocks_of c.args.io.now) c.args.dir.now pool runs) number)

-- the numbers rise in turn, and so part 2 holds where no date is too late
pub returns-clause-found : goal.returns-clause-found
returns-clause-found g c = λ pool honest runs is number.
    let turn = c.in_default.ensures.found pool (rows_name (blocks_of c.args.io.now) c.args.dir.now pool runs) number in
    delivers_more (All (λ row. DatedUpTo row.number row.objects) (rows pool)) (Dated pool) (LateDate pool) _ c.late_state.result (λ dates. in_turn_is_enough pool is.named dates turn) (λ earlier later object block at. inl at)
    (c.late_state.ensures.found pool honest runs number)
