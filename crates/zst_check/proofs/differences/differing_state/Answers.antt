use Rattle.std.proofs.Common.{inl, inr, get_or, below_more}
use Rattle.std.specs.Prelude.{None}
use Rattle.std.proofs.lemmas.Result.{err_from_is_err_and}
use Rattle.zst_block.specs.IoStates.{blocks_of, disk_of}
use Rattle.zst_block.proofs.IoCallLemmas.{Looks-then}
use Rattle.zst_laws.specs.NearestSnapshots.{AgreesWithNearest}
use Rattle.zst_model.specs.pools.Pool as plain
use Rattle.zst_model.specs.pools.Rows.{rows}
use Rattle.zst_check.specs.FailingPlaces.{Differs}
use Rattle.zst_check.proofs.ComparedStates.{some_row, stand_on}
use Rattle.zst_check.proofs.FoundParts.{finds_fails, finds_none}
use Rattle.zst_check.proofs.NamedRows.{rows_name}
use Rattle.zst_check.proofs.differences.differing_state.Goals as goal

pub returns-in_err-report-clause-found : goal.returns-in_err-report-clause-found
returns-in_err-report-clause-found g c = λ pool honest runs is dated.
    let p = err_from_is_err_and c.from_residual.result c.from_residual.ensures.1 in
    let looks = c.loop-state.invariant.looks in
    let row = get_or (rows pool) c.loop-state.place some_row in
    let stands = c.in-Some.ensures.at (disk_of c.args.io.now).seen c.args.io.now.space pool runs some_row in
    let on = stand_on c.args.dir.now pool c.in-Some.state row looks runs stands in
    let named = rows_name (blocks_of c.args.io.now) c.args.dir.now pool runs in
    rw (p.1, p.2) (c.in_err-report.ensures.found pool row honest on.0 on.1 (λ earlier at. (c.nearest_of-nearest.ensures.nearest pool row.place earlier named is dated stands.placed).1 (inl at)))

pub returns-in-Some-2-clause-found : goal.returns-in-Some-2-clause-found
returns-in-Some-2-clause-found g c = λ pool honest runs is dated.
    let looks = c.loop-state.invariant.looks in
    let row = get_or (rows pool) c.loop-state.place some_row in
    let stands = c.in-Some.ensures.at (disk_of c.args.io.now).seen c.args.io.now.space pool runs some_row in
    let on = stand_on c.args.dir.now pool c.in-Some.state row looks runs stands in
    let named = rows_name (blocks_of c.args.io.now) c.args.dir.now pool runs in
    finds_fails _ (AgreesWithNearest pool) (Differs pool) (Differs pool) c.in_ok-report.field-0 c.in-Some-2.report c.in-Some-2.is (λ earlier later object block at. at)
    (c.in_ok-report.ensures.found pool row honest on.0 on.1 (λ earlier at. (c.nearest_of-nearest.ensures.nearest pool row.place earlier named is dated stands.placed).1 (inl at)))

pub returns-in_err-report-2-clause-found : goal.returns-in_err-report-2-clause-found
returns-in_err-report-2-clause-found g c = λ pool honest runs is dated.
    let p = err_from_is_err_and c.from_residual-in_err-report-2.result c.from_residual-in_err-report-2.ensures.1 in
    let looks = Looks-then {stop = None} c.loop-state.invariant.looks c.in_ok-report.ensures.looks in
    let row = get_or (rows pool) c.loop-state.place some_row in
    let stands = c.in-Some.ensures.at (disk_of c.args.io.now).seen c.args.io.now.space pool runs some_row in
    let on = stand_on c.args.dir.now pool c.in-Some.state row looks runs stands in
    let named = rows_name (blocks_of c.args.io.now) c.args.dir.now pool runs in
    rw (p.1, p.2) (c.in_err-report-2.ensures.found pool row honest on.0 on.1 (λ earlier at. (c.nearest_of-nearest.ensures.nearest pool row.place earlier named is dated stands.placed).1 (inr at)))

pub returns-in-Some-3-clause-found : goal.returns-in-Some-3-clause-found
returns-in-Some-3-clause-found g c = λ pool honest runs is dated.
    let looks = Looks-then {stop = None} c.loop-state.invariant.looks c.in_ok-report.ensures.looks in
    let row = get_or (rows pool) c.loop-state.place some_row in
    let stands = c.in-Some.ensures.at (disk_of c.args.io.now).seen c.args.io.now.space pool runs some_row in
    let on = stand_on c.args.dir.now pool c.in-Some.state row looks runs stands in
    let named = rows_name (blocks_of c.args.io.now) c.args.dir.now pool runs in
    finds_fails _ (AgreesWithNearest pool) (Differs pool) (Differs pool) c.in_ok-report-2.field-0 c.in-Some-3.report c.in-Some-3.is (λ earlier later object block at. at)
    (c.in_ok-report-2.ensures.found pool row honest on.0 on.1 (λ earlier at. (c.nearest_of-nearest.ensures.nearest pool row.place earlier named is dated stands.placed).1 (inr at)))

-- the row at the place agrees with the nearest snapshots, of which each is one of the two that it was compared with
pub loop-state-preserved : goal.loop-state-preserved
loop-state-preserved g c = record {
  agree = λ pool honest runs is dated.
      let first = c.loop-state.invariant.looks in
      let second = Looks-then {stop = None} first c.in_ok-report.ensures.looks in
      let before = c.in_ok-report-2.ensures.looks.reads.honest honest in
      let named = rows_name (blocks_of c.args.io.now) c.args.dir.now pool runs in
      below_more _ _ (c.loop-state.invariant.agree pool (c.in_ok-report.ensures.looks.reads.honest before) runs is dated)
      (λ d earlier near.
      let row = get_or (rows pool) c.loop-state.place d in
      let stands = c.in-Some.ensures.at (disk_of c.args.io.now).seen c.args.io.now.space pool runs d in
      let on = stand_on c.args.dir.now pool c.in-Some.state row first runs stands in
      let still = stand_on c.args.dir.now pool c.in-Some.state row second runs stands in
      let nearest = λ (s : plain.Snapshot). c.nearest_of-nearest.ensures.nearest pool row.place s named is dated stands.placed in
      elim ((nearest earlier).0 near) [
        | inl at ↦ finds_none _ (Differs pool) c.in_ok-report.field-0 c.in_default-2.is (c.in_ok-report.ensures.found pool row before on.0 on.1 (λ s here. (nearest s).1 (inl here))) earlier at
        | inr at ↦ finds_none _ (Differs pool) c.in_ok-report-2.field-0 c.in_default-3.is (c.in_ok-report-2.ensures.found pool row honest still.0 still.1 (λ s here. (nearest s).1 (inr here))) earlier at
      ]);
  looks = Looks-then {stop = None} c.loop-state.invariant.looks (Looks-then {stop = None} c.in_ok-report.ensures.looks c.in_ok-report-2.ensures.looks);
}
