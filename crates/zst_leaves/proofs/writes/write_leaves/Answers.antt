use Rattle.std.proofs.Common.{length, refl, arith}
use Rattle.std.proofs.lemmas.Result.{err_from_is_err_and}
use Rattle.zst_block.proofs.IoCallLemmas.{Works-more}
use Rattle.zst_leaves.proofs.BlockCounts.{most_blocks, most_two_levels}
use Rattle.zst_leaves.proofs.LevelCounts.{IsLeast-only, one_level, two_levels}
use Rattle.zst_leaves.proofs.writes.write_leaves.Goals as goal

pub returns-in_err-root-clause-works : goal.returns-in_err-root-clause-works
returns-in_err-root-clause-works g c =
    let least = c.levels_for-levels.ensures in
    let le = most_blocks c.levels_for-levels.result (length c.args.bytes.now) least.few c.requires.some least.enough in
    let p = err_from_is_err_and c.from_residual.result c.from_residual.ensures.1 in
    rw (p.1, p.2) (Works-more (omega (arith, le)) c.in_err-root.ensures.written.works)

pub returns-in_err-root-clause-two_levels : goal.returns-in_err-root-clause-two_levels
returns-in_err-root-clause-two_levels g c = λ small.
    let least = c.levels_for-levels.ensures in
    let two = two_levels (length c.args.bytes.now) c.levels_for-levels.result least small in
    let le = most_two_levels c.levels_for-levels.result (length c.args.bytes.now) two c.requires.some least.enough small in
    let p = err_from_is_err_and c.from_residual.result c.from_residual.ensures.1 in
    rw (p.1, p.2) (Works-more (omega (arith, le)) c.in_err-root.ensures.written.works)

pub returns-in_err-root-clause-exact : goal.returns-in_err-root-clause-exact
returns-in_err-root-clause-exact g c = λ levels least.
    let size = length c.args.bytes.now in
    let same = IsLeast-only size c.levels_for-levels.result levels c.levels_for-levels.ensures least in
    let p = err_from_is_err_and c.from_residual.result c.from_residual.ensures.1 in
    rw (p.1, p.2, ← same) c.in_err-root.ensures.written.works

pub returns-in_err-root-clause-calls : goal.returns-in_err-root-clause-calls
returns-in_err-root-clause-calls g c =
    let least = c.levels_for-levels.ensures in
    omega (arith, most_blocks c.levels_for-levels.result (length c.args.bytes.now) least.few c.requires.some least.enough, c.in_err-root.ensures.written.calls)

pub returns-clause-works : goal.returns-clause-works
returns-clause-works g c =
    let least = c.levels_for-levels.ensures in
    let le = most_blocks c.levels_for-levels.result (length c.args.bytes.now) least.few c.requires.some least.enough in
    Works-more (omega (arith, le)) c.in_ok-root.ensures.written.works

pub returns-clause-two_levels : goal.returns-clause-two_levels
returns-clause-two_levels g c = λ small.
    let least = c.levels_for-levels.ensures in
    let two = two_levels (length c.args.bytes.now) c.levels_for-levels.result least small in
    let le = most_two_levels c.levels_for-levels.result (length c.args.bytes.now) two c.requires.some least.enough small in
    Works-more (omega (arith, le)) c.in_ok-root.ensures.written.works

pub returns-clause-exact : goal.returns-clause-exact
returns-clause-exact g c = λ levels least.
    let same = IsLeast-only (length c.args.bytes.now) c.levels_for-levels.result levels c.levels_for-levels.ensures least in
    rw (← same) c.in_ok-root.ensures.written.works

pub returns-clause-calls : goal.returns-clause-calls
returns-clause-calls g c =
    let least = c.levels_for-levels.ensures in
    omega (arith, most_blocks c.levels_for-levels.result (length c.args.bytes.now) least.few c.requires.some least.enough, c.in_ok-root.ensures.written.calls)

pub returns-clause-one_leaf : goal.returns-clause-one_leaf
returns-clause-one_leaf g c = λ small. c.in_ok-root.ensures.one_leaf (one_level (length c.args.bytes.now) c.levels_for-levels.result c.levels_for-levels.ensures small) c.requires.some

pub returns-clause-written : goal.returns-clause-written
returns-clause-written g c =
    record {
      laid = record { some = c.requires.some; least = c.levels_for-levels.ensures; below = c.in_ok-root.ensures.below };
      past = refl;
      after = c.in_ok-root.ensures.written.after;
    }

pub returns-in_err-root-clause-never_damaged : goal.returns-in_err-root-clause-never_damaged
returns-in_err-root-clause-never_damaged g c = λ sector stated found is.
    let p = err_from_is_err_and c.from_residual.result c.from_residual.ensures.1 in
    c.in_err-root.ensures.written.never_damaged sector stated found (cc)
