use Rattle.std.proofs.Common.{◌≡◌, Bor, Some, Ok, Err, option_map, refl, sym, ap, subst, ◌≤◌}
use Rattle.std.specs.List.{find}
use Rattle.zst_dir.specs.Rows.{is_for}
use Rattle.zst_dir.specs.declared.rows.Partial.{Partial}
use Rattle.zst_model.specs.declared.refusals.plan_fault.PlanFault.TheVariants.{NoPartial}
use Rattle.zst_model.specs.declared.sends.header.Point.{Point}
use Rattle.zst_model.specs.states.State.{number_bound}
use Rattle.zst_image.specs.Bodies.{free_by}
use Rattle.zst_image.specs.Reads.{bound_of}
use Rattle.zst_recv.proofs.TokenRows.{found_fits, named_tell, point_told, running_tell, token_of_row}
use Rattle.zst_recv.proofs.tokens.token.Goals as goal
use Rattle.zst_recv.proofs.tokens.token.Goals.{in_default-via-in-Some+else-partial, in_default-via-in_default}

pub returns-in-Some : goal.returns-in-Some
returns-in-Some g c =
    let dataset = c.args.dataset.now in
    let rows = c.args.pool.now.kept.dir in
    let row = c.in-Some.partial.now in
    let same = c.partials.ensures in
    let was : Some row ≡ find (is_for dataset) c.partials.result.now = c.in-Some.ensures in
    let kept = c.if-partial.true in
    let found : Some row ≡ find (is_for dataset) rows.partials = rw same at was in
    let told : token_of_row dataset (Some row) ≡ Ok c.of.result = rw kept (ap Ok (sym c.of.ensures.same)) in
    let fits = found_fits dataset rows row c.datasets-lawful.ensures.lawful found in record {
      named = λ running named. named_tell dataset rows running (Some row) (Ok c.of.result) found told named;
      runs = λ bound image space running runs. running_tell dataset rows running (Some row) (Ok c.of.result) found told bound image space runs;
      rests = λ tight disk running rests.
          running_tell dataset rows running (Some row) (Ok c.of.result) found told (bound_of tight running.number) (g.D.Disk.state disk).seen (free_by c.args.pool.now.kept.body) rests.runs_by;
      known = tt;
      token = λ low. c.of.ensures.token fits.header (subst (λ (p : Point). p.object ≤ number_bound) (point_told c.of.result row.header row.point c.of.ensures.same) low);
    }

pub returns-in_default : goal.returns-in_default
returns-in_default g c =
    let dataset = c.args.dataset.now in
    let rows = c.args.pool.now.kept.dir in
    let row = option_map (λ (partial : Bor Partial). partial.now) c.partial_for.result in
    let same = c.partials.ensures in
    let was : row ≡ find (is_for dataset) c.partials.result.now = c.partial_for.ensures in
    let found : row ≡ find (is_for dataset) rows.partials = rw same at was in
    let told : token_of_row dataset row ≡ Err (NoPartial c.duplicate.result) =
    elim c.in_default.branch [
      | in_default-via-in-Some+else-partial w ↦ rw (w.in-Some.is, w.if-partial.false, c.duplicate.ensures) refl
      | in_default-via-in_default w ↦ rw (w.in_default.is, c.duplicate.ensures) refl
    ] in record {
      named = λ running named. named_tell dataset rows running row (Err (NoPartial c.duplicate.result)) found told named;
      runs = λ bound image space running runs. running_tell dataset rows running row (Err (NoPartial c.duplicate.result)) found told bound image space runs;
      rests = λ tight disk running rests.
          running_tell dataset rows running row (Err (NoPartial c.duplicate.result)) found told (bound_of tight running.number) (g.D.Disk.state disk).seen (free_by c.args.pool.now.kept.body) rests.runs_by;
      known = ap NoPartial c.duplicate.ensures;
      token = tt;
    }
