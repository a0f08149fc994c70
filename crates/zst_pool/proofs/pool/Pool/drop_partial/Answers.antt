use Rattle.std.proofs.Common.{◌∙◌, ap, sym, subst}
use Rattle.zst_block.specs.Blocks.{Has}
use Rattle.zst_model.specs.pools.Pool.{Pool}
use Rattle.zst_dir.specs.Rows.{Rows}
use Rattle.zst_image.specs.Bodies.{free_by}
use Rattle.zst_image.specs.Reads.{Rests, RunsBy, bound_of, kept_rows}
use Rattle.zst_pool.specs.Partials.{without_unkept}
use Rattle.zst_pool.proofs.LawfulPools.{rows_make_pools}
use Rattle.zst_pool.proofs.PartialRows.{kept_rows_stay, kept_stays, unkept_dropped}
use Rattle.zst_pool.proofs.pool.Pool.drop_partial.Goals as goal

pub returns-clause-rests : goal.returns-clause-rests
returns-clause-rests g c = λ tight disk running rested.
    let target = c.args.target.now in
    let kept = c.args.self.now.kept in
    let here = g.D.Disk.state disk in
    let has = Has here.seen (free_by kept.body) in
    let next = without_unkept target running in
    let runs = subst (λ (r : Rows). RunsBy (bound_of tight running.number) has r next) (sym c.drop_unkept.ensures.dropped) (unkept_dropped has kept.dir running target rested.runs_by) in
    record {
      rows = rested.rows;
      lasting = ap kept_rows c.drop_unkept.ensures.dropped ∙ kept_rows_stay target kept.dir ∙ rested.lasting;
      rests = subst (λ (p : Pool). Rests tight here kept.body rested.rows p) (sym (kept_stays target running)) rested.rests;
      runs_by = runs;
      lawful = rows_make_pools has c.drop_unkept.new.self next c.datasets-lawful.ensures.lawful runs rested.lawful.id rested.lawful.number rested.lawful.guids;
    }

pub returns-clause-kept : goal.returns-clause-kept
returns-clause-kept g c = λ running. kept_stays c.args.target.now running
