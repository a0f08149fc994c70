use Rattle.std.proofs.Common.{◌∙◌, ap, sym, subst}
use Rattle.zst_block.specs.Blocks.{Has}
use Rattle.zst_model.specs.pools.KeptPool.{kept_of}
use Rattle.zst_model.specs.pools.Pool.{Pool}
use Rattle.zst_dir.specs.Rows.{Rows}
use Rattle.zst_image.specs.Bodies.{free_by}
use Rattle.zst_image.specs.Reads.{Rests, RunsBy, bound_of, kept_rows}
use Rattle.zst_pool.proofs.LawfulPools.{rows_make_pools}
use Rattle.zst_pool.proofs.PoolsAtRest.{kept_again, kept_are, kept_twice}
use Rattle.zst_pool.proofs.pool.Pool.drop_unkept.Goals as goal

pub returns-clause-rests : goal.returns-clause-rests
returns-clause-rests g c = λ tight disk running rested.
    let kept = c.args.self.now.kept in
    let here = g.D.Disk.state disk in
    let has = Has here.seen (free_by kept.body) in
    let left = kept_of running in
    let runs = subst (λ (r : Rows). RunsBy (bound_of tight running.number) has r left) (sym c.retain_kept.ensures.retained) (kept_are has kept.dir running rested.runs_by) in
    record {
      rows = rested.rows;
      lasting = ap kept_rows c.retain_kept.ensures.retained ∙ kept_twice kept.dir ∙ rested.lasting;
      rests = subst (λ (p : Pool). Rests tight here kept.body rested.rows p) (sym (kept_again running)) rested.rests;
      runs_by = runs;
      lawful = rows_make_pools has c.retain_kept.new.self left c.datasets-lawful.ensures.lawful runs rested.lawful.id rested.lawful.number rested.lawful.guids;
    }
