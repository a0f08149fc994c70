use Rattle.std.proofs.Common.{[], refl, subst, sym}
use Rattle.zst_block.specs.IoStates.{disk_of, io_of}
use Rattle.zst_model.specs.declared.pools.command.Command.{Command}
use Rattle.zst_model.specs.pools.Step.{stepped}
use Rattle.zst_pool.specs.CommandRuns.{CarriesOut}
use Rattle.zst_pool.specs.Cost.{cost_of}
use Rattle.zst_pool.specs.Damage.{TellsDamage}
use Rattle.zst_pool.specs.PartialRows.{rows_after}
use Rattle.zst_pool.specs.Plans.{indices_end, makes_list, numbers_end}
use Rattle.zst_pool.proofs.ReclaimRuns.{carries_run}
use Rattle.zst_pool.proofs.pool.carry_out.Goals as goal

pub returns-in-Reclaim : goal.returns-in-Reclaim
unfolding stepped
returns-in-Reclaim g c = record {
  does = subst (λ (command : Command). CarriesOut c.args.now command c.args.held.now c.args.kept.now (io_of c.args.io.now) (io_of c.reclaim.new.io) c.reclaim.result) (sym c.in-Reclaim.is)
      (record { carries = c.reclaim.ensures.does.carries; ran = λ other. absurd (other refl); reclaims = λ one told. c.reclaim.ensures.does.reclaims told });
}

pub returns-in_default : goal.returns-in_default
returns-in_default g c =
    let command = c.args.command in
    let kept = c.args.kept.now in
    let held = c.args.held.now in
    let does = c.run.ensures.does held in
    record {
      does = record {
        carries = carries_run held (λ pool. stepped [] c.args.now command pool) (cost_of command) (TellsDamage command held kept.body kept.dir (disk_of c.args.io.now)) (numbers_end command) (indices_end command) (makes_list command) (rows_after command) kept
            (io_of c.args.io.now) (io_of c.run.new.io) c.run.result does;
        ran = λ other. does.runs.ran;
        reclaims = λ one. absurd (c.in_default.not-Reclaim one);
      };
    }
