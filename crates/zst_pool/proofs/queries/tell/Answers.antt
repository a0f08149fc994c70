use Rattle.std.proofs.Common.{rules, [], sym, ap, ◌∙◌, subst}
use Rattle.std.proofs.lemmas.Result.{err_from_is_err_and}
use Rattle.zst_block.specs.IoStates.{io_of}
use Rattle.zst_model.specs.declared.pools.command.Command.{Command}
use Rattle.zst_model.specs.declared.pools.command.Command.TheVariants as commands
use Rattle.zst_model.specs.pools.Step.{answered, stepped}
use Rattle.zst_pool.specs.Damage.{TellsDamage}
use Rattle.zst_pool.specs.Plans.{Plans, indices_end, makes_list, numbers_end}
use Rattle.zst_pool.specs.Queries.{Tells}
use Rattle.zst_pool.proofs.ListQueries.{list_pool, tells_no_memory, tells_rows}
use Rattle.zst_pool.proofs.queries.tell.Goals as goal

pub returns-in-Read : goal.returns-in-Read
returns-in-Read g c = record {
  does = λ now held. record {
    tells =
        let disk = g.D.Disk.state c.args.io.now.disk.now in
        subst (λ (command : Command). Tells (λ pool. stepped [] now command pool) (TellsDamage command held c.args.kept.now.body c.args.kept.now.dir disk) c.args.kept.now (io_of c.args.io.now) (io_of c.read_block.new.io) c.read_block.result)
        (sym c.in-Read.is) (c.read_block.ensures.does now).tells;
    plans =
        subst (λ (command : Command). Plans (λ pool. stepped [] now command pool) (numbers_end command) (indices_end command) (makes_list command) c.args.kept.now c.read_block.result) (sym c.in-Read.is) (c.read_block.ensures.does now).plans;
  };
}

pub returns-in-ListObjects : goal.returns-in-ListObjects
returns-in-ListObjects g c = record {
  does = λ now held. record {
    tells =
        let disk = g.D.Disk.state c.args.io.now.disk.now in
        subst (λ (command : Command). Tells (λ pool. stepped [] now command pool) (TellsDamage command held c.args.kept.now.body c.args.kept.now.dir disk) c.args.kept.now (io_of c.args.io.now) (io_of c.list_named.new.io) c.list_named.result)
        (sym c.in-ListObjects.is) (c.list_named.ensures.does now).tells;
    plans =
        subst (λ (command : Command). Plans (λ pool. stepped [] now command pool) (numbers_end command) (indices_end command) (makes_list command) c.args.kept.now c.list_named.result) (sym c.in-ListObjects.is) (c.list_named.ensures.does now).plans;
  };
}

pub returns-in_ok-list_rows-in-List : goal.returns-in_ok-list_rows-in-List
unfolding stepped
returns-in_ok-list_rows-in-List g c = record {
  does = λ now held. record {
    tells =
        let disk = g.D.Disk.state c.args.io.now.disk.now in
        rw c.in-List.is (tells_rows (stepped [] now commands.List) _ c.args.kept.now (io_of c.args.io.now) c.in_ok-list_rows-in-List.field-0
        (λ pool runs. list_pool now pool ∙ ap (answered pool) (sym (c.in_ok-list_rows-in-List.ensures disk.seen c.args.io.now.space pool runs))));
    plans = search rules;
  };
}

pub returns-in_err-list_rows-in-List : goal.returns-in_err-list_rows-in-List
unfolding stepped
returns-in_err-list_rows-in-List g c = record {
  does = λ now held. record {
    tells =
        let p = err_from_is_err_and c.from_residual.result c.from_residual.ensures.1 in
        rw (p.1, p.2) (tells_no_memory (stepped [] now c.args.command) _ c.args.kept.now (io_of c.args.io.now));
    plans = search rules;
  };
}
