use Rattle.std.proofs.Common.{Ok, arith, subst, sym}
use Rattle.std.proofs.lemmas.Result.{err_from_is_err_and}
use Rattle.zst_uber.specs.declared.uber.Uber.{Uber}
use Rattle.zst_run.specs.GeneratorTurns.{RunsAll}
use Rattle.zst_run.proofs.GeneratorRuns.{ran_all, ran_more, ran_none, ran_refused}
use Rattle.zst_run.proofs.generate.make_all.Goals as goal

pub commands-init : goal.commands-init
commands-init g c = ran_none c.args.now c.args.steps c.args.pool.now c.requires.works c.requires.ready

pub commands-preserved : goal.commands-preserved
commands-preserved g c = ran_more c.args.now c.args.steps c.commands.number c.args.pool.now c.commands.pool c.commands.invariant c.make_next.new.pool c.in_ok-make_next.ensures

pub returns-in_err-make_next : goal.returns-in_err-make_next
returns-in_err-make_next g c =
    let p = err_from_is_err_and c.from_residual.result c.from_residual.ensures.1 in
    rw (p.1, p.2) (ran_refused c.args.now c.args.steps c.commands.number c.args.pool.now c.commands.pool c.commands.invariant c.make_next.new.pool c.in_err-make_next.field-0.0 c.in_err-make_next.ensures)

pub returns : goal.returns
returns g c =
    subst (λ (u : Uber). RunsAll c.args.now c.args.steps c.args.pool.now c.commands.pool (Ok u.number)) (sym c.uber.ensures)
    (ran_all c.args.now c.args.steps c.commands.number c.args.pool.now c.commands.pool c.commands.invariant (omega arith))
