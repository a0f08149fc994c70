use Rattle.std.proofs.Common.{rules, [], sym, ◌∙◌, subst}
use Rattle.std.proofs.lemmas.Result.{err_from_is_err_and}
use Rattle.zst_model.specs.declared.refusals.refusal.Refusal.{Refusal}
use Rattle.zst_model.specs.pools.Step.{Stepped, stepped}
use Rattle.std.specs.Prelude.{Result}
use Rattle.zst_model.specs.declared.pools.command.Command.TheVariants as commands
use Rattle.zst_pool.specs.Damage.{read_damage}
use Rattle.zst_pool.specs.Queries.{TellsAnswer}
use Rattle.zst_pool.proofs.QueryLemmas.{of_named, read_missing, read_there, tells_missing}
use Rattle.zst_pool.proofs.block_reads.read_block.Goals as goal

pub returns-in_err-set : goal.returns-in_err-set
unfolding stepped
returns-in_err-set g c = record {
  does = λ now. record {
    tells =
        let p = err_from_is_err_and c.from_residual.result c.from_residual.ensures.1 in
        rw (p.1, p.2, c.in_err-set.ensures.missing) (tells_missing (λ pool. stepped [] now (commands.Read c.args.name c.args.object c.args.index) pool) _ c.args.kept.now _ c.args.name
        (λ pool none. read_missing now c.args.object c.args.index c.args.name pool none) c.in_err-set.ensures.absent);
    plans = search rules;
  };
}

pub returns : goal.returns
unfolding stepped
returns g c = record {
  does = λ now. record {
    tells = record {
      told = λ pool honest runs.
          let named = c.in_ok-set.ensures.holds _ _ pool runs in
          subst (λ (definition : Result Stepped Refusal). TellsAnswer pool definition c.read_in.result)
          (c.reads_are_commands.ensures pool c.args.object c.args.index named.state ∙ sym (read_there now c.args.object c.args.index c.args.name pool named.state named.named))
          (c.read_in.ensures.told pool named.state honest named.holds);
      looks = c.read_in.ensures.looks;
      open_still = c.read_in.ensures.open_still;
      damaged = λ honest. of_named c.args.kept.now.dir c.args.name (read_damage (g.D.Disk.state c.args.io.now.disk.now)) c.in_ok-set.set c.in_ok-set.ensures.set c.read_in.result (c.read_in.ensures.damaged honest);
    };
    plans = search rules;
  };
}
