use Rattle.std.specs.Prelude.{Err}
use Rattle.std.proofs.Common.{◌≡◌, [], inl, sym, ap, ◌∙◌, subst, false}
use Rattle.std.proofs.lemmas.Result.{err_from_is_err_and}
use Rattle.zst_block.specs.IoCalls.{Looks}
use Rattle.zst_model.specs.declared.pools.command.Command.TheVariants as commands
use Rattle.zst_model.specs.declared.pools.reply.Reply.{Reply}
use Rattle.zst_model.specs.pools.Step.{answered, stepped}
use Rattle.zst_model.specs.declared.refusals.plan_fault.PlanFault.{PlanFault}
use Rattle.zst_model.specs.refusals.Refusal.{refusal_of}
use Rattle.zst_model.proofs.Results.{err_is}
use Rattle.zst_pool.specs.Plans.{is_by_rows}
use Rattle.zst_pool.specs.declared.fault.PoolFault.TheVariants.{Plan}
use Rattle.zst_pool.specs.Damage.{look_damage}
use Rattle.zst_pool.specs.Faults.{of_set, or_memory}
use Rattle.zst_pool.proofs.ListQueries.{list_apart, list_missing, list_open, list_refused, list_there, list_told, no_plan-list, stop_list}
use Rattle.zst_pool.proofs.PlanLemmas.{plans_apart, plans_refused}
use Rattle.zst_pool.proofs.QueryLemmas.{of_named, tells_missing}
use Rattle.zst_pool.proofs.queries.list_named.Goals as goal

pub returns-in_err-set : goal.returns-in_err-set
unfolding stepped
returns-in_err-set g c = record {
  does = λ now. record {
    tells =
        let p = err_from_is_err_and c.from_residual.result c.from_residual.ensures.1 in
        rw (p.1, p.2, c.in_err-set.ensures.missing) (tells_missing (λ pool. stepped [] now (commands.ListObjects c.args.name) pool) _ c.args.kept.now _ c.args.name
        (λ pool none. list_missing now c.args.name pool none) c.in_err-set.ensures.absent);
    plans =
        let name = c.args.name in
        let fault = c.in_err-set.field-0.0 in
        plans_refused (λ pool. stepped [] now (commands.ListObjects name) pool) 0 0 false c.args.kept.now fault (err_is c.from_residual.result (Plan fault) c.from_residual.ensures.1) (inl (ap is_by_rows c.in_err-set.ensures.missing))
        (λ pool named. list_missing now name pool (c.in_err-set.ensures.absent pool named.are_named) ∙ ap (λ (f : PlanFault). Err (refusal_of f)) (sym c.in_err-set.ensures.missing));
  };
}

pub returns-in_err-list_objects : goal.returns-in_err-list_objects
returns-in_err-list_objects g c = record {
  does = λ now. record {
    tells =
        let fault = c.in_err-list_objects.field-0.0 in
        let is = c.in_err-list_objects.ensures in
        let disk = g.D.Disk.state c.args.io.now.disk.now in
        let p = err_from_is_err_and c.from_residual-in_err-list_objects.result c.from_residual-in_err-list_objects.ensures.1 in
        rw (p.1, p.2) (record {
          told = λ pool honest runs.
              let named = c.in_ok-set.ensures.holds _ _ pool runs in
              list_refused (stepped [] now (commands.ListObjects c.args.name) pool) named.state fault (is.told named.state honest named.holds);
          looks = subst (Looks _ _) (stop_list Reply Reply fault) is.looks;
          open_still = λ same. list_open fault (cc);
          damaged = λ honest. of_named {T = Reply} c.args.kept.now.dir c.args.name (look_damage disk) c.in_ok-set.set c.in_ok-set.ensures.set (Err (or_memory of_set fault)) (list_told Reply (look_damage disk c.in_ok-set.set) fault (is.damaged honest));
        });
    plans =
        let name = c.args.name in
        let fell = c.from_residual-in_err-list_objects in
        let called = c.in_err-list_objects.field-0.0 in
        let answered = err_is fell.result (or_memory of_set called) fell.ensures.1 in
        plans_apart (λ pool. stepped [] now (commands.ListObjects name) pool) 0 0 false c.args.kept.now fell.result (λ pool named. list_apart now name pool (c.in_ok-set.ensures.there pool named.are_named))
        (λ fault is. let same : or_memory of_set called ≡ Plan fault = cc (answered, is) in absurd (no_plan-list Reply called fault c.in_err-list_objects.ensures.known same));
  };
}

pub returns : goal.returns
returns g c = record {
  does = λ now. record {
    tells = record {
      told = λ pool honest runs.
          let named = c.in_ok-set.ensures.holds _ _ pool runs in
          list_there now c.args.name pool named.state named.named ∙ ap (answered pool) (sym (c.in_ok-list_objects.ensures.told named.state honest named.holds));
      looks = c.in_ok-list_objects.ensures.looks;
      open_still = λ same. absurd (cc);
      damaged = λ honest. tt;
    };
    plans =
        let name = c.args.name in
        plans_apart (λ pool. stepped [] now (commands.ListObjects name) pool) 0 0 false c.args.kept.now _ (λ pool named. list_apart now name pool (c.in_ok-set.ensures.there pool named.are_named)) (λ fault is. absurd (cc (is)));
  };
}
