use Rattle.std.proofs.Common.{rules, sym, ◌∙◌, subst, Ok}
use Rattle.zst_pool.specs.Lineage.{FindsGoing}
use Rattle.zst_pool.proofs.DestroyedRows.{going_is_absent, going_is_found}
use Rattle.zst_pool.proofs.lineage.find_going.Goals as goal

pub returns-then-not-is_there : goal.returns-then-not-is_there
returns-then-not-is_there c = record {
  finds = record {
    rows = search rules;
    judged = λ pool are. going_is_absent c.args.dir.now pool are c.args.name (sym c.is_there.ensures ∙ c.if-not-is_there.true);
  };
}

pub returns : goal.returns
returns c = record {
  finds = record {
    rows = search rules;
    judged = λ pool are.
        subst (λ going. FindsGoing c.args.name c.args.dir.now pool (Ok going)) (sym c.going_of.ensures)
        (going_is_found c.args.dir.now pool are c.args.name (sym c.is_there.ensures ∙ c.if-not-is_there.false));
  };
}
