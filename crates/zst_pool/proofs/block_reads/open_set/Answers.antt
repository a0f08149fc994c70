use Rattle.std.specs.Prelude.{is_some}
use Rattle.std.proofs.Common.{sym, ap, ◌∙◌}
use Rattle.zst_pool.proofs.LookupLemmas.{found_named}
use Rattle.zst_pool.proofs.block_reads.open_set.Goals as goal
use Rattle.zst_model.proofs.Options.{none_there}

pub returns-in-Some-clause-there : goal.returns-in-Some-clause-there
returns-in-Some-clause-there c = λ pool are. sym (found_named c.args.dir.now pool are c.args.name) ∙ ap (λ s. is_some s) (sym c.in-Some.ensures.finds.rows)

pub returns-in-None-clause-absent : goal.returns-in-None-clause-absent
returns-in-None-clause-absent c = λ pool are. none_there _ (sym (found_named c.args.dir.now pool are c.args.name) ∙ ap (λ s. is_some s) (sym c.in-None.ensures.finds.rows))
