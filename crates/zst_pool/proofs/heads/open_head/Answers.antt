use Rattle.std.proofs.Common.{rules, refl, subst}
use Rattle.zst_model.specs.states.AppliedItems.{◌>>=◌}
use Rattle.zst_model.specs.pools.Step.{committed}
use Rattle.zst_pool.specs.Checks.{with_head_of}
use Rattle.zst_dir.specs.Rows.{IsDatasetRow}
use Rattle.zst_pool.proofs.heads.open_head.Goals as goal

pub returns-in-Ok-clause-there : goal.returns-in-Ok-clause-there
returns-in-Ok-clause-there c =
    let there = c.in-Ok.ensures.there in
    record { row = c.in-Ok.dataset.now; among = there.0; named = there.1; head = refl }

pub returns-in-Ok-clause-levels : goal.returns-in-Ok-clause-levels
returns-in-Ok-clause-levels c =
    let there = c.in-Ok.ensures.there in
    let row = subst IsDatasetRow there.0.2 (c.in-Ok.ensures.lawful.datasets there.0.0 c.in-Ok.dataset.now there.0.1) in
    row.head

pub returns-in-Ok-clause-finds : goal.returns-in-Ok-clause-finds
returns-in-Ok-clause-finds c = record {
  rows = search rules;
  judged = λ pool named.
      let found = c.in-Ok.ensures.finds.judged pool named in
      (c.in-Ok.dataset.now, found.0, found.1, refl, λ change. found.2 (λ dataset. change dataset.head >>= λ after. committed (with_head_of c.args.name.now after pool)));
}

pub returns-in-Err-clause-finds : goal.returns-in-Err-clause-finds
returns-in-Err-clause-finds c = record {
  rows = c.in-Err.ensures.finds.rows;
  judged = λ pool named change. c.in-Err.ensures.finds.judged pool named (λ dataset. change dataset.head >>= λ after. committed (with_head_of c.args.name.now after pool));
}
