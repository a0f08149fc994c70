use Rattle.std.proofs.Common.{rules, ◌∙◌, sym, ap, is_some, List, Err}
use Rattle.zst_model.specs.pools.Step.{exists_already}
use Rattle.zst_model.specs.declared.refusals.subjects.Name.TheVariants as names
use Rattle.zst_pool.proofs.SnapshotRows.{bookmark_is_free, bookmark_is_taken, no_bookmark}
use Rattle.zst_pool.proofs.lineage.check_free_bookmark.Goals as goal

pub returns-then-is_some-clause-checks : goal.returns-then-is_some-clause-checks
returns-then-is_some-clause-checks c = record {
  rows = search rules;
  judged = λ pool are rest.
      bookmark_is_taken c.args.dir.now pool are c.args.name.now rest (ap is_some (sym c.bookmark.ensures) ∙ sym c.is_some.ensures ∙ c.if-is_some.true)
      ∙ ap (λ (n : List _). Err (exists_already (names.Bookmark n))) (sym c.duplicate.ensures);
}

pub returns-clause-absent : goal.returns-clause-absent
returns-clause-absent c = no_bookmark c.args.dir.now c.args.name.now (ap is_some (sym c.bookmark.ensures) ∙ sym c.is_some.ensures ∙ c.if-is_some.false)

pub returns-clause-checks : goal.returns-clause-checks
returns-clause-checks c = record {
  rows = search rules;
  judged = λ pool are rest. bookmark_is_free c.args.dir.now pool are c.args.name.now rest (ap is_some (sym c.bookmark.ensures) ∙ sym c.is_some.ensures ∙ c.if-is_some.false);
}
