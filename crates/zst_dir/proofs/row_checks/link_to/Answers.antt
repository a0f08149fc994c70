use Rattle.std.proofs.Common.{sym, ◌∙◌}
use Rattle.std.proofs.lemmas.Bool.{true≢false}
use Rattle.zst_dir.proofs.row_checks.link_to.Goals as goal
use Rattle.zst_dir.proofs.row_checks.link_to.Goals.{then-origins_are_there, else-origins_are_there}

pub returns-then-bases_are_there : goal.returns-then-bases_are_there
returns-then-bases_are_there c = elim c.if-origins_are_there.branch [
  | then-origins_are_there w ↦ (
    λ free. record {
      origins = c.origins_are_there.ensures.0 w.if-origins_are_there.true;
      bases = w.bases_are_there.ensures.0 (sym w.value-is ∙ c.if-bases_are_there.true);
      components = c.components_are_free.ensures.0 free;
    },
    λ link. c.components_are_free.ensures.1 link.components,
  )
  | else-origins_are_there w ↦ absurd (true≢false (sym c.if-bases_are_there.true ∙ w.value-is ∙ w.if-origins_are_there.false))
]
