use Rattle.std.proofs.Common.{sym, refl, ◌∙◌}
use Rattle.std.proofs.lemmas.Bool.{true≢false}
use Rattle.zst_dir.specs.Rows.{Rows}
use Rattle.zst_dir.proofs.Verdict.{lawful, links, rises_lawful}
use Rattle.zst_dir.proofs.row_checks.is_lawful.Goals as goal
use Rattle.zst_dir.proofs.row_checks.is_lawful.Goals.{then-rise, else-rise}

pub returns-in_default : goal.returns-in_default
returns-in_default c =
    let differ = rw c.in_default.is at c.in_ok-names.ensures.differ in
    (λ same. absurd (true≢false (sym same)), λ law. absurd (true≢false (sym (differ.1 law.ordered.snapshots_differ))))

pub returns : goal.returns
returns c =
    let rows : Rows = record { datasets = c.args.datasets.now; snapshots = c.args.snapshots.now; bookmarks = c.args.bookmarks.now; partials = c.args.partials.now } in
    let names = c.in-Some.names in
    let are = rw c.in-Some.is at c.in_ok-names.ensures.names in
    let differ = rw c.in-Some.is at c.in_ok-names.ensures.differ in
    elim c.if-rise.branch [
      | then-rise w ↦ (
        λ same. lawful rows names are c.requires (differ.0 refl) (c.rise.ensures.0 w.if-rise.true) (w.link_to-lawful.ensures.0 (sym w.lawful-is ∙ same)),
        λ law. w.lawful-is ∙ w.link_to-lawful.ensures.1 (links rows names are law),
      )
      | else-rise w ↦ (
        λ same. absurd (true≢false (sym same ∙ w.lawful-is ∙ w.if-rise.false)),
        λ law. absurd (true≢false (sym (c.rise.ensures.1 (rises_lawful rows law)) ∙ w.if-rise.false)),
      )
    ]
