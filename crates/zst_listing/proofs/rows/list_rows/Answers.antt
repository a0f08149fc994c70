use Rattle.std.proofs.Common.{◌≡◌, ◌+◌, List, [], ◌∷◌, add-one, arith, drop, drop-cons, subst, ◌∙◌}
use Rattle.std.proofs.lemmas.List.{drop_all}
use Rattle.zst_dir.specs.declared.rows.Dataset.{Dataset}
use Rattle.zst_dir.specs.declared.rows.Partial.{Partial}
use Rattle.zst_listing.proofs.PoolLines.{lines_are}
use Rattle.zst_listing.proofs.RangeLaws.{rising-in_order}
use Rattle.zst_listing.proofs.PartialWalk.{Walked, walked_first, walked_last, walked_more}
use Rattle.zst_listing.proofs.rows.list_rows.Goals as goal

pub loop-partial-init : goal.loop-partial-init
loop-partial-init c =
    let rows = c.args.dir.now in
    rw (c.partials-partials.ensures, c.datasets-datasets.ensures.same, c.new-lines.ensures.items)
    (walked_first rows (rising-in_order (λ (row : Dataset). row.name) rows.datasets c.datasets-datasets.ensures.lawful.ordered.datasets))

pub loop-partial-preserved : goal.loop-partial-preserved
loop-partial-preserved c =
    let rows = c.args.dir.now in
    let partials = c.partials-partials.result.now in
    let index = c.loop-partial.partial-index in
    let partial = c.partial-item.result in
    let datasets = c.loop-partial.datasets.now in
    let lines = c.loop-partial.lines.items in
    let left : drop index partials ≡ partial ∷ drop (index + 1) partials = rw (c.partial-item.is, add-one) (drop-cons partials index partial c.loop-partial-test.true) in
    let walked = subst (λ (ps : List Partial). Walked rows ps datasets lines) left c.loop-partial.invariant in
    rw (c.in_ok-push_target.ensures, c.in_ok-push_names.ensures, c.split_at.ensures.front, c.split_at.ensures.back)
    (walked_more rows partial (drop (index + 1) partials) datasets lines c.place_behind.result c.place_behind.ensures.first walked)

pub returns : goal.returns
returns c = λ image space pool runs.
    let rows = c.args.dir.now in
    let partials = c.partials-partials.result.now in
    let none : drop c.loop-partial.partial-index partials ≡ [] = drop_all c.loop-partial.partial-index partials (omega arith) in
    let walked = subst (λ (ps : List Partial). Walked rows ps c.loop-partial.datasets.now c.loop-partial.lines.items) none c.loop-partial.invariant in
    c.new.ensures ∙ c.in_ok-push_names-2.ensures ∙ walked_last rows c.loop-partial.datasets.now c.loop-partial.lines.items walked
    ∙ lines_are image space rows pool c.datasets-datasets.ensures.lawful runs
