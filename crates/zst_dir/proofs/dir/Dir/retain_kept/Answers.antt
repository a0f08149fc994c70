use Rattle.std.proofs.Common.{rules, arith, ◌≡◌, List, length, filter, sym, ap, ◌∙◌, subst}
use Rattle.std.proofs.lemmas.Fn.{filter_same}
use Rattle.zst_dir.specs.Rows.{Rows, IsLawful}
use Rattle.zst_dir.specs.declared.rows.Partial.{Partial}
use Rattle.zst_dir.proofs.DroppedPartials.{partials_left}
use Rattle.zst_dir.specs.Spelling.{dir_bytes}
use Rattle.zst_dir.proofs.Lengths.{partials_shrink}
use Rattle.zst_dir.proofs.dir.Dir.retain_kept.Goals as goal

pub invariant_of-self : goal.invariant_of-self
invariant_of-self c =
    let olds : List Partial = c.self.inside.partials.items in
    let rows : Rows = record { datasets = c.self.inside.datasets.items; snapshots = c.self.inside.snapshots.items; bookmarks = c.self.inside.bookmarks.items; partials = olds } in
    let stays = λ (partial : Partial). partial.keep in
    let kept : c.retain.new.self.items ≡ filter stays olds = filter_same _ stays _ (λ x b f' k. search rules) _ _ c.retain.ensures.filtered in
    subst (λ (l : List Partial). IsLawful (record rows { partials = l })) (sym kept) (partials_left stays rows c.self.invariant)

pub returns-clause-retained : goal.returns-clause-retained
returns-clause-retained c =
    let olds : List Partial = c.self.inside.partials.items in
    let rows : Rows = record { datasets = c.self.inside.datasets.items; snapshots = c.self.inside.snapshots.items; bookmarks = c.self.inside.bookmarks.items; partials = olds } in
    let stays = λ (partial : Partial). partial.keep in
    let kept : c.retain.new.self.items ≡ filter stays olds = filter_same _ stays _ (λ x b f' k. search rules) _ _ c.retain.ensures.filtered in
    ap (λ (l : List Partial). record rows { partials = l }) kept ∙ ap (λ (r : Rows). record r { partials = filter stays r.partials }) c.self.view_is

pub returns-clause-shrinks : goal.returns-clause-shrinks
returns-clause-shrinks c =
    let olds : List Partial = c.self.inside.partials.items in
    let rows : Rows = record { datasets = c.self.inside.datasets.items; snapshots = c.self.inside.snapshots.items; bookmarks = c.self.inside.bookmarks.items; partials = olds } in
    let stays = λ (partial : Partial). partial.keep in
    let kept : c.retain.new.self.items ≡ filter stays olds = filter_same _ stays _ (λ x b f' k. search rules) _ _ c.retain.ensures.filtered in
    omega (arith, ap (λ (l : List Partial). length (dir_bytes (record rows { partials = l }))) kept, partials_shrink rows stays, ap (λ (r : Rows). length (dir_bytes r)) c.self.view_is)
