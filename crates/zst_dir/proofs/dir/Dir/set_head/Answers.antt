use Rattle.std.proofs.Common.{◌≡◌, List, length, sym, ap, ◌∙◌, subst, arith}
use Rattle.zst_dir.specs.Rows.{Rows, with_head, IsLawful}
use Rattle.zst_dir.specs.declared.rows.Dataset.{Dataset}
use Rattle.zst_dir.proofs.Heads.{head_changed, written-whole}
use Rattle.zst_dir.specs.Spelling.{dir_bytes}
use Rattle.zst_dir.proofs.Lengths.{head_as_long}
use Rattle.zst_dir.proofs.dir.Dir.set_head.Goals as goal

pub invariant_of-self : goal.invariant_of-self
invariant_of-self c =
    let olds : List Dataset = c.self.inside.datasets.items in
    let rows : Rows = record { datasets = olds; snapshots = c.self.inside.snapshots.items; bookmarks = c.self.inside.bookmarks.items; partials = c.self.inside.partials.items } in
    let long : length c.set_head.new.datasets ≡ length olds = c.set_head.auto.datasets ∙ ap length c.as_mut_slice.ensures.value in
    let here = written-whole olds c.set_head.new.datasets c.self.inside.datasets.len (omega arith) long
    ∙ c.set_head.ensures ∙ ap (with_head c.args.name.now c.args.head) c.as_mut_slice.ensures.value in
    subst (λ (l : List Dataset). IsLawful (record rows { datasets = l })) (sym here) (head_changed c.args.name.now c.args.head rows c.self.invariant c.requires)

pub returns-clause-headed : goal.returns-clause-headed
returns-clause-headed c =
    let olds : List Dataset = c.self.inside.datasets.items in
    let rows : Rows = record { datasets = olds; snapshots = c.self.inside.snapshots.items; bookmarks = c.self.inside.bookmarks.items; partials = c.self.inside.partials.items } in
    let long : length c.set_head.new.datasets ≡ length olds = c.set_head.auto.datasets ∙ ap length c.as_mut_slice.ensures.value in
    let here = written-whole olds c.set_head.new.datasets c.self.inside.datasets.len (omega arith) long
    ∙ c.set_head.ensures ∙ ap (with_head c.args.name.now c.args.head) c.as_mut_slice.ensures.value in
    ap (λ (l : List Dataset). record rows { datasets = l }) here ∙ ap (λ (r : Rows). record r { datasets = with_head c.args.name.now c.args.head r.datasets }) c.self.view_is

pub returns-clause-as_long : goal.returns-clause-as_long
returns-clause-as_long c =
    let olds : List Dataset = c.self.inside.datasets.items in
    let rows : Rows = record { datasets = olds; snapshots = c.self.inside.snapshots.items; bookmarks = c.self.inside.bookmarks.items; partials = c.self.inside.partials.items } in
    let long : length c.set_head.new.datasets ≡ length olds = c.set_head.auto.datasets ∙ ap length c.as_mut_slice.ensures.value in
    let here = written-whole olds c.set_head.new.datasets c.self.inside.datasets.len (omega arith) long
    ∙ c.set_head.ensures ∙ ap (with_head c.args.name.now c.args.head) c.as_mut_slice.ensures.value in
    ap (λ (l : List Dataset). length (dir_bytes (record rows { datasets = l }))) here ∙ head_as_long rows c.args.name.now c.args.head ∙ ap (λ (r : Rows). length (dir_bytes r)) c.self.view_is
