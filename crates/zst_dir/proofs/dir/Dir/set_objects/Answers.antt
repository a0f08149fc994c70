use Rattle.std.proofs.Common.{◌≡◌, List, length, sym, ap, ◌∙◌, subst, arith}
use Rattle.zst_dir.specs.Rows.{Rows, with_objects, IsLawful}
use Rattle.zst_dir.specs.declared.rows.Dataset.{Dataset}
use Rattle.zst_dir.specs.Spelling.{dir_bytes}
use Rattle.zst_dir.proofs.Heads.{objects_changed, written-whole}
use Rattle.zst_dir.proofs.Lengths.{objects_grow}
use Rattle.zst_dir.proofs.dir.Dir.set_objects.Goals as goal

pub invariant_of-self : goal.invariant_of-self
invariant_of-self c =
    let name = c.args.name.now in
    let redact = c.args.redact.now in
    let olds : List Dataset = c.self.inside.datasets.items in
    let rows : Rows = record { datasets = olds; snapshots = c.self.inside.snapshots.items; bookmarks = c.self.inside.bookmarks.items; partials = c.self.inside.partials.items } in
    let long : length c.set_objects.new.datasets ≡ length olds = c.set_objects.auto.datasets ∙ ap length c.as_mut_slice.ensures.value in
    let here = written-whole olds c.set_objects.new.datasets c.self.inside.datasets.len (omega arith) long
    ∙ c.set_objects.ensures ∙ ap (with_objects name c.args.head redact) c.as_mut_slice.ensures.value in
    subst (λ (l : List Dataset). IsLawful (record rows { datasets = l })) (sym here)
    (objects_changed name c.args.head redact rows c.self.invariant c.requires.head c.requires.redact)

pub returns-clause-changed : goal.returns-clause-changed
returns-clause-changed c =
    let name = c.args.name.now in
    let redact = c.args.redact.now in
    let olds : List Dataset = c.self.inside.datasets.items in
    let rows : Rows = record { datasets = olds; snapshots = c.self.inside.snapshots.items; bookmarks = c.self.inside.bookmarks.items; partials = c.self.inside.partials.items } in
    let long : length c.set_objects.new.datasets ≡ length olds = c.set_objects.auto.datasets ∙ ap length c.as_mut_slice.ensures.value in
    let here = written-whole olds c.set_objects.new.datasets c.self.inside.datasets.len (omega arith) long
    ∙ c.set_objects.ensures ∙ ap (with_objects name c.args.head redact) c.as_mut_slice.ensures.value in
    ap (λ (l : List Dataset). record rows { datasets = l }) here ∙ ap (λ (r : Rows). record r { datasets = with_objects name c.args.head redact r.datasets }) c.self.view_is

pub returns-clause-grows : goal.returns-clause-grows
returns-clause-grows c =
    let name = c.args.name.now in
    let redact = c.args.redact.now in
    let olds : List Dataset = c.self.inside.datasets.items in
    let rows : Rows = record { datasets = olds; snapshots = c.self.inside.snapshots.items; bookmarks = c.self.inside.bookmarks.items; partials = c.self.inside.partials.items } in
    let long : length c.set_objects.new.datasets ≡ length olds = c.set_objects.auto.datasets ∙ ap length c.as_mut_slice.ensures.value in
    let here = written-whole olds c.set_objects.new.datasets c.self.inside.datasets.len (omega arith) long
    ∙ c.set_objects.ensures ∙ ap (with_objects name c.args.head redact) c.as_mut_slice.ensures.value in
    omega (
      arith,
      ap (λ (l : List Dataset). length (dir_bytes (record rows { datasets = l }))) here,
      objects_grow rows name c.args.head redact c.self.invariant c.requires.redact,
      ap (λ (r : Rows). length (dir_bytes r)) c.self.view_is,
    )
