use Rattle.std.proofs.Common.{◌≡◌, List, ◌++◌, sym, ap, ◌∙◌, subst, arith}
use Rattle.std.proofs.lemmas.List.Sums.{prefix_len-le-length}
use Rattle.zst_dir.specs.Rows.{Rows, IsLawful}
use Rattle.zst_dir.specs.Spelling.{dataset_bytes, rows_bytes}
use Rattle.zst_dir.specs.declared.rows.Dataset.{Dataset}
use Rattle.zst_dir.proofs.SnapshotRuns.{is_of, DatasetsRise, left-none, left-more}
use Rattle.zst_dir.proofs.SpelledRows.{spelled-all}
use Rattle.zst_dir.proofs.dir.Dir.push_datasets.Goals as goal

pub loop-dataset-init : goal.loop-dataset-init
loop-dataset-init c =
    left-none c.args.self.now c.args.out.now.items c.deref-dataset-items.result.now c.push_word.new.out.items c.as_slice-rest.result.now c.len.result
    (subst IsLawful c.self.view_is c.self.invariant)
    (c.deref-dataset-items.ensures.value ∙ ap (λ (r : Rows). r.datasets) c.self.view_is)
    (omega (arith, c.len.ensures, c.deref-dataset-items.ensures.len))
    c.in_ok-push_word.ensures
    (c.as_slice-rest.ensures.value ∙ ap (λ (r : Rows). r.snapshots) c.self.view_is)

pub split_at-requires : goal.split_at-requires
split_at-requires c = omega (arith, c.count_in_front.ensures, prefix_len-le-length (is_of c.dataset-item.result.name) c.loop-dataset.rest.now)

pub loop-dataset-preserved : goal.loop-dataset-preserved
loop-dataset-preserved c =
    left-more c.args.self.now.snapshots c.args.out.now.items c.deref-dataset-items.result.now c.loop-dataset.dataset-index c.dataset-item.result
    c.loop-dataset.out.items c.push_dataset.new.out.items c.loop-dataset.rest.now c.split_at.result.0.now c.split_at.result.1.now c.count_in_front.result
    (subst DatasetsRise (sym c.deref-dataset-items.ensures.value) c.self.invariant.ordered.datasets)
    c.loop-dataset-test.true c.dataset-item.is c.loop-dataset.invariant c.count_in_front.ensures c.split_at.ensures.front c.split_at.ensures.back
    (λ own. c.in_ok-push_dataset.ensures c.args.self.now.snapshots own)

pub returns : goal.returns
returns c =
    let same : c.deref-dataset-items.result.now ≡ c.args.self.now.datasets = c.deref-dataset-items.ensures.value ∙ ap (λ (r : Rows). r.datasets) c.self.view_is in
    spelled-all (dataset_bytes c.args.self.now.snapshots) c.args.out.now.items c.deref-dataset-items.result.now c.loop-dataset.dataset-index c.loop-dataset.out.items
    c.loop-dataset-test.false c.loop-dataset.invariant.spelled ∙ ap (λ (l : List Dataset). c.args.out.now.items ++ rows_bytes (dataset_bytes c.args.self.now.snapshots) l) same
