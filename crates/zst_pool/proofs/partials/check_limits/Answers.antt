use Rattle.std.proofs.Common.{length, Err, ap, sym, ◌∙◌, arith}
use Rattle.zst_model.specs.refusals.Refusal.{refusal_of}
use Rattle.zst_pool.proofs.CheckLemmas.{snapshots_are_counted}
use Rattle.zst_pool.proofs.Limits.{past_partials, past_datasets, past_snapshots, past_number, within_limits}
use Rattle.zst_pool.proofs.partials.check_limits.Goals as goal
use Rattle.zst_uber.specs.declared.uber.Uber.{Uber}
use Rattle.zst_dir.proofs.NamedRows.{partials_are_counted}

pub returns-then-partials-gt-MOST_PARTIALS-clause-judged : goal.returns-then-partials-gt-MOST_PARTIALS-clause-judged
returns-then-partials-gt-MOST_PARTIALS-clause-judged c = λ pool are same.
    let partials = partials_are_counted c.args.dir.now pool are in
    past_partials pool (omega (arith, partials, ap length c.partials-partials.ensures, c.if-partials-gt-MOST_PARTIALS.true)) ∙ ap (λ fault. Err (refusal_of fault)) (sym c.limit.ensures)

pub returns-then-count_datasets-gt-MOST_DATASETS-clause-judged : goal.returns-then-count_datasets-gt-MOST_DATASETS-clause-judged
returns-then-count_datasets-gt-MOST_DATASETS-clause-judged c = λ pool are same.
    let partials = partials_are_counted c.args.dir.now pool are in
    let datasets = c.count_datasets.ensures pool are in
    past_datasets pool (omega (arith, partials, ap length c.partials-partials.ensures, c.if-partials-gt-MOST_PARTIALS.false)) (omega (arith, datasets, c.if-count_datasets-gt-MOST_DATASETS.true))
    ∙ ap (λ fault. Err (refusal_of fault)) (sym c.limit-then-count_datasets-gt-MOST_DATASETS.ensures)

pub returns-then-snapshots-partials-gt-MOST_SNAPSHOTS-clause-judged : goal.returns-then-snapshots-partials-gt-MOST_SNAPSHOTS-clause-judged
returns-then-snapshots-partials-gt-MOST_SNAPSHOTS-clause-judged c = λ pool are same.
    let partials = partials_are_counted c.args.dir.now pool are in
    let datasets = c.count_datasets.ensures pool are in
    let snapshots = snapshots_are_counted c.args.dir.now pool are in
    past_snapshots pool (omega (arith, partials, ap length c.partials-partials.ensures, c.if-partials-gt-MOST_PARTIALS.false)) (omega (arith, datasets, c.if-count_datasets-gt-MOST_DATASETS.false))
    (omega (arith, partials, snapshots, ap length c.partials-partials.ensures, ap length c.snapshots.ensures, c.if-snapshots-partials-gt-MOST_SNAPSHOTS.true))
    ∙ ap (λ fault. Err (refusal_of fault)) (sym c.limit-then-snapshots-partials-gt-MOST_SNAPSHOTS.ensures)

pub returns-then-number-ge-LAST_NUMBER-clause-judged : goal.returns-then-number-ge-LAST_NUMBER-clause-judged
returns-then-number-ge-LAST_NUMBER-clause-judged c = λ pool are same.
    let partials = partials_are_counted c.args.dir.now pool are in
    let datasets = c.count_datasets.ensures pool are in
    let snapshots = snapshots_are_counted c.args.dir.now pool are in
    past_number pool (omega (arith, partials, ap length c.partials-partials.ensures, c.if-partials-gt-MOST_PARTIALS.false)) (omega (arith, datasets, c.if-count_datasets-gt-MOST_DATASETS.false)) (omega (arith, partials, snapshots, ap length c.partials-partials.ensures, ap length c.snapshots.ensures, c.if-snapshots-partials-gt-MOST_SNAPSHOTS.false))
    (omega (arith, same, ap (λ (u : Uber). u.number) c.uber.ensures, c.if-number-ge-LAST_NUMBER.true))
    ∙ ap (λ fault. Err (refusal_of fault)) (sym c.limit-then-number-ge-LAST_NUMBER.ensures)

pub returns-clause-judged : goal.returns-clause-judged
returns-clause-judged c = λ pool are same.
    let partials = partials_are_counted c.args.dir.now pool are in
    let datasets = c.count_datasets.ensures pool are in
    let snapshots = snapshots_are_counted c.args.dir.now pool are in
    within_limits pool (omega (arith, partials, ap length c.partials-partials.ensures, c.if-partials-gt-MOST_PARTIALS.false)) (omega (arith, datasets, c.if-count_datasets-gt-MOST_DATASETS.false)) (omega (arith, partials, snapshots, ap length c.partials-partials.ensures, ap length c.snapshots.ensures, c.if-snapshots-partials-gt-MOST_SNAPSHOTS.false)) (omega (arith, same, ap (λ (u : Uber). u.number) c.uber.ensures, c.if-number-ge-LAST_NUMBER.false))
