use Rattle.std.proofs.Common.{◌≡◌, true, false, not, sym, ap, ◌∙◌, take, arith}
use Rattle.std.proofs.lemmas.Bool.{true≢false, not-true, not-false}
use Rattle.std.proofs.lemmas.List.{take_more}
use Rattle.zst_dir.proofs.Namesets.{collected_none, collected_more, not_differ}
use Rattle.zst_dir.specs.RowChecks.{has}
use Rattle.zst_dir.proofs.row_checks.distinct_names.Goals as goal

pub loop-snapshot-init : goal.loop-snapshot-init
loop-snapshot-init c = collected_none c.new-names.result c.new-names.ensures.empty

pub returns-then-not-branch-clause-differ : goal.returns-then-not-branch-clause-differ
returns-then-not-branch-clause-differ c =
    let snapshot = c.snapshot-item.result in
    let names = c.loop-snapshot.names in
    let added : has names snapshot.name ≡ true = not-false (has names snapshot.name) (ap (λ name. not (has names name)) (sym c.duplicate.ensures) ∙ sym c.in_ok-insert.ensures.added ∙ c.if-not-branch.true) in (
      λ same. absurd (true≢false (sym same)),
      λ differ. absurd (not_differ c.args.snapshots.now names c.loop-snapshot.snapshot-index snapshot c.loop-snapshot.invariant (omega arith) c.snapshot-item.is added differ),
    )

pub loop-snapshot-preserved : goal.loop-snapshot-preserved
loop-snapshot-preserved c =
    let snapshot = c.snapshot-item.result in
    let names = c.loop-snapshot.names in
    let i = c.loop-snapshot.snapshot-index in
    let all = c.args.snapshots.now in
    let absent : has names snapshot.name ≡ false = not-true (has names snapshot.name) (ap (λ name. not (has names name)) (sym c.duplicate.ensures) ∙ sym c.in_ok-insert.ensures.added ∙ c.if-not-branch.false) in
    let updated = rw c.duplicate.ensures at c.in_ok-insert.ensures.updates in
    let more = collected_more (take i all) snapshot names c.insert.new.self c.loop-snapshot.invariant absent updated.0 in
    rw (take_more all i snapshot (omega arith), ← c.snapshot-item.is) more
