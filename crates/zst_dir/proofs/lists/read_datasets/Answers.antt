use Rattle.std.proofs.Common.{rules, arith, refl}
use Rattle.zst_dir.proofs.NestedSnapshots.{all_first, all_stops, all_more, all_last}
use Rattle.zst_dir.proofs.lists.read_datasets.Goals as goal

pub loop-init : goal.loop-init
loop-init c = all_first c.args.cursor.now c.word.new.self c.args.datasets.now.items c.args.snapshots.now.items c.in-Some.count c.in-Some.ensures.exact

pub returns-then-not-branch : goal.returns-then-not-branch
returns-then-not-branch c = record {
  rows = search rules;
  snapshots = search rules;
  exact = λ rows all rest are are_all is.
      absurd (all_stops c.args.cursor.now c.args.datasets.now.items c.args.snapshots.now.items c.in-Some.count c.loop.counter c.loop.datasets.items c.read_one.new.datasets.items c.loop.snapshots.items c.read_one.new.snapshots.items
      c.loop.cursor c.read_one.new.cursor c.in_ok-read_one.field-0 c.loop.invariant c.loop-test.true c.if-not-branch.true c.in_ok-read_one.ensures.exact rows all rest are are_all is);
}

pub loop-preserved : goal.loop-preserved
loop-preserved c =
    let one = rw c.if-not-branch.false at c.in_ok-read_one.ensures.rows in
    all_more c.args.cursor.now c.args.datasets.now.items c.args.snapshots.now.items c.in-Some.count c.loop.counter c.loop.datasets.items c.read_one.new.datasets.items c.loop.snapshots.items c.read_one.new.snapshots.items
    c.loop.cursor c.read_one.new.cursor c.in_ok-read_one.field-0 c.loop.invariant c.loop-test.true one c.in_ok-read_one.ensures.exact

pub returns : goal.returns
returns c = record {
  rows = search rules;
  snapshots = search rules;
  exact = λ rows all rest are are_all is.
      let last = all_last c.args.cursor.now c.args.datasets.now.items c.args.snapshots.now.items c.in-Some.count c.loop.counter c.loop.datasets.items c.loop.snapshots.items c.loop.cursor
      c.loop.invariant (omega arith) rows all rest are are_all is in
      (refl, last.0, last.1, last.2);
}
