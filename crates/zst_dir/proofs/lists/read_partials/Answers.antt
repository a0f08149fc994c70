use Rattle.std.proofs.Common.{rules, arith, refl}
use Rattle.zst_dir.specs.Rows.{IsPartialRow}
use Rattle.zst_dir.specs.Spelling.{partial_bytes}
use Rattle.zst_dir.proofs.Loops.{reading_first, reading_stops, reading_more, reading_last}
use Rattle.zst_dir.proofs.lists.read_partials.Goals as goal

pub loop-init : goal.loop-init
loop-init c = reading_first partial_bytes IsPartialRow c.args.cursor.now c.word.new.self c.args.partials.now.items c.in-Some.count c.in-Some.ensures.exact

pub returns-in-None : goal.returns-in-None
returns-in-None c = record {
  rows = search rules;
  exact = λ rows rest are is.
      absurd (reading_stops partial_bytes IsPartialRow c.args.cursor.now c.args.partials.now.items c.in-Some.count c.loop.counter c.loop.partials.items c.loop.cursor c.read_partial.new.cursor
      c.loop.invariant c.loop-test.true c.in-None.ensures.exact rows rest are is);
}

pub loop-preserved : goal.loop-preserved
loop-preserved c =
    rw c.in_ok-push-in-Some-read_partial.ensures.items
    (reading_more partial_bytes IsPartialRow c.args.cursor.now c.args.partials.now.items c.in-Some.count c.loop.counter c.loop.partials.items c.loop.cursor c.read_partial.new.cursor
    c.in-Some-read_partial.partial c.loop.invariant c.loop-test.true c.in-Some-read_partial.ensures.fits c.in-Some-read_partial.ensures.exact)

pub returns : goal.returns
returns c = record {
  rows = search rules;
  exact = λ rows rest are is.
      let last = reading_last partial_bytes IsPartialRow c.args.cursor.now c.args.partials.now.items c.in-Some.count c.loop.counter c.loop.partials.items c.loop.cursor
      c.loop.invariant (omega arith) rows rest are is in
      (refl, last.0, last.1);
}
