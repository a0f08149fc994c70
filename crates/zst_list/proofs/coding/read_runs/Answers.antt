use Rattle.zst_list.proofs.Loops.{reading_more, reading_stops}
use Rattle.zst_list.proofs.coding.read_runs.Goals as goal

pub returns-in-None-clause-exact : goal.returns-in-None-clause-exact
returns-in-None-clause-exact c = λ runs fit long spelled.
    absurd (reading_stops c.args.count c.args.bytes.now c.loop-place.place c.loop-place.runs.items c.loop-place.cursor c.read_run.new.cursor
    c.loop-place.invariant c.loop-place-test.true c.in-None.ensures runs fit long spelled (record { object = 0; first = 0; count = 0 }))

pub loop-place-preserved : goal.loop-place-preserved
loop-place-preserved c =
    rw c.in_ok-push-in-Some.ensures.items
    (reading_more c.args.count c.args.bytes.now c.loop-place.place c.loop-place.runs.items c.loop-place.cursor c.read_run.new.cursor c.in-Some.run'
    c.loop-place.invariant c.loop-place-test.true c.in-Some.ensures)
