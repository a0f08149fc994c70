use Rattle.std.proofs.Common.{refl}
use Rattle.zst_run.proofs.ReplayLines.{end_turn, fault_turn, limit_turn, line_turn, overlong_turn, passed_turn, said_in_range}
use Rattle.zst_run.proofs.ReplayRuns.{Remembers}
use Rattle.zst_run.proofs.replay.run_line.Goals as goal

pub run_said-requires : goal.run_said-requires
run_said-requires g c = record { event = said_in_range c.in-Line.line.now c.event_of-said.result c.event_of-said.ensures; fits = c.requires.fits }

pub returns-in-Passed : goal.returns-in-Passed
returns-in-Passed g c = passed_turn _ c.requires.fits _ _ _ _ _ (rw c.in-Passed.is at c.next.follows.holds-at-none)

pub returns-in-Line : goal.returns-in-Line
returns-in-Line g c =
    let knows : Remembers _ = record { only = g.met.D.Disk.only_now; counts = g.met.D.Disk.counts_now } in
    let knows_there : Remembers _ = record { only = g.met.E.Disk.only_now; counts = g.met.E.Disk.counts_now } in
    line_turn knows knows_there _ c.requires.fits _ _ _ _ c.in-Line.line (rw c.in-Line.is at c.next.follows.holds-at-none) c.number.result c.number.ensures c.event_of-said.result _ _ _ _ c.event_of-said.ensures c.run_said.ensures

pub returns-in-Overlong : goal.returns-in-Overlong
returns-in-Overlong g c = overlong_turn _ c.requires.fits _ _ _ _ _ c.number-in-Overlong.result c.number-in-Overlong.ensures (rw c.in-Overlong.is at c.next.follows.holds-at-none)

pub returns-in-End : goal.returns-in-End
returns-in-End g c = end_turn _ c.requires.fits _ _ _ _ _ (rw c.in-End.is at c.next.follows.holds-at-none)

pub returns-in-Limit : goal.returns-in-Limit
returns-in-Limit g c = limit_turn _ c.requires.fits _ _ _ _ _ 16777216 refl (rw c.in-Limit.is at c.next.follows.holds-at-none)

pub returns-in-Fault : goal.returns-in-Fault
returns-in-Fault g c = fault_turn _ c.requires.fits _ _ _ _ _ (rw c.in-Fault.is at c.next.follows.holds-at-none)
