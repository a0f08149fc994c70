use Rattle.std.proofs.Common.{refl, sym}
use Rattle.zst_run.proofs.LineEffects.{does_receive}
use Rattle.zst_run.proofs.runs.run_unsent.Goals as goal

pub run_here-requires : goal.run_here-requires
run_here-requires g c = record { range = c.requires.range; no_check = c.requires.no_check; no_send = c.requires.no_send; no_receive = sym c.in-None.ensures }

pub returns-in-Some : goal.returns-in-Some
returns-in-Some g c = does_receive g.D.Disk.state g.D.Disk.tells_images g.E.Disk.state g.E.Disk.tells_images c.args.now c.args.line c.in-Some.ask _ _ _ (sym c.in-Some.ensures) c.receive.ensures refl
