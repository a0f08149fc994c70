use Rattle.std.proofs.Common.{refl, sym}
use Rattle.zst_run.proofs.LineEffects.{does_send}
use Rattle.zst_run.proofs.runs.run_unchecked.Goals as goal

pub run_unsent-requires : goal.run_unsent-requires
run_unsent-requires g c = record { range = c.requires.range; no_check = c.requires.no_check; no_send = sym c.in-None.ensures }

pub returns-in-Some : goal.returns-in-Some
returns-in-Some g c = does_send g.D.Disk.state g.D.Disk.tells_images g.E.Disk.state g.E.Disk.tells_images c.args.now c.args.line c.in-Some.request _ _ _ (sym c.in-Some.ensures) c.send.ensures refl refl
