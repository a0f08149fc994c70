use Rattle.std.proofs.Common.{refl, sym}
use Rattle.zst_run.proofs.LineEffects.{does_tell}
use Rattle.zst_run.proofs.runs.run_here.Goals as goal

pub run_line-requires : goal.run_line-requires
run_line-requires g c = record { range = c.requires.range; no_check = c.requires.no_check; no_send = c.requires.no_send; no_receive = c.requires.no_receive; no_token = sym c.in-None.ensures }

pub returns-in-Some : goal.returns-in-Some
returns-in-Some g c = does_tell g.D.Disk.state g.D.Disk.tells_images g.E.Disk.state g.E.Disk.tells_images c.args.now c.args.line c.in-Some.dataset _ _ _ (sym c.in-Some.ensures) c.tell_token.ensures refl refl
