use Rattle.std.proofs.Common.{refl}
use Rattle.zst_run.proofs.LineEffects.{does_check, does_else, is_other}
use Rattle.zst_run.proofs.LineRanges.{in_range}
use Rattle.zst_run.specs.Devices.{devices}
use Rattle.zst_run.proofs.runs.run_words.Goals as goal

pub run_unchecked-requires : goal.run_unchecked-requires
run_unchecked-requires g c = record { range = in_range c.in_ok-line.line _ c.in_ok-line.ensures.0 c.in_ok-line.ensures.1; no_check = is_other c.in_ok-line.line c.in_default.not-Check }

pub returns-in-Check : goal.returns-in-Check
returns-in-Check g c =
    does_check g.D.Disk.state g.D.Disk.tells_images g.E.Disk.state g.E.Disk.tells_images c.args.now _ c.in_ok-line.line c.in-Check.image
    (devices c.args.here.now c.args.there.now (g.S.Source.state c.args.input.now) (g.K.Sink.state c.args.out.now))
    (devices c.check_image.new.here c.args.there.now (g.S.Source.state c.args.input.now) (g.K.Sink.state c.check_image.new.out)) c.check_image.result c.in-Check.is c.in_ok-line.ensures c.check_image.ensures refl refl

pub returns-in_ok-run_unchecked-in_default : goal.returns-in_ok-run_unchecked-in_default
returns-in_ok-run_unchecked-in_default g c =
    does_else g.D.Disk.state g.D.Disk.tells_images g.E.Disk.state g.E.Disk.tells_images c.args.now _ c.in_ok-line.line
    (devices c.args.here.now c.args.there.now (g.S.Source.state c.args.input.now) (g.K.Sink.state c.args.out.now))
    (devices c.run_unchecked.new.here c.run_unchecked.new.there (g.S.Source.state c.run_unchecked.new.input) (g.K.Sink.state c.run_unchecked.new.out))
    (is_other c.in_ok-line.line c.in_default.not-Check) c.in_ok-line.ensures c.in_ok-run_unchecked-in_default.ensures
