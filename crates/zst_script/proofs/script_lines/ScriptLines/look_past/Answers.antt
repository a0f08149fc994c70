use Rattle.std.proofs.Common.{◌≡◌, length, take, arith, length-append, length-take-le, ◌∙◌}
use Rattle.zst_script.proofs.Pendings.{cut_stand}
use Rattle.zst_script.proofs.ReadingSteps.{pends}
use Rattle.zst_script.proofs.script_lines.ScriptLines.look_past.Goals as goal

pub returns-in-Ok-clause-reads : goal.returns-in-Ok-clause-reads
returns-in-Ok-clause-reads g c =
    let old = c.args.self.now in
    let e = c.in-Ok.ensures in
    let got = take c.in-Ok.field-0 c.read.new.into in
    let one : length got ≡ 1 = omega (arith, e.bound.0, e.bound.1, c.read.auto.into, length-take-le c.in-Ok.field-0 c.read.new.into e.bound.0) in
    record {
      piece = got;
      gave = e.bytes.0;
      later = e.cause.later;
      keeps = λ text given has. record {
        size = let size = has.size in let full = c.requires.full in omega (arith, size, one, length-append text got);
        count = has.count;
        stand = cut_stand text got given (pends _ old text given c.requires.waits has) (has.size ∙ c.requires.full) (omega (arith, one));
      };
    }
