use Rattle.zst_script.proofs.Pendings.{ended_stand}
use Rattle.zst_script.proofs.ReadingSteps.{pends}
use Rattle.zst_script.proofs.script_lines.ScriptLines.find_line.Goals as goal

pub returns-in-Err-Fault : goal.returns-in-Err-Fault
returns-in-Err-Fault g c =
    let h = rw c.in-Err-Fault.field-0-is at c.in-Err-Fault.ensures.reaches in
    record {
      piece = c.find_end.ensures.reads.piece;
      gave = c.find_end.ensures.reads.gave;
      later = c.find_end.ensures.reads.later;
      tells = λ text given has.
          let now = c.find_end.ensures.reads.keeps text given has in
          (h.1, ended_stand _ given (pends _ _ _ given h.0 now), now);
    }
