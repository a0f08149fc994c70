use Rattle.std.proofs.Common.{◌<◌, List, ℕ, length, sym, subst, ap, arith}
use Rattle.zst_script.specs.Lines.{longest_line}
use Rattle.zst_script.specs.LineStages.{DropsTo}
use Rattle.zst_script.specs.ScriptLines.{StandBefore, held_of, stage_of}
use Rattle.zst_script.proofs.Pendings.{drop_stand}
use Rattle.zst_script.proofs.ReadingSteps.{longest_is}
use Rattle.zst_script.proofs.script_lines.ScriptLines.make_way.Goals as goal

pub returns-then-held-gt-LONGEST_LINE-clause-keeps : goal.returns-then-held-gt-LONGEST_LINE-clause-keeps
returns-then-held-gt-LONGEST_LINE-clause-keeps c = λ input text given has.
    let old = c.args.self.now in
    let held = held_of old in
    let is = c.held-held.ensures.items in
    let long : longest_line < length held = let more = c.if-held-gt-LONGEST_LINE.true in omega (arith, more, ap length is, longest_is) in
    let new = c.stage_behind-stage.result in
    record {
      size = has.size;
      count = has.count;
      stand = subst (λ (bytes : List ℕ). StandBefore input new bytes text given) (sym c.clear.ensures)
          (drop_stand (stage_of old) new input held text given c.requires.open c.requires.whole long
          (subst (λ (bytes : List ℕ). DropsTo (stage_of old) bytes new) is c.stage_behind-stage.ensures) has.stand);
    }

pub returns-else-held-gt-LONGEST_LINE-clause-waits : goal.returns-else-held-gt-LONGEST_LINE-clause-waits
returns-else-held-gt-LONGEST_LINE-clause-waits c = record {
  live = c.requires.open;
  whole = c.requires.whole;
  short = let less = c.if-held-gt-LONGEST_LINE.false in omega (arith, less, ap length c.held-held.ensures.items, longest_is);
}
