use Rattle.std.proofs.Common.{◌+◌, List, ℕ, length, subst, ap, ◌∙◌, arith}
use Rattle.std.proofs.lemmas.List.{length_push, take_all}
use Rattle.zst_script.specs.LineStages.{IsToldOf}
use Rattle.zst_script.specs.ScriptLines.{held_of, stage_of}
use Rattle.zst_script.proofs.Pendings.{last_stand}
use Rattle.zst_script.proofs.ReadingSteps.{line_told}
use Rattle.zst_script.proofs.script_lines.ScriptLines.take_last.Goals as goal

pub returns : goal.returns
returns c = λ before input text given over has.
    let old = c.args.self.now in
    let held = held_of old in
    let waits = c.requires in
    let span = c.take_front-span.result in
    let s = last_stand (stage_of old) input held text given waits.live waits.whole over has.stand in
    let line = s.0 in
    let all = take_all (length c.held-count.result.now) held (omega (arith, ap length c.held-count.ensures.items)) in
    let front = c.take_front-span.ensures.front ∙ all in
    let told = subst (λ (bytes : List ℕ). IsToldOf (stage_of old) bytes span c.told_of.result) (c.between.ensures ∙ front) c.told_of.ensures in
    line_told (stage_of old) c.told_of.result before input _ text held line given span s.1 told front waits.short
    (record {
      size = has.size;
      count = length_push given line ∙ ap (λ (n : ℕ). n + 1) has.count;
      stand = s.2;
    })
