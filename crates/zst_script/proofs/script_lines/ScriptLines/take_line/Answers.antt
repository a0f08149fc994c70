use Rattle.std.proofs.Common.{◌≤◌, ◌+◌, List, ℕ, ◌∷◌, ◌++◌, [], length, take, sym, subst, ap, ◌∙◌, arith}
use Rattle.std.proofs.lemmas.List.{length_push, length-take-le}
use Rattle.zst_script.specs.Lines.{longest_line}
use Rattle.zst_script.specs.LineStages.{IsToldOf}
use Rattle.zst_script.specs.ScriptLines.{StandBefore, held_of, stage_of}
use Rattle.zst_script.specs.declared.script_lines.Stage.TheVariants.{Kept}
use Rattle.zst_script.proofs.Pendings.{line_stand}
use Rattle.zst_script.proofs.ReadingSteps.{line_told, longest_is}
use Rattle.zst_script.proofs.RoomBytes.{room_holds}
use Rattle.zst_script.proofs.script_lines.ScriptLines.take_line.Goals as goal

pub returns : goal.returns
returns c = λ before input text given has.
    let old = c.args.self.now in
    let held = held_of old in
    let count = c.args.count in
    let ends = c.requires.ends in
    let span = c.take_front-span.result in
    let e = c.take_front-span.ensures in
    let s = line_stand (stage_of old) input held text count given c.requires.open ends has.stand in
    let line = s.0 in
    let told = subst (λ (bytes : List ℕ). IsToldOf (stage_of old) bytes span c.told_of.result) (c.between.ensures ∙ e.front) c.told_of.ensures in
    let short : length (take count held) ≤ longest_line =
    let inside = ends.inside in
    let most = room_holds old.room in
    omega (arith, inside, most, longest_is, length-take-le count held (omega (arith, inside)))
    in
    line_told (stage_of old) c.told_of.result before input _ text (take count held) line given span s.1 told e.front short
    (record {
      size = has.size;
      count = length_push given line ∙ ap (λ (n : ℕ). n + 1) has.count;
      stand = subst (λ (bytes : List ℕ). StandBefore input Kept bytes text (given ++ line ∷ [])) (sym e.rest) s.2;
    })
