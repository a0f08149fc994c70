use Rattle.std.proofs.Common.{◌+◌, ◌≤◌, ◌∷◌, [], length, arith, length-append}
use Rattle.zst_script.specs.Scripts.{script_limit}
use Rattle.zst_run.proofs.ReplayEnds.{ScriptLaws, all_has_run, more_has_run, none_has_run, some_has_run}
use Rattle.zst_run.proofs.ReplayScripts.{given_few}
use Rattle.zst_run.proofs.replay.run_lines.Goals as goal

pub lines-init : goal.lines-init
lines-init g c = none_has_run c.args.engine.now c.args.lines.now _ _ c.requires.fits (c.requires.unread (g.S.Source.state c.args.input.now))

pub run_line-requires : goal.run_line-requires
run_line-requires g c = record { fits = c.lines.invariant.runs.fits }

pub lines-preserved : goal.lines-preserved
lines-preserved g c =
    let script = c.read_lines_are_scripts.ensures in
    let ways = c.runs_go_on.ensures in
    let laws : ScriptLaws = record { go_on = c.scripts_go_on.ensures.events; whole = script.whole; misread = script.misread; too_long = script.too_long } in
    more_has_run laws ways.ways ways.follow _ _ _ _ _ _ _ _ _ _ _ c.lines.invariant (rw c.in-Ok-More.field-0-is at c.in-Ok-More.ensures)

pub lines-smaller : goal.lines-smaller
lines-smaller g c =
    let i = c.lines.invariant in
    let turn = rw c.in-Ok-More.field-0-is at c.in-Ok-More.ensures in
    let told = turn.line i.text i.given i.has in
    let few : length i.given ≤ script_limit + 1 = given_few _ _ i.text i.given i.has in
    let before = i.has.count in
    let after = told.1.count in
    omega (arith, few, before, after, length-append i.given (told.0 ∷ []))

pub returns-in-Ok-End : goal.returns-in-Ok-End
returns-in-Ok-End g c =
    let script = c.read_lines_are_scripts.ensures in
    let ways = c.runs_go_on.ensures in
    let laws : ScriptLaws = record { go_on = c.scripts_go_on.ensures.events; whole = script.whole; misread = script.misread; too_long = script.too_long } in
    all_has_run laws ways.ways ways.follow _ _ _ _ _ _ _ _ _ _ _ c.lines.invariant (rw c.in-Ok-End.field-0-is at c.in-Ok-End.ensures)

pub returns-in-Err : goal.returns-in-Err
returns-in-Err g c =
    let script = c.read_lines_are_scripts.ensures in
    let ways = c.runs_go_on.ensures in
    let laws : ScriptLaws = record { go_on = c.scripts_go_on.ensures.events; whole = script.whole; misread = script.misread; too_long = script.too_long } in
    some_has_run laws ways.ways ways.follow _ _ _ _ _ _ _ _ _ _ _ c.lines.invariant c.in-Err.refusal c.in-Err.ensures
