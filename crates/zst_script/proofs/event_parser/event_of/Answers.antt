use Rattle.std.proofs.Common.{◌≤◌, ℕ, List, length, subst, arith}
use Rattle.std.proofs.lemmas.Result.{IfOk-weaker}
use Rattle.zst_script.specs.EventWords.{WordsSay}
use Rattle.zst_script.specs.Lines.{longest_line, words_of}
use Rattle.zst_script.specs.Scripts.{SaysOf}
use Rattle.zst_script.proofs.WordsOfLines.{line_says}
use Rattle.zst_script.proofs.event_parser.event_of.Goals as goal

pub returns-then-line-gt-LONGEST_LINE : goal.returns-then-line-gt-LONGEST_LINE
unfolding longest_line
returns-then-line-gt-LONGEST_LINE c = λ event says. let short = says.short in omega arith

pub returns-in-Ok : goal.returns-in-Ok
unfolding longest_line
returns-in-Ok c =
    let read = c.in-Ok.ensures.cases in
    let short : length c.args.line.now ≤ longest_line = omega arith in
    IfOk-weaker c.event_of_text.result (WordsSay (words_of c.in-Ok.text.now)) (SaysOf c.args.line.now)
    (λ event says. line_says c.args.line.now event short read.1 (subst (λ (text : List ℕ). WordsSay (words_of text) event) read.0 says))
    c.event_of_text.ensures
