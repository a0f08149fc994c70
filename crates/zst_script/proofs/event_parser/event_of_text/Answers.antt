use Rattle.std.proofs.Common.{ℕ, List, ◌<◌, length, arith, IfOk, subst}
use Rattle.zst_script.specs.EventWords.{WordsSay, most_words}
use Rattle.zst_script.specs.Lines.{words_of}
use Rattle.zst_script.proofs.WordCounts.{event_few}
use Rattle.zst_script.proofs.event_parser.event_of_text.Goals as goal

pub returns-in-Some : goal.returns-in-Some
returns-in-Some c = subst (λ (words : List (List ℕ)). IfOk c.event_of_words.result (WordsSay words)) (rw c.in-Some.is at c.in_ok-words.ensures) c.event_of_words.ensures

pub returns-in-None : goal.returns-in-None
returns-in-None c = λ event says.
    let few = event_few event (words_of c.args.text.now) says in
    let more : most_words < length (words_of c.args.text.now) = rw c.in-None.is at c.in_ok-words.ensures in
    omega (arith, few, more)
