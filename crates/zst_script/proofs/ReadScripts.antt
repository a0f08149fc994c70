-- Scripts that were read line by line.
use Rattle.std.proofs.Common.{◌≡◌, ℕ, suc, ◌+◌, ◌-◌, ◌<◌, ◌≤◌, List, [], ◌∷◌, ◌++◌, length, take, sym, subst, ap, ◌∙◌, arith, append_assoc, append-nil, length-append, ⊎_elim}
use Rattle.std.specs.Prelude.{IsTrue}
use Rattle.std.proofs.Math.Seq.{take-append-add}
use Rattle.std.proofs.lemmas.Bool.{cases_lt}
use Rattle.std.proofs.lemmas.List.{take-append-le}
use Rattle.zst_outside.specs.States.{SourceState}
use Rattle.zst_script.specs.ScriptLines.{AreCut, GoesOn, ReadsAll, StandBefore, StopsAtLimit, StopsAtLine, held_of, stage_of}
use Rattle.zst_script.specs.Scripts.{AllRead, Broken, IsPassedOver, IsScript, Long, Misread, Says, SaysNone, Stops, Whole, ended_lines, lines_of, script_limit}
use Rattle.zst_script.specs.declared.event.Event.{Event}
use Rattle.zst_script.specs.declared.script_lines.Stage.{Stage}
use Rattle.zst_script.specs.declared.script_lines.Stage.TheVariants.{Kept, Dropped, Ended, Limit}
use Rattle.zst_script.proofs.Pendings.{ended_on}
use Rattle.zst_script.proofs.ReadLines.{go_on}

pub reads_all : ReadsAll
reads_all input text given events all says = Whole AllRead all.within (subst (λ (lines : List (List ℕ)). Says 1 lines events AllRead) (sym all.lines) says)

-- the front of a text that is longer than some limit, in two parts
front_of : (limit : ℕ) (text more : List ℕ) → length text ≤ limit → take limit (text ++ more) ≡ text ++ take (limit - length text) more
front_of limit text more within =
    let parts : limit ≡ length text + (limit - length text) = omega arith in
    ap (λ (n : ℕ). take n (text ++ more)) parts ∙ take-append-add text more (limit - length text)

still : (text : List ℕ) → script_limit < length text → script_limit ≤ length text
still text longer = omega arith

longer_on : (text more : List ℕ) → script_limit < length text → script_limit < length (text ++ more)
longer_on text more longer = omega (arith, length-append text more)

-- what comes behind the first line that says no event doesn't matter
misread : (given : List (List ℕ)) (line : List ℕ) (rest : List (List ℕ)) (events : List Event) → Says 1 given events AllRead → ¬ (IsPassedOver line) → SaysNone line
    → Says 1 ((given ++ line ∷ []) ++ rest) events (Misread (suc (length given)))
misread given line rest events says other none =
    let same : 1 + length given ≡ suc (length given) = omega arith in
    let all = go_on 1 given (line ∷ rest) events [] (Misread (1 + length given)) says (Stops (1 + length given) line rest other none) in
    let ends = subst (λ (n : ℕ). Says 1 (given ++ line ∷ rest) (events ++ []) (Misread n)) same all in
    subst (λ (l : List (List ℕ)). Says 1 l events (Misread (suc (length given)))) (sym (append_assoc given (line ∷ []) rest))
    (subst (λ (e : List Event). Says 1 (given ++ line ∷ rest) e (Misread (suc (length given)))) (append-nil events) ends)

-- a line that ended says none, whatever more comes
module _ (given : List (List ℕ)) (line : List ℕ) (events : List Event) (says : Says 1 given events AllRead) (other : ¬ (IsPassedOver line)) (none : SaysNone line) where
  pub stops_on : (text pending more : List ℕ) → length text ≤ script_limit → GoesOn text (given ++ line ∷ []) pending → IsScript (text ++ more) events (Misread (suc (length given)))
  stops_on text pending more within goes =
      let n = suc (length given) in
      ⊎_elim (λ longer.
      let front = take (script_limit - length text) more in
      let is : ended_lines (lines_of (take script_limit (text ++ more))) ≡ (given ++ line ∷ []) ++ ended_lines (lines_of (pending ++ front)) =
      ap (λ (l : List ℕ). ended_lines (lines_of l)) (front_of script_limit text more within) ∙ ended_on text pending front (given ++ line ∷ []) goes
      in
      Broken n longer (subst (λ (l : List (List ℕ)). Says 1 l events (Misread n)) (sym is) (misread given line _ events says other none))) (λ fits.
      Whole (Misread n) fits (subst (λ (l : List (List ℕ)). Says 1 l events (Misread n)) (sym (goes more)) (misread given line _ events says other none)))
      (cases_lt script_limit (length (text ++ more)))

  -- the last line says none
  pub stops_last : (text : List ℕ) → length text ≤ script_limit → lines_of text ≡ given ++ line ∷ [] → IsScript text events (Misread (suc (length given)))
  stops_last text within is =
      let n = suc (length given) in
      Whole (Misread n) within
      (subst (λ (l : List (List ℕ)). Says 1 l events (Misread n)) (append-nil (given ++ line ∷ []) ∙ sym is) (misread given line [] events says other none))

  -- the last one that ends within the limit says none
  pub stops_cut : (text more : List ℕ) → AreCut text (given ++ line ∷ []) → IsScript (text ++ more) events (Misread (suc (length given)))
  stops_cut text more cut =
      let n = suc (length given) in
      let is = ap (λ (l : List ℕ). ended_lines (lines_of l)) (take-append-le script_limit text more (still text cut.longer)) ∙ cut.lines in
      Broken n (longer_on text more cut.longer)
      (subst (λ (l : List (List ℕ)). Says 1 l events (Misread n)) (append-nil (given ++ line ∷ []) ∙ sym is) (misread given line [] events says other none))

  pub stops_at : (stage : Stage) (input : SourceState) (held text more : List ℕ) → StandBefore input stage held text (given ++ line ∷ []) → (IsTrue input.ended → more ≡ [])
      → IsScript (text ++ more) events (Misread (suc (length given)))
  stops_at Kept input held text more stand follows = stops_on text held more stand.0 stand.1
  stops_at (Dropped comment) input held text more stand follows = stops_on text (stand.1.0 ++ held) more stand.0 stand.1.2
  stops_at Ended input held text more all follows =
      subst (λ (t : List ℕ). IsScript t events (Misread (suc (length given)))) (sym (append-nil text) ∙ ap (λ (t : List ℕ). text ++ t) (sym (follows all.over)))
      (stops_last text all.within all.lines)
  stops_at Limit input held text more cut follows = stops_cut text more cut

pub stops_at_line : StopsAtLine
stops_at_line input lines text given line events has says other none more follows =
    stops_at given line events says other none (stage_of lines) input (held_of lines) text more has.stand follows

pub stops_at_limit : StopsAtLimit
stops_at_limit text given events cut says more =
    let is = ap (λ (l : List ℕ). ended_lines (lines_of l)) (take-append-le script_limit text more (still text cut.longer)) ∙ cut.lines in
    Long (longer_on text more cut.longer) (subst (λ (l : List (List ℕ)). Says 1 l events AllRead) (sym is) says)
