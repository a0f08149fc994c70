-- The lines of a script of which a front was read.
use Rattle.std.proofs.Common.{◌≡◌, ◌≤◌, ◌<◌, ◌+◌, ◌-◌, ⊎_elim, ℕ, suc, Bool, true, false, cond, ◌==◌, List, [], ◌∷◌, ◌++◌, length, take, refl, sym, ap, ◌∙◌, arith, append_assoc, append-nil, length-append, length-take-le}
use Rattle.std.specs.List.{onto_first}
use Rattle.std.proofs.Math.Seq.{take-append-add}
use Rattle.std.proofs.lemmas.Bool.{cases_lt, le-leb, lt-leb}
use Rattle.std.proofs.lemmas.List.{take-append-le}
use Rattle.zst_outside.specs.States.{SourceState}
use Rattle.zst_script.specs.ScriptLines.{AreAll, AreCut, GoesOn, HasLines, StandBefore, held_of, stage_of}
use Rattle.zst_script.specs.Scripts.{ended_lines, lines_of, script_limit}
use Rattle.zst_script.specs.declared.script_lines.ScriptLines.{ScriptLines}
use Rattle.zst_script.specs.declared.script_lines.Stage.{Stage}
use Rattle.zst_script.specs.declared.script_lines.Stage.TheVariants.{Kept, Dropped, Ended, Limit}
use Rattle.zst_run.specs.Replays.{Begin, lines_read}

-- ---- lines that end

-- a text has a first line
has_first : (text : List ℕ) → (first : List ℕ) × (rest : List (List ℕ)) × (lines_of text ≡ first ∷ rest)
has_first [] = ([], [], refl)
has_first (byte ∷ text) = go (byte == 10) (has_first text)
  where
    go : (t : Bool) → (first : List ℕ) × (rest : List (List ℕ)) × (lines_of text ≡ first ∷ rest)
        → (first : List ℕ) × (rest : List (List ℕ)) × (cond t ([] ∷ lines_of text) (onto_first byte (lines_of text)) ≡ first ∷ rest)
    go true had = ([], lines_of text, refl)
    go false had = (byte ∷ had.0, had.1, ap (onto_first byte) had.2)

ended_join : (front : List (List ℕ)) (first : List ℕ) (rest : List (List ℕ)) → ended_lines (front ++ first ∷ rest) ≡ front ++ ended_lines (first ∷ rest)
ended_join [] first rest = refl
ended_join (line ∷ []) first rest = refl
ended_join (line ∷ next ∷ more) first rest = ap (λ (l : List (List ℕ)). line ∷ l) (ended_join (next ∷ more) first rest)

-- behind other lines those of a text end as they do
ended_behind : (front : List (List ℕ)) (text : List ℕ) → ended_lines (front ++ lines_of text) ≡ front ++ ended_lines (lines_of text)
ended_behind front text =
    let had = has_first text in
    ap (λ (l : List (List ℕ)). ended_lines (front ++ l)) had.2 ∙ ended_join front had.0 had.1 ∙ sym (ap (λ (l : List (List ℕ)). front ++ ended_lines l) had.2)

-- ---- how many lines there are

onto_same : (byte : ℕ) (lines : List (List ℕ)) → length (onto_first byte lines) ≤ length lines + 1
onto_same byte [] = omega arith
onto_same byte (line ∷ rest) = omega arith

few_lines : (text : List ℕ) → length (lines_of text) ≤ length text + 1
few_lines [] = omega arith
few_lines (byte ∷ text) = go (byte == 10) (few_lines text) (has_first text)
  where
    go : (t : Bool) → length (lines_of text) ≤ length text + 1 → (first : List ℕ) × (rest : List (List ℕ)) × (lines_of text ≡ first ∷ rest)
        → length (cond t ([] ∷ lines_of text) (onto_first byte (lines_of text))) ≤ suc (length text) + 1
    go true few had = omega arith
    go false few had =
        let same : length (onto_first byte (lines_of text)) ≡ length (lines_of text) =
        ap (λ (l : List (List ℕ)). length (onto_first byte l)) had.2 ∙ sym (ap (λ (l : List (List ℕ)). length l) had.2) in
        omega (arith, same, few)

fewer_ended : (lines : List (List ℕ)) → length (ended_lines lines) ≤ length lines
fewer_ended [] = omega arith
fewer_ended (line ∷ []) = omega arith
fewer_ended (line ∷ next ∷ rest) = let fewer = fewer_ended (next ∷ rest) in omega arith

-- ---- the lines that are read of a script

read_whole : (script : List ℕ) → length script ≤ script_limit → lines_read script ≡ lines_of script
read_whole script within = ap (λ (b : Bool). cond b (lines_of script) (ended_lines (lines_of (take script_limit script)))) (le-leb (length script) script_limit within)

read_cut : (script : List ℕ) → script_limit < length script → lines_read script ≡ ended_lines (lines_of (take script_limit script))
read_cut script past = ap (λ (b : Bool). cond b (lines_of script) (ended_lines (lines_of (take script_limit script)))) (lt-leb (length script) script_limit past)

few_read : (script : List ℕ) → length (lines_read script) ≤ script_limit + 1
few_read script =
    ⊎_elim
    (λ past.
    let front = take script_limit script in
    let short : length front ≡ script_limit = length-take-le script_limit script (omega (arith, past)) in
    let same = ap (λ (l : List (List ℕ)). length l) (read_cut script past) in
    omega (arith, same, fewer_ended (lines_of front), few_lines front, short))
    (λ within. let same = ap (λ (l : List (List ℕ)). length l) (read_whole script within) in omega (arith, same, few_lines script, within))
    (cases_lt script_limit (length script))

-- ---- lines that begin a script

module _ (input : SourceState) where
  going_on : (text : List ℕ) (given : List (List ℕ)) (pending : List ℕ) → length text ≤ script_limit → GoesOn text given pending → Begin input text given
  going_on text given pending within goes more none =
      ⊎_elim
      (λ past.
      let left = script_limit - length text in
      let part = take left more in
      let most : script_limit ≡ length text + left = omega (arith, within) in
      let front : take script_limit (text ++ more) ≡ text ++ part = ap (λ n. take n (text ++ more)) most ∙ take-append-add text more left in
      let is : lines_of (take script_limit (text ++ more)) ≡ given ++ lines_of (pending ++ part) = ap lines_of front ∙ goes part in
      (ended_lines (lines_of (pending ++ part)), read_cut (text ++ more) past ∙ ap ended_lines is ∙ ended_behind given (pending ++ part)))
      (λ small. (lines_of (pending ++ more), read_whole (text ++ more) small ∙ goes more))
      (cases_lt script_limit (length (text ++ more)))

  all_given : (text : List ℕ) (given : List (List ℕ)) → AreAll input text given → Begin input text given
  all_given text given all more none =
      let same : text ++ more ≡ text = ap (λ (l : List ℕ). text ++ l) (none all.over) ∙ append-nil text in
      ([], ap lines_read same ∙ read_whole text all.within ∙ all.lines ∙ sym (append-nil given))

  cut_given : (text : List ℕ) (given : List (List ℕ)) → AreCut text given → Begin input text given
  cut_given text given cut more none =
      let longer = cut.longer in
      let past : script_limit < length (text ++ more) = omega (arith, longer, length-append text more) in
      let same : take script_limit (text ++ more) ≡ take script_limit text = take-append-le script_limit text more (omega (arith, longer)) in
      ([], read_cut (text ++ more) past ∙ ap (λ (l : List ℕ). ended_lines (lines_of l)) same ∙ cut.lines ∙ sym (append-nil given))

  standing : (stage : Stage) (held text : List ℕ) (given : List (List ℕ)) → StandBefore input stage held text given → Begin input text given
  standing Kept held text given stand = going_on text given held stand.0 stand.1
  standing (Dropped comment) held text given stand = going_on text given (stand.1.0 ++ held) stand.0 stand.1.2
  standing Ended held text given stand = all_given text given stand
  standing Limit held text given stand = cut_given text given stand

-- lines that were given begin the script
pub given_begin : (input : SourceState) (lines : ScriptLines) (text : List ℕ) (given : List (List ℕ)) → HasLines input lines text given → Begin input text given
given_begin input lines text given has = standing input (stage_of lines) (held_of lines) text given has.stand

-- so do those before the last of them
pub front_begins : (input : SourceState) (text : List ℕ) (given : List (List ℕ)) (line : List ℕ) → Begin input text (given ++ line ∷ []) → Begin input text given
front_begins input text given line begin more none =
    let found = begin more none in
    (line ∷ found.0, found.1 ∙ append_assoc given (line ∷ []) found.0)

-- there are few
pub given_few : (input : SourceState) (lines : ScriptLines) (text : List ℕ) (given : List (List ℕ)) → HasLines input lines text given → length given ≤ script_limit + 1
given_few input lines text given has =
    let found = given_begin input lines text given has [] (λ over. refl) in
    let same = ap (λ (l : List (List ℕ)). length l) found.1 in
    omega (arith, same, few_read (text ++ []), length-append given found.0)
