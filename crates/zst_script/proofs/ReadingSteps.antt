-- The steps by which the next line of a script is found, one after another.
use Rattle.std.proofs.Common.{◌≡◌, ℕ, ◌≤◌, true, false, List, [], ◌∷◌, ◌++◌, length, refl, sym, subst, ap, ◌∙◌, arith, append_assoc, append-nil, length-append}
use Rattle.zst_outside.specs.States.{SourceState}
use Rattle.zst_script.specs.Lines.{longest_line}
use Rattle.zst_script.specs.LineReading.{Finds, Keeps, ReadsOn, TellsIn, Waits}
use Rattle.zst_script.specs.LineRoom.{bytes_in}
use Rattle.zst_script.specs.LineStages.{IsToldOf}
use Rattle.zst_script.specs.ScriptLines.{AreAll, AreCut, HasLines, StandBefore, held_of, stage_of}
use Rattle.zst_script.specs.Scripts.{IsPassedOver}
use Rattle.zst_script.specs.declared.line_room.Span.{Span}
use Rattle.zst_script.specs.declared.script_lines.Found.{Found}
use Rattle.zst_script.specs.declared.script_lines.Found.TheVariants as founds
use Rattle.zst_script.specs.declared.script_lines.ScriptLines.{ScriptLines}
use Rattle.zst_script.specs.declared.script_lines.Stage.{Stage}
use Rattle.zst_script.specs.declared.script_lines.Stage.TheVariants.{Kept, Dropped, Ended, Limit}
use Rattle.zst_script.proofs.Pendings.{IsLineOf, Pending, kept_by_front, passed_by_front, pending_of}

-- a line is no longer than any that says an event, as the room counts
pub longest_is : longest_line ≡ 2101248
unfolding longest_line
longest_is = refl

gave_more : (first mid last front more : List ℕ) → mid ≡ first ++ front → last ≡ mid ++ more → last ≡ first ++ (front ++ more)
gave_more first mid last front more before after = after ∙ ap (λ (t : List ℕ). t ++ more) before ∙ append_assoc first front more

-- nothing is read yet
pub reads_none : (input : SourceState) (lines : ScriptLines) → ReadsOn input input lines lines
reads_none input lines = record {
  piece = [];
  gave = sym (append-nil input.given);
  later = omega arith;
  keeps = λ text given has. subst (λ (t : List ℕ). HasLines input lines t given) (sym (append-nil text)) has;
}

-- one piece behind another
pub reads_then : (input mid last : SourceState) (old lines new : ScriptLines) → ReadsOn input mid old lines → ReadsOn mid last lines new → ReadsOn input last old new
reads_then input mid last old lines new first next = record {
  piece = first.piece ++ next.piece;
  gave = gave_more input.given mid.given last.given first.piece next.piece first.gave next.gave;
  later = omega (arith, first.later, next.later);
  keeps = λ text given has.
      subst (λ (t : List ℕ). HasLines last new t given) (append_assoc text first.piece next.piece)
      (next.keeps (text ++ first.piece) given (first.keeps text given has));
}

-- a piece behind what changed nothing
pub keeps_then : (input last : SourceState) (old lines new : ScriptLines) → Keeps old lines → ReadsOn input last lines new → ReadsOn input last old new
keeps_then input last old lines new kept next = record {
  piece = next.piece;
  gave = next.gave;
  later = next.later;
  keeps = λ text given has. next.keeps text given (kept input text given has);
}

-- what is told behind a piece
pub finds_behind : (input last : SourceState) (old lines new : ScriptLines) (found : Found) → ReadsOn input last old lines
    → ((text : List ℕ) (given : List (List ℕ)) → HasLines last lines text given → TellsIn input last new text given found) → Finds input last old new found
finds_behind input last old lines new found reads tells = record {
  piece = reads.piece;
  gave = reads.gave;
  later = reads.later;
  tells = λ text given has. tells (text ++ reads.piece) given (reads.keeps text given has);
}

-- what is told with nothing read
pub finds_at_once : (input : SourceState) (lines : ScriptLines) (found : Found)
    → ((text : List ℕ) (given : List (List ℕ)) → HasLines input lines text given → TellsIn input input lines text given found) → Finds input input lines lines found
finds_at_once input lines found tells = finds_behind input input lines lines lines found (reads_none input lines) tells

-- ---- what is told

pub has_ended : (input : SourceState) (lines : ScriptLines) (text : List ℕ) (given : List (List ℕ)) → stage_of lines ≡ Ended → HasLines input lines text given → AreAll input text given
has_ended input lines text given is has = subst (λ (stage : Stage). StandBefore input stage (held_of lines) text given) is has.stand

pub has_met_limit : (input : SourceState) (lines : ScriptLines) (text : List ℕ) (given : List (List ℕ)) → stage_of lines ≡ Limit → HasLines input lines text given → AreCut text given
has_met_limit input lines text given is has = subst (λ (stage : Stage). StandBefore input stage (held_of lines) text given) is has.stand

pub pends : (input : SourceState) (lines : ScriptLines) (text : List ℕ) (given : List (List ℕ)) → Waits lines → HasLines input lines text given → Pending text given
pends input lines text given waits has = pending_of (stage_of lines) input (held_of lines) text given waits.live waits.whole has.stand

-- one more line was given
pub line_told : (stage : Stage) (found : Found) (before input : SourceState) (new : ScriptLines) (text held line : List ℕ) (given : List (List ℕ)) (span : Span)
    → IsLineOf stage held line → IsToldOf stage held span found → bytes_in new.room span ≡ held → length held ≤ longest_line
    → HasLines input new text (given ++ line ∷ []) → TellsIn before input new text given found
line_told Kept founds.Passed before input new text held line given span is told at short has = (line, subst IsPassedOver (sym is) told, has)
line_told Kept (founds.Line places) before input new text held line given span is told at short has =
    let same : bytes_in new.room places ≡ held = ap (bytes_in new.room) told.0 ∙ at in (
      λ passed. told.1 (subst IsPassedOver same passed),
      subst (λ (bytes : List ℕ). length bytes ≤ longest_line) (sym same) short,
      subst (λ (bytes : List ℕ). HasLines input new text (given ++ bytes ∷ [])) (is ∙ sym same) has,
    )
line_told (Dropped true) founds.Passed before input new text held line given span is told at short has =
    let front = is.0 in
    let long = is.1.long in
    (line, subst IsPassedOver (sym is.2) (passed_by_front front held (omega arith) is.1.kind), has)
line_told (Dropped false) founds.Overlong before input new text held line given span is told at short has =
    let front = is.0 in
    let long = is.1.long in (
      line,
      λ passed. is.1.kind (kept_by_front front held (omega arith) (subst IsPassedOver is.2 passed)),
      omega (arith, ap length is.2, length-append front held),
      has,
    )
line_told stage found before input new text held line given span is told at short has = absurd told
