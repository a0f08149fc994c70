-- A script that is read line by line: what was read of it, which of its lines were given, and what the next call gives.
use Rattle.std.specs.Prelude.{◌≡◌, ◌<◌, ◌≤◌, ◌+◌, ℕ, suc, List, [], ◌∷◌, ◌++◌, length, take, IsTrue}
use Rattle.std.specs.Borrow.{MutBor, Fml}
use Rattle.std.specs.Io.BufRead.{Rests}
use Rattle.zst_outside.specs.Causes.{Rose}
use Rattle.zst_outside.specs.States.{SourceState, Gave}
use Rattle.zst_script.specs.Lines.{longest_line}
use Rattle.zst_script.specs.LineRoom.{items}
use Rattle.zst_script.specs.LineStages.{IsFront}
use Rattle.zst_script.specs.Scripts.{AllRead, IsPassedOver, IsScript, Misread, Says, SaysNone, TooLong, ended_lines, lines_of, script_limit}
use Rattle.zst_script.specs.declared.event.Event.{Event}
use Rattle.zst_script.specs.declared.script_lines.NextLine.{NextLine}
use Rattle.zst_script.specs.declared.script_lines.NextLine.TheVariants as answers
use Rattle.zst_script.specs.declared.script_lines.ScriptLines.{ScriptLines}
use Rattle.zst_script.specs.declared.script_lines.Stage.{Stage}
use Rattle.zst_script.specs.declared.script_lines.Stage.TheVariants.{Kept, Dropped, Ended, Limit}
use Rattle.zst_script.specs.contracts.script_lines.ScriptLines.{the_row}

-- where the next line stands, the bytes that are held, how many were read, and how many lines were given
abbrev pub stage_of : ScriptLines → Stage
stage_of lines = lines.stage

abbrev pub held_of : ScriptLines → List ℕ
held_of lines = items lines.room

abbrev pub read_of : ScriptLines → ℕ
read_of lines = lines.read

abbrev pub number_of : ScriptLines → ℕ
number_of lines = lines.number

-- Behind these lines of the text the next one begins with what is pending, whatever more comes.
abbrev pub GoesOn : List ℕ → List (List ℕ) → List ℕ → Type 0
GoesOn text given pending = (more : List ℕ) → lines_of (text ++ more) ≡ given ++ lines_of (pending ++ more)

-- These are the lines that end in a text that is no longer than a script may be.
pub record EndIn (text : List ℕ) (given : List (List ℕ)) : Type 0 where
  pub within : length text ≤ script_limit
  pub lines : ended_lines (lines_of text) ≡ given

-- The input has ended, and these are all lines of the script.
pub record AreAll (input : SourceState) (text : List ℕ) (given : List (List ℕ)) : Type 0 where
  pub over : IsTrue input.ended
  pub within : length text ≤ script_limit
  pub lines : lines_of text ≡ given

-- The text is longer than a script may be, and these are the lines that end within the limit.
pub record AreCut (text : List ℕ) (given : List (List ℕ)) : Type 0 where
  pub longer : script_limit < length text
  pub lines : ended_lines (lines_of (take script_limit text)) ≡ given

-- The lines were given that stand before what is held, or before what was dropped of the next one; or no more comes.
abbrev pub StandBefore : SourceState → Stage → (held text : List ℕ) → List (List ℕ) → Type 0
StandBefore input Kept held text given = (length text ≤ script_limit) × GoesOn text given held
StandBefore input (Dropped comment) held text given =
    (length text ≤ script_limit) × ((front : List ℕ) × IsFront comment front × GoesOn text given (front ++ held))
StandBefore input Ended held text given = AreAll input text given
StandBefore input Limit held text given = AreCut text given

-- This text was read of an input, and these lines of it were given.
pub record HasLines (input : SourceState) (lines : ScriptLines) (text : List ℕ) (given : List (List ℕ)) : Type 0 where
  pub size : length text ≡ read_of lines
  pub count : length given ≡ number_of lines
  pub stand : StandBefore input (stage_of lines) (held_of lines) text given

-- one more line was given: one that is passed over, one that isn't, and one that is too long to say an event
abbrev pub GivesPassed : SourceState → ScriptLines → List ℕ → List (List ℕ) → Type 0
GivesPassed input new text given = (line : List ℕ) × IsPassedOver line × HasLines input new text (given ++ line ∷ [])

abbrev pub GivesLine : SourceState → ScriptLines → List ℕ → List (List ℕ) → List ℕ → Type 0
GivesLine input new text given line = ¬ (IsPassedOver line) × (length line ≤ longest_line) × HasLines input new text (given ++ line ∷ [])

abbrev pub GivesOverlong : SourceState → ScriptLines → List ℕ → List (List ℕ) → Type 0
GivesOverlong input new text given = (line : List ℕ) × ¬ (IsPassedOver line) × (longest_line < length line) × HasLines input new text (given ++ line ∷ [])

-- what is told of a script of which this text was read then, and of which these lines were given before
abbrev pub Tells : (input input' : SourceState) → ScriptLines → List ℕ → List (List ℕ) → NextLine → Type 0
Tells input input' new text given answers.Passed = GivesPassed input' new text given
Tells input input' new text given (answers.Line line) = GivesLine input' new text given line.now
Tells input input' new text given answers.Overlong = GivesOverlong input' new text given
Tells input input' new text given answers.End = AreAll input' text given × HasLines input' new text given
Tells input input' new text given answers.Limit = AreCut text given × HasLines input' new text given
Tells input input' new text given answers.Fault = Rose input.faults input'.faults × EndIn text given × HasLines input' new text given

-- A piece of the input was read, and for whatever text was read and whatever lines were given before, this is told.
pub record Reads (input input' : SourceState) (old new : ScriptLines) (answer : NextLine) : Type 0 where
  pub piece : List ℕ
  pub gave : Gave input input' piece
  pub later : input.faults ≤ input'.faults
  pub tells : (text : List ℕ) (given : List (List ℕ)) → HasLines input old text given → Tells input input' new (text ++ piece) given answer

-- the same of a call, once the line that it gave isn't used any more
abbrev pub GivesNext : (input input' : SourceState) → MutBor ScriptLines → NextLine → Fml
GivesNext input input' lines answer = Rests the_row lines (λ new. Reads input input' lines.now new answer)

-- ---- laws

-- At most one byte more is read than a script may have, and at most so many lines are given.
abbrev pub LittleIsRead : Type 0
LittleIsRead =
    (input : SourceState) (lines : ScriptLines) (text : List ℕ) (given : List (List ℕ))
    → HasLines input lines text given → (length text ≤ script_limit + 1) × (length given ≤ script_limit + 2)

-- A script all of whose lines were given has the events that these say.
abbrev pub ReadsAll : Type 0
ReadsAll =
    (input : SourceState) (text : List ℕ) (given : List (List ℕ)) (events : List Event) → AreAll input text given → Says 1 given events AllRead → IsScript text events AllRead

-- A script whose line given last is the first that says no event has the events before it, whatever more the input has behind
-- what was read, which is nothing once it has ended.
abbrev pub StopsAtLine : Type 0
StopsAtLine =
    (input : SourceState) (lines : ScriptLines) (text : List ℕ) (given : List (List ℕ)) (line : List ℕ) (events : List Event)
    → HasLines input lines text (given ++ line ∷ []) → Says 1 given events AllRead → ¬ (IsPassedOver line) → SaysNone line
    → (more : List ℕ) → (IsTrue input.ended → more ≡ []) → IsScript (text ++ more) events (Misread (suc (length given)))

-- A script that is longer than one may be has the events of the lines that end within the limit, whatever more comes.
abbrev pub StopsAtLimit : Type 0
StopsAtLimit =
    (text : List ℕ) (given : List (List ℕ)) (events : List Event)
    → AreCut text given → Says 1 given events AllRead → (more : List ℕ) → IsScript (text ++ more) events TooLong

-- A line that is longer than any that says an event says none.
abbrev pub LongSaysNone : Type 0
LongSaysNone = (line : List ℕ) → longest_line < length line → SaysNone line
