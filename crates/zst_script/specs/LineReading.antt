-- What the steps do by which the next line of a script is found.
use Rattle.std.specs.Prelude.{◌≡◌, ◌<◌, ◌≤◌, ℕ, List, ◌++◌, length, take, IsTrue, Result, Ok, Err}
use Rattle.zst_outside.specs.Causes.{Rose}
use Rattle.zst_outside.specs.States.{SourceState, Gave}
use Rattle.zst_script.specs.Lines.{longest_line}
use Rattle.zst_script.specs.LineRoom.{bytes_in}
use Rattle.zst_script.specs.LineStages.{EndsAt, HasNoEnd, IsOpen}
use Rattle.zst_script.specs.ScriptLines.{AreAll, AreCut, EndIn, GivesLine, GivesOverlong, GivesPassed, HasLines, held_of, read_of, stage_of}
use Rattle.zst_script.specs.declared.script_lines.Found.{Found}
use Rattle.zst_script.specs.declared.script_lines.Found.TheVariants as founds
use Rattle.zst_script.specs.declared.script_lines.ScriptLines.{ScriptLines}
use Rattle.zst_script.specs.declared.script_lines.Stage.TheVariants as stages
use Rattle.zst_script.specs.declared.script_lines.Stop.{Stop}
use Rattle.zst_script.specs.declared.script_lines.Stop.TheVariants as stops

-- nothing was read and no line given, whatever the script
abbrev pub Keeps : (old new : ScriptLines) → Type 0
Keeps old new = (input : SourceState) (text : List ℕ) (given : List (List ℕ)) → HasLines input old text given → HasLines input new text given

-- a piece of the input was read, and no line given
pub record ReadsOn (input input' : SourceState) (old new : ScriptLines) : Type 0 where
  pub piece : List ℕ
  pub gave : Gave input input' piece
  pub later : input.faults ≤ input'.faults
  pub keeps : (text : List ℕ) (given : List (List ℕ)) → HasLines input old text given → HasLines input' new (text ++ piece) given

-- no line ends in what is held, and there is room for more
pub record Waits (lines : ScriptLines) : Type 0 where
  pub live : IsOpen (stage_of lines)
  pub whole : HasNoEnd (held_of lines)
  pub short : length (held_of lines) ≤ longest_line

-- why no more comes
abbrev pub StopsAt : (input input' : SourceState) → ScriptLines → Stop → Type 0
StopsAt input input' new stops.End = Waits new × IsTrue input'.ended
StopsAt input input' new stops.Limit = stage_of new ≡ stages.Limit
StopsAt input input' new stops.Fault = Waits new × Rose input.faults input'.faults

-- some bytes came behind those that were held
pub record Grows (old new : ScriptLines) : Type 0 where
  pub got : List ℕ
  pub live : IsOpen (stage_of new)
  pub more : read_of old < read_of new
  pub grown : held_of new ≡ held_of old ++ got

-- the same, or why not
abbrev pub ReadsMore : {T : Type 0} → (input input' : SourceState) → (old new : ScriptLines) → Result T Stop → Type 0
ReadsMore input input' old new (Ok done) = Grows old new
ReadsMore input input' old new (Err stop) = StopsAt input input' new stop

-- some bytes came, behind so many that are held in which no line ends
pub record ComesBehind (old new : ScriptLines) (count : ℕ) : Type 0 where
  pub live : IsOpen (stage_of new)
  pub more : read_of old < read_of new
  pub within : count ≤ length (held_of new)
  pub whole : HasNoEnd (take count (held_of new))

-- the same, or why not
abbrev pub Searched : (input input' : SourceState) → (old new : ScriptLines) → Result ℕ Stop → Type 0
Searched input input' old new (Ok count) = ComesBehind old new count
Searched input input' old new (Err stop) = StopsAt input input' new stop

-- the line ends behind so many of the bytes that are held, or no more comes of it
abbrev pub Reaches : (input input' : SourceState) → ScriptLines → Result ℕ Stop → Type 0
Reaches input input' new (Ok count) = IsOpen (stage_of new) × EndsAt (held_of new) count
Reaches input input' new (Err stop) = StopsAt input input' new stop

-- what is told, while the line still lies in the room
abbrev pub TellsIn : (input input' : SourceState) → ScriptLines → List ℕ → List (List ℕ) → Found → Type 0
TellsIn input input' new text given founds.Passed = GivesPassed input' new text given
TellsIn input input' new text given (founds.Line span) = GivesLine input' new text given (bytes_in new.room span)
TellsIn input input' new text given founds.Overlong = GivesOverlong input' new text given
TellsIn input input' new text given founds.End = AreAll input' text given × HasLines input' new text given
TellsIn input input' new text given founds.Limit = AreCut text given × HasLines input' new text given
TellsIn input input' new text given founds.Fault = Rose input.faults input'.faults × EndIn text given × HasLines input' new text given

-- a piece of the input was read, and this is told then
pub record Finds (input input' : SourceState) (old new : ScriptLines) (found : Found) : Type 0 where
  pub piece : List ℕ
  pub gave : Gave input input' piece
  pub later : input.faults ≤ input'.faults
  pub tells : (text : List ℕ) (given : List (List ℕ)) → HasLines input old text given → TellsIn input input' new (text ++ piece) given found
