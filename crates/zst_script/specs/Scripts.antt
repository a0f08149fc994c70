-- What a script says: its events, line by line, up to the first line that says none.
use Rattle.std.specs.Prelude.{◌≡◌, ◌≢◌, ◌==◌, ◌^◌, ◌<◌, ◌≤◌, ◌+◌, ℕ, suc, List, [], ◌∷◌, ◌++◌, length, take, All, Option, None, Some}
use Rattle.std.specs.List.{slice_split}
use Rattle.zst_script.specs.declared.event.Event.{Event}
use Rattle.zst_script.specs.Lines.{LineSays}

-- a script has at most so many bytes
abbrev pub script_limit : ℕ
script_limit = 2 ^ 24

-- the lines of a text, which line feeds part; behind the last one stands an empty line, or one that lacks its line feed
abbrev pub lines_of : List ℕ → List (List ℕ)
lines_of text = slice_split (λ byte. byte == 10) text

-- the lines that end within a front of a longer text: all but the last part
abbrev pub ended_lines : List (List ℕ) → List (List ℕ)
ended_lines [] = []
ended_lines (line ∷ []) = []
ended_lines (line ∷ next ∷ rest) = line ∷ ended_lines (next ∷ rest)

-- an empty line and a comment are passed over
abbrev pub IsPassedOver : List ℕ → Type 0
IsPassedOver [] = Unit {0}
IsPassedOver (byte ∷ rest) = byte ≡ 35

-- a line says no event
abbrev pub SaysNone : List ℕ → Type 0
SaysNone line = (event : Event) → ¬ (LineSays event line)

-- the event that a line says, or that it says none
abbrev pub SaysOf : List ℕ → Option Event → Type 0
SaysOf line None = SaysNone line
SaysOf line (Some event) = LineSays event line

-- where the events of a script end: all lines were read; or this one, counted from 1, says none (E1); or the script is longer than one may be (E23)
pub data ScriptEnd : Type 0 where
  AllRead : ScriptEnd
  Misread : (line : ℕ) → ScriptEnd
  TooLong : ScriptEnd

-- lines, the first with this number, say these events
pub data Says : ℕ → List (List ℕ) → List Event → ScriptEnd → Type 0 where
  Nothing : (number : ℕ) → Says number [] [] AllRead
  Passes : (number : ℕ) (line : List ℕ) (rest : List (List ℕ)) (events : List Event) (end : ScriptEnd) → IsPassedOver line → Says (suc number) rest events end → Says number (line ∷ rest) events end
  Event' : (number : ℕ) (line : List ℕ) (rest : List (List ℕ)) (event : Event) (events : List Event) (end : ScriptEnd) → ¬ (IsPassedOver line) → LineSays event line → Says (suc number) rest events end
      → Says number (line ∷ rest) (event ∷ events) end
  Stops : (number : ℕ) (line : List ℕ) (rest : List (List ℕ)) → ¬ (IsPassedOver line) → SaysNone line → Says number (line ∷ rest) [] (Misread number)

-- What a script of this text says. Of one that is longer than one may be, the lines that end within the limit are read, and E23 stands behind them.
pub data IsScript (text : List ℕ) (events : List Event) : ScriptEnd → Type 0 where
  Whole : (end : ScriptEnd) → length text ≤ script_limit → Says 1 (lines_of text) events end → IsScript text events end
  Broken : (line : ℕ) → script_limit < length text → Says 1 (ended_lines (lines_of (take script_limit text))) events (Misread line) → IsScript text events (Misread line)
  Long : script_limit < length text → Says 1 (ended_lines (lines_of (take script_limit text))) events AllRead → IsScript text events TooLong

-- ---- laws

-- No line says two events.
abbrev pub OneEvent : Type 0
OneEvent = (line : List ℕ) (one other : Event) → LineSays one line → LineSays other line → one ≡ other

-- A line ends at its line feed, or where the text does: of a front of a longer text that is a broken line.
abbrev pub LinesEnd : Type 0
LinesEnd =
    (line rest : List ℕ) → All (λ byte. byte ≢ 10) line
    → (lines_of (line ++ 10 ∷ rest) ≡ line ∷ lines_of rest) × (lines_of line ≡ line ∷ [])
    × (ended_lines (lines_of (line ++ 10 ∷ rest)) ≡ line ∷ ended_lines (lines_of rest)) × (ended_lines (lines_of line) ≡ [])

-- Lines are read one after another: behind some that all were read the others say what they say from their own number on.
abbrev pub ScriptsGoOn : Type 0
ScriptsGoOn =
    (number : ℕ) (lines more : List (List ℕ)) (events later : List Event) (end : ScriptEnd)
    → Says number lines events AllRead → Says (number + length lines) more later end → Says number (lines ++ more) (events ++ later) end
