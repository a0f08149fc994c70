-- Where the line stands that is read next, and where it ends.
use Rattle.std.specs.Prelude.{◌≡◌, ◌≢◌, ◌+◌, ◌<◌, ℕ, Bool, true, false, List, ◌∷◌, ◌++◌, length, take, drop, All}
use Rattle.std.specs.Bool.{MatchBool}
use Rattle.zst_script.specs.Lines.{longest_line}
use Rattle.zst_script.specs.Scripts.{IsPassedOver}
use Rattle.zst_script.specs.declared.line_room.Span.{Span}
use Rattle.zst_script.specs.declared.script_lines.Found.{Found}
use Rattle.zst_script.specs.declared.script_lines.Found.TheVariants as founds
use Rattle.zst_script.specs.declared.script_lines.Stage.{Stage}
use Rattle.zst_script.specs.declared.script_lines.Stage.TheVariants.{Kept, Dropped, Ended, Limit}

-- more of the script may come
abbrev pub IsOpen : Stage → Type 0
IsOpen Kept = Unit {0}
IsOpen (Dropped comment) = Unit {0}
IsOpen Ended = ⊥
IsOpen Limit = ⊥

-- no line ends in these bytes
abbrev pub HasNoEnd : List ℕ → Type 0
HasNoEnd bytes = All (λ byte. byte ≢ 10) bytes

-- a line ends behind so many of these bytes
pub record EndsAt (bytes : List ℕ) (count : ℕ) : Type 0 where
  pub inside : count < length bytes
  pub whole : HasNoEnd (take count bytes)
  pub parts : bytes ≡ take count bytes ++ 10 ∷ drop (count + 1) bytes

-- whether a line that begins so is a comment
abbrev pub IsKind : Bool → List ℕ → Type 0
IsKind comment front = MatchBool comment (IsPassedOver front) (¬ (IsPassedOver front))

-- the front of a line that is longer than any that says an event
pub record IsFront (comment : Bool) (front : List ℕ) : Type 0 where
  pub long : longest_line < length front
  pub whole : HasNoEnd front
  pub kind : IsKind comment front

-- where a line stands once these bytes of it are dropped
abbrev pub DropsTo : Stage → List ℕ → Stage → Type 0
DropsTo Kept held new = (comment : Bool) × (new ≡ Dropped comment) × IsKind comment held
DropsTo stage held new = new ≡ stage

-- what is told of a line of which these bytes were held, at these places
abbrev pub IsToldOf : Stage → List ℕ → Span → Found → Type 0
IsToldOf Kept held span founds.Passed = IsPassedOver held
IsToldOf Kept held span (founds.Line places) = (places ≡ span) × ¬ (IsPassedOver held)
IsToldOf (Dropped true) held span founds.Passed = Unit {0}
IsToldOf (Dropped false) held span founds.Overlong = Unit {0}
IsToldOf stage held span found = ⊥
