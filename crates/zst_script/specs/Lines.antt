-- What a line of a script says: an event.
use Rattle.std.specs.Prelude.{◌≡◌, ◌==◌, ◌+◌, ◌^◌, ◌<◌, ◌≤◌, ℕ, if◌then◌else◌, bytes_eq, IsUtf8, List, [], ◌∷◌, length, Option, Ok, codes, decimal}
use Rattle.std.specs.List.{slice_split}
use Rattle.zst_line.specs.Line.{LineAnswers}
use Rattle.zst_line.specs.declared.line.Line.{Line}
use Rattle.zst_line.specs.declared.line.Line.TheVariants as lines
use Rattle.zst_model.specs.declared.refusals.subjects.Name.{Name}
use Rattle.zst_model.specs.pools.Step.{IsCommand}
use Rattle.zst_names.specs.Names.{IsDataset}
use Rattle.zst_script.specs.Asks.{ask_of, receipt_of}
use Rattle.zst_script.specs.declared.event.Event.{Event}
use Rattle.zst_script.specs.declared.event.Event.TheVariants as events
use Rattle.zst_script.specs.declared.event.Side.{Side}
use Rattle.zst_script.specs.declared.event.Side.TheVariants.{Here, There}

-- the words of a line, which single blanks part
abbrev pub words_of : List ℕ → List (List ℕ)
words_of line = slice_split (λ byte. byte == 32) line

-- the word for a pool, which stands for its image too
abbrev pub word_for : Side → List ℕ
word_for Here = codes "here"
word_for There = codes "there"

-- an image before the last of some words, and before all of them
abbrev pub before_last : List ℕ → List (List ℕ) → List (List ℕ)
before_last image [] = image ∷ []
before_last image (word ∷ []) = image ∷ word ∷ []
before_last image (word ∷ next ∷ rest) = word ∷ before_last image (next ∷ rest)

-- the words of a command line with its image, which a script leaves out: behind the options, of which a rollback alone has any
abbrev pub with_image : List ℕ → List (List ℕ) → List (List ℕ)
with_image image [] = []
with_image image (command ∷ rest) = if bytes_eq command (codes "rollback") then command ∷ before_last image rest else command ∷ image ∷ rest

-- the words are this line, each standing where it may
abbrev pub AreLine : Line → List (List ℕ) → Type 0
AreLine line words = LineAnswers words (Ok line)

-- an id of a session, and a count of bytes that are taken at once
abbrev pub IsId : ℕ → Type 0
IsId id = id < 2 ^ 32

abbrev pub IsCount : ℕ → Type 0
IsCount count = (1 ≤ count) × (count ≤ 2 ^ 20)

-- a line of a pool: the word for it, and then these words
abbrev pub OnPool : Side → List (List ℕ) → List (List ℕ) → Type 0
OnPool side rest words = words ≡ word_for side ∷ rest

-- The words are this event.
abbrev pub EventIs : Event → List (List ℕ) → Type 0
EventIs (events.Step side command) words =
    (rest : List (List ℕ)) × (OnPool side rest words × AreLine (lines.Step (word_for side) command) (with_image (word_for side) rest))
EventIs (events.Token side dataset) words =
    (rest : List (List ℕ)) × (OnPool side rest words × AreLine (lines.Token (word_for side) dataset) (with_image (word_for side) rest))
EventIs (events.Check side) words =
    (rest : List (List ℕ)) × (OnPool side rest words × AreLine (lines.Check (word_for side)) (with_image (word_for side) rest))
EventIs (events.Send side id ask) words =
    (rest : List (List ℕ)) × (from : Option Name) × ((ask ≡ ask_of from ask.redact ask.snap) × IsId id × OnPool side (codes "send" ∷ decimal id ∷ rest) words
    × AreLine (lines.Send (word_for side) from ask.redact ask.snap) (codes "send" ∷ before_last (word_for side) rest))
EventIs (events.Resume side id dataset) words = OnPool side (codes "resume" ∷ decimal id ∷ dataset ∷ []) words × IsId id × IsDataset dataset
EventIs (events.Receive side id ask) words =
    (rest : List (List ℕ)) × (target : Name) × ((ask ≡ receipt_of ask.keep ask.force ask.origin target) × IsId id
    × OnPool side (codes "receive" ∷ decimal id ∷ rest) words
    × AreLine (lines.Receive (word_for side) ask.keep ask.force ask.origin target) (codes "receive" ∷ before_last (word_for side) rest))
EventIs (events.Pump sends receives count) words =
    (words ≡ codes "pump" ∷ decimal sends ∷ decimal receives ∷ decimal count ∷ []) × IsId sends × IsId receives × IsCount count
EventIs (events.Drop sends count) words = (words ≡ codes "drop" ∷ decimal sends ∷ decimal count ∷ []) × IsId sends × IsCount count
EventIs (events.Close sends) words = (words ≡ codes "close" ∷ decimal sends ∷ []) × IsId sends
EventIs (events.Cut receives) words = (words ≡ codes "cut" ∷ decimal receives ∷ []) × IsId receives
EventIs (events.Reopen side) words = OnPool side (codes "reopen" ∷ []) words

-- an event that a line can say: its command's values are in their ranges, and so is its count of bytes
abbrev pub IsEvent : Event → Type 0
IsEvent (events.Step side command) = IsCommand command
IsEvent (events.Pump sends receives count) = IsCount count
IsEvent (events.Drop sends count) = IsCount count
IsEvent event = Unit {0}

-- a line that says an event has at most so many bytes: the longest writes 1,048,576 bytes in hexadecimal
unfoldable pub longest_line : ℕ
longest_line = 2 ^ 21 + 4096

-- The line says this event.
pub record LineSays (event : Event) (line : List ℕ) : Type 0 where
  pub short : length line ≤ longest_line
  pub text : IsUtf8 line
  pub says : EventIs event (words_of line)
