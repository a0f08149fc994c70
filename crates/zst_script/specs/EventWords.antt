-- What the words of a line say: an event, or none.
use Rattle.std.specs.Prelude.{◌≡◌, ◌≢◌, ℕ, List, [], ◌∷◌, Option, None, Some, codes, decimal}
use Rattle.zst_line.specs.declared.line.Line.{Line}
use Rattle.zst_line.specs.declared.line.Line.TheVariants as lines
use Rattle.zst_script.specs.Asks.{ask_of, receipt_of}
use Rattle.zst_script.specs.Lines.{AreLine, EventIs, IsId, before_last}
use Rattle.zst_script.specs.declared.event.Event.{Event}
use Rattle.zst_script.specs.declared.event.Event.TheVariants as events
use Rattle.zst_script.specs.declared.event.Side.{Side}
use Rattle.zst_script.specs.declared.words.Verb.{Verb}
use Rattle.zst_script.specs.declared.words.Verb.TheVariants as verbs

-- a line that says an event has at most so many words: the most has a redaction to sixteen snapshots, which is of 20
abbrev pub most_words : ℕ
most_words = 32

-- the event that words are, or that they are none
abbrev pub WordsSay : List (List ℕ) → Option Event → Type 0
WordsSay words None = (event : Event) → ¬ (EventIs event words)
WordsSay words (Some event) = EventIs event words

-- the number of such a kind that a word spells, or that it spells none
abbrev pub Spells : (ℕ → Type 0) → List ℕ → Option ℕ → Type 0
Spells IsOne word None = (number : ℕ) → IsOne number → word ≢ decimal number
Spells IsOne word (Some number) = IsOne number × (word ≡ decimal number)

-- the word of a verb, which stands behind that for a pool
abbrev pub verb_word : Verb → List ℕ
verb_word verbs.Send = codes "send"
verb_word verbs.Receive = codes "receive"
verb_word verbs.Resume = codes "resume"
verb_word verbs.Reopen = codes "reopen"

-- words begin with this one
abbrev pub BeginWith : List ℕ → List (List ℕ) → Type 0
BeginWith word [] = ⊥
BeginWith word (first ∷ rest) = first ≡ word

-- words that have a verb are left without the id that stands behind it, or there stands no id
abbrev pub TakesId : List (List ℕ) → List (List ℕ) → Option ℕ → Type 0
TakesId old new None = (verb : List ℕ) (id : ℕ) (rest : List (List ℕ)) → IsId id → old ≢ verb ∷ decimal id ∷ rest
TakesId old new (Some id) = (verb : List ℕ) × (rest : List (List ℕ)) × (IsId id × (old ≡ verb ∷ decimal id ∷ rest) × (new ≡ verb ∷ rest))

-- words with an image before the last of those behind the first one
abbrev pub behind_options : List ℕ → List (List ℕ) → List (List ℕ)
behind_options image [] = []
behind_options image (first ∷ rest) = first ∷ before_last image rest

-- the line that words are, or that they are none
abbrev pub LineOf : List (List ℕ) → Option Line → Type 0
LineOf words None = (line : Line) → ¬ (AreLine line words)
LineOf words (Some line) = AreLine line words

-- the dataset whose token a line asks for
abbrev pub token_dataset_of : Line → Option (List ℕ)
token_dataset_of (lines.Token image dataset) = Some dataset
token_dataset_of line = None

-- the event of a line on a pool, with the image put in and, where it has a session's id, without that
abbrev pub event_of_command_line : Side → Line → Option Event
event_of_command_line side (lines.Step image command) = Some (events.Step side command)
event_of_command_line side (lines.Token image dataset) = Some (events.Token side dataset)
event_of_command_line side (lines.Check image) = Some (events.Check side)
event_of_command_line side line = None

abbrev pub event_of_send_line : Side → ℕ → Line → Option Event
event_of_send_line side id (lines.Send image from redacts snapshot) = Some (events.Send side id (ask_of from redacts snapshot))
event_of_send_line side id line = None

abbrev pub event_of_receive_line : Side → ℕ → Line → Option Event
event_of_receive_line side id (lines.Receive image keeps forces origin target) = Some (events.Receive side id (receipt_of keeps forces origin target))
event_of_receive_line side id line = None
