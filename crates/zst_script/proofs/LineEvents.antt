-- The events of lines that are read as command lines are.
use Rattle.std.proofs.Common.{◌≡◌, ◌≢◌, ℕ, Option, Some, None, Ok, Err, List, ◌∷◌, drop, codes, decimal, refl, sym, ap, ◌∙◌, subst}
use Rattle.zst_line.specs.declared.line.Line.{Line}
use Rattle.zst_line.specs.declared.line.Line.TheVariants as lines
use Rattle.zst_line.specs.declared.line.LineFault.{LineFault}
use Rattle.zst_line.specs.declared.line.LineFault.TheVariants as faults
use Rattle.zst_line.specs.Grammar.{word_at}
use Rattle.zst_line.specs.Line.{LineAnswers}
use Rattle.zst_line.proofs.OneAnswer.{one_answer}
use Rattle.zst_line.proofs.SameLine.{same_line}
use Rattle.zst_script.specs.Asks.{ask_of, receipt_of}
use Rattle.zst_script.specs.EventWords.{BeginWith, TakesId, WordsSay, behind_options, event_of_command_line, event_of_receive_line, event_of_send_line, verb_word}
use Rattle.zst_script.specs.Lines.{AreLine, EventIs, IsId, before_last, with_image, word_for}
use Rattle.zst_script.specs.declared.event.Event.{Event}
use Rattle.zst_script.specs.declared.event.Event.TheVariants as events
use Rattle.zst_script.specs.declared.event.Side.{Side}
use Rattle.zst_script.specs.declared.words.Verb.{Verb}
use Rattle.zst_script.specs.declared.words.Verb.TheVariants as verbs
use Rattle.zst_script.proofs.EventForms.{Commands, Receives, Sends, form_is, form_of, no_verb_form, on_pool, verb_form}
use Rattle.zst_script.proofs.ImagePlaces.{check_image, last_but_one, step_image, token_image}

-- words that have a fault are no line
pub no_line : (words : List (List ℕ)) (fault : LineFault) → LineAnswers words (Err fault) → fault ≢ faults.Memory → (line : Line) → AreLine line words → ⊥
no_line words fault answers other line are =
    let same = one_answer words (Ok line) (Err fault) are answers (λ e. cc) (λ e. other (cc e)) in
    absurd (cc same)

-- The words of an event are read as these words of a line are: the line says which event it is, and each event that the words are comes of a line.
pub record AreRead (words said : List (List ℕ)) (event_of : Line → Option Event) : Type 0 where
  pub sound : (line : Line) (event : Event) → AreLine line said → event_of line ≡ Some event → EventIs event words
  pub complete : (event : Event) → EventIs event words → (line : Line) × (AreLine line said × (event_of line ≢ None))

pub answered : (words said : List (List ℕ)) (event_of : Line → Option Event) (line : Line) (event : Option Event) → AreRead words said event_of → AreLine line said → event ≡ event_of line → WordsSay words event
answered words said event_of line (Some event) read are is = read.sound line event are (sym is)
answered words said event_of line None read are is = λ event says.
    let other = read.complete event says in
    let same : line ≡ other.0 = same_line line other.0 said are.1 other.1.0.1 in
    other.1.1 (sym (is ∙ ap event_of same))

pub unanswered : (words said : List (List ℕ)) (event_of : Line → Option Event) → AreRead words said event_of → ((line : Line) → AreLine line said → ⊥) → (event : Event) → EventIs event words → ⊥
unanswered words said event_of read none event says = let other = read.complete event says in none other.0 other.1.0

-- the first of words, and those behind it
abbrev first : List (List ℕ) → List ℕ
first words = word_at words 0

abbrev behind : List (List ℕ) → List (List ℕ)
behind words = drop 1 words

-- ---- commands

command_says : (side : Side) (rest : List (List ℕ)) (line : Line) (event : Event) → AreLine line (with_image (word_for side) rest) → event_of_command_line side line ≡ Some event → EventIs event (word_for side ∷ rest)
command_says side rest (lines.Step image command) event are e =
    let same : image ≡ word_for side = step_image (word_for side) image command rest are.1.0 in
    let is : events.Step side command ≡ event = cc e in
    subst (λ (said : Event). EventIs said (word_for side ∷ rest)) is (rest, (refl, subst (λ (i : List ℕ). AreLine (lines.Step i command) (with_image (word_for side) rest)) same are))
command_says side rest (lines.Token image dataset) event are e =
    let same : image ≡ word_for side = token_image (word_for side) image dataset rest are.1 in
    let is : events.Token side dataset ≡ event = cc e in
    subst (λ (said : Event). EventIs said (word_for side ∷ rest)) is (rest, (refl, subst (λ (i : List ℕ). AreLine (lines.Token i dataset) (with_image (word_for side) rest)) same are))
command_says side rest (lines.Check image) event are e =
    let same : image ≡ word_for side = check_image (word_for side) image rest are.1 in
    let is : events.Check side ≡ event = cc e in
    subst (λ (said : Event). EventIs said (word_for side ∷ rest)) is (rest, (refl, subst (λ (i : List ℕ). AreLine (lines.Check i) (with_image (word_for side) rest)) same are))
command_says side rest line event are e = cc e

command_comes : (side : Side) (rest : List (List ℕ)) → ((verb : Verb) → BeginWith (verb_word verb) rest → ⊥) → (event : Event) → EventIs event (word_for side ∷ rest)
    → (line : Line) × (AreLine line (with_image (word_for side) rest) × (event_of_command_line side line ≢ None))
command_comes side rest verbs (events.Step other command) is =
    let word : word_for other ≡ word_for side = sym (ap first is.1.0) in
    let words : is.0 ≡ rest = sym (ap behind is.1.0) in (
      lines.Step (word_for side) command,
      (
        subst (λ (i : List ℕ). AreLine (lines.Step i command) (with_image i rest)) word (subst (λ (r : List (List ℕ)). AreLine (lines.Step (word_for other) command) (with_image (word_for other) r)) words is.1.1),
        λ e. cc e,
      ),
    )
command_comes side rest verbs (events.Token other dataset) is =
    let word : word_for other ≡ word_for side = sym (ap first is.1.0) in
    let words : is.0 ≡ rest = sym (ap behind is.1.0) in (
      lines.Token (word_for side) dataset,
      (
        subst (λ (i : List ℕ). AreLine (lines.Token i dataset) (with_image i rest)) word (subst (λ (r : List (List ℕ)). AreLine (lines.Token (word_for other) dataset) (with_image (word_for other) r)) words is.1.1),
        λ e. cc e,
      ),
    )
command_comes side rest verbs (events.Check other) is =
    let word : word_for other ≡ word_for side = sym (ap first is.1.0) in
    let words : is.0 ≡ rest = sym (ap behind is.1.0) in (
      lines.Check (word_for side),
      (
        subst (λ (i : List ℕ). AreLine (lines.Check i) (with_image i rest)) word (subst (λ (r : List (List ℕ)). AreLine (lines.Check (word_for other)) (with_image (word_for other) r)) words is.1.1),
        λ e. cc e,
      ),
    )
command_comes side rest verbs event is =
    let form : Commands ≡ form_of event = sym (no_verb_form side rest verbs) ∙ form_is event (word_for side ∷ rest) is in
    absurd (cc form)

pub commands_are_read : (side : Side) (rest : List (List ℕ)) → ((verb : Verb) → BeginWith (verb_word verb) rest → ⊥) → AreRead (word_for side ∷ rest) (with_image (word_for side) rest) (event_of_command_line side)
commands_are_read side rest verbs = record { sound = command_says side rest; complete = command_comes side rest verbs }

-- ---- sends

send_says : (side : Side) (id : ℕ) (rest : List (List ℕ)) → IsId id → (line : Line) (event : Event) → AreLine line (codes "send" ∷ before_last (word_for side) rest) → event_of_send_line side id line ≡ Some event
    → EventIs event (word_for side ∷ codes "send" ∷ decimal id ∷ rest)
send_says side id rest fits (lines.Send image from redacts snapshot) event are e =
    let same : image ≡ word_for side = last_but_one (word_for side) image snapshot rest are.1.0.0 (ap behind are.1.0.1) in
    let is : events.Send side id (ask_of from redacts snapshot) ≡ event = cc e in
    subst (λ (said : Event). EventIs said (word_for side ∷ codes "send" ∷ decimal id ∷ rest)) is
    (rest, from, (refl, fits, refl, subst (λ (i : List ℕ). AreLine (lines.Send i from redacts snapshot) (codes "send" ∷ before_last (word_for side) rest)) same are))
send_says side id rest fits line event are e = cc e

send_comes : (side : Side) (id : ℕ) (rest : List (List ℕ)) (event : Event) → EventIs event (word_for side ∷ codes "send" ∷ decimal id ∷ rest)
    → (line : Line) × (AreLine line (codes "send" ∷ before_last (word_for side) rest) × (event_of_send_line side id line ≢ None))
send_comes side id rest (events.Send other number ask) is =
    let word : word_for other ≡ word_for side = sym (ap first is.2.2) in
    let words : is.0 ≡ rest = sym (ap (λ (w : List (List ℕ)). drop 3 w) is.2.2) in (
      lines.Send (word_for side) is.1 ask.redact ask.snap,
      (
        subst (λ (i : List ℕ). AreLine (lines.Send i is.1 ask.redact ask.snap) (codes "send" ∷ before_last i rest)) word
            (subst (λ (r : List (List ℕ)). AreLine (lines.Send (word_for other) is.1 ask.redact ask.snap) (codes "send" ∷ before_last (word_for other) r)) words is.2.3),
        λ e. cc e,
      ),
    )
send_comes side id rest event is =
    let form : Sends ≡ form_of event = sym (on_pool side (codes "send" ∷ decimal id ∷ rest)) ∙ form_is event (word_for side ∷ codes "send" ∷ decimal id ∷ rest) is in
    absurd (cc form)

pub sends_are_read : (side : Side) (id : ℕ) (rest : List (List ℕ)) → IsId id → AreRead (word_for side ∷ codes "send" ∷ decimal id ∷ rest) (codes "send" ∷ before_last (word_for side) rest) (event_of_send_line side id)
sends_are_read side id rest fits = record { sound = send_says side id rest fits; complete = send_comes side id rest }

-- a send that has no id is none
pub send_without_id : (side : Side) (words left : List (List ℕ)) → BeginWith (codes "send") words → TakesId words left None → (event : Event) → EventIs event (word_for side ∷ words) → ⊥
send_without_id side words left begin none (events.Send other id ask) is = none (codes "send") id is.0 is.2.1 (ap behind is.2.2)
send_without_id side words left begin none event is =
    let form : Sends ≡ form_of event = sym (verb_form verbs.Send Sends side words refl begin) ∙ form_is event (word_for side ∷ words) is in
    absurd (cc form)

-- ---- receives

receive_says : (side : Side) (id : ℕ) (rest : List (List ℕ)) → IsId id → (line : Line) (event : Event) → AreLine line (codes "receive" ∷ before_last (word_for side) rest) → event_of_receive_line side id line ≡ Some event
    → EventIs event (word_for side ∷ codes "receive" ∷ decimal id ∷ rest)
receive_says side id rest fits (lines.Receive image keeps forces origin target) event are e =
    let same : image ≡ word_for side = last_but_one (word_for side) image are.1.0 rest are.1.2.0 (ap behind are.1.2.1) in
    let is : events.Receive side id (receipt_of keeps forces origin target) ≡ event = cc e in
    subst (λ (said : Event). EventIs said (word_for side ∷ codes "receive" ∷ decimal id ∷ rest)) is
    (rest, target, (refl, fits, refl, subst (λ (i : List ℕ). AreLine (lines.Receive i keeps forces origin target) (codes "receive" ∷ before_last (word_for side) rest)) same are))
receive_says side id rest fits line event are e = cc e

receive_comes : (side : Side) (id : ℕ) (rest : List (List ℕ)) (event : Event) → EventIs event (word_for side ∷ codes "receive" ∷ decimal id ∷ rest)
    → (line : Line) × (AreLine line (codes "receive" ∷ before_last (word_for side) rest) × (event_of_receive_line side id line ≢ None))
receive_comes side id rest (events.Receive other number ask) is =
    let word : word_for other ≡ word_for side = sym (ap first is.2.2) in
    let words : is.0 ≡ rest = sym (ap (λ (w : List (List ℕ)). drop 3 w) is.2.2) in (
      lines.Receive (word_for side) ask.keep ask.force ask.origin is.1,
      (
        subst (λ (i : List ℕ). AreLine (lines.Receive i ask.keep ask.force ask.origin is.1) (codes "receive" ∷ before_last i rest)) word
            (subst (λ (r : List (List ℕ)). AreLine (lines.Receive (word_for other) ask.keep ask.force ask.origin is.1) (codes "receive" ∷ before_last (word_for other) r)) words is.2.3),
        λ e. cc e,
      ),
    )
receive_comes side id rest event is =
    let form : Receives ≡ form_of event = sym (on_pool side (codes "receive" ∷ decimal id ∷ rest)) ∙ form_is event (word_for side ∷ codes "receive" ∷ decimal id ∷ rest) is in
    absurd (cc form)

pub receives_are_read : (side : Side) (id : ℕ) (rest : List (List ℕ)) → IsId id
    → AreRead (word_for side ∷ codes "receive" ∷ decimal id ∷ rest) (codes "receive" ∷ before_last (word_for side) rest) (event_of_receive_line side id)
receives_are_read side id rest fits = record { sound = receive_says side id rest fits; complete = receive_comes side id rest }

-- a receive that has no id is none
pub receive_without_id : (side : Side) (words left : List (List ℕ)) → BeginWith (codes "receive") words → TakesId words left None → (event : Event) → EventIs event (word_for side ∷ words) → ⊥
receive_without_id side words left begin none (events.Receive other id ask) is = none (codes "receive") id is.0 is.2.1 (ap behind is.2.2)
receive_without_id side words left begin none event is =
    let form : Receives ≡ form_of event = sym (verb_form verbs.Receive Receives side words refl begin) ∙ form_is event (word_for side ∷ words) is in
    absurd (cc form)

-- ---- from the words that were read

-- a line that has a verb and an id, and is read without the id and with the image put in
pub read_with_id : (side : Side) (verb : List ℕ) (words left put : List (List ℕ)) (image : List ℕ) (id : ℕ) (event_of : Line → Option Event)
    → ((rest : List (List ℕ)) → IsId id → AreRead (word_for side ∷ verb ∷ decimal id ∷ rest) (verb ∷ before_last (word_for side) rest) event_of)
    → image ≡ word_for side → BeginWith verb words → TakesId words left (Some id) → put ≡ behind_options image left → AreRead (word_for side ∷ words) put event_of
read_with_id side verb words left put image id event_of read same begin (first_word, rest, (fits, old, new)) put_is =
    let verb_is : first_word ≡ verb = subst (BeginWith verb) old begin in
    let words_are : word_for side ∷ verb ∷ decimal id ∷ rest ≡ word_for side ∷ words = sym (ap (λ (w : List (List ℕ)). word_for side ∷ w) (old ∙ ap (λ (v : List ℕ). v ∷ decimal id ∷ rest) verb_is)) in
    let put_so : verb ∷ before_last (word_for side) rest ≡ put =
    sym (put_is ∙ ap (behind_options image) (new ∙ ap (λ (v : List ℕ). v ∷ rest) verb_is) ∙ ap (λ (i : List ℕ). verb ∷ before_last i rest) same)
    in
    subst (λ (w : List (List ℕ)). AreRead w put event_of) words_are (subst (λ (p : List (List ℕ)). AreRead (word_for side ∷ verb ∷ decimal id ∷ rest) p event_of) put_so (read rest fits))

-- a command's line
pub read_command : (side : Side) (words put : List (List ℕ)) (image : List ℕ) → image ≡ word_for side → ((verb : Verb) → BeginWith (verb_word verb) words → ⊥) → put ≡ with_image image words
    → AreRead (word_for side ∷ words) put (event_of_command_line side)
read_command side words put image same verbs put_is =
    let put_so : with_image (word_for side) words ≡ put = sym (put_is ∙ ap (λ (i : List ℕ). with_image i words) same) in
    subst (λ (p : List (List ℕ)). AreRead (word_for side ∷ words) p (event_of_command_line side)) put_so (commands_are_read side words verbs)
