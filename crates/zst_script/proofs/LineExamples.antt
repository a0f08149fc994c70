-- What lines that are written out say.
use lib.Utf8.{encode}
use Rattle.std.proofs.Common.{◌≡◌, ◌≤◌, ℕ, true, false, bytes_eq, None, Err, List, [], ◌∷◌, length, drop, codes, decimal, refl, sym, ap, ◌∙◌, inr, arith}
use Rattle.std.proofs.lemmas.Bool.{false≢true}
use Rattle.std.proofs.lemmas.Fmt.{decimal_injective}
use Rattle.std.proofs.lemmas.List.Elements.{All-cons, All-nil}
use Rattle.std.proofs.lemmas.Slice.Eq.{bytes_eq-Decides}
use Rattle.std.proofs.lemmas.Str.{IsUtf8-from_is_utf8}
use Rattle.std.specs.Fmt.{digits}
use Rattle.std.specs.Str.{chars, is_utf8}
use Rattle.zst_line.specs.Grammar.{word_at, word_of}
use Rattle.zst_line.specs.Line.{LineAnswers}
use Rattle.zst_line.specs.Words.{IsText}
use Rattle.zst_line.specs.declared.kind.Kind.{Kind}
use Rattle.zst_line.specs.declared.kind.Kind.TheVariants as kinds
use Rattle.zst_line.specs.declared.line.Line.TheVariants as lines
use Rattle.zst_line.specs.declared.line.LineFault.TheVariants as faults
use Rattle.zst_model.specs.declared.pools.command.Command.TheVariants as commands
use Rattle.zst_model.specs.declared.refusals.subjects.Name.TheVariants as names
use Rattle.zst_names.specs.Names.{IsComponent, IsDataset, IsSnapshot, is_component_byte}
use Rattle.zst_script.specs.EventWords.{BeginWith, event_of_command_line, verb_word}
use Rattle.zst_script.specs.Examples.{ImagesStand, LinesAreRefused, PoolsAreSaid, SessionsAreSaid}
use Rattle.zst_script.specs.Lines.{AreLine, EventIs, LineSays, before_last, longest_line, word_for, words_of}
use Rattle.zst_script.specs.declared.event.Event.{Event}
use Rattle.zst_script.specs.declared.event.Event.TheVariants as events
use Rattle.zst_script.specs.declared.event.Side.TheVariants.{Here}
use Rattle.zst_script.specs.declared.words.Verb.{Verb}
use Rattle.zst_script.specs.declared.words.Verb.TheVariants as verbs
use Rattle.zst_script.proofs.EventForms.{Pumps, Sends, form_is, form_of}
use Rattle.zst_script.proofs.LineEvents.{commands_are_read, no_line, unanswered}

-- a short text that is an event says it
said : (event : Event) (line : List ℕ) → length line ≤ 64 → is_utf8 line ≡ true → EventIs event (words_of line) → LineSays event line
unfolding longest_line
said event line short text is = record { short = omega arith; text = IsUtf8-from_is_utf8 line text; says = is }

-- ---- sessions that are open

pub sessions_said : SessionsAreSaid
unfolding digits chars is_utf8 encode
sessions_said = (
  said _ _ (omega arith) refl (refl, omega arith, omega arith, (omega arith, omega arith)),
  said _ _ (omega arith) refl (refl, omega arith, (omega arith, omega arith)),
  said _ _ (omega arith) refl (refl, omega arith),
  said _ _ (omega arith) refl (refl, omega arith),
  said _ _ (omega arith) refl refl,
  said _ _ (omega arith) refl refl,
)

pub images_stand : ImagesStand
images_stand = (refl, refl, refl, refl)

-- ---- lines of pools

tank_component : IsComponent (codes "tank")
unfolding is_component_byte
tank_component = record { some = omega arith; short = omega arith; bytes = refl; first = λ e. cc e }

s_component : IsComponent (codes "s")
unfolding is_component_byte
s_component = record { some = omega arith; short = omega arith; bytes = refl; first = λ e. cc e }

tank : IsDataset (codes "tank")
tank = record { components = All-cons IsComponent (codes "tank") [] tank_component (All-nil IsComponent); few = omega arith; short = omega arith }

tank_s : IsSnapshot (codes "tank@s")
tank_s = (tank, s_component)

here : IsText (codes "here")
here = (omega arith, λ e. cc e)

there : IsText (codes "there")
there = (omega arith, λ e. cc e)

list_line : AreLine (lines.Step (codes "here") commands.List) (codes "list" ∷ codes "here" ∷ [])
list_line = (record { kind = kinds.List; rest = codes "here" ∷ []; spelled = refl; fact = ((here, tt), tt) }, (refl, tt, tt))

reclaim_line : AreLine (lines.Step (codes "here") commands.Reclaim) (codes "reclaim" ∷ codes "here" ∷ [])
reclaim_line = (record { kind = kinds.Reclaim; rest = codes "here" ∷ []; spelled = refl; fact = ((here, tt), tt) }, (refl, tt, tt))

token_line : AreLine (lines.Token (codes "there") (codes "tank")) (codes "token" ∷ codes "there" ∷ codes "tank" ∷ [])
token_line = (record { kind = kinds.Token; rest = codes "there" ∷ codes "tank" ∷ []; spelled = refl; fact = ((there, tt), ((((λ e. cc e), refl), tank), tt)) }, refl)

check_line : AreLine (lines.Check (codes "here")) (codes "check" ∷ codes "here" ∷ [])
check_line = (record { kind = kinds.Check; rest = codes "here" ∷ []; spelled = refl; fact = ((here, tt), tt) }, refl)

send_line : AreLine (lines.Send (codes "there") None None (codes "tank@s")) (codes "send" ∷ codes "there" ∷ codes "tank@s" ∷ [])
send_line = (
  record { kind = kinds.Send; rest = codes "there" ∷ codes "tank@s" ∷ []; spelled = refl; fact = ((there, tt), ((((λ e. cc e), refl), tank_s), tt)) },
  (([], refl), (λ e. cc e), refl, refl),
)

receive_line : AreLine (lines.Receive (codes "here") true false None (names.Dataset (codes "tank"))) (codes "receive" ∷ codes "-s" ∷ codes "here" ∷ codes "tank" ∷ [])
receive_line = (
  record { kind = kinds.Receive; rest = codes "-s" ∷ codes "here" ∷ codes "tank" ∷ []; spelled = refl; fact = ((tt, tt), ((here, tt), ((((λ e. cc e), refl), tank), tt))) },
  (codes "tank", refl, (codes "-s" ∷ [], refl), refl, refl, refl),
)

pub pools_said : PoolsAreSaid
unfolding digits chars is_utf8 encode
pools_said = (
  said _ _ (omega arith) refl (codes "list" ∷ [], (refl, list_line)),
  said _ _ (omega arith) refl (codes "reclaim" ∷ [], (refl, reclaim_line)),
  said _ _ (omega arith) refl (codes "token" ∷ codes "tank" ∷ [], (refl, token_line)),
  said _ _ (omega arith) refl (codes "check" ∷ [], (refl, check_line)),
  said _ _ (omega arith) refl (refl, omega arith, tank),
  said _ _ (omega arith) refl (codes "tank@s" ∷ [], None, (refl, omega arith, refl, send_line)),
  said _ _ (omega arith) refl (codes "-s" ∷ codes "tank" ∷ [], names.Dataset (codes "tank"), (refl, omega arith, refl, receive_line)),
)

-- ---- lines that say none

-- nothing is to be taken
taken_none : (event : Event) → EventIs event (codes "pump" ∷ codes "1" ∷ codes "2" ∷ codes "0" ∷ []) → ⊥
unfolding digits
taken_none (events.Pump sends receives count) is =
    let some = is.3.0 in
    let few = is.3.1 in
    let zero : decimal 0 ≡ decimal count = ap (λ (words : List (List ℕ)). word_at words 3) is.0 in
    let same : 0 ≡ count = decimal_injective 0 count (omega arith) (omega arith) zero in
    omega arith
taken_none event is = let form : Pumps ≡ form_of event = form_is event (codes "pump" ∷ codes "1" ∷ codes "2" ∷ codes "0" ∷ []) is in absurd (cc form)

-- the first word of a line isn't empty
named : (kind : Kind) → word_of kind ≡ [] → ⊥
named kinds.Dump e = cc e
named kind e = cc e

-- words that differ are not one
clash : (word other : List ℕ) → bytes_eq word other ≡ false → word ≡ other → ⊥
clash word other differs same = false≢true (sym differs ∙ (bytes_eq-Decides word other).1 same)

no_word : (verb : Verb) → BeginWith (verb_word verb) ([] ∷ codes "list" ∷ []) → ⊥
no_word verbs.Send begin = clash [] (codes "send") refl begin
no_word verbs.Receive begin = clash [] (codes "receive") refl begin
no_word verbs.Resume begin = clash [] (codes "resume") refl begin
no_word verbs.Reopen begin = clash [] (codes "reopen") refl begin

empty_word : (event : Event) → EventIs event (codes "here" ∷ [] ∷ codes "list" ∷ []) → ⊥
empty_word =
    unanswered (codes "here" ∷ [] ∷ codes "list" ∷ []) ([] ∷ codes "here" ∷ codes "list" ∷ []) (event_of_command_line Here) (commands_are_read Here ([] ∷ codes "list" ∷ []) no_word)
    (λ line are. named are.0.kind (sym (ap (λ (words : List (List ℕ)). word_at words 0) are.0.spelled)))

-- `dump` opens no session, and no pool again
no_verb : (verb : Verb) → BeginWith (verb_word verb) (codes "dump" ∷ []) → ⊥
no_verb verbs.Send begin = clash (codes "dump") (codes "send") refl begin
no_verb verbs.Receive begin = clash (codes "dump") (codes "receive") refl begin
no_verb verbs.Resume begin = clash (codes "dump") (codes "resume") refl begin
no_verb verbs.Reopen begin = clash (codes "dump") (codes "reopen") refl begin

-- and is of no pool: the image that is put in is a word too many
image_too_many : LineAnswers (codes "dump" ∷ codes "here" ∷ []) (Err (faults.Usage 1))
image_too_many = inr (record { kind = kinds.Dump; rest = codes "here" ∷ []; spelled = refl; fact = refl })

other_command : (event : Event) → EventIs event (codes "here" ∷ codes "dump" ∷ []) → ⊥
other_command =
    unanswered (codes "here" ∷ codes "dump" ∷ []) (codes "dump" ∷ codes "here" ∷ []) (event_of_command_line Here) (commands_are_read Here (codes "dump" ∷ []) no_verb)
    (no_line (codes "dump" ∷ codes "here" ∷ []) (faults.Usage 1) image_too_many (λ e. cc e))

-- a send that goes on from a token has its token of the other pool
own_token : (event : Event) → EventIs event (codes "here" ∷ codes "send" ∷ codes "1" ∷ codes "-t" ∷ codes "00" ∷ []) → ⊥
own_token (events.Send side id ask) is =
    let rest : is.0 ≡ codes "-t" ∷ codes "00" ∷ [] = sym (ap (λ (words : List (List ℕ)). drop 3 words) is.2.2) in
    is.2.3.1.1 (ap (λ (r : List (List ℕ)). word_at (codes "send" ∷ before_last (word_for side) r) 1) rest)
own_token event is = let form : Sends ≡ form_of event = form_is event (codes "here" ∷ codes "send" ∷ codes "1" ∷ codes "-t" ∷ codes "00" ∷ []) is in absurd (cc form)

pub lines_refused : LinesAreRefused
lines_refused = ((λ event says. taken_none event says.says), (λ event says. empty_word event says.says), (λ event says. other_command event says.says), λ event says. own_token event says.says)
