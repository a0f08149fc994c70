-- The form of an event, which the first two words of its line tell.
use Rattle.std.proofs.Common.{◌≡◌, ◌≢◌, ℕ, true, false, if◌then◌else◌, bytes_eq, List, ◌∷◌, [], codes, decimal, refl, sym, ap, ◌∙◌}
use Rattle.std.proofs.lemmas.Slice.Eq.{bytes_eq-Decides}
use Rattle.zst_line.specs.Grammar.{word_at}
use Rattle.zst_line.specs.Line.{Says}
use Rattle.zst_model.specs.declared.pools.command.Command.{Command}
use Rattle.zst_model.specs.declared.pools.command.Command.TheVariants as commands
use Rattle.zst_script.specs.EventWords.{BeginWith, verb_word}
use Rattle.zst_script.specs.Lines.{EventIs, with_image, word_for}
use Rattle.zst_script.specs.declared.event.Event.{Event}
use Rattle.zst_script.specs.declared.event.Event.TheVariants as events
use Rattle.zst_script.specs.declared.event.Side.{Side}
use Rattle.zst_script.specs.declared.event.Side.TheVariants.{Here, There}
use Rattle.zst_script.specs.declared.words.Verb.{Verb}
use Rattle.zst_script.specs.declared.words.Verb.TheVariants as verbs
use Rattle.zst_script.proofs.ImagePlaces.{first_kept}

pub data Form : Type 0 where
  Commands : Form
  Sends : Form
  Receives : Form
  Resumes : Form
  Reopens : Form
  Pumps : Form
  Drops : Form
  Closes : Form
  Cuts : Form
  NoForm : Form

-- the form that an event has
abbrev pub form_of : Event → Form
form_of (events.Step side command) = Commands
form_of (events.Token side dataset) = Commands
form_of (events.Check side) = Commands
form_of (events.Send side id ask) = Sends
form_of (events.Resume side id dataset) = Resumes
form_of (events.Receive side id ask) = Receives
form_of (events.Pump sends receives count) = Pumps
form_of (events.Drop sends count) = Drops
form_of (events.Close sends) = Closes
form_of (events.Cut receives) = Cuts
form_of (events.Reopen side) = Reopens

-- the form that the word behind that for a pool tells
abbrev pub pool_form : List ℕ → Form
pool_form verb =
    if bytes_eq verb (codes "send") then Sends
    else (if bytes_eq verb (codes "receive") then Receives
    else (if bytes_eq verb (codes "resume") then Resumes
    else (if bytes_eq verb (codes "reopen") then Reopens
    else Commands)))

-- the form that words tell
abbrev pub form_named : List (List ℕ) → Form
form_named words =
    if bytes_eq (word_at words 0) (codes "pump") then Pumps
    else (if bytes_eq (word_at words 0) (codes "drop") then Drops
    else (if bytes_eq (word_at words 0) (codes "close") then Closes
    else (if bytes_eq (word_at words 0) (codes "cut") then Cuts
    else (if bytes_eq (word_at words 0) (codes "here") then pool_form (word_at words 1)
    else (if bytes_eq (word_at words 0) (codes "there") then pool_form (word_at words 1)
    else NoForm)))))

-- words on a pool tell the form that the first of them behind the word for it does
pub on_pool : (side : Side) (rest : List (List ℕ)) → form_named (word_for side ∷ rest) ≡ pool_form (word_at rest 0)
on_pool Here rest = refl
on_pool There rest = refl

-- the first word of a command's line is no verb
command_form : (command : Command) (image : List ℕ) (words : List (List ℕ)) → Says command image words → pool_form (word_at words 0) ≡ Commands
command_form (commands.Fs dataset) image words says = ap (λ (w : List (List ℕ)). pool_form (word_at w 0)) says
command_form (commands.Volume dataset) image words says = ap (λ (w : List (List ℕ)). pool_form (word_at w 0)) says
command_form (commands.Object dataset k head bonus spill) image words says = ap (λ (w : List (List ℕ)). pool_form (word_at w 0)) says.4
command_form (commands.Write dataset k i bytes) image words says = ap (λ (w : List (List ℕ)). pool_form (word_at w 0)) says.1.1
command_form (commands.Punch dataset k first count) image words says = ap (λ (w : List (List ℕ)). pool_form (word_at w 0)) says
command_form (commands.Free dataset first count) image words says = ap (λ (w : List (List ℕ)). pool_form (word_at w 0)) says
command_form (commands.Snapshot name) image words says = ap (λ (w : List (List ℕ)). pool_form (word_at w 0)) says
command_form (commands.Clone origin dataset) image words says = ap (λ (w : List (List ℕ)). pool_form (word_at w 0)) says
command_form (commands.Bookmark snapshot bookmark) image words says = ap (λ (w : List (List ℕ)). pool_form (word_at w 0)) says
command_form (commands.Redact snapshot bookmark redactions) image words says = ap (λ (w : List (List ℕ)). pool_form (word_at w 0)) says
command_form (commands.Rollback destroys snapshot) image words says = ap (λ (w : List (List ℕ)). pool_form (word_at w 0)) says.0.1
command_form (commands.Destroy name) image words says = ap (λ (w : List (List ℕ)). pool_form (word_at w 0)) says.1.1
command_form (commands.Abort dataset) image words says = ap (λ (w : List (List ℕ)). pool_form (word_at w 0)) says
command_form commands.Reclaim image words says = ap (λ (w : List (List ℕ)). pool_form (word_at w 0)) says
command_form (commands.Read name k i) image words says = ap (λ (w : List (List ℕ)). pool_form (word_at w 0)) says.1.1
command_form commands.List image words says = ap (λ (w : List (List ℕ)). pool_form (word_at w 0)) says
command_form (commands.ListObjects name) image words says = ap (λ (w : List (List ℕ)). pool_form (word_at w 0)) says.1.1

-- words that are an event tell its form
pub form_is : (event : Event) (words : List (List ℕ)) → EventIs event words → form_named words ≡ form_of event
form_is (events.Step side command) words is =
    ap form_named is.1.0 ∙ on_pool side is.0 ∙ ap pool_form (sym (first_kept (word_for side) is.0)) ∙ command_form command (word_for side) (with_image (word_for side) is.0) is.1.1.1.0
form_is (events.Token side dataset) words is =
    ap form_named is.1.0 ∙ on_pool side is.0 ∙ ap pool_form (sym (first_kept (word_for side) is.0)) ∙ ap (λ (w : List (List ℕ)). pool_form (word_at w 0)) is.1.1.1
form_is (events.Check side) words is =
    ap form_named is.1.0 ∙ on_pool side is.0 ∙ ap pool_form (sym (first_kept (word_for side) is.0)) ∙ ap (λ (w : List (List ℕ)). pool_form (word_at w 0)) is.1.1.1
form_is (events.Send side id ask) words is = ap form_named is.2.2 ∙ on_pool side (codes "send" ∷ decimal id ∷ is.0)
form_is (events.Resume side id dataset) words is = ap form_named is.0 ∙ on_pool side (codes "resume" ∷ decimal id ∷ dataset ∷ [])
form_is (events.Receive side id ask) words is = ap form_named is.2.2 ∙ on_pool side (codes "receive" ∷ decimal id ∷ is.0)
form_is (events.Pump sends receives count) words is = ap form_named is.0
form_is (events.Drop sends count) words is = ap form_named is.0
form_is (events.Close sends) words is = ap form_named is.0
form_is (events.Cut receives) words is = ap form_named is.0
form_is (events.Reopen side) words is = ap form_named is ∙ on_pool side (codes "reopen" ∷ [])

-- ---- which form words have

-- words on a pool that begin with a verb have its form
pub verb_form : (verb : Verb) (form : Form) (side : Side) (words : List (List ℕ)) → pool_form (verb_word verb) ≡ form → BeginWith (verb_word verb) words → form_named (word_for side ∷ words) ≡ form
verb_form verb form side [] is begin = absurd begin
verb_form verb form side (word ∷ words) is begin = on_pool side (word ∷ words) ∙ ap pool_form begin ∙ is

other_word : (word other : List ℕ) → word ≢ other → bytes_eq word other ≡ false
other_word word other ne = elim (bytes_eq word other) as (λ t. (t ≡ true → word ≡ other) → t ≡ false) [ true ↦ (λ same. absurd (ne (same refl))) | false ↦ (λ same. refl) ] (bytes_eq-Decides word other).0

-- and those that begin with none are commands
pub no_verb_form : (side : Side) (words : List (List ℕ)) → ((verb : Verb) → BeginWith (verb_word verb) words → ⊥) → form_named (word_for side ∷ words) ≡ Commands
no_verb_form side [] none = on_pool side []
no_verb_form side (word ∷ words) none =
    on_pool side (word ∷ words)
    ∙ rw (other_word word (codes "send") (none verbs.Send), other_word word (codes "receive") (none verbs.Receive), other_word word (codes "resume") (none verbs.Resume), other_word word (codes "reopen") (none verbs.Reopen)) refl
