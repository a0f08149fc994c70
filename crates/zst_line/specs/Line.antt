-- What a command line says.
use Rattle.std.specs.Prelude.{◌≡◌, ◌≢◌, ℕ, ◌-◌, ◌^◌, ◌<◌, ◌≤◌, if◌then◌else◌, bytes_eq, List, [], ◌∷◌, ◌++◌, length, replicate, Option, None, Some, IfSome, option_map, Result, Ok, Err, codes, decimal}
use Rattle.hex.specs.Hex.{decode_of}
use Rattle.zst_model.specs.declared.pools.command.Command.{Command}
use Rattle.zst_model.specs.declared.pools.command.Command.TheVariants as commands
use Rattle.zst_model.specs.declared.refusals.subjects.Name.{Name}
use Rattle.zst_model.specs.declared.refusals.subjects.Name.TheVariants as names
use Rattle.zst_model.specs.declared.refusals.plan_fault.PlanFault.TheVariants as plans
use Rattle.zst_model.specs.declared.refusals.refusal.Refusal.{Refusal}
use Rattle.zst_model.specs.declared.refusals.refusal.Refusal.TheVariants as refusals
use Rattle.zst_model.specs.pools.Step.{IsCommand}
use Rattle.zst_model.specs.states.State.{IsSpill}
use Rattle.zst_token.specs.Parser.{token_of}
use Rattle.zst_token.specs.Spelling.{IsToken}
use Rattle.zst_token.specs.declared.token.Token as tokens
use Rattle.zst_line.specs.Grammar.{stands_in, word_at}
use Rattle.zst_line.specs.WordFaults.{UsageAt, MisreadAs, IsLine}
use Rattle.zst_line.specs.NameKinds.{kind_of_name}
use Rattle.zst_line.specs.declared.line.Line.{Line}
use Rattle.zst_line.specs.declared.line.Line.TheVariants.{Dump, Create, Step, Send, Resume, Receive, Token, Check, Gen, Replay}
use Rattle.zst_line.specs.declared.line.LineFault.{LineFault}
use Rattle.zst_line.specs.declared.line.LineFault.TheVariants as faults
use Rattle.zst_line.specs.declared.name_kinds.NameKind.{NameKind}
use Rattle.zst_line.specs.declared.name_kinds.NameKind.TheVariants as kinds

-- a word as a name of a kind, and of the kind that it is read as
abbrev pub as_name : NameKind → List ℕ → Name
as_name kinds.Dataset word = names.Dataset word
as_name kinds.Snapshot word = names.Snapshot word
as_name kinds.Bookmark word = names.Bookmark word

abbrev pub name_of : List ℕ → Name
name_of word = as_name (kind_of_name word) word

-- the bytes of a bonus: the word `none`, or hexadecimal
abbrev pub IsBonusOf : List ℕ → List ℕ → Type 0
IsBonusOf bonus word = (if bytes_eq word (codes "none") then Ok [] else decode_of word) ≡ Ok bonus

-- a spill block in its whole length: its bytes in hexadecimal stand behind its length and `:`, and zeros follow
pub record IsBlockOf (block word : List ℕ) : Type 0 where
  pub digits : List ℕ
  pub bytes : List ℕ
  pub spelled : word ≡ decimal (length block) ++ 58 ∷ digits
  pub decoded : decode_of digits ≡ Ok bytes
  pub filled : block ≡ bytes ++ replicate (length block - length bytes) 0
  pub small : length block < 2 ^ 64

abbrev pub IsSpillOf : Option (List ℕ) → List ℕ → Type 0
IsSpillOf None word = word ≡ codes "none"
IsSpillOf (Some block) word = IsBlockOf block word

-- the name that a word is
pub record SpellsName (IsName : List ℕ → Type 0) (word result : List ℕ) : Type 0 where
  pub same : result ≡ word
  pub name : IsName result

-- the token that a word is
pub record SpellsToken (word : List ℕ) (result : tokens.Token) : Type 0 where
  pub read : token_of word ≡ Ok result
  pub token : IsToken result

-- the spill block that a word is, and the one that it may be, each of a length that a spill block has
pub record SpellsBlock (word block : List ℕ) : Type 0 where
  pub same : IsBlockOf block word
  pub size : IsSpill block

pub record SpellsSpill (word : List ℕ) (spill : Option (List ℕ)) : Type 0 where
  pub same : IsSpillOf spill word
  pub size : IfSome spill IsSpill

-- a first word, options, and these words behind them
abbrev pub EndsIn : List ℕ → List (List ℕ) → List (List ℕ) → Type 0
EndsIn first named words = (options : List (List ℕ)) × (words ≡ first ∷ (options ++ named))

-- the first of these words, and the word behind an option
abbrev pub first_of : List (List ℕ) → Option (List ℕ)
first_of [] = None
first_of (word ∷ words) = Some word

abbrev pub value_behind : List ℕ → List (List ℕ) → Option (List ℕ)
value_behind option [] = None
value_behind option (word ∷ words) = if bytes_eq word option then first_of words else value_behind option words

-- the words of a command on an image
abbrev pub Says : Command → List ℕ → List (List ℕ) → Type 0
Says (commands.Fs dataset) image words = words ≡ codes "fs" ∷ image ∷ dataset ∷ []
Says (commands.Volume dataset) image words = words ≡ codes "volume" ∷ image ∷ dataset ∷ []
Says (commands.Object dataset k head bonus spill) image words =
    (a : List ℕ) × (b : List ℕ) × IsBonusOf bonus a × IsSpillOf spill b
    × (words ≡ codes "object" ∷ image ∷ dataset ∷ decimal k ∷ decimal head.type_ ∷ decimal head.block_size ∷ decimal head.bonus_type ∷ a ∷ b ∷ [])
Says (commands.Write dataset k i bytes) image words =
    (digits : List ℕ) × ((decode_of digits ≡ Ok bytes) × (words ≡ codes "write" ∷ image ∷ dataset ∷ decimal k ∷ decimal i ∷ digits ∷ []))
Says (commands.Punch dataset k first count) image words = words ≡ codes "punch" ∷ image ∷ dataset ∷ decimal k ∷ decimal first ∷ decimal count ∷ []
Says (commands.Free dataset first count) image words = words ≡ codes "free" ∷ image ∷ dataset ∷ decimal first ∷ decimal count ∷ []
Says (commands.Snapshot name) image words = words ≡ codes "snapshot" ∷ image ∷ name ∷ []
Says (commands.Clone origin dataset) image words = words ≡ codes "clone" ∷ image ∷ origin ∷ dataset ∷ []
Says (commands.Bookmark snapshot bookmark) image words = words ≡ codes "bookmark" ∷ image ∷ snapshot ∷ bookmark ∷ []
Says (commands.Redact snapshot bookmark redactions) image words = words ≡ codes "redact" ∷ image ∷ snapshot ∷ bookmark ∷ redactions
Says (commands.Rollback destroys snapshot) image words =
    EndsIn (codes "rollback") (image ∷ snapshot ∷ []) words × (destroys ≡ stands_in words (codes "-r"))
Says (commands.Destroy name) image words = (word : List ℕ) × ((name ≡ name_of word) × (words ≡ codes "destroy" ∷ image ∷ word ∷ []))
Says (commands.Abort dataset) image words = words ≡ codes "abort" ∷ image ∷ dataset ∷ []
Says commands.Reclaim image words = words ≡ codes "reclaim" ∷ image ∷ []
Says (commands.Read name k i) image words = (word : List ℕ) × ((name ≡ name_of word) × (words ≡ codes "read" ∷ image ∷ word ∷ decimal k ∷ decimal i ∷ []))
Says commands.List image words = words ≡ codes "list" ∷ image ∷ []
Says (commands.ListObjects name) image words = (word : List ℕ) × ((name ≡ name_of word) × (words ≡ codes "list" ∷ image ∷ word ∷ []))

-- the numbers of a command are of 64 bits
abbrev pub NumbersFit : Command → Type 0
NumbersFit (commands.Object dataset k head bonus spill) = k < 2 ^ 64
NumbersFit (commands.Write dataset k i bytes) = (k < 2 ^ 64) × (i < 2 ^ 64)
NumbersFit (commands.Punch dataset k first count) = (k < 2 ^ 64) × (first < 2 ^ 64) × (count < 2 ^ 64)
NumbersFit (commands.Free dataset first count) = (first < 2 ^ 64) × (count < 2 ^ 64)
NumbersFit (commands.Read name k i) = (k < 2 ^ 64) × (i < 2 ^ 64)
NumbersFit command = Unit {0}

-- a pool's sectors and its id
pub record IsCreate (sectors id : ℕ) : Type 0 where
  pub enough : 128 ≤ sectors
  pub room : sectors ≤ 2 ^ 31
  pub positive : 0 < id
  pub small : id < 2 ^ 31

-- The words are this line. An option stands anywhere among the options, and its value is the word behind it.
abbrev pub LineIs : Line → List (List ℕ) → Type 0
LineIs Dump words = words ≡ codes "dump" ∷ []
LineIs (Create image sectors id) words = (words ≡ codes "create" ∷ image ∷ decimal sectors ∷ decimal id ∷ []) × IsCreate sectors id
LineIs (Step image command) words = Says command image words × IsCommand command × NumbersFit command
LineIs (Send image from redacts snapshot) words =
    EndsIn (codes "send") (image ∷ snapshot ∷ []) words × (word_at words 1 ≢ codes "-t")
    × (from ≡ option_map name_of (value_behind (codes "-i") words)) × (redacts ≡ value_behind (codes "--redact") words)
LineIs (Resume image token) words =
    (word : List ℕ) × (token_of word ≡ Ok token) × IsToken token × (words ≡ codes "send" ∷ codes "-t" ∷ word ∷ image ∷ [])
LineIs (Receive image keeps forces origin target) words =
    (word : List ℕ) × (target ≡ name_of word) × EndsIn (codes "receive") (image ∷ word ∷ []) words
    × (keeps ≡ stands_in words (codes "-s")) × (forces ≡ stands_in words (codes "-F")) × (origin ≡ value_behind (codes "--origin") words)
LineIs (Token image dataset) words = words ≡ codes "token" ∷ image ∷ dataset ∷ []
LineIs (Check image) words = words ≡ codes "check" ∷ image ∷ []
LineIs (Gen image steps) words = (words ≡ codes "gen" ∷ image ∷ decimal steps ∷ []) × (1 ≤ steps) × (steps ≤ 64)
LineIs (Replay here there) words = words ≡ codes "replay" ∷ here ∷ there ∷ []

-- each answer where it comes
abbrev pub LineAnswers : List (List ℕ) → Result Line LineFault → Type 0
LineAnswers words (Ok line) = IsLine words × LineIs line words
LineAnswers words (Err (faults.Usage at)) = UsageAt words at
LineAnswers words (Err (faults.BadName at)) = MisreadAs (faults.BadName at) words
LineAnswers words (Err (faults.BadToken at)) = MisreadAs (faults.BadToken at) words
LineAnswers words (Err faults.Memory) = Unit {0}

-- answers to the same words, memory aside, are one: the same line, or the same fault at the same place
abbrev pub OneAnswer : Type 0
OneAnswer =
    (words : List (List ℕ)) (one other : Result Line LineFault) → LineAnswers words one → LineAnswers words other
    → one ≢ Err faults.Memory → other ≢ Err faults.Memory → one ≡ other

-- the fault as a refusal
abbrev pub refusal_of : LineFault → Refusal
refusal_of (faults.Usage at) = refusals.Usage at
refusal_of (faults.BadName at) = refusals.Plan (plans.BadName at)
refusal_of (faults.BadToken at) = refusals.BadToken at
refusal_of faults.Memory = refusals.OutOfMemory
