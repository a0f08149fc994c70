-- Words say one line.
use Rattle.std.proofs.Common.{◌≡◌, ℕ, Bool, true, false, List, bytes_eq, arith, ap, sym, refl, ◌∙◌}
use Rattle.std.proofs.lemmas.Bool.{false≢true}
use Rattle.std.proofs.lemmas.Fmt.{decimal_injective}
use Rattle.std.proofs.lemmas.Slice.Eq.{bytes_eq-Decides}
use Rattle.zst_model.specs.declared.states.attr.ObjectHead.{ObjectHead}
use Rattle.zst_model.specs.declared.pools.command.Command.{Command}
use Rattle.zst_model.specs.declared.pools.command.Command.TheVariants as commands
use Rattle.zst_model.specs.pools.Step.{IsCommand}
use Rattle.zst_line.specs.declared.kind.Kind.{Kind}
use Rattle.zst_line.specs.declared.kind.Kind.TheVariants as kinds
use Rattle.zst_line.specs.declared.line.Line.{Line}
use Rattle.zst_line.specs.declared.line.Line.TheVariants as lines
use Rattle.zst_line.specs.Grammar.{word_at, word_of}
use Rattle.zst_line.specs.Line.{Says, NumbersFit, LineIs}
use Rattle.zst_line.proofs.FirstWords.{first_kind}
use Rattle.zst_line.proofs.Halves.{same_end, same_spill}
use Rattle.zst_line.proofs.Sizes.{block_size_below}

-- kinds that the same words begin with have one first word
named_alike : (a b : Kind) (words : List (List ℕ)) → first_kind words ≡ a → first_kind words ≡ b → bytes_eq (word_of a) (word_of b) ≡ true
named_alike a b words p q = (bytes_eq-Decides (word_of a) (word_of b)).1 (ap word_of (sym p ∙ q))

-- the kind of a command's line
abbrev kind_of_command : Command → Kind
kind_of_command (commands.Fs dataset) = kinds.Fs
kind_of_command (commands.Volume dataset) = kinds.Volume
kind_of_command (commands.Object dataset k head bonus spill) = kinds.Object
kind_of_command (commands.Write dataset k i bytes) = kinds.Write
kind_of_command (commands.Punch dataset k first count) = kinds.Punch
kind_of_command (commands.Free dataset first count) = kinds.Free
kind_of_command (commands.Snapshot name) = kinds.Snapshot
kind_of_command (commands.Clone origin dataset) = kinds.Clone
kind_of_command (commands.Bookmark snapshot bookmark) = kinds.Bookmark
kind_of_command (commands.Redact snapshot bookmark redactions) = kinds.Redact
kind_of_command (commands.Rollback destroys snapshot) = kinds.Rollback
kind_of_command (commands.Destroy name) = kinds.Destroy
kind_of_command (commands.Abort dataset) = kinds.Abort
kind_of_command commands.Reclaim = kinds.Reclaim
kind_of_command (commands.Read name k i) = kinds.Read
kind_of_command commands.List = kinds.List
kind_of_command (commands.ListObjects name) = kinds.List

-- the first word of a command's words names its kind
said_kind : (command : Command) (image : List ℕ) (words : List (List ℕ)) → Says command image words → first_kind words ≡ kind_of_command command
said_kind (commands.Fs dataset) image words says = ap first_kind says
said_kind (commands.Volume dataset) image words says = ap first_kind says
said_kind (commands.Object dataset k head bonus spill) image words says = ap first_kind says.4
said_kind (commands.Write dataset k i bytes) image words says = ap first_kind says.1.1
said_kind (commands.Punch dataset k first count) image words says = ap first_kind says
said_kind (commands.Free dataset first count) image words says = ap first_kind says
said_kind (commands.Snapshot name) image words says = ap first_kind says
said_kind (commands.Clone origin dataset) image words says = ap first_kind says
said_kind (commands.Bookmark snapshot bookmark) image words says = ap first_kind says
said_kind (commands.Redact snapshot bookmark redactions) image words says = ap first_kind says
said_kind (commands.Rollback destroys snapshot) image words says = ap first_kind says.0.1
said_kind (commands.Destroy name) image words says = ap first_kind says.1.1
said_kind (commands.Abort dataset) image words says = ap first_kind says
said_kind commands.Reclaim image words says = ap first_kind says
said_kind (commands.Read name k i) image words says = ap first_kind says.1.1
said_kind commands.List image words says = ap first_kind says
said_kind (commands.ListObjects name) image words says = ap first_kind says.1.1

-- a line that is a command
abbrev is_step : Kind → Bool
is_step kinds.Dump = false
is_step kinds.Create = false
is_step kinds.Send = false
is_step kinds.Receive = false
is_step kinds.Token = false
is_step kinds.Check = false
is_step kinds.Gen = false
is_step kinds.Replay = false
is_step kind = true

commands_are_steps : (command : Command) → is_step (kind_of_command command) ≡ true
commands_are_steps (commands.Fs dataset) = refl
commands_are_steps (commands.Volume dataset) = refl
commands_are_steps (commands.Object dataset k head bonus spill) = refl
commands_are_steps (commands.Write dataset k i bytes) = refl
commands_are_steps (commands.Punch dataset k first count) = refl
commands_are_steps (commands.Free dataset first count) = refl
commands_are_steps (commands.Snapshot name) = refl
commands_are_steps (commands.Clone origin dataset) = refl
commands_are_steps (commands.Bookmark snapshot bookmark) = refl
commands_are_steps (commands.Redact snapshot bookmark redactions) = refl
commands_are_steps (commands.Rollback destroys snapshot) = refl
commands_are_steps (commands.Destroy name) = refl
commands_are_steps (commands.Abort dataset) = refl
commands_are_steps commands.Reclaim = refl
commands_are_steps (commands.Read name k i) = refl
commands_are_steps commands.List = refl
commands_are_steps (commands.ListObjects name) = refl

said_step : (command : Command) (image : List ℕ) (words : List (List ℕ)) → Says command image words → is_step (first_kind words) ≡ true
said_step command image words says = ap is_step (said_kind command image words says) ∙ commands_are_steps command

abbrev head_of : ℕ → ℕ → ℕ → ObjectHead
head_of type bonus_type block_size = record { type_ = type; bonus_type = bonus_type; block_size = block_size }

same_head : (a b : ObjectHead) → a.type_ ≡ b.type_ → a.bonus_type ≡ b.bonus_type → a.block_size ≡ b.block_size → a ≡ b
same_head a b type bonus_type block_size =
    ap (λ (n : ℕ). head_of n a.bonus_type a.block_size) type
    ∙ ap (λ (n : ℕ). head_of b.type_ n a.block_size) bonus_type
    ∙ ap (λ (n : ℕ). head_of b.type_ b.bonus_type n) block_size

-- a command with its words, in its ranges
record Said (command : Command) (image : List ℕ) (words : List (List ℕ)) : Type 0 where
  says : Says command image words
  is : IsCommand command
  fit : NumbersFit command

-- a line on a pool
abbrev Same : Command → List ℕ → Command → List ℕ → Type 0
Same one image other here = lines.Step image one ≡ lines.Step here other

same_command : (one other : Command) (image here : List ℕ) (words : List (List ℕ)) → Said one image words → Said other here words → Same one image other here
same_command (commands.Fs dataset) (commands.Fs dataset_) image here words p q =
    let s = p.says in
    let t = q.says in
    cc
same_command (commands.Volume dataset) (commands.Volume dataset_) image here words p q =
    let s = p.says in
    let t = q.says in
    cc
same_command (commands.Object a k head bonus spill) (commands.Object b l top more block) image here words p q =
    let s = p.says.4 in
    let t = q.says.4 in
    let number : k ≡ l = decimal_injective k l p.fit q.fit cc in
    let type : head.type_ ≡ top.type_ = decimal_injective head.type_ top.type_ (omega (arith, p.is.2.type_fits)) (omega (arith, q.is.2.type_fits)) cc in
    let bonus_type : head.bonus_type ≡ top.bonus_type = decimal_injective head.bonus_type top.bonus_type (omega (arith, p.is.2.bonus_type_fits)) (omega (arith, q.is.2.bonus_type_fits)) cc in
    let small = block_size_below head.block_size p.is.2.size in
    let low = block_size_below top.block_size q.is.2.size in
    let size : head.block_size ≡ top.block_size = decimal_injective head.block_size top.block_size (omega (arith, small)) (omega (arith, low)) cc in
    let heads : head ≡ top = same_head head top type bonus_type size in
    let bonus_word : p.says.0 ≡ q.says.0 = cc in
    let spill_word : p.says.1 ≡ q.says.1 = cc in
    let e = p.says.2 in
    let f = q.says.2 in
    let bonuses : bonus ≡ more = cc (rw bonus_word at e) in
    let spills : spill ≡ block = same_spill spill block q.says.1 (rw spill_word at p.says.3) q.says.3 in
    cc
same_command (commands.Write dataset k i bytes) (commands.Write dataset_ k_ i_ bytes_) image here words p q =
    let s = p.says in
    let t = q.says in
    let k_same : k ≡ k_ = decimal_injective k k_ p.fit.0 q.fit.0 cc in
    let i_same : i ≡ i_ = decimal_injective i i_ p.fit.1 q.fit.1 cc in
    cc
same_command (commands.Punch dataset k first count) (commands.Punch dataset_ k_ first_ count_) image here words p q =
    let s = p.says in
    let t = q.says in
    let k_same : k ≡ k_ = decimal_injective k k_ p.fit.0 q.fit.0 cc in
    let first_same : first ≡ first_ = decimal_injective first first_ p.fit.1 q.fit.1 cc in
    let count_same : count ≡ count_ = decimal_injective count count_ p.fit.2 q.fit.2 cc in
    cc
same_command (commands.Free dataset first count) (commands.Free dataset_ first_ count_) image here words p q =
    let s = p.says in
    let t = q.says in
    let first_same : first ≡ first_ = decimal_injective first first_ p.fit.0 q.fit.0 cc in
    let count_same : count ≡ count_ = decimal_injective count count_ p.fit.1 q.fit.1 cc in
    cc
same_command (commands.Snapshot name) (commands.Snapshot name_) image here words p q =
    let s = p.says in
    let t = q.says in
    cc
same_command (commands.Clone origin dataset) (commands.Clone origin_ dataset_) image here words p q =
    let s = p.says in
    let t = q.says in
    cc
same_command (commands.Bookmark snapshot bookmark) (commands.Bookmark snapshot_ bookmark_) image here words p q =
    let s = p.says in
    let t = q.says in
    cc
same_command (commands.Redact snapshot bookmark redactions) (commands.Redact snapshot_ bookmark_ redactions_) image here words p q =
    let s = p.says in
    let t = q.says in
    cc
same_command (commands.Rollback destroys snapshot) (commands.Rollback more other) image here words p q =
    let s = p.says.0.1 in
    let t = q.says.0.1 in
    let ends = same_end p.says.0.0 q.says.0.0 image snapshot here other cc in
    let images = ends.0 in
    let snapshots = ends.1 in
    let a = p.says.1 in
    let b = q.says.1 in
    cc
same_command (commands.Destroy name) (commands.Destroy other) image here words p q =
    let s = p.says.1.1 in
    let t = q.says.1.1 in
    let a = p.says.1.0 in
    let b = q.says.1.0 in
    let word : p.says.0 ≡ q.says.0 = cc in
    cc
same_command (commands.Abort dataset) (commands.Abort dataset_) image here words p q =
    let s = p.says in
    let t = q.says in
    cc
same_command (commands.ListObjects name) (commands.ListObjects other) image here words p q =
    let s = p.says.1.1 in
    let t = q.says.1.1 in
    let a = p.says.1.0 in
    let b = q.says.1.0 in
    let word : p.says.0 ≡ q.says.0 = cc in
    cc
same_command (commands.Read name k i) (commands.Read other l j) image here words p q =
    let s = p.says.1.1 in
    let t = q.says.1.1 in
    let a = p.says.1.0 in
    let b = q.says.1.0 in
    let word : p.says.0 ≡ q.says.0 = cc in
    let number : k ≡ l = decimal_injective k l p.fit.0 q.fit.0 cc in
    let index : i ≡ j = decimal_injective i j p.fit.1 q.fit.1 cc in
    cc
same_command commands.Reclaim commands.Reclaim image here words p q = let s = p.says in let t = q.says in cc
same_command commands.List commands.List image here words p q = let s = p.says in let t = q.says in cc
same_command commands.List (commands.ListObjects name) image here words p q = let s = p.says in let t = q.says.1.1 in absurd cc
same_command (commands.ListObjects name) commands.List image here words p q = let s = p.says.1.1 in let t = q.says in absurd cc
same_command one other image here words p q =
    absurd (false≢true (named_alike (kind_of_command one) (kind_of_command other) words (said_kind one image words p.says) (said_kind other here words q.says)))

-- the kind of a line
abbrev kind_of_line : Line → Kind
kind_of_line lines.Dump = kinds.Dump
kind_of_line (lines.Create image sectors id) = kinds.Create
kind_of_line (lines.Step image command) = kind_of_command command
kind_of_line (lines.Send image from redacts snapshot) = kinds.Send
kind_of_line (lines.Resume image token) = kinds.Send
kind_of_line (lines.Receive image keeps forces origin target) = kinds.Receive
kind_of_line (lines.Token image dataset) = kinds.Token
kind_of_line (lines.Check image) = kinds.Check
kind_of_line (lines.Gen image steps) = kinds.Gen
kind_of_line (lines.Replay here there) = kinds.Replay

line_kind : (line : Line) (words : List (List ℕ)) → LineIs line words → first_kind words ≡ kind_of_line line
line_kind lines.Dump words p = ap first_kind p
line_kind (lines.Create image sectors id) words p = ap first_kind p.0
line_kind (lines.Step image command) words p = said_kind command image words p.0
line_kind (lines.Send image from redacts snapshot) words p = ap first_kind p.0.1
line_kind (lines.Resume image token) words p = ap first_kind p.3
line_kind (lines.Receive image keeps forces origin target) words p = ap first_kind p.2.1
line_kind (lines.Token image dataset) words p = ap first_kind p
line_kind (lines.Check image) words p = ap first_kind p
line_kind (lines.Gen image steps) words p = ap first_kind p.0
line_kind (lines.Replay here there) words p = ap first_kind p

-- words say one line
pub same_line : (one other : Line) (words : List (List ℕ)) → LineIs one words → LineIs other words → one ≡ other
same_line lines.Dump lines.Dump words p q = refl
same_line (lines.Create image sectors id) (lines.Create here more name) words p q =
    let s = p.0 in
    let t = q.0 in
    let room = p.1.room in
    let space = q.1.room in
    let small = p.1.small in
    let low = q.1.small in
    let sizes : sectors ≡ more = decimal_injective sectors more (omega arith) (omega arith) cc in
    let ids : id ≡ name = decimal_injective id name (omega arith) (omega arith) cc in
    cc
same_line (lines.Step image one) (lines.Step here other) words p q =
    same_command one other image here words (record { says = p.0; is = p.1; fit = p.2 }) (record { says = q.0; is = q.1; fit = q.2 })
same_line (lines.Send image from redacts snapshot) (lines.Send here origin place other) words p q =
    let s = p.0.1 in
    let t = q.0.1 in
    let ends = same_end p.0.0 q.0.0 image snapshot here other cc in
    let images = ends.0 in
    let snapshots = ends.1 in
    let a = p.2 in
    let b = q.2 in
    let c = p.3 in
    let d = q.3 in
    cc
same_line (lines.Send image from redacts snapshot) (lines.Resume here token) words p q = absurd (p.1 (ap (λ (w : List (List ℕ)). word_at w 1) q.3))
same_line (lines.Resume image token) (lines.Send here from redacts snapshot) words p q = absurd (q.1 (ap (λ (w : List (List ℕ)). word_at w 1) p.3))
same_line (lines.Resume image token) (lines.Resume here other) words p q =
    let s = p.3 in
    let t = q.3 in
    let a = p.1 in
    let b = q.1 in
    let word : p.0 ≡ q.0 = cc in
    cc
same_line (lines.Receive image keeps forces origin target) (lines.Receive here holds drives base name) words p q =
    let s = p.2.1 in
    let t = q.2.1 in
    let ends = same_end p.2.0 q.2.0 image p.0 here q.0 cc in
    let images = ends.0 in
    let targets = ends.1 in
    let a = p.1 in
    let b = q.1 in
    let keeping = p.3 in
    let holding = q.3 in
    let forcing = p.4 in
    let driving = q.4 in
    let origins = p.5 in
    let bases = q.5 in
    cc
same_line (lines.Token image dataset) (lines.Token here other) words p q = cc
same_line (lines.Check image) (lines.Check here) words p q = cc
same_line (lines.Gen image steps) (lines.Gen here more) words p q =
    let s = p.0 in
    let t = q.0 in
    let most = p.2 in
    let room = q.2 in
    let same : steps ≡ more = decimal_injective steps more (omega arith) (omega arith) cc in
    cc
same_line (lines.Replay a b) (lines.Replay c d) words p q = cc
same_line (lines.Step image command) other words p q = absurd (false≢true (sym (ap is_step (line_kind other words q)) ∙ said_step command image words p.0))
same_line other (lines.Step image command) words p q = absurd (false≢true (sym (ap is_step (line_kind other words p)) ∙ said_step command image words q.0))
same_line one other words p q = absurd (false≢true (named_alike (kind_of_line one) (kind_of_line other) words (line_kind one words p) (line_kind other words q)))
