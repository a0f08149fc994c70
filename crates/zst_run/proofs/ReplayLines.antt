-- What one line of a script makes of a replay.
use Rattle.std.specs.Prelude.{Result, Ok, Err, length}
use Rattle.std.proofs.Common.{◌≡◌, ◌≤◌, ◌<◌, ◌+◌, inl, inr, ℕ, suc, Bool, false, cond, List, [], ◌∷◌, ◌++◌, Bor, Option, None, Some, IfOk, refl, sym, ap, ◌∙◌, subst, arith, length-append, append-nil}
use Rattle.std.specs.declared.alloc.AllocError.{AllocError}
use Rattle.std.proofs.lemmas.List.Elements.{All-cons, All-nil}
use Rattle.zst_outside.specs.Printing.{Printed, Printed-start, Wrote}
use Rattle.zst_outside.specs.States.{SourceState, SinkState}
use Rattle.zst_outside.specs.declared.disk.Disk.{Ghosts}
use Rattle.zst_model.specs.declared.refusals.faults.Quantity.TheVariants as quantities
use Rattle.zst_model.specs.declared.refusals.refusal.Refusal.{Refusal}
use Rattle.zst_model.specs.declared.refusals.refusal.Refusal.TheVariants as refusals
use Rattle.zst_script.specs.Lines.{LineSays, longest_line, words_of}
use Rattle.zst_script.specs.ScriptLines.{HasLines, Reads, number_of}
use Rattle.zst_script.specs.Scripts.{AllRead, Event', IsPassedOver, Nothing, Passes, SaysNone, SaysOf, script_limit}
use Rattle.zst_script.specs.declared.event.Event.{Event}
use Rattle.zst_script.specs.declared.script_lines.NextLine.{NextLine}
use Rattle.zst_script.specs.declared.script_lines.NextLine.TheVariants as answers
use Rattle.zst_script.specs.declared.script_lines.ScriptLines.{ScriptLines}
use Rattle.zst_sessions.specs.EngineSteps.{EngineFits}
use Rattle.zst_sessions.specs.EventReplies.{answer_of}
use Rattle.zst_sessions.specs.Moves.{Answer}
use Rattle.zst_sessions.specs.declared.engine.Engine.{Engine}
use Rattle.zst_run.specs.Replays.{GoOn, finds_no_memory, replies_text, reply_of, written_of}
use Rattle.zst_run.specs.Replies.{reply_text}
use Rattle.zst_run.specs.ReplayTurns.{GivesOneMore, IsTold, RunsEvent, RunsLine, RunsSaid, SaysInRange, TurnsLine, behind_event}
use Rattle.zst_run.specs.declared.replay.Behind.{Behind}
use Rattle.zst_run.specs.declared.replay.Behind.TheVariants as behind
use Rattle.zst_run.proofs.EventRanges.{said_is_in_range}
use Rattle.zst_run.proofs.ReplayRuns.{Remembers, none_run, one_run}

-- ---- what is written of one answer

written_is : (answer : Answer) → finds_no_memory answer ≡ false → written_of answer ≡ reply_text (reply_of answer)
written_is answer goes = ap (λ (b : Bool). cond b [] (reply_text (reply_of answer))) goes

one_written : (answer : Answer) → finds_no_memory answer ≡ false → replies_text (answer ∷ []) ≡ reply_text (reply_of answer)
one_written answer goes = append-nil (written_of answer) ∙ written_is answer goes

one_goes_on : (answer : Answer) → finds_no_memory answer ≡ false → GoOn (answer ∷ [])
one_goes_on answer goes = let P : Answer → Type 0 = λ one. finds_no_memory one ≡ false in All-cons P answer [] goes (All-nil P)

none_goes_on : GoOn []
none_goes_on = All-nil (λ answer. finds_no_memory answer ≡ false)

-- ---- what one line says

-- one that has more bytes than any that says an event says none
pub overlong_says_none : (line : List ℕ) → longest_line < length line → SaysNone line
overlong_says_none line long event says = absurd (let short = says.short in omega (arith, long, short))

-- an event that one says is in its ranges
pub said_in_range : (line : List ℕ) (said : Result (Option Event) AllocError) → IfOk said (SaysOf line) → SaysInRange said
said_in_range line (Ok None) says = tt
said_in_range line (Ok (Some event)) says = said_is_in_range event (words_of line) says.says
said_in_range line (Err error) says = tt

-- the number of the line that was given last
numbered : (input : SourceState) (lines : ScriptLines) (text : List ℕ) (given : List (List ℕ)) (line : List ℕ) (place : ℕ)
    → GivesOneMore input lines text given line → place ≡ number_of lines → place ≡ suc (length given)
numbered input lines text given line place has is = is ∙ sym has.count ∙ length-append given (line ∷ []) ∙ (let one : length given + 1 ≡ suc (length given) = omega arith in one)

-- ---- a line of which nothing is run

module _ {D E : Type 0} {g : Ghosts D} {h : Ghosts E} (engine : Engine D E g h) (fits : EngineFits engine) (input input' : SourceState) (out : SinkState) (lines lines' : ScriptLines) where
  still : (answer : NextLine) (result : Result Behind Refusal) (reads : Reads input input' lines lines' answer)
      → ((text : List ℕ) (given : List (List ℕ)) → HasLines input lines text given → RunsLine input input' lines' (text ++ reads.piece) given [] [] out out result)
      → TurnsLine engine engine lines lines' input input' out out result
  still answer result reads line = record {
    piece = reads.piece;
    gave = reads.gave;
    input_later = reads.later;
    events = [];
    answers = [];
    runs = none_run engine fits;
    out_later = omega arith;
    line = line;
  }

  pub passed_turn : Reads input input' lines lines' answers.Passed → TurnsLine engine engine lines lines' input input' out out (Ok behind.More)
  passed_turn reads =
      still answers.Passed (Ok behind.More) reads
      (λ text given has.
      let told = reads.tells text given has in
      let number = 1 + length given in
      (told.0, told.2, Passes number told.0 [] [] AllRead told.1 (Nothing (suc number)), none_goes_on, Printed-start out, inl refl))

  pub overlong_turn : (place : ℕ) → place ≡ number_of lines' → Reads input input' lines lines' answers.Overlong → TurnsLine engine engine lines lines' input input' out out (Err (refusals.Usage place))
  overlong_turn place is reads =
      still answers.Overlong (Err (refusals.Usage place)) reads
      (λ text given has.
      let told = reads.tells text given has in
      (told.0, told.3, told.1, overlong_says_none told.0 told.2, numbered input' lines' (text ++ reads.piece) given told.0 place told.3 is, (refl, refl, refl)))

  pub end_turn : Reads input input' lines lines' answers.End → TurnsLine engine engine lines lines' input input' out out (Ok behind.End)
  end_turn reads = still answers.End (Ok behind.End) reads (λ text given has. ((reads.tells text given has).0, (refl, refl, refl)))

  pub limit_turn : (number : ℕ) → number ≡ script_limit → Reads input input' lines lines' answers.Limit → TurnsLine engine engine lines lines' input input' out out (Err (refusals.Limit quantities.Script number))
  limit_turn number is reads = still answers.Limit (Err (refusals.Limit quantities.Script number)) reads (λ text given has. (refl, is, (reads.tells text given has).0, (refl, refl, refl)))

  pub fault_turn : Reads input input' lines lines' answers.Fault → TurnsLine engine engine lines lines' input input' out out (Err refusals.SourceFault)
  fault_turn reads = still answers.Fault (Err refusals.SourceFault) reads (λ text given has. let told = reads.tells text given has in (told.0, told.1, (refl, refl, refl)))

-- ---- a line that may say an event

-- it is not passed over, and was given
module _ (input input' : SourceState) (lines : ScriptLines) (text : List ℕ) (given : List (List ℕ)) (line : List ℕ) (other : ¬ (IsPassedOver line)) (one_more : GivesOneMore input' lines text given line) where
  -- its event was run
  event_line : (event : Event) (answer : Answer) (out out' : SinkState) (told : Result (Unit {0}) Refusal) → LineSays event line → IsTold answer out out' told
      → RunsLine input input' lines text given (event ∷ []) (answer ∷ []) out out' (behind_event told)
  event_line event answer out out' (Ok done) says is = (
    line,
    one_more,
    Event' (1 + length given) line [] event [] AllRead other says (Nothing (suc (1 + length given))),
    one_goes_on answer is.0,
    subst (λ (t : List ℕ). Printed out out' t) (sym (one_written answer is.0)) is.1,
    inr is.2,
  )
  event_line event answer out out' (Err refusals.SinkFault) says is = (
    line,
    one_more,
    Event' (1 + length given) line [] event [] AllRead other says (Nothing (suc (1 + length given))),
    one_goes_on answer is.0,
    (is.1.0, subst (λ (t : List ℕ). Wrote out out' t is.1.0) (sym (one_written answer is.0)) is.1.1),
    is.2,
  )
  event_line event answer out out' (Err refusals.OutOfMemory) says is = (
    line,
    one_more,
    inl (Event' (1 + length given) line [] event [] AllRead other says (Nothing (suc (1 + length given))), ap (λ (a : Answer). a ∷ []) is.0, is.1),
  )
  event_line event answer out out' (Err (refusals.Usage place)) says is = absurd is
  event_line event answer out out' (Err (refusals.Plan fault)) says is = absurd is
  event_line event answer out out' (Err (refusals.BadToken place)) says is = absurd is
  event_line event answer out out' (Err (refusals.Stream fault)) says is = absurd is
  event_line event answer out out' (Err (refusals.CannotApply place fault)) says is = absurd is
  event_line event answer out out' (Err (refusals.Redacted object block)) says is = absurd is
  event_line event answer out out' (Err (refusals.Limit which number)) says is = absurd is
  event_line event answer out out' (Err (refusals.Full need largest)) says is = absurd is
  event_line event answer out out' (Err (refusals.Damaged sector stated found)) says is = absurd is
  event_line event answer out out' (Err refusals.NoPool) says is = absurd is
  event_line event answer out out' (Err (refusals.BadVersion number)) says is = absurd is
  event_line event answer out out' (Err refusals.DiskFault) says is = absurd is
  event_line event answer out out' (Err refusals.SourceFault) says is = absurd is
  event_line event answer out out' (Err refusals.Failed) says is = absurd is

-- the output's count of faults didn't fall
told_later : (answer : Answer) (out out' : SinkState) (told : Result (Unit {0}) Refusal) → IsTold answer out out' told → out.faults ≤ out'.faults
told_later answer out out' (Ok done) is = is.1.wrote.later
told_later answer out out' (Err refusals.SinkFault) is = is.1.1.later
told_later answer out out' (Err refusals.OutOfMemory) is = let same = ap (λ (o : SinkState). o.faults) is.1 in omega arith
told_later answer out out' (Err (refusals.Usage place)) is = absurd is
told_later answer out out' (Err (refusals.Plan fault)) is = absurd is
told_later answer out out' (Err (refusals.BadToken place)) is = absurd is
told_later answer out out' (Err (refusals.Stream fault)) is = absurd is
told_later answer out out' (Err (refusals.CannotApply place fault)) is = absurd is
told_later answer out out' (Err (refusals.Redacted object block)) is = absurd is
told_later answer out out' (Err (refusals.Limit which number)) is = absurd is
told_later answer out out' (Err (refusals.Full need largest)) is = absurd is
told_later answer out out' (Err (refusals.Damaged sector stated found)) is = absurd is
told_later answer out out' (Err refusals.NoPool) is = absurd is
told_later answer out out' (Err (refusals.BadVersion number)) is = absurd is
told_later answer out out' (Err refusals.DiskFault) is = absurd is
told_later answer out out' (Err refusals.SourceFault) is = absurd is
told_later answer out out' (Err refusals.Failed) is = absurd is

module _ {D E : Type 0} {g : Ghosts D} {h : Ghosts E} (knows : Remembers g) (knows_there : Remembers h) (engine : Engine D E g h) (fits : EngineFits engine) (input input' : SourceState) (lines lines' : ScriptLines) (line : Bor (List ℕ))
    (reads : Reads input input' lines lines' (answers.Line line)) (number : ℕ) (numbers : number ≡ number_of lines') where
  event_turn : (event : Event) (engine' : Engine D E g h) (out out' : SinkState) (told : Result (Unit {0}) Refusal) → LineSays event line.now → RunsEvent event engine engine' out out' told
      → TurnsLine engine engine' lines lines' input input' out out' (behind_event told)
  event_turn event engine' out out' told says runs = record {
    piece = reads.piece;
    gave = reads.gave;
    input_later = reads.later;
    events = event ∷ [];
    answers = answer_of runs.reply ∷ [];
    runs = one_run knows knows_there event engine engine' runs.reply runs.steps;
    out_later = told_later (answer_of runs.reply) out out' told runs.told;
    line = λ text given has.
        let gives = reads.tells text given has in
        event_line input input' lines' (text ++ reads.piece) given line.now gives.0 gives.2 event (answer_of runs.reply) out out' told says runs.told;
  }

  unsaid_turn : (out : SinkState) → SaysNone line.now → TurnsLine engine engine lines lines' input input' out out (Err (refusals.Usage number))
  unsaid_turn out none =
      still engine fits input input' out lines lines' (answers.Line line) (Err (refusals.Usage number)) reads
      (λ text given has.
      let gives = reads.tells text given has in
      (line.now, gives.2, gives.0, none, numbered input' lines' (text ++ reads.piece) given line.now number gives.2 numbers, (refl, refl, refl)))

  unread_turn : (out : SinkState) → TurnsLine engine engine lines lines' input input' out out (Err refusals.OutOfMemory)
  unread_turn out =
      still engine fits input input' out lines lines' (answers.Line line) (Err refusals.OutOfMemory) reads
      (λ text given has. (line.now, (reads.tells text given has).2, inr (refl, refl, refl)))

  -- where nothing is run all stays
  stays : (engine' : Engine D E g h) (out out' : SinkState) (result : Result Behind Refusal) (refusal : Refusal) → (result ≡ Err refusal) × (engine' ≡ engine) × (out' ≡ out)
      → TurnsLine engine engine lines lines' input input' out out (Err refusal) → TurnsLine engine engine' lines lines' input input' out out' result
  stays engine' out out' result refusal same turn =
      subst (λ (e : Engine D E g h). TurnsLine engine e lines lines' input input' out out' result) (sym same.1)
      (subst (λ (o : SinkState). TurnsLine engine engine lines lines' input input' out o result) (sym same.2)
      (subst (λ (r : Result Behind Refusal). TurnsLine engine engine lines lines' input input' out out r) (sym same.0) turn))

  pub line_turn : (said : Result (Option Event) AllocError) (engine' : Engine D E g h) (out out' : SinkState) (result : Result Behind Refusal) → IfOk said (SaysOf line.now)
      → RunsSaid said number engine engine' out out' result → TurnsLine engine engine' lines lines' input input' out out' result
  line_turn (Ok None) engine' out out' result says runs = stays engine' out out' result (refusals.Usage number) runs (unsaid_turn out says)
  line_turn (Ok (Some event)) engine' out out' result says runs =
      subst (λ (r : Result Behind Refusal). TurnsLine engine engine' lines lines' input input' out out' r) (sym runs.1) (event_turn event engine' out out' runs.0 says runs.2)
  line_turn (Err error) engine' out out' result says runs = stays engine' out out' result refusals.OutOfMemory runs (unread_turn out)
