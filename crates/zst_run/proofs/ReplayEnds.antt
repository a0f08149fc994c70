-- How a replay goes on line by line, and how it ends.
use Rattle.std.specs.Prelude.{Result, Ok, Err}
use Rattle.std.proofs.Common.{◌≡◌, ◌≢◌, ◌⊎◌, inl, inr, ⊎_elim, ℕ, suc, false, List, [], ◌∷◌, ◌++◌, length, refl, sym, ap, ◌∙◌, subst, arith, append_assoc, append-nil}
use Rattle.std.proofs.lemmas.List.Concat.{flat_map-append}
use Rattle.std.proofs.lemmas.List.Elements.{All-append, All-nil}
use Rattle.zst_outside.specs.Causes.{Rose, Rose-earlier}
use Rattle.zst_outside.specs.Printing.{Printed, Printed-start, Printed-then, Wrote, Wrote-then}
use Rattle.zst_outside.specs.States.{SourceState, SinkState, Gave, HandedOn}
use Rattle.zst_outside.specs.declared.disk.Disk.{Ghosts}
use Rattle.zst_model.specs.declared.refusals.refusal.Refusal.{Refusal}
use Rattle.zst_model.specs.declared.refusals.refusal.Refusal.TheVariants as refusals
use Rattle.zst_script.specs.ScriptLines.{HasLines, ReadsAll, StopsAtLimit, StopsAtLine}
use Rattle.zst_script.specs.Scripts.{AllRead, IsScript, Misread, Nothing, Says, ScriptsGoOn, TooLong}
use Rattle.zst_script.specs.declared.event.Event.{Event}
use Rattle.zst_script.specs.declared.script_lines.ScriptLines.{ScriptLines}
use Rattle.zst_sessions.specs.EngineSteps.{EngineFits}
use Rattle.zst_sessions.specs.Moves.{Answer}
use Rattle.zst_sessions.specs.Replay.{WaysFollow, WaysGoOn}
use Rattle.zst_sessions.specs.declared.engine.Engine.{Engine}
use Rattle.zst_run.specs.Replays.{GoOn, RunsLines, RunsScript, WritesReplies, finds_no_memory, replies_text, written_of}
use Rattle.zst_run.specs.ReplayTurns.{GivesOneMore, HasRun, Idles, RunsAll, RunsLine, SaysRun, TurnsLine}
use Rattle.zst_run.specs.declared.replay.Behind.{Behind}
use Rattle.zst_run.specs.declared.replay.Behind.TheVariants as behind
use Rattle.zst_run.proofs.ReplayRuns.{none_run, runs_then}
use Rattle.zst_run.proofs.ReplayScripts.{front_begins, given_begin}

-- ---- what is written

both_written : (answers told : List Answer) → replies_text (answers ++ told) ≡ replies_text answers ++ replies_text told
both_written answers told = flat_map-append written_of answers told

-- what was written goes on
printed_then : (out mid out' : SinkState) (answers told : List Answer) → Printed out mid (replies_text answers) → Printed mid out' (replies_text told) → Printed out out' (replies_text (answers ++ told))
printed_then out mid out' answers told first second =
    subst (λ (t : List ℕ). Printed out out' t) (sym (both_written answers told)) (Printed-then out mid out' (replies_text answers) (replies_text told) first second)

handed_then : (out mid out' : SinkState) → (mid ≡ out) ⊎ HandedOn mid → (out' ≡ mid) ⊎ HandedOn out' → (out' ≡ out) ⊎ HandedOn out'
handed_then out mid out' first (inr handed) = inr handed
handed_then out mid out' (inl none) (inl still) = inl (still ∙ none)
handed_then out mid out' (inr handed) (inl still) = inr (subst HandedOn (sym still) handed)

-- all of it was written, and the output didn't fail
all_written : (answers : List Answer) (out out' : SinkState) (result : Result (Unit {0}) Refusal) → result ≢ Err refusals.SinkFault → Printed out out' (replies_text answers)
    → (out' ≡ out) ⊎ HandedOn out' → WritesReplies answers out out' result
all_written answers out out' result whole printed handed = record { front = ([], printed.wrote); whole = λ no. (printed, handed); fault = λ is. absurd (whole is) }

-- a front of it was written, and then the output failed
front_written : (answers told : List Answer) (out mid out' : SinkState) (rest : List ℕ) → Printed out mid (replies_text answers) → Wrote mid out' (replies_text told) rest → Rose mid.faults out'.faults
    → WritesReplies (answers ++ told) out out' (Err refusals.SinkFault)
front_written answers told out mid out' rest printed wrote rose = record {
  front = (rest, subst (λ (t : List ℕ). Wrote out out' t rest) (sym (both_written answers told)) (Wrote-then out mid out' (replies_text answers) (replies_text told) rest printed.wrote wrote));
  whole = λ no. absurd (no refl);
  fault = λ is. Rose-earlier out.faults mid.faults out'.faults printed.wrote.later rose;
}

gave_then : (input mid input' : SourceState) (text piece : List ℕ) → Gave input mid text → Gave mid input' piece → Gave input input' (text ++ piece)
gave_then input mid input' text piece first second = second ∙ ap (λ (t : List ℕ). t ++ piece) first ∙ append_assoc input.given text piece

-- ---- the laws of scripts

-- the laws by which lines that were read are those of a script
pub record ScriptLaws : Type 0 where
  pub go_on : ScriptsGoOn
  pub whole : ReadsAll
  pub misread : StopsAtLine
  pub too_long : StopsAtLimit

goes_on_both : (answers told : List Answer) → GoOn answers → GoOn told → GoOn (answers ++ told)
goes_on_both answers told = All-append (λ answer. finds_no_memory answer ≡ false) answers told

module _ {D E : Type 0} {g : Ghosts D} {h : Ghosts E} where
  -- before the first line
  pub none_has_run : (engine : Engine D E g h) (lines : ScriptLines) (input : SourceState) (out : SinkState) → EngineFits engine → HasLines input lines [] [] → HasRun engine engine lines input input out out
  none_has_run engine lines input out fits has = record {
    text = [];
    given = [];
    events = [];
    answers = [];
    consumed = sym (append-nil input.given);
    has = has;
    say = Nothing 1;
    runs = none_run engine fits;
    go_on = All-nil (λ answer. finds_no_memory answer ≡ false);
    printed = Printed-start out;
    handed_on = inl refl;
    input_later = omega arith;
  }

module _ {D E : Type 0} {g : Ghosts D} {h : Ghosts E} (laws : ScriptLaws) (go_on : WaysGoOn) (follow : WaysFollow) (old mid new : Engine D E g h) (lines lines' : ScriptLines)
    (input between input' : SourceState) (out waits out' : SinkState) (so_far : HasRun old mid lines input between out waits) where
  says_more : (line : List ℕ) (events : List Event) → SaysRun so_far.given line events → Says 1 (so_far.given ++ line ∷ []) (so_far.events ++ events) AllRead
  says_more line events says = laws.go_on 1 so_far.given (line ∷ []) so_far.events events AllRead so_far.say says

  -- one line more
  pub more_has_run : TurnsLine mid new lines lines' between input' waits out' (Ok behind.More) → HasRun old new lines' input input' out out'
  more_has_run turn =
      let more = turn.line so_far.text so_far.given so_far.has in
      record {
        text = so_far.text ++ turn.piece;
        given = so_far.given ++ more.0 ∷ [];
        events = so_far.events ++ turn.events;
        answers = so_far.answers ++ turn.answers;
        consumed = gave_then input between input' so_far.text turn.piece so_far.consumed turn.gave;
        has = more.1;
        say = says_more more.0 turn.events more.2;
        runs = runs_then go_on follow old mid new so_far.events turn.events so_far.answers turn.answers so_far.runs turn.runs;
        go_on = goes_on_both so_far.answers turn.answers so_far.go_on more.3;
        printed = printed_then out waits out' so_far.answers turn.answers so_far.printed more.4;
        handed_on = handed_then out waits out' so_far.handed_on more.5;
        input_later = let first = so_far.input_later in let next = turn.input_later in omega arith;
      }

  -- the last line; its events stand behind those before
  ended : (behind : Result Behind Refusal) (result : Result (Unit {0}) Refusal) (turn : TurnsLine mid new lines lines' between input' waits out' behind)
      → RunsScript (so_far.text ++ turn.piece) (so_far.events ++ turn.events) (so_far.answers ++ turn.answers) input input' result
      → WritesReplies (so_far.answers ++ turn.answers) out out' result → RunsAll old new input input' out out' result
  ended behind result turn script writes = record {
    text = so_far.text ++ turn.piece;
    events = so_far.events ++ turn.events;
    answers = so_far.answers ++ turn.answers;
    consumed = gave_then input between input' so_far.text turn.piece so_far.consumed turn.gave;
    runs = runs_then go_on follow old mid new so_far.events turn.events so_far.answers turn.answers so_far.runs turn.runs;
    script = script;
    writes = writes;
    input_later = let first = so_far.input_later in let next = turn.input_later in omega arith;
    out_later = let first = so_far.printed.wrote.later in let next = turn.out_later in omega arith;
  }

  -- where the last line ran nothing
  idle_written : (events : List Event) (answers : List Answer) (result : Result (Unit {0}) Refusal) → result ≢ Err refusals.SinkFault → Idles events answers waits out' → WritesReplies (so_far.answers ++ answers) out out' result
  idle_written events answers result whole idle =
      let P : List Answer → SinkState → Type 0 = λ told o. WritesReplies told out o result in
      let same : so_far.answers ++ answers ≡ so_far.answers = ap (λ (a : List Answer). so_far.answers ++ a) idle.1 ∙ append-nil so_far.answers in
      subst (λ (told : List Answer). P told out') (sym same) (subst (λ (o : SinkState). P so_far.answers o) (sym idle.2) (all_written so_far.answers out waits result whole so_far.printed so_far.handed_on))

  same_events : (events : List Event) (answers : List Answer) → Idles events answers waits out' → so_far.events ++ events ≡ so_far.events
  same_events events answers idle = ap (λ (e : List Event). so_far.events ++ e) idle.0 ∙ append-nil so_far.events

  same_go_on : (events : List Event) (answers : List Answer) → Idles events answers waits out' → GoOn (so_far.answers ++ answers)
  same_go_on events answers idle = subst GoOn (sym (ap (λ (a : List Answer). so_far.answers ++ a) idle.1 ∙ append-nil so_far.answers)) so_far.go_on

  pub all_has_run : TurnsLine mid new lines lines' between input' waits out' (Ok behind.End) → RunsAll old new input input' out out' (Ok (tt {0}))
  all_has_run turn =
      let text = so_far.text ++ turn.piece in
      let told = turn.line so_far.text so_far.given so_far.has in
      let idle = told.1 in
      ended (Ok behind.End) (Ok (tt {0})) turn (
        told.0.over,
        subst (λ (e : List Event). IsScript text e AllRead) (sym (same_events turn.events turn.answers idle)) (laws.whole input' text so_far.given so_far.events told.0 so_far.say),
        same_go_on turn.events turn.answers idle,
      )
      (idle_written turn.events turn.answers (Ok (tt {0})) (λ is. absurd (cc is)) idle)

  usage_ends : (place : ℕ) → TurnsLine mid new lines lines' between input' waits out' (Err (refusals.Usage place)) → RunsAll old new input input' out out' (Err (refusals.Usage place))
  usage_ends place turn =
      let text = so_far.text ++ turn.piece in
      let told = turn.line so_far.text so_far.given so_far.has in
      let idle = told.5 in
      ended (Err (refusals.Usage place)) (Err (refusals.Usage place)) turn (
        λ more none. subst (λ (n : ℕ). IsScript (text ++ more) (so_far.events ++ turn.events) (Misread n)) (sym told.4)
            (subst (λ (e : List Event). IsScript (text ++ more) e (Misread (suc (length so_far.given)))) (sym (same_events turn.events turn.answers idle))
            (laws.misread input' lines' text so_far.given told.0 so_far.events told.1 so_far.say told.2 told.3 more none)),
        same_go_on turn.events turn.answers idle,
      )
      (idle_written turn.events turn.answers (Err (refusals.Usage place)) (λ is. absurd (cc is)) idle)

  limit_ends : (which : _) (number : ℕ) → TurnsLine mid new lines lines' between input' waits out' (Err (refusals.Limit which number)) → RunsAll old new input input' out out' (Err (refusals.Limit which number))
  limit_ends which number turn =
      let text = so_far.text ++ turn.piece in
      let told = turn.line so_far.text so_far.given so_far.has in
      let idle = told.3 in
      ended (Err (refusals.Limit which number)) (Err (refusals.Limit which number)) turn (
        told.0,
        told.1,
        λ more. subst (λ (e : List Event). IsScript (text ++ more) e TooLong) (sym (same_events turn.events turn.answers idle))
            (laws.too_long text so_far.given so_far.events told.2 so_far.say more),
        same_go_on turn.events turn.answers idle,
      )
      (idle_written turn.events turn.answers (Err (refusals.Limit which number)) (λ is. absurd (cc is)) idle)

  source_ends : TurnsLine mid new lines lines' between input' waits out' (Err refusals.SourceFault) → RunsAll old new input input' out out' (Err refusals.SourceFault)
  source_ends turn =
      let told = turn.line so_far.text so_far.given so_far.has in
      let idle = told.2 in
      ended (Err refusals.SourceFault) (Err refusals.SourceFault) turn (
        Rose-earlier input.faults between.faults input'.faults so_far.input_later told.0,
        (so_far.given, told.1, subst (λ (e : List Event). Says 1 so_far.given e AllRead) (sym (same_events turn.events turn.answers idle)) so_far.say),
        same_go_on turn.events turn.answers idle,
      )
      (idle_written turn.events turn.answers (Err refusals.SourceFault) (λ is. absurd (cc is)) idle)

  -- the lines that were given and the one behind them say the events
  more_lines : (text : List ℕ) (line : List ℕ) (events : List Event) → GivesOneMore input' lines' text so_far.given line → SaysRun so_far.given line events → RunsLines input' text (so_far.events ++ events)
  more_lines text line events has says = record {
    lines = so_far.given ++ line ∷ [];
    begin = given_begin input' lines' text (so_far.given ++ line ∷ []) has;
    say = says_more line events says;
  }

  sink_ends : TurnsLine mid new lines lines' between input' waits out' (Err refusals.SinkFault) → RunsAll old new input input' out out' (Err refusals.SinkFault)
  sink_ends turn =
      let told = turn.line so_far.text so_far.given so_far.has in
      ended (Err refusals.SinkFault) (Err refusals.SinkFault) turn
      (more_lines (so_far.text ++ turn.piece) told.0 turn.events told.1 told.2, goes_on_both so_far.answers turn.answers so_far.go_on told.3)
      (front_written so_far.answers turn.answers out waits out' told.4.0 so_far.printed told.4.1 told.5)

  -- the last event found no memory, or the last line wasn't read for want of it
  last_written : (answers : List Answer) → answers ≡ Err refusals.OutOfMemory ∷ [] → out' ≡ waits → WritesReplies (so_far.answers ++ answers) out out' (Err refusals.OutOfMemory)
  last_written answers is still =
      subst (λ (o : SinkState). WritesReplies (so_far.answers ++ answers) out o (Err refusals.OutOfMemory)) (sym still)
      (subst (λ (a : List Answer). WritesReplies (so_far.answers ++ a) out waits (Err refusals.OutOfMemory)) (sym is)
      (all_written (so_far.answers ++ Err refusals.OutOfMemory ∷ []) out waits (Err refusals.OutOfMemory) (λ no. absurd (cc no))
      (printed_then out waits waits so_far.answers (Err refusals.OutOfMemory ∷ []) so_far.printed (Printed-start waits)) so_far.handed_on))

  memory_ends : TurnsLine mid new lines lines' between input' waits out' (Err refusals.OutOfMemory) → RunsAll old new input input' out out' (Err refusals.OutOfMemory)
  memory_ends turn =
      let told = turn.line so_far.text so_far.given so_far.has in
      let text = so_far.text ++ turn.piece in
      ⊎_elim
      (λ ran.
      ended (Err refusals.OutOfMemory) (Err refusals.OutOfMemory) turn
      (more_lines text told.0 turn.events told.1 ran.0, inr (so_far.answers, so_far.go_on, ap (λ (a : List Answer). so_far.answers ++ a) ran.1))
      (last_written turn.answers ran.1 ran.2))
      (λ idle.
      ended (Err refusals.OutOfMemory) (Err refusals.OutOfMemory) turn (
        record {
          lines = so_far.given;
          begin = front_begins input' text so_far.given told.0 (given_begin input' lines' text (so_far.given ++ told.0 ∷ []) told.1);
          say = subst (λ (e : List Event). Says 1 so_far.given e AllRead) (sym (same_events turn.events turn.answers idle)) so_far.say;
        },
        inl (same_go_on turn.events turn.answers idle),
      )
      (idle_written turn.events turn.answers (Err refusals.OutOfMemory) (λ is. absurd (cc is)) idle))
      told.2

  -- no line ends a replay otherwise
  unended : (refusal : Refusal) → ((text : List ℕ) (given : List (List ℕ)) (events : List Event) (answers : List Answer) → RunsLine between input' lines' text given events answers waits out' (Err refusal) → ⊥)
      → TurnsLine mid new lines lines' between input' waits out' (Err refusal) → RunsAll old new input input' out out' (Err refusal)
  unended refusal none turn = absurd (none (so_far.text ++ turn.piece) so_far.given turn.events turn.answers (turn.line so_far.text so_far.given so_far.has))

  pub some_has_run : (refusal : Refusal) → TurnsLine mid new lines lines' between input' waits out' (Err refusal) → RunsAll old new input input' out out' (Err refusal)
  some_has_run (refusals.Usage place) turn = usage_ends place turn
  some_has_run (refusals.Limit which number) turn = limit_ends which number turn
  some_has_run refusals.SourceFault turn = source_ends turn
  some_has_run refusals.SinkFault turn = sink_ends turn
  some_has_run refusals.OutOfMemory turn = memory_ends turn
  some_has_run (refusals.Plan fault) turn = unended (refusals.Plan fault) (λ text given events answers is. is) turn
  some_has_run (refusals.BadToken place) turn = unended (refusals.BadToken place) (λ text given events answers is. is) turn
  some_has_run (refusals.Stream fault) turn = unended (refusals.Stream fault) (λ text given events answers is. is) turn
  some_has_run (refusals.CannotApply place fault) turn = unended (refusals.CannotApply place fault) (λ text given events answers is. is) turn
  some_has_run (refusals.Redacted object block) turn = unended (refusals.Redacted object block) (λ text given events answers is. is) turn
  some_has_run (refusals.Full need largest) turn = unended (refusals.Full need largest) (λ text given events answers is. is) turn
  some_has_run (refusals.Damaged sector stated found) turn = unended (refusals.Damaged sector stated found) (λ text given events answers is. is) turn
  some_has_run refusals.NoPool turn = unended refusals.NoPool (λ text given events answers is. is) turn
  some_has_run (refusals.BadVersion number) turn = unended (refusals.BadVersion number) (λ text given events answers is. is) turn
  some_has_run refusals.DiskFault turn = unended refusals.DiskFault (λ text given events answers is. is) turn
  some_has_run refusals.Failed turn = unended refusals.Failed (λ text given events answers is. is) turn
