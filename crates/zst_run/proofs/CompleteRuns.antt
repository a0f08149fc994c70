-- Runs that nothing stands in the way of.
use Rattle.std.proofs.Common.{◌≡◌, ◌≢◌, inl, inr, ◌⊎◌, ⊎_elim, ℕ, ◌≤◌, ◌+◌, ◌*◌, Bool, List, [], ◌∷◌, ◌++◌, length, None, Result, Ok, Err, refl, sym, ap, ◌∙◌, subst, arith}
use Rattle.std.specs.Prelude.{IfErr, IfOk, ◌↔◌}
use Rattle.std.specs.List.{concat}
use Rattle.std.specs.Result.{result_map_both}
use Rattle.std.proofs.lemmas.List.{append-nil, append_cancel_left, length-append}
use Rattle.zst_outside.specs.Images.{DiskState}
use Rattle.zst_outside.specs.States.{SourceState, SinkState, Gave}
use Rattle.zst_uber.specs.Slots.{latest}
use Rattle.zst_uber.specs.declared.uber.Uber.{Uber}
use Rattle.zst_check.specs.Checks.{IsReportBy, report_line}
use Rattle.zst_check.specs.Reports.{NoneIsBoth}
use Rattle.zst_check.specs.declared.report.Report.{Report}
use Rattle.zst_check.specs.declared.report.Report.TheVariants.{Sound, Unsound}
use Rattle.zst_image.specs.Bodies.{Body}
use Rattle.zst_image.specs.Reads.{kept_rows}
use Rattle.zst_laws.specs.RedactionLists.{AreListed}
use Rattle.zst_model.specs.declared.pools.command.Command.{Command}
use Rattle.zst_model.specs.declared.pools.command.Command.TheVariants as commands
use Rattle.zst_model.specs.declared.refusals.faults.Quantity.TheVariants as quantities
use Rattle.zst_model.specs.declared.refusals.plan_fault.PlanFault.{PlanFault}
use Rattle.zst_model.specs.declared.refusals.refusal.Refusal.{Refusal}
use Rattle.zst_model.specs.declared.refusals.refusal.Refusal.TheVariants as refusals
use Rattle.zst_model.specs.declared.refusals.stream_fault.StreamFault.{StreamFault}
use Rattle.zst_model.specs.declared.refusals.stream_fault.StreamFault.TheVariants.{Truncated}
use Rattle.zst_model.specs.pools.Pool.{Pool}
use Rattle.zst_model.specs.pools.Soundness as soundness
use Rattle.zst_model.specs.pools.Step.{Stepped, stepped}
use Rattle.zst_model.specs.sends.Headers.{Sent}
use Rattle.zst_dir.specs.Rows.{Rows}
use Rattle.zst_plan.specs.declared.receive.RecvAsk.{RecvAsk}
use Rattle.zst_reader.specs.InputReads.{stream_limit}
use Rattle.zst_recv.specs.Feeds.{receives}
use Rattle.zst_recv.specs.ReceiveSteps.{Stops}
use Rattle.zst_recv.specs.Tokens.{token_told}
use Rattle.zst_send.specs.Sends.{begun_text}
use Rattle.zst_stream.specs.Laws.{FrontsAgree}
use Rattle.zst_stream.specs.Reading.{complete, faulty, reading, waiting}
use Rattle.zst_token.specs.Spelling.{token_text}
use Rattle.zst_token.specs.declared.token.Token.{Token}
use Rattle.zst_run.specs.Checks.{AnswersReport, OfCheck, status_of_report}
use Rattle.zst_run.specs.Commands.{Answers, IsFull, IsPoolRefusal, Makes, OfMaking, OfStepping, Opened}
use Rattle.zst_run.specs.Completeness.{AreOfFront, DoneIsTold, DoneOrNoMemory, HasRoomFor, HasRoomToReclaim, HasText, NoneCounted, ReceivesComplete, SendsComplete, StepsComplete}
use Rattle.zst_run.specs.Completeness.{CreatesComplete, TokensComplete, ChecksComplete, DumpsComplete}
use Rattle.zst_run.specs.Dumps.{Ends}
use Rattle.zst_run.specs.Receives.{ArePieces, IsReceiveRefusal, ReceiveEnds, Refused}
use Rattle.zst_run.specs.Replies.{Replied}
use Rattle.zst_run.specs.Runs.{status_of}
use Rattle.zst_run.specs.Sends.{SendEnds, TextEnds, start_of}
use Rattle.zst_run.specs.Tokens.{AnswersBy, OfToken}
use Rattle.zst_run.proofs.CommandLemmas.{reclaim_or_not}
use Rattle.zst_run.proofs.ImageTokens.{as_answer}

pub done_is_told : DoneIsTold
done_is_told note note' status ends (Ok done) alone told = inl told.0
done_is_told note note' status ends (Err refusal) (inl is) told = absurd (cc is)
done_is_told note note' status ends (Err refusal) (inr is) told =
    let same : refusal ≡ refusals.OutOfMemory = cc is in inr (told.0 ∙ ap status_of same)

-- ---- sends

text_done : (text : List ℕ) (before after : ℕ) (out out' : SinkState) (result : Result (Unit {0}) Refusal) → length text ≤ stream_limit
    → NoneCounted before after → NoneCounted out.faults out'.faults → TextEnds text before after out out' result → DoneOrNoMemory result
text_done text before after out out' (Ok done) within disk sink ends = inl refl
text_done text before after out out' (Err (refusals.Limit which number)) within disk sink ends = absurd (let longer = ends.2.longer in omega arith)
text_done text before after out out' (Err refusals.DiskFault) within disk sink ends = absurd (disk ends.0)
text_done text before after out out' (Err refusals.SinkFault) within disk sink ends = absurd (sink ends)
text_done text before after out out' (Err refusals.OutOfMemory) within disk sink ends = inr refl
text_done text before after out out' (Err other) within disk sink ends = absurd ends

pub sends_complete : (here here' : DiskState) → SendsComplete here here'
sends_complete here here' request pool sent out out' result honest reads is within disk sink sends =
    text_done (begun_text sent (start_of request)) here.faults here'.faults out out' result within disk sink
    (subst (λ (planned : Result Sent PlanFault). SendEnds (start_of request) planned here.faults here'.faults out out' result) is (sends.sends pool honest reads).ends)

-- ---- receives

-- what was read in pieces is of the front of what the input has, and all of it where the input told its end
of_front : (text : List ℕ) (input input' : SourceState) (pieces : List (List ℕ)) → ArePieces pieces → Gave input input' (concat pieces) → (has : HasText text input input')
    → (concat pieces ++ has.unread ≡ text) × AreOfFront text pieces
of_front text input input' pieces are gave has =
    let same : concat pieces ≡ has.read = append_cancel_left input.given (concat pieces) has.read (sym gave ∙ has.gave) in
    let is : concat pieces ++ has.unread ≡ text = ap (λ (read : List ℕ). read ++ has.unread) same ∙ has.is in
    (is, (are, (has.unread, is)))

module _ (tight : Bool) (ask : RecvAsk) (pool : Pool) (text : List ℕ) (pieces : List (List ℕ)) (here here' : DiskState) (input input' : SourceState)
    (has : HasText text input input') (is : concat pieces ++ has.unread ≡ text) (complete_is : (reading text).outcome ≡ complete) (accepts : (after : Pool) (refusal : Refusal) → receives ask pool pieces ≢ Stops after refusal) where
  -- a refusal of the definition doesn't come
  never_refused : (refusal : Refusal) → Refused tight ask pool pieces here' refusal → ⊥
  never_refused refusal refused = accepts refused.after refusal refused.is

  -- nor does the input end where more is waited for
  never_cut : (at : ℕ) → ReceiveEnds tight ask pool pieces here' input input' (Err (refusals.Stream (Truncated at))) → ⊥
  never_cut at ends =
      let all : concat pieces ≡ text = sym (append-nil (concat pieces)) ∙ ap (λ (rest : List ℕ). concat pieces ++ rest) (sym (has.whole ends.2)) ∙ is in
      let waits : waiting ≡ complete = sym ends.0 ∙ ap (λ (t : List ℕ). (reading t).outcome) all ∙ complete_is in cc

  never_past : (number : ℕ) → length text ≤ stream_limit → ReceiveEnds tight ask pool pieces here' input input' (Err (refusals.Limit quantities.Stream number)) → ⊥
  never_past number within ends =
      let parts : length (concat pieces) + length has.unread ≡ length text = sym (length-append (concat pieces) has.unread) ∙ ap length is in
      let longer = ends.1 in omega arith

  refusal_done : length text ≤ stream_limit → NoneCounted here.faults here'.faults → NoneCounted input.faults input'.faults → (refusal : Refusal)
      → IsReceiveRefusal here here' input input' refusal → ((need largest : ℕ) → refusal ≢ refusals.Full need largest)
      → ReceiveEnds tight ask pool pieces here' input input' (Err refusal) → refusal ≡ refusals.OutOfMemory
  refusal_done within disk source (refusals.Stream (Truncated at)) refused room ends = absurd (never_cut at ends)
  refusal_done within disk source refusals.SourceFault refused room ends = absurd (source (refused.cause refl))
  refusal_done within disk source refusals.DiskFault refused room ends = absurd (disk (refused.pool.cause refl))
  refusal_done within disk source refusals.OutOfMemory refused room ends = refl
  refusal_done within disk source (refusals.Full need largest) refused room ends = absurd (room need largest refl)
  refusal_done within disk source (refusals.Limit quantities.Stream number) refused room ends = absurd (never_past number within ends)
  refusal_done within disk source (refusals.Damaged sector stated found) refused room ends = absurd ends
  refusal_done within disk source refusals.NoPool refused room ends = absurd ends
  refusal_done within disk source (refusals.BadVersion number) refused room ends = absurd ends
  refusal_done within disk source refusal refused room ends = absurd (never_refused refusal ends)

-- the line of what is done is written where the output counted no fault
replied_done : (out out' : SinkState) (lines : List (List ℕ)) (result : Result (Unit {0}) Refusal) → NoneCounted out.faults out'.faults → Replied out out' (Ok lines) result → DoneOrNoMemory result
replied_done out out' lines (Ok done) sink replied = inl refl
replied_done out out' lines (Err refusal) sink replied = absurd (sink replied.0.fault)

answer_done : (out out' : SinkState) (answer : Result (List (List ℕ)) Refusal) (result : Result (Unit {0}) Refusal) → NoneCounted out.faults out'.faults
    → ((refusal : Refusal) → answer ≡ Err refusal → refusal ≡ refusals.OutOfMemory) → Replied out out' answer result → DoneOrNoMemory result
answer_done out out' (Ok lines) result sink alone replied = replied_done out out' lines result sink replied
answer_done out out' (Err refusal) result sink alone replied =
    inr (subst (λ (r : Refusal). result ≡ Err r) (alone refusal refl) replied.0)

pub receives_complete : (here here' : DiskState) → ReceivesComplete here here'
receives_complete here here' tight ask body rows pool text input input' out out' result honest reads tells has within takes room disk source sink run =
    let went = run.does in
    let found = of_front text input input' went.pieces went.are_pieces went.consumed has in
    let short : (need largest : ℕ) → run.answer ≡ Err (refusals.Full need largest) → ⊥ =
    λ need largest full. let costs = went.cost honest need largest full in room costs.0 costs.1 went.pieces costs.2 found.1 costs.3.cost in
    let ends = went.ends tight body rows pool honest reads tells in
    answer_done out out' run.answer result sink
    (λ refusal is. refusal_done tight ask pool text went.pieces here here' input input' has found.0 takes.whole (takes.accepts went.pieces found.1) within disk source refusal
    (subst (λ (answer : Result (List (List ℕ)) Refusal). IfErr answer (IsReceiveRefusal here here' input input')) is went.refused)
    (λ need largest full. short need largest (is ∙ ap (λ (r : Refusal). Err r) full))
    (subst (λ (answer : Result (List (List ℕ)) Refusal). ReceiveEnds tight ask pool went.pieces here' input input' answer) is ends))
    run.replied

-- ---- the other lines

-- E24 doesn't come where there is room
never_full : (command : Command) (body : Body) (rows : Rows) (pool : Pool) (now : ℕ) (here here' : DiskState) (after : Result Stepped Refusal) (need largest : ℕ)
    → (command ≢ commands.Reclaim → HasRoomFor command body rows pool after) → (command ≡ commands.Reclaim → HasRoomToReclaim here)
    → Opened now command here here' (Err (refusals.Full need largest)) → IsFull command body rows pool after need largest → ⊥
never_full command body rows pool now here here' after need largest room unreached opened full =
    ⊎_elim
    (λ one.
    let found = (opened.2.reclaims one).full need largest refl in
    let enough = unreached one opened.0 opened.1 found.1.writable found.1.taken found.1.count opened.2.opens found.1.unreached found.1.may_be_left found.1.few in
    let before = found.1.before in
    omega (arith, before, enough))
    (λ other. ⊎_elim (λ most. let short = (full.short other).1.room in omega (arith, short, most)) (λ less. less (full.costs other)) (room other))
    (reclaim_or_not command)

step_refusal : (tight : Bool) (command : Command) (body : Body) (rows : Rows) (pool : Pool) (done : Stepped) (now : ℕ) (here here' : DiskState) (after : Result Stepped Refusal) (refusal : Refusal)
    → after ≡ Ok done → (command ≢ commands.Reclaim → HasRoomFor command body rows pool after) → (command ≡ commands.Reclaim → HasRoomToReclaim here) → NoneCounted here.faults here'.faults
    → IsPoolRefusal OfStepping here here' refusal → Opened now command here here' (Err refusal) → Answers tight command body rows pool here here' after (Err refusal) → refusal ≡ refusals.OutOfMemory
step_refusal tight command body rows pool done now here here' after refusals.DiskFault is room unreached disk refused opened answers = absurd (disk (refused.cause refl))
step_refusal tight command body rows pool done now here here' after (refusals.Full need largest) is room unreached disk refused opened answers =
    absurd (never_full command body rows pool now here here' after need largest room unreached opened answers.0)
step_refusal tight command body rows pool done now here here' after refusals.OutOfMemory is room unreached disk refused opened answers = refl
step_refusal tight command body rows pool done now here here' after refusal is room unreached disk refused opened answers =
    absurd (let both : Ok done ≡ Err refusal = sym is ∙ answers.0 in cc)

pub steps_complete : (here here' : DiskState) → StepsComplete here here'
steps_complete here here' tight now command body rows pool done out out' result honest reads is room unreached disk sink steps =
    answer_done out out' steps.answer result sink
    (λ refusal e. step_refusal tight command body rows pool done now here here' (stepped [] now command pool) refusal is room unreached disk
    (subst (λ (answer : Result (List (List ℕ)) Refusal). IfErr answer (IsPoolRefusal OfStepping here here')) e steps.does.refused)
    (subst (λ (answer : Result (List (List ℕ)) Refusal). Opened now command here here' answer) e (steps.does.opened honest))
    (subst (λ (answer : Result (List (List ℕ)) Refusal). Answers tight command body rows pool here here' (stepped [] now command pool) answer) e (steps.does.answers tight body rows pool honest reads)))
    steps.replied

create_refusal : (sectors id : ℕ) (here here' : DiskState) (refusal : Refusal) → latest here.seen ≡ None → 512 * sectors ≤ here.size → NoneCounted here.faults here'.faults
    → IsPoolRefusal OfMaking here here' refusal → Makes sectors id here here' (Err refusal) → refusal ≡ refusals.OutOfMemory
create_refusal sectors id here here' (refusals.Plan fault) none room disk refused makes = absurd (makes.1 none)
create_refusal sectors id here here' (refusals.Limit which number) none room disk refused makes = absurd (let small = makes.3 in omega (arith, small, room))
create_refusal sectors id here here' refusals.OutOfMemory none room disk refused makes = refl
create_refusal sectors id here here' refusals.DiskFault none room disk refused makes = absurd (disk (refused.cause refl))
create_refusal sectors id here here' refusal none room disk refused makes = absurd makes

pub creates_complete : (here here' : DiskState) → CreatesComplete here here'
creates_complete here here' sectors id out out' result honest none room disk sink creates =
    answer_done out out' creates.answer result sink
    (λ refusal e. create_refusal sectors id here here' refusal none room disk
    (subst (λ (answer : Result (List (List ℕ)) Refusal). IfErr answer (IsPoolRefusal OfMaking here here')) e creates.does.refused)
    (subst (λ (answer : Result (List (List ℕ)) Refusal). Makes sectors id here here' answer) e (creates.does.makes honest)))
    creates.replied

token_refusal : (dataset : List ℕ) (token : Token) (told : Result Token PlanFault) (here here' : DiskState) (refusal : Refusal) → told ≡ Ok token → NoneCounted here.faults here'.faults
    → IsPoolRefusal (OfToken dataset) here here' refusal → AnswersBy told (Err refusal) → refusal ≡ refusals.OutOfMemory
token_refusal dataset token told here here' refusals.DiskFault is disk refused answers = absurd (disk (refused.cause refl))
token_refusal dataset token told here here' refusals.OutOfMemory is disk refused answers = refl
token_refusal dataset token told here here' refusal is disk refused answers =
    absurd (let both : Err refusal ≡ Ok token = answers ∙ ap as_answer is in cc)

token_done : (out out' : SinkState) (answer : Result Token Refusal) (result : Result (Unit {0}) Refusal) → NoneCounted out.faults out'.faults
    → ((refusal : Refusal) → answer ≡ Err refusal → refusal ≡ refusals.OutOfMemory) → Replied out out' (result_map_both (λ token. token_text token ∷ []) (λ refusal. refusal) answer) result → DoneOrNoMemory result
token_done out out' (Ok token) result sink alone replied = replied_done out out' (token_text token ∷ []) result sink replied
token_done out out' (Err refusal) result sink alone replied = inr (subst (λ (r : Refusal). result ≡ Err r) (alone refusal refl) replied.0)

pub tokens_complete : (here here' : DiskState) → TokensComplete here here'
tokens_complete here here' dataset pool token out out' result honest reads is disk sink tokens =
    token_done out out' tokens.answer result sink
    (λ refusal e. token_refusal dataset token (token_told dataset pool) here here' refusal is disk
    (subst (λ (answer : Result Token Refusal). IfErr answer (IsPoolRefusal (OfToken dataset) here here')) e tokens.tells.refused)
    (subst (λ (answer : Result Token Refusal). AnswersBy (token_told dataset pool) answer) e (tokens.tells.answers pool honest reads)))
    tokens.replied

-- where the image reads as a pool a check is refused by the disk or by want of memory alone
check_refusal : (here here' : DiskState) (body : Body) (rows : Rows) (pool : Pool) (refusal : Refusal) → NoneCounted here.faults here'.faults
    → IsPoolRefusal OfCheck here here' refusal → AnswersReport here body rows pool (Err refusal) → refusal ≡ refusals.OutOfMemory
check_refusal here here' body rows pool refusals.DiskFault disk refused answers = absurd (disk (refused.cause refl))
check_refusal here here' body rows pool refusals.OutOfMemory disk refused answers = refl
check_refusal here here' body rows pool refusal disk refused answers = absurd answers

-- its status tells whether the pool is sound: no pool has reports of both kinds
tells_sound : NoneIsBoth → (image : List ℕ) (uber : Uber) (rows : Rows) (pool : Pool) (ends : ℕ) (report : Report) → IsReportBy image uber rows pool report → ends ≡ status_of_report report
    → (ends ≡ 0) ↔ (soundness.Sound pool × AreListed pool)
tells_sound alone image uber rows pool ends (Sound blocks) is status = (λ none. (is.1, is.2), λ sound. status)
tells_sound alone image uber rows pool ends (Unsound earlier later object block) is status =
    (λ none. absurd (omega (arith, none, status)), λ sound. absurd (alone pool 0 0 0 earlier later object block (refl, sound.0, sound.1) is))

check_done : NoneIsBoth → (here here' : DiskState) (body : Body) (rows : Rows) (pool : Pool) (out out' : SinkState) (answer : Result Report Refusal) (ends : ℕ) (result : Result (Unit {0}) Refusal)
    → NoneCounted here.faults here'.faults → NoneCounted out.faults out'.faults → AnswersReport here body rows pool answer → IfErr answer (IsPoolRefusal OfCheck here here')
    → IfOk answer (λ report. ends ≡ status_of_report report) → Replied out out' (result_map_both (λ report. report_line report ∷ []) (λ refusal. refusal) answer) result
    → DoneOrNoMemory result × (result ≡ Ok tt → (ends ≡ 0) ↔ (soundness.Sound pool × AreListed pool))
check_done alone here here' body rows pool out out' (Ok report) ends result disk sink answers refused status replied =
    (replied_done out out' (report_line report ∷ []) result sink replied, λ done. tells_sound alone here.seen body.uber (kept_rows rows) pool ends report answers status)
check_done alone here here' body rows pool out out' (Err refusal) ends result disk sink answers refused status replied =
    (inr (replied.0 ∙ ap (λ (r : Refusal). Err r) (check_refusal here here' body rows pool refusal disk refused answers)), λ done. absurd (let both : Err refusal ≡ Ok tt = sym replied.0 ∙ done in cc))

pub checks_complete : NoneIsBoth → (here here' : DiskState) → ChecksComplete here here'
checks_complete alone here here' pool out out' result honest reads disk sink checks =
    check_done alone here here' reads.0 reads.1 pool out out' checks.answer checks.ends result disk sink (checks.tells.answers reads.0 reads.1 pool honest reads.2) checks.tells.refused checks.ends_is checks.replied

-- a front of a text that is read to END isn't refused
front_passes : FrontsAgree → (read unread : List ℕ) (fault : StreamFault) → (reading (read ++ unread)).outcome ≡ complete → (reading read).outcome ≡ faulty fault → ⊥
front_passes law read unread fault whole is = by (law read unread).outcome
  where
    by : ((reading read).outcome ≡ waiting) ⊎ (((reading read).outcome ≡ (reading (read ++ unread)).outcome) × ((law read unread).others ≡ [])) → ⊥
    by (inl waits) = absurd (let both : waiting ≡ faulty fault = sym waits ∙ is in cc)
    by (inr same) = absurd (let both : faulty fault ≡ complete = sym is ∙ same.0 ∙ whole in cc)

module _ (law : FrontsAgree) (text : List ℕ) (input input' : SourceState) (out out' : SinkState) (has : HasText text input input') (whole : (reading text).outcome ≡ complete)
    (read : List ℕ) (is : read ++ has.unread ≡ text) where
  dump_done : length text ≤ stream_limit → NoneCounted input.faults input'.faults → NoneCounted out.faults out'.faults → (result : Result (Unit {0}) Refusal)
      → Ends read input input' out out' result → DoneOrNoMemory result
  dump_done within source sink (Ok done) ends = inl refl
  dump_done within source sink (Err (refusals.Stream (Truncated at))) ends =
      let all : read ≡ text = sym (append-nil read) ∙ ap (λ (rest : List ℕ). read ++ rest) (sym (has.whole ends.2)) ∙ is in
      absurd (let both : waiting ≡ complete = sym ends.0 ∙ ap (λ (t : List ℕ). (reading t).outcome) all ∙ whole in cc)
  dump_done within source sink (Err (refusals.Stream fault)) ends =
      absurd (front_passes law read has.unread _ (ap (λ (t : List ℕ). (reading t).outcome) is ∙ whole) ends.0)
  dump_done within source sink (Err (refusals.Limit which number)) ends =
      let parts : length read + length has.unread ≡ length text = sym (length-append read has.unread) ∙ ap length is in
      absurd (let longer = ends.3.longer in omega arith)
  dump_done within source sink (Err refusals.SourceFault) ends = absurd (source ends.1)
  dump_done within source sink (Err refusals.SinkFault) ends = absurd (sink ends.1)
  dump_done within source sink (Err refusals.OutOfMemory) ends = inr refl
  dump_done within source sink (Err other) ends = absurd ends

pub dumps_complete : FrontsAgree → DumpsComplete
dumps_complete law text input input' out out' result has within whole source sink dumps =
    let same : dumps.text ≡ has.read = append_cancel_left input.given dumps.text has.read (sym dumps.consumed ∙ has.gave) in
    dump_done law text input input' out out' has whole dumps.text (ap (λ (read : List ℕ). read ++ has.unread) same ∙ has.is) within source sink result dumps.ends
