-- The rest of a stream, which a token asked for, received in any number of runs.
use Rattle.std.specs.Prelude.{Bool, true, false, if◌then◌else◌, ◌≤◌, ◌<◌, ◌^◌, Result, Ok, Err}
use Rattle.std.specs.List.{concat}
use Rattle.std.proofs.Common.{◌≡◌, ℕ, List, take, Option, Some, None, refl, sym, ap, ◌∙◌, subst}
use Rattle.zst_outside.specs.Images.{DiskState}
use Rattle.zst_outside.specs.States.{SourceState, Gave}
use Rattle.zst_model.specs.declared.refusals.faults.Lack.TheVariants as lacks
use Rattle.zst_model.specs.declared.refusals.plan_fault.PlanFault.{PlanFault}
use Rattle.zst_model.specs.declared.refusals.plan_fault.PlanFault.TheVariants as plans
use Rattle.zst_model.specs.declared.sends.header.Point.{Point}
use Rattle.zst_model.specs.pools.KeptPool.{kept_of}
use Rattle.zst_model.specs.pools.Pool.{Pool, IsPool, Partial, partial_of}
use Rattle.zst_model.specs.sends.Headers.{Sent, header_of, sent_view}
use Rattle.zst_model.specs.states.AppliedItems.{unless}
use Rattle.zst_model.specs.states.State.{number_bound}
use Rattle.zst_plan.specs.ResumePlan.{resumed_send}
use Rattle.zst_plan.specs.declared.receive.RecvAsk.{RecvAsk}
use Rattle.zst_send.specs.Openings.{rest_of}
use Rattle.zst_send.specs.Sends.{begun_text}
use Rattle.zst_recv.specs.Feeds.{receives}
use Rattle.zst_recv.specs.ReceiveSteps.{pool_of}
use Rattle.zst_recv.specs.Tokens.{token_of_partial}
use Rattle.zst_token.specs.PartialToken.{token_for}
use Rattle.zst_token.specs.declared.token.Token.{Token}
use Rattle.zst_replication.specs.MatchingBases.{OneMoreIsKept, RestCanBeSent, SentCanBeSent}
use Rattle.zst_replication.specs.Outcomes.{HasOneMore, Progress, base_name, course_on}
use Rattle.zst_replication.specs.Replicas.{AreOfStream, sent_state}
use Rattle.zst_replication.specs.Resumption.{Begun, Chain, GivesRest, GoneOn, RestIsReceived, ResumedStopsAreProgress}
use Rattle.zst_replication.specs.Resumption as resumption
use Rattle.zst_run.specs.Replication.{ChainsComplete, IsReadOf, IsRestReceiver, IsRestSender, RestsAreProgress, RunsAreChained, SentRestStands}
use Rattle.zst_run.specs.declared.send.SendRequest.TheVariants.{Rest}
use Rattle.zst_run.proofs.PlannedSends.{planned_of}
use Rattle.zst_run.proofs.PipedRuns.{KeepsWhole, each_image, first_of_stream, into_is, pieces_read, received_so, sendable, text_sent, whole}

-- ---- what a token asks for

-- a token without large blocks asks for what its plan gives
looked_up : (large : Bool) (plan : Result Sent PlanFault) (sent : Sent) → unless large (plans.Unsupported lacks.LargeBlocks) plan ≡ Ok sent → plan ≡ Ok sent
looked_up true plan sent is = absurd cc
looked_up false plan sent is = is

-- a token is told of a partial state that is kept, and has its point
record IsTold (target : List ℕ) (pool : Pool) (token : Token) : Type 0 where
  partial : Partial
  there : partial_of target pool ≡ Some partial
  point : partial.point ≡ token.point

told_of : (target : List ℕ) (pool : Pool) (token : Token) (found : Option Partial) → partial_of target pool ≡ found → token_of_partial target found ≡ Ok token → IsTold target pool token
unfolding token_for
told_of target pool token None is told = absurd cc
told_of target pool token (Some partial) is told = go partial.keep told
  where
    go : (kept : Bool) → (if kept then Ok (token_for partial.header partial.point) else Err (plans.NoPartial target)) ≡ Ok token → IsTold target pool token
    go true e = let same : token_for partial.header partial.point ≡ token = cc in record { partial = partial; there = is; point = ap (λ (t : Token). t.point) same }
    go false e = absurd cc

-- ---- the rest

module _ (can : RestCanBeSent) (tight : Bool) (token : Token) (receive : RecvAsk) (from into : Pool) (sent also : Sent) (here there there' : DiskState)
    (sender : IsRestSender token from sent also here) (receiver : IsRestReceiver tight token receive into there there') where
  pub lawful : IsPool into
  lawful = receiver.reads.described.lawful

  told : IsTold receive.target into token
  told = told_of receive.target into token (partial_of receive.target into) refl receiver.told

  pub gives_at : (point : Point) → point ≡ token.point → GivesRest sent also point
  gives_at point same = record {
    same_view = sender.same_view;
    sendable = can token from also point sender.reads.2.lawful
        (looked_up token.large (resumed_send token from) also (planned_of (rest_of token from) also sender.is)) sender.within
        (record {
          object = subst (λ (p : Point). p.object ≤ number_bound) (sym same) sender.is_token.object;
          offset = subst (λ (p : Point). p.offset < 2 ^ 64) (sym same) sender.is_token.offset;
        });
  }

  gives : GivesRest sent also told.partial.point
  gives = gives_at told.partial.point told.point

  -- the partial state that is there is the one that is told of
  same_partial : (partial : Partial) → partial_of receive.target into ≡ Some partial → told.partial ≡ partial
  same_partial partial there = let both : Some told.partial ≡ Some partial = sym told.there ∙ there in cc

  -- so that it has the token's point
  pub at_token : (partial : Partial) → partial_of receive.target into ≡ Some partial → partial.point ≡ token.point
  at_token partial there = sym (ap (λ (p : Partial). p.point) (same_partial partial there)) ∙ told.point

  -- what was read in pieces is of the rest
  of_rest : (pieces : List (List ℕ)) (input input' : SourceState) → IsReadOf (begun_text also (Some token.point)) input input' → Gave input input' (concat pieces) → AreOfStream pieces also (Some told.partial.point)
  of_rest pieces input input' read gave =
      subst (λ (p : Point). AreOfStream pieces also (Some p)) (sym told.point) (pieces_read (begun_text also (Some token.point)) input input' pieces read gave)

pub rest_stands : KeepsWhole → RestCanBeSent → RestIsReceived → OneMoreIsKept → (here here' there there' : DiskState) → SentRestStands here here' there there'
rest_stands keeps can law kept here here' there there' tight token receive from into partial sent also state out out' other other' input input' sender honest receiver underway sends received piped =
    let run = received.does in
    let text = text_sent (Rest token) from also here here' out out' piped.0 sender.reads sender.is honest sends piped.1 in
    let is = told can tight token receive from into sent also here there there' sender receiver in
    let of = of_rest can tight token receive from into sent also here there there' sender receiver run.pieces input input' (subst (λ (t : List ℕ). IsReadOf t input input') text piped.2) run.consumed in
    let gives = gives can tight token receive from into sent also here there there' sender receiver in
    let same = same_partial can tight token receive from into sent also here there there' sender receiver partial underway.there in
    let end = received_so tight receive into run.pieces there' input input' other other' received.answer (run.ends tight receiver.body receiver.rows into receiver.honest receiver.reads receiver.may) received.replied in
    let done = end.1 in
    let one = law sent also state receive into done.after partial done.partial run.pieces (lawful can tight token receive from into sent also here there there' sender receiver) underway
    (subst (λ (p : Partial). GivesRest sent also p.point) same gives) (subst (λ (p : Partial). AreOfStream run.pieces also (Some p.point)) same of) done.is in
    record {
      after = done.after;
      keeps = done.keeps;
      whole = one.0;
      is_target = one.1;
      more =
          subst (λ (p : Pool). HasOneMore p (kept_of done.after) receive.target partial.component partial.base (header_of sent) one.0)
          (whole keeps tight receiver.body receiver.rows into there.seen receiver.reads)
          (kept into done.after receive.target partial.component partial.base (header_of sent) one.0 one.2);
    }

pub rests_so : KeepsWhole → RestCanBeSent → ResumedStopsAreProgress → (here there there' : DiskState) → RestsAreProgress here there there'
rests_so keeps can law here there there' tight token receive from into partial sent also state result out out' input input' sender receiver underway received read =
    let run = received.does in
    let of = of_rest can tight token receive from into sent also here there there' sender receiver run.pieces input input' read run.consumed in
    let gives = gives can tight token receive from into sent also here there there' sender receiver in
    let same = same_partial can tight token receive from into sent also here there there' sender receiver partial underway.there in
    let course = course_on partial state in
    each_image (Progress receive (sent_view sent) course into) there there' tight receive receiver.body receiver.rows into result out out' input input' receiver.honest receiver.reads receiver.may received
    (λ n. subst (λ (p : Pool). Progress receive (sent_view sent) course p (kept_of (pool_of (receives receive into (take n run.pieces)))))
    (whole keeps tight receiver.body receiver.rows into there.seen receiver.reads)
    (law sent also state receive into partial (take n run.pieces) (lawful can tight token receive from into sent also here there there' sender receiver) underway
    (subst (λ (p : Partial). GivesRest sent also p.point) same gives)
    (first_of_stream n run.pieces also (Some partial.point) (subst (λ (p : Partial). AreOfStream run.pieces also (Some p.point)) same of))))

-- ---- chains

pub chained_so : SentCanBeSent → RestCanBeSent → (here there there' : DiskState) → RunsAreChained here there there'
chained_so fits can here there there' = record {
  first = λ tight ask receive from into sent component base result out out' input input' sender receiver begins received read.
      let run = received.does in
      let of : AreOfStream run.pieces sent None = pieces_read (begun_text sent None) input input' run.pieces read run.consumed in
      each_image (Chain sent receive.target component base) there there' tight receive receiver.body receiver.rows into result out out' input input' receiver.honest receiver.reads receiver.may received
      (λ n. Begun receive into (take n run.pieces) refl (into_is fits tight ask receive from into sent here there there' sender receiver) receiver.alone
      receiver.matches begins (sendable fits tight ask receive from into sent here there there' sender receiver)
      (first_of_stream n run.pieces sent None of));
  next = λ tight token receive from into sent also component base result out out' input input' chain sender receiver received read.
      let run = received.does in
      let is = told can tight token receive from into sent also here there there' sender receiver in
      let of = of_rest can tight token receive from into sent also here there there' sender receiver run.pieces input input' read run.consumed in
      each_image (Chain sent receive.target component base) there there' tight receive receiver.body receiver.rows into result out out' input input' receiver.honest receiver.reads receiver.may received
      (λ n. GoneOn also receive into is.partial (take n run.pieces) chain refl (lawful can tight token receive from into sent also here there there' sender receiver) is.there
      (gives can tight token receive from into sent also here there there' sender receiver) (first_of_stream n run.pieces also (Some is.partial.point) of));
}

pub chains_so : KeepsWhole → RestCanBeSent → resumption.ChainsComplete → OneMoreIsKept → (here there there' : DiskState) → ChainsComplete here there there'
chains_so keeps can law kept here there there' tight token receive from into sent also component base out out' input input' chain sender receiver received read =
    let run = received.does in
    let is = told can tight token receive from into sent also here there there' sender receiver in
    let end = received_so tight receive into run.pieces there' input input' out out' received.answer (run.ends tight receiver.body receiver.rows into receiver.honest receiver.reads receiver.may) received.replied in
    let done = end.1 in
    let one = law sent also receive.target component base receive into done.after is.partial done.partial run.pieces chain refl (lawful can tight token receive from into sent also here there there' sender receiver) is.there
    (gives can tight token receive from into sent also here there there' sender receiver) (of_rest can tight token receive from into sent also here there there' sender receiver run.pieces input input' read run.consumed) done.is in (
      done.after,
      done.keeps,
      subst (λ (p : Pool). HasOneMore p (kept_of done.after) receive.target component (base_name base) (header_of sent) (sent_state sent))
          (whole keeps tight receiver.body receiver.rows into there.seen receiver.reads)
          (kept into done.after receive.target component (base_name base) (header_of sent) (sent_state sent) one),
    )
