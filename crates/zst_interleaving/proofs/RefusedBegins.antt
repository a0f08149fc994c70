-- A receive whose BEGIN is refused.
use Rattle.std.proofs.Common.{◌≡◌, inl, inr, ℕ, ◌+◌, Bool, true, false, List, [], ◌∷◌, ◌++◌, length, nat_lt, Option, Ok, Err, refl, sym, ap, ◌∙◌, subst, cond, append_assoc}
use Rattle.zst_model.specs.declared.refusals.faults.Quantity.TheVariants as quantities
use Rattle.zst_model.specs.declared.refusals.plan_fault.PlanFault.{PlanFault}
use Rattle.zst_model.specs.declared.refusals.refusal.Refusal.{Refusal}
use Rattle.zst_model.specs.declared.refusals.refusal.Refusal.TheVariants as refusals
use Rattle.zst_model.specs.declared.sends.header.Header.{Header}
use Rattle.zst_model.specs.declared.sends.header.Point.{Point}
use Rattle.zst_model.specs.pools.KeptPool.{kept_of}
use Rattle.zst_model.specs.pools.Pool.{Partial, Pool}
use Rattle.zst_model.specs.sends.Headers.{Sent}
use Rattle.zst_plan.specs.RecvPlan.{recv_plan}
use Rattle.zst_plan.specs.declared.receive.RecvAsk.{RecvAsk}
use Rattle.zst_reader.specs.InputReads.{stream_limit}
use Rattle.zst_record.specs.Heads.{Covered}
use Rattle.zst_send.specs.Sends.{begun, begun_text}
use Rattle.zst_stream.specs.Reading.{reading}
use Rattle.zst_recv.specs.Feeds.{fault_of, fed_piece, new_records}
use Rattle.zst_recv.specs.ReceiveSteps.{Stage, Waits, Lives, Ends, Fed, Goes, Stops, at_stage, batch_of, left_by, pool_of}
use Rattle.zst_replication.specs.Grounds.{Grounds}
use Rattle.zst_replication.specs.Outcomes.{HasNothing}
use Rattle.zst_replication.specs.Replicas.{IsSendable}
use Rattle.zst_replication.specs.Resumption.{AppliedBehind}
use Rattle.zst_replication.proofs.AppliedRecords.{Applied, AppliedFront, batch_somewhere}
use Rattle.zst_replication.proofs.FeedSteps.{GoesOn, StopsBy, goes_on, new_are, stops_by}
use Rattle.zst_replication.proofs.ReplicaLemmas.{rest, streamed}
use Rattle.zst_replication.proofs.RunningPools.{Runs}
use Rattle.zst_replication.proofs.StoppedReceives.{start_untouched}
use Rattle.zst_replication.proofs.StreamRecords.{begin_is}
use Rattle.zst_sessions.specs.Moves.{feeding}
use Rattle.zst_interleaving.specs.Courses.{IsFrontOf}
use Rattle.zst_interleaving.specs.Feeds.{RefusedLeaveNothing}
use Rattle.zst_interleaving.proofs.Moments.{covered_by}
use Rattle.zst_interleaving.proofs.OneFeed.{CommitsOnce, begins_so, commits_once, fed_applied}

module _ (laws : Grounds) (also : Sent) (start : Option Point) (can : IsSendable also start) (ask : RecvAsk) (pool : Pool) (fault : PlanFault) (refused : recv_plan ask (begun also start) pool ≡ Err fault) where
  abbrev whole_text : List Covered
  whole_text = (reading (begun_text also start)).covered

  abbrev Nothing : Pool → Type 0
  Nothing next = HasNothing ask (kept_of pool) (kept_of next)

  -- nothing of it was planned
  not_begun : (front left : List Covered) (flags : ℕ) (partial : Partial) → AppliedBehind ask pool front flags partial → front ++ left ≡ whole_text → ⊥
  not_begun front left flags partial behind split =
      let header : behind.is.header ≡ begun also start =
      begin_is (begun also start) (rest laws also start can) whole_text (streamed laws also start can) behind.first behind.rest left
      (sym (ap (λ (cs : List Covered). cs ++ left) behind.records_are) ∙ split) behind.is.header behind.len behind.head_is in
      let both = sym (subst (λ (h : Header). recv_plan ask h pool ≡ Ok behind.is.plan) header behind.is.planned) ∙ refused in cc

  moment : (front left : List Covered) (stage : Stage) (next : Pool) → Runs ask pool stage next → Applied ask pool pool stage front → front ++ left ≡ whole_text → Nothing next
  moment front left Waits next runs applied split = start_untouched ask pool next runs
  moment front left (Lives flags partial) next runs behind split = absurd (not_begun front left flags partial behind split)
  moment front left (Ends partial) next runs end split =
      absurd (not_begun end.front (end.last ∷ (end.more ++ left)) end.flags partial end.behind
      (sym (append_assoc end.front (end.last ∷ end.more) left) ∙ sym (ap (λ (cs : List Covered). cs ++ left) end.records_are) ∙ split))

  module _ (text piece : List ℕ) (none : (reading text).covered ≡ []) (of : IsFrontOf (text ++ piece) also start) where
    abbrev records : List Covered
    records = new_records text piece

    abbrev first : Applied ask pool pool Waits (reading text).covered
    first = (refl, none)

    left : (left : List Covered) × ((reading (text ++ piece)).covered ++ left ≡ whole_text)
    left = covered_by laws also start can (text ++ piece) of

    goes_nothing : (next : Pool) (after : Stage) → fed_piece ask text piece Waits pool ≡ Goes next after → Nothing next
    goes_nothing next after e = go (commits_once ask pool Waits records next refl tt on.put_is)
      where
        on : GoesOn ask records (fault_of (reading (text ++ piece)).outcome) Waits after pool next
        on = goes_on ask records (fault_of (reading (text ++ piece)).outcome) Waits after pool next e

        go : CommitsOnce ask pool Waits (batch_of ask pool records (at_stage Waits)).batch next → Nothing next
        go (inl same) = start_untouched ask pool next same.0
        go (inr runs) =
            moment (reading (text ++ piece)).covered left.0 after next (subst (λ (s : Stage). Runs ask pool s next) on.after_is runs)
            (fed_applied laws.applied laws.fronts ask pool pool next text piece Waits after first e) left.1

    stops_nothing : (next : Pool) (refusal : Refusal) → fed_piece ask text piece Waits pool ≡ Stops next refusal → Nothing next
    stops_nothing next refusal e = go (stops_by ask records (fault_of (reading (text ++ piece)).outcome) Waits pool next refusal e)
      where
        some : AppliedFront laws.applied ask pool pool ((reading text).covered ++ records) (batch_of ask pool records (at_stage Waits)).batch.stage
        some = batch_somewhere laws.applied ask pool pool (reading text).covered records (at_stage Waits) (begins_so laws.fronts text piece) first

        split : some.front ++ (some.left ++ left.0) ≡ whole_text
        split = sym (append_assoc some.front some.left left.0) ∙ ap (λ (cs : List Covered). cs ++ left.0) (some.split ∙ sym (new_are laws.fronts text piece)) ∙ left.1

        taken : CommitsOnce ask pool Waits (batch_of ask pool records (at_stage Waits)).batch next → Nothing next
        taken (inl same) = start_untouched ask pool next same.0
        taken (inr runs) = moment some.front (some.left ++ left.0) (batch_of ask pool records (at_stage Waits)).batch.stage next runs some.applied split

        go : StopsBy Waits pool (batch_of ask pool records (at_stage Waits)).batch next → Nothing next
        go (inl same) = start_untouched ask pool next same
        go (inr kept) = taken (commits_once ask pool Waits records next refl tt kept.1)

    fed_nothing : Nothing (pool_of (fed_piece ask text piece Waits pool))
    fed_nothing = go (fed_piece ask text piece Waits pool) refl
      where
        go : (f : Fed) → fed_piece ask text piece Waits pool ≡ f → Nothing (pool_of f)
        go (Goes next after) e = goes_nothing next after e
        go (Stops next refusal) e = stops_nothing next refusal e

    feeding_nothing : Nothing (pool_of (feeding ask text piece Waits pool))
    feeding_nothing = go (nat_lt stream_limit (length text + length piece))
      where
        go : (t : Bool) → Nothing (pool_of (cond t (Stops (left_by Waits pool) (refusals.Limit quantities.Stream stream_limit)) (fed_piece ask text piece Waits pool)))
        go true = start_untouched ask pool pool refl
        go false = fed_nothing

pub refused_nothing : Grounds → RefusedLeaveNothing
refused_nothing laws also start ask pool text piece fault can none of refused = feeding_nothing laws also start can ask pool fault refused text piece none of
