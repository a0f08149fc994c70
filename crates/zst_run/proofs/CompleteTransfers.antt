-- What one run sends another receives, where nothing stands in the way of either.
use Rattle.std.proofs.Common.{◌≡◌, ℕ, ◌≤◌, ◌+◌, Bool, List, [], ◌∷◌, ◌++◌, length, Option, Some, None, Result, Ok, refl, sym, ap, ◌∙◌, subst, arith}
use Rattle.std.specs.List.{concat}
use Rattle.std.proofs.lemmas.List.{append-nil, length-append}
use Rattle.zst_outside.specs.Images.{DiskState}
use Rattle.zst_outside.specs.States.{SinkState, SourceState}
use Rattle.zst_model.specs.declared.refusals.refusal.Refusal.{Refusal}
use Rattle.zst_model.specs.declared.sends.ask.SendAsk.{SendAsk}
use Rattle.zst_model.specs.declared.sends.header.Point.{Point}
use Rattle.zst_model.specs.pools.Limits.{last_number}
use Rattle.zst_model.specs.pools.Pool.{Partial, Pool}
use Rattle.zst_model.specs.sends.Headers.{Sent, choice_of}
use Rattle.zst_model.specs.states.State.{State}
use Rattle.zst_plan.specs.declared.receive.RecvAsk.{RecvAsk}
use Rattle.zst_record.specs.Payload.{stated_point}
use Rattle.zst_reader.specs.InputReads.{stream_limit}
use Rattle.zst_send.specs.Sends.{begun, begun_text}
use Rattle.zst_stream.specs.Items.{ViewIsRead}
use Rattle.zst_stream.specs.Reading.{complete, reading}
use Rattle.zst_token.specs.declared.token.Token.{Token}
use Rattle.zst_replication.specs.MatchingBases.{RestCanBeSent, SentCanBeSent}
use Rattle.zst_replication.specs.Replicas.{AreOfStream, IsSendable}
use Rattle.zst_replication.specs.Resumption.{IsUnderway}
use Rattle.zst_replication.specs.TakenSends.{CanCount, RestIsAccepted, SentIsAccepted}
use Rattle.zst_run.specs.Completeness.{AreOfFront, CanTake, CanTakeRest, DoneOrNoMemory, HasText, RestTransfersComplete, SendsWell, Takes, TransfersComplete}
use Rattle.zst_run.specs.Receives.{ArePieces}
use Rattle.zst_run.specs.Replication.{IsReceiver, IsRestReceiver, IsRestSender, IsSender}
use Rattle.zst_run.specs.declared.send.SendRequest.{SendRequest}
use Rattle.zst_run.specs.declared.send.SendRequest.TheVariants.{Named, Rest}
use Rattle.zst_run.specs.Sends.{ReadsFor, Sends, start_of, to_give}
use Rattle.zst_run.proofs.ChainedRuns.{at_token, gives_at, lawful}
use Rattle.zst_run.proofs.CompleteRuns.{receives_complete, sends_complete}
use Rattle.zst_run.proofs.PipedRuns.{into_is, sendable, text_sent}

-- ---- pieces of a front of what was sent

-- none is empty, so that there are no more of them than bytes
few_pieces : (pieces : List (List ℕ)) → ArePieces pieces → length pieces ≤ length (concat pieces)
few_pieces [] are = omega arith
few_pieces (piece ∷ []) are =
    let some = are.0 in
    let long : length (concat (piece ∷ [])) ≡ length piece + 0 = length-append piece [] in omega (arith, some, long)
few_pieces (piece ∷ next ∷ rest) are =
    let size = are.0 in
    let few = few_pieces (next ∷ rest) are.1 in
    let long : length (concat (piece ∷ next ∷ rest)) ≡ length piece + length (concat (next ∷ rest)) = length-append piece (concat (next ∷ rest)) in omega (arith, size, few, long)

-- a pool whose number can rise with each byte can count each of them
can_count : (pool : Pool) (text : List ℕ) (pieces : List (List ℕ)) → AreOfFront text pieces → pool.number + length text ≤ last_number → CanCount pool pieces
can_count pool text pieces front counts =
    let few = few_pieces pieces front.0 in
    let long = length-append (concat pieces) front.1.0 in
    let whole : length (concat pieces ++ front.1.0) ≡ length text = ap length front.1.1 in omega (arith, few, long, whole, counts)

of_stream : (sent : Sent) (start : Option Point) (pieces : List (List ℕ)) → AreOfFront (begun_text sent start) pieces → AreOfStream pieces sent start
of_stream sent start pieces front = (front.1.0, [], front.1.1 ∙ sym (append-nil (begun_text sent start)))

-- what was sent is read to its end
read_whole : ViewIsRead → (sent : Sent) (start : Option Point) → IsSendable sent start → (reading (begun_text sent start)).outcome ≡ complete
read_whole read sent start fit = (read (begun sent start) sent.snapshot.objects (choice_of sent) (stated_point start) fit.stated).0

-- ---- the run that sends

-- it is done, or no memory was left, and an input that has what it wrote has the text of its plan
module _ (request : SendRequest) (from : Pool) (sent : Sent) (here here' : DiskState) (out out' : SinkState) (result : Result (Unit {0}) Refusal)
    (reads : ReadsFor request from here.seen) (plan : to_give request from ≡ Ok sent) (gave : SendsWell request here here' out out' result) where
  sent_well : length (begun_text sent (start_of request)) ≤ stream_limit → DoneOrNoMemory result
  sent_well short = sends_complete here here' request from sent out out' result gave.honest reads plan short gave.disk gave.sink gave.sends

  has_sent : (text : List ℕ) (input input' : SourceState) → result ≡ Ok tt → out'.written ≡ out.written ++ text → HasText text input input'
      → HasText (begun_text sent (start_of request)) input input'
  has_sent text input input' done wrote has =
      let sends : Sends request here here' out out' (Ok tt) = subst (λ (r : Result (Unit {0}) Refusal). Sends request here here' out out' r) done gave.sends in
      subst (λ (t : List ℕ). HasText t input input') (text_sent request from sent here here' out out' text reads plan gave.honest sends wrote) has

-- ---- the two laws

-- the definition takes what was sent
sent_takes : SentCanBeSent → SentIsAccepted → ViewIsRead → (tight : Bool) (ask : SendAsk) (receive : RecvAsk) (from into : Pool) (sent : Sent) (here there there' : DiskState)
    → IsSender (Named ask) from sent here → IsReceiver tight receive into sent there there' → CanTake receive into sent there → Takes receive into (begun_text sent None)
sent_takes fits accepted read tight ask receive from into sent here there there' sender receiver can =
    let fit = sendable fits tight ask receive from into sent here there there' sender receiver in
    record {
      whole = read_whole read sent None fit;
      accepts = λ pieces front after refusal stops. accepted sent receive into after can.component can.base pieces refusal fit
          (into_is fits tight ask receive from into sent here there there' sender receiver) receiver.alone
          receiver.matches can.planned
          (of_stream sent None pieces front) (can_count into (begun_text sent None) pieces front can.counts) stops;
    }

pub transfers_complete : SentCanBeSent → SentIsAccepted → ViewIsRead → (here here' there there' : DiskState) → TransfersComplete here here' there there'
transfers_complete fits accepted read here here' there there' tight ask receive from into sent text out out' other other' input input' result answer sender receiver can gave got = (
  sent_well (Named ask) from sent here here' out out' result sender.reads sender.is gave can.short,
  λ done wrote has.
      receives_complete there there' tight receive receiver.body receiver.rows into (begun_text sent None) input input' other other' answer receiver.honest receiver.reads receiver.may
      (has_sent (Named ask) from sent here here' out out' result sender.reads sender.is gave text input input' done wrote has) can.short
      (sent_takes fits accepted read tight ask receive from into sent here there there' sender receiver can) can.room got.disk got.source got.sink got.receives,
)

-- so it takes the rest
rest_takes : RestCanBeSent → RestIsAccepted → ViewIsRead → (tight : Bool) (token : Token) (receive : RecvAsk) (from into : Pool) (partial : Partial) (sent also : Sent) (state : State)
    (here there there' : DiskState) → IsRestSender token from sent also here → IsRestReceiver tight token receive into there there' → IsUnderway sent receive.target state into partial
    → CanTakeRest receive into sent also token there → Takes receive into (begun_text also (Some token.point))
rest_takes fits accepted read tight token receive from into partial sent also state here there there' sender receiver underway can =
    let same = at_token fits tight token receive from into sent also here there there' sender receiver partial underway.there in
    let gives = gives_at fits tight token receive from into sent also here there there' sender receiver in
    record {
      whole = read_whole read also (Some token.point) (gives token.point refl).sendable;
      accepts = λ pieces front after refusal stops. accepted sent also state receive into after partial can.component pieces refusal
          (lawful fits tight token receive from into sent also here there there' sender receiver) can.limits underway (gives partial.point same) can.named
          (subst (λ (p : Point). AreOfStream pieces also (Some p)) (sym same) (of_stream also (Some token.point) pieces front))
          (can_count into (begun_text also (Some token.point)) pieces front can.counts) stops;
    }

pub rest_transfers_complete : RestCanBeSent → RestIsAccepted → ViewIsRead → (here here' there there' : DiskState) → RestTransfersComplete here here' there there'
rest_transfers_complete fits accepted read here here' there there' tight token receive from into partial sent also state text out out' other other' input input' result answer sender receiver underway can gave got = (
  sent_well (Rest token) from also here here' out out' result sender.reads sender.is gave can.short,
  λ done wrote has.
      receives_complete there there' tight receive receiver.body receiver.rows into (begun_text also (Some token.point)) input input' other other' answer
      receiver.honest receiver.reads receiver.may
      (has_sent (Rest token) from also here here' out out' result sender.reads sender.is gave text input input' done wrote has) can.short
      (rest_takes fits accepted read tight token receive from into partial sent also state here there there' sender receiver underway can)
      can.room got.disk got.source got.sink got.receives,
)
