-- What one run sent and another received.
use Rattle.std.specs.Prelude.{Bool, Result, Ok, Err, ◌-◌}
use Rattle.std.proofs.Common.{◌≡◌, ◌≢◌, inl, inr, ◌⊎◌, ⊎_elim, ℕ, zero, suc, false, List, [], ◌∷◌, ◌++◌, length, take, Option, None, refl, sym, ap, ◌∙◌, subst, append_assoc}
use Rattle.std.specs.List.{concat}
use Rattle.std.proofs.lemmas.List.{append-nil, append_cancel_left}
use Rattle.zst_outside.specs.Images.{DiskState, Leaves, Leaves-weaker}
use Rattle.zst_outside.specs.States.{SourceState, SinkState, Gave}
use Rattle.zst_image.specs.Bodies.{Body}
use Rattle.zst_model.specs.declared.refusals.faults.Quantity.TheVariants as quantities
use Rattle.zst_model.specs.declared.refusals.plan_fault.PlanFault.{PlanFault}
use Rattle.zst_model.specs.declared.refusals.refusal.Refusal.{Refusal}
use Rattle.zst_model.specs.declared.refusals.refusal.Refusal.TheVariants as refusals
use Rattle.zst_model.specs.declared.refusals.stream_fault.StreamFault.TheVariants.{Truncated}
use Rattle.zst_model.specs.declared.sends.ask.SendAsk.{SendAsk}
use Rattle.zst_model.specs.declared.sends.header.Point.{Point}
use Rattle.zst_model.specs.pools.KeptPool.{KeepsAll, kept_of}
use Rattle.zst_model.specs.pools.Pool.{Pool, IsPool, partial_of}
use Rattle.zst_model.specs.pools.Soundness.{Sound}
use Rattle.zst_model.specs.sends.Headers.{Sent, header_of, sent_view}
use Rattle.zst_model.specs.sends.SendPlan.{send_plan}
use Rattle.zst_laws.specs.KeptPools.{KeepingIsDone}
use Rattle.zst_dir.specs.Rows.{Rows}
use Rattle.zst_image.specs.Reads.{Reads, ReadsAs}
use Rattle.zst_plan.specs.declared.receive.RecvAsk.{RecvAsk}
use Rattle.zst_send.specs.Sends.{begun_text}
use Rattle.zst_recv.specs.Feeds.{receives}
use Rattle.zst_recv.specs.ReceiveSteps.{left_by, pool_of}
use Rattle.zst_replication.specs.Histories.{ReceivesRemember, StillRemembers}
use Rattle.zst_replication.specs.MatchingBases.{OneMoreIsKept, SentCanBeSent}
use Rattle.zst_replication.specs.Outcomes.{HasNothing, HasOneMore, Progress, base_name, course_from}
use Rattle.zst_replication.specs.Replicas.{AreOfStream, CutLeavesNothing, IsSendable, LeftIsKept, MatchesBase, SentIsReceived, WaitedForEach, sent_state}
use Rattle.zst_replication.specs.Replicas as replicas
use Rattle.zst_replication.specs.Soundness.{ReceivesKeepSound}
use Rattle.zst_run.specs.Receives.{IsTightOrNew, IsOnTheWay, Keeps, ReceiveEnds, Received, Receiving, Refused, Stopped, Waited}
use Rattle.zst_run.specs.Replication.{IsReadOf, IsReceiver, IsSender, RefusedLeavesNothing, SentSnapshotStands, SoundStaysSound, SourcesStillRemember, StopsAreProgress}
use Rattle.zst_run.specs.Replies.{Replied, Replies}
use Rattle.zst_run.specs.declared.send.SendRequest.{SendRequest}
use Rattle.zst_run.specs.declared.send.SendRequest.TheVariants.{Named}
use Rattle.zst_run.specs.Sends.{ReadsFor, SendEnds, Sends, start_of, to_give}
use Rattle.zst_run.proofs.FedPieces.{open_live}
use Rattle.zst_run.proofs.PlannedSends.{planned_of}

-- ---- what an image keeps of its pool

abbrev pub ImagesKeep : Type 0
ImagesKeep = (tight : Bool) (body : Body) (rows : Rows) (pool : Pool) (image : List ℕ) → ReadsAs tight body rows pool image → KeepsAll pool

-- the laws that what is kept of a pool that an image reads as is all of it
abbrev pub KeepsWhole : Type 0
KeepsWhole = KeepingIsDone × ImagesKeep

pub whole : KeepsWhole → (tight : Bool) (body : Body) (rows : Rows) (pool : Pool) (image : List ℕ) → ReadsAs tight body rows pool image → kept_of pool ≡ pool
whole laws tight body rows pool image reads = laws.0.0 pool (laws.1 tight body rows pool image reads)

-- ---- what was sent and read

-- a run that sends with status 0 writes the whole text
pub text_sent : (request : SendRequest) (from : Pool) (sent : Sent) (here here' : DiskState) (out out' : SinkState) (text : List ℕ)
    → ReadsFor request from here.seen → to_give request from ≡ Ok sent → here'.honest → Sends request here here' out out' (Ok tt) → out'.written ≡ out.written ++ text
    → text ≡ begun_text sent (start_of request)
text_sent request from sent here here' out out' text reads plan honest sends is =
    let ends = subst (λ (planned : Result Sent PlanFault). SendEnds (start_of request) planned here.faults here'.faults out out' (Ok tt)) plan (sends.sends from honest reads).ends in
    let wrote = ends.printed.wrote in
    append_cancel_left out.written text wrote.printed (sym is ∙ wrote.appended) ∙ sym (append-nil wrote.printed) ∙ sym wrote.is

-- what was read in pieces is of an input that begins with the text
pub pieces_read : (text : List ℕ) (input input' : SourceState) (pieces : List (List ℕ)) → IsReadOf text input input' → Gave input input' (concat pieces)
    → (unread behind : List ℕ) × (concat pieces ++ unread ≡ text ++ behind)
pieces_read text input input' pieces of gave =
    let same : concat pieces ≡ of.read = append_cancel_left input.given (concat pieces) of.read (sym gave ∙ of.gave) in
    (of.unread, of.behind, ap (λ (read : List ℕ). read ++ of.unread) same ∙ of.is)

-- the first of some pieces, and the text of the others
first_pieces : (n : ℕ) (pieces : List (List ℕ)) → (rest : List ℕ) × (concat pieces ≡ concat (take n pieces) ++ rest)
first_pieces zero pieces = (concat pieces, refl)
first_pieces (suc n) [] = ([], refl)
first_pieces (suc n) (piece ∷ pieces) =
    let more = first_pieces n pieces in
    (more.0, ap (λ (text : List ℕ). piece ++ text) more.1 ∙ sym (append_assoc piece (concat (take n pieces)) more.0))

-- so are the first of them
pub first_of_stream : (n : ℕ) (pieces : List (List ℕ)) (sent : Sent) (start : Option Point) → AreOfStream pieces sent start → AreOfStream (take n pieces) sent start
first_of_stream n pieces sent start of =
    let more = first_pieces n pieces in
    (more.0 ++ of.0, of.1, sym (append_assoc (concat (take n pieces)) more.0 of.0) ∙ ap (λ (text : List ℕ). text ++ of.0) (sym more.1) ∙ of.2)

-- ---- a send that is received

module _ (fits : SentCanBeSent) (tight : Bool) (ask : SendAsk) (receive : RecvAsk) (from into : Pool) (sent : Sent) (here there there' : DiskState)
    (sender : IsSender (Named ask) from sent here) (receiver : IsReceiver tight receive into sent there there') where
  from_is : IsPool from
  from_is = sender.reads.2.lawful

  pub plan_is : send_plan ask from ≡ Ok sent
  plan_is = planned_of (send_plan ask from) sent sender.is

  pub into_is : IsPool into
  into_is = receiver.reads.described.lawful

  pub sendable : IsSendable sent None
  sendable = fits ask from sent from_is plan_is sender.within

-- a run that receives with status 0 received
pub received_so : (tight : Bool) (ask : RecvAsk) (pool : Pool) (pieces : List (List ℕ)) (there' : DiskState) (input input' : SourceState) (out out' : SinkState) (answer : Result (List (List ℕ)) Refusal)
    → ReceiveEnds tight ask pool pieces there' input input' answer → Replied out out' answer (Ok tt) → (lines : List (List ℕ)) × Received tight ask pool pieces there' lines
received_so tight ask pool pieces there' input input' out out' (Ok lines) ends replied = (lines, ends)
received_so tight ask pool pieces there' input input' out out' (Err refusal) ends replied = absurd (let told = replied.0 in cc)

pub snapshot_stands : KeepsWhole → SentCanBeSent → SentIsReceived → OneMoreIsKept → (here here' there there' : DiskState) → SentSnapshotStands here here' there there'
snapshot_stands keeps fits law kept here here' there there' tight ask receive from into sent out out' other other' input input' sender honest receiver sends received piped =
    let run = received.does in
    let text = text_sent (Named ask) from sent here here' out out' piped.0 sender.reads sender.is honest sends piped.1 in
    let of : AreOfStream run.pieces sent None =
    pieces_read (begun_text sent None) input input' run.pieces (subst (λ (t : List ℕ). IsReadOf t input input') text piped.2) run.consumed in
    let end = received_so tight receive into run.pieces there' input input' other other' received.answer (run.ends tight receiver.body receiver.rows into receiver.honest receiver.reads receiver.may) received.replied in
    let done = end.1 in
    let one = law sent receive into done.after done.partial run.pieces (sendable fits tight ask receive from into sent here there there' sender receiver)
    (into_is fits tight ask receive from into sent here there there' sender receiver) receiver.alone
    receiver.matches of done.is in
    record {
      after = done.after;
      keeps = done.keeps;
      component = done.partial.component;
      base = one.0;
      planned = one.1;
      more =
          subst (λ (p : Pool). HasOneMore p (kept_of done.after) receive.target done.partial.component (base_name one.0) (header_of sent) (sent_state sent))
          (whole keeps tight receiver.body receiver.rows into there.seen receiver.reads)
          (kept into done.after receive.target done.partial.component (base_name one.0) (header_of sent) (sent_state sent) one.2);
    }

-- ---- a receive that is refused

abbrev LeavesNothing : (tight : Bool) → RecvAsk → Pool → DiskState → Type 0
LeavesNothing tight ask pool there' = (after : Pool) × Keeps tight there' after × HasNothing ask (kept_of pool) (kept_of after)

module _ (law : CutLeavesNothing) (left : LeftIsKept) (tight : Bool) (ask : RecvAsk) (pool : Pool) (none : partial_of ask.target pool ≡ None) (fleeting : ask.keep ≡ false) (there' : DiskState) where
  waited_nothing : (pieces : List (List ℕ)) → Waited tight ask pool pieces there' → LeavesNothing tight ask pool there'
  waited_nothing pieces waited = (
    left_by waited.stage waited.after,
    waited.keeps,
    subst (λ (p : Pool). HasNothing ask (kept_of pool) p) (sym (left waited.stage waited.after))
        ((law ask pool pieces none fleeting).0 waited.after waited.stage waited.is (open_live waited.stage waited.live)),
  )

  stopped_nothing : (pieces : List (List ℕ)) → Stopped tight ask pool pieces there' → LeavesNothing tight ask pool there'
  stopped_nothing pieces stopped = waited_nothing (take (length pieces - 1) pieces) stopped

  refused_nothing : (pieces : List (List ℕ)) (refusal : Refusal) → WaitedForEach ask pool pieces → Refused tight ask pool pieces there' refusal → LeavesNothing tight ask pool there'
  refused_nothing pieces refusal waits refused = (refused.after, refused.keeps, (law ask pool pieces none fleeting).1 refused.after refusal waits refused.is)

  ends_nothing : (pieces : List (List ℕ)) (input input' : SourceState) (refusal : Refusal) → WaitedForEach ask pool pieces → refusal ≢ refusals.DiskFault
      → ReceiveEnds tight ask pool pieces there' input input' (Err refusal) → LeavesNothing tight ask pool there'
  ends_nothing pieces input input' (refusals.Stream (Truncated at)) waits other ends = waited_nothing pieces ends.4
  ends_nothing pieces input input' refusals.SourceFault waits other ends = waited_nothing pieces ends
  ends_nothing pieces input input' refusals.DiskFault waits other ends = absurd (other refl)
  ends_nothing pieces input input' refusals.OutOfMemory waits other ends = stopped_nothing pieces ends
  ends_nothing pieces input input' (refusals.Full need largest) waits other ends = stopped_nothing pieces ends.1
  ends_nothing pieces input input' (refusals.Limit quantities.Stream number) waits other ends = stopped_nothing pieces ends.2
  ends_nothing pieces input input' (refusals.Damaged sector stated found) waits other ends = absurd ends
  ends_nothing pieces input input' refusals.NoPool waits other ends = absurd ends
  ends_nothing pieces input input' (refusals.BadVersion number) waits other ends = absurd ends
  ends_nothing pieces input input' refusal waits other ends = refused_nothing pieces refusal waits ends

  answer_nothing : (pieces : List (List ℕ)) (input input' : SourceState) (out out' : SinkState) (refusal : Refusal) (answer : Result (List (List ℕ)) Refusal)
      → WaitedForEach ask pool pieces → refusal ≢ refusals.DiskFault → refusal ≢ refusals.SinkFault
      → ReceiveEnds tight ask pool pieces there' input input' answer → Replied out out' answer (Err refusal) → LeavesNothing tight ask pool there'
  answer_nothing pieces input input' out out' refusal (Ok lines) waits disk sink ends replied = absurd (sink replied.2)
  answer_nothing pieces input input' out out' refusal (Err fault) waits disk sink ends replied =
      ends_nothing pieces input input' fault waits (λ is. disk (let told = replied.0 in cc)) ends

pub refused_so : KeepsWhole → CutLeavesNothing → LeftIsKept → (there there' : DiskState) → RefusedLeavesNothing there there'
refused_so keeps law left there there' tight ask body rows into refusal out out' input input' honest reads tells none fleeting receives disk sink =
    let run = receives.does in
    let waits : WaitedForEach ask into run.pieces =
    λ n below. let was = run.wanted tight body rows into honest reads tells n below in (was.0, was.1, was.2, open_live was.1 was.3) in
    let found = answer_nothing law left tight ask into none fleeting there' run.pieces input input' out out' refusal receives.answer waits disk sink (run.ends tight body rows into honest reads tells) receives.replied in
    (found.0, found.1, subst (λ (p : Pool). HasNothing ask p (kept_of found.0)) (whole keeps tight body rows into there.seen reads) found.2)

-- ---- each image on the way

-- what holds of what the image keeps after each of the pieces holds of each image on the way and in the end
abbrev pub EachImage : (Pool → Type 0) → (tight : Bool) → (there there' : DiskState) → Type 0
EachImage Holds tight there there' =
    let Is : List ℕ → Type 0 = λ c. there.images c ⊎ ((after : Pool) × Reads tight (kept_of after) c × Holds (kept_of after)) in
    Leaves there there' Is × ((c : List ℕ) → there'.images c → Is c)

pub each_image : (Holds : Pool → Type 0) (there there' : DiskState) (tight : Bool) (ask : RecvAsk) (body : Body) (rows : Rows) (into : Pool) (result : Result (Unit {0}) Refusal)
    (out out' : SinkState) (input input' : SourceState)
    → there'.honest → ReadsAs tight body rows into there.seen → IsTightOrNew tight ask into → (received : Replies (Receiving ask there there' input input') out out' result)
    → ((n : ℕ) → Holds (kept_of (pool_of (receives ask into (take n received.does.pieces))))) → EachImage Holds tight there there'
each_image Holds there there' tight ask body rows into result out out' input input' honest reads tells received holds =
    let run = received.does in
    let Is : List ℕ → Type 0 = λ c. there.images c ⊎ ((after : Pool) × Reads tight (kept_of after) c × Holds (kept_of after)) in
    let on_way : (c : List ℕ) → IsOnTheWay tight there ask into run.pieces c → Is c =
    λ c. ⊎_elim (λ stood. inl stood) (λ came. inr (pool_of (receives ask into (take came.0 run.pieces)), came.1, holds came.0)) in (
      Leaves-weaker there there' (IsOnTheWay tight there ask into run.pieces) Is (run.moments tight body rows into honest reads tells) on_way,
      λ c image. on_way c (run.images tight body rows into honest reads tells c image),
    )

-- ---- a receive that is stopped

pub stops_so : KeepsWhole → SentCanBeSent → replicas.StopsAreProgress → (here there there' : DiskState) → StopsAreProgress here there there'
stops_so keeps fits law here there there' tight ask receive from into sent component base result out out' input input' sender receiver begins received read =
    let run = received.does in
    let of : AreOfStream run.pieces sent None = pieces_read (begun_text sent None) input input' run.pieces read run.consumed in
    let course = course_from component base in
    each_image (Progress receive (sent_view sent) course into) there there' tight receive receiver.body receiver.rows into result out out' input input' receiver.honest receiver.reads receiver.may received
    (λ n. subst (λ (p : Pool). Progress receive (sent_view sent) course p (kept_of (pool_of (receives receive into (take n run.pieces)))))
    (whole keeps tight receiver.body receiver.rows into there.seen receiver.reads)
    (law sent receive into component base (take n run.pieces) (sendable fits tight ask receive from into sent here there there' sender receiver)
    (into_is fits tight ask receive from into sent here there there' sender receiver) receiver.alone
    receiver.matches begins (first_of_stream n run.pieces sent None of)))

-- ---- a sound pool

pub sound_so : ReceivesKeepSound → (there there' : DiskState) → SoundStaysSound there there'
sound_so law there there' tight ask body rows into result out out' input input' honest reads tells named sound received =
    each_image Sound there there' tight ask body rows into result out out' input input' honest reads tells received
    (λ n. (law ask into (take n received.does.pieces) named reads.described.lawful sound).1)

pub remembered_so : ReceivesRemember → (there there' : DiskState) → SourcesStillRemember there there'
remembered_so law there there' tight ask body rows into source state result out out' input input' honest reads tells named sound still received =
    each_image (λ (p : Pool). StillRemembers p source state) there there' tight ask body rows into result out out' input input' honest reads tells received
    (λ n. (law ask into (take n received.does.pieces) source state named reads.described.lawful sound still).1)
