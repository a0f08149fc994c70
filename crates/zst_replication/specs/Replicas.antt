-- The laws of a send that is received.
use Rattle.std.specs.Prelude.{ℕ, ◌≡◌, ◌++◌, ◌<◌, false, List, length, take, Option, None, Ok}
use Rattle.std.specs.List.{concat}
use Rattle.zst_model.specs.declared.refusals.refusal.Refusal.{Refusal}
use Rattle.zst_model.specs.declared.sends.header.Point.{Point}
use Rattle.zst_model.specs.pools.KeptPool.{kept_of}
use Rattle.zst_model.specs.pools.Pool.{Pool, Partial, IsPool, partial_of}
use Rattle.zst_model.specs.sends.Headers.{Sent, header_of, choice_of, sent_view}
use Rattle.zst_model.specs.sends.Target.{BaseOk, CanRedact, redacted}
use Rattle.zst_model.specs.states.State.{State}
use Rattle.zst_plan.specs.RecvPlan.{Base, Begins, recv_plan}
use Rattle.zst_plan.specs.declared.receive.RecvAsk.{RecvAsk}
use Rattle.zst_record.specs.Payload.{stated_point}
use Rattle.zst_stream.specs.Items.{CanSend}
use Rattle.zst_send.specs.Sends.{begun, begun_text}
use Rattle.zst_recv.specs.Answers.{is_done}
use Rattle.zst_recv.specs.Feeds.{receives}
use Rattle.zst_recv.specs.ReceiveSteps.{Stage, Ends, Fed, Goes, Stops, left_by, pool_of}
use Rattle.zst_replication.specs.Outcomes.{HasNothing, HasOneMore, Progress, base_name, base_objects, course_from}

-- what a receiver gets of what is sent: the snapshot's state, of which the redaction bookmark's pairs are redacted, and what was redacted before stays so
abbrev pub sent_state : Sent → State
sent_state sent = redacted sent.snapshot.objects.state (choice_of sent).redact

-- a stream can state what is sent, from its beginning or from a point, and what is redacted of it, or is to be, is user data
pub record IsSendable (sent : Sent) (start : Option Point) : Type 0 where
  pub stated : CanSend (begun sent start) sent.snapshot.objects (choice_of sent) (stated_point start)
  pub redacted : CanRedact sent.snapshot.objects.state (choice_of sent).redact

-- what the receiver begins with is fit for what is sent
abbrev pub MatchesBase : Sent → RecvAsk → Pool → Type 0
MatchesBase sent ask pool =
    (component : List ℕ) (base : Base) → recv_plan ask (header_of sent) pool ≡ Ok (Begins component base)
    → BaseOk (base_objects base).state sent.snapshot.objects (choice_of sent)

-- some pieces were read of an input that begins with what was sent, from its beginning or from a point
abbrev pub AreOfStream : List (List ℕ) → Sent → Option Point → Type 0
AreOfStream pieces sent start = (unread behind : List ℕ) × (concat pieces ++ unread ≡ begun_text sent start ++ behind)

-- However it is cut into pieces, a stream that was sent and is received to its end makes one snapshot more: the one that was sent, redacted as it
-- was asked, of the component and over the base that the receive was planned with.
abbrev pub SentIsReceived : Type 0
SentIsReceived =
    (sent : Sent) (ask : RecvAsk) (pool after : Pool) (partial : Partial) (pieces : List (List ℕ))
    → IsSendable sent None → IsPool pool → partial_of ask.target pool ≡ None → MatchesBase sent ask pool
    → AreOfStream pieces sent None → receives ask pool pieces ≡ Goes after (Ends partial)
    → (base : Base) × (recv_plan ask (header_of sent) pool ≡ Ok (Begins partial.component base))
    × HasOneMore pool after ask.target partial.component (base_name base) (header_of sent) (sent_state sent)

-- Every stop of a receive of a send, wherever its stream is cut off and however it is cut into pieces: what the image keeps is in its
-- progress.
abbrev pub StopsAreProgress : Type 0
StopsAreProgress =
    (sent : Sent) (ask : RecvAsk) (pool : Pool) (component : List ℕ) (base : Base) (pieces : List (List ℕ))
    → IsSendable sent None → IsPool pool → partial_of ask.target pool ≡ None → MatchesBase sent ask pool
    → recv_plan ask (header_of sent) pool ≡ Ok (Begins component base) → AreOfStream pieces sent None
    → Progress ask (sent_view sent) (course_from component base) (kept_of pool) (kept_of (pool_of (receives ask pool pieces)))

-- a receive goes on, and hasn't come to END
abbrev pub IsWaiting : Fed → Type 0
IsWaiting fed = (now : Pool) × (stage : Stage) × (fed ≡ Goes now stage) × (is_done stage ≡ false)

-- before each of the pieces the receive waited for more
abbrev pub WaitedForEach : RecvAsk → Pool → List (List ℕ) → Type 0
WaitedForEach ask pool pieces = (n : ℕ) → n < length pieces → IsWaiting (receives ask pool (take n pieces))

-- Whatever is read, and however it is cut into pieces: of a receive without -s that is cut before END, or that is refused, the image keeps
-- nothing.
abbrev pub CutLeavesNothing : Type 0
CutLeavesNothing =
    (ask : RecvAsk) (pool : Pool) (pieces : List (List ℕ)) → partial_of ask.target pool ≡ None → ask.keep ≡ false
    → ((now : Pool) (stage : Stage) → receives ask pool pieces ≡ Goes now stage → is_done stage ≡ false → HasNothing ask (kept_of pool) (kept_of now))
    × ((after : Pool) (refusal : Refusal) → WaitedForEach ask pool pieces → receives ask pool pieces ≡ Stops after refusal → HasNothing ask (kept_of pool) (kept_of after))

-- What goes where a session ends isn't kept before that either.
abbrev pub LeftIsKept : Type 0
LeftIsKept = (stage : Stage) (pool : Pool) → kept_of (left_by stage pool) ≡ kept_of pool
