-- A receive of what is sent, on its course through a pool that others change too.
use Rattle.std.specs.Prelude.{ℕ, ◌≡◌, ◌⊎◌, ◌++◌, List, [], Option, Some, None, Ok}
use Rattle.zst_model.specs.declared.sends.header.Point.{Point}
use Rattle.zst_model.specs.pools.Pool.{Pool, Partial, IsPool, partial_of}
use Rattle.zst_model.specs.sends.Headers.{Sent, header_of, choice_of}
use Rattle.zst_model.specs.sends.Target.{BaseOk}
use Rattle.zst_model.specs.states.State.{State, IsState}
use Rattle.zst_plan.specs.RecvPlan.{Base, Begins, recv_plan}
use Rattle.zst_plan.specs.declared.receive.RecvAsk.{RecvAsk}
use Rattle.zst_stream.specs.Reading.{reading}
use Rattle.zst_send.specs.Sends.{begun_text}
use Rattle.zst_recv.specs.ReceiveSteps.{Stage, Waits, Lives, Ends, Goes}
use Rattle.zst_replication.specs.Outcomes.{Course, course_from, course_on}
use Rattle.zst_replication.specs.Replicas.{IsSendable, MatchesBase}
use Rattle.zst_replication.specs.Resumption.{GivesRest, IsUnderway}
use Rattle.zst_sessions.specs.Moves.{feeding}

-- these are the first bytes of an input that begins with what was sent, from its beginning or from a point
abbrev pub IsFrontOf : List ℕ → Sent → Option Point → Type 0
IsFrontOf text sent start = (unread behind : List ℕ) × (text ++ unread ≡ begun_text sent start ++ behind)

-- The BEGIN of what comes is planned in this pool on this course: afresh, of all that is sent, over a base that is fit for it; or it goes on with the
-- target's partial state that is underway to it, and the rest comes, from where that stands, of a send that gives the same view.
pub data IsPlannedIn (sent : Sent) (ask : RecvAsk) (pool : Pool) : Sent → Option Point → Course → Type 0 where
  Afresh : (component : List ℕ) (base : Base)
      → IsSendable sent None → partial_of ask.target pool ≡ None → MatchesBase sent ask pool → recv_plan ask (header_of sent) pool ≡ Ok (Begins component base)
      → IsPlannedIn sent ask pool sent None (course_from component base)
  GoingOn : (also : Sent) (partial : Partial) (state : State)
      → IsUnderway sent ask.target state pool partial → GivesRest sent also partial.point
      → IsPlannedIn sent ask pool also (Some partial.point) (course_on partial state)

-- A receive of what is sent stands on its course in a pool behind this text. It waits, as long as its text doesn't cover BEGIN; it has begun, by the piece
-- that covers BEGIN, in a pool where that is planned on this course; and it goes on, by further pieces, between which anything may happen to the pool
-- that leaves the target's partial state.
pub data IsOnCourse (sent also : Sent) (start : Option Point) (ask : RecvAsk) (course : Course) : Pool → List ℕ → Stage → Type 0 where
  Waiting : (pool : Pool) (text : List ℕ)
      → IsFrontOf text also start → (reading text).covered ≡ []
      → IsOnCourse sent also start ask course pool text Waits
  Begun : (pool next : Pool) (text piece : List ℕ) (flags : ℕ) (partial : Partial)
      → IsPool pool → (reading text).covered ≡ [] → IsPlannedIn sent ask pool also start course → IsFrontOf (text ++ piece) also start
      → feeding ask text piece Waits pool ≡ Goes next (Lives flags partial)
      → IsOnCourse sent also start ask course next (text ++ piece) (Lives flags partial)
  GoneOn : (pool next : Pool) (text piece : List ℕ) (flags more : ℕ) (partial further : Partial)
      → IsOnCourse sent also start ask course pool text (Lives flags partial) → IsFrontOf (text ++ piece) also start
      → feeding ask text piece (Lives flags partial) pool ≡ Goes next (Lives more further)
      → IsOnCourse sent also start ask course next (text ++ piece) (Lives more further)
  Beside : (pool other : Pool) (text : List ℕ) (flags : ℕ) (partial : Partial)
      → IsOnCourse sent also start ask course pool text (Lives flags partial) → partial_of ask.target other ≡ partial_of ask.target pool
      → IsOnCourse sent also start ask course other text (Lives flags partial)

-- Where a receive that waits is fed up to this text, either that doesn't cover BEGIN, or BEGIN is planned in this pool on its course.
abbrev pub MayBegin : (sent also : Sent) (start : Option Point) (ask : RecvAsk) (course : Course) (pool : Pool) (text : List ℕ) → Stage → Type 0
MayBegin sent also start ask course pool text Waits = ((reading text).covered ≡ []) ⊎ IsPlannedIn sent ask pool also start course
MayBegin sent also start ask course pool text (Lives flags partial) = Unit {0}
MayBegin sent also start ask course pool text (Ends partial) = Unit {0}

-- what is sent can be sent from its beginning, and is fit over a base of this state
pub record IsFit (sent : Sent) (state : State) : Type 0 where
  pub sendable : IsSendable sent None
  pub lawful : IsState state
  pub fit : BaseOk state sent.snapshot.objects (choice_of sent)
