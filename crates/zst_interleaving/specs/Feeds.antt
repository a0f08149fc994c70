-- The laws of one feed of a receive on its course, whatever was done to its pool between its feeds.
use Rattle.std.specs.Prelude.{ℕ, ◌≡◌, ◌++◌, false, List, [], Option, None, Ok, Err}
use Rattle.zst_model.specs.declared.refusals.plan_fault.PlanFault.{PlanFault}
use Rattle.zst_model.specs.declared.sends.header.Point.{Point}
use Rattle.zst_model.specs.pools.KeptPool.{kept_of}
use Rattle.zst_model.specs.pools.Pool.{Pool, Partial, IsPool}
use Rattle.zst_model.specs.sends.Headers.{Sent, header_of, sent_view}
use Rattle.zst_model.specs.sends.Target.{target}
use Rattle.zst_model.specs.states.State.{State}
use Rattle.zst_plan.specs.RecvPlan.{recv_plan}
use Rattle.zst_plan.specs.declared.receive.RecvAsk.{RecvAsk}
use Rattle.zst_stream.specs.Reading.{reading}
use Rattle.zst_send.specs.Sends.{begun}
use Rattle.zst_recv.specs.Answers.{is_done}
use Rattle.zst_recv.specs.ReceiveSteps.{Stage, Waits, Ends, Goes, pool_of}
use Rattle.zst_replication.specs.Outcomes.{Course, HasNothing, HasOneMore, Progress}
use Rattle.zst_replication.specs.Replicas.{IsSendable, sent_state}
use Rattle.zst_sessions.specs.Moves.{feeding}
use Rattle.zst_interleaving.specs.Courses.{IsFit, IsFrontOf, IsOnCourse, IsPlannedIn, MayBegin}

-- One feed of a receive on its course, however it is answered: what the image keeps after it is in its progress from what it kept before.
abbrev pub FeedsAreProgress : Type 0
FeedsAreProgress =
    (sent also : Sent) (start : Option Point) (ask : RecvAsk) (course : Course) (pool : Pool) (text piece : List ℕ) (stage : Stage)
    → IsOnCourse sent also start ask course pool text stage → IsPool pool → IsFrontOf (text ++ piece) also start → MayBegin sent also start ask course pool (text ++ piece) stage
    → Progress ask (sent_view sent) course (kept_of pool) (kept_of (pool_of (feeding ask text piece stage pool)))

-- Where it goes on and hasn't come to END, the receive is on its course still.
abbrev pub FeedsStayOnCourse : Type 0
FeedsStayOnCourse =
    (sent also : Sent) (start : Option Point) (ask : RecvAsk) (course : Course) (pool next : Pool) (text piece : List ℕ) (stage after : Stage)
    → IsOnCourse sent also start ask course pool text stage → IsPool pool → IsFrontOf (text ++ piece) also start → MayBegin sent also start ask course pool (text ++ piece) stage
    → feeding ask text piece stage pool ≡ Goes next after → is_done after ≡ false
    → IsOnCourse sent also start ask course next (text ++ piece) after

-- A feed that comes to END has made one snapshot more: what the view makes of the base, of the course's component and over its base.
abbrev pub FeedsComplete : Type 0
FeedsComplete =
    (sent also : Sent) (start : Option Point) (ask : RecvAsk) (course : Course) (pool next : Pool) (text piece : List ℕ) (stage : Stage) (last : Partial)
    → IsOnCourse sent also start ask course pool text stage → IsPool pool → IsFrontOf (text ++ piece) also start → MayBegin sent also start ask course pool (text ++ piece) stage
    → feeding ask text piece stage pool ≡ Goes next (Ends last)
    → (whole : State) × (target (sent_view sent) course.state ≡ Ok whole) × HasOneMore pool next ask.target course.component course.base (header_of sent) whole

-- So it has made the snapshot that was sent, with its guid, objects, contents and holes, redacted as it was asked, where the base was fit for it.
abbrev pub FitFeedsComplete : Type 0
FitFeedsComplete =
    (sent also : Sent) (start : Option Point) (ask : RecvAsk) (course : Course) (pool next : Pool) (text piece : List ℕ) (stage : Stage) (last : Partial)
    → IsOnCourse sent also start ask course pool text stage → IsPool pool → IsFrontOf (text ++ piece) also start → MayBegin sent also start ask course pool (text ++ piece) stage
    → IsFit sent course.state → feeding ask text piece stage pool ≡ Goes next (Ends last)
    → HasOneMore pool next ask.target course.component course.base (header_of sent) (sent_state sent)

-- The base of a receive that was planned afresh is fit.
abbrev pub FreshAreFit : Type 0
FreshAreFit = (sent also : Sent) (ask : RecvAsk) (course : Course) (pool : Pool) → IsPool pool → IsPlannedIn sent ask pool also None course → IsFit sent course.state

-- Where the BEGIN of what comes is refused in the pool that it finds, the image keeps nothing of its receive.
abbrev pub RefusedLeaveNothing : Type 0
RefusedLeaveNothing =
    (also : Sent) (start : Option Point) (ask : RecvAsk) (pool : Pool) (text piece : List ℕ) (fault : PlanFault)
    → IsSendable also start → (reading text).covered ≡ [] → IsFrontOf (text ++ piece) also start → recv_plan ask (begun also start) pool ≡ Err fault
    → HasNothing ask (kept_of pool) (kept_of (pool_of (feeding ask text piece Waits pool)))
