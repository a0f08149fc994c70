-- How a send that is begun on a pool at rest follows from what its plan and its opening say.
use Rattle.std.proofs.Common.{◌≡◌, ◌&&◌, nat_lt, ℕ, Bool, true, false, List, length, Some, None, Result, Ok, Err, refl, sym, ap, ◌∙◌, subst, get_or}
use Rattle.std.proofs.lemmas.List.{get_or_default}
use Rattle.zst_outside.specs.declared.disk.Disk.{Ghosts}
use Rattle.zst_space.specs.FreeSectors.{FreeSectors}
use Rattle.zst_block.specs.Blocks.{Has}
use Rattle.zst_block.specs.IoStates.{IsHonest, blocks_of, disk_of}
use Rattle.zst_dir.proofs.Matches.{Match-alike}
use Rattle.zst_dir.specs.RowNames.{AreNamed, NamesSnapshot}
use Rattle.zst_dir.specs.Rows.{Rows}
use Rattle.zst_dir.specs.declared.rows.Snapshot.{Snapshot as Row}
use Rattle.zst_image.specs.Bodies.{free_by}
use Rattle.zst_image.specs.Reads.{RunsBy}
use Rattle.zst_image.specs.declared.pool_state.PoolState.{PoolState}
use Rattle.zst_laws.specs.SendPlans.{PlansAreOfPool}
use Rattle.zst_model.specs.declared.refusals.plan_fault.PlanFault.{PlanFault}
use Rattle.zst_model.specs.declared.refusals.plan_fault.PlanFault.TheVariants as plans
use Rattle.zst_model.specs.declared.refusals.faults.Quantity.TheVariants as quantities
use Rattle.zst_model.specs.declared.sends.ask.SendAsk.{SendAsk}
use Rattle.zst_model.specs.declared.sends.header.Point.{Point}
use Rattle.zst_model.specs.pools.Limits.{most_runs}
use Rattle.zst_model.specs.pools.Pool.{Pool as Plain}
use Rattle.zst_model.specs.sends.Headers.{Sent, source_runs}
use Rattle.zst_model.specs.sends.SendPlan.{if_listed, is_redacted, send_plan, with_list}
use Rattle.zst_model.specs.states.AppliedItems.{unless}
use Rattle.zst_plan.specs.Places.{AnswerAlike, StandsAt}
use Rattle.zst_plan.specs.Plans.{AnswersPlan, IsPlanOf}
use Rattle.zst_plan.specs.declared.plan.SendPlan.{SendPlan}
use Rattle.zst_pool.proofs.PoolsAtRest.{rest_named, rest_plain}
use Rattle.zst_pool.specs.Calls.{IsAtRest}
use Rattle.zst_pool.specs.Events.{SameDisk}
use Rattle.zst_pool.specs.declared.fault.PoolFault.{PoolFault}
use Rattle.zst_pool.specs.declared.fault.PoolFault.TheVariants as faults
use Rattle.zst_pool.specs.declared.pool.Pool.{Pool}
use Rattle.zst_send.specs.Openings.{Opens, ReadsLists, Resumes, RowsStandForSends, StandsPlanned, StandsSent, rest_of}
use Rattle.zst_send.specs.declared.send.Send.{Send}
use Rattle.zst_token.specs.declared.token.Token.{Token}
use Rattle.zst_tree.specs.Indices.{Blocks}
use Rattle.zst_sessions.specs.EngineSteps.{kept_pool}
use Rattle.zst_sessions.specs.Openings.{Begins, BeginsOn}
use Rattle.zst_sessions.specs.declared.openings.Begun.{Begun}

-- ---- plans

-- what passes with its list has passed
listed_is : (sent also : Sent) → if_listed sent ≡ Ok also → sent ≡ also
listed_is sent also = go (is_redacted sent.source && nat_lt most_runs (length (source_runs sent.source)))
  where
    go : (long : Bool) → unless long (plans.Limit quantities.Runs most_runs) (Ok sent) ≡ Ok also → sent ≡ also
    go true is = absurd (cc)
    go false is = cc

passes : (plan : Result Sent PlanFault) (sent : Sent) → with_list plan ≡ Ok sent → plan ≡ Ok sent
passes (Ok one) sent is = ap (λ (s : Sent). ok s) (listed_is one sent is)
  where
    ok : Sent → Result Sent PlanFault
    ok s = Ok s
passes (Err fault) sent is = absurd (cc)

-- what was planned is of what is to be sent, and what was refused is refused
plan_is : {A : Type 0} (Is : A → Sent → Type 0) (plan : A) (planned : Result Sent PlanFault) → AnswerAlike Is (Ok plan) planned → (sent : Sent) × (planned ≡ Ok sent) × Is plan sent
plan_is Is plan (Ok sent) alike = (sent, refl, alike)
plan_is Is plan (Err fault) alike = absurd alike

refusal_is : {A : Type 0} (Is : A → Sent → Type 0) (fault : PlanFault) (planned : Result Sent PlanFault) → AnswerAlike Is (Err fault) planned → planned ≡ Err fault
refusal_is Is fault (Ok sent) alike = absurd alike
refusal_is Is fault (Err other) alike = ap (λ (f : PlanFault). err f) (sym alike)
  where
    err : PlanFault → Result Sent PlanFault
    err f = Err f

-- ---- openings

-- the send that was opened, with this name and this number
abbrev pub with_begun : List ℕ → ℕ → Result Send PoolFault → Result Begun PoolFault
with_begun name count (Ok send) = Ok (record { send = send; snapshot = name; number = count })
with_begun name count (Err fault) = Err fault

-- one that was opened by names was begun by its plan
opens_begin : (has : Blocks) (ask : SendAsk) (running : Plain) (name : List ℕ) (count : ℕ) (result : Result Send PoolFault) → count ≡ running.number
    → ((sent : Sent) → send_plan ask running ≡ Ok sent → name ≡ sent.snapshot.name) → Opens has ask running result
    → Begins has None running.number (with_list (send_plan ask running)) (with_begun name count result)
opens_begin has ask running name count (Ok send) same named is =
    (is.0, is.1, record { holds = named is.0 (passes (send_plan ask running) is.0 is.1); numbered = same; sends = is.2 })
opens_begin has ask running name count (Err (faults.Plan fault)) same named is = is
opens_begin has ask running name count (Err (faults.CannotApply fault)) same named is = is
opens_begin has ask running name count (Err (faults.Redacted object block)) same named is = is
opens_begin has ask running name count (Err (faults.Full need largest)) same named is = is
opens_begin has ask running name count (Err (faults.Damaged sector stated found)) same named is = is
opens_begin has ask running name count (Err faults.DiskFault) same named is = is
opens_begin has ask running name count (Err faults.Failed) same named is = is
opens_begin has ask running name count (Err faults.OutOfMemory) same named is = is

-- and so was the rest of one
resumes_begin : (has : Blocks) (sent : Sent) (point : Point) (name : List ℕ) (planned : Result Sent PlanFault) (number count : ℕ) (result : Result Send PoolFault) → count ≡ number
    → planned ≡ Ok sent → name ≡ sent.snapshot.name → Resumes has sent point result → Begins has (Some point) number (with_list planned) (with_begun name count result)
resumes_begin has sent point name planned number count (Ok send) same passed named is = (sent, ap with_list passed ∙ is.0, record { holds = named; numbered = same; sends = is.1 })
resumes_begin has sent point name planned number count (Err (faults.Plan fault)) same passed named is = ap with_list passed ∙ is
resumes_begin has sent point name planned number count (Err (faults.CannotApply fault)) same passed named is = is
resumes_begin has sent point name planned number count (Err (faults.Redacted object block)) same passed named is = is
resumes_begin has sent point name planned number count (Err (faults.Full need largest)) same passed named is = is
resumes_begin has sent point name planned number count (Err (faults.Damaged sector stated found)) same passed named is = is
resumes_begin has sent point name planned number count (Err faults.DiskFault) same passed named is = is
resumes_begin has sent point name planned number count (Err faults.Failed) same passed named is = is
resumes_begin has sent point name planned number count (Err faults.OutOfMemory) same passed named is = is

-- the row at a place names what stands there
name_at : (rows : Rows) (running : Plain) → AreNamed rows running → (place : ℕ) (row : Row) (sent : Sent) → get_or rows.snapshots place row ≡ row → StandsAt rows.snapshots running.snapshots place sent.snapshot
    → row.name ≡ sent.snapshot.name
name_at rows running named place row sent at stands =
    ap (λ (r : Row). r.name) (sym at ∙ get_or_default rows.snapshots place row stands.row stands.below ∙ stands.is_there)
    ∙ sym (Match-alike NamesSnapshot rows.snapshots running.snapshots stands.row sent.snapshot named.snapshots stands.alike).name

-- ---- one pool, whose sectors were renewed and which was read then

module _ {D : Type 0} {g : Ghosts D} (old mid : Pool D g) (same : SameDisk old.io mid.io) (space : mid.io.space ≡ free_by old.kept.body) (kept : mid.kept ≡ old.kept) where
  -- the rows are still those of the pool
  named_still : (running : Plain) → IsAtRest true (disk_of old.io) old.kept running → AreNamed mid.kept.dir running
  named_still running rest = subst (λ (state : PoolState). AreNamed state.dir running) (sym kept) (rest_named (disk_of old.io) old.kept running rest).are_named

  number_is : (running : Plain) → IsAtRest true (disk_of old.io) old.kept running → old.kept.body.uber.number ≡ running.number
  number_is running rest = sym (rest_named (disk_of old.io) old.kept running rest).number

  -- and what each send needs stands
  sent_stands : RowsStandForSends → (running : Plain) → IsAtRest true (disk_of old.io) old.kept running → (sent : Sent) → StandsSent (blocks_of mid.io) mid.kept.dir running sent
  sent_stands law running rest sent =
      law (disk_of mid.io).seen mid.io.space mid.kept.dir running sent
      (subst (λ (state : PoolState). RunsBy None (Has (disk_of mid.io).seen mid.io.space) state.dir running) (sym kept)
      (subst (λ (s : FreeSectors). RunsBy None (Has (disk_of mid.io).seen s) old.kept.dir running) (sym space)
      (subst (λ (d : D). RunsBy None (Has (g.state d).seen (free_by old.kept.body)) old.kept.dir running) (sym same.now)
      (rest_plain (disk_of old.io) old.kept running rest).runs_by)))

  -- where a plan of the rows is refused
  pub refused_rest : (token : Token) (fault : PlanFault) → AnswersPlan {E = PlanFault} mid.kept.dir (rest_of token) (Err fault)
      → BeginsOn (Some token.point) (λ running. with_list (rest_of token running)) (kept_pool old) (kept_pool mid) (Err (faults.Plan fault))
  refused_rest token fault plans running honest works rest = ap with_list (refusal_is (IsPlanOf mid.kept.dir running) fault (rest_of token running) (plans.found running (named_still running rest)))

  module _ (new : Pool D g) (result : Result Send PoolFault) (reads : ReadsLists mid new result) (works : mid.io.failed ≡ false) where
    -- what the latest body leaves free is free
    space_is : new.io.space ≡ free_by new.kept.body
    space_is = reads.looks.space ∙ space ∙ ap (λ (state : PoolState). free_by state.body) (sym kept ∙ sym reads.kept)

    -- a send by names
    pub begun_named : RowsStandForSends → PlansAreOfPool → (ask : SendAsk) (name : List ℕ) → name ≡ ask.snap → (count : ℕ) → count ≡ old.kept.body.uber.number
        → ((running : Plain) → IsHonest new.io → mid.io.failed ≡ false → AreNamed mid.kept.dir running → StandsPlanned (blocks_of mid.io) mid.kept.dir running (send_plan ask running) → Opens (blocks_of new.io) ask running result)
        → BeginsOn None (λ running. with_list (send_plan ask running)) (kept_pool old) (kept_pool new) (with_begun name count result)
    begun_named law planned ask name asked count counted opens running honest alive rest =
        subst (λ (s : FreeSectors). Begins (Has (disk_of new.io).seen s) None running.number (with_list (send_plan ask running)) (with_begun name count result)) space_is
        (opens_begin (blocks_of new.io) ask running name count result (counted ∙ number_is running rest) (λ sent is. asked ∙ sym (planned ask running sent rest.lawful is).snapshot)
        (opens running honest works (named_still running rest) (λ sent is. sent_stands law running rest sent)))

    -- the rest of one
    pub begun_rest : RowsStandForSends → (token : Token) (plan : SendPlan) → AnswersPlan {E = PlanFault} mid.kept.dir (rest_of token) (Ok plan) → (row : Row) → get_or mid.kept.dir.snapshots plan.snap row ≡ row
        → (name : List ℕ) → name ≡ row.name → (count : ℕ) → count ≡ old.kept.body.uber.number
        → ((running : Plain) (sent : Sent) → IsHonest new.io → mid.io.failed ≡ false → AreNamed mid.kept.dir running → IsPlanOf mid.kept.dir running plan sent → StandsSent (blocks_of mid.io) mid.kept.dir running sent
        → Resumes (blocks_of new.io) sent token.point result)
        → BeginsOn (Some token.point) (λ running. with_list (rest_of token running)) (kept_pool old) (kept_pool new) (with_begun name count result)
    begun_rest law token plan plans row at name called count counted resumes running honest alive rest =
        let named = named_still running rest in
        let s = plan_is (IsPlanOf mid.kept.dir running) plan (rest_of token running) (plans.found running named) in
        subst (λ (free : FreeSectors). Begins (Has (disk_of new.io).seen free) (Some token.point) running.number (with_list (rest_of token running)) (with_begun name count result)) space_is
        (resumes_begin (blocks_of new.io) s.0 token.point name (rest_of token running) running.number count result (counted ∙ number_is running rest) s.1
        (called ∙ name_at mid.kept.dir running named plan.snap row s.0 at s.2.snapshot)
        (resumes running s.0 honest works named s.2 (sent_stands law running rest s.0)))
