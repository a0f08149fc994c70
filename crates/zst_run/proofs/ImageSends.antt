-- What a send from an image leaves, from what opening the pool and giving its text say.
use Rattle.std.proofs.Common.{◌≡◌, ◌≢◌, ◌⊎◌, inl, inr, ⊎_elim, ℕ, ◌≤◌, Bool, true, false, Result, List, [], length, Ok, Err, IfErr, refl, sym, ap, ◌∙◌, subst, arith, Option}
use Rattle.std.proofs.lemmas.Bool.{false≢true}
use Rattle.zst_outside.specs.Causes.{Rose, Rose-earlier}
use Rattle.zst_outside.specs.Images.{DiskState, OnlyReads, OnlyReads-then}
use Rattle.zst_outside.specs.States.{SinkState}
use Rattle.zst_outside.specs.Printing.{Wrote-start}
use Rattle.zst_block.specs.Blocks.{Has}
use Rattle.zst_image.specs.Bodies.{Body, behind_end, free_by}
use Rattle.zst_model.specs.declared.refusals.plan_fault.PlanFault.{PlanFault}
use Rattle.zst_model.specs.declared.refusals.refusal.Refusal.{Refusal}
use Rattle.zst_model.specs.declared.refusals.refusal.Refusal.TheVariants as refusals
use Rattle.zst_model.specs.declared.sends.header.Point.{Point}
use Rattle.zst_model.specs.pools.Pool.{Pool}
use Rattle.zst_model.specs.sends.Headers.{Sent}
use Rattle.zst_model.proofs.PlanFaults.{plan_cases}
use Rattle.zst_dir.specs.RowNames.{AreNamed}
use Rattle.zst_dir.specs.Rows.{Rows}
use Rattle.zst_image.specs.Faults.{open_refusal}
use Rattle.zst_uber.specs.DiskCalls as disk_calls
use Rattle.zst_image.specs.OpenAnswers.{GivesPool, OpenAnswers, ReadFault}
use Rattle.zst_image.specs.Reads.{kept_rows}
use Rattle.zst_image.specs.declared.pool_state.PoolState.{PoolState}
use Rattle.zst_image.specs.declared.open_fault.OpenFault.{OpenFault}
use Rattle.zst_image.specs.declared.open_fault.OpenFault.TheVariants as opens
use Rattle.zst_tree.specs.Damage.{IsSeen}
use Rattle.zst_tree.specs.declared.tree.ObjSet.{ObjSet}
use Rattle.zst_pool.specs.Faults.{pool_refusal}
use Rattle.zst_pool.specs.declared.fault.PoolFault.{PoolFault}
use Rattle.zst_pool.specs.declared.fault.PoolFault.TheVariants as faults
use Rattle.zst_send.specs.Damage.{IsDamagedSend}
use Rattle.zst_send.specs.Openings.{IsDamagedOpening, StandsPlanned, StandsSent}
use Rattle.zst_send.specs.Sends.{begun_text}
use Rattle.zst_run.specs.Commands.{Opens, SaysOfOpening}
use Rattle.zst_run.specs.SendPieces.{IfUnplanned}
use Rattle.zst_run.specs.declared.send.SendRequest.{SendRequest}
use Rattle.zst_run.specs.Sends.{HasSet, IsDamagedRequest, IsSendRefusal, OfGiving, OfSending, ReadsForAs, RefusalEnds, SendRan, Sends, SendsBy, TellsLong, TellsOf, start_of, to_give, to_send}
use Rattle.zst_run.proofs.CommandLemmas.{open_alive, open_disk, told_before}
use Rattle.zst_run.proofs.NamedImages.{AreOne, gives_pool}
use Rattle.zst_run.proofs.SendLemmas.{sent_earlier}
use Rattle.zst_run.proofs.StandingBlocks.{sent_behind}

-- ---- where the pool can't be opened

-- where the image reads as a pool, the disk failed or no memory was left, and nothing is written
unopened_ends : (start : Option Point) (planned : Result Sent PlanFault) (before after : ℕ) (out : SinkState) (fault : OpenFault) → ReadFault fault → (fault ≡ opens.DiskFault → Rose before after)
    → SendsBy start planned before after out out (Err (open_refusal fault))
unopened_ends start (Ok sent) before after out opens.DiskFault is rose = record { front = (begun_text sent start, Wrote-start out (begun_text sent start)); ends = (rose refl, inl refl) }
unopened_ends start (Ok sent) before after out opens.OutOfMemory is rose = record { front = (begun_text sent start, Wrote-start out (begun_text sent start)); ends = refl }
unopened_ends start (Err refused) before after out opens.DiskFault is rose = record { front = ([], Wrote-start out []); ends = (rose refl, refl) }
unopened_ends start (Err refused) before after out opens.OutOfMemory is rose = record { front = ([], Wrote-start out []); ends = (tt, refl) }
unopened_ends start planned before after out (opens.Damaged sector stated found) is rose = absurd is
unopened_ends start planned before after out opens.NoPool is rose = absurd is
unopened_ends start planned before after out (opens.BadVersion version) is rose = absurd is

-- what opening answers, where nothing was done but reading the image
pub idle_says : (T : Type 0) (Idle : Type 0) (here : DiskState) (Is : Body → Rows → Type 0) (fault : OpenFault) → Idle → OpenAnswers here (Err fault) → SaysOfOpening {T = T} Idle here Is (Err (open_refusal fault))
idle_says T Idle here Is (opens.Damaged sector stated found) idle is = inl (is, idle)
idle_says T Idle here Is opens.NoPool idle is = (is, idle)
idle_says T Idle here Is (opens.BadVersion version) idle is = (record { body = is.0; there = is.1; version = is.2; other = is.3 }, idle)
idle_says T Idle here Is opens.DiskFault idle is = inl idle
idle_says T Idle here Is opens.OutOfMemory idle is = inl idle

-- a fault of opening is never the output's, nor a full disk's
open_no_sink : (fault : OpenFault) → open_refusal fault ≢ refusals.SinkFault
open_no_sink (opens.Damaged sector stated found) is = absurd (cc is)
open_no_sink opens.NoPool is = absurd (cc is)
open_no_sink (opens.BadVersion version) is = absurd (cc is)
open_no_sink opens.DiskFault is = absurd (cc is)
open_no_sink opens.OutOfMemory is = absurd (cc is)

pub open_never_full : (fault : OpenFault) (need largest : ℕ) → open_refusal fault ≢ refusals.Full need largest
open_never_full (opens.Damaged sector stated found) need largest is = absurd (cc is)
open_never_full opens.NoPool need largest is = absurd (cc is)
open_never_full (opens.BadVersion version) need largest is = absurd (cc is)
open_never_full opens.DiskFault need largest is = absurd (cc is)
open_never_full opens.OutOfMemory need largest is = absurd (cc is)

pub unopened : AreOne → (request : SendRequest) (here here' : DiskState) (out : SinkState) (fault : OpenFault) → length here.seen ≡ here.size
    → (here'.honest → OpenAnswers here (Err fault)) → OnlyReads here here' → disk_calls.HasDiskCause {T = PoolState} opens.DiskFault here.faults here'.faults (Err fault)
    → Sends request here here' out out (Err (open_refusal fault))
unopened one request here here' out fault long answer reads cause = record {
  reads = reads;
  sends = λ pool told is.
      unopened_ends (start_of request) (to_give request pool) here.faults here'.faults out fault (gives_pool one here long request is.0 is.1 pool is.2 (Err fault) (answer told))
      (λ e. cause.fault (ap (λ (f : OpenFault). Err f) e));
  opened = λ told. idle_says (Unit {0}) (out ≡ out) here (SendRan request here out out (Err (open_refusal fault))) fault refl (answer told);
  refused = record {
    pool = record { one = inl (fault, refl); alive = open_alive fault; cause = λ is. cause.fault (ap (λ (f : OpenFault). Err f) (open_disk fault is)) };
    never_full = open_never_full fault;
    cause = λ is. absurd (open_no_sink fault is);
  };
  later = cause.later;
}

-- ---- where it is opened

-- a refusal that only opening gives
abbrev pub is_of_opening : Refusal → Bool
is_of_opening refusals.NoPool = true
is_of_opening (refusals.BadVersion number) = true
is_of_opening refusal = false

pub pool_is_open : (fault : PoolFault) → is_of_opening (pool_refusal fault) ≡ false
pool_is_open (faults.Plan fault) = plan_cases (λ f r. is_of_opening r ≡ false) (λ f. refl) (λ which number. refl) fault
pool_is_open (faults.CannotApply fault) = refl
pool_is_open (faults.Redacted object block) = refl
pool_is_open (faults.Full need largest) = refl
pool_is_open (faults.Damaged sector stated found) = refl
pool_is_open faults.DiskFault = refl
pool_is_open faults.Failed = refl
pool_is_open faults.OutOfMemory = refl

is_open : (refusal : Refusal) → OfGiving refusal → is_of_opening refusal ≡ false
is_open refusal is =
    ⊎_elim (λ pool. ap is_of_opening pool.1 ∙ pool_is_open pool.0) (⊎_elim (λ sink. ap is_of_opening sink) (λ limit. ap is_of_opening limit)) is

-- what an answer says of each plan of the rows in memory, and of damage
pub record SaysOfRows (request : SendRequest) (end : ℕ) (dir : Rows) (disk disk' : DiskState) (out out' : SinkState) (result : Result (Unit {0}) Refusal) : Type 0 where
  pub planned : (pool : Pool) → AreNamed dir pool → IfUnplanned (to_send request pool) out out' result
  pub because : (pool : Pool) (fault : PlanFault) → AreNamed dir pool → result ≡ Err (refusals.Plan fault) → to_send request pool ≡ Err fault
  pub long : (pool : Pool) → AreNamed dir pool → TellsLong (to_send request pool) out out' result
  pub damaged : disk'.honest → TellsOf (IsDamagedRequest request end dir disk) result

-- so it is of the body and the rows that a pool was opened by
ran : (request : SendRequest) (here mid here' : DiskState) (out out' : SinkState) (kept : PoolState) (rows : Rows) (result : Result (Unit {0}) Refusal) → kept.dir ≡ kept_rows rows → Opens here kept.body rows
    → OnlyReads here mid → here'.honest → SaysOfRows request kept.body.uber.end kept.dir mid here' out out' result → SendRan request here out out' result kept.body rows
ran request here mid here' out out' kept rows result same opens reads honest says = record {
  opens = opens;
  planned = λ pool fault named refused. rw refused at (says.planned pool (rw same named.are_named));
  because = λ pool fault named is. says.because pool fault (rw same named.are_named) is;
  long = λ pool named. says.long pool (rw same named.are_named);
  damaged = λ sector stated found is.
      told_before here mid (λ seen size. ((set : ObjSet) × HasSet request (kept_rows rows) set × IsDamagedSend (IsSeen seen) size set sector stated found)
      ⊎ IsDamagedOpening kept.body.uber.end seen size (kept_rows rows) (to_send request) sector stated found) reads
      (subst (λ (r : Rows). IsDamagedRequest request kept.body.uber.end r mid sector stated found) same (says.damaged honest sector stated found is));
}

-- what is answered once a pool was opened
pub ran_says : {T : Type 0} (Idle : Type 0) (here : DiskState) (Is : Body → Rows → Type 0) (answer : Result T Refusal) → ((body : Body) × (rows : Rows) × Is body rows) → IfErr answer (λ refusal. is_of_opening refusal ≡ false)
    → SaysOfOpening Idle here Is answer
ran_says Idle here Is (Ok value) has is = has
ran_says Idle here Is (Err refusals.NoPool) has is = absurd (false≢true (sym is))
ran_says Idle here Is (Err (refusals.BadVersion number)) has is = absurd (false≢true (sym is))
ran_says Idle here Is (Err (refusals.Damaged sector stated found)) has is = inr has
ran_says Idle here Is (Err refusals.DiskFault) has is = inr has
ran_says Idle here Is (Err refusals.OutOfMemory) has is = inr has
ran_says Idle here Is (Err other) has is = has

-- no refusal of it is one that only opening gives
behind_opening : (mid here' : DiskState) (out out' : SinkState) (result : Result (Unit {0}) Refusal) → IfErr result (IsSendRefusal OfGiving mid here' out out') → IfErr result (λ refusal. is_of_opening refusal ≡ false)
behind_opening mid here' out out' (Ok done) is = tt
behind_opening mid here' out out' (Err refusal) is = is_open refusal is.pool.one

whole_refusal : (here mid here' : DiskState) (out out' : SinkState) (result : Result (Unit {0}) Refusal) → here.faults ≤ mid.faults → IfErr result (IsSendRefusal OfGiving mid here' out out')
    → IfErr result (IsSendRefusal OfSending here here' out out')
whole_refusal here mid here' out out' (Ok done) later is = tt
whole_refusal here mid here' out out' (Err refusal) later is = record {
  pool = record { one = inr is.pool.one; alive = is.pool.alive; cause = λ e. Rose-earlier here.faults mid.faults here'.faults later (is.pool.cause e) };
  never_full = is.never_full;
  cause = is.cause;
}

plan_earlier : (fault : PlanFault) (before mid after : ℕ) (result : Result (Unit {0}) Refusal) → before ≤ mid → RefusalEnds fault mid after result → RefusalEnds fault before after result
plan_earlier fault before mid after (Ok done) later is = absurd is
plan_earlier fault before mid after (Err refusals.DiskFault) later is = Rose-earlier before mid after later is
plan_earlier fault before mid after (Err refusals.OutOfMemory) later is = tt
plan_earlier fault before mid after (Err refusal) later is = is

sends_earlier : (start : Option Point) (planned : Result Sent PlanFault) (before mid after : ℕ) (out out' : SinkState) (result : Result (Unit {0}) Refusal) → before ≤ mid → SendsBy start planned mid after out out' result
    → SendsBy start planned before after out out' result
sends_earlier start (Ok sent) before mid after out out' result later s = sent_earlier start sent before mid after out out' result later s
sends_earlier start (Err fault) before mid after out out' result later s = record { front = s.front; ends = (plan_earlier fault before mid after result later s.ends.0, s.ends.1) }

-- the rows in memory name the pool that the image reads as, and what a send needs stands by them
module _ (request : SendRequest) (here mid : DiskState) (kept : PoolState) (body : Body) (rows : Rows) (pool : Pool) (reads : OnlyReads here mid) (same : GivesPool body rows (Ok kept))
    (is : ReadsForAs request body rows pool here.seen) where
  named : AreNamed kept.dir pool
  named = subst (λ (r : Rows). AreNamed r pool) (sym same.1) is.named.are_named

  stands : StandsPlanned (Has mid.seen (behind_end kept.body.uber)) kept.dir pool (to_send request pool)
  stands = λ sent planned.
      sent_behind mid.seen kept.body kept.dir pool sent
      (subst (λ (seen : List ℕ). StandsSent (Has seen (free_by kept.body)) kept.dir pool sent) (sym reads.seen)
      (subst (λ (u : Body). StandsSent (Has here.seen (free_by u)) kept.dir pool sent) (sym same.0)
      (subst (λ (r : Rows). StandsSent (Has here.seen (free_by body)) r pool sent) (sym same.1) (is.sent sent planned))))

pub opened : AreOne → (request : SendRequest) (here mid here' : DiskState) (out out' : SinkState) (kept : PoolState) (result : Result (Unit {0}) Refusal) → length here.seen ≡ here.size
    → (mid.honest → OpenAnswers here (Ok kept)) → OnlyReads here mid → here.faults ≤ mid.faults → OnlyReads mid here' → mid.faults ≤ here'.faults
    → ((pool : Pool) → here'.honest → AreNamed kept.dir pool → StandsPlanned (Has mid.seen (behind_end kept.body.uber)) kept.dir pool (to_send request pool)
    → SendsBy (start_of request) (to_give request pool) mid.faults here'.faults out out' result)
    → IfErr result (IsSendRefusal OfGiving mid here' out out') → SaysOfRows request kept.body.uber.end kept.dir mid here' out out' result
    → Sends request here here' out out' result
opened one request here mid here' out out' kept result long answer reads later gave still gives refused says = record {
  reads = OnlyReads-then here mid here' reads gave;
  sends = λ pool told is.
      let same = gives_pool one here long request is.0 is.1 pool is.2 (Ok kept) (answer (gave.honest told)) in
      sends_earlier (start_of request) (to_give request pool) here.faults mid.faults here'.faults out out' result later
      (gives pool told (named request here mid kept is.0 is.1 pool reads same is.2) (stands request here mid kept is.0 is.1 pool reads same is.2));
  opened = λ told. let was = answer (gave.honest told) in
      ran_says (out' ≡ out) here (SendRan request here out out' result) result (kept.body, was.1, ran request here mid here' out out' kept was.1 result was.4 (was.0, was.2, was.3) reads told says)
      (behind_opening mid here' out out' result refused);
  refused = whole_refusal here mid here' out out' result later refused;
  later = omega (arith, later, still);
}
