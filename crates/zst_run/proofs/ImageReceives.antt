-- What a receive into an image leaves, from what opening the pool and feeding say.
use Rattle.std.specs.Prelude.{Result, Ok, Err, IfErr}
use Rattle.std.specs.List.{concat}
use Rattle.std.proofs.Common.{◌≡◌, ◌≢◌, inl, inr, ℕ, ◌≤◌, Bool, false, List, [], refl, sym, ap, ◌∙◌, subst, arith}
use Rattle.std.proofs.lemmas.List.{append-nil}
use Rattle.zst_outside.specs.Causes.{Rose-earlier}
use Rattle.zst_outside.specs.Images.{DiskState, IsSynced, Leaves, Leaves-then, Leaves-weaker, OnlyReads}
use Rattle.zst_outside.specs.States.{SourceState, Gave}
use Rattle.zst_image.specs.Bodies.{Body, free_by}
use Rattle.zst_model.specs.declared.refusals.refusal.Refusal.{Refusal}
use Rattle.zst_model.specs.declared.refusals.refusal.Refusal.TheVariants as refusals
use Rattle.zst_model.specs.declared.refusals.stream_fault.StreamFault.{StreamFault}
use Rattle.zst_model.specs.pools.KeptPool.{KeepsAll, kept_of}
use Rattle.zst_model.specs.pools.Pool.{Pool}
use Rattle.zst_model.proofs.PlanFaults.{plan_cases}
use Rattle.zst_dir.specs.Rows.{Rows}
use Rattle.zst_image.specs.Faults.{open_refusal}
use Rattle.zst_uber.specs.DiskCalls as disk_calls
use Rattle.zst_image.specs.OpenAnswers.{GivesPool, OpenAnswers}
use Rattle.zst_block.specs.Blocks.{KeepsBlocks}
use Rattle.zst_image.specs.Reads.{ReadsAs, Rests, kept_rows}
use Rattle.zst_image.specs.declared.pool_state.PoolState.{PoolState}
use Rattle.zst_image.specs.declared.open_fault.OpenFault.{OpenFault}
use Rattle.zst_image.specs.declared.open_fault.OpenFault.TheVariants as opens
use Rattle.zst_plan.specs.declared.receive.RecvAsk.{RecvAsk}
use Rattle.zst_pool.specs.Calls.{IsAtRest}
use Rattle.zst_pool.specs.Faults.{pool_refusal}
use Rattle.zst_pool.specs.declared.fault.PoolFault.{PoolFault}
use Rattle.zst_pool.specs.declared.fault.PoolFault.TheVariants as pools
use Rattle.zst_recv.specs.Faults.{recv_refusal}
use Rattle.zst_recv.specs.ReceiveSteps.{Waits}
use Rattle.zst_recv.specs.declared.fault.RecvFault.{RecvFault}
use Rattle.zst_recv.specs.declared.fault.RecvFault.TheVariants as faults
use Rattle.zst_run.specs.Receives.{IsTightOrNew, IsDamagedReceive, IsOnTheWay, IsReceiveRefusal, ReceiveEnds, ReceiveRan, Receiving, SaysOfPlan, Stopped, PiecesFindNoRoom}
use Rattle.zst_run.specs.ReceiveTurns.{ReadsAlong, Fed, IsEnd, IsReady, told}
use Rattle.zst_run.specs.declared.receive.Receipt.{Receipt}
use Rattle.zst_run.proofs.CommandLemmas.{images_after, open_alive, open_disk, rests_read}
use Rattle.zst_run.proofs.ReceiveDamage.{damaged_here, told_apart, told_damaged}
use Rattle.zst_run.proofs.FedPieces.{none_fed}
use Rattle.zst_run.proofs.ReceiveLemmas.{says_other}
use Rattle.zst_run.proofs.ImageSends.{idle_says, is_of_opening, pool_is_open, ran_says}

-- ---- where the pool can't be opened

-- what is kept of a pool that an image reads as is all of it
abbrev pub KeepsWhole : Type 0
KeepsWhole = ((pool : Pool) → KeepsAll pool → kept_of pool ≡ pool) × ((tight : Bool) (body : Body) (rows : Rows) (pool : Pool) (image : List ℕ) → ReadsAs tight body rows pool image → KeepsAll pool)

open_no_stream : (fault : OpenFault) (told : StreamFault) → open_refusal fault ≢ refusals.Stream told
open_no_stream (opens.Damaged sector stated found) told is = absurd (cc is)
open_no_stream opens.NoPool told is = absurd (cc is)
open_no_stream (opens.BadVersion version) told is = absurd (cc is)
open_no_stream opens.DiskFault told is = absurd (cc is)
open_no_stream opens.OutOfMemory told is = absurd (cc is)

open_no_source : (fault : OpenFault) → open_refusal fault ≢ refusals.SourceFault
open_no_source (opens.Damaged sector stated found) is = absurd (cc is)
open_no_source opens.NoPool is = absurd (cc is)
open_no_source (opens.BadVersion version) is = absurd (cc is)
open_no_source opens.DiskFault is = absurd (cc is)
open_no_source opens.OutOfMemory is = absurd (cc is)

abbrev answered : Refusal → Result (List (List ℕ)) Refusal
answered refusal = Err refusal

open_no_full : (fault : OpenFault) (need largest : ℕ) → answered (open_refusal fault) ≡ answered (refusals.Full need largest) → ⊥
open_no_full (opens.Damaged sector stated found) need largest is = absurd (cc is)
open_no_full opens.NoPool need largest is = absurd (cc is)
open_no_full (opens.BadVersion version) need largest is = absurd (cc is)
open_no_full opens.DiskFault need largest is = absurd (cc is)
open_no_full opens.OutOfMemory need largest is = absurd (cc is)

-- the pool that was there stands
nothing_fed : (tight : Bool) (ask : RecvAsk) (here' : DiskState) (body : Body) (rows : Rows) (pool : Pool) → kept_of pool ≡ pool → Rests tight here' body rows pool → Stopped tight ask pool [] here'
nothing_fed tight ask here' body rows pool whole rests = record {
  after = pool;
  stage = Waits;
  is = none_fed ask pool;
  live = tt;
  keeps = (body, rows, subst (λ (p : Pool). Rests tight here' body rows p) (sym whole) rests);
}

unopened_ends : (tight : Bool) (ask : RecvAsk) (here' : DiskState) (input : SourceState) (body : Body) (rows : Rows) (pool : Pool) (fault : OpenFault) → kept_of pool ≡ pool → GivesPool body rows (Err fault)
    → (fault ≢ opens.DiskFault → Rests tight here' body rows pool) → ReceiveEnds tight ask pool [] here' input input (Err (open_refusal fault))
unopened_ends tight ask here' input body rows pool (opens.Damaged sector stated found) whole gives rests = absurd gives
unopened_ends tight ask here' input body rows pool opens.NoPool whole gives rests = absurd gives
unopened_ends tight ask here' input body rows pool (opens.BadVersion version) whole gives rests = absurd gives
unopened_ends tight ask here' input body rows pool opens.DiskFault whole gives rests = tt
unopened_ends tight ask here' input body rows pool opens.OutOfMemory whole gives rests = nothing_fed tight ask here' body rows pool whole (rests (λ is. absurd (cc is)))

pub unopened : KeepsWhole → (ask : RecvAsk) (here here' : DiskState) (input : SourceState) (fault : OpenFault)
    → ((tight : Bool) (body : Body) (rows : Rows) (pool : Pool) → here'.honest → ReadsAs tight body rows pool here.seen → GivesPool body rows (Err fault))
    → (here'.honest → OpenAnswers here (Err fault)) → OnlyReads here here' → (fault ≢ opens.DiskFault → IsSynced here')
    → disk_calls.HasDiskCause {T = PoolState} opens.DiskFault here.faults here'.faults (Err fault) → Receiving ask here here' input input (Err (open_refusal fault))
unopened whole ask here here' input fault there answer reads synced cause = record {
  pieces = [];
  are_pieces = tt;
  consumed = sym (append-nil input.given);
  wanted = λ tight body rows pool told is may n less. absurd (omega (arith, less));
  moments = λ tight body rows pool told is may. Leaves-weaker here here' here.images (IsOnTheWay tight here ask pool []) reads.time (λ c image. inl image);
  images = λ tight body rows pool told is may c image. inl (reads.crash c image);
  ends = λ tight body rows pool told is may.
      unopened_ends tight ask here' input body rows pool fault (whole.0 pool (whole.1 tight body rows pool here.seen is)) (there tight body rows pool told is)
      (λ alive. rests_read here here' body rows pool is reads (synced alive));
  opened = λ told. idle_says (List (List ℕ)) (OnlyReads here here' × (input ≡ input)) here (ReceiveRan ask [] here here' (Err (open_refusal fault))) fault (reads, refl) (answer told);
  text = says_other [] input input (open_refusal fault) (open_no_stream fault);
  cost = λ told need largest is. absurd (open_no_full fault need largest is);
  refused = record {
    pool = record { one = inl (fault, refl); alive = open_alive fault; cause = λ is. cause.fault (ap (λ (f : OpenFault). Err f) (open_disk fault is)) };
    cause = λ is. absurd (open_no_source fault is);
  };
  later = cause.later;
  input_later = omega arith;
}

-- ---- where it is opened

pool_no_source : (fault : PoolFault) → pool_refusal fault ≢ refusals.SourceFault
pool_no_source (pools.Plan fault) is = plan_cases (λ f r. r ≡ refusals.SourceFault → ⊥) (λ f e. absurd (cc e)) (λ which number e. absurd (cc e)) fault is
pool_no_source (pools.CannotApply fault) is = absurd (cc is)
pool_no_source (pools.Redacted object block) is = absurd (cc is)
pool_no_source (pools.Full need largest) is = absurd (cc is)
pool_no_source (pools.Damaged sector stated found) is = absurd (cc is)
pool_no_source pools.DiskFault is = absurd (cc is)
pool_no_source pools.Failed is = absurd (cc is)
pool_no_source pools.OutOfMemory is = absurd (cc is)

recv_no_source : (fault : RecvFault) → recv_refusal fault ≢ refusals.SourceFault
recv_no_source (faults.Pool fault) is = pool_no_source fault is
recv_no_source (faults.Stream fault) is = absurd (cc is)
recv_no_source (faults.CannotApply index fault) is = absurd (cc is)

recv_is_open : (fault : RecvFault) → is_of_opening (recv_refusal fault) ≡ false
recv_is_open (faults.Pool fault) = pool_is_open fault
recv_is_open (faults.Stream fault) = refl
recv_is_open (faults.CannotApply index fault) = refl

module _ (here mid here' : DiskState) (input input' : SourceState) where
  -- none of opening
  is_open : (refusal : Refusal) → IsEnd mid here' input input' refusal → is_of_opening refusal ≡ false
  is_open refusal (inl r) = ap is_of_opening r.one.2 ∙ recv_is_open r.one.0
  is_open refusal (inr (inl cut)) = ap is_of_opening cut.1
  is_open refusal (inr (inr source)) = ap is_of_opening source.0

  whole_refusal : (refusal : Refusal) → here.faults ≤ mid.faults → IsEnd mid here' input input' refusal → IsReceiveRefusal here here' input input' refusal
  whole_refusal refusal later (inl r) = record {
    pool = record { one = inr (inl r.one); alive = r.alive; cause = λ e. Rose-earlier here.faults mid.faults here'.faults later (r.cause e) };
    cause = λ e. absurd (recv_no_source r.one.0 (sym r.one.2 ∙ e));
  }
  whole_refusal refusal later (inr (inl cut)) = record {
    pool = record { one = inr (inr (inl cut)); alive = λ e. (let s = cut.1 in cc (s, e)); cause = λ e. absurd (let s = cut.1 in cc (s, e)) };
    cause = λ e. absurd (let s = cut.1 in cc (s, e));
  }
  whole_refusal refusal later (inr (inr source)) = record {
    pool = record { one = inr (inr (inr source.0)); alive = λ e. (let s = source.0 in cc (s, e)); cause = λ e. absurd (let s = source.0 in cc (s, e)) };
    cause = λ e. source.1;
  }

  behind_opening : (answer : Result (List (List ℕ)) Refusal) → IfErr answer (IsEnd mid here' input input') → IfErr answer (λ refusal. is_of_opening refusal ≡ false)
  behind_opening (Ok lines) is = tt
  behind_opening (Err refusal) is = is_open refusal is

  refused_in : (answer : Result (List (List ℕ)) Refusal) → here.faults ≤ mid.faults → IfErr answer (IsEnd mid here' input input') → IfErr answer (IsReceiveRefusal here here' input input')
  refused_in (Ok lines) later is = tt
  refused_in (Err refusal) later is = whole_refusal refusal later is

told_err : (old now : DiskState) (input input' : SourceState) (result : Result Receipt Refusal) → IfErr result (IsEnd old now input input') → IfErr (told result) (IsEnd old now input input')
told_err old now input input' (Ok receipt) is = tt
told_err old now input input' (Err refusal) is = is

module _ (ask : RecvAsk) (here mid here' : DiskState) (input input' : SourceState) (kept : PoolState) (result : Result Receipt Refusal)
    (there : (tight : Bool) (body : Body) (rows : Rows) (pool : Pool) → mid.honest → ReadsAs tight body rows pool here.seen → GivesPool body rows (Ok kept))
    (answers : mid.honest → OpenAnswers here (Ok kept)) (reads : OnlyReads here mid)
    (stands : (tight : Bool) (body : Body) (rows : Rows) (pool : Pool) → mid.honest → ReadsAs tight body rows pool here.seen → Rests tight mid kept.body rows pool)
    (at_rest : (tight : Bool) (rows : Rows) (pool : Pool) → Rests tight mid kept.body rows pool → kept.dir ≡ kept_rows rows → IsAtRest tight mid kept pool)
    (later : here.faults ≤ mid.faults) (falls : here'.honest → mid.honest) (f : Fed (λ tight. IsReady ask tight mid kept) kept mid here' ask input input' (told result)) (plans : (text : List ℕ) → Gave input input' text → SaysOfPlan kept.dir ask text (told result))
    (damaged : (text : List ℕ) → Gave input input' text → (sector : ℕ) (stated found : List ℕ) → here'.honest → result ≡ Err (refusals.Damaged sector stated found) → IsDamagedReceive mid.seen mid.size kept.body kept.dir ask text sector stated found)
    (stood : ¬ (result ≡ Err refusals.DiskFault) → KeepsBlocks mid.seen (free_by kept.body) here'.seen (free_by kept.body))
    (only : (c : List ℕ) → here.left_since here.moment c → here.images c) (now_left : (t : ℕ) (c : List ℕ) → t ≤ here'.moment → here'.images c → here'.left_since t c) where
  ready : (tight : Bool) (body : Body) (rows : Rows) (pool : Pool) → here'.honest → ReadsAs tight body rows pool here.seen → IsTightOrNew tight ask pool → IsReady ask tight mid kept pool
  ready tight body rows pool honest is may =
      let same = (there tight body rows pool (falls honest) is).1 in
      (at_rest tight rows pool (stands tight body rows pool (falls honest) is) same, may)

  moments : (tight : Bool) (body : Body) (rows : Rows) (pool : Pool) → here'.honest → ReadsAs tight body rows pool here.seen → IsTightOrNew tight ask pool → Leaves here here' (IsOnTheWay tight here ask pool f.pieces)
  moments tight body rows pool honest is may =
      Leaves-then here mid here' (IsOnTheWay tight here ask pool f.pieces) (ReadsAlong tight ask pool f.pieces)
      (Leaves-weaker here mid here.images (IsOnTheWay tight here ask pool f.pieces) reads.time (λ c image. inl image)) (f.says tight pool honest (ready tight body rows pool honest is may)).moments (λ c along. inr along)

  pub opened : IfErr result (IsEnd mid here' input input') → mid.faults ≤ here'.faults → input.faults ≤ input'.faults → Receiving ask here here' input input' (told result)
  opened refused still input_later =
      let ends = told_err mid here' input input' result refused in
      record {
        pieces = f.pieces;
        are_pieces = f.are_pieces;
        consumed = f.consumed;
        wanted = λ tight body rows pool honest is may. (f.says tight pool honest (ready tight body rows pool honest is may)).wanted;
        moments = moments;
        images = λ tight body rows pool honest is may.
            images_after here here' (IsOnTheWay tight here ask pool f.pieces) (moments tight body rows pool honest is may) (λ c image. inl image) only now_left;
        ends = λ tight body rows pool honest is may. (f.says tight pool honest (ready tight body rows pool honest is may)).ends;
        opened = λ honest. let was = answers (falls honest) in
            ran_says (OnlyReads here here' × (input' ≡ input)) here (ReceiveRan ask f.pieces here here' (told result)) (told result) (
              kept.body,
              was.1,
              record {
                opens = (was.0, was.2, was.3);
                planned = subst (λ (r : Rows). SaysOfPlan r ask (concat f.pieces) (told result)) was.4 (plans (concat f.pieces) f.consumed);
                damaged = λ sector stated found is.
                    damaged_here here.seen mid.seen here.size mid.size kept.body kept.dir (kept_rows was.1) ask (concat f.pieces) sector stated found reads.seen reads.size was.4
                    (damaged (concat f.pieces) f.consumed sector stated found honest (told_damaged result (refusals.Damaged sector stated found) is));
                stood = λ apart. subst (λ (s : List ℕ). KeepsBlocks s (free_by kept.body) here'.seen (free_by kept.body)) reads.seen (stood (told_apart result apart));
              },
            ) (behind_opening here mid here' input input' (told result) ends);
        text = f.text;
        cost = λ honest need largest is. let was = answers (falls honest) in (kept.body, was.1, (was.0, was.2, was.3), subst (λ (r : Rows). PiecesFindNoRoom (record { body = kept.body; dir = r }) f.pieces need largest) was.4 (f.cost need largest is));
        refused = refused_in here mid here' input input' (told result) later ends;
        later = omega (arith, later, still);
        input_later = input_later;
      }
