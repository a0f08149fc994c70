-- What the commands that make content leave of an image, from what opening the pool and running them say.
use Rattle.std.specs.Prelude.{Result, Ok, Err, IfErr}
use Rattle.std.proofs.Common.{◌≡◌, ◌≢◌, inl, inr, ℕ, ◌≤◌, Bool, false, List, refl, sym, ap, ◌∙◌, subst, arith}
use Rattle.zst_outside.specs.Causes.{Rose-earlier}
use Rattle.zst_outside.specs.Images.{DiskState, IsSynced, Leaves, Leaves-then, Leaves-weaker, OnlyReads}
use Rattle.zst_block.specs.Blocks.{KeepsBlocks}
use Rattle.zst_uber.specs.DiskCalls as disk_calls
use Rattle.zst_image.specs.Bodies.{Body, free_by}
use Rattle.zst_model.specs.declared.refusals.refusal.Refusal.{Refusal}
use Rattle.zst_model.specs.declared.refusals.refusal.Refusal.TheVariants as refusals
use Rattle.zst_model.specs.pools.KeptPool.{kept_of}
use Rattle.zst_model.specs.pools.Pool.{Pool}
use Rattle.zst_dir.specs.Rows.{Rows}
use Rattle.zst_image.specs.Faults.{open_refusal}
use Rattle.zst_image.specs.OpenAnswers.{GivesPool, OpenAnswers}
use Rattle.zst_image.specs.Reads.{Reads, ReadsAs, Rests, kept_rows}
use Rattle.zst_image.specs.declared.open_fault.OpenFault.{OpenFault}
use Rattle.zst_image.specs.declared.open_fault.OpenFault.TheVariants as opens
use Rattle.zst_image.specs.declared.pool_state.PoolState.{PoolState}
use Rattle.zst_pool.specs.Calls.{IsAtRest}
use Rattle.zst_run.specs.Commands.{IsPoolRefusal, OfStepping}
use Rattle.zst_run.specs.Generating.{GenEnds, GenRan, Generating, OldOrMade, OneIsShort, ReadsMade, StoppedAt}
use Rattle.zst_run.specs.GeneratorTurns.{AllDid, IsStepRefusal, lines_of}
use Rattle.zst_run.proofs.CommandLemmas.{images_after, open_alive, open_disk, rests_read}
use Rattle.zst_run.proofs.GeneratorRuns.{none_made}
use Rattle.zst_run.proofs.ImageReceives.{KeepsWhole}
use Rattle.zst_run.proofs.ImageSends.{idle_says, is_of_opening, pool_is_open, ran_says}

-- ---- where the pool can't be opened

abbrev answered : Refusal → Result (List (List ℕ)) Refusal
answered refusal = Err refusal

-- the pool that was there stands
none_stands : (tight : Bool) (now steps : ℕ) (here' : DiskState) (body : Body) (rows : Rows) (pool : Pool) → kept_of pool ≡ pool → Rests tight here' body rows pool → StoppedAt tight now steps pool here'
none_stands tight now steps here' body rows pool whole rests = record {
  count = 0;
  more = omega arith;
  made = record {
    after = pool;
    is = none_made now steps pool;
    keeps = (body, rows, subst (λ (p : Pool). Rests tight here' body rows p) (sym whole) rests);
  };
}

unopened_ends : (tight : Bool) (now steps : ℕ) (here' : DiskState) (body : Body) (rows : Rows) (pool : Pool) (fault : OpenFault) → kept_of pool ≡ pool → GivesPool body rows (Err fault)
    → (fault ≢ opens.DiskFault → Rests tight here' body rows pool) → GenEnds tight now steps pool here' (Err (open_refusal fault))
unopened_ends tight now steps here' body rows pool (opens.Damaged sector stated found) whole gives rests = absurd gives
unopened_ends tight now steps here' body rows pool opens.NoPool whole gives rests = absurd gives
unopened_ends tight now steps here' body rows pool (opens.BadVersion version) whole gives rests = absurd gives
unopened_ends tight now steps here' body rows pool opens.DiskFault whole gives rests = tt
unopened_ends tight now steps here' body rows pool opens.OutOfMemory whole gives rests = none_stands tight now steps here' body rows pool whole (rests (λ is. absurd (cc is)))

pub unopened : KeepsWhole → (now steps : ℕ) (here here' : DiskState) (fault : OpenFault)
    → ((tight : Bool) (body : Body) (rows : Rows) (pool : Pool) → here'.honest → ReadsAs tight body rows pool here.seen → GivesPool body rows (Err fault))
    → (here'.honest → OpenAnswers here (Err fault)) → OnlyReads here here' → (fault ≢ opens.DiskFault → IsSynced here')
    → disk_calls.HasDiskCause {T = PoolState} opens.DiskFault here.faults here'.faults (Err fault) → Generating now steps here here' (Err (open_refusal fault))
unopened whole now steps here here' fault there answer reads synced cause = record {
  moments = λ tight pool told is. Leaves-weaker here here' here.images (OldOrMade tight here now steps pool) reads.time (λ c image. inl image);
  images = λ tight pool told is c image. inl (reads.crash c image);
  ends = λ tight pool told is.
      unopened_ends tight now steps here' is.0 is.1 pool fault (whole.0 pool (whole.1 tight is.0 is.1 pool here.seen is.2)) (there tight is.0 is.1 pool told is.2)
      (λ alive. rests_read here here' is.0 is.1 pool is.2 reads (synced alive));
  opened = λ told. idle_says (List (List ℕ)) (OnlyReads here here') here (GenRan steps here here' (Err (open_refusal fault))) fault reads (answer told);
  refused = record { one = inl (fault, refl); alive = open_alive fault; cause = λ is. cause.fault (ap (λ (f : OpenFault). Err f) (open_disk fault is)) };
  later = cause.later;
}

-- ---- where it is opened

-- the line tells no refusal, and each refusal is told
lines_refused : (steps : ℕ) (P : Refusal → Type 0) (result : Result ℕ Refusal) → IfErr result P → IfErr (lines_of steps result) P
lines_refused steps P (Ok number) is = tt
lines_refused steps P (Err refusal) is = is

lines_err : (steps : ℕ) (result : Result ℕ Refusal) (refusal : Refusal) → lines_of steps result ≡ Err refusal → result ≡ Err refusal
lines_err steps (Ok number) refusal is = absurd (cc is)
lines_err steps (Err other) refusal is = let same : other ≡ refusal = cc is in ap (λ (r : Refusal). Err r) same

behind_opening : (old new : DiskState) (result : Result ℕ Refusal) → IfErr result (IsStepRefusal old new) → IfErr result (λ refusal. is_of_opening refusal ≡ false)
behind_opening old new (Ok number) why = tt
behind_opening old new (Err refusal) why = ap is_of_opening why.one.1 ∙ pool_is_open why.one.0

whole_refusal : (here mid here' : DiskState) (result : Result ℕ Refusal) → here.faults ≤ mid.faults → IfErr result (IsStepRefusal mid here') → IfErr result (IsPoolRefusal OfStepping here here')
whole_refusal here mid here' (Ok number) later why = tt
whole_refusal here mid here' (Err refusal) later why = record { one = inr why.one; alive = why.alive; cause = λ is. Rose-earlier here.faults mid.faults here'.faults later (why.cause is) }

module _ (now steps : ℕ) (here mid here' : DiskState) (kept : PoolState) (result : Result ℕ Refusal)
    (there : (tight : Bool) (body : Body) (rows : Rows) (pool : Pool) → mid.honest → ReadsAs tight body rows pool here.seen → GivesPool body rows (Ok kept))
    (answers : mid.honest → OpenAnswers here (Ok kept)) (reads : OnlyReads here mid)
    (stands : (tight : Bool) (body : Body) (rows : Rows) (pool : Pool) → mid.honest → ReadsAs tight body rows pool here.seen → Rests tight mid kept.body rows pool)
    (at_rest : (tight : Bool) (rows : Rows) (pool : Pool) → Rests tight mid kept.body rows pool → kept.dir ≡ kept_rows rows → IsAtRest tight mid kept pool)
    (later : here.faults ≤ mid.faults) (falls : here'.honest → mid.honest)
    (says : (tight : Bool) (pool : Pool) → here'.honest → IsAtRest tight mid kept pool → AllDid tight now steps pool mid here' (lines_of steps result))
    (stood : ¬ (result ≡ Err refusals.DiskFault) → KeepsBlocks mid.seen (free_by kept.body) here'.seen (free_by kept.body))
    (full : (need largest : ℕ) → result ≡ Err (refusals.Full need largest) → OneIsShort steps kept here' need largest) (why : IfErr result (IsStepRefusal mid here'))
    (only : (c : List ℕ) → here.left_since here.moment c → here.images c) (now_left : (t : ℕ) (c : List ℕ) → t ≤ here'.moment → here'.images c → here'.left_since t c) where
  did : (tight : Bool) (pool : Pool) → here'.honest → Reads tight pool here.seen → AllDid tight now steps pool mid here' (lines_of steps result)
  did tight pool told is =
      let same = (there tight is.0 is.1 pool (falls told) is.2).1 in
      says tight pool told (at_rest tight is.1 pool (stands tight is.0 is.1 pool (falls told) is.2) same)

  moments : (tight : Bool) (pool : Pool) → here'.honest → Reads tight pool here.seen → Leaves here here' (OldOrMade tight here now steps pool)
  moments tight pool told is =
      Leaves-then here mid here' (OldOrMade tight here now steps pool) (ReadsMade tight now steps pool)
      (Leaves-weaker here mid here.images (OldOrMade tight here now steps pool) reads.time (λ c image. inl image)) (did tight pool told is).moments (λ c made. inr made)

  pub opened : mid.faults ≤ here'.faults → Generating now steps here here' (lines_of steps result)
  opened still = record {
    moments = moments;
    images = λ tight pool told is. images_after here here' (OldOrMade tight here now steps pool) (moments tight pool told is) (λ c image. inl image) only now_left;
    ends = λ tight pool told is. (did tight pool told is).ends;
    opened = λ told. let was = answers (falls told) in
        ran_says (OnlyReads here here') here (GenRan steps here here' (lines_of steps result)) (lines_of steps result) (
          kept.body,
          was.1,
          record {
            opens = (was.0, was.2, was.3);
            stood = λ apart. subst (λ (s : List ℕ). KeepsBlocks s (free_by kept.body) here'.seen (free_by kept.body)) reads.seen (stood (λ is. apart (ap (lines_of steps) is)));
            full = λ need largest is.
                subst (λ (r : Rows). OneIsShort steps (record { body = kept.body; dir = r }) here' need largest) was.4 (full need largest (lines_err steps result (refusals.Full need largest) is));
          },
        ) (lines_refused steps (λ refusal. is_of_opening refusal ≡ false) result (behind_opening mid here' result why));
    refused = lines_refused steps (IsPoolRefusal OfStepping here here') result (whole_refusal here mid here' result later why);
    later = omega (arith, later, still);
  }
