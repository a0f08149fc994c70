-- Which damage a receive tells.
use Rattle.std.specs.Prelude.{Option, None, Some, Result, Ok, Err}
use Rattle.std.proofs.Common.{◌≡◌, ℕ, zero, suc, true, false, List, ◌++◌, refl, sym, ap, ◌∙◌, subst}
use Rattle.zst_outside.specs.Images.{DiskState}
use Rattle.zst_space.specs.FreeSectors.{FreeSectors}
use Rattle.zst_block.specs.Blocks.{KeepsBlocks, SparesTaken}
use Rattle.zst_block.proofs.BlocksLaws.{SparesTaken-same}
use Rattle.zst_tree.specs.declared.tree.ObjSet.{ObjSet}
use Rattle.zst_dir.specs.Rows.{Rows}
use Rattle.zst_apply.specs.Damage.{apply_damage}
use Rattle.zst_block.specs.IoCalls.{is_damage}
use Rattle.zst_image.specs.Bodies.{Body, free_by}
use Rattle.zst_image.specs.declared.pool_state.PoolState.{PoolState}
use Rattle.zst_model.specs.declared.refusals.refusal.Refusal.{Refusal}
use Rattle.zst_model.specs.declared.refusals.refusal.Refusal.TheVariants as refusals
use Rattle.zst_model.proofs.PlanFaults.{plan_cases}
use Rattle.zst_pool.specs.declared.fault.PoolFault.TheVariants as pools
use Rattle.zst_plan.specs.declared.receive.RecvAsk.{RecvAsk}
use Rattle.zst_recv.specs.Damage.{BeginsWith, IsBegun, IsDamagedFeed, MakesStage, PieceMakes}
use Rattle.zst_recv.specs.Faults.{recv_refusal, stop_at}
use Rattle.zst_recv.specs.declared.fault.RecvFault.{RecvFault}
use Rattle.zst_recv.specs.declared.fault.RecvFault.TheVariants as faults
use Rattle.zst_recv.specs.Stages.{waits_at}
use Rattle.zst_recv.specs.declared.recv.FeedReport.{FeedReport}
use Rattle.zst_recv.specs.declared.stage.Stage as coded
use Rattle.zst_recv.specs.declared.stage.Stage.TheVariants as stages
use Rattle.zst_recv.proofs.SetOrigins.{begun_later}
use Rattle.zst_run.specs.Receives.{IsDamagedReceive, MadeBy}
use Rattle.zst_run.specs.ReceiveTurns.{Traced, cut_refusal, is_damaged, told, turn_behind}
use Rattle.zst_run.specs.declared.receive.End.{End}
use Rattle.zst_run.specs.declared.receive.End.TheVariants.{Ended, Failed}
use Rattle.zst_run.specs.declared.receive.Receipt.{Receipt}
use Rattle.zst_run.specs.declared.receive.Turn.TheVariants as turns

-- E25 is one of the pool
pub damaged_only : (fault : RecvFault) (sector : ℕ) (stated found : List ℕ) → recv_refusal fault ≡ refusals.Damaged sector stated found → fault ≡ faults.Pool (pools.Damaged sector stated found)
damaged_only (faults.Pool (pools.Plan fault)) sector stated found is = absurd (plan_cases (λ f r. r ≡ refusals.Damaged sector stated found → ⊥) (λ f e. cc (e)) (λ which number e. cc (e)) fault is)
damaged_only (faults.Pool (pools.CannotApply fault)) sector stated found is = absurd (cc is)
damaged_only (faults.Pool (pools.Redacted object block)) sector stated found is = absurd (cc is)
damaged_only (faults.Pool (pools.Full need largest)) sector stated found is = absurd (cc is)
damaged_only (faults.Pool (pools.Damaged at says finds)) sector stated found is = cc
damaged_only (faults.Pool pools.DiskFault) sector stated found is = absurd (cc is)
damaged_only (faults.Pool pools.Failed) sector stated found is = absurd (cc is)
damaged_only (faults.Pool pools.OutOfMemory) sector stated found is = absurd (cc is)
damaged_only (faults.Stream fault) sector stated found is = absurd (cc is)
damaged_only (faults.CannotApply index fault) sector stated found is = absurd (cc is)

-- and each that a receive meets is told so
pub damage_refused : (fault : RecvFault) → is_damaged (recv_refusal fault) ≡ false → is_damage (stop_at fault) ≡ false
damage_refused (faults.Pool (pools.Plan fault)) whole = refl
damage_refused (faults.Pool (pools.CannotApply fault)) whole = refl
damage_refused (faults.Pool (pools.Redacted object block)) whole = refl
damage_refused (faults.Pool (pools.Full need largest)) whole = refl
damage_refused (faults.Pool (pools.Damaged at says finds)) whole = whole
damage_refused (faults.Pool pools.DiskFault) whole = refl
damage_refused (faults.Pool pools.Failed) whole = refl
damage_refused (faults.Pool pools.OutOfMemory) whole = refl
damage_refused (faults.Stream fault) whole = refl
damage_refused (faults.CannotApply index fault) whole = refl

pub never_refused : (end : Option End) (refusal : Refusal) → turn_behind end ≡ turns.Refused refusal → ⊥
never_refused None refusal is = cc (is)
never_refused (Some end) refusal is = cc (is)

pub turn_refused : (one other : Refusal) → turns.Refused one ≡ turns.Refused other → one ≡ other
turn_refused one other is = cc

pub cut_undamaged : (end : End) (count : ℕ) (sector : ℕ) (stated found : List ℕ) → cut_refusal end count ≡ refusals.Damaged sector stated found → ⊥
cut_undamaged Ended count sector stated found is = cc (is)
cut_undamaged Failed count sector stated found is = cc (is)

-- a receive that was told so
pub told_damaged : (result : Result Receipt Refusal) (refusal : Refusal) → told result ≡ Err refusal → result ≡ Err refusal
told_damaged (Ok receipt) refusal is = absurd (cc is)
told_damaged (Err other) refusal is = let same : other ≡ refusal = cc (is) in ap (λ (r : Refusal). Err r) same

-- opening only read
pub damaged_here : (image other : List ℕ) (size same : ℕ) (body : Body) (rows listed : Rows) (ask : RecvAsk) (text : List ℕ) (sector : ℕ) (stated found : List ℕ) → other ≡ image → same ≡ size → rows ≡ listed
    → IsDamagedReceive other same body rows ask text sector stated found → IsDamagedReceive image size body listed ask text sector stated found
damaged_here image other size same body rows listed ask text sector stated found seen long rows_are is =
    subst (λ (i : List ℕ). IsDamagedReceive i size body listed ask text sector stated found) seen
    (subst (λ (n : ℕ). IsDamagedReceive other n body listed ask text sector stated found) long
    (subst (λ (r : Rows). IsDamagedReceive other same body r ask text sector stated found) rows_are is))

-- ---- the sets that pieces make

-- nothing was made of a stage that stays
pub idle_makes : (rows : Rows) (ask : RecvAsk) (text seen : List ℕ) (free : FreeSectors) (size : ℕ) (stage : coded.Stage) → MakesStage rows ask text seen free size stage seen free stage
idle_makes rows ask text seen free size stages.Waits = tt
idle_makes rows ask text seen free size (stages.Lives flags row) =
    (row.objects, refl, record { mid = seen; less = free; spares = SparesTaken-same free seen; within = λ sector stated found damaged. damaged; blocks = λ ptr bytes has. has })
idle_makes rows ask text seen free size (stages.Ends row) = tt
idle_makes rows ask text seen free size (stages.Done received) = tt
idle_makes rows ask text seen free size stages.Over = tt

-- before BEGIN the rows are those at the start
pub unfed_traced : (start : DiskState) (first : PoolState) (ask : RecvAsk) (text seen : List ℕ) (stage : coded.Stage) → waits_at stage ≡ true → Traced start first ask text seen first stage
unfed_traced start first ask text seen stages.Waits waits = refl
unfed_traced start first ask text seen (stages.Lives flags row) waits = absurd (cc waits)
unfed_traced start first ask text seen (stages.Ends row) waits = absurd (cc waits)
unfed_traced start first ask text seen (stages.Done received) waits = absurd (cc waits)
unfed_traced start first ask text seen stages.Over waits = absurd (cc waits)

still_first : (kept first : PoolState) (start : DiskState) (ask : RecvAsk) (text seen : List ℕ) (before : coded.Stage) → waits_at before ≡ true → Traced start first ask text seen kept before → kept ≡ first
still_first kept first start ask text seen stages.Waits waits traced = traced
still_first kept first start ask text seen (stages.Lives flags row) waits traced = absurd (cc waits)
still_first kept first start ask text seen (stages.Ends row) waits traced = absurd (cc waits)
still_first kept first start ask text seen (stages.Done received) waits traced = absurd (cc waits)
still_first kept first start ask text seen stages.Over waits traced = absurd (cc waits)

-- as a text goes on, a set that was made so far is made so
made_later : (pieces : ℕ) (image : List ℕ) (size : ℕ) (free : FreeSectors) (rows : Rows) (ask : RecvAsk) (text more seen : List ℕ) (left : FreeSectors) (set : ObjSet) → MadeBy pieces image size free rows ask text seen left set
    → MadeBy pieces image size free rows ask (text ++ more) seen left set
made_later zero image size free rows ask text more seen left set made = (begun_later rows ask text more set made.0, made.1)
made_later (suc pieces) image size free rows ask text more seen left set made = (made.0, made.1, made.2, made_later pieces image size free rows ask text more made.0 made.1 made.2 made.3, made.4)

pub traced_later : (start : DiskState) (first : PoolState) (ask : RecvAsk) (text more seen : List ℕ) (kept : PoolState) (stage : coded.Stage) → Traced start first ask text seen kept stage → Traced start first ask (text ++ more) seen kept stage
traced_later start first ask text more seen kept stages.Waits traced = traced
traced_later start first ask text more seen kept (stages.Lives flags row) traced =
    (traced.0, made_later traced.0 start.seen start.size (free_by first.body) first.dir ask text more seen (free_by kept.body) row.objects traced.1)
traced_later start first ask text more seen kept (stages.Ends row) traced = tt
traced_later start first ask text more seen kept (stages.Done received) traced = tt
traced_later start first ask text more seen kept stages.Over traced = tt

module _ (start : DiskState) (first : PoolState) (ask : RecvAsk) (text : List ℕ) (old : List ℕ) (size : ℕ) (kept : PoolState) (same : size ≡ start.size) (blocks : KeepsBlocks start.seen (free_by first.body) old (free_by kept.body)) where
  -- the set that a turn begins with
  made_so_far : (before : coded.Stage) → Traced start first ask text old kept before → (set : ObjSet) → BeginsWith kept.dir ask text before set
      → (pieces : ℕ) × MadeBy pieces start.seen start.size (free_by first.body) first.dir ask text old (free_by kept.body) set
  made_so_far stages.Waits traced set begins = (0, (subst (λ (k : PoolState). IsBegun k.dir ask text set) traced begins, blocks))
  made_so_far (stages.Lives flags row) traced set begins =
      (traced.0, subst (λ (s : ObjSet). MadeBy traced.0 start.seen start.size (free_by first.body) first.dir ask text old (free_by kept.body) s) (sym begins) traced.1)
  made_so_far (stages.Ends row) traced set begins = absurd begins
  made_so_far (stages.Done received) traced set begins = absurd begins
  made_so_far stages.Over traced set begins = absurd begins

  module _ (before : coded.Stage) (traced : Traced start first ask text old kept before) where
    -- a turn that goes on
    pub traced_on : (new : List ℕ) (next : PoolState) (after : coded.Stage) → (waits_at after ≡ true → (next ≡ kept) × (waits_at before ≡ true))
        → MakesStage kept.dir ask text old (free_by kept.body) size before new (free_by next.body) after → Traced start first ask text new next after
    traced_on new next stages.Waits waits makes = let idle = waits refl in idle.0 ∙ still_first kept first start ask text old before idle.1 traced
    traced_on new next (stages.Lives flags row) waits makes =
        let so_far = made_so_far before traced makes.0 makes.1 in (
          suc so_far.0,
          (old, free_by kept.body, makes.0, so_far.1, subst (λ (n : ℕ). PieceMakes old (free_by kept.body) n makes.0 new (free_by next.body) row.objects) same makes.2),
        )
    traced_on new next (stages.Ends row) waits makes = tt
    traced_on new next (stages.Done received) waits makes = tt
    traced_on new next stages.Over waits makes = tt

    -- one that is refused for a damage
    pub damaged_behind : (disk : DiskState) → disk.seen ≡ old → disk.size ≡ size → (sector : ℕ) (stated found : List ℕ) → IsDamagedFeed disk (free_by kept.body) kept.dir ask text before sector stated found
        → IsDamagedReceive start.seen start.size first.body first.dir ask text sector stated found
    damaged_behind disk seen_is size_is sector stated found is =
        let so_far = made_so_far before traced is.set is.begins in
        record {
          pieces = so_far.0;
          seen = old;
          left = free_by kept.body;
          set = is.set;
          blocks = blocks;
          made = so_far.1;
          damaged = subst (λ (n : ℕ). apply_damage (SparesTaken (free_by kept.body) old) n is.set sector stated found) (size_is ∙ same)
              (subst (λ (i : List ℕ). apply_damage (SparesTaken (free_by kept.body) i) disk.size is.set sector stated found) seen_is is.damaged);
        }

-- what stood as the run began still stands behind a turn that left what stood before it
pub stood_behind : (start : List ℕ) (free : FreeSectors) (old : List ℕ) (left : FreeSectors) (new : List ℕ) → KeepsBlocks start free old left → KeepsBlocks old left new left → KeepsBlocks start free new free
stood_behind start free old left new first second = λ ptr bytes has. let there = second ptr bytes (first ptr bytes has) in record { block = there.block; behind = has.behind; taken = has.taken }

-- the answer of a feed that was refused
abbrev fed_refused : RecvFault → Result FeedReport RecvFault
fed_refused fault = Err fault

pub disk_refused : (fault : RecvFault) → fed_refused fault ≡ fed_refused (faults.Pool pools.DiskFault) → recv_refusal fault ≡ refusals.DiskFault
disk_refused fault is = let same : fault ≡ faults.Pool pools.DiskFault = cc is in ap recv_refusal same

-- a receive that was told so isn't one whose disk failed
pub told_apart : (result : Result Receipt Refusal) → ¬ (told result ≡ Err refusals.DiskFault) → ¬ (result ≡ Err refusals.DiskFault)
told_apart result apart = λ is. apart (ap told is)

abbrev refused : Refusal → Result Receipt Refusal
refused refusal = Err refusal

pub err_refused : (one other : Refusal) → refused one ≡ refused other → one ≡ other
err_refused one other is = cc

pub memory_undamaged : (sector : ℕ) (stated found : List ℕ) → refused refusals.OutOfMemory ≡ refused (refusals.Damaged sector stated found) → ⊥
memory_undamaged sector stated found is = cc (is)
