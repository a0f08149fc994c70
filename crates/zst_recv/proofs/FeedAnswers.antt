-- What a feed makes of a pool, from what was read of the piece and what its commit gave.
use Rattle.std.proofs.Common.{◌≡◌, ◌⊎◌, inl, inr, ⊎_elim, ℕ, ◌<◌, ◌&&◌, Bool, true, false, cond, List, Option, Some, None, Result, Ok, Err, refl, sym, ap, ◌∙◌, subst}
use Rattle.std.specs.Prelude.{IfErr, IfSome}
use Rattle.zst_outside.specs.Images.{DiskState, Leaves, Leaves-weaker}
use Rattle.zst_image.specs.Reads.{Reads}
use Rattle.zst_image.specs.declared.pool_state.PoolState.{PoolState}
use Rattle.zst_model.specs.declared.refusals.faults.Quantity.TheVariants as quantities
use Rattle.zst_model.specs.declared.refusals.plan_fault.PlanFault.{PlanFault}
use Rattle.zst_model.specs.declared.refusals.plan_fault.PlanFault.TheVariants as plans
use Rattle.zst_model.specs.declared.refusals.refusal.Refusal.{Refusal}
use Rattle.zst_model.specs.declared.refusals.refusal.Refusal.TheVariants as refusals
use Rattle.zst_model.specs.pools.KeptPool.{kept_of}
use Rattle.zst_model.specs.pools.Pool.{Pool}
use Rattle.zst_model.specs.refusals.Refusal.{refusal_of}
use Rattle.zst_plan.specs.declared.receive.RecvAsk.{RecvAsk}
use Rattle.zst_pool.specs.Calls.{CallFault, IsAtRest}
use Rattle.zst_pool.specs.declared.fault.PoolFault.{PoolFault}
use Rattle.zst_pool.specs.declared.fault.PoolFault.TheVariants as pools
use Rattle.zst_recv.specs.Answers.{FeedAnswer, FeedFault, IsStopped}
use Rattle.zst_recv.specs.Faults.{is_block_limit, keeps_before, recv_refusal}
use Rattle.zst_recv.specs.Feeds.{fed_piece}
use Rattle.zst_recv.specs.ReceiveSteps.{Stage, Batch, Fed, Goes, Stops, at_stage, committed, fed, is_kept, keeps_front, left_by, pool_of, put, settled}
use Rattle.zst_recv.specs.TakenRecords.{ReadFault, fault_in, taken_of}
use Rattle.zst_recv.specs.declared.fault.RecvFault.{RecvFault}
use Rattle.zst_recv.specs.declared.fault.RecvFault.TheVariants as faults
use Rattle.zst_recv.specs.declared.recv.Recv.{Recv}
use Rattle.zst_recv.proofs.ByteLimits.{IsTame, tame_piece, tame_put}

-- a refusal of a plan that isn't for the bytes of a stream is told as the definition's
plan_told : (tight : Bool) (now : DiskState) (kept : PoolState) (text piece : List ℕ) (before : Stage) (pool : Pool) (definition : Fed) (fault : PlanFault) → IsTame (refusal_of fault) → IsStopped tight now kept definition (refusal_of fault)
    → FeedFault tight now kept text piece before pool definition (pools.Plan fault)
plan_told tight now kept text piece before pool definition (plans.BadName place) tame is = is
plan_told tight now kept text piece before pool definition (plans.NoSuch missing) tame is = is
plan_told tight now kept text piece before pool definition (plans.Exists present) tame is = is
plan_told tight now kept text piece before pool definition (plans.Busy holder) tame is = is
plan_told tight now kept text piece before pool definition (plans.NotAncestor to from) tame is = is
plan_told tight now kept text piece before pool definition (plans.NotRedactionOf bookmark snapshot) tame is = is
plan_told tight now kept text piece before pool definition (plans.NotDescendant name) tame is = is
plan_told tight now kept text piece before pool definition (plans.Modified name) tame is = is
plan_told tight now kept text piece before pool definition (plans.NotLatest have want) tame is = is
plan_told tight now kept text piece before pool definition (plans.NoOrigin guid) tame is = is
plan_told tight now kept text piece before pool definition (plans.NotContained guid) tame is = is
plan_told tight now kept text piece before pool definition (plans.PartialExists name) tame is = is
plan_told tight now kept text piece before pool definition (plans.NoPartial name) tame is = is
plan_told tight now kept text piece before pool definition (plans.WrongResume have want) tame is = is
plan_told tight now kept text piece before pool definition (plans.Unsupported lack) tame is = is
plan_told tight now kept text piece before pool definition (plans.Limit quantities.Object number) tame is = is
plan_told tight now kept text piece before pool definition (plans.Limit quantities.Block number) tame is = is
plan_told tight now kept text piece before pool definition (plans.Limit quantities.Datasets number) tame is = is
plan_told tight now kept text piece before pool definition (plans.Limit quantities.Snapshots number) tame is = is
plan_told tight now kept text piece before pool definition (plans.Limit quantities.Bookmarks number) tame is = is
plan_told tight now kept text piece before pool definition (plans.Limit quantities.Partials number) tame is = is
plan_told tight now kept text piece before pool definition (plans.Limit quantities.RedactionSnapshots number) tame is = is
plan_told tight now kept text piece before pool definition (plans.Limit quantities.Runs number) tame is = is
plan_told tight now kept text piece before pool definition (plans.Limit quantities.Sends number) tame is = is
plan_told tight now kept text piece before pool definition (plans.Limit quantities.Receives number) tame is = is
plan_told tight now kept text piece before pool definition (plans.Limit quantities.Number number) tame is = is
plan_told tight now kept text piece before pool definition (plans.Limit quantities.Guids number) tame is = is
plan_told tight now kept text piece before pool definition (plans.Limit quantities.Device number) tame is = is
plan_told tight now kept text piece before pool definition (plans.Limit quantities.Stream number) tame is = absurd (tame refl)
plan_told tight now kept text piece before pool definition (plans.Limit quantities.Script number) tame is = is

-- the code and the definition keep the records before the same faults
front_plan : (fault : PlanFault) → is_block_limit fault ≡ keeps_front (refusal_of fault)
front_plan (plans.BadName place) = refl
front_plan (plans.NoSuch missing) = refl
front_plan (plans.Exists present) = refl
front_plan (plans.Busy holder) = refl
front_plan (plans.NotAncestor to from) = refl
front_plan (plans.NotRedactionOf bookmark snapshot) = refl
front_plan (plans.NotDescendant name) = refl
front_plan (plans.Modified name) = refl
front_plan (plans.NotLatest have want) = refl
front_plan (plans.NoOrigin guid) = refl
front_plan (plans.NotContained guid) = refl
front_plan (plans.PartialExists name) = refl
front_plan (plans.NoPartial name) = refl
front_plan (plans.WrongResume have want) = refl
front_plan (plans.Unsupported lack) = refl
front_plan (plans.Limit quantities.Object number) = refl
front_plan (plans.Limit quantities.Block number) = refl
front_plan (plans.Limit quantities.Datasets number) = refl
front_plan (plans.Limit quantities.Snapshots number) = refl
front_plan (plans.Limit quantities.Bookmarks number) = refl
front_plan (plans.Limit quantities.Partials number) = refl
front_plan (plans.Limit quantities.RedactionSnapshots number) = refl
front_plan (plans.Limit quantities.Runs number) = refl
front_plan (plans.Limit quantities.Sends number) = refl
front_plan (plans.Limit quantities.Receives number) = refl
front_plan (plans.Limit quantities.Number number) = refl
front_plan (plans.Limit quantities.Guids number) = refl
front_plan (plans.Limit quantities.Device number) = refl
front_plan (plans.Limit quantities.Stream number) = refl
front_plan (plans.Limit quantities.Script number) = refl

-- where a fault is the first of the definition it is one of these
front_same : (first : Option Refusal) (fault : RecvFault) → first ≡ Some (recv_refusal fault) → ReadFault first fault → keeps_before fault ≡ keeps_front (recv_refusal fault)
front_same first (faults.Pool (pools.Plan fault)) is told = front_plan fault
front_same first (faults.Pool (pools.CannotApply fault)) is told = absurd told
front_same first (faults.Pool (pools.Redacted object block)) is told = absurd told
front_same first (faults.Pool (pools.Full need largest)) is told = refl
front_same first (faults.Pool (pools.Damaged sector stated found)) is told = absurd told
front_same first (faults.Pool pools.DiskFault) is told = refl
front_same first (faults.Pool pools.Failed) is told = absurd told
front_same first (faults.Pool pools.OutOfMemory) is told = absurd told
front_same first (faults.Stream fault) is told = refl
front_same first (faults.CannotApply index fault) is told = refl

-- such a fault is the first of the definition
first_is : (first : Option Refusal) (fault : RecvFault) → ReadFault first fault → keeps_before fault ≡ true → first ≡ Some (recv_refusal fault)
first_is first (faults.Pool (pools.Plan fault)) told keeps = told
first_is first (faults.Pool (pools.CannotApply fault)) told keeps = absurd told
first_is first (faults.Pool (pools.Redacted object block)) told keeps = absurd told
first_is first (faults.Pool (pools.Full need largest)) told keeps = absurd cc
first_is first (faults.Pool (pools.Damaged sector stated found)) told keeps = absurd told
first_is first (faults.Pool pools.DiskFault) told keeps = absurd cc
first_is first (faults.Pool pools.Failed) told keeps = absurd told
first_is first (faults.Pool pools.OutOfMemory) told keeps = absurd told
first_is first (faults.Stream fault) told keeps = told
first_is first (faults.CannotApply index fault) told keeps = told

module _ (ask : RecvAsk) (text piece : List ℕ) (stage : Stage) (running : Pool) where
  abbrev piece_batch : Batch
  piece_batch = (taken_of ask running text piece (at_stage stage)).batch

  abbrev piece_fault : Option Refusal
  piece_fault = fault_in ask running text piece (at_stage stage)

  made : fed_piece ask text piece stage running ≡ settled stage running piece_batch piece_fault
  unfolding fed
  made = refl

  -- whether the records before this refusal stay
  abbrev stays : Refusal → Bool
  stays refusal = keeps_front refusal && is_kept piece_batch.stage

  -- what was taken is to be committed
  abbrev pub IsDue : Option Refusal → Type 0
  IsDue None = piece_fault ≡ None
  IsDue (Some refusal) = (piece_fault ≡ Some refusal) × (stays refusal ≡ true)

  pub due_some : (fault : RecvFault) → ReadFault piece_fault fault → keeps_before fault ≡ true → (piece_fault ≡ Some (recv_refusal fault) → is_kept piece_batch.stage ≡ true) → IsDue (Some (recv_refusal fault))
  due_some fault told keeps stands =
      let first = first_is piece_fault fault told keeps in
      (first, ap (λ (b : Bool). b && is_kept piece_batch.stage) (sym (front_same piece_fault fault first told) ∙ keeps) ∙ stands first)

  -- what then comes of it
  abbrev follows : Option Refusal → Pool → Fed
  follows None next = Goes next piece_batch.stage
  follows (Some refusal) next = Stops next refusal

  committed_so : (first : Option Refusal) → IsDue first → fed_piece ask text piece stage running ≡ committed stage running (put piece_batch running) (follows first)
  committed_so None due = made ∙ ap (settled stage running piece_batch) due
  committed_so (Some refusal) due =
      made ∙ ap (settled stage running piece_batch) due.0
      ∙ ap (λ (b : Bool). cond b (committed stage running (put piece_batch running) (λ next. Stops next refusal)) (Stops (left_by stage running) refusal)) due.1

  pub gives : (first : Option Refusal) (next : Pool) → IsDue first → put piece_batch running ≡ Ok next → fed_piece ask text piece stage running ≡ follows first next
  gives first next due is = committed_so first due ∙ ap (λ (r : Result Pool Refusal). committed stage running r (follows first)) is

  refused_so : (first : Option Refusal) (refusal : Refusal) → IsDue first → put piece_batch running ≡ Err refusal → fed_piece ask text piece stage running ≡ Stops (left_by stage running) refusal
  refused_so first refusal due is = committed_so first due ∙ ap (λ (r : Result Pool Refusal). committed stage running r (follows first)) is

  fell_so : (refusal : Refusal) → piece_fault ≡ Some refusal → stays refusal ≡ false → fed_piece ask text piece stage running ≡ Stops (left_by stage running) refusal
  fell_so refusal is none =
      made ∙ ap (settled stage running piece_batch) is
      ∙ ap (λ (b : Bool). cond b (committed stage running (put piece_batch running) (λ next. Stops next refusal)) (Stops (left_by stage running) refusal)) none

  follows_pool : (first : Option Refusal) (next : Pool) → pool_of (follows first next) ≡ next
  follows_pool None next = refl
  follows_pool (Some refusal) next = refl

  -- ---- moments

  abbrev Between : (tight : Bool) → List ℕ → Type 0
  Between tight c = Reads tight (kept_of running) c ⊎ Reads tight (kept_of (pool_of (fed_piece ask text piece stage running))) c

  pub moments_before : (tight : Bool) (old now : DiskState) → Leaves old now (Reads tight (kept_of running)) → Leaves old now (Between tight)
  moments_before tight old now leaves = Leaves-weaker old now (Reads tight (kept_of running)) (Between tight) leaves (λ c is. inl is)

  pub moments_after : (tight : Bool) (old now : DiskState) (first : Option Refusal) → IsDue first
      → Leaves old now (λ c. Reads tight (kept_of running) c ⊎ ((next : Pool) × (put piece_batch running ≡ Ok next) × Reads tight (kept_of next) c)) → Leaves old now (Between tight)
  moments_after tight old now first due leaves =
      Leaves-weaker old now (λ c. Reads tight (kept_of running) c ⊎ ((next : Pool) × (put piece_batch running ≡ Ok next) × Reads tight (kept_of next) c)) (Between tight) leaves
      (λ c is. ⊎_elim (λ was. inl was)
      (λ after. inr (subst (λ (p : Pool). Reads tight (kept_of p) c) (sym (ap pool_of (gives first after.0 due after.1) ∙ follows_pool first after.0)) after.2)) is)

  -- ---- answers

  module _ (tight : Bool) (now : DiskState) (kept : PoolState) (recv : Recv) (rests : IsAtRest tight now kept (left_by stage running)) where
    stopped : (refusal : Refusal) → fed_piece ask text piece stage running ≡ Stops (left_by stage running) refusal → IsStopped tight now kept (fed_piece ask text piece stage running) refusal
    stopped refusal is = record { next = left_by stage running; definition_is = is; rests = rests }

    tame_some : (first : Option Refusal) (refusal : Refusal) → IfSome first IsTame → first ≡ Some refusal → IsTame refusal
    tame_some first refusal tame is = subst (λ (o : Option Refusal). IfSome o IsTame) is tame

    not_kept : (fault : RecvFault) → piece_fault ≡ Some (recv_refusal fault) → ReadFault piece_fault fault → (keeps_before fault && is_kept piece_batch.stage) ≡ false → stays (recv_refusal fault) ≡ false
    not_kept fault is told none = ap (λ (b : Bool). b && is_kept piece_batch.stage) (sym (front_same piece_fault fault is told)) ∙ none

    -- a piece that wasn't read leaves nothing behind
    pub fell : (fault : RecvFault) → ReadFault piece_fault fault → (piece_fault ≡ Some (recv_refusal fault) → (keeps_before fault && is_kept piece_batch.stage) ≡ false)
        → ((need largest : ℕ) → fault ≡ faults.Pool (pools.Full need largest) → largest < need) → FeedAnswer tight now kept recv text piece stage running (fed_piece ask text piece stage running) (Err fault)
    fell (faults.Pool (pools.Plan fault)) told none full =
        plan_told tight now kept text piece stage running (fed_piece ask text piece stage running) fault
        (tame_some piece_fault (refusal_of fault) (tame_piece ask running text piece (at_stage stage)) told)
        (stopped (refusal_of fault) (fell_so (refusal_of fault) told (not_kept (faults.Pool (pools.Plan fault)) told told (none told))))
    fell (faults.Pool (pools.CannotApply fault)) told none full = absurd told
    fell (faults.Pool (pools.Redacted object block)) told none full = absurd told
    fell (faults.Pool (pools.Full need largest)) told none full = (full need largest refl, rests)
    fell (faults.Pool (pools.Damaged sector stated found)) told none full = absurd told
    fell (faults.Pool pools.DiskFault) told none full = tt
    fell (faults.Pool pools.Failed) told none full = absurd told
    fell (faults.Pool pools.OutOfMemory) told none full = absurd told
    fell (faults.Stream fault) told none full = stopped (refusals.Stream fault) (fell_so (refusals.Stream fault) told (not_kept (faults.Stream fault) told told (none told)))
    fell (faults.CannotApply index fault) told none full =
        stopped (refusals.CannotApply index fault) (fell_so (refusals.CannotApply index fault) told (not_kept (faults.CannotApply index fault) told told (none told)))

  tame_err : (put : Result Pool Refusal) (refusal : Refusal) → IfErr put IsTame → put ≡ Err refusal → IsTame refusal
  tame_err put refusal tame is = subst (λ (r : Result Pool Refusal). IfErr r IsTame) is tame

  -- nor does one whose commit was refused
  module _ (tight : Bool) (now : DiskState) (kept : PoolState) (recv : Recv) (before : Type 0) (rests : before → IsAtRest tight now kept (left_by stage running)) (first : Option Refusal) (due : IsDue first) where
    pub unput : (fault : PoolFault) → CallFault before (put piece_batch running) fault → FeedAnswer tight now kept recv text piece stage running (fed_piece ask text piece stage running) (Err (faults.Pool fault))
    unput (pools.Plan fault) fell =
        plan_told tight now kept text piece stage running (fed_piece ask text piece stage running) fault
        (tame_err (put piece_batch running) (refusal_of fault) (tame_put piece_batch running) fell.0)
        (stopped tight now kept recv (rests fell.1) (refusal_of fault) (refused_so first (refusal_of fault) due fell.0))
    unput (pools.CannotApply fault) fell = absurd fell
    unput (pools.Redacted object block) fell = absurd fell
    unput (pools.Full need largest) fell = (fell.0, rests fell.2)
    unput (pools.Damaged sector stated found) fell = absurd fell
    unput pools.DiskFault fell = tt
    unput pools.Failed fell = absurd fell
    unput pools.OutOfMemory fell = rests fell

  -- the records before this fault stay, and the receive is over
  module _ (tight : Bool) (now : DiskState) (kept : PoolState) (recv : Recv) (next : Pool) (is : put piece_batch running ≡ Ok next) (rests : IsAtRest tight now kept next) where
    kept_before : (fault : RecvFault) → ReadFault piece_fault fault → keeps_before fault ≡ true → piece_fault ≡ Some (recv_refusal fault) → is_kept piece_batch.stage ≡ true
        → IsStopped tight now kept (fed_piece ask text piece stage running) (recv_refusal fault)
    kept_before fault told keeps first stands =
        let due : stays (recv_refusal fault) ≡ true = ap (λ (b : Bool). b && is_kept piece_batch.stage) (sym (front_same piece_fault fault first told) ∙ keeps) ∙ stands in
        record { next = next; definition_is = gives (Some (recv_refusal fault)) next (first, due) is; rests = rests }

    pub stopped_behind : (fault : RecvFault) → ReadFault piece_fault fault → keeps_before fault ≡ true → (piece_fault ≡ Some (recv_refusal fault) → is_kept piece_batch.stage ≡ true)
        → FeedAnswer tight now kept recv text piece stage running (fed_piece ask text piece stage running) (Err fault)
    stopped_behind (faults.Pool (pools.Plan fault)) told keeps stands =
        plan_told tight now kept text piece stage running (fed_piece ask text piece stage running) fault
        (subst (λ (o : Option Refusal). IfSome o IsTame) told (tame_piece ask running text piece (at_stage stage)))
        (kept_before (faults.Pool (pools.Plan fault)) told keeps told (stands told))
    stopped_behind (faults.Pool (pools.CannotApply fault)) told keeps stands = absurd told
    stopped_behind (faults.Pool (pools.Redacted object block)) told keeps stands = absurd told
    stopped_behind (faults.Pool (pools.Full need largest)) told keeps stands = absurd cc
    stopped_behind (faults.Pool (pools.Damaged sector stated found)) told keeps stands = absurd told
    stopped_behind (faults.Pool pools.DiskFault) told keeps stands = absurd cc
    stopped_behind (faults.Pool pools.Failed) told keeps stands = absurd told
    stopped_behind (faults.Pool pools.OutOfMemory) told keeps stands = absurd told
    stopped_behind (faults.Stream fault) told keeps stands = kept_before (faults.Stream fault) told keeps told (stands told)
    stopped_behind (faults.CannotApply index fault) told keeps stands = kept_before (faults.CannotApply index fault) told keeps told (stands told)
